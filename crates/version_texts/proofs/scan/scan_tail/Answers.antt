use Rattle.std.proofs.Common.{arith}
use Rattle.version_texts.proofs.lemmas.scan.{Section.is_hyphen, Tail.hyphen_end, Tail.hyphen_tail}
use Rattle.version_texts.proofs.scan.scan_tail.Goals as goal

pub returns-then-next-eq-HYPHEN : goal.returns-then-next-eq-HYPHEN
returns-then-next-eq-HYPHEN c = grind (arith, is_hyphen, hyphen_end, hyphen_tail)
