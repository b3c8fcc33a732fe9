use Rattle.std.proofs.Common.{arith}
use Rattle.version_texts.proofs.lemmas.versioning_ref.{Numbers.messy_nth, VersioningRef.shape_fits}
use Rattle.version_texts.proofs.versioning_ref.numbers.nth.Goals as goal

pub body_at-requires : goal.body_at-requires
body_at-requires c = shape_fits _ _ c.requires

pub returns-in-Complex : goal.returns-in-Complex
returns-in-Complex c = grind (arith, messy_nth)
