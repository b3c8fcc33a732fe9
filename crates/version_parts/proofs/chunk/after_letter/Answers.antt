use Rattle.std.proofs.Common.{◌≡◌, ◌<◌, true, arith, get_or, length, sym}
use Rattle.std.proofs.lemmas.Str.{IsCharBoundary-after_ascii}
use Rattle.std.specs.Char.{is_ascii_alphabetic}
use Rattle.version_parts.proofs.lemmas.Scans.{letter_ascii}
use Rattle.version_parts.proofs.chunk.after_letter.Goals as goal

pub split_at-requires : goal.split_at-requires
split_at-requires c =
    let letter : is_ascii_alphabetic (get_or c.args.text.now 0 0) ≡ true =
    sym (rw c.as_bytes.ensures.value at (c.if-is_ascii_alphabetic.ensures.value)) in
    let some : 0 < length c.args.text.now = omega arith in
    IsCharBoundary-after_ascii c.args.text.now 0 c.utf8.text some (letter_ascii _ letter)
