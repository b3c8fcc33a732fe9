use Rattle.std.proofs.Common.{◌≡◌, ◌<◌, arith, get_or, length}
use Rattle.std.proofs.lemmas.Str.{IsCharBoundary-after_ascii}
use Rattle.version_parts.proofs.scan.after_mark.Goals as goal

pub split_at-requires : goal.split_at-requires
split_at-requires c =
    let mark : get_or c.args.i.now 0 0 ≡ c.args.mark =
    rw c.as_bytes.ensures.value at c.if-first-mark.true in
    let first : get_or c.args.i.now 0 0 < 128 = omega arith in
    let some : 0 < length c.args.i.now = omega arith in
    IsCharBoundary-after_ascii c.args.i.now 0 c.utf8.i some first
