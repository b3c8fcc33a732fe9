use Rattle.std.proofs.Common.{◌<◌, arith, length, sym}
use Rattle.std.proofs.lemmas.Str.{IsCharBoundary-after_ascii}
use Rattle.version_parts.proofs.lemmas.Scans.{sep_ascii}
use Rattle.version_parts.proofs.scan.sign.Goals as goal

pub split_at-requires : goal.split_at-requires
split_at-requires c =
    let some : 0 < length c.args.i.now = omega arith in
    IsCharBoundary-after_ascii c.args.i.now 0 c.utf8.i some
    (sep_ascii _ _ (sym (rw c.as_bytes.ensures.value at c.in_ok-of-in-len1-up.ensures)))
