use Rattle.std.proofs.Common.{◌≡◌, length, map}
use Rattle.std.specs.Char.{to_ascii_lowercase}
use Rattle.version_order.specs.keys.Lists.{bytes_cmp}
use Rattle.scheme_pypi.proofs.compare.compare_texts.Given as goal

abbrev pub invariant-bytes : goal.invariant-bytes
invariant-bytes l =
    bytes_cmp (map to_ascii_lowercase l.a) (map to_ascii_lowercase l.b)
    ≡ bytes_cmp (map to_ascii_lowercase l.fn.x) (map to_ascii_lowercase l.fn.y)

abbrev pub decreases-bytes : goal.decreases-bytes
decreases-bytes l = length l.a
