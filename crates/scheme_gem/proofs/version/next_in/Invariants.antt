use Rattle.std.proofs.Common.{◌≡◌, ◌+◌, ◌≤◌, length}
use Rattle.scheme_gem.specs.Segments.{entries_after, entries_in, segments_of}
use Rattle.scheme_gem.proofs.version.next_in.Given as goal

-- the entries are those of what is left, after the zeros so far
abbrev pub invariant-bytes : goal.invariant-bytes
invariant-bytes l =
    (entries_in l.fn.lettered l.fn.text ≡ entries_after l.fn.lettered l.zeros (segments_of l.left))
    × (l.zeros + length l.left ≤ length l.fn.text)

abbrev pub decreases-bytes : goal.decreases-bytes
decreases-bytes l = length l.left
