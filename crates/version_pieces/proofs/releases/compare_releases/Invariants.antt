use Rattle.std.proofs.Common.{◌≡◌, length}
use Rattle.version_rules.specs.order.Parts.{release_cmp}
use Rattle.version_pieces.specs.Pieces.{chunks_of}
use Rattle.version_pieces.proofs.releases.compare_releases.Given as goal

-- the chunks so far are equal, and what is left decides
abbrev pub invariant-chunks : goal.invariant-chunks
invariant-chunks l =
    release_cmp (chunks_of l.a) (chunks_of l.b) ≡ release_cmp (chunks_of l.x) (chunks_of l.y)

abbrev pub decreases-chunks : goal.decreases-chunks
decreases-chunks l = length l.a
