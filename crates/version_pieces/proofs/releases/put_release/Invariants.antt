use Rattle.std.proofs.Common.{◌≡◌, length, true}
use Rattle.std.specs.List.{list_all}
use Rattle.version_order.specs.texts.Bytes.{is_metadata_byte}
use Rattle.version_rules.specs.order.Parts.{release_bytes}
use Rattle.version_pieces.specs.Pieces.{chunks_of}
use Rattle.version_order.proofs.lemmas.Sinks.{Owes}
use Rattle.version_pieces.proofs.releases.put_release.Given as goal

-- the bytes of the chunks that are left are to be written
abbrev pub invariant-chunks : goal.invariant-chunks
invariant-chunks g l =
    Owes g.S.Sink.takes g.S.Sink.fits l.fn.sink (release_bytes (chunks_of l.fn.text)) l.sink
    (release_bytes (chunks_of l.left))
    × (list_all is_metadata_byte l.left ≡ true)

abbrev pub decreases-chunks : goal.decreases-chunks
decreases-chunks g l = length l.left
