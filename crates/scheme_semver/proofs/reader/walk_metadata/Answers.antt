use Rattle.std.proofs.Common.{◌∙◌, sym}
use Rattle.version_order.proofs.lemmas.Viable.Walks.{stops_before, stops_cut, stops_passes}
use Rattle.scheme_semver.proofs.reader.walk_metadata.Goals as goal

pub returns-then-not-stop : goal.returns-then-not-stop
returns-then-not-stop c = stops_cut _ _ _ _ c.walk_section-stop.ensures c.if-not-stop.true

pub returns-then-is_empty : goal.returns-then-is_empty
returns-then-is_empty c =
    stops_passes _ _ _ _ c.walk_section-stop.ensures c.if-not-stop.false (sym c.is_empty.ensures ∙ c.if-is_empty.true)

pub returns-else-is_empty : goal.returns-else-is_empty
returns-else-is_empty c =
    stops_before _ _ _ _ c.walk_section-stop.ensures (sym c.is_empty.ensures ∙ c.if-is_empty.false)
