use Rattle.std.proofs.Common.{Some, ◌∙◌, ap}
use Rattle.version_requirements.proofs.lemmas.RangeRef.{both_parse}
use Rattle.version_requirements.specs.Range.{plain_range_ref}
use Rattle.version_requirements.proofs.range_ref.RangeRef.+from_bytes.Goals as goal

pub returns : goal.returns
returns t c =
    ap Some c.common.ensures
    ∙ both_parse c.args.list.now c.in-Some.front.now c.in-Some.behind.now c.in-Some.ensures
    (plain_range_ref c.in_ok-range.range) (plain_range_ref c.in_ok-from_bytes.field-0)
    c.in_ok-range.ensures c.in_ok-from_bytes.ensures
