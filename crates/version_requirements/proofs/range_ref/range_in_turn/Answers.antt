use Rattle.std.proofs.Common.{◌∙◌, ap, sym}
use Rattle.std.specs.Option.{option_map}
use Rattle.version_rules.specs.requirement.Range.{common}
use Rattle.version_requirements.proofs.lemmas.RangeRef.{narrowed, narrowed_further}
use Rattle.version_requirements.specs.{Requirement.list_of, Requirement.pieces_of, Requirement.plain_requirement_ref}
use Rattle.version_requirements.specs.Range.{plain_range_ref}
use Rattle.version_requirements.proofs.range_ref.range_in_turn.Goals as goal

pub loop-member-preserved : goal.loop-member-preserved
loop-member-preserved c =
    let range = plain_range_ref c.loop-member.range in
    narrowed_further range (plain_range_ref c.common-range.result) c.in-Some.member.now
    (pieces_of c.next.new.self.left) (plain_requirement_ref c.in_ok-member.member)
    c.in_ok-member.ensures (c.common-range.ensures ∙ ap (common range) c.of.ensures)
    ∙ ap (λ pieces. option_map (narrowed range) (list_of pieces)) (sym c.in-Some.ensures.some)
    ∙ c.loop-member.invariant
