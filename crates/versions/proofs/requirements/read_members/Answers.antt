use Rattle.std.proofs.Common.{◌≡◌, ◌∙◌, Some, None, lit<, map, sym, ap}
use Rattle.std.proofs.lemmas.{Iterator.Consumers.YieldsList-end, Iterator.Consumers.YieldsList-turn, Iterator.Splits.YieldsList-from_str_split, List.map-append}
use Rattle.versions.specs.Requirements.{plain_requirement}
use Rattle.version_rules.specs.requirement.{Requirement.requirement_of, Requirements.every}
use Rattle.version_rules.proofs.lemmas.Requirement.{every_push, requirements_of-stops}
use Rattle.versions.proofs.requirements.read_members.Goals as goal

pub returns-in_default : goal.returns-in_default
returns-in_default c =
    let same = c.into_iter-member-iterator.ensures.into_iter_gives in
    let cut = c.split-member-items.ensures in
    let members =
    YieldsList-from_str_split 44 c.args.s.now (lit< tt) (rw same cut.text)
    (rw same cut.has_more) (rw same cut.pattern) in
    let turn = YieldsList-turn members c.loop-member.yielded _ c.loop-member.yielded_by _ _
    c.in-Some.member c.in-Some.is c.next.ensures.steps in
    let none : requirement_of c.in-Some.member.now ≡ None =
    sym (rw c.in_default.is at c.in_ok-requirement.ensures.exact) in
    sym (requirements_of-stops c.args.s.now _ _ turn.0 (ap requirement_of (sym turn.1) ∙ none))

pub loop-member-preserved : goal.loop-member-preserved
loop-member-preserved c =
    let read : requirement_of c.in-Some.member.now
    ≡ Some (plain_requirement c.in-Some-2.requirement) =
    sym (rw c.in-Some-2.is at c.in_ok-requirement.ensures.exact) in
    rw (
      c.in_ok-push.ensures.items,
      map-append plain_requirement c.loop-member.list.items,
      map-append (λ member. member.now) c.loop-member.yielded,
    )
    (every_push requirement_of
    (map (λ member. member.now) c.loop-member.yielded) c.in-Some.member.now _ _
    c.loop-member.invariant read)

pub returns : goal.returns
returns c =
    let same = c.into_iter-member-iterator.ensures.into_iter_gives in
    let cut = c.split-member-items.ensures in
    let members =
    YieldsList-from_str_split 44 c.args.s.now (lit< tt) (rw same cut.text)
    (rw same cut.has_more) (rw same cut.pattern) in
    let end = YieldsList-end members c.loop-member.yielded _ c.loop-member.yielded_by _ _
    c.in-None.is c.next.ensures.steps in
    sym c.loop-member.invariant ∙ ap (λ texts. every (map requirement_of texts)) end.0
