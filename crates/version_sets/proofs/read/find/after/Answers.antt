use Rattle.std.proofs.Common.{◌≡◌, ◌∙◌, ◌+◌, ap, length, refl, sym}
use Rattle.version_sets.specs.Reading.{Member, Reading, Right, Wrong, after_step, answered, fault_of, next_alternative, with_member}
use Rattle.version_sets.specs.declared.read.steps.State.TheVariants.{Come, Wanted}
use Rattle.version_sets.proofs.read.find.after.Goals as goal

one_more : (member : Member) (rest : Reading) → fault_of (with_member member rest) ≡ fault_of rest
one_more member (Wrong place reason) = refl
one_more member (Right first others) = refl

another : (rest : Reading) → fault_of (next_alternative rest) ≡ fault_of rest
another (Wrong place reason) = refl
another (Right first others) = refl

pub returns-in-Wrong-clause-err : goal.returns-in-Wrong-clause-err
returns-in-Wrong-clause-err g c rest =
    ap (after_step g.V.SchemeVersion.rules.read_as g.V.SchemeVersion.rules.facts.operators rest) (sym c.in-Wrong.ensures)

pub returns-in-Goes-clause-ok : goal.returns-in-Goes-clause-ok
returns-in-Goes-clause-ok g c rest =
    ap (λ s. fault_of (after_step g.V.SchemeVersion.rules.read_as g.V.SchemeVersion.rules.facts.operators rest s)) (sym c.in-Goes.ensures)

pub returns-in-Closes-clause-ok : goal.returns-in-Closes-clause-ok
returns-in-Closes-clause-ok g c rest =
    ap (λ s. fault_of (after_step g.V.SchemeVersion.rules.read_as g.V.SchemeVersion.rules.facts.operators rest s)) (sym c.in-Closes.ensures)
    ∙ another (rest Wanted)

pub returns-in-All-clause-ok : goal.returns-in-All-clause-ok
returns-in-All-clause-ok g c rest =
    ap (λ s. fault_of (after_step g.V.SchemeVersion.rules.read_as g.V.SchemeVersion.rules.facts.operators rest s)) (sym c.in-All.ensures)
    ∙ one_more _ (rest Come)

pub returns-in-Ok-clause-ok : goal.returns-in-Ok-clause-ok
returns-in-Ok-clause-ok g c rest =
    let V = g.V.SchemeVersion in
    ap (λ s. fault_of (after_step V.rules.read_as V.rules.facts.operators rest s)) (sym c.in-Asks.ensures)
    ∙ ap (λ a. fault_of (answered V.rules.read_as V.rules.facts.operators c.in-Asks.field-1 c.in-Asks.place
    (c.in-Asks.place + length c.in-Asks.text.now) a (rest Come))) (sym c.in-Ok.ensures.asked)
    ∙ one_more _ (rest Come)

pub returns-in-Err-clause-err : goal.returns-in-Err-clause-err
returns-in-Err-clause-err g c rest =
    let V = g.V.SchemeVersion in
    ap (after_step V.rules.read_as V.rules.facts.operators rest) (sym c.in-Asks.ensures)
    ∙ ap (λ a. answered V.rules.read_as V.rules.facts.operators c.in-Asks.field-1 c.in-Asks.place
    (c.in-Asks.place + length c.in-Asks.text.now) a (rest Come)) (sym c.in-Err.ensures.asked)
