use Rattle.std.proofs.Common.{inr, refl, subst}
use Rattle.version_commands.specs.Each.{AnsweredOr}
use Rattle.version_commands.proofs.words.each.Answers.finish.Goals as goal

pub returns-clause-faults : goal.returns-clause-faults
returns-clause-faults c = λ first texts have.
    let first_without = subst
    (AnsweredOr first.question first.naming first.end first.output.items texts c.args.self.output.items)
    c.in-Some.is have.answers_are in
    inr (_, refl, (c.in-Some.text.now, first_without, c.in_ok-quoted-in-Some.ensures))
