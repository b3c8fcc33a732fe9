use Rattle.std.proofs.Common.{◌≡◌, ◌∙◌, ◌++◌, ◌∷◌, [], Bool, None, refl, rules, sym, subst}
use Rattle.version_answers.specs.{One.Adds, Spelling.named_text}
use Rattle.version_commands.specs.{Each.HaveAnswered, Each.IsAnswer, declared.words.each.Answers.Answers}
use Rattle.version_runs.specs.Place.{scheme_of}
use Rattle.version_schemes.specs.any.AnyVersion.{plain_any}
use Rattle.version_schemes.proofs.lemmas.Any.{is_of}
use Rattle.version_commands.proofs.lemmas.Each.{have-next, have-none, have-still}
use Rattle.version_commands.proofs.words.each.Answers.add.Goals.{else-is_none-via-then-is_none+in_ok-answer+else-not-branch, else-is_none-via-else-is_none}
use Rattle.version_commands.proofs.words.each.Answers.add.Goals as goal

pub returns-else-is_none-clause-answers : goal.returns-else-is_none-clause-answers
returns-else-is_none-clause-answers c = λ first texts have.
    let now = c.args.self.now in
    elim c.else-is_none.branch [
      | else-is_none-via-then-is_none+in_ok-answer+else-not-branch w ↦
          let none : now.unanswered ≡ None = search rules in
          subst (λ (a : Answers). HaveAnswered first a (texts ++ c.args.text.now ∷ []))
          (sym w.self-is)
          (have-next first now _ texts c.args.text.now (plain_any c.args.version.now)
          have none c.requires.version
          (subst (λ (found : Bool). Adds
          (IsAnswer now.question now.naming now.end c.args.text.now (plain_any c.args.version.now) found)
          now.output.items w.answer.new.self.output.items)
          w.if-not-branch.false w.in_ok-answer.ensures.answer) w.in_ok-answer.ensures.question w.in_ok-answer.ensures.naming
          w.in_ok-answer.ensures.end w.in_ok-answer.ensures.crlf (w.in_ok-answer.ensures.unanswered ∙ none))
      | else-is_none-via-else-is_none w ↦
          subst (λ (a : Answers). HaveAnswered first a (texts ++ c.args.text.now ∷ []))
          (sym w.self-is)
          (have-still first now texts c.args.text.now have w.if-is_none.ensures)
    ]

pub returns-then-not-branch-clause-answers : goal.returns-then-not-branch-clause-answers
returns-then-not-branch-clause-answers c = λ first texts have.
    let now = c.args.self.now in
    let none : now.unanswered ≡ None = search rules in
    have-none first now _ texts c.args.text (plain_any c.args.version.now) have none c.requires.version
    (subst (λ (found : Bool). Adds
    (IsAnswer now.question now.naming now.end c.args.text.now (plain_any c.args.version.now) found)
    now.output.items c.answer.new.self.output.items)
    c.if-not-branch.true c.in_ok-answer.ensures.answer) c.in_ok-answer.ensures.question c.in_ok-answer.ensures.naming
    c.in_ok-answer.ensures.end c.in_ok-answer.ensures.crlf refl

pub answer-requires-clause-scheme : goal.answer-requires-clause-scheme
answer-requires-clause-scheme c =
    (is_of (scheme_of c.args.self.now.question) (named_text c.args.self.now.naming c.args.text.now) _ c.requires.version).scheme_is
