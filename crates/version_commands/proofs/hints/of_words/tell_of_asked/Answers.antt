use Rattle.std.proofs.Common.{◌≡◌, ◌∙◌, Bor, true, List, ℕ, ap, rules, subst}
use Rattle.std.specs.List.{list_any}
use Rattle.version_commands.proofs.lemmas.Hints.{if-tags, tags-of-each}
use Rattle.version_commands.specs.{Hints.is_kept_otherwise, lines.Choice.is_of}
use Rattle.version_runs.specs.Place.{spelling_of}
use Rattle.version_runs.specs.{declared.options.Question.Question}
use Rattle.version_answers.specs.{Tags.is_bare, declared.spelling.Spelling.Spelling}
use Rattle.version_sets.specs.Form.{has}
use Rattle.version_commands.proofs.hints.of_words.tell_of_asked.Goals as goal

pub tell_of_set-requires : goal.tell_of_set-requires
tell_of_set-requires g c =
    let options = c.args.options.now in
    let set = c.args.set.now in
    let words = c.as_slice.result.now in
    let spelling_is = c.spelling-spelling.ensures
    ∙ ap (λ (q : Question). spelling_of q options.naming) c.in-Why.is in
    record {
      hints = λ hint so. c.requires.hints hint (tags-of-each c.args.question options hint
          (if-tags (λ is. rw c.in-Why.is (
            has set,
            search rules,
            subst (λ (s : Spelling). is_bare s.naming ≡ true) spelling_is is.0,
            subst (λ (s : Spelling). list_any (λ (word : Bor (List ℕ)). is_kept_otherwise (is_of (has set)) s.scheme word.now)
                options.versions.items ≡ true) spelling_is
                (subst (λ (l : List (Bor (List ℕ))).
                list_any (λ (word : Bor (List ℕ)). is_kept_otherwise (is_of (has set)) c.spelling-spelling.result.scheme word.now) l
                ≡ true) c.as_slice.ensures.value is.1),
          )) hint so));
    }
