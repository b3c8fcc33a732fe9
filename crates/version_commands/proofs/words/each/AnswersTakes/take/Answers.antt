use Rattle.std.proofs.Common.{◌++◌, ◌∷◌, [], ℕ, Bool, List, map, sym, subst, ap, ◌∙◌}
use Rattle.std.proofs.lemmas.{List.map_push, Result.on_ok_weaker}
use Rattle.version_commands.specs.{Each.HaveAnswered}
use Rattle.version_runs.specs.Place.{line_text}
use Rattle.version_commands.proofs.words.each.AnswersTakes.take.Goals as goal

pub returns-clause-taken : goal.returns-clause-taken
returns-clause-taken c = on_ok_weaker c.add.result
    (λ more first lines have.
    let text = line_text first.crlf in
    let line = c.args.line.now in
    subst (HaveAnswered first c.add.new.self)
    (ap (λ (t : List ℕ). map text lines ++ t ∷ [])
    (c.line_text.ensures ∙ ap (λ (crlf : Bool). line_text crlf line) have.crlf_is)
    ∙ sym (map_push text lines line))
    (more first (map text lines) have)) c.add.ensures.answers
