use Rattle.std.proofs.Common.{◌≡◌, [], None, true, map, sym, ap, ◌∙◌, rules}
use Rattle.std.proofs.lemmas.Result.{IfErr-weaker, IfOk-weaker}
use Rattle.version_commands.specs.{lines.Picked.bad_lines, lines.Picked.kept_of}
use Rattle.version_runs.specs.Place.{place_of, line_text, reads_of}
use Rattle.version_lines.specs.{Inputs.lines_left, Inputs.plain_line, Inputs.texts_of, Lines.lines_of, Lines.plain_end, Sort.version_in, declared.lines.LineEnd.LineEnd}
use Rattle.version_commands.proofs.lemmas.{Each.answering-early, Each.asking-answering, Each.line-texts, Files.numbered-texts}
use Rattle.version_commands.proofs.lemmas.Picked.{all-kept}
use Rattle.version_commands.proofs.words.each.answer_lines.Goals as goal

pub returns : goal.returns
returns c =
    let options = c.args.options.now in
    let lines = lines_of (plain_end options.end) c.args.input.now in
    let left = lines_left c.of-lines.result in
    let versions = version_in (reads_of (place_of c.args.question options.naming options.crlf)) in
    let none : bad_lines versions left ≡ [] =
    sym c.in_ok-picked.ensures.bad ∙ ap (map plain_line) (sym c.as_slice.ensures.value ∙ c.in_ok-refuse_first.ensures.none) in
    let all : kept_of versions (λ w. true) left ≡ lines =
    all-kept versions left none ∙ ap texts_of c.of-lines.ensures ∙ numbered-texts None 0 _
    ∙ ap (λ (e : LineEnd). lines_of e c.args.input.now) c.plain.ensures in
    let have = rw all at c.in_ok-picked.ensures.taken in
    let texts = map (line_text options.crlf) lines in
    record {
      answers = IfOk-weaker c.finish.result _ _ (λ output adds. adds _ _ have) c.finish.ensures.answers;
      others = search rules;
      early = IfErr-weaker c.finish.result _ _
          (λ fault comes. answering-early c.args.question options.naming options.end texts fault (comes _ _ have))
          c.finish.ensures.faults;
      faults = λ fails old new read end. IfErr-weaker c.finish.result _ _
          (λ fault comes. asking-answering c.args.question options fails old new texts
          (line-texts c.args.question options old new c.args.input.now c.requires.words read end) fault (comes _ _ have))
          c.finish.ensures.faults;
    }
