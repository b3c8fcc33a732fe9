use Rattle.std.proofs.Common.{◌≡◌, ◌∙◌, [], ℕ, List, Bor, ap, length, map, rules, sym}
use Rattle.std.proofs.lemmas.{Bool.false≢true, List.nil_from_length, Result.IfErr-weaker, Result.IfOk-weaker}
use Rattle.version_commands.proofs.lemmas.Each.{all-are, line-texts, word-texts}
use Rattle.version_commands.specs.Each.{others_among}
use Rattle.version_commands.proofs.words.each.answer_each.Goals as goal

pub returns-in_ok-input : goal.returns-in_ok-input
returns-in_ok-input g c =
    let options = c.args.options.now in
    let nothing : length options.versions.items ≡ 0 = search (rules, c.if-is_empty.ensures) in
    let nil : options.versions.items ≡ [] = nil_from_length _ nothing in
    let texts : List (Bor (List ℕ)) → List (List ℕ) = map (λ word. word.now) in
    record {
      output = IfOk-weaker c.answer_lines.result _ _
          (λ answered (answers, are, whole). record {
            texts = _;
            head = c.in_ok-asked.asked.head.items;
            answers = answers;
            texts_are = line-texts c.args.question options _ _ c.as_slice.result.now nil (search rules) c.in_ok-input.ensures.end;
            head_is = c.in_ok-asked.ensures.head;
            answers_are = are;
            output_is = whole;
          })
          c.answer_lines.ensures.answers;
      others = IfOk-weaker c.answer_lines.result _ _
          (λ answered none. ap texts none
          ∙ ap (λ (words : List (Bor (List ℕ))). others_among c.args.question options.naming (texts words)) (sym nil))
          c.answer_lines.ensures.others;
      all = IfOk-weaker c.answer_lines.result _ _
          (λ answered none. all-are c.args.question options [] answered.others.items (sym nil) (ap texts none))
          c.answer_lines.ensures.others;
      unread = search rules;
      early = IfErr-weaker c.answer_lines.result _ _ (λ fault isnt is. absurd (false≢true (sym isnt ∙ is)))
          c.answer_lines.ensures.early;
      asked = search rules;
      faults = c.answer_lines.ensures.faults (g.R.Source.may_fail c.args.reader.now) (g.R.Source.remaining c.args.reader.now)
          (g.R.Source.remaining c.read_standard.new.reader) (search rules) c.in_ok-input.ensures.end;
    }

pub returns-else-is_empty : goal.returns-else-is_empty
returns-else-is_empty g c =
    let options = c.args.options.now in
    let same : c.as_slice-else-is_empty.result.now ≡ options.versions.items = search rules in
    record {
      output = IfOk-weaker c.answer_words.result _ _
          (λ answered (answers, are, whole). record {
            texts = _;
            head = c.in_ok-asked.asked.head.items;
            answers = answers;
            texts_are = word-texts c.args.question options _ c.as_slice-else-is_empty.result.now same (search rules);
            head_is = c.in_ok-asked.ensures.head;
            answers_are = are;
            output_is = whole;
          })
          c.answer_words.ensures.answers;
      others = rw same at c.answer_words.ensures.others;
      all = IfOk-weaker c.answer_words.result _ _
          (λ answered are. all-are c.args.question options c.as_slice-else-is_empty.result.now answered.others.items same are)
          c.answer_words.ensures.others;
      unread = search rules;
      early = search rules;
      asked = search rules;
      faults = c.answer_words.ensures.faults (g.R.Source.may_fail c.args.reader.now) (g.R.Source.remaining c.args.reader.now);
    }
