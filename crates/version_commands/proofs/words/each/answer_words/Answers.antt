use Rattle.std.proofs.Common.{◌≡◌, Bool, ◌≢◌, ◌<◌, ◌≤◌, ◌++◌, ◌+◌, ◌-◌, refl, ◌∷◌, [], ℕ, List, Bor, Some, true, false, not, length, map, get_or, take, inr, rules, sym, subst, ap, ◌∙◌, arith}
use borrow.Author.Tests.{ltb-true}
use Rattle.std.proofs.lemmas.{List.take_all, Result.IfErr-weaker, Result.IfOk-weaker}
use Rattle.version_commands.specs.Each.{HasSet, HaveAnswered, is_version, version_asked, versions_among}
use Rattle.version_runs.specs.declared.options.Question.{Question}
use Rattle.version_schemes.specs.any.AnyVersion.{plain_any}
use Rattle.version_commands.proofs.lemmas.Each.{among-next, among-still, asking-answering, last-apart, none-is, ok-asked, some-is, still-held, word-texts}
use Rattle.version_commands.proofs.words.each.answer_words.Goals.{in-Some+in_ok-add-in-Some, in-None+in_ok-add_other-in-None, in_default-via-then-words-lt1, in_default-via-in-len1-up+else-len-words}
use Rattle.version_commands.proofs.words.each.answer_words.Goals as goal

pub loop-word-preserved : goal.loop-word-preserved
loop-word-preserved g c =
    let (list, have, apart) = c.loop-word.invariant in
    let question = c.args.question in
    let naming = c.args.options.now.naming in
    let words = c.args.words.now in
    let i = c.loop-word.word-index in
    let d : Bor (List ℕ) = record { ref_ptr = (0, 0); now = [] } in
    let inside : i < length words = search rules in
    let passes = is_version question naming in
    let fails : List ℕ → Bool = λ text. not (is_version question naming text) in
    let among = versions_among question naming (map (λ (word : Bor (List ℕ)). word.now) (take (i + 1) words)) in
    elim c.match-version.branch [
      | in-Some+in_ok-add-in-Some w ↦
          let text : w.as_bytes-in-Some.result.now ≡ (get_or words i d).now = search rules in
          let here : version_asked question naming w.as_bytes-in-Some.result.now
          ≡ Some (plain_any w.in-Some.version) = search rules in
          let is : is_version question naming (get_or words i d).now ≡ true =
          subst (λ (t : List ℕ). is_version question naming t ≡ true) text (rw here refl) in
          let held = still-held _ w.add.new.self _ among w.answers-is
          (subst (λ (q : Question). HasSet q w.add.new.self.set) (sym w.in_ok-add-in-Some.ensures.question)
          (subst (HasSet c.loop-word.answers.question) (sym w.in_ok-add-in-Some.ensures.set) list))
          (subst (HaveAnswered _ w.add.new.self)
          (ap (λ (t : List ℕ). versions_among question naming
          (map (λ (word : Bor (List ℕ)). word.now) (take i words)) ++ t ∷ []) text
          ∙ sym (among-next passes words i d inside is))
          (w.in_ok-add-in-Some.ensures.answers _ _ have)) in
          (held.0, held.1, rw w.others-is (apart ∙ sym (among-still fails words i d inside (rw is refl))))
      | in-None+in_ok-add_other-in-None w ↦
          let isnt : is_version question naming (get_or words i d).now ≡ false = search rules in
          let held = still-held _ c.loop-word.answers _ among w.answers-is list
          (subst (HaveAnswered _ c.loop-word.answers)
          (sym (among-still passes words i d inside isnt)) have) in (
            held.0,
            held.1,
            rw w.others-is (w.in_ok-add_other-in-None.ensures
                ∙ ap (λ (l : List (List ℕ)). l ++ (get_or words i d).now ∷ []) apart
                ∙ sym (among-next fails words i d inside (rw isnt refl))),
          )
    ]

pub returns-in-len1-up-clause-faults : goal.returns-in-len1-up-clause-faults
returns-in-len1-up-clause-faults g c = λ fails old.
    let (list, have, apart) = c.loop-word.invariant in
    let words = c.args.words.now in
    let d : Bor (List ℕ) = record { ref_ptr = (0, 0); now = [] } in
    let all : take c.loop-word.word-index words ≡ words =
    take_all c.loop-word.word-index words (search rules) in
    let some : 1 ≤ length words = omega (arith, c.requires.some) in
    let many : length c.loop-word.others.items ≡ length words = search rules in (
      search rules,
      none-is c.args.question c.args.options.now words c.loop-word.others.items c.requires.words (rw all at apart) many,
      map (λ (word : Bor (List ℕ)). word.now) (take (length words - 1) words),
      rw (← c.requires.words) (last-apart words d some),
    )

pub returns : goal.returns
returns g c =
    let (list, have, apart) = c.loop-word.invariant in
    let words = c.args.words.now in
    let all : take c.loop-word.word-index words ≡ words =
    take_all c.loop-word.word-index words (search rules) in
    let fewer : length c.loop-word.others.items ≢ length words = elim c.in_default.branch [
      | in_default-via-then-words-lt1 w ↦
          absurd (omega (arith, c.requires.some, ltb-true (length words) 1 w.if-words-lt1-1.true))
      | in_default-via-in-len1-up+else-len-words w ↦
          λ same. w.if-len-words.false (first_of (search (rules, same), omega (arith, same, c.loop-word.others.ok.0)))
    ] in
    record {
      answers = IfOk-weaker c.finish.result _ _ (λ answered adds. adds _ _ (rw all at have)) c.finish.ensures.answers;
      others = IfOk-weaker c.finish.result _ _ (λ answered same. rw same (rw all at apart)) c.finish.ensures.others;
      asked = ok-asked c.finish.result _ (inr (some-is c.args.question c.args.options.now words c.loop-word.others.items
          c.requires.words (rw all at apart) fewer));
      faults = λ fails old. IfErr-weaker c.finish.result _ _
          (λ fault comes. asking-answering c.args.question c.args.options.now fails old old _
          (word-texts c.args.question c.args.options.now old words c.requires.words c.requires.some) fault
          (comes _ _ (rw all at have)))
          c.finish.ensures.faults;
    }
