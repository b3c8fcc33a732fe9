-- Answers that follow one another, and the texts that are asked.
use Rattle.std.proofs.Common.{◌≡◌, ◌≢◌, ◌==◌, ◌<◌, ℕ, suc, Bool, true, false, not, Bor, List, [], ◌∷◌, ◌++◌, ◌+◌, ◌-◌, ◌≤◌, get_or, length, map, take, Option, None, Some, is_some, Result, Ok, Err, OnOk, inl, inr, refl, sym, subst, ap, ◌∙◌, arith, append-nil, append_assoc}
use Rattle.std.proofs.lemmas.{Bool.cases_Bool, Bool.ne_eqb, List.length-map, List.take_all, List.Elements.filter-append, List.Filters.length-filter_both}
use Rattle.std.specs.{Io.KnownBytes.Consumes, Io.KnownBytes.IsAtEnd, List.filter, List.list_all, List.list_any}
use Rattle.version_answers.proofs.lemmas.One.{texts-next}
use Rattle.version_commands.specs.Each.{AnsweredOr, AreAnswered, AreTexts, HasNoNext, HasSet, HaveAnswered, IsAnswer, are_versions, has_version, is_version, others_among, version_asked, versions_among}
use Rattle.version_runs.specs.declared.options.Question.TheVariants.{Json, Key, Next, Show, Why}
use Rattle.version_commands.specs.{Cause.ComesOfAnswering, Cause.ComesOfAsking, Run.is_of_word}
use Rattle.version_runs.specs.{declared.faults.TaskFault.TaskFault, declared.options.EachOptions.EachOptions, declared.options.Question.Question}
use Rattle.version_commands.specs.{declared.words.each.Answers.Answers}
use Rattle.version_runs.specs.Place.{line_text}
use Rattle.version_answers.specs.{One.Adds, declared.spelling.Naming.Naming}
use Rattle.version_lines.specs.Lines.{lines_of, plain_end}
use Rattle.version_schemes.specs.any.Order.{PlainAny}

-- one more answer after the others
answered-push : (question : Question) (naming : Naming) (end : ℕ) (texts : List (List ℕ)) (text : List ℕ)
    (v : PlainAny) (answers answer : List ℕ) → AreAnswered question naming end texts answers
    → version_asked question naming text ≡ Some v → IsAnswer question naming end text v true answer
    → AreAnswered question naming end (texts ++ text ∷ []) (answers ++ answer)
answered-push question naming end [] text v answers answer none some is =
    (v, answer, [], some, is, refl, ap (λ (a : List ℕ). a ++ answer) none ∙ sym (append-nil answer))
answered-push question naming end (t ∷ texts) text v answers answer
    (w, first, rest, some_first, is_first, more, whole) some is = (
      w,
      first,
      rest ++ answer,
      some_first,
      is_first,
      answered-push question naming end texts text v rest answer more some is,
      ap (λ (a : List ℕ). a ++ answer) whole ∙ append_assoc first rest answer,
    )

-- one more answer after the answers so far
pub have-next : (first now after : Answers) (texts : List (List ℕ)) (text : List ℕ)
    (v : PlainAny) → HaveAnswered first now texts → now.unanswered ≡ None
    → version_asked now.question now.naming text ≡ Some v
    → Adds (IsAnswer now.question now.naming now.end text v true) now.output.items after.output.items
    → after.question ≡ now.question → after.naming ≡ now.naming → after.end ≡ now.end → after.crlf ≡ now.crlf
    → after.unanswered ≡ None → HaveAnswered first after (texts ++ text ∷ [])
have-next first now after texts text v have none some added question naming end crlf still =
    grind (arith, answered-push, append_assoc)

-- or it has none
no-next : (question : Question) (naming : Naming) (end : ℕ) (text : List ℕ) (v : PlainAny) (answer : List ℕ)
    → version_asked question naming text ≡ Some v → IsAnswer question naming end text v false answer
    → HasNoNext question (version_asked question naming text)
no-next Show naming end text v answer some (w, is, has) = let found = has.0 in cc found
no-next Json naming end text v answer some (w, is, has) = let found = has.0 in cc found
no-next (Key scheme) naming end text v answer some (found, answer_is) = cc found
no-next (Why scheme set) naming end text v answer some (found, answer_is) = cc found
no-next (Next step) naming end text v answer some (w, is, has) = rw some (w, is, has.0)

pub have-none : (first now after : Answers) (texts : List (List ℕ)) (text : Bor (List ℕ))
    (v : PlainAny) → HaveAnswered first now texts → now.unanswered ≡ None
    → version_asked now.question now.naming text.now ≡ Some v
    → Adds (IsAnswer now.question now.naming now.end text.now v false) now.output.items after.output.items
    → after.question ≡ now.question → after.naming ≡ now.naming → after.end ≡ now.end → after.crlf ≡ now.crlf
    → after.unanswered ≡ Some text → HaveAnswered first after (texts ++ text.now ∷ [])
have-none first now after texts text v have none some (answer, is, added) question naming end crlf unanswered =
    grind (arith, no-next)

-- or one before it has none
still-unanswered : (question : Question) (naming : Naming) (end : ℕ) (head output : List ℕ) (texts : List (List ℕ))
    (text : List ℕ) (first : Option (Bor (List ℕ))) → is_some first ≡ true
    → AnsweredOr question naming end head texts output first
    → AnsweredOr question naming end head (texts ++ text ∷ []) output first
still-unanswered question naming end head output texts text None some is = cc some
still-unanswered question naming end head output texts text (Some first) some
    (before, after, answers, whole, are, missing) = (
      before,
      after ++ text ∷ [],
      answers,
      ap (λ (l : List (List ℕ)). l ++ text ∷ []) whole
          ∙ append_assoc before (first.now ∷ after) (text ∷ []),
      are,
      missing,
    )

pub have-still : (first now : Answers) (texts : List (List ℕ)) (text : List ℕ)
    → HaveAnswered first now texts → is_some now.unanswered ≡ true
    → HaveAnswered first now (texts ++ text ∷ [])
have-still first now texts text have some = grind (arith, still-unanswered)

-- the texts that are asked are those of the words, if there are any
pub word-texts : (question : Question) (options : EachOptions) (old : Option (List ℕ))
    (words : List (Bor (List ℕ))) → words ≡ options.versions.items → 0 < length words
    → AreTexts question options old old (versions_among question options.naming (map (λ word. word.now) words))
word-texts question options old [] same some = absurd (omega (arith, some))
word-texts question options old (word ∷ words) same some = grind arith

-- one word more is among those that pass a test if it does
module _ (passes : List ℕ → Bool) (words : List (Bor (List ℕ))) (i : ℕ) (d : Bor (List ℕ)) (inside : i < length words) where
  next-apart : filter passes (map (λ word. word.now) (take (i + 1) words))
      ≡ filter passes (map (λ word. word.now) (take i words)) ++ filter passes ((get_or words i d).now ∷ [])
  next-apart = ap (filter passes) (texts-next (λ (word : Bor (List ℕ)). word.now) words i d inside)
      ∙ filter-append passes (map (λ word. word.now) (take i words)) ((get_or words i d).now ∷ [])

  pub among-next : passes (get_or words i d).now ≡ true
      → filter passes (map (λ word. word.now) (take (i + 1) words))
      ≡ filter passes (map (λ word. word.now) (take i words)) ++ (get_or words i d).now ∷ []
  among-next is = next-apart ∙ rw is refl

  pub among-still : passes (get_or words i d).now ≡ false
      → filter passes (map (λ word. word.now) (take (i + 1) words))
      ≡ filter passes (map (λ word. word.now) (take i words))
  among-still isnt = next-apart ∙ rw isnt (append-nil (filter passes (map (λ word. word.now) (take i words))))

-- whether any text passes a test, and whether all do, by those that don't
module _ (passes : List ℕ → Bool) where
  few : (texts : List (List ℕ)) → length (filter (λ text. not (passes text)) texts) ≤ length texts
  few texts = omega (arith, length-filter_both passes (λ text. not (passes text)) (λ text. refl) texts)

  pub none-passes : (texts : List (List ℕ)) → length (filter (λ text. not (passes text)) texts) ≡ length texts
      → list_any passes texts ≡ false
  none-passes [] all = refl
  none-passes (text ∷ texts) all = elim (cases_Bool (passes text)) [
    | inl is ↦
        let others : length (filter (λ t. not (passes t)) texts) ≡ suc (length texts) = rw is at all in
        absurd (omega (arith, few texts, others))
    | inr isnt ↦
        let others : suc (length (filter (λ t. not (passes t)) texts)) ≡ suc (length texts) = rw isnt at all in
        rw isnt (none-passes texts (omega (arith, others)))
  ]

  pub some-passes : (texts : List (List ℕ)) → length (filter (λ text. not (passes text)) texts) < length texts
      → list_any passes texts ≡ true
  some-passes [] some = absurd (omega (arith, some))
  some-passes (text ∷ texts) some = elim (cases_Bool (passes text)) [
    | inl is ↦ rw is refl
    | inr isnt ↦
        let others : suc (length (filter (λ t. not (passes t)) texts)) < suc (length texts) = rw isnt at some in
        rw isnt (some-passes texts (omega (arith, others)))
  ]

  pub all-pass : (texts : List (List ℕ)) → (length (filter (λ text. not (passes text)) texts) == 0) ≡ list_all passes texts
  all-pass [] = refl
  all-pass (text ∷ texts) = grind (arith, cases_Bool, ne_eqb, all-pass texts)

-- whether all words are versions, and whether any is, by those that are none
module _ (question : Question) (options : EachOptions) (words others : List (Bor (List ℕ)))
    (same : words ≡ options.versions.items)
    (are : map (λ word. word.now) others ≡ others_among question options.naming (map (λ word. word.now) words)) where
  apart : length others ≡ length (others_among question options.naming (map (λ word. word.now) words))
  apart = sym (length-map others (λ (word : Bor (List ℕ)). word.now)) ∙ ap length are

  many : length (map (λ (word : Bor (List ℕ)). word.now) words) ≡ length words
  many = length-map words (λ (word : Bor (List ℕ)). word.now)

  pub all-are : (length others == 0) ≡ are_versions question options
  all-are = ap (λ (n : ℕ). n == 0) apart
      ∙ all-pass (is_version question options.naming) (map (λ word. word.now) words)
      ∙ ap (λ (w : List (Bor (List ℕ))). list_all (is_version question options.naming) (map (λ word. word.now) w)) same

  pub none-is : length others ≡ length words → has_version question options ≡ false
  none-is all =
      ap (λ (w : List (Bor (List ℕ))). list_any (is_version question options.naming) (map (λ word. word.now) w)) (sym same)
      ∙ none-passes (is_version question options.naming) (map (λ word. word.now) words)
      (omega (arith, apart, many, all))

  pub some-is : length others ≢ length words → has_version question options ≡ true
  some-is fewer =
      ap (λ (w : List (Bor (List ℕ))). list_any (is_version question options.naming) (map (λ word. word.now) w)) (sym same)
      ∙ some-passes (is_version question options.naming) (map (λ word. word.now) words)
      (omega (arith, apart, many, fewer, few (is_version question options.naming) (map (λ word. word.now) words)))

-- and else those of the lines
pub line-texts : (question : Question) (options : EachOptions) (old new : Option (List ℕ)) (input : List ℕ)
    → options.versions.items ≡ [] → Consumes old new input → IsAtEnd new
    → AreTexts question options old new (map (line_text options.crlf) (lines_of (plain_end options.end) input))
line-texts question options old new input none read end = grind arith

-- the faults of answering to the texts that are asked
pub asking-answering : (question : Question) (options : EachOptions) (fails : Bool) (old new : Option (List ℕ))
    (texts : List (List ℕ)) → AreTexts question options old new texts → (fault : TaskFault)
    → ComesOfAnswering question options.naming options.end texts fault → ComesOfAsking question options fails old fault
asking-answering question options fails old new texts are fault (inl memory) = grind arith
asking-answering question options fails old new texts are fault (inr (text, is, quotes)) =
    subst (ComesOfAsking question options fails old) (sym is) (new, texts, are, quotes)

-- no such fault is of a word
pub answering-early : (question : Question) (naming : Naming) (end : ℕ) (texts : List (List ℕ)) (fault : TaskFault)
    → ComesOfAnswering question naming end texts fault → is_of_word fault ≡ false
answering-early question naming end texts fault (inl memory) = ap is_of_word memory
answering-early question naming end texts fault (inr (text, is, quotes)) = ap is_of_word is

-- the answers so far, by another name
pub still-held : (first now after : Answers) (texts : List (List ℕ)) → after ≡ now → HasSet now.question now.set
    → HaveAnswered first now texts → HasSet after.question after.set × HaveAnswered first after texts
still-held first now after texts same set have = grind arith

-- the last word apart
pub last-apart : (words : List (Bor (List ℕ))) (d : Bor (List ℕ)) → 1 ≤ length words
    → map (λ word. word.now) words
    ≡ map (λ word. word.now) (take (length words - 1) words) ++ (get_or words (length words - 1) d).now ∷ []
last-apart words d some =
    let all : take (length words - 1 + 1) words ≡ words = take_all (length words - 1 + 1) words (omega (arith, some)) in
    ap (map (λ (word : Bor (List ℕ)). word.now)) (sym all)
    ∙ texts-next (λ (word : Bor (List ℕ)). word.now) words (length words - 1) d (omega (arith, some))

-- what is so holds of a value, if there is one
pub ok-asked : {T E : Type 0} (result : Result T E) (Asked : Type 0) → Asked → OnOk result Asked
ok-asked (Ok value) Asked asked = asked
ok-asked (Err fault) Asked asked = tt
