use Rattle.std.proofs.Common.{◌∙◌, ◌<◌, drop, sym, arith, ◌≡◌, ◌+◌, ◌-◌, ◌≤◌, ℕ, Bool, true, false, List, take, refl, ap}
use Rattle.version_order.specs.{declared.class.Class.Class, texts.Bytes.HasDigits, texts.Class.contains, texts.Front.is_digits, texts.Front.begins}
use Rattle.std.proofs.lemmas.{List.drop-drop, List.Folds.length-prefix_len}
use Rattle.std.specs.{Char.is_ascii_digit, List.list_all, List.prefix_len, List.take_while}
use Rattle.version_texts.specs.Scan.{digits_len, is_chunk, is_numeral}
use Rattle.version_order.proofs.lemmas.Runs.{all_smaller, larger_run, some_larger}
use Rattle.version_texts.proofs.lemmas.scan.Section.{chunk_digits, chunk_word, digits_not, digits_some, begun_none, begun_some}
use Rattle.version_texts.proofs.scan.scan_run.Goals as goal

-- A run that begins at a place of a text, by where its digits end.

-- whether a run goes on behind a place
goes_on : (test : ℕ → Bool) (text : List ℕ) (place end : ℕ)
    → begins test (drop place text) ≡ true
    → end ≡ place + prefix_len test (drop place text) → place < end
goes_on test text place end e end_is = omega (arith, begun_some test (drop place text) e, end_is)

stops : (test : ℕ → Bool) (text : List ℕ) (place : ℕ) → begins test (drop place text) ≡ false
    → place ≡ place + prefix_len test (drop place text)
stops test text place e = omega (arith, begun_none test (drop place text) e)

module _ (class : Class) (has : HasDigits (contains class)) (text : List ℕ)
    (start digits_end end : ℕ) (digits_is : digits_end ≡ start + digits_len (drop start text))
    (end_is : end ≡ digits_end + prefix_len (contains class) (drop digits_end text)) where
  abbrev run : List ℕ
  run = take_while (contains class) (drop start text)

  behind_digits : drop (digits_len (drop start text)) (drop start text) ≡ drop digits_end text
  behind_digits = rw (drop-drop, digits_is) refl

  pub end_of_run : end ≡ start + prefix_len (contains class) (drop start text)
  end_of_run = grind (arith, larger_run, behind_digits)

  pub empty_run : end ≡ start → prefix_len (contains class) (drop start text) ≡ 0
  empty_run same = omega (arith, end_of_run)

  pub word : digits_end < end → list_all is_ascii_digit run ≡ false
  word longer = grind (arith, some_larger, end_of_run)

  pub number : end ≤ digits_end → list_all is_ascii_digit run ≡ true
  number shorter = grind (arith, all_smaller, end_of_run)

  pub word_digits : digits_end < end → false ≡ is_digits run
  word_digits longer = sym (digits_not run (word longer))

  pub word_chunk : digits_end < end → true ≡ is_chunk (contains class) run
  word_chunk longer = grind (arith, chunk_word, end_of_run, word)

  -- the bytes between the places are the run
  pub run_between : take (end - start) (drop start text) ≡ run
  run_between = ap (λ n. take n (drop start text)) (omega (arith, end_of_run))

  pub run_is_digits : end ≤ digits_end → start < end → is_digits run ≡ true
  run_is_digits shorter some = grind (arith, digits_some, number, length-prefix_len, end_of_run)

  pub between_digits : end ≤ digits_end → start < end
      → is_digits (take (end - start) (drop start text)) ≡ true
  between_digits shorter some = rw run_between (run_is_digits shorter some)

  pub number_chunk : end ≤ digits_end → start < end → (numeral : Bool)
      → numeral ≡ is_numeral (take (end - start) (drop start text))
      → numeral ≡ is_chunk (contains class) run
  number_chunk shorter some numeral e = grind (arith, run_between, chunk_digits, end_of_run, number)

pub returns-then-has_rank : goal.returns-then-has_rank
returns-then-has_rank c = grind (arith, goes_on, end_of_run, word_digits, word_chunk)

pub returns-then-digits_end-start-clause-none : goal.returns-then-digits_end-start-clause-none
returns-then-digits_end-start-clause-none c = grind (arith, empty_run, stops)

pub is_numeral-requires : goal.is_numeral-requires
is_numeral-requires c =
    let behind = drop c.run_end-digits_end.result c.args.text.now in
    let ended = c.has_rank.ensures behind (sym c.rank_at-next.ensures) ∙ c.if-has_rank.false in
    between_digits c.args.class c.requires.class c.args.text.now c.args.start _ _
    c.run_end-digits_end.ensures.end (stops _ c.args.text.now _ ended) (omega arith) (omega arith)

pub returns : goal.returns
returns c = grind (arith, stops, end_of_run, run_is_digits, number_chunk)
