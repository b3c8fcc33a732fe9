-- Numerals and operators: the front of each reads what is spelled, and nothing else.
use Rattle.std.proofs.Common.{◌≡◌, ◌+◌, ◌*◌, ◌-◌, ◌<◌, ◌^◌, ℕ, true, List, get_or, length, take, arith, Result, Ok, Err, OkIff, Option, SomeIff, rules, ◌==◌, false, [], ◌∷◌, ◌++◌, Some, None, nat_lt, refl, sym, ap, ◌∙◌, inl, inr, ◌%◌, Bool, ◌||◌, ◌⊎◌, codes}
use Rattle.std.proofs.lemmas.List.{append-nil, drop_all, drop_at, take_all, take_at}
use Rattle.std.proofs.lemmas.{Bool.cases_Bool, Bool.eqb-true, Bool.ltb-true, Bool.lt-ltb, Bool.Decides.nat_tests, Fmt.decimal-digits_value, Fmt.decimal_by_steps, Int.Digits.digits_value_more}
use Rattle.std.proofs.lemmas.{List.Folds.list_all_at, List.Folds.list_all-append, Str.Parse.digits_value-take-le, Str.Parse.IsNumeralModel, Str.Parse.numerals_by_value, Str.Parse.digits_value_short}
use Rattle.std.specs.{Char.digit_value, Char.is_ascii_digit, Cmp.first_so, Cmp.second_so, Fmt.decimal, List.list_all, List.list_any, List.position_or_len, Option.option_and_then, Result.result_ok, Str.Parse.digits_value}
use Rattle.version_order.specs.texts.Front.{after_mark, run_front, is_digits, number_front, starts_with_digit, begins}
use Rattle.version_order.specs.texts.Grammar.{EndsRun, IsComplete, IsPrinted, IsSound}
use Rattle.version_rules.specs.declared.op.Op.TheVariants.{Exact, Greater, GreaterEq, Less, LessEq, Tilde, Caret, Wildcard}
use Rattle.version_rules.specs.requirement.Requirement.{after_word, first_op, op_front, op_text, tried_ops}
use Rattle.version_rules.specs.{declared.op.Op.Op, grammar.Chunk.HasNoLeadingZero, grammar.Chunk.SpellsNumeral, grammar.Chunk.unsigned_front, grammar.Chunk.value_of_run, key.PartKey.split_of}
use Rattle.version_order.proofs.lemmas.Front.{cases_Option, after_mark-Some, reads_run, run_front-reads, prefix_len-append}
use borrow.Author.Tests.{le-leb}

-- ---- the value of a run of digits, digit by digit

digit_less : (c : ℕ) → is_ascii_digit c ≡ true → digit_value c ≡ c - 48
digit_less c digit = grind (arith, nat_tests)

digit_at : (text : List ℕ) (i : ℕ) → list_all is_ascii_digit text ≡ true → i < length text
    → is_ascii_digit (get_or text i 0) ≡ true
digit_at text i all inside = grind (arith, cases_Bool, list_all_at)

-- the value of the digits up to the next one, from the value before it
pub next_value : (text : List ℕ) (i value : ℕ) → list_all is_ascii_digit text ≡ true
    → i < length text → value ≡ digits_value 10 (take i text)
    → value * 10 + (get_or text i 0 - 48) ≡ digits_value 10 (take (i + 1) text)
next_value text i value all inside e = grind (arith, digit_less, digit_at, digits_value_more)

-- it fits if the whole value does
pub next_fits : (text : List ℕ) (i value : ℕ) → list_all is_ascii_digit text ≡ true
    → i < length text → value ≡ digits_value 10 (take i text)
    → digits_value 10 text < 2 ^ 32 → value * 10 + (get_or text i 0 - 48) < 2 ^ 32
next_fits text i value all inside e fits = grind (arith, next_value, digits_value-take-le)

-- ---- runs of digits, and the numbers that they denote

-- what std's lemmas on numerals need of a run of digits
pub digits_model : IsNumeralModel (λ ds. list_all is_ascii_digit ds ≡ true) (digits_value 10)
digits_model = numerals_by_value _ (search rules)

-- `r.ok()` of a result that is `Ok` under two facts, of which one holds
pub some_if_ok : {E : Type 0} (P Q : Type 0) (v : ℕ) (r : Result ℕ E) (o : Option ℕ)
    → OkIff r (P × Q) v → P → o ≡ result_ok r → SomeIff o Q v
some_if_ok P Q v (Ok x) o h p e = rw e (h.0.1, h.1)
some_if_ok P Q v (Err x) o h p e = rw e (λ q. h (p, q))

zero_numeral : SpellsNumeral (48 ∷ []) 0
zero_numeral = record { digits = refl; canonical = tt; value = refl; fits = omega arith }

no_leading_zero : (run rest : List ℕ) → after_mark 48 (run ++ rest) ≡ None → 0 < length run
    → HasNoLeadingZero run
no_leading_zero [] rest e some = absurd (omega arith)
no_leading_zero (d ∷ []) rest e some = tt
no_leading_zero (d ∷ c ∷ digits) rest e some = grind (arith, cases_Bool)

value_of_run-Some : (run : List ℕ × List ℕ) (n : ℕ) (rest : List ℕ)
    → value_of_run run ≡ Some (n, rest)
    → (digits_value 10 run.0 ≡ n) × (n < 2 ^ 32) × (run.1 ≡ rest)
value_of_run-Some run n rest e = grind (arith, cases_Bool, ltb-true)

-- what the front gives if the text begins with 0, and if it does not
unsigned-zero : (text tail : List ℕ) → after_mark 48 text ≡ Some tail
    → unsigned_front text ≡ Some (0, tail)
unfolding unsigned_front
unsigned-zero text tail e = rw e refl

unsigned-run : (text : List ℕ) → after_mark 48 text ≡ None
    → unsigned_front text ≡ option_and_then value_of_run (run_front is_ascii_digit text)
unfolding unsigned_front
unsigned-run text e = rw e refl

pub unsigned_sound : IsSound SpellsNumeral unsigned_front
unsigned_sound text n rest e = elim (cases_Option (after_mark 48 text)) [
  | inl none ↦ elim (cases_Option (run_front is_ascii_digit text)) [
    | inl no_run ↦ cc (rw (unsigned-run text none, no_run) at e)
    | inr one ↦
        let run = reads_run is_ascii_digit text one.0.0 one.0.1 one.1 in
        let value = value_of_run-Some one.0 n rest (rw (unsigned-run text none, one.1) at e) in (
          one.0.0,
          rw value.2 at run.whole,
          record {
            digits =
                run.all;
            canonical =
                no_leading_zero one.0.0 one.0.1 (rw run.whole at none) run.some;
            value =
                value.0;
            fits = value.1;
          },
        )
  ]
  | inr begun ↦
      let same : (0, begun.0) ≡ (n, rest) = cc (rw (unsigned-zero text begun.0 begun.1) at e) in
      let value : 0 ≡ n = ap (λ (p : ℕ × List ℕ). p.0) same in
      let left : begun.0 ≡ rest = ap (λ (p : ℕ × List ℕ). p.1) same in (
        48 ∷ [],
        after_mark-Some 48 text begun.0 begun.1 ∙ ap (λ (l : List ℕ). 48 ∷ l) left,
        rw (← value) zero_numeral,
      )
]

-- a numeral that begins with 0 is 0
pub only_zero : (d : ℕ) (digits : List ℕ) → (d == 48) ≡ true → HasNoLeadingZero (d ∷ digits)
    → digits ≡ []
only_zero d [] same h = refl
only_zero d (c ∷ digits) same h = cc (h, same)

only_digit : (d : ℕ) (digits : List ℕ) → d ≡ 48 → HasNoLeadingZero (d ∷ digits)
    → length (d ∷ digits) ≡ 1
only_digit d digits e h = grind (arith, only_zero)

pub unsigned_complete : IsComplete SpellsNumeral (EndsRun is_ascii_digit) unsigned_front
unsigned_complete [] n rest s ends = absurd s.canonical
unsigned_complete (d ∷ digits) n rest s ends = elim (cases_Bool (d == 48)) [
  | inl same ↦
      let none : digits ≡ [] = only_zero d digits same s.canonical in
      let byte : d ≡ 48 = eqb-true d 48 same in
      let value : 0 ≡ n = rw (none, byte) at s.value in
      let begun : after_mark 48 (d ∷ (digits ++ rest)) ≡ Some rest = rw (same, none) refl in
      rw (unsigned-zero (d ∷ (digits ++ rest)) rest begun) (ap (λ (k : ℕ). Some (k, rest)) value)
  | inr other ↦
      let begun : after_mark 48 (d ∷ (digits ++ rest)) ≡ None = rw other refl in
      let run : run_front is_ascii_digit (d ∷ (digits ++ rest)) ≡ Some (d ∷ digits, rest) =
      run_front-reads is_ascii_digit (d ∷ digits) rest s.digits (omega arith) ends in
      let fits : nat_lt (digits_value 10 (d ∷ digits)) (2 ^ 32) ≡ true =
      lt-ltb _ _ (rw s.value s.fits) in
      rw (unsigned-run (d ∷ (digits ++ rest)) begun, run, fits)
      (ap (λ (k : ℕ). Some (k, rest)) s.value)
]

-- the digits of a numeral are what its value prints
pub numeral_printed : IsPrinted SpellsNumeral decimal
numeral_printed [] n s = absurd s.canonical
numeral_printed (d ∷ digits) n s =
    let fits : digits_value 10 (d ∷ digits) < 2 ^ 64 = rw s.value (omega (arith, s.fits)) in
    ap decimal (sym s.value)
    ∙ decimal-digits_value digits_model (d ∷ digits) s.digits (omega arith)
    (λ begun. only_digit d digits begun s.canonical) fits

-- ---- a numeral by its digits

pub numeral_zero : (text tail : List ℕ) → Some tail ≡ after_mark 48 text
    → Some (0, tail) ≡ unsigned_front text
numeral_zero text tail e = sym (unsigned-zero text tail (sym e))

pub zero_spelled : SpellsNumeral (48 ∷ []) (digits_value 10 (48 ∷ []))
zero_spelled = zero_numeral

pub numeral_run : (text run rest : List ℕ) → None ≡ after_mark 48 text
    → Some (run, rest) ≡ run_front is_ascii_digit text
    → nat_lt (digits_value 10 run) (2 ^ 32) ≡ true
    → Some (digits_value 10 run, rest) ≡ unsigned_front text
numeral_run text run rest none e fits = rw (unsigned-run text (sym none), ← e, fits) refl

pub numeral_none : (text : List ℕ) → None ≡ after_mark 48 text
    → None ≡ run_front is_ascii_digit text → None ≡ unsigned_front text
numeral_none text none e = rw (unsigned-run text (sym none), ← e) refl

pub numeral_large : (text run rest : List ℕ) → None ≡ after_mark 48 text
    → Some (run, rest) ≡ run_front is_ascii_digit text
    → nat_lt (digits_value 10 run) (2 ^ 32) ≡ false
    → None ≡ unsigned_front text
numeral_large text run rest none e large = rw (unsigned-run text (sym none), ← e, large) refl

pub run_spelled : (text run rest : List ℕ) → None ≡ after_mark 48 text
    → Some (run, rest) ≡ run_front is_ascii_digit text
    → nat_lt (digits_value 10 run) (2 ^ 32) ≡ true
    → SpellsNumeral run (digits_value 10 run)
run_spelled text run rest none e fits =
    let read = reads_run is_ascii_digit text run rest (sym e) in
    record {
      digits =
          read.all;
      canonical =
          no_leading_zero run rest (rw read.whole at (sym none)) read.some;
      value =
          refl;
      fits = ltb-true _ _ fits;
    }

pub nine_digits : (digits : List ℕ) → list_all is_ascii_digit digits ≡ true → length digits < 10
    → true ≡ nat_lt (digits_value 10 digits) (2 ^ 32)
nine_digits digits all short =
    let value : digits_value 10 digits < 10 ^ 9 =
    digits_value_short digits_model digits 9 all (omega arith) in
    sym (lt-ltb _ _ (omega (arith, value)))

pub ruleset numerals_read =
    (numeral_zero, zero_spelled, numeral_run, numeral_none, numeral_large, run_spelled)

-- ---- if a text is put together of such pieces, they are the text before its first digit and the number
-- there.

digits_begin : (digits rest : List ℕ) → starts_with_digit digits ≡ true
    → starts_with_digit (digits ++ rest) ≡ true
digits_begin [] rest e = cc e
digits_begin (b ∷ digits) rest e = e

pub number_front-digits : (digits rest : List ℕ) → is_digits digits ≡ true
    → starts_with_digit rest ≡ false
    → number_front (digits ++ rest) ≡ Some (digits_value 10 digits, rest)
number_front-digits digits rest run ends =
    grind (arith, digits_begin, prefix_len-append, take_at, drop_at)

pub number_front-none : (text : List ℕ) → starts_with_digit text ≡ false → number_front text ≡ None
number_front-none text e = rw e refl

neither : (s t : Bool) → (s || t) ≡ false → (s ≡ false) × (t ≡ false)
neither true t e = cc e
neither false t e = (refl, e)

-- the text before the first digit ends if a digit follows it, or nothing does
before_end : (before rest : List ℕ) → list_any is_ascii_digit before ≡ false
    → (rest ≡ []) ⊎ (starts_with_digit rest ≡ true)
    → position_or_len is_ascii_digit (before ++ rest) ≡ length before
before_end [] [] none ends = refl
before_end [] (b ∷ rest) none (inl e) = cc e
before_end [] (b ∷ rest) none (inr e) = rw e refl
before_end (b ∷ before) rest none ends =
    let both = neither (is_ascii_digit b) (list_any is_ascii_digit before) none in
    rw (both.0, before_end before rest both.1 ends) (omega arith)

pub split_of-no_digit : (text : List ℕ) → list_any is_ascii_digit text ≡ false
    → split_of text ≡ record { before = text; number = None }
split_of-no_digit text none =
    let n : position_or_len is_ascii_digit text ≡ length text =
    rw append-nil at (before_end text [] none (inl refl)) in
    rw (n, take_all (length text) text (omega arith), drop_all (length text) text (omega arith))
    refl

pub split_of-digits : (before digits rest : List ℕ) → list_any is_ascii_digit before ≡ false
    → is_digits digits ≡ true → starts_with_digit rest ≡ false
    → split_of (before ++ (digits ++ rest))
    ≡ record { before = before; number = Some (digits_value 10 digits, rest) }
split_of-digits before digits rest none run ends =
    grind (arith, digits_begin, before_end, take_at, drop_at, number_front-digits)

-- ---- what `decimal` writes is a run of digits

digit : (d : ℕ) → d < 10 → is_ascii_digit (48 + d) ≡ true
digit d h = rw (le-leb 48 (48 + d) (omega arith), le-leb (48 + d) 57 (omega arith)) refl

pub decimal-digits : (n : ℕ) → n < 2 ^ 64 → is_digits (decimal n) ≡ true
decimal-digits = decimal_by_steps (λ n ds. is_digits ds ≡ true)
    (λ n h. rw (digit n h) refl)
    (λ n ds h run.
    let first = first_so (starts_with_digit ds) (list_all is_ascii_digit ds) run in
    let all = second_so (starts_with_digit ds) (list_all is_ascii_digit ds) run in
    let last = digit (n % 10) (omega arith) in
    rw (
      digits_begin ds ((48 + n % 10) ∷ []) first,
      list_all-append is_ascii_digit ds ((48 + n % 10) ∷ []),
      all,
      last,
    ) refl)

-- ---- operators: a prefix that parses as an operator is the text of that operator, and that text parses
-- as the operator.

-- what follows a word is the rest of the text
after_word-Some : (word text rest : List ℕ) → after_word word text ≡ Some rest → text ≡ word ++ rest
after_word-Some [] text rest e = cc e
after_word-Some (b ∷ word) text rest e = elim (cases_Option (after_mark b text)) [
  | inl none ↦ cc (rw none at e)
  | inr tail ↦ after_mark-Some b text tail.0 tail.1
      ∙ ap (λ (l : List ℕ). b ∷ l) (after_word-Some word tail.0 rest (rw tail.1 at e))
]

first_op-Some : (ops : List Op) (text : List ℕ) (op : Op) (rest : List ℕ)
    → first_op ops text ≡ Some (op, rest) → text ≡ op_text op ++ rest
first_op-Some [] text op rest e = cc e
first_op-Some (first ∷ ops) text op rest e = elim (cases_Option (after_word (op_text first) text)) [
  | inl none ↦ first_op-Some ops text op rest (rw none at e)
  | inr tail ↦
      let same : (first, tail.0) ≡ (op, rest) = cc (rw tail.1 at e) in
      let named : first ≡ op = ap (λ (p : Op × List ℕ). p.0) same in
      let left : tail.0 ≡ rest = ap (λ (p : Op × List ℕ). p.1) same in
      rw (← named, ← left) (after_word-Some (op_text first) text tail.0 tail.1)
]

pub op_front-Some : (text : List ℕ) (op : Op) (rest : List ℕ) → op_front text ≡ Some (op, rest)
    → text ≡ op_text op ++ rest
unfolding op_front
op_front-Some = first_op-Some tried_ops

no_equals : (text : List ℕ) → begins (λ b. b == 61) text ≡ false
    → after_word (codes "=") text ≡ None
no_equals [] other = refl
no_equals (b ∷ text) other = rw other refl

-- the text of an operator parses as that operator, if no equals sign follows
pub op_front-reads : (op : Op) (rest : List ℕ) → begins (λ b. b == 61) rest ≡ false
    → op_front (op_text op ++ rest) ≡ Some (op, rest)
unfolding op_front
op_front-reads Exact rest other = refl
op_front-reads Greater rest other = rw (no_equals rest other) refl
op_front-reads GreaterEq rest other = refl
op_front-reads Less rest other = rw (no_equals rest other) refl
op_front-reads LessEq rest other = refl
op_front-reads Tilde rest other = refl
op_front-reads Caret rest other = refl
op_front-reads Wildcard rest other = refl
