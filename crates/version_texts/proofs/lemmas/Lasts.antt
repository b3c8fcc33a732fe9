-- Last parts of one key compare by whether they are decomposed, and by their texts.
use Rattle.std.proofs.Common.{◌≡◌, ◌==◌, ◌||◌, ◌&&◌, ◌∙◌, ◌<◌, ℕ, Bool, true, false, List, [], ◌∷◌, ◌++◌, drop, length, Some, None, refl, sym, ap, arith, inl, inr, append-nil, ◌+◌, ◌≤◌, ◌⊎◌, subst}
use Rattle.std.proofs.lemmas.Bool.{and_from, and_parts, cases_Bool, eqb-true, or_cases, or_right}
use Rattle.std.proofs.lemmas.List.{drop_at, nil_from_length, take-append-drop, take_at, drop_all, length-drop}
use Rattle.std.proofs.lemmas.{Bool.Decides.nat_tests, Cmp.nat_list_cmp_total, Cmp.tied_itself}
use Rattle.std.specs.{Char.is_ascii_alphabetic, Char.is_ascii_digit, Char.is_ascii_alphanumeric, Cmp.first_so, Cmp.second_so, Cmp.nat_cmp_is, Cmp.ranks, Fmt.decimal, List.list_all, List.prefix_len, List.take_while}
use Rattle.std.specs.{Ordering.MatchOrdering, Ordering.nat_cmp, Ordering.ordering_then, Str.Parse.digits_value, declared.cmp.Ordering.Ordering}
use Rattle.std.specs.declared.cmp.Ordering.TheVariants.{Equal, Less, Greater}
use Rattle.version_rules.specs.grammar.Last.{Alphanum, IsLastOf, IsLetters, IsOther, Numeric, PlainLast, Post, Rc, SpellsPost, SpellsRc}
use Rattle.version_rules.specs.key.PartKey.{Number, PartKey, Word, part_key, suffix_of, Split, split_of}
use Rattle.version_rules.specs.{grammar.Chunk.PlainChunk, grammar.Chunk.SpellsPart, grammar.Chunk.chunk_text, grammar.Chunk.SpellsNumeral, order.Parts.last_plain_cmp}
use Rattle.version_order.specs.{keys.Lists.bytes_cmp, texts.Bytes.dot, texts.Bytes.is_section_byte, texts.Cuts.is_dot, texts.Cuts.pieces, texts.Front.starts_with_digit, texts.Front.behind_digits, texts.Front.begins}
use Rattle.version_rules.proofs.lemmas.{Key.part_key-digits, Key.plain_number, Last.last_of-only, Numeral.split_of-digits, Numeral.split_of-no_digit, Order.last_plain_equal}
use Rattle.version_order.proofs.lemmas.{Bytes.letter_other, Front.list_all-take_while, Front.prefix_len-append, Orders.then_assoc, Runs.run_cons, Runs.run_is}
use Rattle.version_texts.specs.Order.{is_lettered, is_numbered, last_tie, bodies_tie, messy_tie, parts_tie, after_letters}
use Rattle.version_texts.specs.Scan.{is_numeral}
use Rattle.version_texts.proofs.lemmas.Pieces.{next_part, only_part, rest_and_more, rest_of_last, no_digits}
use Rattle.version_texts.proofs.lemmas.{scan.Spelled.digits_from, scan.Spelled.numeral_passes, scan.Spelled.numeral_spells}
use Rattle.version_texts.proofs.lemmas.Variants.{number_key}
use Rattle.version_pieces.proofs.lemmas.Pieces.{pieces_are}
use Rattle.version_rules.specs.grammar.Chunk as chunk

-- ---- the keys of decomposed parts

pub letters_start : (letters rest : List ℕ) → IsLetters letters
    → (starts_with_digit (letters ++ rest) ≡ false)
    × (suffix_of (letters ++ rest) ≡ Some (split_of (letters ++ rest)))
letters_start [] rest s = absurd (omega (arith, s.1))
letters_start (b ∷ letters) rest s = (letter_other b (first_so _ _ s.0), refl)

-- a numeral and letters, and what follows these, give a number and its suffix
numbered_key : (first letters rest : List ℕ) (a : ℕ) (split : Split) → SpellsNumeral first a
    → IsLetters letters → split_of (letters ++ rest) ≡ split
    → part_key (first ++ (letters ++ rest)) ≡ Number a (Some split)
numbered_key first letters rest a split numeral s e =
    grind (arith, letters_start, part_key-digits, digits_from)

rc_key : (text : List ℕ) (a : ℕ) (letters : List ℕ) (b : ℕ) → SpellsRc text a letters b
    → part_key text
    ≡ Number a (Some (record { before = letters; number = Some (b, []) }))
rc_key text a letters b s =
    let split : split_of (letters ++ s.1)
    ≡ record { before = letters; number = Some (digits_value 10 s.1, []) } =
    rw append-nil at
    (split_of-digits letters s.1 [] (no_digits letters s.4.0) (digits_from s.1 b s.5) refl) in
    ap part_key s.2
    ∙ numbered_key s.0 letters s.1 a (record { before = letters; number = Some (b, []) }) s.3 s.4
    (split ∙ ap (λ n. record { before = letters; number = Some (n, []) }) s.5.value)

post_key : (text : List ℕ) (a : ℕ) (letters : List ℕ) → SpellsPost text a letters
    → part_key text ≡ Number a (Some (record { before = letters; number = None }))
post_key text a letters s =
    let split : split_of (letters ++ []) ≡ record { before = letters; number = None } =
    ap split_of (append-nil letters) ∙ split_of-no_digit letters (no_digits letters s.3.0) in
    ap part_key (s.1 ∙ ap (λ (l : List ℕ). s.0 ++ l) (sym (append-nil letters)))
    ∙ numbered_key s.0 letters [] a (record { before = letters; number = None }) s.2 s.3 split

-- ---- a part is decomposed exactly if the test says so

-- a run at the start of a text, and what follows it
pub run_cut : (test : ℕ → Bool) (run rest : List ℕ) → list_all test run ≡ true
    → begins test rest ≡ false
    → (take_while test (run ++ rest) ≡ run)
    × (drop (prefix_len test (run ++ rest)) (run ++ rest) ≡ rest)
run_cut test run rest all ends = grind (arith, prefix_len-append, take_at, drop_at)

lettered : (letters last : List ℕ) → IsLetters letters → begins is_ascii_alphabetic last ≡ false
    → (length last == 0 || is_numeral last) ≡ true → is_lettered (letters ++ last) ≡ true
lettered [] last s ends e = absurd (omega (arith, s.1))
lettered (b ∷ letters) last s ends e =
    let rest : after_letters (b ∷ letters ++ last) ≡ last =
    (run_cut is_ascii_alphabetic (b ∷ letters) last s.0 ends).1 in
    let first : is_ascii_alphabetic b ≡ true = first_so _ _ s.0 in
    and_from _ _ first (ap (λ (l : List ℕ). length l == 0 || is_numeral l) rest ∙ e)

passes : (first letters last : List ℕ) (a : ℕ) → SpellsNumeral first a → IsLetters letters
    → begins is_ascii_alphabetic last ≡ false → (length last == 0 || is_numeral last) ≡ true
    → is_numbered (first ++ (letters ++ last)) ≡ true
passes first letters last a numeral s ends e =
    let cut = run_cut is_ascii_digit first (letters ++ last) numeral.digits
    (letters_start letters last s).0 in
    let behind : is_lettered (behind_digits (first ++ (letters ++ last))) ≡ true =
    ap is_lettered cut.1 ∙ lettered letters last s ends e in
    let front : is_numeral (take_while is_ascii_digit (first ++ (letters ++ last))) ≡ true =
    ap is_numeral cut.0 ∙ numeral_passes first a numeral in
    and_from _ _ behind front

digit_no_letter : (b : ℕ) → is_ascii_digit b ≡ true → is_ascii_alphabetic b ≡ false
digit_no_letter b h = grind (arith, nat_tests)

digits_no_letter : (text : List ℕ) → list_all is_ascii_digit text ≡ true
    → begins is_ascii_alphabetic text ≡ false
digits_no_letter [] all = refl
digits_no_letter (b ∷ text) all = digit_no_letter b (first_so _ _ all)

pub rc_numbered : (text : List ℕ) (a : ℕ) (letters : List ℕ) (b : ℕ) → SpellsRc text a letters b
    → is_numbered text ≡ true
rc_numbered text a letters b s =
    ap is_numbered s.2
    ∙ passes s.0 letters s.1 a s.3 s.4 (digits_no_letter s.1 s.5.digits)
    (or_right (length s.1 == 0) (is_numeral s.1) (numeral_passes s.1 b s.5))

pub post_numbered : (text : List ℕ) (a : ℕ) (letters : List ℕ) → SpellsPost text a letters
    → is_numbered text ≡ true
post_numbered text a letters s =
    ap is_numbered (s.1 ∙ ap (λ (l : List ℕ). s.0 ++ l) (sym (append-nil letters)))
    ∙ passes s.0 letters [] a s.2 s.3 refl refl

-- the pieces of a text that passes
module _ (text : List ℕ) (numbered : is_numbered text ≡ true) where
  abbrev rest : List ℕ
  rest = behind_digits text

  abbrev letters : List ℕ
  letters = take_while is_ascii_alphabetic rest

  abbrev last : List ℕ
  last = after_letters rest

  is_rest : is_lettered rest ≡ true
  is_rest = (and_parts (is_lettered rest) (is_numeral (take_while is_ascii_digit text)) numbered).0

  first_is : SpellsNumeral (take_while is_ascii_digit text)
      (digits_value 10 (take_while is_ascii_digit text))
  first_is =
      numeral_spells (take_while is_ascii_digit text)
      (and_parts (is_lettered rest) (is_numeral (take_while is_ascii_digit text)) numbered).1

  letters_are : IsLetters letters
  letters_are = (list_all-take_while is_ascii_alphabetic rest, some rest (first_so _ _ is_rest))
    where
      some : (l : List ℕ) → begins is_ascii_alphabetic l ≡ true
          → 0 < length (take_while is_ascii_alphabetic l)
      some [] e = cc e
      some (b ∷ l) e = rw (run_cons is_ascii_alphabetic b l e).0 (omega arith)

  whole : text ≡ take_while is_ascii_digit text ++ (letters ++ last)
  whole = grind (arith, take-append-drop)

  post_spelled : last ≡ [] → SpellsPost text (digits_value 10 (take_while is_ascii_digit text))
      letters
  post_spelled none = grind (arith, whole, append-nil, first_is, letters_are)

  rc_spelled : is_numeral last ≡ true
      → SpellsRc text (digits_value 10 (take_while is_ascii_digit text)) letters
      (digits_value 10 last)
  rc_spelled numeral = (
    take_while is_ascii_digit text,
    last,
    whole,
    first_is,
    letters_are,
    numeral_spells last numeral,
  )

  no_other : ¬ IsOther text
  no_other o = elim (or_cases (length last == 0) (is_numeral last) (second_so _ _ is_rest)) [
    | inl none ↦ o.not_post _ letters (post_spelled (nil_from_length last (eqb-true _ _ none)))
    | inr numeral ↦ o.not_rc _ letters _ (rc_spelled numeral)
  ]

pub other_numbered : (text : List ℕ) → IsOther text → is_numbered text ≡ false
other_numbered text o = elim (cases_Bool (is_numbered text)) [
  | inl numbered ↦ absurd (no_other text numbered o)
  | inr other ↦ other
]

digits_numbered : (text : List ℕ) → list_all is_ascii_digit text ≡ true
    → is_numbered text ≡ false
digits_numbered text all =
    let none : behind_digits text ≡ [] =
    nil_from_length (behind_digits text) (eqb-true _ 0 (run_is is_ascii_digit text ∙ all)) in
    ap (λ (l : List ℕ). is_lettered l && is_numeral (take_while is_ascii_digit text)) none

-- ---- last parts of one key

-- the suffix of a part, or an empty one
abbrev suffix_in : PartKey → Split
suffix_in (Number n (Some suffix)) = suffix
suffix_in key = record { before = []; number = None }

-- the number of a part, or 0
abbrev number_in : PartKey → ℕ
number_in (Number n suffix) = n
number_in (Word word) = 0

-- decomposed parts of one key are the same
rc_same : (a b c d : ℕ) (x y : List ℕ)
    → Number a (Some (record { before = x; number = Some (b, []) }))
    ≡ Number c (Some (record { before = y; number = Some (d, []) })) → Rc a x b ≡ Rc c y d
rc_same a b c d x y e = grind arith

post_same : (a c : ℕ) (x y : List ℕ)
    → Number a (Some (record { before = x; number = None }))
    ≡ Number c (Some (record { before = y; number = None })) → Post a x ≡ Post c y
post_same a c x y e = λ i. Post (number_in (e i)) ((suffix_in (e i)).before)

rc_no_post : (a b c : ℕ) (x y : List ℕ)
    → ¬ (Number a (Some (record { before = x; number = Some (b, []) }))
    ≡ Number c (Some (record { before = y; number = None })))
rc_no_post a b c x y e = cc (ap (λ k. (suffix_in k).number) e)

texts_tied : (text other : List ℕ) (l m : PlainLast) → IsLastOf (chunk.Alphanum text) l
    → IsLastOf (chunk.Alphanum other) m → part_key text ≡ part_key other
    → last_plain_cmp l m ≡ last_tie text other
texts_tied text other (Numeric n) m s t e = absurd s
texts_tied text other (Rc a x b) (Rc c y d) s t e =
    let keys = sym (rc_key text a x b s) ∙ e ∙ rc_key other c y d t in
    let same = rc_same a b c d x y keys in
    rw (rc_numbered text a x b s, rc_numbered other c y d t)
    ((last_plain_equal (Rc a x b) (Rc c y d)).1 same)
texts_tied text other (Rc a x b) (Post c y) s t e =
    absurd (rc_no_post a b c x y (sym (rc_key text a x b s) ∙ e ∙ post_key other c y t))
texts_tied text other (Rc a x b) (Alphanum y) s t e =
    rw (rc_numbered text a x b s, other_numbered other t.1) refl
texts_tied text other (Post a x) (Rc c y d) s t e =
    absurd (rc_no_post c d a y x (sym (rc_key other c y d t) ∙ sym e ∙ post_key text a x s))
texts_tied text other (Post a x) (Post c y) s t e =
    let keys = sym (post_key text a x s) ∙ e ∙ post_key other c y t in
    let same = post_same a c x y keys in
    rw (post_numbered text a x s, post_numbered other c y t)
    ((last_plain_equal (Post a x) (Post c y)).1 same)
texts_tied text other (Post a x) (Alphanum y) s t e =
    rw (post_numbered text a x s, other_numbered other t.1) refl
texts_tied text other (Alphanum x) (Rc c y d) s t e =
    rw (other_numbered text s.1, rc_numbered other c y d t) refl
texts_tied text other (Alphanum x) (Post c y) s t e =
    rw (other_numbered text s.1, post_numbered other c y t) refl
texts_tied text other (Alphanum x) (Alphanum y) s t e =
    rw (other_numbered text s.1, other_numbered other t.1)
    (λ i. bytes_cmp (sym s.0 i) (sym t.0 i))
texts_tied text other l (Numeric n) s t e = absurd t

-- a number and a text have different keys
pub number_apart : (n : ℕ) (text : List ℕ) → SpellsPart (decimal n) (chunk.Numeric n)
    → SpellsPart text (chunk.Alphanum text) → ¬ (part_key (decimal n) ≡ part_key text)
number_apart n text s t e =
    let digits : list_all is_ascii_digit text ≡ true =
    second_so _ _ (number_key text n (sym e ∙ plain_number n s.fits)).0 in
    cc (digits, t.2)

-- numbers of one key are the same
pub numbers_same : (m n : ℕ) → SpellsPart (decimal m) (chunk.Numeric m)
    → SpellsPart (decimal n) (chunk.Numeric n) → part_key (decimal m) ≡ part_key (decimal n)
    → m ≡ n
numbers_same m n s t e = cc (sym (plain_number m s.fits) ∙ e ∙ plain_number n t.fits)

pub tied_lasts : (p q : PlainChunk) (l m : PlainLast) → SpellsPart (chunk_text p) p
    → SpellsPart (chunk_text q) q → IsLastOf p l → IsLastOf q m
    → part_key (chunk_text p) ≡ part_key (chunk_text q)
    → last_plain_cmp l m ≡ last_tie (chunk_text p) (chunk_text q)
tied_lasts (chunk.Numeric j) (chunk.Numeric k) l m s t here there e =
    let same : j ≡ k = numbers_same j k s t e in
    let lasts : l ≡ m =
    sym (last_of-only (chunk.Numeric j) l here) ∙ ap Numeric same
    ∙ last_of-only (chunk.Numeric k) m there in
    let texts : bytes_cmp (decimal j) (decimal k) ≡ Equal =
    ap (λ n. bytes_cmp (decimal n) (decimal k)) same
    ∙ tied_itself nat_list_cmp_total (decimal k) in
    rw (digits_numbered (decimal j) s.digits, digits_numbered (decimal k) t.digits)
    ((last_plain_equal l m).1 lasts ∙ sym texts)
tied_lasts (chunk.Numeric j) (chunk.Alphanum other) l m s t here there e =
    absurd (number_apart j other s t e)
tied_lasts (chunk.Alphanum text) (chunk.Numeric k) l m s t here there e =
    absurd (number_apart k text t s (sym e))
tied_lasts (chunk.Alphanum text) (chunk.Alphanum other) l m s t here there e =
    texts_tied text other l m here there e

-- ---- what a walk over two texts of one key knows at each step

-- ---- parts

-- a list that is not empty
abbrev pub IsNonempty : {X : Type 0} → List X → Type 0
IsNonempty [] = ⊥
IsNonempty (x ∷ xs) = Unit {0}

-- where more parts follow in both, the first ones compare by bytes, and then these
pub parts_then : (a b : List ℕ) (more others : List (List ℕ)) → IsNonempty more → IsNonempty others
    → parts_tie (a ∷ more) (b ∷ others) ≡ ordering_then (bytes_cmp a b) (parts_tie more others)
parts_then a b [] others s t = absurd s
parts_then a b (next ∷ more) [] s t = absurd t
parts_then a b (next ∷ more) (other ∷ others) s t = then_assoc (bytes_cmp a b) _ _

some_pieces : (text : List ℕ) → IsNonempty (pieces text)
some_pieces text = subst IsNonempty (sym (pieces_are is_dot text)) tt

-- the parts of a body, and what follows it
abbrev parts : List ℕ → List (List ℕ)
parts text = pieces (take_while is_section_byte text)

abbrev after : List ℕ → List ℕ
after text = drop (prefix_len is_section_byte text) text

module _ (a b part other rest other_rest : List ℕ) (e : part ≡ take_while is_ascii_alphanumeric a)
    (f : other ≡ take_while is_ascii_alphanumeric b)
    (r : rest ≡ drop (prefix_len is_ascii_alphanumeric a) a)
    (s : other_rest ≡ drop (prefix_len is_ascii_alphanumeric b) b) where
  -- where both go on, their first parts compare, and then what is left
  pub bodies_go_on : (more others : List ℕ) → rest ≡ dot ∷ more → other_rest ≡ dot ∷ others
      → bodies_tie a b ≡ ordering_then (bytes_cmp part other) (bodies_tie more others)
  bodies_go_on more others p q =
      grind (arith, next_part, parts_then, some_pieces, rest_and_more, then_assoc)

  -- where one goes on and the other doesn't, it comes last
  pub bodies_above : (more : List ℕ) → rest ≡ dot ∷ more → begins (λ b. b == dot) other_rest ≡ false
      → Greater ≡ bodies_tie a b
  bodies_above more p ends =
      let here : parts a ≡ take_while is_ascii_alphanumeric a ∷ _ =
      next_part a rest more r p
      ∙ ap (λ (l : List (List ℕ)). take_while is_ascii_alphanumeric a ∷ l)
      (pieces_are is_dot (take_while is_section_byte more)) in
      let there = only_part b other_rest s ends in
      sym (λ i. ordering_then (parts_tie (here i) (there i)) (bytes_cmp (after a) (after b)))

  pub bodies_below : (others : List ℕ) → begins (λ b. b == dot) rest ≡ false
      → other_rest ≡ dot ∷ others → Less ≡ bodies_tie a b
  bodies_below others ends q =
      let here = only_part a rest r ends in
      let there : parts b ≡ take_while is_ascii_alphanumeric b ∷ _ =
      next_part b other_rest others s q
      ∙ ap (λ (l : List (List ℕ)). take_while is_ascii_alphanumeric b ∷ l)
      (pieces_are is_dot (take_while is_section_byte others)) in
      sym (λ i. ordering_then (parts_tie (here i) (there i)) (bytes_cmp (after a) (after b)))

  -- where both end, the last parts compare, and then what follows them
  pub bodies_end : begins (λ b. b == dot) rest ≡ false → begins (λ b. b == dot) other_rest ≡ false
      → ordering_then (last_tie part other) (bytes_cmp rest other_rest) ≡ bodies_tie a b
  bodies_end ends ends_too = grind (arith, only_part, rest_of_last)

-- ---- bytes

-- where one text ends, the lengths decide
one_ends : (x y : List ℕ) → (x ≡ []) ⊎ (y ≡ []) → messy_tie x y ≡ nat_cmp (length x) (length y)
one_ends [] [] end = refl
one_ends [] (b ∷ y) end = nat_cmp_is 0 (length (b ∷ y)) Less (omega arith)
one_ends (b ∷ x) [] end = nat_cmp_is (length (b ∷ x)) 0 Greater (omega arith)
one_ends (a ∷ x) (b ∷ y) (inl none) = cc none
one_ends (a ∷ x) (b ∷ y) (inr none) = cc none

shifted : (o : Ordering) (m n k : ℕ) → MatchOrdering o (m < n) (m ≡ n) (n < m)
    → MatchOrdering o (m + k < n + k) (m + k ≡ n + k) (n + k < m + k)
shifted Less m n k h = omega arith
shifted o m n k h = omega arith

lengths_from : (m n k : ℕ) → nat_cmp m n ≡ nat_cmp (m + k) (n + k)
lengths_from m n k =
    nat_cmp_is (m + k) (n + k) (nat_cmp m n) (shifted (nat_cmp m n) m n k (ranks m n))

pub bytes_end : (x y : List ℕ) (n : ℕ) → n ≤ length x → n ≤ length y
    → (length x ≤ n) ⊎ (length y ≤ n)
    → messy_tie (drop n x) (drop n y) ≡ nat_cmp (length x) (length y)
bytes_end x y n in_x in_y end = grind (arith, drop_all, length-drop, one_ends, lengths_from)
