-- Chunks of messy versions that have one key compare by their texts, and so do zeros and any chunk.
use Rattle.std.proofs.Common.{◌≡◌, ◌==◌, ◌∙◌, ◌<◌, ◌≢◌, ℕ, true, false, List, [], ◌∷◌, ◌++◌, drop, length, Some, None, refl, sym, ap, arith, inl, inr, append-nil, ◌⊎◌, map}
use Rattle.std.proofs.lemmas.{Bool.cases_Bool, Bool.eqb-false, Bool.eqb-true, Bool.Decides.nat_tests, Cmp.nat_cmp_total, Cmp.tied_itself, List.take-append-drop}
use Rattle.std.specs.Cmp.{first_so, nat_cmp_is, second_so, IsTotalOrder, on_total, then_total}
use Rattle.std.specs.{Char.is_ascii_alphanumeric, Char.is_ascii_digit, Cmp.Lexicographic.lists_total, Cmp.Lexicographic.nat_list_cmp_total, Cmp.Lexicographic.slice_cmp, FinMap.nat_cmp-IsAntisymmetric}
use Rattle.std.specs.{List.before_first, List.list_all, List.position_or_len, List.prefix_len, Ordering.nat_cmp, Ordering.ordering_then, Str.Parse.digits_value, declared.cmp.Ordering.Ordering}
use Rattle.std.specs.declared.cmp.Ordering.TheVariants.{Less, Equal, Greater}
use Rattle.version_order.specs.texts.Front.{is_digits, number_front, run_value, starts_with_digit, behind_digits}
use Rattle.version_order.specs.{keys.Codes.then_first, keys.Codes.bytes_same, keys.Lists.bytes_cmp, texts.Cuts.from_first, texts.Grammar.Colon, texts.Grammar.sep_plain_cmp}
use Rattle.version_rules.specs.grammar.MChunk.{Digits, Plain, PlainMChunk, Rev, SpellsDigits, SpellsMChunk, SpellsRevision, mchunk_plain_cmp, mchunk_text}
use Rattle.version_rules.specs.grammar.Mess.{Further, PlainMess, Section, SpellsMess, further_plain_cmp, mess_plain_cmp, section_plain_cmp}
use Rattle.version_rules.specs.key.Key.{Key, key_of_mess, key_of_sections, mess_epoch, precedence, section_epoch, sections_tail}
use Rattle.version_rules.specs.key.PartKey.{Number, Word, part_key, suffix_of, PartKey, section_parts, Split, split_of}
use Rattle.version_rules.specs.laws.{Last.sep_total, Versioning.mess_total}
use Rattle.version_rules.proofs.lemmas.{Key.part_key-digits, Key.part_key-word, MChunk.spelled_run, Mess.mess_printed, Numeral.split_of-digits, Order.keys_same}
use Rattle.version_order.proofs.lemmas.{Front.all_weaker, Front.take_while-all, NumberBytes.numbers_compared, NumberBytes.is_zero, Orders.then_decided, Runs.run_is}
use Rattle.version_texts.specs.Order.{messy_tie}
use Rattle.version_texts.proofs.lemmas.Places.{AreChunks, AreSections, HasSections, IsSection, further_texts_cmp, mess_texts_cmp, spelled_sections, texts_cmp, texts_compare}
use Rattle.version_texts.proofs.lemmas.scan.Complex.{alone, apart, uncounted}

-- ---- the texts that a number or a word is the key of

-- a text of which nothing is left after its number is digits of that value
whole_number : (text : List ℕ) (n : ℕ) → number_front text ≡ Some (n, [])
    → (is_digits text ≡ true) × (digits_value 10 text ≡ n)
whole_number text n e = elim (cases_Bool (starts_with_digit text)) [
  | inl digit ↦
      let front : (run_value text, behind_digits text) ≡ (n, []) = cc (rw digit at e) in
      let rest : behind_digits text ≡ [] = ap (λ (p : ℕ × List ℕ). p.1) front in
      let all : list_all is_ascii_digit text ≡ true =
      sym (run_is is_ascii_digit text) ∙ ap (λ (l : List ℕ). length l == 0) rest in
      let value : digits_value 10 text ≡ n =
      ap (digits_value 10) (sym (take_while-all is_ascii_digit text all))
      ∙ ap (λ (p : ℕ × List ℕ). p.0) front in
      (rw (digit, all) refl, value)
  | inr other ↦ cc (rw other at e)
]

no_suffix : (text : List ℕ) → suffix_of text ≡ None → text ≡ []
no_suffix [] e = refl
no_suffix (b ∷ text) e = cc e

-- the key of digits, and that only digits have it
pub digits_key : (text : List ℕ) → is_digits text ≡ true
    → part_key text ≡ Number (digits_value 10 text) None
digits_key text digits = rw append-nil at (part_key-digits text [] digits refl)

pub number_key : (text : List ℕ) (n : ℕ) → part_key text ≡ Number n None
    → (is_digits text ≡ true) × (digits_value 10 text ≡ n)
number_key text n e = grind (arith, cases_Bool, no_suffix, whole_number, part_key-word)

-- the key of a word, and that only a text that begins with no digit has it
word_key : (text : List ℕ) (split : Split) → part_key text ≡ Word split → split_of text ≡ split
word_key text split e = grind (arith, cases_Bool, part_key-word)

-- ---- variants

-- a text that has the key of digits is digits of the same value
digits_alike : (text other : List ℕ) (n : ℕ) → SpellsDigits text n
    → part_key text ≡ part_key other → SpellsDigits other n
digits_alike text other n s e =
    let key : part_key text ≡ Number n None =
    digits_key text s.digits ∙ ap (λ value. Number value None) s.value_is in
    let both = number_key other n (sym e ∙ key) in
    record { digits = both.0; value_is = both.1; fits = s.fits }

-- the key of an r and digits
revision_key : (digits : List ℕ) (n : ℕ) → SpellsDigits digits n
    → part_key (114 ∷ digits) ≡ Word (record { before = 114 ∷ []; number = Some (n, []) })
revision_key digits n s =
    let split : split_of (114 ∷ digits)
    ≡ record { before = 114 ∷ []; number = Some (digits_value 10 digits, []) } =
    rw append-nil at (split_of-digits (114 ∷ []) digits [] refl s.digits refl) in
    part_key-word (114 ∷ digits) refl
    ∙ ap Word split
    ∙ ap (λ value. Word (record { before = 114 ∷ []; number = Some (value, []) })) s.value_is

-- a text that has the key of a revision is one of the same value
revision_alike : (text other : List ℕ) (n : ℕ) → SpellsRevision text n
    → part_key text ≡ part_key other → SpellsRevision other n
revision_alike text other n s e =
    let key = sym e ∙ ap part_key s.1 ∙ revision_key s.0 n s.2 in
    let split = word_key other (record { before = 114 ∷ []; number = Some (n, []) }) key in
    let tail = from_first is_ascii_digit other in
    let before : before_first is_ascii_digit other ≡ 114 ∷ [] =
    ap (λ (s : Split). s.before) split in
    let whole : other ≡ 114 ∷ tail =
    sym (take-append-drop (position_or_len is_ascii_digit other) other)
    ∙ ap (λ (l : List ℕ). l ++ tail) before in
    let both = whole_number tail n (ap (λ (s : Split). s.number) split) in
    (tail, whole, record { digits = both.0; value_is = both.1; fits = s.2.fits })

revision_no_digits : (text : List ℕ) (m n : ℕ) → SpellsRevision text m → ¬ SpellsDigits text n
revision_no_digits text m n s d = grind arith

same_value : (text : List ℕ) (m n : ℕ) → SpellsDigits text m → SpellsDigits text n → m ≡ n
same_value text m n s t = sym s.value_is ∙ t.value_is

-- numbers that are the same do not count before what follows
values_tied : (m n : ℕ) (xs ys : List ℕ) → m ≡ n
    → ordering_then (nat_cmp m n) (bytes_cmp xs ys) ≡ bytes_cmp xs ys
values_tied m n xs ys e = grind (arith, tied_itself, nat_cmp_total)

-- chunks that have one key compare by their texts
pub tied_chunks : (c d : PlainMChunk) → SpellsMChunk (mchunk_text c) c
    → SpellsMChunk (mchunk_text d) d → part_key (mchunk_text c) ≡ part_key (mchunk_text d)
    → mchunk_plain_cmp c d ≡ bytes_cmp (mchunk_text c) (mchunk_text d)
tied_chunks (Digits m text) (Digits n other) s t e =
    values_tied m n text other (same_value other m n (digits_alike text other m s.1 e) t.1)
tied_chunks (Digits m text) (Rev n other) s t e =
    absurd (revision_no_digits other n m t.1 (digits_alike text other m s.1 e))
tied_chunks (Digits m text) (Plain other) s t e =
    absurd (t.1.no_digits m (digits_alike text other m s.1 e))
tied_chunks (Rev m text) (Digits n other) s t e =
    absurd (revision_no_digits text m n s.1 (digits_alike other text n t.1 (sym e)))
tied_chunks (Rev m text) (Rev n other) s t e =
    let here = revision_alike text other m s.1 e in
    let tails : 114 ∷ here.0 ≡ 114 ∷ t.1.0 = sym here.1 ∙ t.1.1 in
    let same : here.0 ≡ t.1.0 = cc tails in
    values_tied m n text other
    (sym here.2.value_is ∙ ap (digits_value 10) same ∙ t.1.2.value_is)
tied_chunks (Rev m text) (Plain other) s t e =
    absurd (t.1.no_revision m (revision_alike text other m s.1 e))
tied_chunks (Plain text) (Digits n other) s t e =
    absurd (s.1.no_digits n (digits_alike other text n t.1 (sym e)))
tied_chunks (Plain text) (Rev n other) s t e =
    absurd (s.1.no_revision n (revision_alike other text n t.1 (sym e)))
tied_chunks (Plain text) (Plain other) s t e = refl

-- ---- zeros

-- digits are zeros exactly if their value is 0
value_of_zeros : (text : List ℕ) → list_all is_zero text ≡ true → digits_value 10 text ≡ 0
value_of_zeros [] all = refl
value_of_zeros (b ∷ text) all =
    let zero : b ≡ 48 = eqb-true b 48 (first_so _ _ all) in
    rw zero (value_of_zeros text (second_so _ _ all))

zeros_of_value : (text : List ℕ) → list_all is_ascii_digit text ≡ true
    → digits_value 10 text ≡ 0 → list_all is_zero text ≡ true
zeros_of_value text all e =
    let left = drop (prefix_len is_zero text) text in
    let tied : nat_cmp (digits_value 10 text) (digits_value 10 []) ≡ Equal =
    ap (λ n. nat_cmp n 0) e in
    let count : length left ≡ 0 =
    nat_cmp-IsAntisymmetric (length left) 0
    (then_first _ _ (sym (numbers_compared text [] all refl) ∙ tied)) in
    sym (run_is is_zero text) ∙ ap (λ n. n == 0) count

digits_are_zeros : (text : List ℕ) (n : ℕ) → SpellsDigits text n → n ≡ 0
    → list_all is_zero text ≡ true
digits_are_zeros text n s e =
    zeros_of_value text (second_so _ _ s.digits) (s.value_is ∙ e)

-- zeros come before any other letters and digits
above_zero : (b : ℕ) → is_ascii_alphanumeric b ≡ true → b ≢ 48 → 48 < b
above_zero b h other = grind (arith, nat_tests)

zeros_first : (zeros text : List ℕ) → list_all is_zero zeros ≡ true
    → list_all is_ascii_alphanumeric text ≡ true → list_all is_zero text ≡ false
    → bytes_cmp zeros text ≡ Less
zeros_first zeros [] all run other = cc other
zeros_first [] (b ∷ text) all run other = refl
zeros_first (z ∷ zeros) (b ∷ text) all run other =
    let zero : z ≡ 48 = eqb-true z 48 (first_so _ _ all) in
    elim (cases_Bool (b == 48)) [
      | inl same ↦
          let is : b ≡ 48 = eqb-true b 48 same in
          rw (zero, is)
          (zeros_first zeros text (second_so _ _ all) (second_so _ _ run) (rw same at other))
      | inr differs ↦
          let less : 48 < b = above_zero b (first_so _ _ run) (eqb-false b 48 differs) in
          rw zero
          (ap (λ o. ordering_then o (bytes_cmp zeros text)) (sym (nat_cmp_is 48 b Less less)))
    ]

zero_is_digit : (b : ℕ) → is_zero b ≡ true → is_ascii_digit b ≡ true
zero_is_digit b h = rw (eqb-true b 48 h) refl

some_zeros : (text : List ℕ) → text ≢ [] → list_all is_zero text ≡ true → is_digits text ≡ true
some_zeros [] some all = absurd (some refl)
some_zeros (b ∷ text) some all =
    let zero : b ≡ 48 = eqb-true b 48 (first_so _ _ all) in
    rw zero (all_weaker is_zero is_ascii_digit zero_is_digit text (second_so _ _ all))

-- zeros and a chunk compare by their texts
zeros_below : (zeros : List ℕ) (c : PlainMChunk) → list_all is_zero zeros ≡ true
    → SpellsMChunk (mchunk_text c) c → list_all is_zero (mchunk_text c) ≡ false
    → mchunk_plain_cmp (Digits 0 zeros) c ≡ Less
zeros_below zeros (Digits n text) all s other =
    let some : n ≢ 0 = λ e. cc (digits_are_zeros text n s.1 e, other) in
    let less : 0 < n = omega arith in
    ap (λ o. ordering_then o (bytes_cmp zeros text)) (sym (nat_cmp_is 0 n Less less))
zeros_below zeros c all s other = refl

zeros_alike : (zeros : List ℕ) (c : PlainMChunk) → SpellsMChunk (mchunk_text c) c
    → list_all is_zero (mchunk_text c) ≡ true
    → mchunk_plain_cmp (Digits 0 zeros) c ≡ bytes_cmp zeros (mchunk_text c)
zeros_alike zeros (Digits n text) s all =
    values_tied 0 n zeros text (sym (value_of_zeros text all) ∙ s.1.value_is)
zeros_alike zeros (Rev n text) s all = cc (rw s.1.1 at all)
zeros_alike zeros (Plain text) s all =
    absurd (s.1.no_digits 0 (record {
      digits = some_zeros text s.1.some all;
      value_is = value_of_zeros text all;
      fits = omega arith;
    }))

pub zeros_compare : (zeros : List ℕ) (c : PlainMChunk) → SpellsDigits zeros 0
    → SpellsMChunk (mchunk_text c) c
    → mchunk_plain_cmp (Digits 0 zeros) c ≡ bytes_cmp zeros (mchunk_text c)
zeros_compare zeros c z s =
    let all = digits_are_zeros zeros 0 z refl in
    elim (cases_Bool (list_all is_zero (mchunk_text c))) [
      | inl same ↦ zeros_alike zeros c s same
      | inr other ↦
          zeros_below zeros c all s other
          ∙ sym (zeros_first zeros (mchunk_text c) all (spelled_run (mchunk_text c) c s) other)
    ]

-- ---- messy versions of one key compare field by field as their texts do by the places of their bytes

-- ---- sections of one key

some_chunks : (cs : Section) → IsSection cs → AreChunks cs
some_chunks [] s = absurd s
some_chunks (c ∷ cs) s = s

sections_tied : (cs ds : Section) → AreChunks cs → AreChunks ds
    → section_parts cs ≡ section_parts ds → section_plain_cmp cs ds ≡ texts_cmp cs ds
sections_tied [] [] s t e = refl
sections_tied (c ∷ cs) (d ∷ ds) s t e =
    let first : part_key (mchunk_text c) ≡ part_key (mchunk_text d) = cc e in
    let more : section_parts cs ≡ section_parts ds = cc e in
    λ i. ordering_then (tied_chunks c d s.0 t.0 first i) (sections_tied cs ds s.1 t.1 more i)
sections_tied cs ds s t e = refl

-- the parts of further sections
abbrev further_parts : List Further → List (List PartKey)
further_parts = map (λ (f : Further). section_parts f.1)

further_tied : (xs ys : List Further) → AreSections xs → AreSections ys
    → further_parts xs ≡ further_parts ys
    → slice_cmp further_plain_cmp xs ys ≡ slice_cmp further_texts_cmp xs ys
further_tied [] [] s t e = refl
further_tied (f ∷ xs) (g ∷ ys) s t e =
    let first : section_parts f.1 ≡ section_parts g.1 = cc e in
    let more : further_parts xs ≡ further_parts ys = cc e in
    let section =
    sections_tied f.1 g.1 (some_chunks f.1 s.0) (some_chunks g.1 t.0) first in
    λ i. ordering_then (ordering_then (sep_plain_cmp f.0 g.0) (section i))
    (further_tied xs ys s.1 t.1 more i)
further_tied xs ys s t e = refl

tails_tied : (xs ys : List Further) → sections_tail xs ≡ sections_tail ys
    → further_parts xs ≡ further_parts ys
tails_tied [] [] e = refl
tails_tied (f ∷ xs) [] e = cc e
tails_tied xs ys e = cc e

-- versions whose sections have the same parts, one by one
parts_tied : (a b : PlainMess) → HasSections a → HasSections b
    → section_parts a.first ≡ section_parts b.first → further_parts a.more ≡ further_parts b.more
    → mess_plain_cmp a b ≡ mess_texts_cmp a b
parts_tied a b s t first more = grind (arith, sections_tied, some_chunks, further_tied)

-- ---- the epoch

-- a version without an epoch, and one whose first section is its epoch
record NoEpoch (m : PlainMess) : Type 0 where
  pub key_is : key_of_mess m ≡ key_of_sections 0 m.first m.more
  pub uncounted_is : mess_epoch m.first m.more ≡ None

record HasEpoch (m : PlainMess) : Type 0 where
  pub epoch : PlainMChunk
  pub body : Section
  pub more : List Further
  pub first_is : m.first ≡ epoch ∷ []
  pub more_is : m.more ≡ (Colon, body) ∷ more
  pub digits : is_digits (mchunk_text epoch) ≡ true
  pub key_is : key_of_mess m ≡ key_of_sections (digits_value 10 (mchunk_text epoch)) body more

abbrev mess : Section → List Further → PlainMess
mess first more = record { first = first; more = more }

epoch_of : (first : Section) (more : List Further)
    → NoEpoch (mess first more) ⊎ HasEpoch (mess first more)
epoch_of first [] = inl (record { key_is = alone (section_epoch first) first; uncounted_is = refl })
epoch_of [] ((Colon, body) ∷ more) = inl (record { key_is = refl; uncounted_is = refl })
epoch_of (c ∷ []) ((Colon, body) ∷ more) = elim (cases_Bool (is_digits (mchunk_text c))) [
  | inl digits ↦ inr (record {
    epoch = c;
    body = body;
    more = more;
    first_is = refl;
    more_is = refl;
    digits = digits;
    key_is = rw digits refl;
  })
  | inr other ↦ inl (record { key_is = rw other refl; uncounted_is = rw other refl })
]
epoch_of (c ∷ d ∷ cs) ((Colon, body) ∷ more) = inl (record { key_is = refl; uncounted_is = refl })
epoch_of first ((sign, body) ∷ more) = inl (record {
  key_is = apart (section_epoch first) first sign body more refl;
  uncounted_is = uncounted first sign body more refl;
})

-- two versions with epochs, and two without
epochs_tied : (a b : PlainMess) → HasSections a → HasSections b → HasEpoch a → HasEpoch b
    → key_of_mess a ≡ key_of_mess b → mess_plain_cmp a b ≡ mess_texts_cmp a b
epochs_tied a b s t p q e = grind (arith, digits_key, tails_tied, parts_tied)

none_tied : (a b : PlainMess) → HasSections a → HasSections b → NoEpoch a → NoEpoch b
    → key_of_mess a ≡ key_of_mess b → mess_plain_cmp a b ≡ mess_texts_cmp a b
none_tied a b s t p q e = grind (arith, parts_tied, tails_tied)

-- an epoch of zeros compares with any chunk by their texts
zero_epoch : (c d : PlainMChunk) → SpellsMChunk (mchunk_text c) c → SpellsMChunk (mchunk_text d) d
    → is_digits (mchunk_text c) ≡ true → digits_value 10 (mchunk_text c) ≡ 0
    → mchunk_plain_cmp c d ≡ bytes_cmp (mchunk_text c) (mchunk_text d)
zero_epoch (Digits n text) d s t digits value =
    let none : n ≡ 0 = sym s.1.value_is ∙ value in
    let zeros : SpellsDigits text 0 =
    record { digits = digits; value_is = value; fits = omega arith } in
    ap (λ n. mchunk_plain_cmp (Digits n text) d) none ∙ zeros_compare text d zeros t
zero_epoch (Rev n text) d s t digits value = cc (rw s.1.1 at digits)
zero_epoch (Plain text) d s t digits value =
    absurd (s.1.no_digits 0 (record { digits = digits; value_is = value; fits = omega arith }))

-- what is not Equal decides, whatever follows
settled : (o a b : Ordering)
    → ordering_then (ordering_then o Less) a ≡ ordering_then (ordering_then o Less) b
settled Less a b = refl
settled o a b = refl

not_epoch : (d : PlainMChunk) → section_epoch (d ∷ []) ≡ None → is_digits (mchunk_text d) ≡ false
not_epoch d e = grind (arith, cases_Bool)

-- a version with an epoch of zeros and one without an epoch
module _ (c : PlainMChunk) (body : Section) (more : List Further)
    (s : SpellsMChunk (mchunk_text c) c) (digits : is_digits (mchunk_text c) ≡ true)
    (value : digits_value 10 (mchunk_text c) ≡ 0) where
  abbrev epoch_first : List Further
  epoch_first = (Colon, body) ∷ more

  zero_first : (first : Section) (others : List Further) → IsSection first
      → mess_epoch first others ≡ None
      → ordering_then (section_plain_cmp (c ∷ []) first)
      (slice_cmp further_plain_cmp epoch_first others)
      ≡ ordering_then (texts_cmp (c ∷ []) first) (slice_cmp further_texts_cmp epoch_first others)
  zero_first [] others t none = absurd t
  zero_first (d ∷ e ∷ es) others t none =
      (λ i. ordering_then (ordering_then (zero_epoch c d s t.0 digits value i) Less)
      (slice_cmp further_plain_cmp epoch_first others))
      ∙ settled (bytes_cmp (mchunk_text c) (mchunk_text d)) _ _
  zero_first (d ∷ []) [] t none =
      λ i. ordering_then (ordering_then (zero_epoch c d s t.0 digits value i) Equal) Greater
  zero_first (d ∷ []) ((Colon, section) ∷ others) t none =
      let differ : ¬ (ordering_then (bytes_cmp (mchunk_text c) (mchunk_text d)) Equal ≡ Equal) =
      λ tied.
      let same = bytes_same (mchunk_text c) (mchunk_text d) (then_first _ _ tied) in
      cc (ap is_digits same, digits, not_epoch d none) in
      (λ i. ordering_then (ordering_then (zero_epoch c d s t.0 digits value i) Equal)
      (slice_cmp further_plain_cmp epoch_first ((Colon, section) ∷ others)))
      ∙ then_decided _ _ _ differ
  zero_first (d ∷ []) ((sign, section) ∷ others) t none =
      λ i. ordering_then (ordering_then (zero_epoch c d s t.0 digits value i) Equal) Less

zero_tied : (a b : PlainMess) → HasSections a → HasSections b → HasEpoch a → NoEpoch b
    → key_of_mess a ≡ key_of_mess b → mess_plain_cmp a b ≡ mess_texts_cmp a b
zero_tied a b s t p q e =
    let value = ap (λ (k : Key). k.epoch) (sym p.key_is ∙ e ∙ q.key_is) in
    let chunk = rw p.first_is at s.first_is in
    rw (p.first_is, p.more_is)
    (zero_first p.epoch p.body p.more chunk.0 p.digits value b.first b.more t.first_is
    q.uncounted_is)

-- ---- versions

texts_total : IsTotalOrder mess_texts_cmp
texts_total =
    let sections : IsTotalOrder texts_cmp = lists_total (on_total mchunk_text nat_list_cmp_total) in
    let further : IsTotalOrder further_texts_cmp =
    then_total (on_total (λ (f : Further). f.0) sep_total)
    (on_total (λ (f : Further). f.1) sections) in
    then_total (on_total (λ (m : PlainMess). m.first) sections)
    (on_total (λ (m : PlainMess). m.more) (lists_total further))

messes_tied : (a b : PlainMess) → HasSections a → HasSections b
    → key_of_mess a ≡ key_of_mess b → mess_plain_cmp a b ≡ mess_texts_cmp a b
messes_tied a b s t e =
    grind (arith, epoch_of, none_tied, mess_total, zero_tied, texts_total, epochs_tied)

-- texts of messy versions of one key compare as the versions do
pub messy_decides : (text other : List ℕ) (a b : PlainMess) → SpellsMess text a
    → SpellsMess other b → precedence (key_of_mess a) (key_of_mess b) ≡ Equal
    → messy_tie text other ≡ mess_plain_cmp a b
messy_decides text other a b s t tied =
    let here = spelled_sections text a s in
    let there = spelled_sections other b t in
    (λ i. messy_tie (sym (mess_printed text a s) i) (sym (mess_printed other b t) i))
    ∙ texts_compare a b here there
    ∙ sym (messes_tied a b here there (keys_same _ _ tied))
