-- The kind of a text by its pieces is the kind of the version that it parses as.
use Rattle.std.proofs.Common.{◌≡◌, ◌+◌, Bool, ◌∙◌, ℕ, true, false, List, [], ◌∷◌, ◌++◌, length, take, length-append, Option, Some, None, refl, sym, ap, subst, arith, inl, inr, append_assoc, ◌==◌, ◌&&◌, if◌then◌else◌, rules}
use Rattle.std.proofs.lemmas.Bool.{and_from, and_parts, cases_Bool, eq-eqb, eqb-true, or_cases, or_left, or_right, not-true}
use Rattle.std.proofs.lemmas.{List.drop-drop, List.take-append-drop, List.take_at, List.Folds.length-prefix_len}
use Rattle.std.specs.{Char.is_ascii_alphanumeric, Char.is_ascii_digit, Cmp.second_so, Cmp.first_so, List.list_all, List.prefix_len, List.take_while, Option.is_some, Option.option_map, Option.option_or, Str.Parse.digits_value}
use Rattle.version_rules.specs.grammar.Chunk.{PlainChunk, SpellsPart, Numeric, Alphanum, SpellsNumeral}
use Rattle.version_rules.specs.grammar.Versioning.{versioning_kind, PlainVersioning, Ideal, General, Complex, versioning_of}
use Rattle.version_rules.specs.grammar.{Body.PlainBody, Body.SpellsBody, Conversions.version_of_semver, Last.last_of, Last.IsLastOf, Mess.PlainMess, Mess.mess_of, SemVer.PlainSemVer, SemVer.SpellsSemVer, SemVer.semver_of}
use Rattle.version_rules.specs.grammar.Version.{PlainVersion, SpellsEpoch, SpellsVersion, version_of}
use Rattle.version_order.specs.{keys.Lists.split_last, texts.Bytes.colon, texts.Bytes.is_section_byte, texts.Bytes.dot, texts.Cuts.pieces, texts.Cuts.is_dot, texts.Front.is_digits, texts.Grammar.SpellsDotted}
use Rattle.version_rules.proofs.lemmas.{Body.split_last-whole, Chunk.digit_alphanumeric, Last.last_of-is, SemVer.semver_of-Some, SemVer.semver_of-spells, Version.version_of-Some, Version.version_of-spells, Versioning.strict_is_general}
use Rattle.version_order.proofs.lemmas.{Bytes.alphanumeric_no_dot, Bytes.digit_no_dot, Front.cases_Option, Front.prefix_len-append, Runs.behind_mark}
use Rattle.version_texts.specs.Scan.{behind_body, body_end, body_start, digits_len, from_body, has_epoch, shape_at, shape_of, body_of, epoch_is_numeral, is_chunk, is_general, is_numeral, is_tail, has_three_numbers, is_messy, kind_in}
use Rattle.version_texts.proofs.lemmas.scan.Spelled.{dotted_passes, dotted_spells, numeral_passes, numeral_spells, told_by_test, digits_from, JoinedBy, split-append, split_is_joined, split_run}
use Rattle.version_texts.proofs.lemmas.scan.{Complex.mess_kind, Shape.IsCut, Shape.behind_body-is, Shape.from_body-is, Shape.version_cut, Tail.tail_passes, Tail.tail_spells}
use Rattle.version_rules.specs.grammar.Last as last
use Rattle.version_rules.specs.declared.kind.Kind.TheVariants as kind

-- ---- A text spells a general version exactly if its pieces pass the tests of one

-- ---- the text cut into an epoch, a body and a rest

from_body-whole : (text : List ℕ) → from_body text ≡ body_of text ++ behind_body text
unfolding body_end
from_body-whole text =
    let count = prefix_len is_section_byte (from_body text) in
    sym (take-append-drop count (from_body text))
    ∙ ap (λ (l : List ℕ). body_of text ++ l) (drop-drop count (body_start text) text)

pub cut_at_body : (text : List ℕ)
    → text ≡ take (body_start text) text ++ (body_of text ++ behind_body text)
cut_at_body text = grind (arith, take-append-drop, from_body-whole)

-- where the body begins, with an epoch and without
with_epoch : (text : List ℕ) → has_epoch text ≡ true → body_start text ≡ digits_len text + 1
unfolding body_start
with_epoch text h = rw h refl

without_epoch : (text : List ℕ) → has_epoch text ≡ false → body_start text ≡ 0
unfolding body_start
without_epoch text h = rw h refl

taken_behind : (text digits rest : List ℕ) (n : ℕ) → text ≡ digits ++ colon ∷ rest
    → length digits ≡ n → take (n + 1) text ≡ digits ++ colon ∷ []
taken_behind text digits rest n whole count =
    let all : length (digits ++ colon ∷ []) ≡ n + 1 =
    omega (arith, length-append digits (colon ∷ [])) in
    ap (take (n + 1)) (whole ∙ sym (append_assoc digits (colon ∷ []) rest))
    ∙ take_at (digits ++ colon ∷ []) rest (n + 1) all

epoch_taken : (text : List ℕ) → has_epoch text ≡ true
    → take (body_start text) text ≡ take_while is_ascii_digit text ++ colon ∷ []
epoch_taken text here =
    let whole =
    sym (take-append-drop (digits_len text) text)
    ∙ ap (λ (l : List ℕ). take_while is_ascii_digit text ++ l)
    (behind_mark colon text (digits_len text) (second_so _ _ here)) in
    ap (λ (n : ℕ). take n text) (with_epoch text here)
    ∙ taken_behind text (take_while is_ascii_digit text) _ (digits_len text) whole
    (length-prefix_len is_ascii_digit text)

epoch_numeral : (text : List ℕ) → has_epoch text ≡ true → epoch_is_numeral text ≡ true
    → is_numeral (take_while is_ascii_digit text) ≡ true
epoch_numeral text here passes = grind (arith, or_cases, eqb-true, with_epoch)

-- an epoch that passes is spelled
pub epoch_spells : (text : List ℕ) → epoch_is_numeral text ≡ true
    → (o : Option ℕ) × SpellsEpoch (take (body_start text) text) o
unfolding SpellsEpoch
epoch_spells text passes = elim (cases_Bool (has_epoch text)) [
  | inr none ↦ (None, ap (λ (n : ℕ). take n text) (without_epoch text none))
  | inl here ↦
      let digits = take_while is_ascii_digit text in
      let numeral = numeral_spells digits (epoch_numeral text here passes) in
      (Some (digits_value 10 digits), (digits, epoch_taken text here, numeral))
]

-- ---- the body

-- whether the pieces of a text are parts of a body
abbrev are_parts : List ℕ → Bool
are_parts text = list_all (is_chunk is_ascii_alphanumeric) (pieces text)

no_parts : (text : List ℕ) (xs : List PlainChunk) → split_last xs ≡ None
    → ¬ SpellsDotted SpellsPart text xs
unfolding SpellsDotted
no_parts text [] e s = s
no_parts text (x ∷ xs) e s = cc e

parts_spell : (text : List ℕ) (xs : List PlainChunk) → SpellsDotted SpellsPart text xs
    → (body : PlainBody) × SpellsBody text body
parts_spell text xs s = elim (cases_Option (split_last xs)) [
  | inl none ↦ absurd (no_parts text xs none s)
  | inr split ↦ (
    (split.0.0, last_of split.0.1),
    record {
      part = split.0.1;
      parts_are = subst (SpellsDotted SpellsPart text) (split_last-whole xs split.0 split.1) s;
      last_is = last_of-is split.0.1;
    },
  )
]

pub body_spells : (text : List ℕ) → are_parts text ≡ true
    → (body : PlainBody) × SpellsBody text body
body_spells text passes =
    grind (arith, dotted_spells, digit_alphanumeric, alphanumeric_no_dot, parts_spell)

-- ---- both directions

-- the parts of the test
pub record Passes (text : List ℕ) : Type 0 where
  pub epoch : epoch_is_numeral text ≡ true
  pub body : are_parts (body_of text) ≡ true
  pub tail : is_tail (behind_body text) ≡ true

pub general_parts : (text : List ℕ) → is_general text ≡ true → Passes text
general_parts text passes = grind (arith, and_parts)

pub general_is_spelled : (text : List ℕ) → is_general text ≡ true
    → (v : PlainVersion) × SpellsVersion text v
general_is_spelled text passes =
    let told = general_parts text passes in
    let epoch = epoch_spells text told.epoch in
    let body = body_spells (body_of text) told.body in
    let tail = tail_spells (behind_body text) told.tail in
    let start = take (body_start text) text in (
      record {
        epoch = epoch.0;
        chunks = body.0.0;
        last = body.0.1;
        release = tail.chunks;
        meta = tail.bytes;
      },
      record {
        epoch = start;
        body = body_of text;
        release = tail.release;
        meta = tail.meta;
        whole = cut_at_body text ∙ ap (λ (l : List ℕ). start ++ (body_of text ++ l)) tail.whole;
        epoch_is = epoch.1;
        body_is = body.1;
        release_is = tail.release_is;
        meta_is = tail.meta_is;
      },
    )

pub body_of-is : (text epoch body rest : List ℕ) → IsCut text epoch body rest → body_of text ≡ body
body_of-is text epoch body rest cut = grind (arith, from_body-is, prefix_len-append, take_at)

epoch_passes : (text epoch body rest : List ℕ) (o : Option ℕ) → IsCut text epoch body rest
    → SpellsEpoch epoch o → epoch_is_numeral text ≡ true
unfolding SpellsEpoch
epoch_passes text epoch body rest None cut s = grind (arith, or_left, eq-eqb)
epoch_passes text epoch body rest (Some n) cut s =
    let whole : text ≡ s.0 ++ colon ∷ (body ++ rest) =
    cut.whole ∙ ap (λ (l : List ℕ). l ++ (body ++ rest)) s.1
    ∙ append_assoc s.0 (colon ∷ []) (body ++ rest) in
    let count = prefix_len-append is_ascii_digit s.0 (colon ∷ (body ++ rest)) s.2.digits refl in
    let taken : take_while is_ascii_digit text ≡ s.0 =
    ap (take_while is_ascii_digit) whole
    ∙ rw count (take_at s.0 (colon ∷ (body ++ rest)) (length s.0) refl) in
    or_right _ _ (ap is_numeral taken ∙ numeral_passes s.0 n s.2)

pub spelled_is_general : (text : List ℕ) (v : PlainVersion) → SpellsVersion text v
    → is_general text ≡ true
spelled_is_general text v s =
    let rest = s.release ++ s.meta in
    let cut = version_cut text v s in
    let epoch = epoch_passes text s.epoch s.body rest v.epoch cut s.epoch_is in
    let body =
    ap are_parts (body_of-is text s.epoch s.body rest cut)
    ∙ dotted_passes is_ascii_alphanumeric digit_alphanumeric alphanumeric_no_dot s.body
    (v.chunks ++ s.body_is.part ∷ []) s.body_is.parts_are in
    let tail =
    ap is_tail (behind_body-is text s.epoch s.body rest cut)
    ∙ tail_passes s.release s.meta v.release v.meta s.release_is s.meta_is in
    and_from _ _ (and_from _ _ epoch body) tail

-- a text that spells no general version does not pass
pub general_kind : (text : List ℕ) → is_some (version_of text) ≡ is_general text
general_kind text = told_by_test (version_of text) (is_general text)
    (λ v read. spelled_is_general text v (version_of-spells text v read))
    (λ passes. let s = general_is_spelled text passes in (s.0, version_of-Some text s.0 s.1))

-- ---- A text spells a strict version exactly if it spells a general one without an epoch, whose body is
-- three runs of digits.

-- ---- what spells a strict version passes

numeral_alone : (text : List ℕ) (n : ℕ) → SpellsNumeral text n → pieces text ≡ text ∷ []
numeral_alone text n s = split_run is_ascii_digit is_dot digit_no_dot text s.digits

numeral_before : (first others : List ℕ) (n : ℕ) → SpellsNumeral first n
    → pieces (first ++ dot ∷ others) ≡ first ∷ pieces others
numeral_before first others n s = search (rules, split-append, numeral_alone)

-- the pieces of a text are three runs of digits
abbrev AreThree : List ℕ → Type 0
AreThree text = ((length (pieces text) == 3) ≡ true) × (list_all is_digits (pieces text) ≡ true)

three_numerals : (text : List ℕ) (a b c : ℕ)
    → SpellsDotted SpellsPart text (Numeric a ∷ Numeric b ∷ Numeric c ∷ []) → AreThree text
unfolding SpellsDotted
three_numerals text a b c s =
    let behind = s.4 in
    let one : pieces behind.1 ≡ behind.1 ∷ [] = numeral_alone behind.1 c behind.4 in
    let two : pieces s.1 ≡ behind.0 ∷ behind.1 ∷ [] =
    ap pieces behind.2 ∙ numeral_before behind.0 behind.1 b behind.3
    ∙ ap (λ (l : List (List ℕ)). behind.0 ∷ l) one in
    let three : pieces text ≡ s.0 ∷ behind.0 ∷ behind.1 ∷ [] =
    ap pieces s.2 ∙ numeral_before s.0 s.1 a s.3 ∙ ap (λ (l : List (List ℕ)). s.0 ∷ l) two in
    let last_runs = and_from _ _ (digits_from behind.1 c behind.4) refl in
    let runs = and_from _ _ (digits_from behind.0 b behind.3) last_runs in
    rw three (refl, and_from _ _ (digits_from s.0 a s.3) runs)

three_parts : (text : List ℕ) (a b c : ℕ) (part : PlainChunk)
    → SpellsDotted SpellsPart text (Numeric a ∷ Numeric b ∷ part ∷ [])
    → IsLastOf part (last.Numeric c) → AreThree text
three_parts text a b c (Numeric n) s e = three_numerals text a b n s
three_parts text a b c (Alphanum other) s e = absurd e

starts_at_none : (text epoch body rest : List ℕ) → IsCut text epoch body rest
    → SpellsEpoch epoch None → body_start text ≡ 0
unfolding SpellsEpoch
starts_at_none text epoch body rest cut s = cut.starts ∙ ap (λ (l : List ℕ). length l) s

pub strict_has_three : (text : List ℕ) (v : PlainSemVer) → SpellsSemVer text v
    → has_three_numbers text ≡ true
strict_has_three text v s =
    let w = strict_is_general text v s in
    let cut = version_cut text (version_of_semver v) w in
    let body : body_of text ≡ w.body = body_of-is text w.epoch w.body (w.release ++ w.meta) cut in
    let three : AreThree (body_of text) =
    subst AreThree (sym body)
    (three_parts w.body v.major v.minor v.patch w.body_is.part w.body_is.parts_are
    w.body_is.last_is) in
    let start =
    eq-eqb (body_start text) 0
    (starts_at_none text w.epoch w.body (w.release ++ w.meta) cut w.epoch_is) in
    and_from _ _ (and_from _ _ start three.0) three.1

-- ---- what passes spells a strict version

-- the text is three numerals with dots between
record SpellsThree (text : List ℕ) : Type 0 where
  major : List ℕ
  minor : List ℕ
  patch : List ℕ
  whole : text ≡ major ++ dot ∷ (minor ++ dot ∷ patch)
  major_is : SpellsNumeral major (digits_value 10 major)
  minor_is : SpellsNumeral minor (digits_value 10 minor)
  patch_is : SpellsNumeral patch (digits_value 10 patch)

-- a chunk of digits is a numeral
digits_spell : (text : List ℕ) → is_chunk is_ascii_alphanumeric text ≡ true → is_digits text ≡ true
    → SpellsNumeral text (digits_value 10 text)
digits_spell text passes digits = grind (arith, second_so, or_cases, numeral_spells, not-true)

-- the pieces are chunks, and runs of digits
abbrev AllNumerals : List (List ℕ) → Type 0
AllNumerals parts =
    (list_all (is_chunk is_ascii_alphanumeric) parts ≡ true) × (list_all is_digits parts ≡ true)

numerals : (part : List ℕ) (parts : List (List ℕ)) → AllNumerals (part ∷ parts)
    → SpellsNumeral part (digits_value 10 part) × AllNumerals parts
numerals part parts all = grind (arith, digits_spell, first_so, second_so)

at_dot : (text first others : List ℕ) (mark : ℕ) → is_dot mark ≡ true
    → text ≡ first ++ mark ∷ others → text ≡ first ++ dot ∷ others
at_dot text first others mark h e = e ∙ ap (λ (b : ℕ). first ++ b ∷ others) (eqb-true mark dot h)

three_spell : (text : List ℕ) (parts : List (List ℕ)) → JoinedBy is_dot text parts
    → length parts ≡ 3 → AllNumerals parts → SpellsThree text
unfolding JoinedBy
three_spell text [] j count all = absurd j
three_spell text (a ∷ b ∷ c ∷ []) j count all =
    let others = j.4 in
    let first = numerals a (b ∷ c ∷ []) all in
    let second = numerals b (c ∷ []) first.1 in
    let two : j.1 ≡ b ++ dot ∷ c =
    at_dot j.1 b others.1 others.0 others.2 others.3 ∙ ap (λ (l : List ℕ). b ++ dot ∷ l) others.4 in
    record {
      major = a;
      minor = b;
      patch = c;
      whole = at_dot text a j.1 j.0 j.2 j.3 ∙ ap (λ (l : List ℕ). a ++ dot ∷ l) two;
      major_is = first.0;
      minor_is = second.0;
      patch_is = (numerals c [] second.1).0;
    }
three_spell text parts j count all = absurd (omega arith)

regroup : (a b c d : List ℕ) → (a ++ dot ∷ (b ++ dot ∷ c)) ++ d ≡ a ++ dot ∷ (b ++ dot ∷ (c ++ d))
regroup a b c d = simp append_assoc

pub three_is_strict : (text : List ℕ) → is_general text ≡ true → has_three_numbers text ≡ true
    → (v : PlainSemVer) × SpellsSemVer text v
three_is_strict text passes has_three =
    let told = general_parts text passes in
    let parts = pieces (body_of text) in
    let tail = tail_spells (behind_body text) told.tail in
    let both =
    and_parts (body_start text == 0 && length parts == 3) (list_all is_digits parts) has_three in
    let first = and_parts (body_start text == 0) (length parts == 3) both.0 in
    let start = eqb-true (body_start text) 0 first.0 in
    let joined = split_is_joined is_dot (body_of text) in
    let count = eqb-true (length parts) 3 first.1 in
    let three = three_spell (body_of text) parts joined count (told.body, both.1) in (
      record {
        major = digits_value 10 three.major;
        minor = digits_value 10 three.minor;
        patch = digits_value 10 three.patch;
        pre_rel = tail.chunks;
        meta = tail.bytes;
      },
      record {
        major = three.major;
        minor = three.minor;
        patch = three.patch;
        pre_rel = tail.release;
        meta = tail.meta;
        whole =
            cut_at_body text
            ∙ ap (λ (n : ℕ). take n text ++ (body_of text ++ behind_body text)) start
            ∙ (λ i. three.whole i ++ tail.whole i)
            ∙ regroup three.major three.minor three.patch (tail.release ++ tail.meta);
        major_is = three.major_is;
        minor_is = three.minor_is;
        patch_is = three.patch_is;
        pre_rel_is = tail.release_is;
        meta_is = tail.meta_is;
      },
    )

-- a text that spells no strict version does not pass
pub strict_kind : (text : List ℕ)
    → is_some (semver_of text) ≡ (is_general text && has_three_numbers text)
strict_kind text = told_by_test (semver_of text) (is_general text && has_three_numbers text)
    (λ v read.
    let s = semver_of-spells text v read in
    let general = spelled_is_general text (version_of_semver v) (strict_is_general text v s) in
    and_from (is_general text) (has_three_numbers text) general (strict_has_three text v s))
    (λ passes.
    let both = and_parts (is_general text) (has_three_numbers text) passes in
    let s = three_is_strict text both.0 both.1 in (s.0, semver_of-Some text s.0 s.1))

mapped : (text : List ℕ) (o : Option PlainVersioning)
    → option_map (λ k. shape_at k text) (option_map versioning_kind o)
    ≡ option_map (λ v. shape_at (versioning_kind v) text) o
mapped text None = refl
mapped text (Some v) = refl

-- the kind of the first that reads a text is that of the first test that passes
first_kind : (o : Option PlainSemVer) (p : Option PlainVersion) (q : Option PlainMess)
    (general three messy : Bool) → is_some o ≡ (general && three) → is_some p ≡ general
    → is_some q ≡ messy → option_map versioning_kind
    (option_or (option_map Ideal o) (option_or (option_map General p) (option_map Complex q)))
    ≡ (if general then Some (if three then kind.Ideal else kind.General)
    else (if messy then Some kind.Complex else None))
first_kind (Some v) p q true true messy e f g = refl
first_kind (Some v) p q true false messy e f g = cc e
first_kind (Some v) p q false three messy e f g = cc e
first_kind None (Some v) q true false messy e f g = refl
first_kind None None (Some m) false three true e f g = refl
first_kind None None None false three false e f g = refl
first_kind o p q general three messy e f g = cc (e, f, g)

pub kind_law : (text : List ℕ) → option_map versioning_kind (versioning_of text) ≡ kind_in text
kind_law text = first_kind (semver_of text) (version_of text) (mess_of text) (is_general text)
    (has_three_numbers text) (is_messy text) (strict_kind text) (general_kind text) (mess_kind text)

-- the shape of a text, by the kind that its pieces give
pub shape_law : (text : List ℕ) → option_map (λ k. shape_at k text) (kind_in text) ≡ shape_of text
shape_law text = rw (← kind_law text) (mapped text (versioning_of text))
