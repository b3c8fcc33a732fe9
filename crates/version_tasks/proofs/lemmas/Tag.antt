-- The version in a tag, separator by separator.
use Rattle.std.proofs.lemmas.{Bool.cases_Bool, List.drop-drop}
use Rattle.std.specs.{Char.is_ascii_digit, Option.is_some, Option.option_map, Option.option_or, Option.IfSome, Str.bytes_eq}
use Rattle.version_order.specs.texts.Front.{◌>>=◌, starts_with_digit}
use Rattle.version_rules.specs.grammar.Versioning.{versioning_of, versioning_text}
use Rattle.version_rules.proofs.lemmas.Versioning.{versioning_of-spells, versioning_printed}
use Rattle.version_texts.specs.{VersioningRef.plain_versioning_ref, declared.versioning_ref.VersioningRef.VersioningRef}
use Rattle.version_tasks.specs.Tag.{after_prefix, first_below, is_point, is_separator, may_begin, place_in_tag, text_at_beginning, text_in_tag, is_v, text_after_prefix, without_v}
use Rattle.version_tasks.specs.Next.{after_separator}
use Rattle.std.proofs.Common.{◌≡◌, ◌<◌, ◌&&◌, ◌∙◌, if◌then◌else◌, ℕ, zero, suc, Bool, true, false, List, [], ◌∷◌, drop, length, take, Option, Some, None, refl, sym, ap, arith, inl, inr, ◌≤◌, ◌-◌, ◌+◌}

-- ---- the first place that passes a test

shifted : (o : Option ℕ) (b : Bool) (m : ℕ)
    → option_or (option_map suc o) (if b then Some (suc m) else None)
    ≡ option_map suc (option_or o (if b then Some m else None))
shifted None true m = refl
shifted None false m = refl
shifted (Some n) b m = refl

kept : (b : Bool) (o : Option ℕ) (c : Bool) (m : ℕ)
    → option_or (if b then Some 0 else option_map suc o) (if c then Some (suc m) else None)
    ≡ (if b then Some 0 else option_map suc (option_or o (if c then Some m else None)))
kept true o c m = refl
kept false o c m = shifted o c m

first_below-suc : (test : ℕ → Bool) (n : ℕ)
    → first_below test (suc n)
    ≡ (if test 0 then Some 0 else option_map suc (first_below (λ place. test (suc place)) n))
first_below-suc test zero = refl
first_below-suc test (suc n) =
    ap (λ o. option_or o (if test (suc n) then Some (suc n) else None)) (first_below-suc test n)
    ∙ kept (test 0) (first_below (λ place. test (suc place)) n) (test (suc n)) n

-- it is the first place of all if that passes
at_first : (b : Bool) (o : Option ℕ) → b ≡ true → (if b then Some 0 else o) ≡ Some 0
at_first b o h = rw h refl

-- tests that agree have one first place
first_below-same : (one other : ℕ → Bool) → ((place : ℕ) → one place ≡ other place) → (n : ℕ)
    → first_below one n ≡ first_below other n
first_below-same one other same zero = refl
first_below-same one other same (suc n) =
    rw (first_below-same one other same n, same n) refl

-- ---- a text whose first byte may be open

-- whether a version may begin at a place, if the beginning is open or not
abbrev may_begin_from : Bool → List ℕ → ℕ → Bool
may_begin_from open_first text zero = open_first && is_some (text_at_beginning text)
may_begin_from open_first text (suc place) = may_begin text (suc place)

-- the text of the version, by the first of these places
abbrev unless_point : List ℕ → ℕ → Option ℕ
unless_point text place = if is_some (first_below (is_point text) place) then None else Some place

abbrev text_by : List ℕ → Option ℕ → Option (List ℕ)
text_by text place = (place >>= unless_point text) >>= λ place. text_at_beginning (drop place text)

abbrev text_from : Bool → List ℕ → Option (List ℕ)
text_from open_first text =
    text_by text (first_below (may_begin_from open_first text) (length text))

-- what follows a first byte where no version may begin
abbrev behind : Bool → Option (List ℕ) → Option (List ℕ)
behind point rest = if point then None else rest

none_behind : (point : Bool) → None ≡ behind point None
none_behind true = refl
none_behind false = refl

unless_earlier : (b : ℕ) (text : List ℕ) (place : ℕ) (point : Bool) (earlier : Option ℕ)
    → ((if is_some (if point then Some 0 else option_map suc earlier) then None
    else Some (suc place)) >>= λ place. text_at_beginning (drop place (b ∷ text)))
    ≡ behind point
    ((if is_some earlier then None else Some place) >>= λ place.
    text_at_beginning (drop place text))
unless_earlier b text place true earlier = refl
unless_earlier b text place false None = refl
unless_earlier b text place false (Some n) = refl

text_by-suc : (b : ℕ) (text : List ℕ) (o : Option ℕ)
    → text_by (b ∷ text) (option_map suc o) ≡ behind (is_point (b ∷ text) 0) (text_by text o)
text_by-suc b text None = none_behind (is_point (b ∷ text) 0)
text_by-suc b text (Some place) =
    let first : first_below (is_point (b ∷ text)) (suc place)
    ≡ (if is_point (b ∷ text) 0 then Some 0
    else option_map suc (first_below (is_point text) place)) =
    first_below-suc (is_point (b ∷ text)) place in
    ap (λ o. (if is_some o then None else Some (suc place)) >>= λ place.
    text_at_beginning (drop place (b ∷ text))) first
    ∙ unless_earlier b text place (is_point (b ∷ text) 0) (first_below (is_point text) place)

open_places : (text : List ℕ) (place : ℕ) → may_begin_from true text place ≡ may_begin text place
open_places text zero = refl
open_places text (suc place) = refl

same_places : (b : ℕ) (text : List ℕ) (place : ℕ)
    → may_begin (b ∷ text) (suc place) ≡ may_begin_from (is_separator b) text place
same_places b text zero = refl
same_places b text (suc place) = refl

-- where none may begin at the first byte, the rest decides
missed_first : (open_first : Bool) (b : ℕ) (text : List ℕ)
    → (open_first && is_some (text_at_beginning (b ∷ text))) ≡ false
    → text_from open_first (b ∷ text)
    ≡ behind (is_point (b ∷ text) 0) (text_from (is_separator b) text)
missed_first open_first b text none =
    let first : first_below (may_begin_from open_first (b ∷ text)) (suc (length text))
    ≡ option_map suc
    (first_below (λ place. may_begin (b ∷ text) (suc place)) (length text)) =
    first_below-suc (may_begin_from open_first (b ∷ text)) (length text)
    ∙ rw none refl in
    let same : (place : ℕ) → may_begin (b ∷ text) (suc place)
    ≡ may_begin_from (is_separator b) text place =
    same_places b text in
    ap (text_by (b ∷ text)) (first ∙ ap (option_map suc)
    (first_below-same (λ place. may_begin (b ∷ text) (suc place)) (may_begin_from (is_separator b) text)
    same (length text)))
    ∙ text_by-suc b text (first_below (may_begin_from (is_separator b) text) (length text))

-- a tag is open at its beginning
from_open : (text : List ℕ) → text_from true text ≡ text_in_tag text
unfolding place_in_tag
from_open text = ap (text_by text) (first_below-same (may_begin_from true text) (may_begin text)
    (open_places text) (length text))

-- a separator is no digit
separator_no_digit : (b : ℕ) → is_separator b ≡ true → is_ascii_digit b ≡ false
separator_no_digit b separator = elim (cases_Bool (is_ascii_digit b)) [ inl digit ↦ cc | inr other ↦ other ]

separator_no_point : (b : ℕ) (text : List ℕ) → is_separator b ≡ true → is_point (b ∷ text) 0 ≡ false
separator_no_point b text separator = rw (separator_no_digit b separator) refl

-- a byte is passed, unless it is a separator or begins a point
passed_byte : (separator point : Bool) → (separator ≡ true → point ≡ false) → (text : List ℕ)
    → text_from false text ≡ (after_separator text >>= text_in_tag)
    → behind point (text_from separator text)
    ≡ ((if separator then Some text else (if point then None else after_separator text)) >>= text_in_tag)
passed_byte true true apart text rest = cc (apart refl)
passed_byte true false apart text rest = from_open text
passed_byte false true apart text rest = refl
passed_byte false false apart text rest = rest

-- what is left decides, from the next separator on
passed : (text : List ℕ) → text_from false text ≡ (after_separator text >>= text_in_tag)
passed [] = refl
passed (b ∷ text) =
    missed_first false b text refl
    ∙ passed_byte (is_separator b) (is_point (b ∷ text) 0) (separator_no_point b text) text (passed text)

-- ---- how a tag is read

-- the text at the beginning of a tag is that of the version, if a digit comes first
pub begun : (tag : List ℕ) → is_some (text_at_beginning tag) ≡ true
    → text_in_tag tag ≡ text_at_beginning tag
unfolding place_in_tag
begun [] h = refl
begun (b ∷ tag) h =
    ap (text_by (b ∷ tag)) (first_below-suc (may_begin (b ∷ tag)) (length tag)
    ∙ at_first (is_some (text_at_beginning (b ∷ tag))) _ h)

-- else what follows the next separator decides
pub missed : (tag : List ℕ) → is_some (text_at_beginning tag) ≡ false
    → text_in_tag tag ≡ (after_separator tag >>= text_in_tag)
missed [] h = sym (from_open [])
missed (b ∷ tag) h =
    sym (from_open (b ∷ tag)) ∙ missed_first true b tag h ∙ sym (missed_first false b tag refl)
    ∙ passed (b ∷ tag)

shorter_byte : (separator point : Bool) (text rest : List ℕ)
    → (after_separator text ≡ Some rest → length rest < length text)
    → (if separator then Some text else (if point then None else after_separator text)) ≡ Some rest
    → length rest < suc (length text)
shorter_byte true point text rest shorter h =
    let same : text ≡ rest = cc in
    omega (arith, ap (λ (l : List ℕ). length l) same)
shorter_byte false true text rest shorter h = cc
shorter_byte false false text rest shorter h = omega (arith, shorter h)

-- what follows a separator is shorter
pub after_separator_shorter : (text rest : List ℕ) → after_separator text ≡ Some rest
    → length rest < length text
after_separator_shorter [] rest h = cc
after_separator_shorter (b ∷ text) rest h =
    shorter_byte (is_separator b) (is_point (b ∷ text) 0) text rest (after_separator_shorter text rest) h

-- ---- what is read off the text of the version

-- what parses prints the text
pub prints_text : (whole : Option (List ℕ)) (text : List ℕ) (read : Option VersioningRef)
    → Some text ≡ whole → option_map plain_versioning_ref read ≡ versioning_of text
    → IfSome read (λ version. whole ≡ Some (versioning_text (plain_versioning_ref version)))
prints_text whole text None is e = tt
prints_text whole text (Some version) is e =
    let v = plain_versioning_ref version in
    sym is ∙ ap Some (sym (versioning_printed text v (versioning_of-spells text v (sym e))))

-- ---- prefixes

pub no_prefix : (prefix tag : List ℕ) → bytes_eq (take (length prefix) tag) prefix ≡ false
    → after_prefix prefix tag ≡ None
no_prefix prefix tag h = rw h refl

pub with_prefix : (prefix tag rest : List ℕ)
    → bytes_eq (take (length prefix) tag) prefix ≡ true → rest ≡ drop (length prefix) tag
    → after_prefix prefix tag ≡ Some rest
with_prefix prefix tag rest h is = rw (h, is) refl

-- ---- where the version of a tag begins: before a rest of the tag

-- a text is a rest of a longer one, and not empty
pub record IsRest (whole rest : List ℕ) : Type 0 where
  pub some : 0 < length rest
  pub within : length rest ≤ length whole
  pub is : drop (length whole - length rest) whole ≡ rest

-- what is left behind any place is a rest
dropped : (n : ℕ) (whole : List ℕ) → 0 < length (drop n whole) → IsRest whole (drop n whole)
dropped zero whole some = record {
  some = some;
  within = omega arith;
  is = let none : length whole - length whole ≡ 0 = omega arith in rw none refl;
}
dropped (suc n) [] some = absurd (omega (arith, some))
dropped (suc n) (b ∷ whole) some =
    let rest = dropped n whole some in
    let one_more : suc (length whole) - length (drop n whole)
    ≡ suc (length whole - length (drop n whole)) =
    omega (arith, rest.within) in
    record {
      some = some;
      within = omega (arith, rest.within);
      is = rw one_more rest.is;
    }

-- a text without a `v` is a rest of it
without_one : (b : ℕ) (text : List ℕ) (v : Bool)
    → (n : ℕ) × ((if v then text else b ∷ text) ≡ drop n (b ∷ text))
without_one b text true = (1, refl)
without_one b text false = (0, refl)

without : (text : List ℕ) → (n : ℕ) × (without_v text ≡ drop n text)
without [] = (0, refl)
without (b ∷ text) = without_one b text (is_v b)

begun_some : (text : List ℕ) → starts_with_digit text ≡ true → 0 < length text
begun_some [] h = cc
begun_some (b ∷ text) h = omega arith

-- the text at the beginning of what is left behind a place is a rest
pub at_place : (whole text : List ℕ) (place : ℕ)
    → text_at_beginning (drop place whole) ≡ Some text → IsRest whole text
at_place whole text place h =
    let left = drop place whole in
    elim (cases_Bool (starts_with_digit (without_v left))) [
      | inl digit ↦
          let is : text ≡ without_v left = cc in
          let n = without left in
          let at : text ≡ drop (place + n.0) whole =
          is ∙ n.1 ∙ drop-drop n.0 place whole in
          let some : 0 < length (drop (place + n.0) whole) =
          omega (arith, begun_some (without_v left) digit, ap length is, ap length at) in
          rw at (dropped (place + n.0) whole some)
      | inr other ↦ cc
    ]

-- the text of the version in a tag is a rest of it
by_place : (tag text : List ℕ) (place : Option ℕ)
    → (place >>= λ place. text_at_beginning (drop place tag)) ≡ Some text → IsRest tag text
by_place tag text None h = cc
by_place tag text (Some place) h = at_place tag text place h

pub in_tag : (tag text : List ℕ) → text_in_tag tag ≡ Some text → IsRest tag text
in_tag tag text h = by_place tag text (place_in_tag tag) h

-- and so is that after a prefix
by_prefix : (prefix tag text : List ℕ) (b : Bool)
    → ((if b then Some (drop (length prefix) tag) else None) >>= text_at_beginning) ≡ Some text
    → IsRest tag text
by_prefix prefix tag text true h = at_place tag text (length prefix) h
by_prefix prefix tag text false h = cc

pub after_prefix_rest : (prefix tag text : List ℕ) → text_after_prefix prefix tag ≡ Some text
    → IsRest tag text
after_prefix_rest prefix tag text h =
    by_prefix prefix tag text (bytes_eq (take (length prefix) tag) prefix) h
