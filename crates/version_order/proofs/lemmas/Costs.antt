-- How many bytes a key has at most: so many for each byte of its text, and so many beside.
use Rattle.std.proofs.Common.{◌≡◌, ◌∙◌, ◌<◌, ◌≤◌, ◌+◌, ◌*◌, ◌⊎◌, [], ℕ, zero, suc, inl, inr, length-append, Bool, List, ◌∷◌, Option, None, Some, IfSome, false, true, ap, arith, if◌then◌else◌, length, refl, ◌==◌, drop, sym, take}
use Rattle.std.proofs.Math.Nat.{mul-le-mul_left}
use Rattle.version_order.proofs.lemmas.{Codes.ends_within, Cuts.cut_last-length, Cuts.epoch_length, Front.list_all-take_while, NumberBytes.number_length, Runs.run_cons}
use Rattle.version_order.specs.texts.Front.{behind_digits, number_front, run_value, starts_with_digit, Front, behind, begins, map_value, optional, repeated, whole}
use Rattle.version_order.specs.{Facts.PlainFacts, Facts.key_room, Keyed.AreWithin, Keyed.KeysAreWithin, Keyed.by_key, keys.Codes.list_bytes, keys.Codes.items_bytes, keys.Codes.number_bytes, texts.Cuts.cut_last, texts.Cuts.split_epoch}
use Rattle.std.proofs.lemmas.{Bool.cases_Bool, List.take-append-drop}
use Rattle.std.specs.{Char.is_ascii_digit, List.list_all, List.take_while, Option.option_map, Option.option_map_or, Option.option_or, Prelude.option_and_then, Str.Parse.digits_value}

-- the keys of what is read have at most this many bytes for each byte of a text, and this many beside
abbrev pub KeysCost : {A : Type 0} → (List ℕ → Option A) → (A → List ℕ) → ℕ → ℕ → Type 0
KeysCost read code per beside = (text : List ℕ) → IfSome (read text) (λ v. length (code v) ≤ length text * per + beside)

-- so no end of a range is too long
module _ {A : Type 0} (read : List ℕ → Option A) (code : A → List ℕ) (facts : PlainFacts)
    (cost : KeysCost read code facts.per_byte facts.beside) where
  keys_within : KeysAreWithin (λ text. option_map code (read text)) (key_room facts)
  keys_within text key n e short = by (read text) (cost text) e
    where
      by : (o : Option A) → IfSome o (λ v. length (code v) ≤ key_room facts (length text)) → option_map code o ≡ Some key
          → length key ≤ key_room facts n
      by None fits e = cc e
      by (Some v) fits e =
          let same : code v ≡ key = cc e in
          let more : length text * facts.per_byte ≤ n * facts.per_byte =
          omega (arith, mul-le-mul_left facts.per_byte short) in
          omega (arith, fits, more, ap (λ (l : List ℕ). length l) same)

  pub ends_cost : AreWithin (λ text. option_map (λ v. by_key (code v)) (read text)) (key_room facts)
  ends_cost = ends_within read code (key_room facts) keys_within

-- ---- what is read, step by step

pub some_if : {A : Type 0} (P : A → Type 0) (is : Bool) (v : A) → P v → IfSome (if is then Some v else None) P
some_if P true v holds = holds
some_if P false v holds = tt

pub some_map : {A B : Type 0} (P : B → Type 0) (f : A → B) (o : Option A) → IfSome o (λ v. P (f v))
    → IfSome (option_map f o) P
some_map P f None holds = tt
some_map P f (Some v) holds = holds

pub some_then : {A B : Type 0} (P : B → Type 0) (f : A → Option B) (o : Option A) → IfSome o (λ v. IfSome (f v) P)
    → IfSome (option_and_then f o) P
some_then P f None holds = tt
some_then P f (Some v) holds = holds

-- a text as it is, or cut at the last byte of a kind
pub where_cut : (at : ℕ) (text : List ℕ) (P : Option (List ℕ × List ℕ) → Type 0) → P None
    → ((cut : List ℕ × List ℕ) → length text ≡ length cut.0 + 1 + length cut.1 → P (Some cut)) → P (cut_last at text)
where_cut at text P none some = grind (arith, cut_last-length)

-- what stands behind an epoch has fewer bytes by those of the epoch
behind_epoch : (epoch behind whole per beside size : ℕ) → 2 ≤ per → epoch + 2 * behind ≤ 2 * whole + 1
    → size ≤ epoch + (behind * per + beside) → size ≤ whole * per + (beside + 1)
behind_epoch epoch behind whole per beside size enough shorter fits = grind (arith, fits, mul-le-mul_left)

-- an epoch costs two bytes for each of its digits, and one where there is none
pub epoch_costs : {A : Type 0} (behind : ℕ → List ℕ → Option A) (code : A → List ℕ) (most per beside : ℕ) → 2 ≤ per
    → ((epoch : ℕ) (text : List ℕ)
    → IfSome (behind epoch text) (λ v. length (code v) ≤ length (number_bytes epoch) + (length text * per + beside)))
    → KeysCost (λ text. option_and_then (λ (cut : ℕ × List ℕ). behind cut.0 cut.1) (split_epoch most text)) code per
    (beside + 1)
epoch_costs {A} behind code most per beside enough costs text =
    by (split_epoch most text) (epoch_length most text)
  where
    more : (P Q : A → Type 0) (o : Option A) → ((v : A) → P v → Q v) → IfSome o P → IfSome o Q
    more P Q None weaker holds = tt
    more P Q (Some v) weaker holds = weaker v holds

    by : (o : Option (ℕ × List ℕ))
        → ((cut : ℕ × List ℕ) → o ≡ Some cut → length (number_bytes cut.0) + 2 * length cut.1 ≤ 2 * length text + 1)
        → IfSome (option_and_then (λ (cut : ℕ × List ℕ). behind cut.0 cut.1) o)
        (λ v. length (code v) ≤ length text * per + (beside + 1))
    by None epoch = tt
    by (Some cut) epoch =
        more _ _ (behind cut.0 cut.1)
        (λ v fits. behind_epoch _ (length cut.1) (length text) per beside _ enough (epoch cut refl) fits)
        (costs cut.0 cut.1)

-- ---- digits

-- two bytes for each digit, and one where there is none
abbrev pub digits_room : List ℕ → ℕ
digits_room [] = 1
digits_room (digit ∷ digits) = 2 * length (digit ∷ digits)

pub digits_cost : (digits : List ℕ) → list_all is_ascii_digit digits ≡ true
    → length (number_bytes (digits_value 10 digits)) ≤ digits_room digits
digits_cost [] all = omega arith
digits_cost (digit ∷ digits) all = number_length (digit ∷ digits) all (omega arith)

-- ---- texts that are read piece by piece

module _ {X : Type 0} (pieces : List ℕ → List X) (code : Option X → List ℕ) (per : ℕ) where
  -- a text begins with a piece that costs no more than the bytes that it has, and what is left is shorter
  abbrev pub BeginsPiece : List ℕ → Type 0
  BeginsPiece text =
      (piece : X) × (left : List ℕ) × (pieces text ≡ piece ∷ pieces left) × (length left < length text)
      × (length (code (Some piece)) + length left * per ≤ length text * per)

  -- or with bytes of no piece, or it has none
  abbrev pub HasNext : List ℕ → Type 0
  HasNext text =
      (pieces text ≡ []) ⊎ (((left : List ℕ) × (pieces text ≡ pieces left) × (length left < length text)) ⊎ BeginsPiece text)

  abbrev pub Fits : List ℕ → Type 0
  Fits text = length (list_bytes code (pieces text)) ≤ length text * per + length (code None)

  module _ (next : (text : List ℕ) → HasNext text) where
    fits : (n : ℕ) (text : List ℕ) → length text < n → Fits text
    fits zero text short = absurd (omega (arith, short))
    fits (suc n) text short = by (next text) (fits n)
      where
        by : HasNext text → ((left : List ℕ) → length left < n → Fits left) → Fits text
        by (inl none) rest = omega (arith, ap (λ (l : List X). length (list_bytes code l)) none, length-append (code None) [])
        by (inr (inl (left, same, less))) rest =
            let shorter : length left ≤ length text = omega (arith, less) in
            omega (
              arith,
              ap (λ (l : List X). length (list_bytes code l)) same,
              rest left (omega (arith, less, short)),
              mul-le-mul_left per shorter,
            )
        by (inr (inr (piece, left, same, less, cost))) rest =
            omega (
              arith,
              ap (λ (l : List X). length (list_bytes code l)) same,
              length-append (code (Some piece)) (list_bytes code (pieces left)),
              rest left (omega (arith, less, short)),
              cost,
            )

    pub pieces_cost : (text : List ℕ) → Fits text
    pieces_cost text = fits (length text + 1) text (omega arith)

-- ---- what fronts read, as bytes of a key: at most two for each byte of text that a front takes, and some more beside

-- what is read has at most two bytes for each byte that was taken, and some more
abbrev pub Costs : {X : Type 0} → (X → ℕ) → ℕ → List ℕ → X × List ℕ → Type 0
Costs size more text read = size read.0 + 2 * length read.1 ≤ 2 * length text + more

abbrev pub FrontCosts : {X : Type 0} → (X → ℕ) → ℕ → Front X → Type 0
FrontCosts size more front = (text : List ℕ) → IfSome (front text) (Costs size more text)

module _ {X : Type 0} (size : X → ℕ) (more : ℕ) (front : Front X) where
  -- by another size
  pub weaker_costs : (other : X → ℕ) (most : ℕ) → ((x : X) → other x + more ≤ size x + most) → FrontCosts size more front
      → FrontCosts other most front
  weaker_costs other most weaker costs text = grind (arith, more)

  pub mapped_costs : {Y : Type 0} (f : X → Y) (other : Y → ℕ) → ((x : X) → other (f x) ≤ size x)
      → FrontCosts size more front → FrontCosts other more (λ text. map_value f (front text))
  mapped_costs f other weaker costs text = grind (arith, more)

  pub either_costs : (second : Front X) → FrontCosts size more front → FrontCosts size more second
      → FrontCosts size more (λ text. option_or (front text) (second text))
  either_costs second costs others text = grind (arith, more)

  -- behind a mark, which is a byte more
  pub behind_costs : (mark : ℕ) (most : ℕ) → more ≤ most + 2 → FrontCosts size more front
      → FrontCosts size most (behind mark front)
  behind_costs mark most fits costs [] = tt
  behind_costs mark most fits costs (byte ∷ text) = grind (arith, cases_Bool, more, fits)

-- what may be absent
pub optional_costs : {X : Type 0} (size : Option X → ℕ) (more : ℕ) (front : Front X) → size None ≤ more
    → FrontCosts (λ x. size (Some x)) more front → (text : List ℕ) → Costs size more text (optional front text)
unfolding optional
optional_costs {X} size more front none costs text = grind (arith, more)

-- items one after another
pub repeated_costs : {X : Type 0} (code : Option X → List ℕ) (front : Front X)
    → FrontCosts (λ x. length (code (Some x))) 0 front → (n : ℕ) (text : List ℕ)
    → Costs (λ xs. length (items_bytes code xs)) 0 text (repeated front n text)
unfolding repeated
repeated_costs code front costs zero text = omega arith
repeated_costs {X} code front costs (suc n) text =
    by (front text) (costs text) (λ rest. repeated_costs code front costs n rest)
  where
    by : (o : Option (X × List ℕ)) → IfSome o (Costs (λ x. length (code (Some x))) 0 text)
        → ((rest : List ℕ) → Costs (λ xs. length (items_bytes code xs)) 0 rest (repeated front n rest))
        → Costs (λ xs. length (items_bytes code xs)) 0 text
        (option_map_or (λ (p : X × List ℕ). (p.0 ∷ (repeated front n p.1).0, (repeated front n p.1).1)) o ([], text))
    by None cost others = omega arith
    by (Some read) cost others = omega (
      arith,
      cost,
      others read.1,
      length-append (code (Some read.0)) (items_bytes code (repeated front n read.1).0),
    )

-- ---- runs and numbers

pub parted : (n : ℕ) (text : List ℕ) → length (take n text) + length (drop n text) ≡ length text
parted n text = sym (length-append (take n text) (drop n text)) ∙ ap length (take-append-drop n text)

pub some_taken : (starts : ℕ → Bool) (text : List ℕ) → begins starts text ≡ true → 0 < length (take_while starts text)
some_taken starts [] e = cc e
some_taken starts (byte ∷ text) e = omega (arith, ap length (run_cons starts byte text e).0)

number_cost : (text : List ℕ) → starts_with_digit text ≡ true
    → Costs (λ n. length (number_bytes n)) 0 text (run_value text, behind_digits text)
number_cost text begins = grind (arith, some_taken, number_length, list_all-take_while, parted)

-- a number, zero where there is no digit
pub zero_cost : (text : List ℕ) → Costs (λ n. length (number_bytes n)) 1 text (run_value text, behind_digits text)
zero_cost [] = omega arith
zero_cost (byte ∷ text) = elim (cases_Bool (is_ascii_digit byte)) [
  | inl begins ↦ omega (arith, number_cost (byte ∷ text) begins)
  | inr other ↦ rw other (omega arith)
]

pub number_costs : FrontCosts (λ n. length (number_bytes n)) 0 number_front
number_costs text = grind (arith, cases_Bool, number_cost)

-- ---- whole texts

-- no end of a range by a version that a front reads has too many bytes
pub whole_within : {A : Type 0} (front : Front A) (code : A → List ℕ) (start : List ℕ → List ℕ) (more : ℕ)
    → ((text : List ℕ) → length (start text) ≤ length text) → FrontCosts (λ v. length (code v)) more front
    → AreWithin (λ text. option_map (λ v. by_key (code v)) (whole (front (start text)))) (λ n. n * 2 + more)
whole_within {A} front code start more shorter costs =
    ends_within (λ text. whole (front (start text))) code (λ n. n * 2 + more) within
  where
    within : KeysAreWithin (λ text. option_map code (whole (front (start text)))) (λ n. n * 2 + more)
    within text key n e fits = by (front (start text)) (costs (start text)) e
      where
        by : (o : Option (A × List ℕ)) → IfSome o (Costs (λ v. length (code v)) more (start text))
            → option_map code (whole o) ≡ Some key → length key ≤ n * 2 + more
        by None cost e = cc e
        by (Some read) cost e = elim (cases_Bool (length read.1 == 0)) [
          | inl ends ↦
              let same : code read.0 ≡ key = cc (rw ends at e) in
              omega (arith, cost, fits, shorter text, ap length same)
          | inr goes ↦ cc (rw goes at e)
        ]
