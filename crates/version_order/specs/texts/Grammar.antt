-- Grammars: which text spells which value, by the pieces of the text.
use Rattle.std.specs.Prelude.{◌≡◌, ℕ, List, [], ◌∷◌, ◌++◌, Option, Some, None, ◌==◌, Bool, false, if◌then◌else◌}
use Rattle.std.specs.{Option.is_some, Option.option_map, Ordering.nat_cmp, Ordering.on, declared.cmp.Ordering.Ordering}
use Rattle.version_order.specs.texts.Bytes.{dot, colon, hyphen, plus, tilde, underscore}
use Rattle.version_order.specs.texts.Front.{Front, begins}

-- one element or more, joined by dots
unfoldable pub SpellsDotted : {X : Type 0} → (List ℕ → X → Type 0) → List ℕ → List X → Type 0
SpellsDotted Spells text [] = ⊥
SpellsDotted Spells text (x ∷ []) = Spells text x
SpellsDotted Spells text (x ∷ y ∷ xs) =
    (first others : List ℕ) × (text ≡ first ++ dot ∷ others) × Spells first x
    × SpellsDotted Spells others (y ∷ xs)

-- pieces one after another, each of which spells an item
unfoldable pub SpellsEach : {X : Type 0} → (List ℕ → X → Type 0) → List ℕ → List X → Type 0
SpellsEach Spells text [] = text ≡ []
SpellsEach Spells text (x ∷ xs) =
    (piece others : List ℕ) × (text ≡ piece ++ others) × Spells piece x
    × SpellsEach Spells others xs

-- the byte mark, and a piece after it
abbrev pub SpellsBehind : {X : Type 0} → ℕ → (List ℕ → X → Type 0) → List ℕ → X → Type 0
SpellsBehind mark Spells text x = (piece : List ℕ) × (text ≡ mark ∷ piece) × Spells piece x

-- the byte mark and a piece after it, or nothing at all
unfoldable pub SpellsOptional : {X : Type 0} → ℕ → (List ℕ → X → Type 0) → List ℕ → Option X
    → Type 0
SpellsOptional mark Spells text None = text ≡ []
SpellsOptional mark Spells text (Some x) = SpellsBehind mark Spells text x

-- ---- how a front and a grammar agree. The laws use these definitions

-- what is read is a prefix of the text, which spells the value, and the rest
abbrev pub IsSound : {X : Type 0} → (List ℕ → X → Type 0) → Front X → Type 0
IsSound {X} Spells front =
    (text : List ℕ) (x : X) (rest : List ℕ) → front text ≡ Some (x, rest)
    → (piece : List ℕ) × (text ≡ piece ++ rest) × Spells piece x

-- the same, if Follows holds of the rest
abbrev pub IsSoundBefore : {X : Type 0} → (List ℕ → Type 0) → (List ℕ → X → Type 0) → Front X
    → Type 0
IsSoundBefore {X} Follows Spells front =
    (text : List ℕ) (x : X) (rest : List ℕ) → front text ≡ Some (x, rest) → Follows rest
    → (piece : List ℕ) × (text ≡ piece ++ rest) × Spells piece x

-- a value prints the text that spells it
abbrev pub IsPrinted : {X : Type 0} → (List ℕ → X → Type 0) → (X → List ℕ) → Type 0
IsPrinted {X} Spells text_of = (text : List ℕ) (x : X) → Spells text x → text_of x ≡ text

-- a value that is read prints the prefix that it was read from
abbrev pub IsKept : {X : Type 0} → (X → List ℕ) → Front X → Type 0
IsKept {X} text_of front =
    (text : List ℕ) (x : X) (rest : List ℕ) → front text ≡ Some (x, rest) → text ≡ text_of x ++ rest

-- what follows does not continue a run of the bytes that pass the test
abbrev pub EndsRun : (ℕ → Bool) → List ℕ → Type 0
EndsRun test rest = begins test rest ≡ false

-- what follows does not continue an element, nor a list by a dot
abbrev pub EndsList : (List ℕ → Type 0) → List ℕ → Type 0
EndsList Ends rest = Ends rest × EndsRun (λ b. b == dot) rest

-- what is spelled is read, if what follows does not continue it
abbrev pub IsComplete : {X : Type 0} → (List ℕ → X → Type 0) → (List ℕ → Type 0) → Front X → Type 0
IsComplete {X} Spells Ends front =
    (piece : List ℕ) (x : X) (rest : List ℕ) → Spells piece x → Ends rest
    → front (piece ++ rest) ≡ Some (x, rest)

-- ---- the signs between the sections of a messy version

-- the sign before a further section
pub data PlainSep : Type 0 where
  Colon Hyphen Plus Underscore Tilde : PlainSep

-- the byte that a sign prints
abbrev pub sep_byte : PlainSep → ℕ
sep_byte Colon = colon
sep_byte Hyphen = hyphen
sep_byte Plus = plus
sep_byte Underscore = underscore
sep_byte Tilde = tilde

-- the sign of a byte, if the byte is a sign
abbrev pub sep_of : ℕ → Option PlainSep
sep_of b =
    if b == colon then Some Colon else
    if b == hyphen then Some Hyphen else
    if b == plus then Some Plus else
    if b == underscore then Some Underscore else
    if b == tilde then Some Tilde else None

-- whether a byte is a sign
abbrev pub is_sep : ℕ → Bool
is_sep b = is_some (sep_of b)

-- the sign at the start of a text
abbrev pub sep_front : Front PlainSep
sep_front [] = None
sep_front (b ∷ rest) = option_map (λ sign. (sign, rest)) (sep_of b)

-- the place of a sign in the order of declaration
abbrev pub sep_rank : PlainSep → ℕ
sep_rank Colon = 0
sep_rank Hyphen = 1
sep_rank Plus = 2
sep_rank Underscore = 3
sep_rank Tilde = 4

-- two signs, in the order of declaration
abbrev pub sep_plain_cmp : PlainSep → PlainSep → Ordering
sep_plain_cmp = on sep_rank nat_cmp
