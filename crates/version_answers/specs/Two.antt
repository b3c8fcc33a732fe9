-- What is written of two versions.
use Rattle.std.specs.Ordering.{is_lt, is_le, is_eq, is_ge, is_gt}
use Rattle.std.specs.Prelude.{ℕ, List, [], ◌∷◌, ◌++◌, codes, Bool, ◌==◌, ◌&&◌, ◌+◌, ◌-◌, ◌^◌, min, false, drop, length, suc, if◌then◌else◌, Option, None, Some}
use Rattle.std.specs.{Fmt.decimal, List.prefix_len, List.slice_get, List.slice_split, List.take_while, Option.option_map, Option.option_map_or, Option.unwrap_or, Str.bytes_eq, declared.cmp.Ordering.Ordering}
use Rattle.std.specs.declared.cmp.Ordering.TheVariants.{Less, Equal, Greater}
use Rattle.version_schemes.specs.any.Order.{PlainAny, any_precedence}
use Rattle.version_answers.specs.declared.two.{compare.Operator.Operator, explain.Piece.Piece}
use Rattle.version_rules.specs.grammar.Versioning.{PlainVersioning, Ideal, General, Complex, versioning_text}
use Rattle.version_rules.specs.key.Key.{key_of, precedence}
use Rattle.version_texts.specs.declared.order.difference.Difference.TheVariants.{Same, Tie, Epoch, Part, Tail}
use Rattle.version_texts.specs.{Order.difference_of, VersioningRef.field_text, declared.order.difference.Difference.Difference}
use Rattle.version_order.specs.{declared.class.Class.TheVariants.NotSign, texts.Bytes.dot, texts.Class.contains, texts.Front.is_digits}
use Rattle.version_answers.specs.declared.two.compare.Operator.TheVariants as operator
use Rattle.version_texts.specs.declared.versioning_ref.field.Field.TheVariants as field

-- ---- what `compare` writes for two versions

-- whether an operator holds between two versions that compare so
abbrev pub holds : Operator → Ordering → Bool
holds operator.Less order = is_lt order
holds operator.LessOrEqual order = is_le order
holds operator.Equal order = is_eq order
holds operator.GreaterOrEqual order = is_ge order
holds operator.Greater order = is_gt order

-- the sign of an ordering
abbrev pub sign_text : Ordering → List ℕ
sign_text Less = codes "<"
sign_text Equal = codes "="
sign_text Greater = codes ">"

-- the line for two versions: the sign between them, and the byte that ends the line
abbrev pub comparison_line : ℕ → PlainAny → PlainAny → List ℕ
comparison_line end a b = sign_text (any_precedence a b) ++ end ∷ []

-- ---- what `diff` writes for two versions

-- the name of where two versions differ first; parts count from 0
abbrev pub difference_name : Difference → List ℕ
difference_name Epoch = codes "epoch"
difference_name (Part n) = codes "part " ++ decimal n
difference_name Tail = codes "tail"
difference_name Tie = codes "tie"
difference_name Same = codes "same"

-- the line for two versions
abbrev pub difference_line : ℕ → PlainVersioning → PlainVersioning → List ℕ
difference_line end a b = difference_name (difference_of a b) ++ end ∷ []

-- ---- what `compare --explain` says: which of two versions comes first, and by what

-- ---- the pieces of a version, as they are written

-- the text behind the epoch and its colon
abbrev pub behind_epoch : PlainVersioning → List ℕ
behind_epoch v =
    drop (option_map_or (λ epoch. suc (length epoch)) (field_text field.Epoch v) 0) (versioning_text v)

-- the parts with the dots between them, which end before the first sign, and what follows them
abbrev pub parts_text : PlainVersioning → List ℕ
parts_text v = take_while (contains NotSign) (behind_epoch v)

abbrev pub behind_parts : PlainVersioning → List ℕ
behind_parts v = drop (prefix_len (contains NotSign) (behind_epoch v)) (behind_epoch v)

-- the part at a place, counted from 0, if there are so many
abbrev pub part_at : PlainVersioning → ℕ → Option (List ℕ)
part_at v place = slice_get (slice_split (λ b. b == dot) (parts_text v)) place

-- what counts behind the parts: a pre-release, a release, or the further sections of a messy version
abbrev pub tail_of : PlainVersioning → Option (List ℕ)
tail_of (Ideal v) = option_map (λ text. codes "the pre-release " ++ text) (field_text field.PreRelease (Ideal v))
tail_of (General v) = option_map (λ text. codes "the release " ++ text) (field_text field.Release (General v))
tail_of (Complex m) = if length (behind_parts (Complex m)) == 0 then None else Some (behind_parts (Complex m))

-- the same in the code: a text behind the noun that names it
abbrev pub piece_text : Piece → List ℕ
piece_text piece = piece.noun.now ++ piece.text.now

-- ---- what is said of two

-- what two versions have somewhere, with the sign of their order between
abbrev pub beside : Ordering → Option (List ℕ) → Option (List ℕ) → List ℕ
beside order a b =
    unwrap_or a (codes "nothing") ++ (codes " " ++ (sign_text order ++ (codes " " ++ unwrap_or b (codes "nothing"))))

-- whether a text is there, and is digits alone
abbrev pub is_number : Option (List ℕ) → Bool
is_number text = option_map_or is_digits text false

abbrev pub ordinals : List (List ℕ)
ordinals =
    codes "first" ∷ codes "second" ∷ codes "third" ∷ codes "fourth" ∷ codes "fifth" ∷ codes "sixth"
    ∷ codes "seventh" ∷ codes "eighth" ∷ codes "ninth" ∷ codes "tenth" ∷ []

-- the place of a part in words, which count from the first
abbrev pub place_text : List ℕ → ℕ → List ℕ
place_text noun place =
    option_map_or (λ ordinal. codes "the " ++ (ordinal ++ (codes " " ++ noun)))
    (slice_get ordinals place)
    (noun ++ (codes " " ++ decimal (min (place + 1) (2 ^ 64 - 1))))

-- the same with what two versions have there
abbrev pub part_text : Ordering → ℕ → Option (List ℕ) → Option (List ℕ) → List ℕ
part_text order place a b =
    place_text (if is_number a && is_number b then codes "number" else codes "part") place
    ++ (codes ", " ++ beside order a b)

-- whether two versions have the same text; if they don't and are the same version, they are strict
-- and differ in their metadata alone
abbrev pub have_one_text : PlainVersioning → PlainVersioning → Bool
have_one_text a b = bytes_eq (versioning_text a) (versioning_text b)

-- where two versions differ first, and what they have there
abbrev pub explanation : PlainVersioning → PlainVersioning → Ordering → Difference → List ℕ
explanation a b order Epoch = codes "the epoch, " ++ beside order (field_text field.Epoch a) (field_text field.Epoch b)
explanation a b order (Part place) = part_text order place (part_at a place) (part_at b place)
explanation a b order Tail = codes "what follows the parts, " ++ beside order (tail_of a) (tail_of b)
explanation a b order Tie = codes "they compare equal, and are not the same version"
explanation a b order Same =
    if have_one_text a b
    then codes "they are the same version"
    else codes "they differ only after the plus, which doesn't count"

-- the line for two versions: both with the sign of their order between, and why
abbrev pub explained_line : ℕ → PlainVersioning → PlainVersioning → List ℕ
explained_line end a b =
    beside (precedence (key_of a) (key_of b)) (Some (versioning_text a)) (Some (versioning_text b))
    ++ (codes ": " ++ (explanation a b (precedence (key_of a) (key_of b)) (difference_of a b) ++ end ∷ []))
