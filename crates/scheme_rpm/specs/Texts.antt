-- Which texts are RPM's versions.
use Rattle.std.specs.Prelude.{◌≡◌, ◌≢◌, ◌==◌, ◌&&◌, ◌||◌, ℕ, Bool, false, List, [], ◌∷◌, ◌++◌, if◌then◌else◌, not, Option, None, Some, option_and_then}
use Rattle.std.specs.{Char.is_ascii_alphabetic, Char.is_ascii_alphanumeric, Char.is_ascii_digit, List.list_all, List.take_while, Option.is_some, Option.option_map, Str.Parse.digits_value, declared.cmp.Ordering.Ordering}
use Rattle.version_order.specs.{Rules.compared, texts.Cuts.cut_last, texts.Cuts.split_epoch}
use Rattle.scheme_rpm.specs.Order.{Caret, Item, Letters, Number, PlainRpm, Tilde, rpm_cmp}

-- a run of a kind begins with a byte: the byte before it is none of the kind
abbrev pub begins_run : (ℕ → Bool) → ℕ → ℕ → Bool
begins_run kind before byte = kind byte && not (kind before)

-- the piece that a byte begins, if it does, by the letters and the digits from it on
abbrev pub begun : ℕ → ℕ → List ℕ → List ℕ → List Item
begun before byte letters digits =
    if byte == 126 then Tilde ∷ []
    else (if byte == 94 then Caret ∷ []
    else (if begins_run is_ascii_alphabetic before byte then Letters letters ∷ []
    else (if begins_run is_ascii_digit before byte then Number (digits_value 10 digits) ∷ [] else [])))

-- the pieces of a text after a byte; bytes that begin none only separate
abbrev pub items_after : ℕ → List ℕ → List Item
items_after before [] = []
items_after before (byte ∷ text) =
    begun before byte (take_while is_ascii_alphabetic (byte ∷ text)) (take_while is_ascii_digit (byte ∷ text))
    ++ items_after byte text

-- the pieces of a text, as after a dot
abbrev pub items_in : List ℕ → List Item
items_in = items_after 46

abbrev pub is_of_rpm : ℕ → Bool
is_of_rpm byte = is_ascii_alphanumeric byte
    || (byte == 46 || (byte == 95 || (byte == 43 || (byte == 126 || byte == 94))))

-- a version or a release
abbrev pub is_version : List ℕ → Bool
is_version [] = false
is_version text = list_all is_of_rpm text

abbrev pub items_of : List ℕ → Option (List Item)
items_of text = if is_version text then Some (items_in text) else None

-- a version behind its epoch, by the cut at its last hyphen
abbrev pub of_cut : ℕ → List ℕ → Option (List ℕ × List ℕ) → Option PlainRpm
of_cut epoch text None = option_map (λ version. record { epoch = epoch; version = version; release = None }) (items_of text)
of_cut epoch text (Some cut) = option_and_then (λ version.
    option_map (λ release. record { epoch = epoch; version = version; release = Some release }) (items_of cut.1))
    (items_of cut.0)

abbrev pub behind_epoch : ℕ → List ℕ → Option PlainRpm
behind_epoch epoch text = of_cut epoch text (cut_last 45 text)

-- what stands behind an epoch: a version, and a release that may follow it
abbrev pub is_behind_epoch : List ℕ → Bool
is_behind_epoch text = is_some (behind_epoch 0 text)

-- the version that a text is
abbrev pub rpm_of : List ℕ → Option PlainRpm
rpm_of text = option_and_then (λ (cut : ℕ × List ℕ). behind_epoch cut.0 cut.1) (split_epoch 4294967295 text)

-- how two texts compare, if both are versions
abbrev pub texts_cmp : List ℕ → List ℕ → Option Ordering
texts_cmp = compared rpm_of rpm_cmp

-- ---- what a text begins with

-- the rank of a piece that begins with this byte, and 0 if the byte only separates
abbrev pub byte_rank : ℕ → ℕ
byte_rank byte =
    if byte == 126 then 1 else (if byte == 94 then 3
    else (if is_ascii_alphabetic byte then 4 else (if is_ascii_digit byte then 5 else 0)))

-- the rank of what a text begins with, or of the end
abbrev pub first_rank : List ℕ → ℕ
first_rank [] = 2
first_rank (byte ∷ text) = byte_rank byte

-- a text begins with a piece of this rank, or with the end
abbrev pub Begins : ℕ → List ℕ → Type 0
Begins rank text = (first_rank text ≡ rank) × (rank ≢ 0)

-- the first of some pieces, or their end
abbrev pub first_of : List Item → Option Item
first_of [] = None
first_of (item ∷ items) = Some item
