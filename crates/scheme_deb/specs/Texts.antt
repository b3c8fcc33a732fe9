-- Which texts are Debian's versions.
use Rattle.std.specs.Prelude.{◌==◌, ◌&&◌, ◌||◌, ℕ, Bool, false, List, [], ◌∷◌, if◌then◌else◌, map, Option, None, Some, not, option_and_then}
use Rattle.std.specs.{Char.is_ascii_alphanumeric, Char.is_ascii_digit, List.list_all, Option.is_some, Option.option_map, Str.Parse.digits_value, declared.cmp.Ordering.Ordering}
use Rattle.version_order.specs.{Rules.compared, texts.Cuts.cut_last, texts.Cuts.split_epoch, texts.Front.starts_with_digit}
use Rattle.scheme_deb.specs.Order.{More, Pair, Part, PlainDeb, deb_cmp}

-- a byte of a run
abbrev pub is_run : ℕ → Bool
is_run byte = not (is_ascii_digit byte)

-- the byte that a text begins with, or its end
abbrev pub first_of : List ℕ → Option ℕ
first_of [] = None
first_of (byte ∷ text) = Some byte

-- a text in runs and digits in turn: a run, perhaps empty, the digits behind it, perhaps none, and further ones,
-- whose runs are not empty: their first byte, what follows, and their digits
pub record Cut : Type 0 where
  pub run : List ℕ
  pub digits : List ℕ
  pub more : List (ℕ × (List ℕ × List ℕ))

abbrev pub put_digit : ℕ → List ℕ → Cut → Cut
put_digit byte [] cut = record cut { digits = byte ∷ cut.digits }
put_digit byte (first ∷ run) cut = record { run = []; digits = byte ∷ []; more = (first, (run, cut.digits)) ∷ cut.more }

-- with a byte before it
abbrev pub put : ℕ → Cut → Cut
put byte cut = if is_ascii_digit byte then put_digit byte cut.run cut else record cut { run = byte ∷ cut.run }

abbrev pub cut_of : List ℕ → Cut
cut_of [] = record { run = []; digits = []; more = [] }
cut_of (byte ∷ text) = put byte (cut_of text)

-- digits that are not there are zero
abbrev pub pair_of : List ℕ → List ℕ → Pair
pair_of run digits = record { run = run; number = digits_value 10 digits }

abbrev pub mores : List (ℕ × (List ℕ × List ℕ)) → List More
mores = map (λ (more : ℕ × (List ℕ × List ℕ)). record { first = more.0; rest = pair_of more.1.0 more.1.1 })

abbrev pub part_in : Cut → Part
part_in cut = record { head = pair_of cut.run cut.digits; more = mores cut.more }

abbrev pub part_of : List ℕ → Part
part_of text = part_in (cut_of text)

-- a byte of a revision, and of an upstream version
abbrev pub is_of_revision : ℕ → Bool
is_of_revision byte = is_ascii_alphanumeric byte || (byte == 43 || (byte == 46 || byte == 126))

abbrev pub is_of_upstream : ℕ → Bool
is_of_upstream byte = is_of_revision byte || (byte == 45 || byte == 58)

-- a byte of an upstream version without an epoch
abbrev pub is_before_colon : ℕ → Bool
is_before_colon byte = is_of_revision byte || byte == 45

-- an upstream version, which begins with a digit, and a revision, which is not empty
abbrev pub is_upstream : List ℕ → Bool
is_upstream text = starts_with_digit text && list_all is_of_upstream text

abbrev pub upstream_of : List ℕ → Option Part
upstream_of text = if is_upstream text then Some (part_of text) else None

abbrev pub is_revision : List ℕ → Bool
is_revision [] = false
is_revision text = list_all is_of_revision text

abbrev pub revision_of : List ℕ → Option Part
revision_of text = if is_revision text then Some (part_of text) else None

-- a version behind its epoch, by the cut at its last hyphen; without a revision, this is 0
abbrev pub of_cut : ℕ → List ℕ → Option (List ℕ × List ℕ) → Option PlainDeb
of_cut epoch text None =
    option_map (λ upstream. record { epoch = epoch; upstream = upstream; revision = part_of (48 ∷ []) }) (upstream_of text)
of_cut epoch text (Some cut) = option_and_then (λ upstream.
    option_map (λ revision. record { epoch = epoch; upstream = upstream; revision = revision }) (revision_of cut.1))
    (upstream_of cut.0)

abbrev pub behind_epoch : ℕ → List ℕ → Option PlainDeb
behind_epoch epoch text = of_cut epoch text (cut_last 45 text)

-- what stands behind an epoch: an upstream version, and a revision that may follow it
abbrev pub is_behind_epoch : List ℕ → Bool
is_behind_epoch text = is_some (behind_epoch 0 text)

-- the version that a text is
abbrev pub deb_of : List ℕ → Option PlainDeb
deb_of text = option_and_then (λ (cut : ℕ × List ℕ). behind_epoch cut.0 cut.1) (split_epoch 2147483647 text)

-- how two texts compare, if both are versions
abbrev pub texts_cmp : List ℕ → List ℕ → Option Ordering
texts_cmp = compared deb_of deb_cmp
