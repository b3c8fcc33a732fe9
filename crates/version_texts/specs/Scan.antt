-- The kind and the shape of a text, by its pieces.
use Rattle.std.specs.Prelude.{◌≡◌, ◌==◌, ◌&&◌, ◌||◌, ◌+◌, ◌-◌, ◌<◌, ◌≤◌, ℕ, Bool, true, List, drop, length, not, slice_range, take, Option, if◌then◌else◌, ◌^◌, [], ◌∷◌, nat_lt, Some, None}
use Rattle.std.specs.{Char.is_ascii_digit, Char.is_ascii_alphanumeric, List.list_all, List.prefix_len, List.slice_split, List.take_while, Option.option_map, Str.Parse.digits_value}
use Rattle.version_order.specs.texts.Bytes.{colon, hyphen, is_metadata_byte, plus, is_section_byte, is_identifier_byte}
use Rattle.version_order.specs.texts.{Class.is_mark, Cuts.pieces, Front.starts_with_digit, Front.is_digits, Front.begins, Front.is_run, Grammar.is_sep}
use Rattle.version_rules.specs.{declared.kind.Kind.Kind, grammar.Versioning.versioning_kind, grammar.Versioning.versioning_of}
use Rattle.version_texts.specs.declared.scan.shape.{Shape.Shape, TailKind.TailKind, TailKind.TheVariants.PreRelease, TailKind.TheVariants.Nothing, TailKind.TheVariants.Release, TailKind.TheVariants.Sections}
use Rattle.version_rules.specs.declared.kind.Kind.TheVariants as kind

-- ---- where the pieces of a version lie in its text

-- the length of the digits that a text begins with
abbrev pub digits_len : List ℕ → ℕ
digits_len = prefix_len is_ascii_digit

-- whether a text begins with digits and a colon
abbrev pub has_epoch : List ℕ → Bool
has_epoch text = starts_with_digit text && begins (λ b. b == colon) (drop (digits_len text) text)

-- where the body begins: behind digits and a colon, if the text begins so
unfoldable pub body_start : List ℕ → ℕ
body_start text = if has_epoch text then digits_len text + 1 else 0

-- the text from the body on
abbrev pub from_body : List ℕ → List ℕ
from_body text = drop (body_start text) text

-- where the body ends: behind letters, digits and dots
unfoldable pub body_end : List ℕ → ℕ
body_end text = body_start text + prefix_len is_section_byte (from_body text)

-- the text behind the body
abbrev pub behind_body : List ℕ → List ℕ
behind_body text = drop (body_end text) text

-- where the tail ends: of a messy version at the end of the text, else at a plus or the end
abbrev pub tail_end : Kind → List ℕ → ℕ
tail_end kind.Complex text = length text
tail_end _ text = body_end text + prefix_len (λ b. not (b == plus)) (behind_body text)

-- what the tail is: what follows the hyphen of a strict or general version, and whatever follows in
-- a messy one
abbrev pub tail_kind : Kind → List ℕ → TailKind
tail_kind kind.Ideal text =
    if begins (λ b. b == hyphen) (behind_body text) then PreRelease else Nothing
tail_kind kind.General text =
    if begins (λ b. b == hyphen) (behind_body text) then Release else Nothing
tail_kind kind.Complex text = if length (behind_body text) == 0 then Nothing else Sections

-- the shape of a text of that kind
abbrev pub shape_at : Kind → List ℕ → Shape
shape_at k text =
    record {
      kind =
          k;
      tail = tail_kind k text;
      body =
          body_start text;
      end = body_end text;
      tail_end = tail_end k text;
    }

-- the shape of a text, or None if it is not a version
abbrev pub shape_of : List ℕ → Option Shape
shape_of text = option_map (λ v. shape_at (versioning_kind v) text) (versioning_of text)

-- the bytes of the epoch, without its colon; of the body; and of the tail, without the byte before
-- it
abbrev pub epoch_in : List ℕ → Shape → List ℕ
epoch_in text s = take (s.body - 1) text

abbrev pub body_in : List ℕ → Shape → List ℕ
body_in text s = slice_range text s.body s.end

abbrev pub tail_in : List ℕ → Shape → List ℕ
tail_in text s = slice_range text (s.end + 1) s.tail_end

-- the bytes of a kind of tail
abbrev pub is_tail_byte : TailKind → ℕ → Bool
is_tail_byte Sections b = is_section_byte b || is_sep b
is_tail_byte _ b = is_metadata_byte b

-- a tail lies behind the body and the byte before it
abbrev pub TailFits : TailKind → ℕ → ℕ → Type 0
TailFits Nothing end tail_end = end ≡ tail_end
TailFits _ end tail_end = end < tail_end

-- the pieces lie in the text, one behind another, and have only bytes of their kinds
pub record Fits (text : List ℕ) (s : Shape) : Type 0 where
  pub epoch_fits : s.body ≤ s.end
  pub tail_fits : TailFits s.tail s.end s.tail_end
  pub within : s.tail_end ≤ length text
  pub epoch_is : list_all is_ascii_digit (epoch_in text s) ≡ true
  pub body_is : list_all is_section_byte (body_in text s) ≡ true
  pub tail_is : list_all (is_tail_byte s.tail) (tail_in text s) ≡ true

-- ---- which kind a text is, by its pieces

-- digits without a leading zero, of value below 2 ^ 32
unfoldable pub is_numeral : List ℕ → Bool
is_numeral text =
    is_digits text && (length text == 1 || not (begins (λ b. b == 48) text)) && nat_lt
    (digits_value 10 text) (2 ^ 32)

-- a numeral, or a run that is not all digits
abbrev pub is_chunk : (ℕ → Bool) → List ℕ → Bool
is_chunk test text = is_run test text && (is_numeral text || not (list_all is_ascii_digit text))

-- a byte other than a plus
abbrev pub is_not_plus : ℕ → Bool
is_not_plus b = not (b == plus)

-- nothing, or a plus and metadata
abbrev pub is_metadata_tail : List ℕ → Bool
is_metadata_tail [] = true
is_metadata_tail (b ∷ text) = b == plus && is_run is_metadata_byte text

-- a release, then perhaps a plus and metadata
abbrev pub is_released : List ℕ → Bool
is_released text =
    list_all (is_chunk is_identifier_byte)
    (pieces (take_while is_not_plus text)) && is_metadata_tail
    (drop (prefix_len is_not_plus text) text)

-- what may follow the body of a strict or general version: perhaps a hyphen and a release, then
-- perhaps a plus and metadata
abbrev pub is_tail : List ℕ → Bool
is_tail [] = true
is_tail (b ∷ text) = if b == hyphen then is_released text else is_metadata_tail (b ∷ text)

-- where the letters, digits and dots from a place on end, and their pieces between dots
abbrev pub section_end : List ℕ → ℕ → ℕ
section_end text start = start + prefix_len is_section_byte (drop start text)

abbrev pub section_pieces : List ℕ → ℕ → List (List ℕ)
section_pieces text start = pieces (take_while is_section_byte (drop start text))

-- the bytes of the body
abbrev pub body_of : List ℕ → List ℕ
body_of text = take_while is_section_byte (from_body text)

-- whether the text has no epoch, or its epoch is a numeral
abbrev pub epoch_is_numeral : List ℕ → Bool
epoch_is_numeral text = body_start text == 0 || is_numeral (take_while is_ascii_digit text)

-- whether the text spells a general version, a strict one among them
abbrev pub is_general : List ℕ → Bool
is_general text =
    epoch_is_numeral text && list_all (is_chunk is_ascii_alphanumeric)
    (pieces (body_of text)) && is_tail (behind_body text)

-- whether the body is three runs of digits, and no epoch stands before it
abbrev pub has_three_numbers : List ℕ → Bool
has_three_numbers text =
    body_start text == 0 && length (pieces (body_of text)) == 3 && list_all is_digits
    (pieces (body_of text))

-- whether the text spells a messy version: runs of letters and digits with single dots and signs
-- between
abbrev pub is_messy : List ℕ → Bool
is_messy text = list_all (is_run is_ascii_alphanumeric) (slice_split is_mark text)

-- runs of letters and digits, each behind a dot or a sign
abbrev pub are_marked_runs : List ℕ → Bool
are_marked_runs [] = true
are_marked_runs (b ∷ text) = is_mark b && is_messy text

-- the kind of a text: the first that fits
abbrev pub kind_in : List ℕ → Option Kind
kind_in text =
    if is_general text
    then Some (if has_three_numbers text then kind.Ideal else kind.General)
    else (if is_messy text then Some kind.Complex else None)

-- ---- general versions without an epoch

-- parts with dots between, and a tail
abbrev pub is_parts : List ℕ → Bool
is_parts text =
    list_all (is_chunk is_ascii_alphanumeric) (pieces (take_while is_section_byte text))
    && is_tail (drop (prefix_len is_section_byte text) text)
