-- Which texts are RubyGems' versions: those of `Gem::Version.correct?`, but not the blank ones.
use Rattle.std.specs.List.{before_first, list_all, prefix_len, slice_split, take_while}
use Rattle.std.specs.Prelude.{◌==◌, ◌&&◌, ◌||◌, ℕ, Bool, true, false, List, [], ◌∷◌, drop, if◌then◌else◌, not, Option, None, Some}
use Rattle.std.specs.{Char.is_ascii_alphanumeric, Int.is_in_range, declared.cmp.Ordering.Ordering}
use Rattle.version_order.specs.{Rules.compared, texts.Bytes.hyphen, texts.Bytes.is_identifier_byte, texts.Cuts.is_dot, texts.Cuts.cut_first, texts.Front.is_digits, texts.Front.begins}
use Rattle.scheme_gem.specs.{Order.Entry, Order.gem_cmp, Segments.entries_in, Segments.without_last}

-- a blank or a byte that ends a line or a page: Ruby's `\s`
abbrev pub is_blank : ℕ → Bool
is_blank byte = is_in_range 9 13 byte || byte == 32

-- a text without the blanks around it
abbrev pub trimmed : List ℕ → List ℕ
trimmed text = without_last is_blank (drop (prefix_len is_blank text) text)

-- whether a piece has bytes, all of them of a class
abbrev pub is_piece : (ℕ → Bool) → List ℕ → Bool
is_piece test piece = begins test piece && list_all test piece

-- whether a text is such pieces with dots between them
abbrev pub are_pieces : (ℕ → Bool) → List ℕ → Bool
are_pieces test text = list_all (is_piece test) (slice_split is_dot text)

-- what stands before the first hyphen: pieces of letters and digits, the first of them digits alone
abbrev pub is_release : List ℕ → Bool
is_release text = is_digits (before_first is_dot text) && are_pieces is_ascii_alphanumeric text

-- a version without blanks around it: after the first hyphen the pieces may have further ones
abbrev pub is_version : List ℕ → Bool
is_version text = by (cut_first hyphen text)
  where
    by : Option (List ℕ × List ℕ) → Bool
    by None = is_release text
    by (Some cut) = is_release cut.0 && are_pieces is_identifier_byte cut.1

-- a text is a version, perhaps with blanks around it
abbrev pub is_gem : List ℕ → Bool
is_gem text = is_version (trimmed text)

-- the version that a text is
abbrev pub gem_of : List ℕ → Option (List Entry)
gem_of text = if is_gem text then Some (entries_in false (trimmed text)) else None

-- how two texts compare, if both are versions
abbrev pub texts_cmp : List ℕ → List ℕ → Option Ordering
texts_cmp = compared gem_of gem_cmp

-- ---- a version from its beginning on

-- nothing, or a hyphen and further pieces
abbrev pub is_hyphenated : List ℕ → Bool
is_hyphenated [] = true
is_hyphenated (byte ∷ text) = byte == hyphen && are_pieces is_identifier_byte text

-- a byte other than a hyphen
abbrev pub is_not_hyphen : ℕ → Bool
is_not_hyphen byte = not (byte == hyphen)

-- what follows the first dot
abbrev pub is_plain : List ℕ → Bool
is_plain text =
    are_pieces is_ascii_alphanumeric (take_while is_not_hyphen text)
    && is_hyphenated (drop (prefix_len is_not_hyphen text) text)
