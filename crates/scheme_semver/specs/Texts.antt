-- Which texts are versions of SemVer 2.0.0: items 2, 9 and 10.
use Rattle.std.specs.Prelude.{◌==◌, ◌&&◌, ◌||◌, ℕ, Bool, false, List, [], ◌∷◌, if◌then◌else◌, map, not, Option, None, Some}
use Rattle.std.specs.{Borrow.Bor, Char.is_ascii_digit, List.list_all, Option.option_map, Str.Parse.digits_value, declared.cmp.Ordering.Ordering}
use Rattle.version_order.specs.{Rules.compared, texts.Bytes.hyphen, texts.Bytes.is_identifier_byte, texts.Bytes.plus, texts.Cuts.pieces, texts.Cuts.cut_first, texts.Front.is_digits, texts.Front.is_run}
use Rattle.version_rules.specs.{grammar.Chunk.PlainChunk, grammar.SemVer.PlainSemVer, order.Kinds.semver_cmp}
use Rattle.version_pieces.specs.Pieces.{chunks_of}
use Rattle.scheme_semver.specs.declared.reader.{Section.Section, Section.TheVariants.PreRelease, Section.TheVariants.Metadata}

-- a zero before other digits
abbrev pub has_leading_zero : List ℕ → Bool
has_leading_zero (first ∷ next ∷ text) = first == 48
has_leading_zero text = false

-- a number of any length
abbrev pub is_number : List ℕ → Bool
is_number text = is_digits text && not (has_leading_zero text)

-- an identifier of metadata: letters, digits and hyphens
abbrev pub is_identifier : List ℕ → Bool
is_identifier = is_run is_identifier_byte

-- an identifier of a pre-release, which is a number if it has no other bytes than digits
abbrev pub is_chunk : List ℕ → Bool
is_chunk text = is_identifier text && (is_number text || not (list_all is_ascii_digit text))

-- whether an identifier may stand in a section
abbrev pub allows : Section → List ℕ → Bool
allows PreRelease text = is_chunk text
allows Metadata text = is_identifier text

-- whether a text is identifiers with dots between
abbrev pub is_section : Section → List ℕ → Bool
is_section section text = list_all (allows section) (pieces text)

-- the identifiers of a pre-release, if there is one
abbrev pub identifiers_of : Option (Bor (List ℕ)) → Option (List PlainChunk)
identifiers_of = option_map (λ text. chunks_of text.now)

-- three numbers, and the identifiers of a pre-release
abbrev pub of_three : Option (List PlainChunk) → List ℕ → Option PlainSemVer
of_three pre_release (major ∷ minor ∷ patch ∷ []) =
    Some (record { major = major; minor = minor; patch = patch; pre_rel = pre_release; meta = None })
of_three pre_release numbers = None

abbrev pub of_numbers : Option (List PlainChunk) → List (List ℕ) → Option PlainSemVer
of_numbers pre_release texts =
    if list_all is_number texts then of_three pre_release (map (digits_value 10) texts) else None

-- what stands before the metadata
abbrev pub without_metadata : List ℕ → Option PlainSemVer
without_metadata text = by (cut_first hyphen text)
  where
    by : Option (List ℕ × List ℕ) → Option PlainSemVer
    by None = of_numbers None (pieces text)
    by (Some cut) =
        if is_section PreRelease cut.1 then of_numbers (Some (chunks_of cut.1)) (pieces cut.0) else None

-- the version that a text is, without its metadata
abbrev pub semver_of : List ℕ → Option PlainSemVer
semver_of text = by (cut_first plus text)
  where
    by : Option (List ℕ × List ℕ) → Option PlainSemVer
    by None = without_metadata text
    by (Some cut) = if is_section Metadata cut.1 then without_metadata cut.0 else None

-- how two texts compare, if both are versions
abbrev pub texts_cmp : List ℕ → List ℕ → Option Ordering
texts_cmp = compared semver_of semver_cmp
