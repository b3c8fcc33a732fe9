-- A version of SemVer, read from its beginning on.
use Rattle.std.specs.Prelude.{◌==◌, ◌&&◌, ◌||◌, ℕ, suc, length, Bool, List, [], ◌∷◌, drop, if◌then◌else◌, not, Option, None, Some}
use Rattle.std.specs.{List.list_all, List.prefix_len, List.take_while, Option.is_some}
use Rattle.version_order.specs.texts.{Bytes.hyphen, Bytes.plus, Cuts.pieces, Cuts.cut_first}
use Rattle.version_rules.specs.grammar.Chunk.{PlainChunk}
use Rattle.version_pieces.specs.Pieces.{chunks_of}
use Rattle.scheme_semver.specs.{Texts.is_number, Texts.is_section, declared.reader.Section.TheVariants.PreRelease, declared.reader.Section.TheVariants.Metadata}

-- a byte that begins no pre-release and no metadata
abbrev pub is_of_core : ℕ → Bool
is_of_core byte = not (byte == hyphen || byte == plus)

-- what stands between the dots before these, and what follows
abbrev pub core_pieces : List ℕ → List (List ℕ)
core_pieces text = pieces (take_while is_of_core text)

abbrev pub behind_core : List ℕ → List ℕ
behind_core text = drop (prefix_len is_of_core text) text

-- the pre-release that a text is
abbrev pub pre_release_of : List ℕ → Option (Option (List PlainChunk))
pre_release_of text = if is_section PreRelease text then Some (Some (chunks_of text)) else None

-- the pre-release before the metadata
abbrev pub before_metadata : List ℕ → Option (Option (List PlainChunk))
before_metadata text = by (cut_first plus text)
  where
    by : Option (List ℕ × List ℕ) → Option (Option (List PlainChunk))
    by None = pre_release_of text
    by (Some cut) = if is_section Metadata cut.1 then pre_release_of cut.0 else None

-- the pre-release, perhaps none, in what follows three numbers
abbrev pub tail_of : List ℕ → Option (Option (List PlainChunk))
tail_of [] = Some None
tail_of (byte ∷ text) =
    if byte == plus then (if is_section Metadata text then Some None else None)
    else (if byte == hyphen then before_metadata text else None)

-- numbers with this many dots between, and what may follow them
abbrev pub is_core : ℕ → List ℕ → Bool
is_core dots text =
    (list_all is_number (core_pieces text) && length (core_pieces text) == suc dots)
    && is_some (tail_of (behind_core text))

-- what may follow the numbers
abbrev pub is_tail : List ℕ → Bool
is_tail text = is_some (tail_of text)

-- a pre-release, and metadata that may follow it
abbrev pub is_pre_release : List ℕ → Bool
is_pre_release text = is_some (before_metadata text)
