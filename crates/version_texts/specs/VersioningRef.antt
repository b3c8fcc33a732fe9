-- The version that a borrowed one holds, and where its fields and its numbers lie.
use Rattle.version_texts.specs.{Order.is_numbered, Scan.is_numeral, declared.versioning_ref.VersioningRef.VersioningRef, declared.versioning_ref.field.Field.Field}
use Rattle.version_texts.specs.declared.versioning_ref.field.Field.TheVariants.{Epoch, PreRelease, Release, Metadata}
use Rattle.std.specs.Prelude.{ℕ, List, [], ◌∷◌, ◌++◌, ◌+◌, length, Option, Some, None, ◌==◌, ◌&&◌, ◌-◌, ◌^◌, Bool, not, if◌then◌else◌}
use Rattle.std.specs.{Borrow.Bor, Char.is_ascii_digit, Fmt.decimal, List.before_first, List.slice_split, List.take_while, Option.unwrap_or, Option.option_map, Str.Parse.digits_value}
use Rattle.version_order.specs.texts.{Bytes.dot, Bytes.hyphen, Bytes.plus, Bytes.colon, Cuts.pieces, Front.is_digits, Grammar.is_sep}
use Rattle.version_rules.specs.grammar.Versioning.{PlainVersioning, Ideal, General, Complex, versioning_of}
use Rattle.version_rules.specs.grammar.{Body.body_text, Body.release_text, MChunk.value_of_digits, Mess.joined_section, SemVer.PlainSemVer, SemVer.semver_text, Version.PlainVersion, Version.epoch_text, Version.version_text}
use Rattle.version_rules.specs.key.Key.{mess_epoch}

-- ---- the version of any kind that a borrowed text spells

-- the version that a text spells; for a text that spells none, one that no text spells
unfoldable pub version_in : List ℕ → PlainVersioning
version_in text = unwrap_or (versioning_of text) (Complex (record { first = []; more = [] }))

-- the version that a scanned value holds
abbrev pub plain_versioning_ref : VersioningRef → PlainVersioning
plain_versioning_ref v = version_in v.text.now

-- the major number of a strict version and the dot behind it; nothing for other kinds
abbrev pub major_text : PlainVersioning → List ℕ
major_text (Ideal v) = decimal v.major ++ dot ∷ []
major_text (General v) = []
major_text (Complex m) = []

-- ---- the fields of a version that are pieces of its text, and where they lie in it

-- the text of a field, if the version has it
abbrev pub field_text : Field → PlainVersioning → Option (List ℕ)
field_text Epoch (General v) = option_map decimal v.epoch
field_text Epoch (Complex m) = option_map (λ n. joined_section m.first) (mess_epoch m.first m.more)
field_text PreRelease (Ideal v) = option_map release_text v.pre_rel
field_text Release (General v) = option_map release_text v.release
field_text Metadata (Ideal v) = v.meta
field_text Metadata (General v) = v.meta
field_text _ _ = None

-- the same version without metadata
abbrev pub bare_semver : PlainSemVer → PlainSemVer
bare_semver v =
    record { major = v.major; minor = v.minor; patch = v.patch; pre_rel = v.pre_rel; meta = None }

abbrev pub bare_version : PlainVersion → PlainVersion
bare_version v =
    record { epoch = v.epoch; chunks = v.chunks; last = v.last; release = v.release; meta = None }

-- the same version without metadata, and without its pre-release or release
abbrev pub numbers_alone : PlainSemVer → PlainSemVer
numbers_alone v =
    record { major = v.major; minor = v.minor; patch = v.patch; pre_rel = None; meta = None }

abbrev pub body_alone : PlainVersion → PlainVersion
body_alone v =
    record { epoch = v.epoch; chunks = v.chunks; last = v.last; release = None; meta = None }

-- the printed text before a field: what is printed without it and what follows it, and its mark
abbrev pub text_before : Field → PlainVersioning → List ℕ
text_before PreRelease (Ideal v) = semver_text (numbers_alone v) ++ hyphen ∷ []
text_before Release (General v) = version_text (body_alone v) ++ hyphen ∷ []
text_before Metadata (Ideal v) = semver_text (bare_semver v) ++ plus ∷ []
text_before Metadata (General v) = version_text (bare_version v) ++ plus ∷ []
text_before _ _ = []

-- where a text lies behind another
abbrev pub span_behind : List ℕ → List ℕ → ℕ × ℕ
span_behind before text = (length before, length before + length text)

-- where a field lies in the text of a version, if the version has it
abbrev pub field_span : Field → PlainVersioning → Option (ℕ × ℕ)
field_span f v = option_map (span_behind (text_before f v)) (field_text f v)

-- the text of the epoch with its colon, which is empty without an epoch, and that of the parts with
-- dots between them; None of a messy version
abbrev pub epoch_and_parts : PlainVersioning → Option (List ℕ × List ℕ)
epoch_and_parts (Ideal v) = Some ([], semver_text (numbers_alone v))
epoch_and_parts (General v) = Some (epoch_text v.epoch, body_text (v.chunks, v.last))
epoch_and_parts (Complex m) = None

-- ---- the number at a place of a version, read off its text

-- the largest epoch that is given as a number where numbers have a sign: the largest of 64 bits
abbrev pub largest_epoch : ℕ
largest_epoch = 2 ^ 63 - 1

-- the pieces of a text that may be missing, and then has none
abbrev pub pieces_left : Option (Bor (List ℕ)) → List (List ℕ)
pieces_left None = []
pieces_left (Some text) = pieces text.now

-- the value of a numeral; none of another text
abbrev pub numeral_value : List ℕ → Option ℕ
numeral_value text = if is_numeral text then Some (digits_value 10 text) else None

-- the first number of a last part: that of a numeral, and of a part that is decomposed
abbrev pub last_number : List ℕ → Option ℕ
last_number part =
    if is_digits part then numeral_value part
    else (if is_numbered part then numeral_value (take_while is_ascii_digit part) else None)

-- the number of the first of these parts, which are those of a body from a place on
abbrev pub body_number : List (List ℕ) → Option ℕ
body_number [] = None
body_number (part ∷ []) = last_number part
body_number (part ∷ next ∷ more) = value_of_digits part

-- the number of the first of these chunks of a section
abbrev pub chunk_number : List (List ℕ) → Option ℕ
chunk_number [] = None
chunk_number (chunk ∷ more) = value_of_digits chunk

-- whether a byte is a sign other than a colon
abbrev pub is_other_sign : ℕ → Bool
is_other_sign b = is_sep b && not (b == colon)

-- the last one of some pieces
abbrev pub last_piece : List (List ℕ) → List ℕ
last_piece [] = []
last_piece (piece ∷ []) = piece
last_piece (piece ∷ next ∷ more) = last_piece (next ∷ more)

-- the first section that no colon follows: the last one between colons, of those before the first
-- other sign
abbrev pub section_in : List ℕ → List ℕ
section_in text = last_piece (slice_split (λ b. b == colon) (before_first is_other_sign text))
