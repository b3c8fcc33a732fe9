-- CSV as RFC 4180 writes it: which bytes of a record stand in quotes.
use Rattle.std.specs.Prelude.{◌==◌, ◌&&◌, ◌||◌, ◌-◌, ℕ, Bool, List, [], ◌∷◌, not, true, false, zero, suc, length, take, if◌then◌else◌}
use Rattle.std.specs.List.{onto_first}
use Rattle.version_lines.specs.declared.csv.FieldState.TheVariants.{Start, Plain, Quoted, Closed, Broken}
use Rattle.version_lines.specs.declared.csv.FieldState.{FieldState}

abbrev pub quote : ℕ
quote = 34

-- outside quotes a separator is followed by a field's beginning, and another byte by this
abbrev pub outside : ℕ → FieldState → ℕ → FieldState
outside separator other byte = if byte == separator then Start else other

-- where the byte after this one stands: a quote opens quotes at a field's beginning alone; in quotes two of them are
-- one, and a quote before another byte ends them
abbrev pub next : ℕ → FieldState → ℕ → FieldState
next separator Start byte = outside separator (if byte == quote then Quoted else Plain) byte
next separator Plain byte = outside separator Plain byte
next separator Quoted byte = if byte == quote then Closed else Quoted
next separator Closed byte = outside separator (if byte == quote then Quoted else Broken) byte
next separator Broken byte = outside separator Broken byte

abbrev pub is_quoted : FieldState → Bool
is_quoted Quoted = true
is_quoted state = false

-- whether a byte is this one, and stands in no quotes
abbrev pub stops : ℕ → FieldState → ℕ → Bool
stops stop state byte = not (is_quoted state) && byte == stop

-- how many bytes of a text come before the first `stop` that stands in no quotes
abbrev pub length_before : ℕ → ℕ → FieldState → List ℕ → ℕ
length_before stop separator state [] = zero
length_before stop separator state (byte ∷ bytes) =
    if stops stop state byte then zero else suc (length_before stop separator (next separator state byte) bytes)

-- the fields of a record as they stand, quotes and all
abbrev pub raw_fields : ℕ → FieldState → List ℕ → List (List ℕ)
raw_fields separator state [] = [] ∷ []
raw_fields separator state (byte ∷ bytes) =
    if stops separator state byte then [] ∷ raw_fields separator Start bytes
    else onto_first byte (raw_fields separator (next separator state byte) bytes)

-- whether a field may end here: not in quotes, nor after more than its quotes
abbrev pub may_end : FieldState → Bool
may_end Quoted = false
may_end Broken = false
may_end state = true

-- whether each field of a record ends where it may
abbrev pub is_whole : ℕ → FieldState → List ℕ → Bool
is_whole separator state [] = may_end state
is_whole separator state (byte ∷ bytes) =
    (not (stops separator state byte) || may_end state) && is_whole separator (next separator state byte) bytes

-- the text of a field that ends where it may: what stands between its quotes, if it has any. Two quotes in them stay
-- two: no version has one, and two fields in quotes have one text exactly where they hold the same.
abbrev pub field_text : List ℕ → List ℕ
field_text [] = []
field_text (byte ∷ bytes) = if byte == quote then take (length bytes - 1) bytes else byte ∷ bytes
