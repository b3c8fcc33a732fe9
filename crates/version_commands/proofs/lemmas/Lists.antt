-- The first row of each name, one row after another, and two lists that were read in turn.
use Rattle.std.proofs.Common.{◌≡◌, ◌∙◌, ℕ, Bool, true, false, List, [], ◌∷◌, ◌++◌, ◌⊎◌, ◌≤◌, drop, length, Option, Some, None, append_assoc, append-nil, if◌then◌else◌, is_some, map, refl, ap, arith, sym}
use Rattle.std.proofs.lemmas.{Bool.cases_Bool, List.drop_all, List.map-append, List.Folds.flat_map-map, Slice.Eq.bytes_eq-Decides}
use Rattle.std.specs.{BTreeMap.get_by, Cmp.Lexicographic.slice_cmp, List.flat_map, Map.update, Option.option_map, Option.option_or, Ordering.nat_cmp, Str.bytes_eq}
use Rattle.version_commands.specs.Lists.{AreNames, Row, first_after, first_rows, lines_against, plain_row, rows_of_line, version_of, bad_lines_of, names_of}
use Rattle.version_commands.specs.{Cause.ComesOfChanges, Cause.ComesOfEither, Fault.ComesOfBad, Fault.ComesOfReading, Files.IsInput, Files.Reading}
use Rattle.version_runs.specs.{declared.faults.TaskFault.TaskFault, declared.faults.TaskFault.TheVariants.BadLine}
use Rattle.version_commands.specs.{declared.lists.Named.Named, declared.lists.Names.Names, lines.Picked.has, lines.Picked.kept_lines}
use Rattle.version_runs.specs.Place.{reads_of}
use Rattle.version_runs.specs.{declared.options.Lists.Lists}
use Rattle.version_lines.specs.declared.lines.Invalid.TheVariants.{Fail}
use Rattle.version_lines.specs.{Inputs.plain_line, Inputs.PlainLine, Sort.version_in, declared.inputs.Line.Line}
use Rattle.version_schemes.specs.{any.AnyVersion.plain_any, any.Order.PlainAny, declared.any.AnyVersion.AnyVersion}
use Rattle.version_commands.proofs.lemmas.Faults.{bad-cases, reading-cases}

-- the version of a name, if a row has it
abbrev pub version_at : Row → List ℕ → Option PlainAny
version_at row name = if bytes_eq row.0 name then Some row.1 else None

chosen : (test : Bool) (v : PlainAny) (o other : Option PlainAny)
    → (if test then Some v else option_or o other)
    ≡ option_or (if test then Some v else o) other
chosen true v o other = refl
chosen false v o other = refl

-- one row more counts for a name that no row before it has
pub version_of-more : (rows : List Row) (row : Row) (name : List ℕ)
    → version_of (rows ++ row ∷ []) name ≡ option_or (version_of rows name) (version_at row name)
version_of-more [] row name = refl
version_of-more (first ∷ rows) row name = grind (arith, chosen, version_of-more rows row name)

-- and it is a first row if none has it
abbrev pub first_at : List Row → Row → List Row
first_at before row = if is_some (version_of before row.0) then [] else row ∷ []

first_after-more : (before rows : List Row) (row : Row)
    → first_after before (rows ++ row ∷ [])
    ≡ first_after before rows ++ first_at (before ++ rows) row
first_after-more before [] row = grind (arith, append-nil, is_some)
first_after-more before (first ∷ rows) row =
    grind (arith, append_assoc, is_some, first_after-more (before ++ first ∷ []) rows row)

pub first_rows-more : (rows : List Row) (row : Row)
    → first_after [] (rows ++ row ∷ []) ≡ first_after [] rows ++ first_at rows row
first_rows-more rows row = first_after-more [] rows row

-- ---- as they are held

or_kept : (o other : Option PlainAny) → is_some o ≡ true → option_or o other ≡ o
or_kept None other some = cc some
or_kept (Some v) other some = refl

or_none : (o : Option PlainAny) → option_or o None ≡ o
or_none None = refl
or_none (Some v) = refl

-- what a map has for a name
abbrev pub held : Names → List ℕ → Option AnyVersion
held names name = get_by (λ key. slice_cmp nat_cmp name key.now) names.versions

is_some-mapped : (o : Option AnyVersion)
    → is_some (option_map plain_any o) ≡ is_some o
is_some-mapped None = refl
is_some-mapped (Some v) = refl

none_held : (o : Option PlainAny) → is_some o ≡ false → o ≡ None
none_held None none = refl
none_held (Some v) none = cc none

-- whether a row has a name
has_name : (row : Row) (name : List ℕ)
    → ((row.0 ≡ name) × (version_at row name ≡ Some row.1)) ⊎ (version_at row name ≡ None)
has_name row name = grind (arith, cases_Bool, bytes_eq-Decides)

-- a row whose name is held changes nothing
pub names_kept : (rows : List Row) (row : Row) (names : Names) → AreNames rows names
    → is_some (held names row.0) ≡ true → AreNames (rows ++ row ∷ []) names
names_kept rows row names are has =
    grind (arith, is_some-mapped, first_rows-more, append-nil, version_of-more, has_name, or_kept, or_none)

-- a row whose name is not held is added
pub names_added : (rows : List Row) (named : Named) (names more : Names) → AreNames rows names
    → is_some (held names named.name.now) ≡ false
    → more.rows.items ≡ names.rows.items ++ named ∷ []
    → ((name : List ℕ)
    → held more name
    ≡ update bytes_eq (held names) named.name.now (Some named.version) name)
    → AreNames (rows ++ plain_row named ∷ []) more
names_added rows named names more are lacks items put =
    grind (
      arith,
      none_held,
      is_some,
      is_some-mapped,
      map-append,
      first_rows-more,
      version_of-more,
      bytes_eq-Decides,
      or_none,
    )

-- ---- line by line

-- the line for a name as it is held
abbrev pub named_line : (Row → Option PlainAny → List ℕ) → List Row → Named → List ℕ
named_line line others named = line (plain_row named) (version_of others named.name.now)

-- once none is left, the lines for all names were added
pub all_lines : (line : Row → Option PlainAny → List ℕ) (others rows : List Row)
    → (names : Names) (i : ℕ) (before now : List ℕ) → AreNames rows names
    → length names.rows.items ≤ i
    → now ++ flat_map (named_line line others) (drop i names.rows.items)
    ≡ before ++ flat_map (named_line line others) names.rows.items
    → now ≡ before ++ lines_against line others (first_rows rows)
all_lines line others rows names i before now are end whole = grind (arith, drop_all, append-nil, flat_map-map)

-- ---- a list, read line by line

row-kept : (lists : Lists) (line : List ℕ) (others : List (List ℕ)) (v : Option PlainAny)
    → version_in (reads_of lists.place) line ≡ v
    → flat_map (rows_of_line lists) (kept_lines (version_in (reads_of lists.place)) (λ w. true) others)
    ≡ flat_map (rows_of_line lists) others
    → flat_map (rows_of_line lists) (kept_lines (version_in (reads_of lists.place)) (λ w. true) (line ∷ others))
    ≡ flat_map (rows_of_line lists) (line ∷ others)
row-kept lists line others None is rest = rw is rest
row-kept lists line others (Some v) is rest = grind arith

-- lines without a version name nothing
pub rows-kept : (lists : Lists) (lines : List (List ℕ))
    → flat_map (rows_of_line lists) (kept_lines (version_in (reads_of lists.place)) (λ w. true) lines)
    ≡ flat_map (rows_of_line lists) lines
rows-kept lists [] = refl
rows-kept lists (line ∷ lines) = grind (arith, row-kept, rows-kept lists lines)

-- where none is left, each line of a list has a version
pub input-good : (lists : Lists) (name text : List ℕ) (bad : List Line)
    → map plain_line bad ≡ bad_lines_of lists name text → bad ≡ [] → bad_lines_of lists name text ≡ []
input-good lists name text bad are none = sym are ∙ ap (map plain_line) none

-- so the faults of the lines without a version of a list are those of the two, if they are so for what
-- is reported of them
pub changes-bad : (lists : Lists) (reads : Reading) (fails : Bool) (old between new : Option (List ℕ))
    (first second : List ℕ) (bad : List PlainLine) → IsInput reads old between lists.old.now first
    → IsInput reads between new lists.new.now second
    → ((fault : TaskFault) → lists.invalid ≡ Fail → ComesOfBad lists.invalid lists.place None bad fault
    → ComesOfEither lists first second fault)
    → (fault : TaskFault) → ComesOfBad lists.invalid lists.place None bad fault
    → ComesOfChanges lists reads fails old fault
changes-bad lists reads fails old between new first second bad one other of_either =
    bad-cases (ComesOfChanges lists reads fails old) lists.invalid lists.place None bad tt
    (λ line is. (
      new,
      first,
      second,
      (between, one, (new, other, refl)),
      of_either (BadLine line) is.0 is,
    ))

-- the faults of reading the two lists are among those of the whole
pub changes-reading : (lists : Lists) (reads : Reading) (fails : Bool) (old : Option (List ℕ)) (fault : TaskFault)
    → ComesOfReading lists.end reads fails old (names_of lists) fault → ComesOfChanges lists reads fails old fault
changes-reading lists reads fails old = grind (arith, reading-cases)
