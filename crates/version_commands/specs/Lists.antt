-- What differs between two lists of names with versions.
use Rattle.std.specs.Prelude.{◌≡◌, ℕ, List, [], ◌∷◌, ◌++◌, map, codes, Option, Some, None, is_some, if◌then◌else◌}
use Rattle.std.specs.{BTreeMap.get_by, Cmp.Lexicographic.slice_cmp, List.flat_map, Option.option_map, Option.option_map_or, Ordering.nat_cmp, Str.bytes_eq, declared.cmp.Ordering.Ordering}
use Rattle.std.specs.declared.cmp.Ordering.TheVariants.{Less, Equal, Greater}
use Rattle.version_commands.specs.declared.{lists.Named.Named, lists.Names.Names, lists.WhichList.WhichList, lists.WhichList.TheVariants.Old, lists.WhichList.TheVariants.New}
use Rattle.version_runs.specs.declared.{options.Lists.Lists}
use Rattle.version_commands.specs.lines.Picked.{bad_lines}
use Rattle.version_runs.specs.Place.{column_text, line_text, reads_of}
use Rattle.version_lines.specs.{Inputs.lines_of_input, Inputs.PlainLine, Lines.lines_of, Lines.whole_line, Sort.version_in}
use Rattle.version_schemes.specs.any.{AnyVersion.plain_any, Order.PlainAny, Order.any_precedence}

-- the inputs of two lists
abbrev pub names_of : Lists → List (List ℕ)
names_of lists = lists.old.now ∷ lists.new.now ∷ []

-- the lines of a list, which the file of a name holds
abbrev pub lines_of_list : Lists → List ℕ → List ℕ → List PlainLine
lines_of_list lists name input = lines_of_input lists.end (Some name, input)

-- those that have no version
abbrev pub bad_lines_of : Lists → List ℕ → List ℕ → List PlainLine
bad_lines_of lists name input = bad_lines (version_in (reads_of lists.place)) (lines_of_list lists name input)

-- a name, and the version beside it
abbrev pub Row : Type 0
Row = List ℕ × PlainAny

-- what a line names, if it has a version
abbrev pub row_of : Lists → List ℕ → Option Row
row_of lists line =
    option_map (λ v. (column_text (Some lists.name) (line_text lists.place.crlf line), v))
    (version_in (reads_of lists.place) line)

-- as a list of one row or none
abbrev pub rows_of_line : Lists → List ℕ → List Row
rows_of_line lists line = option_map_or (λ row. row ∷ []) (row_of lists line) []

-- what some lines name
abbrev pub named_in : Lists → List (List ℕ) → List Row
named_in lists lines = flat_map (rows_of_line lists) lines

-- what the lines of an input name
abbrev pub rows_of : Lists → List ℕ → List Row
rows_of lists input = named_in lists (lines_of lists.end input)

-- the version of a name: that of its first row
abbrev pub version_of : List Row → List ℕ → Option PlainAny
version_of [] name = None
version_of (row ∷ rows) name = if bytes_eq row.0 name then Some row.1 else version_of rows name

-- of some rows after others, each whose name no row before it has
abbrev pub first_after : List Row → List Row → List Row
first_after before [] = []
first_after before (row ∷ rows) =
    if is_some (version_of before row.0)
    then first_after (before ++ row ∷ []) rows
    else row ∷ first_after (before ++ row ∷ []) rows

-- the first row of each name
abbrev pub first_rows : List Row → List Row
first_rows rows = first_after [] rows

-- a word, a name and a version, with spaces between
abbrev pub row_text : List ℕ → Row → List ℕ
row_text word row = word ++ (row.0 ++ 32 ∷ row.1.text)

-- the line for a name that has another version in the new list, by how the old one compares
abbrev pub change_line : ℕ → Row → PlainAny → Ordering → List ℕ
change_line end row v Less = whole_line end (row_text (codes "raised ") row ++ 32 ∷ v.text)
change_line end row v Greater =
    whole_line end (row_text (codes "lowered ") row ++ 32 ∷ v.text)
change_line end row v Equal = []

-- the line for a name of one of the lists, by its version in the other
abbrev pub name_line : WhichList → ℕ → Row → Option PlainAny → List ℕ
name_line Old end row None = whole_line end (row_text (codes "removed ") row)
name_line Old end row (Some v) = change_line end row v (any_precedence row.1 v)
name_line New end row None = whole_line end (row_text (codes "added ") row)
name_line New end row (Some v) = []

-- the lines for the names of a list, by the rows of the other list
abbrev pub lines_against : (Row → Option PlainAny → List ℕ) → List Row → List Row → List ℕ
lines_against line others rows = flat_map (λ row. line row (version_of others row.0)) rows

-- what `diff --lists` writes for two lists
abbrev pub difference_text : ℕ → List Row → List Row → List ℕ
difference_text end old new =
    lines_against (name_line Old end) new (first_rows old)
    ++ lines_against (name_line New end) old (first_rows new)

-- ---- as they are held

-- the row that a value holds
abbrev pub plain_row : Named → Row
plain_row named = (named.name.now, plain_any named.version)

-- the names of some rows: their first rows in order, and the version of each name
pub record AreNames (rows : List Row) (names : Names) : Type 0 where
  pub order : map plain_row names.rows.items ≡ first_rows rows
  pub versions : (name : List ℕ)
      → option_map plain_any
      (get_by (λ key. slice_cmp nat_cmp name key.now) names.versions)
      ≡ version_of rows name
