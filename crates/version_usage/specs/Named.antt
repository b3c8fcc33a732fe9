-- What single words of a run name.
use Rattle.std.specs.Prelude.{ℕ, Bool, true, false, List, [], ◌∷◌, Option, None, Some, codes, find, map, nat_lt, option_map, unwrap_or, ◌==◌, ◌&&◌, ◌^◌, if◌then◌else◌}
use Rattle.std.specs.{Char.is_ascii, List.list_all, Str.bytes_eq, Str.Parse.digits_value, Str.Parse.without_leading_plus}
use Rattle.version_lines.specs.declared.lines.Invalid.{Invalid}
use Rattle.version_answers.specs.declared.two.compare.Operator.{Operator}
use Rattle.version_usage.specs.{Grammar.Text, declared.named.TheConstants.INVALIDS, declared.named.TheConstants.LEVELS, declared.named.TheConstants.OPERATORS, declared.named.Verb.Verb, declared.table.TheConstants.COMMANDS}
use Rattle.version_lines.specs.Column.{has_bytes}
use Rattle.version_order.specs.texts.Front.{is_digits}
use Rattle.version_tasks.specs.declared.stability.Stability.{Stability}
use Rattle.version_lines.specs.declared.lines.Invalid.TheVariants as invalid
use Rattle.version_usage.specs.declared.named.Verb.TheVariants as verb

-- the rows of a table with the texts of their names
abbrev pub texts_in : {T V : Type 0} → (T → List ℕ) → List (T × V) → List (List ℕ × V)
texts_in text table = map (λ row. (text row.0, row.1)) table

-- what a word names in such rows
abbrev pub value_named : {V : Type 0} → List (List ℕ × V) → List ℕ → Option V
value_named rows word = option_map (λ row. row.1) (find (λ row. bytes_eq row.0 word) rows)

-- the same in a table of the program
abbrev pub named : {V : Type 0} → List (Text × V) → List ℕ → Option V
named table word = value_named (texts_in (λ name. name.now) table) word

-- the command of a name
abbrev pub verb_named : List ℕ → Option Verb
verb_named word = named COMMANDS word

-- what a word of `--invalid` names
abbrev pub invalid_named : List ℕ → Option Invalid
invalid_named word = named INVALIDS word

-- whether a command can do this with lines that have no version: only those of all lines can put
-- them before or after the others
abbrev pub may_ask : Verb → Invalid → Bool
may_ask verb.Sort asked = true
may_ask verb.Filter asked = true
may_ask command invalid.Fail = true
may_ask command invalid.Skip = true
may_ask command other = false

-- what becomes of lines without a version: what is asked, or else the command's own choice. Those
-- that go to a file are left out, and to ask anything else of them is wrong
abbrev pub invalid_asked : Option Invalid → (to_file : Bool) → (by_default : Invalid) → Option Invalid
invalid_asked asked false by_default = Some (unwrap_or asked by_default)
invalid_asked None true by_default = Some invalid.Skip
invalid_asked (Some invalid.Skip) true by_default = Some invalid.Skip
invalid_asked (Some other) true by_default = None

-- what a word of `--min-stability` names
abbrev pub stability_named : List ℕ → Option Stability
stability_named word = named LEVELS word

-- the operator that a word of `test` names, by its sign or by its two letters
abbrev pub operator_named : List ℕ → Option Operator
operator_named word = named OPERATORS word

-- the bytes that a word of `-t` names: its own, if they are ASCII and there are any, a tab by `\t` and NUL by `\0`
abbrev pub separators_named : List ℕ → Option (List ℕ)
separators_named word =
    if bytes_eq word (codes "\\t") then Some (9 ∷ [])
    else (if bytes_eq word (codes "\\0") then Some (0 ∷ [])
    else (if list_all is_ascii word && has_bytes word then Some word else None))

-- the number that a word is, if it is all digits and fits
abbrev pub number_named : List ℕ → Option ℕ
number_named word =
    if is_digits word && nat_lt (digits_value 10 word) (2 ^ 64)
    then Some (digits_value 10 word) else None

-- the same with a plus before it
abbrev pub count_named : List ℕ → Option ℕ
count_named word = number_named (without_leading_plus word)

-- whether the word of a column is its number: digits, perhaps with a plus before them; it is a name else
abbrev pub is_number : List ℕ → Bool
is_number word = is_digits (without_leading_plus word)

-- whether it is the number of no column: 0, or one that doesn't fit
abbrev pub is_no_column : List ℕ → Bool
is_no_column word = is_number word && (unwrap_or (count_named word) 0 == 0)

-- the place of a number that a word of `next` names, counted from 0
abbrev pub place_named : List ℕ → Option ℕ
place_named word =
    if bytes_eq word (codes "major") then Some 0
    else (if bytes_eq word (codes "minor") then Some 1
    else (if bytes_eq word (codes "patch") then Some 2 else number_named word))
