-- What a message says of a text.
use Rattle.std.specs.Prelude.{ℕ, List, take, if◌then◌else◌, [], ◌∷◌, ◌++◌, ◌==◌, codes, ◌≡◌, ◌&&◌, ◌+◌, ◌-◌, Bool, true, drop, length, nat_le, zero, Option, Some, None, is_some}
use Rattle.std.specs.{Char.encode_utf8, Char.is_control, Char.is_ascii_digit, Char.Escape.escape_default, Fmt.decimal, List.flat_map, List.list_all, List.position_or_len, Option.option_map, Str.chars, Str.encode_utf8_all}
use Rattle.std.specs.Str.Lossy.{utf8_valid_len}
use Rattle.version_schemes.specs.{Flaw.IsFlaw, Flaw.is_version, Flaw.reason_text, Scheme.all_schemes, Scheme.rules, Scheme.scheme_number, any.Order.any_of, declared.scheme.Scheme.Scheme}
use Rattle.std.proofs.Math.ListN.{replicate}
use Rattle.version_answers.specs.{Spelling.found_text, declared.message.remark.Remark.Remark}
use Rattle.version_answers.specs.declared.{message.remark.Remark.TheVariants.Flaw, message.remark.Remark.TheVariants.Prefix, message.remark.Remark.TheVariants.NoColumn, message.remark.Remark.TheVariants.NoScheme, spelling.Naming.Naming}
use Rattle.version_answers.specs.declared.spelling.{Naming.TheVariants.Tag, Spelling.Spelling}

-- ---- what a message shows of a text that it quotes: a line, a word or the name of a file

-- as much of the front of some bytes as is UTF-8
abbrev pub text_in_front : List ℕ → List ℕ
text_in_front bytes = take (utf8_valid_len bytes) bytes

-- a character as a message shows it: control characters by their escapes
abbrev pub quoted_character : ℕ → List ℕ
quoted_character c = if is_control c then encode_utf8_all (escape_default c) else encode_utf8 c

-- as much of a text as a message shows: what is UTF-8 in front of its first sixty bytes
abbrev pub shown_front : List ℕ → List ℕ
shown_front text = text_in_front (take 60 text)

-- a text as a message shows it
abbrev pub quoted : List ℕ → List ℕ
quoted text = flat_map quoted_character (chars (shown_front text))

-- ---- the schemes as a message lists them

-- names behind another
abbrev pub more_names : List (List ℕ) → List ℕ
more_names names = flat_map (λ name. codes ", " ++ name) names

-- what else people call a scheme
abbrev pub aliases_text : List (List ℕ) → List ℕ
aliases_text [] = []
aliases_text (alias ∷ others) = codes " (" ++ (alias ++ (more_names others ++ codes ")"))

-- the names of a scheme in the list, behind a comma where it isn't the first
abbrev pub names_of : Scheme → List ℕ
names_of scheme = (if scheme_number scheme == 1 then [] else codes ", ")
    ++ ((rules scheme).facts.name ++ aliases_text (rules scheme).facts.aliases)

-- those of schemes
abbrev pub names_of_each : List Scheme → List ℕ
names_of_each [] = []
names_of_each (scheme ∷ schemes) = names_of scheme ++ names_of_each schemes

abbrev pub scheme_names : List ℕ
scheme_names = names_of_each all_schemes

-- ---- what a message adds to a text that has no version: why, and where it points at that, or the option that finds one

-- a byte that a message shows as it is
abbrev pub is_plain : ℕ → Bool
is_plain b = nat_le 32 b && nat_le b 126

-- whether a message shows so many bytes at the beginning of a text as they are
abbrev pub begins_plain : List ℕ → ℕ → Bool
begins_plain text count = nat_le count 60 && list_all is_plain (take count text)

-- the place of a text that a message points at, where all before it is shown as it is
abbrev pub pointed_place : List ℕ → ℕ → Option ℕ
pointed_place text place = if begins_plain text place then Some place else None

-- how many bytes stand before the first digit of a text
abbrev pub digit_place : List ℕ → ℕ
digit_place text = position_or_len is_ascii_digit text

-- how long the prefix of a tag is, if its digits begin a version: `go` of `go1.20.3`
abbrev pub prefix_length : Scheme → List ℕ → Option ℕ
prefix_length scheme tag =
    if begins_plain tag (digit_place tag) && is_some (any_of scheme (drop (digit_place tag) tag))
    then Some (digit_place tag) else None

-- what a message adds where no version begins in a text: of a tag the prefix that finds one
abbrev pub remark_on_none : Naming → Scheme → List ℕ → Option Remark
remark_on_none Tag scheme tag = option_map Prefix (prefix_length scheme tag)
remark_on_none other scheme text = None

-- what a message adds to a text whose rest should be a version of a scheme: why it is none
abbrev pub IsFlawOfRest : Scheme → List ℕ → List ℕ → Option Remark → Type 0
IsFlawOfRest scheme text rest None = is_version scheme rest ≡ true
IsFlawOfRest scheme text rest (Some (Flaw reason pointed)) =
    (place : ℕ) × IsFlaw scheme rest place reason
    × (pointed ≡ pointed_place text (length text - length rest + place))
IsFlawOfRest scheme text rest (Some other) = ⊥

abbrev pub IsRemarkOn : Spelling → List ℕ → Option (List ℕ) → Option Remark → Type 0
IsRemarkOn spelling text None remark = remark ≡ remark_on_none spelling.naming spelling.scheme text
IsRemarkOn spelling text (Some rest) remark = IsFlawOfRest spelling.scheme text rest remark

-- what a message adds to a text that spells no version
abbrev pub IsRemark : Spelling → List ℕ → Option Remark → Type 0
IsRemark spelling text = IsRemarkOn spelling text (found_text spelling.naming text)

-- ---- as it is written

-- the line that points at a place
abbrev pub pointer_line : Option ℕ → List ℕ
pointer_line None = []
pointer_line (Some place) = 10 ∷ (codes "  " ++ (replicate place 32 ++ codes "^"))

-- what a message says of so many other lines that have no version
abbrev pub others_text : ℕ → List ℕ
others_text zero = []
others_text more = codes " (and " ++ (decimal more ++ codes " more)")

-- what a message says of a text that has no version, and of more: the text, or why, with the text and a pointer below
abbrev pub no_version_text : Option Remark → List ℕ → List ℕ → List ℕ
no_version_text None text more = quoted text ++ more
no_version_text (Some (Prefix count)) text more =
    quoted text ++ (codes ": --prefix " ++ (quoted (take count text) ++ more))
no_version_text (Some NoColumn) text more = quoted text ++ (codes ": no such column" ++ more)
no_version_text (Some NoScheme) text more = quoted text
    ++ (codes ": no scheme is named, of " ++ (scheme_names ++ more))
no_version_text (Some (Flaw reason pointed)) text more =
    reason_text reason ++ (more ++ (10 ∷ (codes "  " ++ (quoted text ++ pointer_line pointed))))
