-- The version in a tag of git, or in another name of a release.
use Rattle.std.specs.Prelude.{◌==◌, ◌&&◌, ◌||◌, ℕ, zero, suc, Bool, true, List, [], ◌∷◌, drop, length, not, take, Option, Some, None, is_some, if◌then◌else◌}
use Rattle.std.specs.{Char.is_ascii_digit, Option.option_or, Str.bytes_eq}
use Rattle.version_order.specs.texts.{Bytes.dot, Bytes.is_section_byte, Front.starts_with_digit, Front.◌>>=◌, Front.begins}
use Rattle.version_rules.specs.grammar.Versioning.{PlainVersioning, versioning_of}

-- a separator: any byte that is neither a letter, a digit nor a dot
abbrev pub is_separator : ℕ → Bool
is_separator b = not (is_section_byte b)

-- a `v` or `V`
abbrev pub is_v : ℕ → Bool
is_v b = b == 118 || b == 86

-- a text without the one `v` or `V` that it may begin with
abbrev pub without_v : List ℕ → List ℕ
without_v [] = []
without_v (b ∷ text) = if is_v b then text else b ∷ text

-- the text of the version at the beginning of a text: all of it, without a `v`, if a digit comes
-- first then
abbrev pub text_at_beginning : List ℕ → Option (List ℕ)
text_at_beginning text = if starts_with_digit (without_v text) then Some (without_v text) else None

-- whether a place is the beginning of a text, or follows a separator
abbrev pub is_open : List ℕ → ℕ → Bool
is_open text zero = true
is_open text (suc place) = begins is_separator (drop place text)

-- whether a version may begin at a place of a tag
abbrev pub may_begin : List ℕ → ℕ → Bool
may_begin tag place = is_open tag place && is_some (text_at_beginning (drop place tag))

-- whether a digit, a dot and a digit begin at a place
abbrev pub is_point : List ℕ → ℕ → Bool
is_point text place =
    begins is_ascii_digit (drop place text) && begins (λ b. b == dot)
    (drop (suc place) text) && begins is_ascii_digit (drop (suc (suc place)) text)

-- the first place below a limit that passes the test
abbrev pub first_below : (ℕ → Bool) → ℕ → Option ℕ
first_below test zero = None
first_below test (suc place) =
    option_or (first_below test place) (if test place then Some place else None)

-- where the version of a tag begins: at the first place where one may, unless a dot between two
-- digits stands before it
unfoldable pub place_in_tag : List ℕ → Option ℕ
place_in_tag tag = do
  place ← first_below (may_begin tag) (length tag)
  if is_some (first_below (is_point tag) place) then None else Some place

-- the text of the version in a tag: the rest of the tag from that place on, without a `v`
abbrev pub text_in_tag : List ℕ → Option (List ℕ)
text_in_tag tag = place_in_tag tag >>= λ place. text_at_beginning (drop place tag)

-- the version in a tag, if that text is one
abbrev pub version_in_tag : List ℕ → Option PlainVersioning
version_in_tag tag = text_in_tag tag >>= versioning_of

-- what follows a prefix, if the text begins with it
abbrev pub after_prefix : List ℕ → List ℕ → Option (List ℕ)
after_prefix prefix text = if bytes_eq (take (length prefix) text) prefix
    then Some (drop (length prefix) text)
    else None

-- the text of the version after a prefix of a tag: only the beginning counts there
abbrev pub text_after_prefix : List ℕ → List ℕ → Option (List ℕ)
text_after_prefix prefix tag = after_prefix prefix tag >>= text_at_beginning

-- the version after a prefix of a tag, if that text is one
abbrev pub version_after_prefix : List ℕ → List ℕ → Option PlainVersioning
version_after_prefix prefix tag = text_after_prefix prefix tag >>= versioning_of
