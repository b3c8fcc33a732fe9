-- Which texts are Python's versions: PEP 440, appendix B. Each reader takes as much as it can. The appendix's pattern may
-- give back what it took, but takes no other text by that.
use Rattle.std.specs.Prelude.{◌==◌, ◌&&◌, ◌||◌, ℕ, Bool, List, [], ◌∷◌, codes, drop, if◌then◌else◌, length, map, nat_le, Option, None, Some, unwrap_or}
use Rattle.std.specs.{Char.is_ascii_alphanumeric, Char.is_ascii_digit, Char.to_ascii_lowercase, List.prefix_len, Option.option_map, Option.option_map_or, Option.option_or, Str.Parse.digits_value, declared.cmp.Ordering.Ordering}
use Rattle.version_order.specs.texts.Front.{is_digits, number_front, run_value, ◌>>=◌, Front, after_mark, behind, map_value, optional, repeated, run_front, whole, begins}
use Rattle.version_order.specs.{Facts.PlainFacts, Keyed.by_key, Rules.compared, Rules.Rules, Rules.rules_of, declared.facts.Operators.TheVariants.Plain, texts.Bytes.dot, texts.Bytes.hyphen, texts.Bytes.plus, texts.Bytes.underscore}
use Rattle.scheme_pypi.specs.Order.{Alpha, Beta, Candidate, DevAlone, Final, Local, Number, Phase, PlainPypi, Text, pypi_cmp, pypi_bytes}

-- ---- bytes and words

-- a blank of ASCII: a tab to a carriage return, or one of the four separators before a space, or a space
abbrev pub is_blank : ℕ → Bool
is_blank byte = (nat_le 9 byte && nat_le byte 13) || (nat_le 28 byte && nat_le byte 32)

-- a text without the blanks that it begins with
abbrev pub without_blanks : List ℕ → List ℕ
without_blanks [] = []
without_blanks (byte ∷ text) = if is_blank byte then without_blanks text else byte ∷ text

-- the byte between two numbers of a release
abbrev pub is_dot : ℕ → Bool
is_dot byte = byte == dot

-- a byte that may stand before a word, after it, and between the pieces of a local version
abbrev pub is_separator : ℕ → Bool
is_separator byte = byte == dot || (byte == hyphen || byte == underscore)

-- a text without the separator that it may begin with
abbrev pub without_separator : List ℕ → List ℕ
without_separator [] = []
without_separator (byte ∷ text) = if is_separator byte then text else byte ∷ text

-- what follows a small letter, if the text begins with it in either case
abbrev pub after_letter : ℕ → List ℕ → Option (List ℕ)
after_letter letter [] = None
after_letter letter (byte ∷ text) = if to_ascii_lowercase byte == letter then Some text else None

-- what follows a word in small letters, if the text begins with it in letters of either case
abbrev pub after_word : List ℕ → List ℕ → Option (List ℕ)
after_word [] text = Some text
after_word (letter ∷ word) text = after_letter letter text >>= after_word word

-- what is left of a text behind those letters of a word that it begins with
abbrev pub left_of_word : List ℕ → List ℕ → List ℕ
left_of_word [] text = text
left_of_word (letter ∷ word) [] = []
left_of_word (letter ∷ word) (byte ∷ text) =
    if to_ascii_lowercase byte == letter then left_of_word word text else byte ∷ text

-- what follows the first of these words that the text begins with
abbrev pub after_any : List (List ℕ) → List ℕ → Option (List ℕ)
after_any [] text = None
after_any (word ∷ words) text = option_or (after_word word text) (after_any words text)

-- a text without the `v` that it may begin with
abbrev pub without_v : List ℕ → List ℕ
without_v text = unwrap_or (after_word (codes "v") text) text

-- ---- numbers and lists

-- a number, zero where there is no digit
abbrev pub number_or_zero : List ℕ → ℕ × List ℕ
number_or_zero text = (run_value text, drop (prefix_len is_ascii_digit text) text)

-- a number after one of these words, each with a separator before it or none
abbrev pub numbered : List (List ℕ) → Front ℕ
numbered words text =
    option_map (λ rest. number_or_zero (without_separator rest)) (after_any words (without_separator text))

-- a front after a byte that passes the test
abbrev pub after_byte : {X : Type 0} → (ℕ → Bool) → Front X → Front X
after_byte test front [] = None
after_byte test front (byte ∷ text) = if test byte then front text else None

-- one item or more, with such a byte between two of them
unfoldable pub joined : {X : Type 0} → (ℕ → Bool) → Front X → Front (List X)
joined test front text = do
  first ← front text
  let others = repeated (after_byte test front) (length first.1) first.1
  Some (first.0 ∷ others.0, others.1)

-- the items that a text begins with
abbrev pub items_at : {X : Type 0} → (ℕ → Bool) → Front X → List ℕ → List X
items_at test front text = option_map_or (λ read. read.0) (joined test front text) []

-- ---- the pieces of a version

-- an epoch: a number before an exclamation mark
abbrev pub epoch_front : Front ℕ
epoch_front text = do
  number ← number_front text
  rest ← after_mark 33 number.1
  Some (number.0, rest)

-- the epoch, zero where there is none
abbrev pub epoch_or_zero : List ℕ → ℕ × List ℕ
epoch_or_zero text = unwrap_or (epoch_front text) (0, text)

-- numbers without the zeros at their end
abbrev pub before_zeros : ℕ → List ℕ → List ℕ
before_zeros number [] = if number == 0 then [] else number ∷ []
before_zeros number (next ∷ numbers) = number ∷ next ∷ numbers

abbrev pub without_zeros : List ℕ → List ℕ
without_zeros [] = []
without_zeros (number ∷ numbers) = before_zeros number (without_zeros numbers)

-- the numbers that a text begins with, and those of a release, without the zeros at their end
abbrev pub numbers_of : List ℕ → List ℕ
numbers_of = items_at is_dot number_front

abbrev pub release_of : List ℕ → List ℕ
release_of text = without_zeros (numbers_of text)

-- a release: numbers with dots between them
abbrev pub release_front : Front (List ℕ)
release_front = joined is_dot number_front

-- the words of each kind of release: a word stands before those that it begins with
abbrev pub alpha_words : List (List ℕ)
alpha_words = codes "alpha" ∷ codes "a" ∷ []

abbrev pub beta_words : List (List ℕ)
beta_words = codes "beta" ∷ codes "b" ∷ []

abbrev pub candidate_words : List (List ℕ)
candidate_words = codes "rc" ∷ codes "c" ∷ codes "preview" ∷ codes "pre" ∷ []

abbrev pub post_words : List (List ℕ)
post_words = codes "post" ∷ codes "rev" ∷ codes "r" ∷ []

abbrev pub dev_words : List (List ℕ)
dev_words = codes "dev" ∷ []

-- a pre-release: a word of its kind, and its number
abbrev pub pre_front : Front Phase
pre_front text =
    option_or (map_value Alpha (numbered alpha_words text))
    (option_or (map_value Beta (numbered beta_words text))
    (map_value Candidate (numbered candidate_words text)))

-- a post-release: a hyphen and a number, or a word and a number
abbrev pub post_front : Front ℕ
post_front text =
    option_or (behind hyphen number_front text) (numbered post_words text)

-- a dev release
abbrev pub dev_front : Front ℕ
dev_front = numbered dev_words

-- a piece of a local version, in lower case
abbrev pub local_of : List ℕ → Local
local_of piece = if is_digits piece then Number (digits_value 10 piece) else Text (map to_ascii_lowercase piece)

-- a piece: letters and digits
abbrev pub piece_front : Front Local
piece_front text = map_value local_of (run_front is_ascii_alphanumeric text)

-- the pieces of the local version that a text begins with
abbrev pub pieces_of : List ℕ → List Local
pieces_of = items_at is_separator piece_front

-- a local version: a plus, and pieces with separators between them
abbrev pub pieces_front : Front (List Local)
pieces_front = joined is_separator piece_front

abbrev pub local_front : Front (List Local)
local_front = behind plus pieces_front

-- ---- the whole

-- a dev release of its own comes before pre-releases
abbrev pub phase_of : Option Phase → Option ℕ → Option ℕ → Phase
phase_of (Some phase) post dev = phase
phase_of None None (Some dev) = DevAlone
phase_of None post dev = Final

-- a version, and what follows the blanks after it
abbrev pub pypi_front : Front PlainPypi
pypi_front text = do
  let epoch = epoch_or_zero (without_v text)
  release ← release_front epoch.1
  let pre = optional pre_front release.1
  let post = optional post_front pre.1
  let dev = optional dev_front post.1
  let local = optional local_front dev.1
  Some (
    record {
      epoch = epoch.0;
      release = without_zeros release.0;
      phase = phase_of pre.0 post.0 dev.0;
      post = post.0;
      dev = dev.0;
      local = local.0;
    },
    without_blanks local.1,
  )

-- the version that a text is, with blanks around it or none
abbrev pub pypi_of : List ℕ → Option PlainPypi
pypi_of text = whole (pypi_front (without_blanks text))

-- how two texts compare, if both are versions
abbrev pub texts_cmp : List ℕ → List ℕ → Option Ordering
texts_cmp = compared pypi_of pypi_cmp

-- ---- a text item by item

-- the text of a next item, after the byte between two of them, or nothing
abbrev pub next_item : (ℕ → Bool) → (ℕ → Bool) → List ℕ → List ℕ
next_item between starts [] = []
next_item between starts (byte ∷ text) = if between byte && begins starts text then text else []

abbrev pub next_number : List ℕ → List ℕ
next_number = next_item is_dot is_ascii_digit

abbrev pub next_piece : List ℕ → List ℕ
next_piece = next_item is_separator is_ascii_alphanumeric

-- ---- the rules

-- what is fixed: a key has two bytes for each byte of a text at most, and seven more
abbrev pub pypi_facts : PlainFacts
pypi_facts = record {
  number = 4;
  name = codes "pypi";
  aliases = codes "python" ∷ codes "pip" ∷ codes "pep440" ∷ [];
  operators = Plain;
  per_byte = 2;
  beside = 7;
  marks = codes "-+._!";
}

abbrev pub pypi_rules : Rules
pypi_rules = rules_of pypi_facts pypi_of pypi_cmp (λ v. by_key (pypi_bytes v))
