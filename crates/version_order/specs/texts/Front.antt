-- Fronts: a front reads a value from a prefix of a text, and gives it with the rest, or None.
use Rattle.std.specs.Prelude.{◌≡◌, Bool, false, ℕ, zero, suc, List, [], ◌∷◌, length, drop, Option, Some, None, ◌==◌, ◌≤◌, if◌then◌else◌, ◌&&◌, not}
use Rattle.std.specs.{Char.is_ascii_digit, List.prefix_len, List.take_while, List.list_all, Option.option_map, Option.option_and_then, Option.option_map_or, Str.Parse.digits_value}
use Rattle.version_order.specs.texts.Bytes.{dot}

-- a front of values of the type X
abbrev pub Front : Type 0 → Type 0
Front X = List ℕ → Option (X × List ℕ)

infixl 10 ◌>>=◌
abbrev pub ◌>>=◌ : {A B : Type 0} → Option A → (A → Option B) → Option B
o >>= f = option_and_then f o

-- f of the value that was read
abbrev pub map_value : {X Y : Type 0} → (X → Y) → Option (X × List ℕ) → Option (Y × List ℕ)
map_value f = option_map (λ p. (f p.0, p.1))

-- whether a text begins with a byte that passes the test
abbrev pub begins : (ℕ → Bool) → List ℕ → Bool
begins test [] = false
begins test (b ∷ text) = test b

-- a piece, or None if it is empty
abbrev pub unless_empty : List ℕ × List ℕ → Option (List ℕ × List ℕ)
unless_empty run = if length run.0 == 0 then None else Some run

-- the longest run of the bytes that pass the test, or None if it is empty
unfoldable pub run_front : (ℕ → Bool) → Front (List ℕ)
run_front test text = unless_empty (take_while test text, drop (prefix_len test text) text)

-- what follows the byte mark, if the text begins with it
abbrev pub after_mark : ℕ → List ℕ → Option (List ℕ)
after_mark mark [] = None
after_mark mark (b ∷ text) = if b == mark then Some text else None

-- a front after the byte mark
abbrev pub behind : {X : Type 0} → ℕ → Front X → Front X
behind mark front text = after_mark mark text >>= front

-- the value that a front reads, if it leaves no rest
abbrev pub whole : {X : Type 0} → Option (X × List ℕ) → Option X
whole read = read >>= λ p. if length p.1 == 0 then Some p.0 else None

-- a piece that may be absent; a piece that does not parse is absent, and stays in the rest
unfoldable pub optional : {X : Type 0} → Front X → List ℕ → Option X × List ℕ
optional front text = option_map_or (λ p. (Some p.0, p.1)) (front text) (None, text)

-- items one after another, as long as they parse, and n at most
unfoldable pub repeated : {X : Type 0} → Front X → ℕ → List ℕ → List X × List ℕ
repeated front zero text = ([], text)
repeated front (suc n) text =
    option_map_or (λ p. (p.0 ∷ (repeated front n p.1).0, (repeated front n p.1).1)) (front text)
    ([], text)

-- further elements, each after a dot, as long as they parse, and n at most
abbrev pub further : {X : Type 0} → Front X → ℕ → List ℕ → List X × List ℕ
further front = repeated (behind dot front)

-- one element or more, joined by dots; the list ends before a dot that no element follows
unfoldable pub dotted_front : {X : Type 0} → Front X → Front (List X)
dotted_front front text = do
  first ← front text
  let others = further front (length first.1) first.1
  Some (first.0 ∷ others.0, others.1)

-- the elements of the list at the start of a text; [] if no element parses
abbrev pub elements_at : {X : Type 0} → Front X → List ℕ → List X
elements_at front text = option_map_or (λ p. p.0) (dotted_front front text) []

-- the rest that a front leaves is no longer than the text
abbrev pub Consumes : {X : Type 0} → Front X → Type 0
Consumes {X} front =
    (text : List ℕ) (x : X) (rest : List ℕ) → front text ≡ Some (x, rest)
    → length rest ≤ length text

-- a nonempty text of bytes that pass the test
abbrev pub is_run : (ℕ → Bool) → List ℕ → Bool
is_run test text = not (length text == 0) && list_all test text

-- ---- runs of digits in a text, and the numbers that they write. A run may have any length

-- whether a text begins with a digit
abbrev pub starts_with_digit : List ℕ → Bool
starts_with_digit = begins is_ascii_digit

-- whether a text is a run of digits: one or more, and nothing else
abbrev pub is_digits : List ℕ → Bool
is_digits text = starts_with_digit text && list_all is_ascii_digit text

-- the value of the longest run that a text begins with
abbrev pub run_value : List ℕ → ℕ
run_value text = digits_value 10 (take_while is_ascii_digit text)

-- that value, and what follows the run; None if the text does not begin with a digit
abbrev pub number_front : List ℕ → Option (ℕ × List ℕ)
number_front text =
    if starts_with_digit text
    then Some (run_value text, drop (prefix_len is_ascii_digit text) text)
    else None

-- what follows the digits that a text begins with
abbrev pub behind_digits : List ℕ → List ℕ
behind_digits text = drop (prefix_len is_ascii_digit text) text
