-- The pieces of the local versions of Python: their front, their order and their bytes.
use Rattle.std.proofs.Common.{[], ◌≡◌, ◌∙◌, ◌<◌, ◌≤◌, ◌||◌, ◌==◌, ℕ, Bool, true, false, List, ◌∷◌, drop, length, length-append, map, Some, None, ap, arith, refl, sym}
use Rattle.std.proofs.lemmas.{Bool.eqb-false, Bool.Decides.nat_tests, Grind.common_steps, List.length-drop, List.take-append-drop}
use Rattle.std.specs.{Char.is_ascii_alphanumeric, Char.is_ascii_digit, Char.to_ascii_lowercase, Cmp.second_so, List.prefix_len, List.take_while, Ordering.bool_cmp, Str.Parse.digits_value}
use Rattle.std.specs.declared.cmp.Ordering.TheVariants.{Less, Greater}
use Rattle.version_order.proofs.lemmas.Front.{run_front-empty, run_front-some, take_while-all}
use Rattle.version_order.specs.{keys.Codes.number_bytes, keys.Codes.text_byte, keys.Codes.text_bytes, keys.Lists.ended_cmp, texts.Bytes.plus, texts.Front.is_digits, texts.Front.run_value, texts.Front.begins}
use Rattle.scheme_pypi.specs.Order.{Local, Number, Text, local_bytes, local_cmp}
use Rattle.scheme_pypi.specs.Texts.{is_separator, local_front, local_of, piece_front, pieces_front, pieces_of, next_piece}
use Rattle.scheme_pypi.proofs.lemmas.Items.{Reads, items-none, items-step, joined-None, next_shorter, rest_same}

-- the letters and digits that a text begins with, and what follows them
abbrev pub run_of : List ℕ → List ℕ
run_of text = take_while is_ascii_alphanumeric text

abbrev pub after_run : List ℕ → List ℕ
after_run text = drop (prefix_len is_ascii_alphanumeric text) text

no_run : (starts : ℕ → Bool) (text : List ℕ) → begins starts text ≡ false → take_while starts text ≡ []
no_run starts [] e = refl
no_run starts (byte ∷ text) e = rw e refl

pub some_run : (starts : ℕ → Bool) (text : List ℕ) → begins starts text ≡ true
    → (length (take_while starts text) == 0) ≡ false
some_run starts text e = grind (arith, common_steps)

pub piece-some : (text : List ℕ) → (length (run_of text) == 0) ≡ false
    → piece_front text ≡ Some (local_of (run_of text), after_run text)
piece-some text some = rw (run_front-some is_ascii_alphanumeric text _ _ refl refl some) refl

pub piece-none : (text : List ℕ) → (length (run_of text) == 0) ≡ true → piece_front text ≡ None
piece-none text none = rw (run_front-empty is_ascii_alphanumeric text _ refl none) refl

pub pieces_read : Reads is_ascii_alphanumeric piece_front
pieces_read = record {
  none = λ text e. piece-none text (rw (no_run is_ascii_alphanumeric text e) refl);
  some = λ text e. (
    (local_of (run_of text), after_run text),
    piece-some text (some_run is_ascii_alphanumeric text e),
  );
  consumes = λ text x rest e. by text x rest e (length (run_of text) == 0) refl;
}
  where
    by : (text : List ℕ) (x : Local) (rest : List ℕ) → piece_front text ≡ Some (x, rest)
        → (none : Bool) → (length (run_of text) == 0) ≡ none → length rest ≤ length text
    by text x rest e true none = cc (sym (piece-none text none) ∙ e)
    by text x rest e false some =
        let same = rest_same _ _ _ _ (sym (piece-some text some) ∙ e) in
        omega (arith, length-drop (prefix_len is_ascii_alphanumeric text) text, ap length same)

-- the front of a piece where one begins
pub piece_read : (text rest : List ℕ) → begins is_ascii_alphanumeric text ≡ true → rest ≡ after_run text
    → piece_front text ≡ Some (local_of (run_of text), rest)
piece_read text rest e r = rw r (piece-some text (some_run is_ascii_alphanumeric text e))

-- the pieces of a text: the first one and those of the next, or none
pub pieces_step : (text piece rest more : List ℕ) → piece ≡ run_of text → rest ≡ after_run text
    → more ≡ next_piece rest → (length piece == 0) ≡ false → pieces_of text ≡ local_of piece ∷ pieces_of more
pieces_step text piece rest more run left next some =
    items-step is_separator is_ascii_alphanumeric piece_front pieces_read text (local_of piece) rest more
    (rw (run, left) (piece-some text (rw run at some))) next

pub no_pieces : (text piece : List ℕ) → piece ≡ run_of text → (length piece == 0) ≡ true → pieces_of text ≡ []
no_pieces text piece run none = grind (arith, common_steps, some_run, items-none, pieces_read)

-- after a piece less is left
pub piece_falls : (text piece rest more : List ℕ) → piece ≡ run_of text → rest ≡ after_run text → more ≡ next_piece rest
    → (length piece == 0) ≡ false → length more < length text
piece_falls text piece rest more run left next some =
    grind (arith, common_steps, length-append, take-append-drop, next_shorter, eqb-false)

-- ---- a local version after its plus

pub local-Some : (pieces rest : List ℕ) → pieces_front pieces ≡ Some (pieces_of pieces, rest)
    → local_front (plus ∷ pieces) ≡ Some (pieces_of pieces, rest)
local-Some pieces rest read = read

pub local-None : (text : List ℕ) → begins (λ b. b == plus) text ≡ false → local_front text ≡ None
local-None [] e = refl
local-None (byte ∷ text) e = rw e refl

-- a plus before something else
pub local-other : (pieces : List ℕ) → begins is_ascii_alphanumeric pieces ≡ false → local_front (plus ∷ pieces) ≡ None
local-other = joined-None is_separator is_ascii_alphanumeric piece_front pieces_read

-- ---- order

-- a list that goes on comes after one that has ended
above : (piece : Local) (pieces : List Local) → ended_cmp local_cmp (piece ∷ pieces) [] ≡ Greater
above (Number n) pieces = refl
above (Text text) pieces = refl

below : (piece : Local) (pieces : List Local) → ended_cmp local_cmp [] (piece ∷ pieces) ≡ Less
below (Number n) pieces = refl
below (Text text) pieces = refl

-- two lists of which one has ended
pub lists_end : (a b piece other : List ℕ) → piece ≡ run_of a → other ≡ run_of b → (p q : Bool)
    → p ≡ (length piece == 0) → q ≡ (length other == 0) → (p || q) ≡ true
    → bool_cmp q p ≡ ended_cmp local_cmp (pieces_of a) (pieces_of b)
lists_end a b piece other run run_too p q e f some = search (arith, no_pieces, pieces_step, below, above)

-- one of two tests
pub or_first : (p q : Bool) → p ≡ true → (p || q) ≡ true
or_first p q e = rw e refl

pub or_second : (p q : Bool) → q ≡ true → (p || q) ≡ true
or_second true q e = refl
or_second false q e = e

-- ---- bytes

-- the number of a piece that is digits
pub run_of_digits : (piece : List ℕ) → is_digits piece ≡ true → run_value piece ≡ digits_value 10 piece
run_of_digits piece e = ap (digits_value 10) (take_while-all is_ascii_digit piece (second_so _ _ e))

pub bytes_of_number : (piece : List ℕ) → is_digits piece ≡ true
    → local_bytes (Some (local_of piece)) ≡ 3 ∷ number_bytes (run_value piece)
bytes_of_number piece e = rw (run_of_digits piece e, e) refl

pub bytes_of_text : (piece : List ℕ) → is_digits piece ≡ false
    → local_bytes (Some (local_of piece)) ≡ 2 ∷ text_bytes (map to_ascii_lowercase piece)
bytes_of_text piece e = rw e refl

-- a letter or a digit is one byte, in lower case
high : (byte : ℕ) → is_ascii_alphanumeric byte ≡ true → 2 ≤ to_ascii_lowercase byte
high byte e = grind (arith, nat_tests)

one_byte : (byte : ℕ) → 2 ≤ byte → text_byte (Some byte) ≡ byte ∷ []
one_byte byte e = grind (arith, common_steps)

pub text_step : (byte : ℕ) (text : List ℕ) → is_ascii_alphanumeric byte ≡ true
    → text_bytes (map to_ascii_lowercase (byte ∷ text))
    ≡ to_ascii_lowercase byte ∷ text_bytes (map to_ascii_lowercase text)
text_step byte text passes = rw (one_byte (to_ascii_lowercase byte) (high byte passes)) refl
