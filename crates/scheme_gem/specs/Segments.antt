-- The segments of a version, `Gem::Version#segments`, the entries that they make, and RubyGems' own comparison of them.
use Rattle.std.specs.Prelude.{◌==◌, ◌&&◌, ◌||◌, ℕ, zero, suc, Bool, true, false, List, [], ◌∷◌, codes, if◌then◌else◌, not, ◌++◌, drop, ◌≡◌, Option, None, Some, ⊤}
use Rattle.std.specs.{Char.is_ascii_alphabetic, Char.is_ascii_digit, List.flat_map, List.take_while, List.prefix_len, List.list_all, Ordering.nat_cmp, Ordering.on, Ordering.ordering_then, declared.cmp.Ordering.Ordering}
use Rattle.std.specs.declared.cmp.Ordering.TheVariants.{Less, Equal, Greater}
use Rattle.version_order.specs.{keys.Lists.bytes_cmp, texts.Bytes.dot, texts.Bytes.hyphen, texts.Front.run_value, texts.Front.behind_digits}
use Rattle.scheme_gem.specs.{Order.Entry, Order.Letters, Order.Number, declared.version.Next.Next}
use Rattle.scheme_gem.specs.declared.version.Next.TheVariants as next

-- letters, or a number
pub data Segment : Type 0 where
  Word : List ℕ → Segment
  Integer : ℕ → Segment

-- a hyphen reads as `.pre.`
abbrev pub spelled_byte : ℕ → List ℕ
spelled_byte byte = if byte == hyphen then codes ".pre." else byte ∷ []

abbrev pub spelled : List ℕ → List ℕ
spelled = flat_map spelled_byte

-- a byte that letters begin with: a letter, or a hyphen
abbrev pub is_lettered : ℕ → Bool
is_lettered byte = byte == hyphen || is_ascii_alphabetic byte

-- the segments from a byte on, by the byte before it and the segments after it: one more if a run of digits or of
-- letters begins with it
abbrev pub put_segment : ℕ → ℕ → List ℕ → List Segment → List Segment
put_segment before byte text segments =
    if is_ascii_digit byte && not (is_ascii_digit before) then Integer (run_value text) ∷ segments else
    if is_ascii_alphabetic byte && not (is_ascii_alphabetic before)
    then Word (take_while is_ascii_alphabetic text) ∷ segments
    else segments

-- the runs that begin in a text after a byte
abbrev pub segments_after : ℕ → List ℕ → List Segment
segments_after before [] = []
segments_after before (byte ∷ text) = put_segment before byte (byte ∷ text) (segments_after byte text)

-- the segments of a text
abbrev pub segments_of : List ℕ → List Segment
segments_of text = segments_after dot (spelled text)

-- the entries of segments, after letters or before any, and after so many zeros: those right before the first letters
-- don't count, nor those at the end
abbrev pub entries_after : Bool → ℕ → List Segment → List Entry
entries_after lettered count [] = []
entries_after lettered count (Integer zero ∷ segments) = entries_after lettered (suc count) segments
entries_after lettered count (Integer (suc n) ∷ segments) = Number count (suc n) ∷ entries_after lettered 0 segments
entries_after lettered count (Word text ∷ segments) =
    Letters (if lettered then count else 0) text ∷ entries_after true 0 segments

abbrev pub entries_of : List Segment → List Entry
entries_of = entries_after false 0

-- the entries of a text, after letters or before any
abbrev pub entries_in : Bool → List ℕ → List Entry
entries_in lettered text = entries_after lettered 0 (segments_of text)

-- ---- what is found in a text one after another

-- the entry that comes next, if one does
abbrev pub entry_of : Next → Option Entry
entry_of (next.Letters count letters rest) = Some (Letters count letters.now)
entry_of (next.Number count text) = Some (Number count (run_value text.now))
entry_of next.End = None

-- the entries from the next one on, after letters or before any
abbrev pub entries_from : Bool → Next → List Entry
entries_from lettered (next.Letters count letters rest) = Letters count letters.now ∷ entries_in true rest.now
entries_from lettered (next.Number count text) =
    Number count (run_value text.now) ∷ entries_in lettered (behind_digits text.now)
entries_from lettered next.End = []

-- letters are letters alone
abbrev pub HasLetters : Next → Type 0
HasLetters (next.Letters count letters rest) = list_all is_ascii_alphabetic letters.now ≡ true
HasLetters other = ⊤

-- ---- RubyGems' own comparison, as its source has it: segment by segment, of the segments that count

-- a list without the items at its end that pass
abbrev pub without_last : {A : Type 0} → (A → Bool) → List A → List A
without_last test [] = []
without_last test (x ∷ xs) = if list_all test (x ∷ xs) then [] else x ∷ without_last test xs

abbrev pub is_integer : Segment → Bool
is_integer (Integer n) = true
is_integer (Word text) = false

abbrev pub is_zero : Segment → Bool
is_zero (Integer zero) = true
is_zero segment = false

-- `Gem::Version#canonical_segments`: the numbers before the first letters, and the segments from these on, each without
-- the zeros at its end
abbrev pub canonical : List Segment → List Segment
canonical segments =
    without_last is_zero (take_while is_integer segments)
    ++ without_last is_zero (drop (prefix_len is_integer segments) segments)

-- letters before numbers
abbrev pub segment_cmp : Segment → Segment → Ordering
segment_cmp (Word s) (Word t) = bytes_cmp s t
segment_cmp (Word s) (Integer n) = Less
segment_cmp (Integer m) (Word t) = Greater
segment_cmp (Integer m) (Integer n) = nat_cmp m n

-- nothing more and these segments: what is missing is a zero
abbrev pub missing_cmp : List Segment → Ordering
missing_cmp [] = Equal
missing_cmp (y ∷ ys) = ordering_then (segment_cmp (Integer 0) y) (missing_cmp ys)

-- segment by segment
abbrev pub segments_cmp : List Segment → List Segment → Ordering
segments_cmp [] ys = missing_cmp ys
segments_cmp (x ∷ xs) [] = ordering_then (segment_cmp x (Integer 0)) (segments_cmp xs [])
segments_cmp (x ∷ xs) (y ∷ ys) = ordering_then (segment_cmp x y) (segments_cmp xs ys)

-- `Gem::Version#<=>`
abbrev pub canonical_cmp : List Segment → List Segment → Ordering
canonical_cmp = on canonical segments_cmp
