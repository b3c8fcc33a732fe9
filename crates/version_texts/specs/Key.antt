-- The parts of texts, and the key of a version, read off its text by its shape.
use Rattle.std.specs.Prelude.{ℕ, List, [], ◌∷◌, ◌++◌, map, Option, Some, None, ◌+◌, ◌*◌}
use Rattle.std.specs.{Borrow.Bor, List.slice_split, Str.Parse.digits_value}
use Rattle.version_order.specs.texts.Cuts.{is_dot, pieces, behind_piece, first_piece, further_pieces}
use Rattle.version_order.specs.{keys.Codes.number_bytes, texts.Grammar.is_sep}
use Rattle.version_texts.specs.{Scan.body_in, Scan.epoch_in, Scan.tail_in}
use Rattle.version_pieces.specs.declared.runs.Delimiters.{Delimiters}
use Rattle.version_texts.specs.declared.{scan.shape.Shape.Shape, scan.shape.TailKind.TailKind}
use Rattle.version_texts.specs.declared.scan.shape.TailKind.TheVariants.{PreRelease, Nothing, Release, Sections}
use Rattle.version_pieces.specs.Pieces.{chunks_of, sign_of}
use Rattle.version_rules.specs.{key.Key.Key, key.Key.Tail, key.PartKey.PartKey, key.PartKey.part_key, key.PartKey.parts_bytes}
use Rattle.version_rules.specs.key.Key as tail

-- ---- the key of a version, read off its text by its shape

-- the parts of a body or of a section
abbrev pub parts_of : List ℕ → List PartKey
parts_of text = map part_key (pieces text)

-- the parts of each section of a text, between its signs
abbrev pub sections_of : List ℕ → List (List PartKey)
sections_of text = map parts_of (slice_split is_sep text)

-- the same, where signs divide sections if they end parts
abbrev pub lists_of : Delimiters → List ℕ → List (List PartKey)
lists_of ends text = map parts_of (slice_split (sign_of ends) text)

-- the tail of one section or more
abbrev pub tail_of_sections : List (List PartKey) → Tail
tail_of_sections [] = tail.Bare
tail_of_sections (first ∷ more) = tail.Sections first more

-- the tail of a kind, from its text
abbrev pub tail_of : TailKind → List ℕ → Tail
tail_of PreRelease text = tail.PreReleased (chunks_of text)
tail_of Nothing text = tail.Bare
tail_of Release text = tail.Released (chunks_of text)
tail_of Sections text = tail_of_sections (sections_of text)

-- the key of the version that a text holds: the value of its epoch, the parts of its body, and its
-- tail
abbrev pub text_key : List ℕ → Shape → Key
text_key text s =
    record {
      epoch =
          digits_value 10 (epoch_in text s);
      body =
          parts_of (body_in text s);
      tail = tail_of s.tail (tail_in text s);
    }

-- the bytes of a key before its tail
abbrev pub front_bytes : Key → List ℕ
front_bytes k = number_bytes k.epoch ++ parts_bytes k.body

-- ---- the parts of a text by its first piece, and those of a text that may be missing

-- the parts of a text; none without a text
abbrev pub parts_behind : Option (Bor (List ℕ)) → List PartKey
parts_behind None = []
parts_behind (Some text) = parts_of text.now

-- the first part of a text, and those after it
abbrev pub first_part : List ℕ → PartKey
first_part text = part_key (first_piece text)

abbrev pub more_parts : List ℕ → List PartKey
more_parts text = map part_key (further_pieces is_dot (behind_piece text))

-- ---- how long a key may be

-- a size that is enough for the key of any text of a length
abbrev pub room_for : ℕ → ℕ
room_for len = len * 3 + 5
