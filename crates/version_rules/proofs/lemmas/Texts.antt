-- The bytes of keys are below 256 if the bytes of the texts are.
use borrow.Author.Tests.{lt-ltb}
use Rattle.std.proofs.Common.{ℕ, zero, suc, ◌<◌, List, [], ◌∷◌, ◌++◌, map, replicate, Option, Some, None, arith, lit<, take, drop, rules}
use Rattle.std.proofs.lemmas.{Int.Digits.all_below_base_digits_of, List.Elements.All-from_recursion, List.Elements.recursion_from_All}
use Rattle.std.specs.{Char.digit_char, Int.Digits.AllBelowBase, List.AllByRecursion, List.flat_map, Option.option_map_or}
use Rattle.version_rules.specs.key.Key.{Key, key_behind_epoch, key_of, key_of_sections, section_epoch, sections_tail, key_bytes, Tail, PreReleased, Bare, Released, Sections, section_bytes, tail_bytes}
use Rattle.version_rules.specs.key.PartKey.{PartKey, Word, Number, part_bytes, parts_bytes, part_key, section_parts, suffix_of, Split, numbered_bytes, split_bytes, split_of}
use Rattle.version_rules.specs.key.Texts.{held_text, held_texts, part_text, parts_text, rest_text, split_text, AreBytes, key_text, section_text, tail_text, texts_of}
use Rattle.version_rules.specs.grammar.{Chunk.PlainChunk, Chunk.Numeric, Chunk.Alphanum, MChunk.PlainMChunk, MChunk.mchunk_text, Versioning.PlainVersioning, Versioning.Ideal, Versioning.General, Versioning.Complex}
use Rattle.version_rules.specs.order.Parts.{chunk_bytes, release_bytes}
use Rattle.version_order.specs.keys.Codes.{list_bytes, length_bytes, number_bytes, text_byte, text_bytes}
use Rattle.version_order.specs.texts.{Front.number_front, Grammar.PlainSep, Grammar.Colon}

-- ---- the bytes of the pieces of keys are below 256 if the bytes of the texts are

-- each is a byte, by cases on the list
abbrev pub Bytes : List ℕ → Type 0
Bytes xs = AllByRecursion (λ b. b < 256) xs

pub append_are_bytes : (xs ys : List ℕ) → Bytes xs → Bytes ys → Bytes (xs ++ ys)
append_are_bytes [] ys h k = k
append_are_bytes (x ∷ xs) ys h k = (h.0, append_are_bytes xs ys h.1 k)

pub left_are_bytes : (xs ys : List ℕ) → Bytes (xs ++ ys) → Bytes xs
left_are_bytes [] ys h = tt
left_are_bytes (x ∷ xs) ys h = (h.0, left_are_bytes xs ys h.1)

pub right_are_bytes : (xs ys : List ℕ) → Bytes (xs ++ ys) → Bytes ys
right_are_bytes [] ys h = h
right_are_bytes (x ∷ xs) ys h = right_are_bytes xs ys h.1

-- a list's bytes, from those of each item and of the end
pub list_are_bytes : {A : Type 0} (text : A → List ℕ) (code : Option A → List ℕ) → Bytes (code None)
    → ((a : A) → Bytes (text a) → Bytes (code (Some a)))
    → (xs : List A) → Bytes (flat_map text xs) → Bytes (list_bytes code xs)
list_are_bytes text code end item [] h = append_are_bytes (code None) [] end tt
list_are_bytes text code end item (x ∷ xs) h =
    append_are_bytes (code (Some x)) (list_bytes code xs)
    (item x (left_are_bytes (text x) (flat_map text xs) h))
    (list_are_bytes text code end item xs (right_are_bytes (text x) (flat_map text xs) h))

copies_are_bytes : (n b : ℕ) → b < 256 → Bytes (replicate n b)
copies_are_bytes zero b h = tt
copies_are_bytes (suc n) b h = (h, copies_are_bytes n b h)

digits_are_bytes : (ds : List ℕ) → AllBelowBase 10 ds → Bytes (map digit_char ds)
digits_are_bytes [] h = tt
digits_are_bytes (d ∷ ds) h = (rw (lt-ltb d 10 h.0) (omega arith), digits_are_bytes ds h.1)

length_are_bytes : (n : ℕ) → Bytes (length_bytes n)
length_are_bytes n = grind (arith, append_are_bytes, copies_are_bytes)

pub number_are_bytes : (n : ℕ) → Bytes (number_bytes n)
number_are_bytes n =
    grind (arith, append_are_bytes, length_are_bytes, digits_are_bytes, all_below_base_digits_of)

text_byte_are_bytes : (b : ℕ) → Bytes (b ∷ []) → Bytes (text_byte (Some b))
text_byte_are_bytes zero h = (lit< tt, (lit< tt, tt))
text_byte_are_bytes (suc zero) h = (lit< tt, (lit< tt, tt))
text_byte_are_bytes (suc (suc b)) h = h

singly : (xs : List ℕ) → Bytes xs → Bytes (flat_map (λ b. b ∷ []) xs)
singly [] h = tt
singly (x ∷ xs) h = (h.0, singly xs h.1)

pub text_are_bytes : (text : List ℕ) → Bytes text → Bytes (text_bytes text)
text_are_bytes text h =
    list_are_bytes (λ b. b ∷ []) text_byte (lit< tt, tt) text_byte_are_bytes text (singly text h)

numbered_are_bytes : (n : Option (ℕ × List ℕ)) → Bytes (rest_text n) → Bytes (numbered_bytes n)
numbered_are_bytes None h = (lit< tt, tt)
numbered_are_bytes (Some n) h = grind (arith, lit<, append_are_bytes, number_are_bytes, text_are_bytes)

pub split_are_bytes : (s : Split) → Bytes (split_text s) → Bytes (split_bytes s)
split_are_bytes s h =
    grind (arith, append_are_bytes, text_are_bytes, left_are_bytes, numbered_are_bytes, right_are_bytes)

pub part_are_bytes : (p : PartKey) → Bytes (part_text p) → Bytes (part_bytes (Some p))
part_are_bytes (Word w) h = (lit< tt, split_are_bytes w h)
part_are_bytes (Number n None) h =
    (lit< tt, append_are_bytes (number_bytes n) (2 ∷ []) (number_are_bytes n) (lit< tt, tt))
part_are_bytes (Number n (Some s)) h = grind (arith, lit<, append_are_bytes, number_are_bytes, split_are_bytes)

pub parts_are_bytes : (ps : List PartKey) → Bytes (parts_text ps) → Bytes (parts_bytes ps)
parts_are_bytes = list_are_bytes part_text part_bytes (lit< tt, tt) part_are_bytes

chunk_are_bytes : (c : PlainChunk) → Bytes (held_text c) → Bytes (chunk_bytes (Some c))
chunk_are_bytes (Numeric n) h = (lit< tt, number_are_bytes n)
chunk_are_bytes (Alphanum t) h = (lit< tt, text_are_bytes t h)

pub release_are_bytes : (r : List PlainChunk) → Bytes (held_texts r) → Bytes (release_bytes r)
release_are_bytes = list_are_bytes held_text chunk_bytes (lit< tt, tt) chunk_are_bytes

-- ---- keys

section_are_bytes : (s : List PartKey) → Bytes (parts_text s) → Bytes (section_bytes (Some s))
section_are_bytes s h = (lit< tt, parts_are_bytes s h)

tail_are_bytes : (t : Tail) → Bytes (tail_text t) → Bytes (tail_bytes t)
tail_are_bytes (PreReleased r) h = (lit< tt, release_are_bytes r h)
tail_are_bytes Bare h = (lit< tt, tt)
tail_are_bytes (Released r) h = (lit< tt, release_are_bytes r h)
tail_are_bytes (Sections first more) h = (
  lit< tt,
  list_are_bytes parts_text section_bytes (lit< tt, tt) section_are_bytes
      (first ∷ more) h,
)

key_are_bytes : (k : Key) → Bytes (key_text k) → Bytes (key_bytes k)
key_are_bytes k h =
    grind (arith, parts_are_bytes, left_are_bytes, tail_are_bytes, right_are_bytes, append_are_bytes, number_are_bytes)

pub keys_are_bytes : (k : Key) → AreBytes (key_text k) → AreBytes (key_bytes k)
keys_are_bytes k h = grind (arith, All-from_recursion, key_are_bytes, recursion_from_All)

-- ---- the texts of a key are pieces of the texts of the version

take_are_bytes : (n : ℕ) (xs : List ℕ) → Bytes xs → Bytes (take n xs)
take_are_bytes zero xs h = tt
take_are_bytes (suc n) [] h = tt
take_are_bytes (suc n) (x ∷ xs) h = (h.0, take_are_bytes n xs h.1)

drop_are_bytes : (n : ℕ) (xs : List ℕ) → Bytes xs → Bytes (drop n xs)
drop_are_bytes zero xs h = h
drop_are_bytes (suc n) [] h = tt
drop_are_bytes (suc n) (x ∷ xs) h = drop_are_bytes n xs h.1

rest_pieces : (text : List ℕ) → Bytes text → Bytes (rest_text (number_front text))
rest_pieces text h = grind (arith, drop_are_bytes)

split_pieces : (text : List ℕ) → Bytes text → Bytes (split_text (split_of text))
split_pieces text h = grind (arith, append_are_bytes, take_are_bytes, rest_pieces, drop_are_bytes)

part_pieces : (text : List ℕ) → Bytes text → Bytes (part_text (part_key text))
part_pieces text h = by (number_front text) (rest_pieces text h)
  where
    suffix : (n : ℕ) (rest : List ℕ) → Bytes rest → Bytes (part_text (Number n (suffix_of rest)))
    suffix n [] g = tt
    suffix n (b ∷ rest) g = split_pieces (b ∷ rest) g

    by : (front : Option (ℕ × List ℕ)) → Bytes (rest_text front)
        → Bytes (part_text
        (option_map_or (λ f. Number f.0 (suffix_of f.1)) front (Word (split_of text))))
    by None g = split_pieces text h
    by (Some f) g = suffix f.0 f.1 g

-- a list of the images of xs
mapped_pieces : {A B : Type 0} (text : A → List ℕ) (f : A → B) (held : B → List ℕ)
    → ((a : A) → Bytes (text a) → Bytes (held (f a)))
    → (xs : List A) → Bytes (flat_map text xs) → Bytes (flat_map held (map f xs))
mapped_pieces text f held each [] h = tt
mapped_pieces text f held each (x ∷ xs) h = append_are_bytes (held (f x)) (flat_map held (map f xs))
    (each x (left_are_bytes (text x) (flat_map text xs) h))
    (mapped_pieces text f held each xs (right_are_bytes (text x) (flat_map text xs) h))

parts_pieces : {A : Type 0} (text : A → List ℕ) (xs : List A) → Bytes (flat_map text xs)
    → Bytes (parts_text (map (λ x. part_key (text x)) xs))
parts_pieces text =
    mapped_pieces text (λ x. part_key (text x)) part_text (λ x. part_pieces (text x))

one_more : (ps : List PartKey) (q : PartKey) → Bytes (parts_text ps) → Bytes (part_text q)
    → Bytes (parts_text (ps ++ q ∷ []))
one_more [] q g h = append_are_bytes (part_text q) [] h tt
one_more (p ∷ ps) q g h =
    append_are_bytes (part_text p) (parts_text (ps ++ q ∷ []))
    (left_are_bytes (part_text p) (parts_text ps) g)
    (one_more ps q (right_are_bytes (part_text p) (parts_text ps) g) h)

pre_release_pieces : (o : Option (List PlainChunk)) → Bytes (option_map_or held_texts o [])
    → Bytes (tail_text (option_map_or PreReleased o Bare))
pre_release_pieces None h = tt
pre_release_pieces (Some r) h = h

release_pieces : (o : Option (List PlainChunk)) → Bytes (option_map_or held_texts o [])
    → Bytes (tail_text (option_map_or Released o Bare))
release_pieces None h = tt
release_pieces (Some r) h = h

-- the printed texts of further sections
abbrev further_text : List (PlainSep × List PlainMChunk) → List ℕ
further_text = flat_map (λ section. section_text section.1)

further_pieces : (more : List (PlainSep × List PlainMChunk)) → Bytes (further_text more)
    → Bytes (tail_text (sections_tail more))
further_pieces [] h = tt
further_pieces (section ∷ more) h =
    mapped_pieces (λ s. section_text s.1) (λ s. section_parts s.1) parts_text
    (λ s. parts_pieces mchunk_text s.1) (section ∷ more) h

mess_pieces : (epoch : ℕ) (first : List PlainMChunk) (more : List (PlainSep × List PlainMChunk))
    → Bytes (section_text first ++ further_text more)
    → Bytes (key_text (key_of_sections epoch first more))
mess_pieces epoch first more h =
    grind (arith, append_are_bytes, parts_pieces, left_are_bytes, further_pieces, right_are_bytes)

epoch_pieces : (epoch : Option ℕ) (first : List PlainMChunk)
    (more : List (PlainSep × List PlainMChunk)) → Bytes (section_text first ++ further_text more)
    → Bytes (key_text (key_behind_epoch epoch first more))
epoch_pieces (Some epoch) first ((Colon, body) ∷ more) h = search (rules, mess_pieces, right_are_bytes)
epoch_pieces epoch first more h = mess_pieces 0 first more h

key_pieces : (v : PlainVersioning) → Bytes (texts_of v) → Bytes (key_text (key_of v))
key_pieces (Ideal v) h = pre_release_pieces v.pre_rel h
key_pieces (General v) h =
    search (
      rules,
      left_are_bytes,
      append_are_bytes,
      one_more,
      parts_pieces,
      part_pieces,
      right_are_bytes,
      release_pieces,
    )
key_pieces (Complex m) h = epoch_pieces (section_epoch m.first) m.first m.more h

pub versions_are_bytes : (v : PlainVersioning) → AreBytes (texts_of v)
    → AreBytes (key_bytes (key_of v))
versions_are_bytes v h =
    grind (arith, All-from_recursion, key_are_bytes, key_pieces, recursion_from_All)
