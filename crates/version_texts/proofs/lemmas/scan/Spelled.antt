-- The pieces of spelled texts: at which bytes a text is split, and which tests numerals, chunks and what holds them pass.
use Rattle.std.proofs.Common.{◌≡◌, ◌∙◌, ℕ, Bool, true, false, List, [], ◌∷◌, ◌++◌, map, refl, sym, ap, ◌<◌, length, arith, inl, inr, ◌≢◌, ◌==◌, ◌^◌, ◌≤◌, ◌||◌, not, get_or, nat_lt, take, Option, Some, None, subst}
use Rattle.std.proofs.lemmas.Bool.{and_from, cases_Bool, eq-eqb, le-ltb, ne_eqb, eqb-false, and_parts, eqb-true, lt-ltb, ltb-true, not-true, or_cases, or_left, or_right}
use Rattle.std.proofs.lemmas.{List.map-append, List.map-id, List.Elements.All-cons, List.Elements.All-nil, List.Folds.list_all-append, List.Splits.slice_split_at, List.Splits.slice_split_none, List.Splits.length-slice_split}
use Rattle.std.proofs.lemmas.Str.Parse.{digits_value-take-le}
use Rattle.std.specs.{Char.is_ascii_alphanumeric, Char.is_ascii_digit, Cmp.first_so, Cmp.second_so, List.All, List.list_all, List.onto_first, List.slice_split, Option.is_some, Str.Parse.digits_value}
use Rattle.version_rules.specs.grammar.Chunk.{Alphanum, Numeric, PlainChunk, SpellsChunk, SpellsChunkOf, SpellsPart, chunk_text, HasNoLeadingZero, SpellsNumeral}
use Rattle.version_rules.specs.grammar.{Body.PlainBody, Body.SpellsBody, Body.SpellsRelease, Last.last_text, MChunk.PlainMChunk, MChunk.SpellsMChunk}
use Rattle.version_rules.specs.key.PartKey.{chunk_parts, part_key, section_parts}
use Rattle.version_order.specs.texts.{Bytes.dot, Bytes.is_identifier_byte, Bytes.is_metadata_byte, Bytes.is_section_byte, Cuts.is_dot, Cuts.pieces, Front.is_digits, Front.begins, Front.is_run, Grammar.SpellsDotted}
use Rattle.version_rules.proofs.lemmas.{Chunk.digit_alphanumeric, Chunk.part_printed, Last.last_printed, MChunk.mchunk_printed, MChunk.spelled_run, Numeral.nine_digits}
use Rattle.version_order.proofs.lemmas.{Bytes.digit_identifier, Bytes.identifier_no_dot, Bytes.alphanumeric_no_dot, Bytes.alphanumeric_section, Front.all_weaker, Runs.and-false}
use Rattle.version_texts.specs.{Key.parts_of, Scan.is_numeral, Scan.is_chunk}
use Rattle.version_pieces.specs.Pieces.{chunk_of, chunks_of}

-- ---- the pieces of a text between its dots are the texts of the elements of a list that it spells

-- no byte of a text passes a test
abbrev pub NonePass : (ℕ → Bool) → List ℕ → Type 0
NonePass test text = All (λ b. test b ≡ false) text

-- if bytes that pass one test fail another, no byte of a run of the one passes the other
pub none_pass : (run test : ℕ → Bool) → ((b : ℕ) → run b ≡ true → test b ≡ false) → (text : List ℕ)
    → list_all run text ≡ true → NonePass test text
none_pass run test fails [] all = All-nil (λ b. test b ≡ false)
none_pass run test fails (b ∷ text) all =
    All-cons (λ b. test b ≡ false) b text (fails b (first_so _ _ all))
    (none_pass run test fails text (second_so _ _ all))

-- two texts of bytes that pass a test are one such text
pub all_pass : (test : ℕ → Bool) (a b : List ℕ) → list_all test a ≡ true → list_all test b ≡ true
    → list_all test (a ++ b) ≡ true
all_pass test a b first second = list_all-append test a b ∙ rw first second

-- ---- lists of elements whose texts have no dot

module _ {X : Type 0} (Spells : List ℕ → X → Type 0) where
  -- what the pieces give is what the elements give
  pub pieces_give : {Y : Type 0} (of_text : List ℕ → Y) (of_value : X → Y)
      → ((text : List ℕ) (x : X) → Spells text x → NonePass is_dot text)
      → ((text : List ℕ) (x : X) → Spells text x → of_text text ≡ of_value x)
      → (text : List ℕ) (xs : List X) → SpellsDotted Spells text xs
      → map of_text (pieces text) ≡ map of_value xs
  unfolding SpellsDotted
  pieces_give of_text of_value no_dot same text [] s = absurd s
  pieces_give of_text of_value no_dot same text (x ∷ []) s =
      ap (map of_text) (slice_split_none is_dot text (no_dot text x s)) ∙ λ i. same text x s i ∷ []
  pieces_give of_text of_value no_dot same text (x ∷ y ∷ xs) s =
      ap (λ l. map of_text (pieces l)) s.2
      ∙ ap (map of_text) (slice_split_at is_dot s.0 dot s.1 (no_dot s.0 x s.3) refl)
      ∙ λ i. same s.0 x s.3 i ∷ pieces_give of_text of_value no_dot same s.1 (y ∷ xs) s.4 i

  -- a list has the bytes of its elements, and dots
  pub dotted_bytes : (test : ℕ → Bool) → test dot ≡ true
      → ((text : List ℕ) (x : X) → Spells text x → list_all test text ≡ true)
      → (text : List ℕ) (xs : List X) → SpellsDotted Spells text xs → list_all test text ≡ true
  unfolding SpellsDotted
  dotted_bytes test at_dot each text [] s = absurd s
  dotted_bytes test at_dot each text (x ∷ []) s = each text x s
  dotted_bytes test at_dot each text (x ∷ y ∷ xs) s =
      let others : list_all test (dot ∷ s.1) ≡ true =
      rw at_dot (dotted_bytes test at_dot each s.1 (y ∷ xs) s.4) in
      rw s.2 (all_pass test s.0 (dot ∷ s.1) (each s.0 x s.3) others)

-- ---- releases

pub identifier_metadata : (b : ℕ) → is_identifier_byte b ≡ true → is_metadata_byte b ≡ true
identifier_metadata b h = rw h refl

-- a chunk has only bytes that pass its test
pub chunk_bytes : (test : ℕ → Bool) → ((b : ℕ) → is_ascii_digit b ≡ true → test b ≡ true)
    → (text : List ℕ) (x : PlainChunk) → SpellsChunkOf test text x
    → list_all test text ≡ true
chunk_bytes test digits text (Numeric n) s = all_weaker is_ascii_digit test digits text s.digits
chunk_bytes test digits text (Alphanum run) s = rw s.0 s.1

chunk_no_dot : (text : List ℕ) (x : PlainChunk) → SpellsChunk text x → NonePass is_dot text
chunk_no_dot text x s =
    none_pass is_identifier_byte is_dot identifier_no_dot text
    (chunk_bytes is_identifier_byte digit_identifier text x s)

-- a text that spells a chunk is the text of that chunk
chunk_is : (text : List ℕ) (x : PlainChunk) → SpellsChunk text x → chunk_of text ≡ x
chunk_is text (Numeric n) s = rw s.digits (ap Numeric s.value)
chunk_is text (Alphanum run) s = rw (s.0, s.2) refl

-- the chunks of a release
pub release_chunks : (text : List ℕ) (chunks : List PlainChunk) → SpellsRelease text chunks
    → chunks_of text ≡ chunks
release_chunks text chunks s =
    pieces_give SpellsChunk chunk_of (λ x. x) chunk_no_dot chunk_is text chunks s ∙ map-id chunks

-- a release has only the bytes of metadata
pub release_bytes : (text : List ℕ) (chunks : List PlainChunk) → SpellsRelease text chunks
    → list_all is_metadata_byte text ≡ true
release_bytes = grind (arith, dotted_bytes, all_weaker, identifier_metadata, chunk_bytes, digit_identifier)

-- ---- bodies

part_bytes : (text : List ℕ) (x : PlainChunk) → SpellsPart text x
    → list_all is_ascii_alphanumeric text ≡ true
part_bytes = chunk_bytes is_ascii_alphanumeric digit_alphanumeric

run_no_dot : (text : List ℕ) → list_all is_ascii_alphanumeric text ≡ true → NonePass is_dot text
run_no_dot = none_pass is_ascii_alphanumeric is_dot alphanumeric_no_dot

run_section : (text : List ℕ) → list_all is_ascii_alphanumeric text ≡ true
    → list_all is_section_byte text ≡ true
run_section = all_weaker is_ascii_alphanumeric is_section_byte alphanumeric_section

-- the pieces of a body: the texts of its parts
pub body_pieces : (text : List ℕ) (body : PlainBody) (s : SpellsBody text body)
    → pieces text ≡ map chunk_text (body.0 ++ s.part ∷ [])
body_pieces text body s =
    sym (map-id (pieces text))
    ∙ pieces_give SpellsPart (λ t. t) chunk_text (λ t x h. run_no_dot t (part_bytes t x h))
    (λ t x h. sym (part_printed t x h)) text (body.0 ++ s.part ∷ []) s.parts_are

-- the parts of a body: those of its chunks, and its last part
pub body_parts : (text : List ℕ) (body : PlainBody) → SpellsBody text body
    → parts_of text ≡ chunk_parts body.0 ++ part_key (last_text body.1) ∷ []
body_parts text body s =
    pieces_give SpellsPart part_key (λ x. part_key (chunk_text x))
    (λ t x h. run_no_dot t (part_bytes t x h)) (λ t x h. ap part_key (sym (part_printed t x h)))
    text (body.0 ++ s.part ∷ []) s.parts_are
    ∙ map-append (λ x. part_key (chunk_text x)) body.0 (s.part ∷ [])
    ∙ ap (λ l. chunk_parts body.0 ++ part_key l ∷ []) (sym (last_printed s.part body.1 s.last_is))

-- a body has only letters, digits and dots
pub body_bytes : (text : List ℕ) (body : PlainBody) → SpellsBody text body
    → list_all is_section_byte text ≡ true
body_bytes text body s = grind (arith, dotted_bytes, run_section, part_bytes)

-- ---- messy sections

-- the parts of a section: those of its chunks
pub section_parts-is : (text : List ℕ) (chunks : List PlainMChunk)
    → SpellsDotted SpellsMChunk text chunks → parts_of text ≡ section_parts chunks
section_parts-is = grind (arith, pieces_give, run_no_dot, spelled_run, mchunk_printed)

-- a section has only letters, digits and dots
pub section_bytes : (text : List ℕ) (chunks : List PlainMChunk)
    → SpellsDotted SpellsMChunk text chunks → list_all is_section_byte text ≡ true
section_bytes =
    dotted_bytes SpellsMChunk is_section_byte refl (λ t x h. run_section t (spelled_run t x h))

-- ---- A text split at each byte that passes a test: the pieces of a text that is put together, and the
-- text put together from its pieces.

-- the text is the pieces one after another, with a byte between each two that passes the test
unfoldable pub JoinedBy : (ℕ → Bool) → List ℕ → List (List ℕ) → Type 0
JoinedBy cut text [] = ⊥
JoinedBy cut text (first ∷ []) = text ≡ first
JoinedBy cut text (first ∷ next ∷ more) =
    (mark : ℕ) × (others : List ℕ) × (cut mark ≡ true) × (text ≡ first ++ mark ∷ others)
    × JoinedBy cut others (next ∷ more)

begin_piece : (cut : ℕ → Bool) (b : ℕ) (text : List ℕ) (parts : List (List ℕ)) → cut b ≡ true
    → JoinedBy cut text parts → JoinedBy cut (b ∷ text) ([] ∷ parts)
unfolding JoinedBy
begin_piece cut b text [] h j = absurd j
begin_piece cut b text (next ∷ more) h j = (b, text, h, refl, j)

extend_piece : (cut : ℕ → Bool) (b : ℕ) (text : List ℕ) (parts : List (List ℕ))
    → JoinedBy cut text parts → JoinedBy cut (b ∷ text) (onto_first b parts)
unfolding JoinedBy
extend_piece cut b text [] j = absurd j
extend_piece cut b text (first ∷ []) j = ap (λ (l : List ℕ). b ∷ l) j
extend_piece cut b text (first ∷ next ∷ more) j =
    (j.0, j.1, j.2, ap (λ (l : List ℕ). b ∷ l) j.3, j.4)

-- a text is its pieces, joined
pub split_is_joined : (cut : ℕ → Bool) (text : List ℕ) → JoinedBy cut text (slice_split cut text)
unfolding JoinedBy
split_is_joined cut [] = refl
split_is_joined cut (b ∷ text) = grind (arith, cases_Bool, begin_piece, extend_piece, split_is_joined cut text)

onto_first-append : (b : ℕ) (parts more : List (List ℕ)) → 0 < length parts
    → onto_first b (parts ++ more) ≡ onto_first b parts ++ more
onto_first-append b [] more some = absurd (omega arith)
onto_first-append b (part ∷ parts) more some = refl

-- the pieces of two texts with a byte between them that passes
pub split-append : (cut : ℕ → Bool) (a : List ℕ) (mark : ℕ) (b : List ℕ) → cut mark ≡ true
    → slice_split cut (a ++ mark ∷ b) ≡ slice_split cut a ++ slice_split cut b
split-append cut [] mark b h = rw h refl
split-append cut (c ∷ a) mark b h =
    grind (arith, cases_Bool, length-slice_split, onto_first-append, split-append cut a mark b h)

-- if the pieces of each of the two pass a test, those of both do
pub both_pass : (cut : ℕ → Bool) (test : List ℕ → Bool) (a : List ℕ) (mark : ℕ) (b : List ℕ)
    → cut mark ≡ true
    → list_all test (slice_split cut a) ≡ true → list_all test (slice_split cut b) ≡ true
    → list_all test (slice_split cut (a ++ mark ∷ b)) ≡ true
both_pass cut test a mark b h first others = grind (arith, split-append, list_all-append, and_from)

-- a text of bytes that pass one test, which no byte to split at passes, is its one piece
pub split_run : (run cut : ℕ → Bool) → ((b : ℕ) → run b ≡ true → cut b ≡ false) → (text : List ℕ)
    → list_all run text ≡ true → slice_split cut text ≡ text ∷ []
split_run run cut fails [] all = refl
split_run run cut fails (b ∷ text) all =
    let others = split_run run cut fails text (second_so _ _ all) in
    rw (fails b (first_so _ _ all)) (ap (onto_first b) others)

-- the pieces of a list pass a test if those of each element do
pub dotted_pass : {X : Type 0} (Spells : List ℕ → X → Type 0) (cut : ℕ → Bool)
    (test : List ℕ → Bool)
    → cut dot ≡ true
    → ((text : List ℕ) (x : X) → Spells text x → list_all test (slice_split cut text) ≡ true)
    → (text : List ℕ) (xs : List X) → SpellsDotted Spells text xs
    → list_all test (slice_split cut text) ≡ true
unfolding SpellsDotted
dotted_pass Spells cut test at_dot each text [] s = absurd s
dotted_pass Spells cut test at_dot each text (x ∷ []) s = each text x s
dotted_pass Spells cut test at_dot each text (x ∷ y ∷ xs) s =
    let others = dotted_pass Spells cut test at_dot each s.1 (y ∷ xs) s.4 in
    ap (λ (l : List ℕ). list_all test (slice_split cut l)) s.2
    ∙ both_pass cut test s.0 dot s.1 at_dot (each s.0 x s.3) others

-- one element is a list
pub dotted_one : {X : Type 0} (Spells : List ℕ → X → Type 0) (text : List ℕ) (x : X) → Spells text x
    → SpellsDotted Spells text (x ∷ [])
unfolding SpellsDotted
dotted_one Spells text x s = s

-- an element before the others of a list, with a dot between
pub dotted_more : {X : Type 0} (Spells : List ℕ → X → Type 0) (first others : List ℕ) (x : X)
    (xs : List X)
    → Spells first x → SpellsDotted Spells others xs
    → SpellsDotted Spells (first ++ dot ∷ others) (x ∷ xs)
unfolding SpellsDotted
dotted_more Spells first others x [] s more = absurd more
dotted_more Spells first others x (y ∷ xs) s more = (first, others, refl, s, more)

-- ---- numerals, by their digits

pub all_digits : (text : List ℕ) → is_digits text ≡ true → list_all is_ascii_digit text ≡ true
all_digits text digits = second_so _ _ digits

pub some_digits : (text : List ℕ) → is_digits text ≡ true → 0 < length text
some_digits [] digits = cc digits
some_digits (b ∷ text) digits = omega arith

-- a run of digits whose prefix is too large is too large
pub too_large : (digits : List ℕ) (i : ℕ) → 2 ^ 32 ≤ digits_value 10 (take i digits)
    → false ≡ nat_lt (digits_value 10 digits) (2 ^ 32)
too_large digits i large = grind (arith, digits_value-take-le, le-ltb)

pub one_digit : (digits : List ℕ) → is_digits digits ≡ true → length digits ≡ 1
    → true ≡ is_numeral digits
unfolding is_numeral
one_digit digits is one = grind (arith, nine_digits, all_digits, eq-eqb)

pub leading_zero : (digits : List ℕ) → length digits ≢ 1 → 0 < length digits
    → get_or digits 0 0 ≡ 48 → false ≡ is_numeral digits
unfolding is_numeral
leading_zero [] long some zero = absurd (omega arith)
leading_zero (d ∷ digits) long some zero = grind (arith, ne_eqb, eq-eqb, and-false)

pub no_leading_zero : (digits : List ℕ) → is_digits digits ≡ true → length digits ≢ 1
    → get_or digits 0 0 ≢ 48 → is_numeral digits ≡ nat_lt (digits_value 10 digits) (2 ^ 32)
unfolding is_numeral
no_leading_zero [] is long other = cc is
no_leading_zero (d ∷ digits) is long other = grind (arith, ne_eqb)

pub no_numeral : (text : List ℕ) → is_digits text ≡ false → is_numeral text ≡ false
unfolding is_numeral
no_numeral text none = rw none refl

-- ---- A text is a numeral, a chunk, or a list of chunks with dots between, exactly if it passes the
-- test of one.

-- ---- runs

-- a nonempty text of bytes that pass
pub run_from : (test : ℕ → Bool) (text : List ℕ) → 0 < length text → list_all test text ≡ true
    → is_run test text ≡ true
run_from test text some all = grind (arith, ne_eqb)

pub run_some : (test : ℕ → Bool) (text : List ℕ) → is_run test text ≡ true → 0 < length text
run_some test text passes = grind (arith, eqb-false, not-true)

-- ---- numerals

canonical_test : (text : List ℕ) → HasNoLeadingZero text
    → (length text == 1 || not (begins (λ b. b == 48) text)) ≡ true
canonical_test [] h = absurd h
canonical_test (d ∷ []) h = refl
canonical_test (d ∷ e ∷ digits) h =
    or_right (length (d ∷ e ∷ digits) == 1) (not (d == 48)) (rw h refl)

canonical_from : (text : List ℕ) → is_digits text ≡ true
    → (length text == 1 || not (begins (λ b. b == 48) text)) ≡ true → HasNoLeadingZero text
canonical_from [] digits h = cc digits
canonical_from (d ∷ []) digits h = tt
canonical_from (d ∷ e ∷ text) digits h = grind (arith, or_cases, eqb-true, not-true)

pub digits_from : (text : List ℕ) (n : ℕ) → SpellsNumeral text n → is_digits text ≡ true
digits_from [] n s = absurd s.canonical
digits_from (b ∷ text) n s = and_from _ _ (first_so _ _ s.digits) s.digits

pub numeral_passes : (text : List ℕ) (n : ℕ) → SpellsNumeral text n → is_numeral text ≡ true
unfolding is_numeral
numeral_passes text n s = grind (arith, nat_lt, lt-ltb, and_from, digits_from, canonical_test)

pub numeral_spells : (text : List ℕ) → is_numeral text ≡ true
    → SpellsNumeral text (digits_value 10 text)
unfolding is_numeral
numeral_spells text passes = grind (arith, and_parts, nat_lt, second_so, canonical_from, ltb-true)

-- ---- chunks

some_bytes : (text : List ℕ) → list_all is_ascii_digit text ≡ false → 0 < length text
some_bytes [] h = cc h
some_bytes (b ∷ text) h = omega arith

pub chunk_some : (test : ℕ → Bool) (text : List ℕ) (x : PlainChunk) → SpellsChunkOf test text x → 0 < length text
chunk_some test text (Numeric n) s = some_digits text (digits_from text n s)
chunk_some test text (Alphanum run) s = rw s.0 (some_bytes run s.2)

-- chunks whose runs are of bytes that pass a test, which digits pass and a dot does not
module _ (test : ℕ → Bool) (digits_pass : (b : ℕ) → is_ascii_digit b ≡ true → test b ≡ true)
    (no_dot : (b : ℕ) → test b ≡ true → is_dot b ≡ false) where
  chunk_told : (text : List ℕ) (x : PlainChunk) → SpellsChunkOf test text x
      → (is_numeral text || not (list_all is_ascii_digit text)) ≡ true
  chunk_told text (Numeric n) s = or_left _ _ (numeral_passes text n s)
  chunk_told text (Alphanum run) s =
      or_right (is_numeral text) (not (list_all is_ascii_digit text)) (rw (s.0, s.2) refl)

  chunk_passes : (text : List ℕ) (x : PlainChunk) → SpellsChunkOf test text x
      → is_chunk test text ≡ true
  chunk_passes text x s = grind (arith, run_from, chunk_some, chunk_bytes, and_from, chunk_told)

  lone_passes : (text : List ℕ) (x : PlainChunk) → SpellsChunkOf test text x
      → list_all (is_chunk test) (pieces text) ≡ true
  lone_passes text x s = grind (arith, split_run, chunk_bytes, and_from, chunk_passes)

  pub dotted_passes : (text : List ℕ) (xs : List PlainChunk)
      → SpellsDotted (SpellsChunkOf test) text xs → list_all (is_chunk test) (pieces text) ≡ true
  dotted_passes = dotted_pass (SpellsChunkOf test) is_dot (is_chunk test) refl lone_passes

  pub chunk_spells : (text : List ℕ) → is_chunk test text ≡ true
      → (x : PlainChunk) × SpellsChunkOf test text x
  chunk_spells text passes =
      let both =
      and_parts (is_run test text) (is_numeral text || not (list_all is_ascii_digit text)) passes in
      elim (or_cases _ _ both.1) [
        | inl numeral ↦ (Numeric (digits_value 10 text), numeral_spells text numeral)
        | inr other ↦ (Alphanum text, (refl, second_so _ _ both.0, not-true _ other))
      ]

  joined_spell : (text : List ℕ) (parts : List (List ℕ)) → JoinedBy is_dot text parts
      → list_all (is_chunk test) parts ≡ true
      → (xs : List PlainChunk) × SpellsDotted (SpellsChunkOf test) text xs
  unfolding JoinedBy
  joined_spell text [] j passes = absurd j
  joined_spell text (first ∷ []) j passes =
      let chunk = chunk_spells text (rw j (first_so _ _ passes)) in
      (chunk.0 ∷ [], dotted_one (SpellsChunkOf test) text chunk.0 chunk.1)
  joined_spell text (first ∷ next ∷ more) j passes =
      let both = and_parts (is_chunk test first) (list_all (is_chunk test) (next ∷ more)) passes in
      let chunk = chunk_spells first both.0 in
      let others = joined_spell j.1 (next ∷ more) j.4 both.1 in
      let behind_dot : text ≡ first ++ dot ∷ j.1 = rw (eqb-true j.0 dot j.2) at j.3 in (
        chunk.0 ∷ others.0,
        subst (λ (l : List ℕ). SpellsDotted (SpellsChunkOf test) l (chunk.0 ∷ others.0))
            (sym behind_dot)
            (dotted_more (SpellsChunkOf test) first j.1 chunk.0 others.0 chunk.1 others.1),
      )

  pub dotted_spells : (text : List ℕ) → list_all (is_chunk test) (pieces text) ≡ true
      → (xs : List PlainChunk) × SpellsDotted (SpellsChunkOf test) text xs
  dotted_spells text passes = joined_spell text (pieces text) (split_is_joined is_dot text) passes

-- ---- what is read exactly where a test passes

pub told_by_test : {X : Type 0} (o : Option X) (test : Bool) → ((x : X) → o ≡ Some x → test ≡ true)
    → (test ≡ true → (x : X) × (o ≡ Some x)) → is_some o ≡ test
told_by_test None true passes reads = cc (reads refl).1
told_by_test None false passes reads = refl
told_by_test (Some x) test passes reads = sym (passes x refl)
