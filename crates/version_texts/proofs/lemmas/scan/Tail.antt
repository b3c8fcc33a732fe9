-- What follows the body of a strict or general version is a release and metadata exactly if it
-- passes the test.
use Rattle.version_texts.proofs.lemmas.scan.Spelled.{dotted_passes, dotted_spells, run_from, run_some, release_bytes}
use Rattle.version_texts.proofs.lemmas.scan.{Section.fails_first, Shape.metadata_not_plus}
use Rattle.std.proofs.lemmas.{Bool.and_from, Bool.and_parts, Bool.cases_Bool, Bool.eqb-true, Bool.Decides.nat_tests, List.drop_at, List.take-append-drop, List.take_at, List.drop-drop}
use Rattle.std.specs.{Cmp.first_so, Cmp.second_so, List.list_all, List.prefix_len, List.take_while}
use Rattle.version_order.specs.texts.Bytes.{hyphen, is_identifier_byte, is_metadata_byte, plus, dot}
use Rattle.version_order.specs.texts.{Cuts.pieces, Front.begins, Front.is_run, Grammar.SpellsOptional}
use Rattle.version_rules.specs.grammar.{Body.SpellsMetadata, Body.SpellsRelease, Chunk.PlainChunk}
use Rattle.version_order.proofs.lemmas.Runs.{and-false, behind_mark, behind_run, larger_run, last_piece, next_piece, other_piece}
use Rattle.version_order.proofs.lemmas.{Bytes.digit_identifier, Bytes.identifier_no_dot, Front.prefix_len-append, Front.all_weaker}
use Rattle.version_texts.specs.Scan.{is_chunk, is_metadata_tail, is_not_plus, is_tail, is_released}
use Rattle.std.proofs.Common.{◌≡◌, ◌==◌, ◌∙◌, ℕ, true, false, List, [], ◌∷◌, ◌++◌, drop, Option, Some, None, refl, sym, ap, arith, inl, inr, ◌+◌, length, not, one-add, IfSome, rules}

-- ---- what passes is spelled

metadata_tail_spells : (text : List ℕ) → is_metadata_tail text ≡ true
    → (o : Option (List ℕ)) × SpellsOptional plus SpellsMetadata text o
unfolding SpellsOptional
metadata_tail_spells [] passes = (None, refl)
metadata_tail_spells (b ∷ text) passes =
    let run = second_so (b == plus) (is_run is_metadata_byte text) passes in
    let mark = eqb-true b plus (first_so (b == plus) (is_run is_metadata_byte text) passes) in
    let bytes : SpellsMetadata text text =
    (refl, second_so _ _ run, run_some is_metadata_byte text run) in
    (Some text, (text, ap (λ (c : ℕ). c ∷ text) mark, bytes))

pub metadata_tail_passes : (text : List ℕ) (o : Option (List ℕ))
    → SpellsOptional plus SpellsMetadata text o → is_metadata_tail text ≡ true
unfolding SpellsOptional
metadata_tail_passes text None s = rw s refl
metadata_tail_passes text (Some meta) s =
    rw (s.1, s.2.0) (run_from is_metadata_byte meta s.2.2 s.2.1)

-- what follows the body of a strict or general version: perhaps a release, then perhaps metadata
pub record SpellsTail (text : List ℕ) : Type 0 where
  pub release : List ℕ
  pub meta : List ℕ
  pub whole : text ≡ release ++ meta
  pub chunks : Option (List PlainChunk)
  pub bytes : Option (List ℕ)
  pub release_is : SpellsOptional hyphen SpellsRelease release chunks
  pub meta_is : SpellsOptional plus SpellsMetadata meta bytes

no_release : SpellsOptional hyphen SpellsRelease [] None
unfolding SpellsOptional
no_release = refl

one_release : (text : List ℕ) (chunks : List PlainChunk) → SpellsRelease text chunks
    → SpellsOptional hyphen SpellsRelease (hyphen ∷ text) (Some chunks)
unfolding SpellsOptional
one_release text chunks s = (text, refl, s)

without_release : (text : List ℕ) → is_metadata_tail text ≡ true → SpellsTail text
without_release text passes = grind (arith, metadata_tail_spells, no_release)

pub tail_spells : (text : List ℕ) → is_tail text ≡ true → SpellsTail text
tail_spells [] passes = without_release [] refl
tail_spells (b ∷ text) passes = elim (cases_Bool (b == hyphen)) [
  | inr other ↦ without_release (b ∷ text) (rw other at passes)
  | inl here ↦
      let release = take_while is_not_plus text in
      let meta = drop (prefix_len is_not_plus text) text in
      let both =
      and_parts (list_all (is_chunk is_identifier_byte) (pieces release)) (is_metadata_tail meta)
      (rw here at passes) in
      let chunks =
      dotted_spells is_identifier_byte digit_identifier identifier_no_dot release both.0 in
      let bytes = metadata_tail_spells meta both.1 in
      record {
        release = hyphen ∷ release;
        meta = meta;
        whole =
            (λ i. eqb-true b hyphen here i ∷ sym
            (take-append-drop (prefix_len is_not_plus text) text) i);
        chunks = Some chunks.0;
        bytes = bytes.0;
        release_is = one_release release chunks.0 chunks.1;
        meta_is = bytes.1;
      }
]

-- ---- what is spelled passes

meta_begins : (meta : List ℕ) (o : Option (List ℕ)) → SpellsOptional plus SpellsMetadata meta o
    → begins is_not_plus meta ≡ false
unfolding SpellsOptional
meta_begins meta None s = rw s refl
meta_begins meta (Some bytes) s = rw s.1 refl

meta_is_tail : (meta : List ℕ) (o : Option (List ℕ)) → SpellsOptional plus SpellsMetadata meta o
    → is_tail meta ≡ true
unfolding SpellsOptional
meta_is_tail meta None s = rw s refl
meta_is_tail meta (Some bytes) s = rw (s.1, s.2.0) (run_from is_metadata_byte bytes s.2.2 s.2.1)

-- a release before metadata, or before nothing
release_is_tail : (tail meta : List ℕ) (chunks : List PlainChunk) (o : Option (List ℕ))
    → SpellsRelease tail chunks → SpellsOptional plus SpellsMetadata meta o
    → is_tail (hyphen ∷ (tail ++ meta)) ≡ true
release_is_tail tail meta chunks o s m =
    grind (
      arith,
      all_weaker,
      metadata_not_plus,
      release_bytes,
      prefix_len-append,
      meta_begins,
      take_at,
      drop_at,
      dotted_passes,
      digit_identifier,
      identifier_no_dot,
      and_from,
      metadata_tail_passes,
    )

pub tail_passes : (release meta : List ℕ) (chunks : Option (List PlainChunk)) (o : Option (List ℕ))
    → SpellsOptional hyphen SpellsRelease release chunks
    → SpellsOptional plus SpellsMetadata meta o → is_tail (release ++ meta) ≡ true
unfolding SpellsOptional
tail_passes release meta None o s m =
    ap (λ (l : List ℕ). is_tail (l ++ meta)) s ∙ meta_is_tail meta o m
tail_passes release meta (Some chunks) o s m =
    ap (λ (l : List ℕ). is_tail (l ++ meta)) s.1 ∙ release_is_tail s.0 meta chunks o s.2 m

-- ---- A release, chunk by chunk, and the metadata behind it

no_plus : (b : ℕ) → is_identifier_byte b ≡ true → is_not_plus b ≡ true
no_plus b h = grind (arith, nat_tests)

dot_is_no_plus : (c : ℕ) → (c == dot) ≡ true → is_not_plus c ≡ true
dot_is_no_plus c e = rw (eqb-true c dot e) refl

-- a piece with another byte is no chunk
no_chunk : (first : List ℕ) → list_all is_identifier_byte first ≡ false
    → is_chunk is_identifier_byte first ≡ false
no_chunk first fails =
    rw (and-false (not (length first == 0)) (list_all is_identifier_byte first) fails) refl

-- the text before the plus, by what follows its first run
module _ (text : List ℕ) where
  bad_piece : (rest : List ℕ) → drop (prefix_len is_identifier_byte text) text ≡ rest
      → is_chunk is_identifier_byte (take_while is_identifier_byte text) ≡ false
      → list_all (is_chunk is_identifier_byte) (pieces (take_while is_not_plus text)) ≡ false
  bad_piece [] e bad = grind (arith, fails_first, last_piece, no_plus, identifier_no_dot)
  bad_piece (c ∷ rest) e bad = elim (cases_Bool (c == dot)) [
    | inl dots ↦ fails_first (is_chunk is_identifier_byte) _ _ _
        (next_piece is_identifier_byte is_not_plus no_plus
        (λ b. b == dot) identifier_no_dot text c rest e dots (dot_is_no_plus c dots)) bad
    | inr other ↦ elim (cases_Bool (c == plus)) [
      | inl ends ↦ fails_first (is_chunk is_identifier_byte) _ _ _
          (last_piece is_identifier_byte is_not_plus no_plus (λ b. b == dot) identifier_no_dot text
          (rw (e, ends) refl)) bad
      | inr goes_on ↦
          let more = other_piece is_identifier_byte is_not_plus no_plus
          (λ b. b == dot) identifier_no_dot text c rest e other (rw goes_on refl) in
          fails_first (is_chunk is_identifier_byte) _ more.1 more.0 more.2 (no_chunk more.0 more.3)
    ]
  ]

  pub bad_chunk : is_chunk is_identifier_byte (take_while is_identifier_byte text) ≡ false
      → is_released text ≡ false
  bad_chunk bad = rw (bad_piece _ refl bad) refl

  -- where the text before the plus ends
  before_plus : (rest : List ℕ) → drop (prefix_len is_identifier_byte text) text ≡ rest
      → prefix_len is_not_plus text
      ≡ prefix_len is_identifier_byte text + prefix_len is_not_plus rest
  before_plus rest e = rw e at (larger_run is_identifier_byte is_not_plus no_plus text)

  behind_plus : (rest : List ℕ) → drop (prefix_len is_identifier_byte text) text ≡ rest
      → drop (prefix_len is_not_plus text) text ≡ drop (prefix_len is_not_plus rest) rest
  behind_plus rest e = rw (before_plus rest e, ← drop-drop, e) refl

  module _ (good : is_chunk is_identifier_byte (take_while is_identifier_byte text) ≡ true) where
    pub released_next : (rest : List ℕ)
        → drop (prefix_len is_identifier_byte text) text ≡ dot ∷ rest
        → is_released text ≡ is_released rest
    released_next rest e =
        rw (
          next_piece is_identifier_byte is_not_plus no_plus
              (λ b. b == dot) identifier_no_dot text dot rest e refl refl,
          good,
          behind_plus (dot ∷ rest) e,
        ) (rw one-add refl)

    pub released_last : (rest : List ℕ) → drop (prefix_len is_identifier_byte text) text ≡ rest
        → begins (λ b. b == dot) rest ≡ false → is_released text ≡ is_metadata_tail rest
    released_last [] e ends =
        rw (
          last_piece is_identifier_byte is_not_plus no_plus (λ b. b == dot) identifier_no_dot text
              (rw e refl),
          good,
          behind_plus [] e,
        ) refl
    released_last (c ∷ rest) e ends = elim (cases_Bool (c == plus)) [
      | inl at_plus ↦
          rw (
            last_piece is_identifier_byte is_not_plus no_plus
                (λ b. b == dot) identifier_no_dot text (rw (e, at_plus) refl),
            good,
            behind_plus (c ∷ rest) e,
            at_plus,
          ) (rw at_plus refl)
      | inr goes_on ↦
          let more = other_piece is_identifier_byte is_not_plus no_plus
          (λ b. b == dot) identifier_no_dot text c rest e ends (rw goes_on refl) in
          rw (
            fails_first (is_chunk is_identifier_byte) _ more.1 more.0 more.2
                (no_chunk more.0 more.3),
            goes_on,
          ) refl
    ]

  pub end_next : (rest : List ℕ) → drop (prefix_len is_identifier_byte text) text ≡ dot ∷ rest
      → prefix_len is_not_plus text
      ≡ prefix_len is_identifier_byte text + (1 + prefix_len is_not_plus rest)
  end_next rest e = before_plus (dot ∷ rest) e

  pub end_last : (rest : List ℕ) → drop (prefix_len is_identifier_byte text) text ≡ rest
      → is_metadata_tail rest ≡ true
      → prefix_len is_not_plus text ≡ prefix_len is_identifier_byte text
  end_last [] e whole = before_plus [] e ∙ omega arith
  end_last (c ∷ rest) e whole = elim (cases_Bool (c == plus)) [
    | inl at_plus ↦ let more = rw at_plus at (before_plus (c ∷ rest) e) in omega (arith, more)
    | inr other ↦ cc (rw other at whole)
  ]

-- ---- from a place of a text on

module _ (text : List ℕ) (place end : ℕ)
    (end_is : end ≡ place + prefix_len is_identifier_byte (drop place text)) where
  behind : drop (prefix_len is_identifier_byte (drop place text)) (drop place text) ≡ drop end text
  behind = behind_run is_identifier_byte text place end end_is

  pub from_next : is_chunk is_identifier_byte (take_while is_identifier_byte (drop place text))
      ≡ true → begins (λ b. b == dot) (drop end text) ≡ true
      → is_released (drop place text) ≡ is_released (drop (end + 1) text)
  from_next good dots = search (rules, released_next, behind, behind_mark)

  pub from_last : is_chunk is_identifier_byte (take_while is_identifier_byte (drop place text))
      ≡ true → begins (λ b. b == dot) (drop end text) ≡ false
      → is_released (drop place text) ≡ is_metadata_tail (drop end text)
  from_last good ends = released_last (drop place text) good (drop end text) behind ends

  pub place_next : begins (λ b. b == dot) (drop end text) ≡ true
      → place + prefix_len is_not_plus (drop place text)
      ≡ (end + 1) + prefix_len is_not_plus (drop (end + 1) text)
  place_next dots =
      omega (
        arith,
        end_is,
        end_next (drop place text) (drop (end + 1) text) (behind ∙ behind_mark dot text end dots),
      )

  pub place_last : is_metadata_tail (drop end text) ≡ true
      → place + prefix_len is_not_plus (drop place text) ≡ end
  place_last whole = omega (arith, end_is, end_last (drop place text) (drop end text) behind whole)

-- ---- behind a hyphen

module _ (text : List ℕ) (end : ℕ) (begun : begins (λ b. b == hyphen) (drop end text) ≡ true) where
  pub hyphen_tail : is_tail (drop end text) ≡ is_released (drop (end + 1) text)
  hyphen_tail = rw (behind_mark hyphen text end begun) refl

  further_end : (tail_end : ℕ) → tail_end ≡ (end + 1) + prefix_len is_not_plus (drop (end + 1) text)
      → tail_end ≡ end + prefix_len is_not_plus (drop end text)
  further_end tail_end e = rw (behind_mark hyphen text end begun) (omega (arith, e))

  pub hyphen_end : (found : Option ℕ)
      → IfSome found
      (λ tail_end. tail_end ≡ (end + 1) + prefix_len is_not_plus (drop (end + 1) text))
      → IfSome found (λ tail_end. tail_end ≡ end + prefix_len is_not_plus (drop end text))
  hyphen_end None e = tt
  hyphen_end (Some tail_end) e = further_end tail_end e
