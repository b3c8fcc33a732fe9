-- Chunks, releases and metadata: each front reads what is spelled, and nothing else.
use Rattle.std.proofs.Common.{◌≡◌, ◌==◌, ℕ, Bool, true, false, List, [], ◌∷◌, ◌++◌, drop, map, Option, Some, None, refl, sym, ap, ◌∙◌, inl, inr, arith, rules}
use Rattle.std.proofs.lemmas.{Bool.cases_Bool, List.drop_at, List.take-append-drop, List.take_at}
use Rattle.std.specs.{Char.is_ascii_alphanumeric, Char.is_ascii_digit, Cmp.nat_eq_equiv, List.join_with_byte, List.list_all, List.prefix_len, List.take_while}
use Rattle.version_order.specs.texts.Front.{Front, begins, behind, dotted_front, map_value, optional, run_front}
use Rattle.version_order.specs.texts.Grammar.{SpellsDotted, SpellsOptional, EndsList, EndsRun, IsComplete, IsPrinted, IsSound}
use Rattle.version_order.specs.texts.Bytes.{dot, is_identifier_byte, is_metadata_byte}
use Rattle.version_rules.specs.grammar.Chunk.{PlainChunk, Numeric, Alphanum, SpellsChunk, SpellsChunkOf, SpellsPart, chunk_front, chunk_front_of, chunk_text, part_front, unsigned_front}
use Rattle.version_rules.specs.grammar.Body.{SpellsMetadata, SpellsRelease, release_text}
use Rattle.version_order.proofs.lemmas.Front.{behind-Some, dotted_complete, dotted_sound, cases_Option, all_weaker, list_all-take_while, prefix_len-append, reads_run, run_front-reads}
use Rattle.version_order.proofs.lemmas.Bytes.{digits_identify}
use Rattle.version_rules.proofs.lemmas.Numeral.{numeral_printed, unsigned_complete, unsigned_sound}

pub digit_alphanumeric : (b : ℕ) → is_ascii_digit b ≡ true → is_ascii_alphanumeric b ≡ true
digit_alphanumeric b h = rw h refl

-- chunks whose runs are of bytes that pass a test, which digits pass
module _ (test : ℕ → Bool) (digits_pass : (b : ℕ) → is_ascii_digit b ≡ true → test b ≡ true) where
  ends_numeral : (rest : List ℕ) → EndsRun test rest → EndsRun is_ascii_digit rest
  ends_numeral [] e = refl
  ends_numeral (b ∷ rest) e = grind (arith, cases_Bool)

  -- what the front gives if the run is all digits, and if it is not
  chunk-digits : (text : List ℕ) → list_all is_ascii_digit (take_while test text) ≡ true
      → chunk_front_of test text ≡ map_value Numeric (unsigned_front text)
  unfolding chunk_front_of
  chunk-digits text h = rw h refl

  chunk-run : (text : List ℕ) → list_all is_ascii_digit (take_while test text) ≡ false
      → chunk_front_of test text
      ≡ Some (Alphanum (take_while test text), drop (prefix_len test text) text)
  unfolding chunk_front_of
  chunk-run text h = rw h refl

  pub chunk_sound_of : IsSound (SpellsChunkOf test) (chunk_front_of test)
  chunk_sound_of text x rest e =
      elim (cases_Bool (list_all is_ascii_digit (take_while test text))) [
        | inl digits ↦ elim (cases_Option (unsigned_front text)) [
          | inl none ↦ cc (rw (chunk-digits text digits, none) at e)
          | inr one ↦
              let same : (Numeric one.0.0, one.0.1) ≡ (x, rest) =
              cc (rw (chunk-digits text digits, one.1) at e) in
              let value : Numeric one.0.0 ≡ x = ap (λ (p : PlainChunk × List ℕ). p.0) same in
              let left : one.0.1 ≡ rest = ap (λ (p : PlainChunk × List ℕ). p.1) same in
              let read = unsigned_sound text one.0.0 one.0.1 one.1 in
              (read.0, read.1 ∙ ap (λ (l : List ℕ). read.0 ++ l) left, rw (← value) read.2)
        ]
        | inr run ↦
            let same : (Alphanum (take_while test text), drop (prefix_len test text) text)
            ≡ (x, rest) =
            cc (rw (chunk-run text run) at e) in
            let value : Alphanum (take_while test text) ≡ x =
            ap (λ (p : PlainChunk × List ℕ). p.0) same in
            let left : drop (prefix_len test text) text ≡ rest =
            ap (λ (p : PlainChunk × List ℕ). p.1) same in (
              take_while test text,
              rw (← left) (sym (take-append-drop (prefix_len test text) text)),
              rw (← value) (refl, list_all-take_while test text, run),
            )
      ]

  whole_run : (run rest : List ℕ) → list_all test run ≡ true → EndsRun test rest
      → (take_while test (run ++ rest) ≡ run)
      × (drop (prefix_len test (run ++ rest)) (run ++ rest) ≡ rest)
  whole_run run rest all ends = grind (arith, prefix_len-append, take_at, drop_at)

  pub chunk_complete_of : IsComplete (SpellsChunkOf test) (EndsRun test) (chunk_front_of test)
  chunk_complete_of piece (Numeric n) rest s ends =
      let run = whole_run piece rest
      (all_weaker is_ascii_digit test digits_pass piece s.digits) ends in
      let digits : list_all is_ascii_digit (take_while test (piece ++ rest)) ≡ true =
      rw run.0 s.digits in
      rw (
        chunk-digits (piece ++ rest) digits,
        unsigned_complete piece n rest s (ends_numeral rest ends),
      ) refl
  chunk_complete_of piece (Alphanum text) rest s ends = grind (arith, whole_run, chunk-run)

  pub chunk_printed_of : IsPrinted (SpellsChunkOf test) chunk_text
  chunk_printed_of text (Numeric n) s = numeral_printed text n s
  chunk_printed_of text (Alphanum run) s = sym s.0

pub chunk_sound : IsSound SpellsChunk chunk_front
chunk_sound = chunk_sound_of is_identifier_byte digits_identify

pub chunk_complete : IsComplete SpellsChunk (EndsRun is_identifier_byte) chunk_front
chunk_complete = chunk_complete_of is_identifier_byte digits_identify

pub chunk_printed : IsPrinted SpellsChunk chunk_text
chunk_printed = chunk_printed_of is_identifier_byte digits_identify

pub part_sound : IsSound SpellsPart part_front
part_sound = chunk_sound_of is_ascii_alphanumeric digit_alphanumeric

pub part_complete : IsComplete SpellsPart (EndsRun is_ascii_alphanumeric) part_front
part_complete = chunk_complete_of is_ascii_alphanumeric digit_alphanumeric

pub part_printed : IsPrinted SpellsPart chunk_text
part_printed = chunk_printed_of is_ascii_alphanumeric digit_alphanumeric

pub release_sound : IsSound SpellsRelease (dotted_front chunk_front)
release_sound = dotted_sound SpellsChunk chunk_front chunk_sound

pub release_complete : IsComplete SpellsRelease (EndsList (EndsRun is_identifier_byte))
    (dotted_front chunk_front)
release_complete = search (rules, dotted_complete, chunk_complete)

pub parts_sound : IsSound (SpellsDotted SpellsPart) (dotted_front part_front)
parts_sound = dotted_sound SpellsPart part_front part_sound

pub parts_complete : IsComplete (SpellsDotted SpellsPart) (EndsList (EndsRun is_ascii_alphanumeric))
    (dotted_front part_front)
parts_complete = search (rules, dotted_complete, part_complete)

pub metadata_sound : IsSound SpellsMetadata (run_front is_metadata_byte)
metadata_sound text meta rest e =
    let run = reads_run is_metadata_byte text meta rest e in
    (meta, run.whole, (refl, run.all, run.some))

pub metadata_complete : IsComplete SpellsMetadata (EndsRun is_metadata_byte)
    (run_front is_metadata_byte)
metadata_complete piece meta rest s ends =
    rw s.0 (run_front-reads is_metadata_byte meta rest s.1 s.2 ends)

-- a list prints its elements joined by dots
pub dotted_printed : {X : Type 0} (Spells : List ℕ → X → Type 0) (text_of : X → List ℕ)
    → IsPrinted Spells text_of
    → IsPrinted (SpellsDotted Spells) (λ xs. join_with_byte dot (map text_of xs))
unfolding SpellsDotted
dotted_printed Spells text_of printed text [] s = absurd s
dotted_printed Spells text_of printed text (x ∷ []) s = printed text x s
dotted_printed Spells text_of printed text (x ∷ y ∷ xs) s =
    rw s.2 (rw (printed s.0 x s.3)
    (ap (λ (l : List ℕ). s.0 ++ dot ∷ l)
    (dotted_printed Spells text_of printed s.1 (y ∷ xs) s.4)))

pub release_printed : IsPrinted SpellsRelease release_text
release_printed = dotted_printed SpellsChunk chunk_text chunk_printed

pub parts_printed : IsPrinted (SpellsDotted SpellsPart) release_text
parts_printed = dotted_printed SpellsPart chunk_text part_printed

-- a piece after a byte, which may be absent
module _ {X : Type 0} (mark : ℕ) (Spells : List ℕ → X → Type 0) (front : Front X) where
  optional-None : (text : List ℕ) → behind mark front text ≡ None
      → optional (behind mark front) text ≡ (None, text)
  unfolding optional
  optional-None text e = rw e refl

  optional-Some : (text : List ℕ) (x : X) (rest : List ℕ) → behind mark front text ≡ Some (x, rest)
      → optional (behind mark front) text ≡ (Some x, rest)
  unfolding optional
  optional-Some text x rest e = rw e refl

  pub optional_sound : IsSound Spells front → (text : List ℕ)
      → (piece : List ℕ) × (text ≡ piece ++ (optional (behind mark front) text).1)
      × SpellsOptional mark Spells piece (optional (behind mark front) text).0
  unfolding SpellsOptional
  optional_sound sound text = elim (cases_Option (behind mark front text)) [
    | inl none ↦ rw (optional-None text none) ([], refl, refl)
    | inr one ↦
        let parts = behind-Some mark front text one.0 one.1 in
        let read = sound parts.0 one.0.0 one.0.1 parts.2 in
        rw (optional-Some text one.0.0 one.0.1 one.1)
        (mark ∷ read.0, parts.1 ∙ ap (λ (l : List ℕ). mark ∷ l) read.1, (read.0, refl, read.2))
  ]

  behind-absent : (text : List ℕ) → begins (λ b. b == mark) text ≡ false
      → behind mark front text ≡ None
  behind-absent [] e = refl
  behind-absent (b ∷ text) e = rw e refl

  pub optional_complete : (Ends : List ℕ → Type 0) → IsComplete Spells Ends front
      → (piece : List ℕ) (o : Option X) (rest : List ℕ)
      → SpellsOptional mark Spells piece o → Ends rest → begins (λ b. b == mark) rest ≡ false
      → optional (behind mark front) (piece ++ rest) ≡ (o, rest)
  unfolding SpellsOptional
  optional_complete Ends complete piece None rest s ends other =
      rw s (optional-None rest (behind-absent rest other))
  optional_complete Ends complete piece (Some x) rest s ends other =
      let here : (mark == mark) ≡ true = nat_eq_equiv.refl mark in
      let read : behind mark front (mark ∷ (s.0 ++ rest)) ≡ Some (x, rest) =
      rw here (complete s.0 x rest s.2 ends) in
      rw s.1 (optional-Some (mark ∷ (s.0 ++ rest)) x rest read)
