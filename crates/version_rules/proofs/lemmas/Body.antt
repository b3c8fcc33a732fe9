-- Bodies of general versions: their front reads what is spelled and nothing else, and they print as
-- they are spelled.
use Rattle.std.proofs.Common.{◌≡◌, ◌∙◌, ◌-◌, ◌++◌, ◌∷◌, ◌<◌, ℕ, List, [], length, take, Some, None, refl, sym, ap, subst, arith, inl, inr, append_assoc, length-append}
use Rattle.std.proofs.lemmas.List.{take_at}
use Rattle.std.specs.Char.{is_ascii_alphanumeric}
use Rattle.version_rules.specs.grammar.Body.{PlainBody, SpellsBody, body_front, body_of, body_text, chunks_front, chunks_text, release_text}
use Rattle.version_rules.specs.grammar.{Chunk.PlainChunk, Chunk.SpellsPart, Chunk.chunk_text, Last.PlainLast, Last.last_of}
use Rattle.version_order.specs.texts.Grammar.{SpellsDotted, EndsList, EndsRun, IsComplete, IsPrinted, IsSound}
use Rattle.version_order.specs.{keys.Lists.split_last, texts.Bytes.dot}
use Rattle.version_rules.proofs.lemmas.{Chunk.parts_complete, Chunk.parts_printed, Chunk.parts_sound, Grammar.split_last-append, Last.last_of-is, Last.last_of-only, Last.last_printed}
use Rattle.version_order.proofs.lemmas.Front.{cases_Option}

-- what the front gives, by the list of parts
pub body_front-None : (text : List ℕ) → chunks_front text ≡ None → body_front text ≡ None
unfolding body_front
body_front-None text e = rw e refl

pub body_front-Some : (text : List ℕ) (parts : List PlainChunk) (rest : List ℕ)
    (split : List PlainChunk × PlainChunk) → chunks_front text ≡ Some (parts, rest)
    → split_last parts ≡ Some split → body_front text ≡ Some ((split.0, last_of split.1), rest)
unfolding body_front
body_front-Some text parts rest split e f = rw (e, f) refl

body_front-unsplit : (text : List ℕ) (parts : List PlainChunk) (rest : List ℕ)
    → chunks_front text ≡ Some (parts, rest) → split_last parts ≡ None → body_front text ≡ None
unfolding body_front
body_front-unsplit text parts rest e f = rw (e, f) refl

split_last-None : {X : Type 0} (xs : List X) → split_last xs ≡ None → xs ≡ []
split_last-None [] e = refl
split_last-None (x ∷ xs) e = cc e

-- a list that was split is its items and the last one
pub split_last-whole : {X : Type 0} (xs : List X) (split : List X × X) → split_last xs ≡ Some split
    → xs ≡ split.0 ++ split.1 ∷ []
split_last-whole [] split e = cc e
split_last-whole {X} (x ∷ xs) split e = elim (cases_Option (split_last xs)) [
  | inl none ↦
      let same : ([], x) ≡ split = cc (rw none at e) in
      rw (← same, split_last-None xs none) refl
  | inr one ↦
      let same : (x ∷ one.0.0, one.0.1) ≡ split = cc (rw one.1 at e) in
      rw (← same) (ap (λ (l : List X). x ∷ l) (split_last-whole xs one.0 one.1))
]

pub split_last-take : {X : Type 0} (xs : List X) (split : List X × X) → split_last xs ≡ Some split
    → take (length xs - 1) xs ≡ split.0
split_last-take xs split e =
    let length_is : length (split.0 ++ split.1 ∷ []) - 1 ≡ length split.0 =
    omega (arith, length-append split.0 (split.1 ∷ [])) in
    rw (split_last-whole xs split e, length_is) (take_at split.0 (split.1 ∷ []) _ refl)

-- a list that is split into its chunks and its last part has one part or more, and makes that body
pub body_split : (count : ℕ) (parts : List PlainChunk) (split : List PlainChunk × PlainChunk)
    (last : PlainLast) → count ≡ length parts → split_last parts ≡ Some split
    → last ≡ last_of split.1
    → (0 < count) × (count ≡ length parts)
    × (body_of parts ≡ Some (take (count - 1) parts, last))
body_split count parts split last counted e same =
    let whole = split_last-whole parts split e in
    let chunks : take (count - 1) parts ≡ split.0 =
    ap (λ (n : ℕ). take (n - 1) parts) counted ∙ split_last-take parts split e in
    let some : 0 < count =
    omega (
      arith,
      counted,
      ap (λ (xs : List PlainChunk). length xs) whole,
      length-append split.0 (split.1 ∷ []),
    ) in
    (some, counted, rw (e, chunks, same) refl)

pub body_sound : IsSound SpellsBody body_front
body_sound text body rest e = elim (cases_Option (chunks_front text)) [
  | inl none ↦ cc (body_front-None text none, e)
  | inr parts ↦ elim (cases_Option (split_last parts.0.0)) [
    | inl none ↦ cc (body_front-unsplit text parts.0.0 parts.0.1 parts.1 none, e)
    | inr split ↦
        let same : ((split.0.0, last_of split.0.1), parts.0.1) ≡ (body, rest) =
        cc (sym (body_front-Some text parts.0.0 parts.0.1 split.0 parts.1 split.1) ∙ e) in
        let read = parts_sound text parts.0.0 parts.0.1 parts.1 in
        let spelled : SpellsBody read.0 (split.0.0, last_of split.0.1) = record {
          part = split.0.1;
          parts_are = subst (λ (xs : List PlainChunk). SpellsDotted SpellsPart read.0 xs)
              (split_last-whole parts.0.0 split.0 split.1) read.2;
          last_is = last_of-is split.0.1;
        } in
        subst (λ (p : PlainBody × List ℕ). (x : List ℕ) × (text ≡ x ++ p.1) × SpellsBody x p.0) same
        (read.0, read.1, spelled)
  ]
]

pub body_complete : IsComplete SpellsBody (EndsList (EndsRun is_ascii_alphanumeric)) body_front
body_complete piece body rest s ends =
    let parts = parts_complete piece (body.0 ++ s.part ∷ []) rest s.parts_are ends in
    let read = body_front-Some (piece ++ rest) (body.0 ++ s.part ∷ []) rest (body.0, s.part) parts
    (split_last-append body.0 s.part) in
    read ∙ ap (λ (last : PlainLast). Some ((body.0, last), rest))
    (last_of-only s.part body.1 s.last_is)

-- the chunks with a dot after them and one more part are the parts joined by dots
behind_chunks : (chunks : List PlainChunk) (part : PlainChunk)
    → chunks_text chunks ++ chunk_text part ≡ release_text (chunks ++ part ∷ [])
behind_chunks [] part = refl
behind_chunks (c ∷ []) part = append_assoc (chunk_text c) (dot ∷ []) (chunk_text part)
behind_chunks (c ∷ d ∷ chunks) part = grind (arith, append_assoc, behind_chunks (d ∷ chunks) part)

pub body_printed : IsPrinted SpellsBody body_text
body_printed text body s = grind (arith, last_printed, behind_chunks, parts_printed)
