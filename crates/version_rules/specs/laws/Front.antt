-- The rests that fronts leave. The impls of `Element` cite these laws.
use Rattle.std.proofs.Common.{◌≡◌, ◌≤◌, ◌==◌, ◌^◌, ℕ, Bool, List, [], ◌∷◌, length, drop, Option, Some, None, ap, arith, inl, inr, nat_lt}
use Rattle.std.proofs.lemmas.{Bool.cases_Bool, List.length-drop}
use Rattle.std.specs.{Char.is_ascii_alphanumeric, Char.is_ascii_digit, List.list_all, List.prefix_len, List.take_while, Option.option_map, Str.Parse.digits_value}
use Rattle.version_rules.specs.grammar.{Chunk.Numeric, Chunk.chunk_front_of, Chunk.unsigned_front, Chunk.value_of_run, MChunk.chunk_before, MChunk.mchunk_front}
use Rattle.version_order.specs.texts.Front.{◌>>=◌, Consumes, run_front, unless_empty}

-- the rest that a front leaves, if it reads a value, is no longer than the text
abbrev Fits : {X : Type 0} → List ℕ → Option (X × List ℕ) → Type 0
Fits text None = Unit {0}
Fits text (Some p) = length p.1 ≤ length text

consumes : {X : Type 0} (text : List ℕ) (o : Option (X × List ℕ)) → Fits text o
    → (x : X) (rest : List ℕ) → o ≡ Some (x, rest) → length rest ≤ length text
consumes text None fits x rest e = cc e
consumes {X} text (Some p) fits x rest e =
    let same : p ≡ (x, rest) = cc e in
    rw (ap (λ (q : X × List ℕ). q.1) same) at fits

drop_fits : (n : ℕ) (text : List ℕ) → length (drop n text) ≤ length text
drop_fits n text = omega (arith, length-drop n text)

mapped_fits : {X Y : Type 0} (f : X × List ℕ → Y) (text : List ℕ) (o : Option (X × List ℕ))
    → Fits text o → Fits text (option_map (λ p. (f p, p.1)) o)
mapped_fits f text None fits = tt
mapped_fits f text (Some p) fits = fits

unless_empty_fits : (text : List ℕ) (run : List ℕ × List ℕ) → length run.1 ≤ length text
    → Fits text (unless_empty run)
unless_empty_fits text run fits =
    elim (cases_Bool (length run.0 == 0)) [ inl none ↦ rw none tt | inr some ↦ rw some fits ]

value_fits : (text : List ℕ) (o : Option (List ℕ × List ℕ)) → Fits text o
    → Fits text (o >>= value_of_run)
value_fits text None fits = tt
value_fits text (Some run) fits =
    elim (cases_Bool (nat_lt (digits_value 10 run.0) (2 ^ 32))) [
      | inl small ↦
          rw small fits
      | inr large ↦ rw large tt
    ]

run_fits : (test : ℕ → Bool) (text : List ℕ) → Fits text (run_front test text)
unfolding run_front
run_fits test text =
    unless_empty_fits text (take_while test text, drop (prefix_len test text) text)
    (drop_fits (prefix_len test text) text)

unsigned_fits : (text : List ℕ) → Fits text (unsigned_front text)
unfolding unsigned_front
unsigned_fits [] = value_fits [] (run_front is_ascii_digit []) (run_fits is_ascii_digit [])
unsigned_fits (b ∷ text) = elim (cases_Bool (b == 48)) [
  | inl zero ↦ rw zero (omega arith)
  | inr other ↦
      rw other (value_fits (b ∷ text) (run_front is_ascii_digit (b ∷ text))
      (run_fits is_ascii_digit (b ∷ text)))
]

chunk_fits : (test : ℕ → Bool) (text : List ℕ) → Fits text (chunk_front_of test text)
unfolding chunk_front_of
chunk_fits test text = elim (cases_Bool (list_all is_ascii_digit (take_while test text))) [
  | inl digits ↦
      rw digits (mapped_fits (λ p. Numeric p.0) text (unsigned_front text) (unsigned_fits text))
  | inr other ↦ rw other (drop_fits (prefix_len test text) text)
]

pub chunk_consumes : (test : ℕ → Bool) → Consumes (chunk_front_of test)
chunk_consumes test text x rest e =
    consumes text (chunk_front_of test text) (chunk_fits test text) x rest e

mchunk_fits : (text : List ℕ) → Fits text (mchunk_front text)
unfolding mchunk_front
mchunk_fits text =
    mapped_fits chunk_before text (run_front is_ascii_alphanumeric text)
    (run_fits is_ascii_alphanumeric text)

pub mchunk_consumes : Consumes mchunk_front
mchunk_consumes text x rest e = consumes text (mchunk_front text) (mchunk_fits text) x rest e
