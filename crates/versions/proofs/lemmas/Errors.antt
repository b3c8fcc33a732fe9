-- Errors of texts, and the calls that give them.
use Rattle.std.proofs.Common.{◌≡◌, Result, Ok, Err, IfErr, IfOk, IsSome, OnErr, ap, ◌∙◌, Option, Some, None, IfSome, IfNone, IsErrAnd, IsSomeAnd, sym, List, ℕ, refl}
use Rattle.std.specs.{Option.ForSome, Option.option_map, declared.alloc.AllocError.AllocError}
use Rattle.versions.specs.{Errors.IsIllegal, Errors.PlainError, Errors.ReadsOr, Json.as_json, Json.ReadsJson, declared.errors.ReadError.ReadError, declared.errors.ReadError.TheVariants.Illegal, declared.errors.ReadError.TheVariants.Memory}
use Rattle.serde_json.specs.{Data.Data, Data.string, Find.as_str}
use Rattle.version_order.specs.texts.Grammar.{IsPrinted}

-- ---- what a call that parses returned

-- a fact that holds in any case holds of an error
pub on_err : {T E : Type 0} (r : Result T E) (P : Type 0) → P → OnErr r P
on_err (Ok x) P p = tt
on_err (Err e) P p = p

-- what holds of a plain value holds of the value that a call returned
pub along : {T P B E : Type 0} (plain : T → P) (f : P → B) (r : Result T E) {p : P} {b : B}
    → IfOk r (λ x. plain x ≡ p) → f p ≡ b → IfOk r (λ x. f (plain x) ≡ b)
along plain f (Ok x) e said = ap f e ∙ said
along plain f (Err x) e said = tt

-- ---- what a call named `from_str` returns, from the value that was parsed

module _ {V X : Type 0} (view : V → X) (Owns : X → Type 0) (wrong : PlainError) where
  owned : (value : Option X) → IsSomeAnd value Owns → ForSome value Owns
  owned None h = absurd h
  owned (Some x) h = λ y e.
      let same : x ≡ y = cc e in
      rw (← same) h

  absent : (r : Result V ReadError) (value : Option X) → value ≡ None → IsErrAnd r (IsIllegal wrong)
      → ReadsOr view Owns wrong r value
  absent (Ok v) value none h = absurd h
  absent (Err (Illegal e)) value none h = (none, h)
  absent (Err (Memory e)) value none h = λ x some. cc (none, some)

  -- the value that was parsed, or the error; an allocation failure only if the value owns memory
  pub reads_or : (o : Result (Option V) AllocError) (r : Result V ReadError) (value : Option X)
      → IfOk o (λ v. option_map view v ≡ value) → OnErr o (IsSomeAnd value Owns)
      → IfOk o (λ v. IfSome v (λ x. r ≡ Ok x))
      → IfOk o (λ v. IfNone v (IsErrAnd r (IsIllegal wrong)))
      → IfErr o (λ refused. r ≡ Err (Memory refused)) → ReadsOr view Owns wrong r value
  reads_or (Ok (Some v)) r value e memory given none refused = rw given (sym e)
  reads_or (Ok None) r value e memory given none refused = absent r value (sym e) none
  reads_or (Err e) r value read memory given none refused = rw refused (owned value memory)

-- all values of a kind own memory
pub owns_any : {V X E : Type 0} (o : Result V E) (value : Option X) → OnErr o (IsSome value)
    → OnErr o (IsSomeAnd value (λ _. Unit {0}))
owns_any (Ok v) value h = tt
owns_any (Err e) None h = cc h
owns_any (Err e) (Some x) h = tt

-- ---- what a call that parses a JSON value returns, from what its string parses as

-- what a string parses as is what the JSON value parses as
pub reads_json : {V X : Type 0} (view : V → X) (Owns : X → Type 0) (wrong : List ℕ → PlainError)
    (value_of : List ℕ → Option X)
    (text : List ℕ) (value : Data) (read : Result V ReadError) → value ≡ string text
    → ReadsOr view Owns (wrong text) read (value_of text)
    → ReadsJson view Owns wrong value_of (as_json read) (as_str value)
reads_json view Owns wrong value_of text value read is h = rw is (read, refl, h)

-- the value that a JSON string parses as is written as that string
pub written_again : {X : Type 0} (Spells : List ℕ → X → Type 0) (value_of : List ℕ → Option X)
    (spelled : (text : List ℕ) (x : X) → value_of text ≡ Some x → Spells text x)
    (text_of : X → List ℕ) → IsPrinted Spells text_of → (text : List ℕ) (value : Data) (x : X)
    → value ≡ string text → value_of text ≡ Some x → value ≡ string (text_of x)
written_again Spells value_of spelled text_of printed text value x is read =
    rw (is, printed text x (spelled text x read)) refl
