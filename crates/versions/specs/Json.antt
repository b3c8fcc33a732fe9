-- Versions and requirements as strings of JSON documents.
use Rattle.std.specs.Prelude.{◌≡◌, ℕ, List, Option, Some, None, Result, Ok, Err}
use Rattle.versions.specs.{Errors.json_error, Errors.PlainError, Errors.ReadsOr, declared.errors.JsonError.JsonError, declared.errors.JsonError.TheVariants.NotText, declared.errors.ReadError.ReadError}

-- the result of a call that parses a JSON string, from the result of `from_str` for its text
abbrev pub as_json : {V : Type 0} → Result V ReadError → Result V JsonError
as_json (Ok v) = Ok v
as_json (Err e) = Err (json_error e)

-- What a call returns that parses a JSON value. The last argument is the text of the value if it is
-- a string. Otherwise the call fails with NotText, and so without allocating. For a string it
-- returns what `from_str` returns: see ReadsOr.
abbrev pub ReadsJson : {V X : Type 0} → (V → X) → (X → Type 0) → (List ℕ → PlainError)
    → (List ℕ → Option X) → Result V JsonError → Option (List ℕ) → Type 0
ReadsJson view Owns wrong value_of result None = result ≡ Err NotText
ReadsJson {V} view Owns wrong value_of result (Some text) =
    (read : Result V ReadError) × (result ≡ as_json read)
    × ReadsOr view Owns (wrong text) read (value_of text)
