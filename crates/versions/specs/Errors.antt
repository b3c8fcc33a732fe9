-- Errors of the calls that parse, and what they print.
use Rattle.std.specs.Prelude.{◌≡◌, ℕ, List, ◌++◌, Option, Some, None, Result, Ok, Err, codes}
use Rattle.std.specs.{Option.ForSome, String.string_bytes}
use Rattle.versions.specs.declared.errors.{Error.Error, JsonError.JsonError, ReadError.ReadError, ReadError.TheVariants.Illegal, ReadError.TheVariants.Memory}
use Rattle.versions.specs.declared.errors.Error.TheVariants as owned
use Rattle.versions.specs.declared.errors.JsonError.TheVariants as json

-- the error for a text that does not parse as the wanted type
pub data PlainError : Type 0 where
  IllegalSemver IllegalVersion IllegalMess IllegalVersioning IllegalOp : List ℕ → PlainError

-- the error that a value holds
abbrev pub plain_error : Error → PlainError
plain_error (owned.IllegalSemver text) = IllegalSemver (string_bytes text)
plain_error (owned.IllegalVersion text) = IllegalVersion (string_bytes text)
plain_error (owned.IllegalMess text) = IllegalMess (string_bytes text)
plain_error (owned.IllegalVersioning text) = IllegalVersioning (string_bytes text)
plain_error (owned.IllegalOp text) = IllegalOp (string_bytes text)

-- the printed text: the wanted type, and the text
abbrev pub error_text : PlainError → List ℕ
error_text (IllegalSemver text) = codes "Illegal SemVer: " ++ text
error_text (IllegalVersion text) = codes "Illegal Version: " ++ text
error_text (IllegalMess text) = codes "Illegal Mess: " ++ text
error_text (IllegalVersioning text) = codes "Illegal Versioning: " ++ text
error_text (IllegalOp text) = codes "Illegal Op: " ++ text

-- the printed text of an error of `from_str`
abbrev pub read_error_text : ReadError → List ℕ
read_error_text (Illegal e) = error_text (plain_error e)
read_error_text (Memory e) = codes "no memory"

-- an error of `from_str` as one for a JSON value
abbrev pub json_error : ReadError → JsonError
json_error (Illegal e) = json.Illegal e
json_error (Memory e) = json.Memory e

-- the printed text of an error for a JSON value
abbrev pub json_error_text : JsonError → List ℕ
json_error_text json.NotText = codes "not a JSON string"
json_error_text (json.Illegal e) = error_text (plain_error e)
json_error_text (json.Memory e) = codes "no memory"

-- an error other than allocation failure is this one
abbrev pub IsIllegal : PlainError → ReadError → Type 0
IsIllegal wrong (Illegal e) = plain_error e ≡ wrong
IsIllegal wrong (Memory e) = Unit {0}

-- What `from_str` returns, by its view: the value that the text parses as, else the error. An
-- allocation fails only if the value owns memory, or for the text in the error.
abbrev pub ReadsOr : {V X : Type 0} → (V → X) → (X → Type 0) → PlainError → Result V ReadError
    → Option X → Type 0
ReadsOr view Owns wrong (Ok v) value = value ≡ Some (view v)
ReadsOr view Owns wrong (Err (Illegal e)) value = (value ≡ None) × (plain_error e ≡ wrong)
ReadsOr view Owns wrong (Err (Memory e)) value = ForSome value Owns
