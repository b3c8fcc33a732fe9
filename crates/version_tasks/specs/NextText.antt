-- The text of a version that comes next.
use Rattle.std.specs.Prelude.{◌==◌, ℕ, zero, suc, Bool, false, List, [], ◌∷◌, ◌++◌, Option, Some, None}
use Rattle.std.specs.Fmt.{decimal}
use Rattle.version_order.specs.texts.Bytes.{dot}
use Rattle.version_texts.specs.VersioningRef.{numeral_value}

-- whether a text is the numeral 0
abbrev pub is_zero_number : Option ℕ → Bool
is_zero_number None = false
is_zero_number (Some n) = n == 0

abbrev pub is_zero : List ℕ → Bool
is_zero text = is_zero_number (numeral_value text)

-- zeros, each after a dot
abbrev pub zeros_text : ℕ → List ℕ
zeros_text zero = []
zeros_text (suc zeros) = dot ∷ 48 ∷ zeros_text zeros

-- an epoch and numbers with their marks, a number, and zeros after it
abbrev pub next_text : List ℕ → List ℕ → ℕ → ℕ → List ℕ
next_text epoch front number zeros = epoch ++ (front ++ (decimal number ++ zeros_text zeros))
