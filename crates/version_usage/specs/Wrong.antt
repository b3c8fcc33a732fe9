-- What is said of wrong words.
use Rattle.std.specs.Prelude.{◌≡◌, ◌⊎◌, ◌<◌, ◌++◌, ⊤, ℕ, List, codes, length, string_bytes}
use Rattle.version_answers.specs.Message.{quoted}
use Rattle.version_usage.specs.declared.faults.{WordsFault.WordsFault, WordsFault.TheVariants.Memory, WordsFault.TheVariants.Usage}

-- a text isn't empty
abbrev pub HasText : List ℕ → Type 0
HasText text = 0 < length text

-- a text holds a piece
abbrev pub Holds : List ℕ → List ℕ → Type 0
Holds piece text = (before after : List ℕ) × (text ≡ before ++ (piece ++ after))

-- a word as it is quoted: as a message shows it, between quotes
abbrev pub in_quotes : List ℕ → List ℕ
in_quotes word = codes "'" ++ (quoted word ++ codes "'")

-- what is said quotes this word, unless there was no memory
abbrev pub Quotes : List ℕ → WordsFault → Type 0
Quotes word (Usage text) = Holds (in_quotes word) (string_bytes text)
Quotes word Memory = ⊤

-- the text of words with which this is wrong
abbrev pub wrong_text : List ℕ → List ℕ
wrong_text what = codes "error: " ++ (what ++ codes "\n\nFor more information, try '--help'.\n")

-- what is said is this text, unless there was no memory
abbrev pub Says : List ℕ → WordsFault → Type 0
Says said (Usage text) = string_bytes text ≡ said
Says said Memory = ⊤

-- the words are no task, and something is said of them
abbrev pub IsUsage : WordsFault → Type 0
IsUsage (Usage text) = HasText (string_bytes text)
IsUsage other = ⊥

-- there was no memory, or the words are no task since this is wrong with them, and is said
abbrev pub ComesOfWrong : (WordsFault → Type 0) → WordsFault → Type 0
ComesOfWrong Wrong fault = (fault ≡ Memory) ⊎ (IsUsage fault × Wrong fault)
