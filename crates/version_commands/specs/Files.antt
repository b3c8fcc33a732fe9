-- The files of a run: its inputs, which are read in turn, and what it leaves of them.
use Rattle.std.specs.Prelude.{◌≡◌, ℕ, Bool, true, false, List, [], ◌∷◌, ◌++◌, Option, None, Some, codes, length, map, IsSomeAnd, ◌⊎◌}
use Rattle.std.specs.{Io.KnownBytes.Consumes, Io.KnownBytes.IsAtEnd, List.list_any, Str.bytes_eq}
use Rattle.version_lines.specs.{Inputs.PlainInput, Lines.ends_quoted, Lines.lines_of, declared.lines.LineEnd.LineEnd}

-- what reading the file of a name may give, or that it may fail
abbrev pub Reading : Type 1
Reading = List ℕ → Option (List ℕ) → Type 0

-- the name of standard input
abbrev pub is_standard : List ℕ → Bool
is_standard name = bytes_eq name (codes "-")

-- the text is what standard input still had, or else what the file of this name gave
abbrev pub IsInputBy : Bool → Reading → Option (List ℕ) → Option (List ℕ) → List ℕ → List ℕ → Type 0
IsInputBy true reads old new name text = Consumes old new text × IsAtEnd new
IsInputBy false reads old new name text = (new ≡ old) × reads name (Some text)

abbrev pub IsInput : Reading → Option (List ℕ) → Option (List ℕ) → List ℕ → List ℕ → Type 0
IsInput reads old new name text = IsInputBy (is_standard name) reads old new name text

-- the texts are those of the inputs of these names, which were read in turn
abbrev pub AreInputs : Reading → Option (List ℕ) → Option (List ℕ) → List (List ℕ) → List (List ℕ)
    → Type 0
AreInputs reads old new [] [] = new ≡ old
AreInputs reads old new (name ∷ names) (text ∷ texts) =
    (between : Option (List ℕ)) × IsInput reads old between name text
    × AreInputs reads between new names texts
AreInputs reads old new [] (text ∷ texts) = ⊥
AreInputs reads old new (name ∷ names) [] = ⊥

-- the input of this name ends in quotes that never close, and this is the number of its last line
pub record EndsOpen (end : LineEnd) (reads : Reading) (old : Option (List ℕ)) (name : List ℕ) (number : ℕ) : Type 0 where
  pub text : List ℕ
  pub new : Option (List ℕ)
  pub is_input : IsInput reads old new name text
  pub unclosed : ends_quoted end text ≡ true
  pub number_is : number ≡ length (lines_of end text)

-- this comes at the input of a name among those of these, which are read in turn: those before it were read, and none of
-- them ends in quotes
pub record ComesFirstAt (end : LineEnd) (reads : Reading) (old : Option (List ℕ)) (names : List (List ℕ))
    (name : List ℕ) (Comes : Option (List ℕ) → Type 0) : Type 0 where
  pub before : List (List ℕ)
  pub after : List (List ℕ)
  pub texts : List (List ℕ)
  pub between : Option (List ℕ)
  pub names_are : names ≡ before ++ name ∷ after
  pub texts_are : AreInputs reads old between before texts
  pub closed : list_any (ends_quoted end) texts ≡ false
  pub comes : Comes between

-- the names that are read: those that were given, or that of standard input
abbrev pub names_read : List (List ℕ) → List (List ℕ)
names_read [] = codes "-" ∷ []
names_read (name ∷ names) = name ∷ names

-- whether standard input is among the inputs of these names
abbrev pub reads_standard : List (List ℕ) → Bool
reads_standard names = list_any is_standard names

-- the inputs of names that have these texts
abbrev pub inputs_named : List (List ℕ) → List (List ℕ) → List PlainInput
inputs_named (name ∷ names) (text ∷ texts) = (Some name, text) ∷ inputs_named names texts
inputs_named names texts = []

-- those of the names of a run; without any there is one, which has none
abbrev pub inputs_of : List (List ℕ) → List (List ℕ) → List PlainInput
inputs_of [] texts = map (λ text. (None, text)) texts
inputs_of (name ∷ names) texts = inputs_named (name ∷ names) texts

-- reading standard input, or else the file of this name, may fail
abbrev pub MayFailBy : Bool → Reading → Bool → List ℕ → Type 0
MayFailBy true reads fails name = fails ≡ true
MayFailBy false reads fails name = reads name None

-- reading the input of this name may fail
abbrev pub MayFail : Reading → Bool → List ℕ → Type 0
MayFail reads fails name = MayFailBy (is_standard name) reads fails name

-- Between two states of the files just these bytes were written to the file of this name; or all are
-- as they were.
abbrev pub Leaves : {F : Type 0} → (F → F → List ℕ → List ℕ → Type 0) → F → F
    → Option (List ℕ × List ℕ) → Type 0
Leaves puts before after None = after ≡ before
Leaves puts before after (Some put) = puts before after put.0 put.1

-- all files are as they were, or all but that of this name
abbrev pub AltersAtMost : {F : Type 0} → (F → F → List ℕ → Type 0) → Option (List ℕ) → F → F → Type 0
AltersAtMost alters name before after = (after ≡ before) ⊎ IsSomeAnd name (alters before after)
