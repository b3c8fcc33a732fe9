-- Inputs that were read in turn.
use Rattle.std.proofs.Common.{◌≡◌, ◌<◌, ◌||◌, drop, ℕ, zero, suc, Bool, false, true, List, [], ◌∷◌, ◌++◌, length, get_or, map, take, Option, Some, refl, ap, arith, ◌+◌, ◌∙◌, sym}
use Rattle.std.specs.List.{list_any}
use Rattle.version_commands.specs.Files.{inputs_named, is_standard, reads_standard, AreInputs, IsInput, Reading}
use Rattle.version_lines.specs.{Inputs.numbered, Inputs.texts_of, Inputs.PlainInput, Inputs.PlainLine, Lines.ends_quoted, declared.lines.LineEnd.LineEnd}
use Rattle.version_lines.proofs.lemmas.Sorting.{head-is, tail-is}

-- one more input was read after the others
pub inputs-push : (reads : Reading) (old now new : Option (List ℕ))
    (names texts : List (List ℕ)) (name text : List ℕ) → AreInputs reads old now names texts
    → IsInput reads now new name text
    → AreInputs reads old new (names ++ name ∷ []) (texts ++ text ∷ [])
inputs-push reads old now new [] [] name text none read = grind arith
inputs-push reads old now new [] (t ∷ texts) name text none read = absurd none
inputs-push reads old now new (n ∷ names) [] name text none read = absurd none
inputs-push reads old now new (n ∷ names) (t ∷ texts) name text (between, here, more) read =
    (between, here, inputs-push reads between now new names texts name text more read)

-- one more input of a name comes after the others
pub named-push : (reads : Reading) (old now : Option (List ℕ)) (names texts : List (List ℕ)) (name text : List ℕ)
    → AreInputs reads old now names texts
    → inputs_named (names ++ name ∷ []) (texts ++ text ∷ []) ≡ inputs_named names texts ++ (Some name, text) ∷ []
named-push reads old now [] [] name text read = refl
named-push reads old now [] (t ∷ texts) name text read = absurd read
named-push reads old now (n ∷ names) [] name text read = absurd read
named-push reads old now (n ∷ names) (t ∷ texts) name text (between, here, more) =
    ap (λ (inputs : List PlainInput). (Some n, t) ∷ inputs) (named-push reads between now names texts name text more)

-- where neither is so, none of both is
either-none : (one other : Bool) → one || other ≡ false → (one ≡ false) × (other ≡ false)
either-none true other wrong = cc wrong
either-none false other same = (refl, same)

-- none of some texts and one more ends in quotes
pub closed-push : (end : LineEnd) (texts : List (List ℕ)) (text : List ℕ) → list_any (ends_quoted end) texts ≡ false
    → ends_quoted end text ≡ false → list_any (ends_quoted end) (texts ++ text ∷ []) ≡ false
closed-push end [] text closed here = rw here refl
closed-push end (first ∷ texts) text closed here =
    let (before, others) = either-none (ends_quoted end first) _ closed in
    rw (before, closed-push end texts text others here) refl

-- the names of some inputs, about the one at a place
pub parts-around : {X : Type 0} (f : X → List ℕ) (names : List X) (i : ℕ) (d : X) → i < length names
    → map f names ≡ map f (take i names) ++ f (get_or names i d) ∷ map f (drop (suc i) names)
parts-around f [] i d inside = absurd (omega (arith, inside))
parts-around f (name ∷ names) zero d inside = refl
parts-around f (name ∷ names) (suc i) d inside = grind (arith, parts-around f names i d (omega (arith, inside)))

-- where standard input is none of the inputs, the one at a place isn't
pub none-standard : {X : Type 0} (f : X → List ℕ) (names : List X) (i : ℕ) (d : X)
    → i < length names → reads_standard (map f names) ≡ false
    → is_standard (f (get_or names i d)) ≡ false
none-standard f [] i d inside none = absurd (omega (arith, inside))
none-standard f (name ∷ names) zero d inside none = (either-none _ _ none).0
none-standard f (name ∷ names) (suc k) d inside none =
    none-standard f names k d (omega (arith, inside)) (either-none (is_standard (f name)) _ none).1

-- what stands in numbered lines are the lines
pub numbered-texts : (file : Option (List ℕ)) (before : ℕ) (texts : List (List ℕ))
    → texts_of (numbered file before texts) ≡ texts
numbered-texts file before [] = refl
numbered-texts file before (text ∷ texts) = grind (arith, numbered-texts file (suc before) texts)

-- and they are as many
pub numbered-length : (file : Option (List ℕ)) (before : ℕ) (texts : List (List ℕ))
    → length (numbered file before texts) ≡ length texts
numbered-length file before [] = refl
numbered-length file before (text ∷ texts) = ap suc (numbered-length file (suc before) texts)

-- the first of some numbered lines is one more than came before, and the others follow it
pub numbered-next : (file : Option (List ℕ)) (before total : ℕ) (texts : List (List ℕ)) (left after : List PlainLine)
    (line : PlainLine) → left ≡ numbered file before texts → left ≡ line ∷ after → before + length texts ≡ total
    → (others : List (List ℕ)) × (after ≡ numbered file line.number others) × (line.number + length others ≡ total)
numbered-next file before total [] left after line is next all = let e : [] ≡ line ∷ after = sym is ∙ next in cc
numbered-next file before total (text ∷ texts) left after line is next all = grind (arith, head-is, tail-is)

-- where none is left, all came before
pub numbered-all : (file : Option (List ℕ)) (before total : ℕ) (texts : List (List ℕ)) (left : List PlainLine)
    → left ≡ numbered file before texts → left ≡ [] → before + length texts ≡ total → before ≡ total
numbered-all file before total texts left is none all = grind (arith, numbered-length)
