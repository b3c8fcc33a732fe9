-- What `show`, `key`, `why` and `next` write.
use Rattle.std.proofs.Common.{Bor}
use Rattle.std.specs.Prelude.{◌≡◌, ◌⊎◌, ⊤, ℕ, Bool, true, List, [], ◌∷◌, ◌++◌, map, not, Option, None, Some, is_some, IsSomeAnd}
use Rattle.std.specs.{Io.KnownBytes.Consumes, Io.KnownBytes.IsAtEnd, List.filter, List.list_all, List.list_any}
use Rattle.version_answers.specs.One.{json_line, key_line, show_text, NoNextBy, WritesNext, Adds, IsWhyHead, IsWhyLine}
use Rattle.version_answers.specs.{Sets.keys_of, Spelling.before_named, Spelling.spelled, declared.spelling.Naming.Naming}
use Rattle.version_runs.specs.declared.options.Question.TheVariants.{Show, Json, Key, Why, Next}
use Rattle.version_commands.specs.{declared.words.each.Answers.Answers}
use Rattle.version_runs.specs.Place.{line_text, spelling_of}
use Rattle.version_runs.specs.{declared.options.EachOptions.EachOptions, declared.options.Question.Question}
use Rattle.version_lines.specs.Lines.{lines_of, plain_end}
use Rattle.version_schemes.specs.{any.Order.PlainAny}
use Rattle.version_sets.specs.Form.{has}
use Rattle.version_rules.specs.grammar.Versioning.{PlainVersioning, versioning_of}

-- the version that a text is to it
abbrev pub version_asked : Question → Naming → List ℕ → Option PlainAny
version_asked question naming = spelled (spelling_of question naming)

-- something holds of the version of the scheme mixed that a version is
abbrev pub OfMixed : PlainAny → (PlainVersioning → Type 0) → Type 0
OfMixed v Holds = (w : PlainVersioning) × (versioning_of v.text ≡ Some w) × Holds w

-- what is written for a text and its version, and whether there is an answer: only `next` may have none, which
-- keeps what stands before the version
abbrev pub IsAnswer : Question → Naming → ℕ → List ℕ → PlainAny → Bool → List ℕ → Type 0
IsAnswer Show naming end text v found answer = OfMixed v (λ w. (found ≡ true) × (answer ≡ show_text end w))
IsAnswer Json naming end text v found answer = OfMixed v (λ w. (found ≡ true) × (answer ≡ json_line end w))
IsAnswer (Key scheme) naming end text v found answer = (found ≡ true) × (answer ≡ key_line end v)
IsAnswer (Why scheme set) naming end text v found answer =
    (found ≡ true) × IsWhyLine end set.now text v answer
IsAnswer (Next step) naming end text v found answer =
    OfMixed v (λ w. WritesNext end (before_named naming text) w step found answer)

-- the set of `why` is one, and this is it, by its ends
abbrev pub HasSet : Question → Option (List (List ℕ)) → Type 0
HasSet (Why scheme word) set = IsSomeAnd set (λ set. keys_of scheme word.now ≡ Some (has set))
HasSet Show set = ⊤
HasSet Json set = ⊤
HasSet (Key scheme) set = ⊤
HasSet (Next step) set = ⊤

-- each text is a version, and the answers to them follow one another
abbrev pub AreAnswered : Question → Naming → ℕ → List (List ℕ) → List ℕ → Type 0
AreAnswered question naming end [] output = output ≡ []
AreAnswered question naming end (text ∷ texts) output =
    (v : PlainAny) × (answer : List ℕ) × (rest : List ℕ) × (version_asked question naming text ≡ Some v)
    × IsAnswer question naming end text v true answer × AreAnswered question naming end texts rest
    × (output ≡ answer ++ rest)

-- the question asks for the version next to one that has none
abbrev pub HasNoNext : Question → Option PlainAny → Type 0
HasNoNext (Next step) (Some v) = OfMixed v (NoNextBy step)
HasNoNext other v = ⊥

-- the first of some texts whose version has no next, so that there are answers to those before it
abbrev pub IsFirstWithoutNext : Question → Naming → ℕ → List (List ℕ) → List ℕ → Type 0
IsFirstWithoutNext question naming end texts text =
    (before after : List (List ℕ)) × (answers : List ℕ) × (texts ≡ before ++ text ∷ after)
    × AreAnswered question naming end before answers × HasNoNext question (version_asked question naming text)

-- the texts are answered after a head, or this is the first of them whose version has no next
abbrev pub AnsweredOr : Question → Naming → ℕ → List ℕ → List (List ℕ) → List ℕ → Option (Bor (List ℕ))
    → Type 0
AnsweredOr question naming end head texts output None = Adds (AreAnswered question naming end texts) head output
AnsweredOr question naming end head texts output (Some text) =
    IsFirstWithoutNext question naming end texts text.now

-- the same since the first of these answers
pub record HaveAnswered (first now : Answers) (texts : List (List ℕ)) : Type 0 where
  pub question_is : now.question ≡ first.question
  pub naming_is : now.naming ≡ first.naming
  pub end_is : now.end ≡ first.end
  pub crlf_is : now.crlf ≡ first.crlf
  pub answers_are : AnsweredOr first.question first.naming first.end first.output.items texts now.output.items
      now.unanswered

-- what stands before the answers: of `why`, that no version is in the set
abbrev pub IsHead : Question → ℕ → List ℕ → Type 0
IsHead (Why scheme set) end head = IsWhyHead scheme end set.now head
IsHead Show end head = head ≡ []
IsHead Json end head = head ≡ []
IsHead (Key scheme) end head = head ≡ []
IsHead (Next step) end head = head ≡ []

-- the texts that are asked: those of the lines of standard input
abbrev pub AreLineTexts : EachOptions → Option (List ℕ) → Option (List ℕ) → List (List ℕ) → Type 0
AreLineTexts options old new texts =
    (input : List ℕ) × Consumes old new input × IsAtEnd new
    × (texts ≡ map (line_text options.crlf) (lines_of (plain_end options.end) input))

-- whether a text is a version to a question, those of some texts that are and that aren't, and whether all words are
abbrev pub is_version : Question → Naming → List ℕ → Bool
is_version question naming text = is_some (version_asked question naming text)

abbrev pub versions_among : Question → Naming → List (List ℕ) → List (List ℕ)
versions_among question naming = filter (is_version question naming)

abbrev pub others_among : Question → Naming → List (List ℕ) → List (List ℕ)
others_among question naming = filter (λ text. not (is_version question naming text))

abbrev pub are_versions : Question → EachOptions → Bool
are_versions question options =
    list_all (is_version question options.naming) (map (λ word. word.now) options.versions.items)

-- whether any word is one
abbrev pub has_version : Question → EachOptions → Bool
has_version question options =
    list_any (is_version question options.naming) (map (λ word. word.now) options.versions.items)

-- a version is asked: there are no words, or one of them is a version
abbrev pub IsAsked : Question → EachOptions → Type 0
IsAsked question options = (options.versions.items ≡ []) ⊎ (has_version question options ≡ true)

-- those of the words that are versions; or without any words those of the lines
abbrev pub AreTextsOf : Question → EachOptions → Option (List ℕ) → Option (List ℕ) → List (List ℕ)
    → List (List ℕ) → Type 0
AreTextsOf question options old new texts [] = AreLineTexts options old new texts
AreTextsOf question options old new texts (word ∷ words) =
    (new ≡ old) × (texts ≡ versions_among question options.naming (word ∷ words))

abbrev pub AreTexts : Question → EachOptions → Option (List ℕ) → Option (List ℕ) → List (List ℕ) → Type 0
AreTexts question options old new texts =
    AreTextsOf question options old new texts (map (λ word. word.now) options.versions.items)

-- the whole output
pub record IsAnswered (question : Question) (options : EachOptions) (old new : Option (List ℕ))
    (output : List ℕ) : Type 0 where
  pub texts : List (List ℕ)
  pub head : List ℕ
  pub answers : List ℕ
  pub texts_are : AreTexts question options old new texts
  pub head_is : IsHead question options.end head
  pub answers_are : AreAnswered question options.naming options.end texts answers
  pub output_is : output ≡ head ++ answers
