-- The words of the program: what a word names in a table, what is said of wrong ones, and what a command is after arguments and
-- commands were added to it.
use Rattle.std.specs.{Str.bytes_eq, declared.alloc.AllocError.AllocError}
use Rattle.version_usage.specs.Grammar.{shape_of_command, with_rules, HasNoGlobal, IsLocal}
use Rattle.version_usage.specs.Wrong.{ComesOfWrong, IsUsage}
use Rattle.version_usage.specs.{Named.texts_in, Named.value_named, Rows.word_of, Wrong.in_quotes, Wrong.HasText, Wrong.Holds, Wrong.Quotes, declared.faults.WordsFault.WordsFault}
use Rattle.version_usage.specs.declared.{faults.WordsFault.TheVariants.Usage, faults.WordsFault.TheVariants.Memory, named.Verb.Verb}
use Rattle.std.proofs.lemmas.List.{at_drop_more}
use Rattle.clap.specs.Words.{app_of, rule_of, shape_of, with_rule, with_subcommand, AddsArg, AddsSubcommand, App, Rule, Shape, first_of, Row}
use Rattle.clap.specs.{Simple.on_top, declared.builder.arg.Arg.Arg, declared.builder.command.Command.Command}
use Rattle.clap.proofs.WalkLemmas.{first_value-rows, raw_values-rows}
use Rattle.std.proofs.Common.{◌≡◌, ℕ, Bool, true, false, List, [], ◌∷◌, find, option_map, refl, ◌++◌, codes, length, string_bytes, String, Global, inl, inr, ap, arith, length-append, sym, subst, append_assoc, ◌∙◌, ◌<◌, ◌+◌, drop, get_or, map, append-nil, Option, Some, unwrap_or, Result, Ok, Err, IfOk, MatchResult}

-- ---- what a word names in a table

module _ {T V : Type 0} (text : T → List ℕ) (word : List ℕ) where
  more : (row : T × V) (rest : List (T × V)) (same : Bool) → bytes_eq (text row.0) word ≡ same
      → option_map (λ row. row.1) (find (λ row. bytes_eq (text row.0) word) rest) ≡ value_named (texts_in text rest) word
      → option_map (λ row. row.1) (find (λ row. bytes_eq (text row.0) word) (row ∷ rest))
      ≡ value_named (texts_in text (row ∷ rest)) word
  more row rest true is left = rw is refl
  more row rest false is left = rw is left

  -- the row that is found first has what is named
  pub by_texts : (table : List (T × V))
      → option_map (λ row. row.1) (find (λ row. bytes_eq (text row.0) word) table)
      ≡ value_named (texts_in text table) word
  by_texts [] = refl
  by_texts (row ∷ rest) = more row rest (bytes_eq (text row.0) word) refl (by_texts rest)

-- ---- what is said of wrong words

-- a text that has this between quotes holds it with these
pub holds_quoted : (before shown after text : List ℕ)
    → text ≡ before ++ (codes "'" ++ (shown ++ (codes "'" ++ after)))
    → Holds (codes "'" ++ (shown ++ codes "'")) text
holds_quoted before shown after text is = (
  before,
  after,
  is ∙ ap (λ (rest : List ℕ). before ++ (codes "'" ++ rest)) (sym (append_assoc shown (codes "'") after)),
)

-- a text that quotes a word isn't empty
has_text : (word text : List ℕ) → Holds (in_quotes word) text → HasText text
has_text word text (before, after, is) = omega (arith, simp length-append at (ap length is))

-- the fault of a text that quotes a word
pub fault_quotes : (word : List ℕ) (made : Result (String Global) AllocError) (fault : WordsFault)
    → IfOk made (λ text. Holds (in_quotes word) (string_bytes text))
    → MatchResult made (λ text. fault ≡ Usage text) (λ _. fault ≡ Memory)
    → ComesOfWrong (Quotes word) fault
fault_quotes word (Ok text) fault holds is = inr (subst (λ (f : WordsFault). IsUsage f × Quotes word f) (sym is)
    (has_text word (string_bytes text) holds, holds))
fault_quotes word (Err refused) fault holds is = inl is

-- ---- what a command is after arguments and commands were added to it

pub with-none : (a : App) → with_rules a [] ≡ a
with-none a = ap (λ rules. on_top (λ s. record s { rules = rules }) a) (append-nil a.top.rules)

pub with-one-more : (a : App) (rule : Rule) (rules : List Rule)
    → with_rules (with_rule a rule) rules ≡ with_rules a (rule ∷ rules)
with-one-more a rule rules =
    ap (λ all. on_top (λ s. record s { rules = all }) a) (append_assoc a.top.rules (rule ∷ []) rules)

-- what the command reads of words, where each argument is its own
pub record Reads (app : App) (command : Command) : Type 0 where
  pub app_is : app_of command ≡ app
  pub is_local : HasNoGlobal command

pub with-argument : (old new : Command) (argument : Arg) {rule : Rule} → HasNoGlobal old
    → rule_of argument ≡ rule → IsLocal argument → AddsArg old argument new
    → Reads (with_rule (app_of old) rule) new
with-argument old new argument plain rule_is local adds = record {
  app_is = adds.shape local ∙ ap (with_rule (app_of old)) rule_is;
  is_local = adds.globals ∙ (rw plain local);
}

-- a command with more commands
abbrev pub with_subcommands : App → List Shape → App
with_subcommands a [] = a
with_subcommands a (shape ∷ shapes) = with_subcommands (with_subcommand a shape) shapes

pub with-command : (old command new : Command) {shape : Shape} → HasNoGlobal old
    → shape_of command ≡ shape → HasNoGlobal command → AddsSubcommand old command new
    → Reads (with_subcommand (app_of old) shape) new
with-command old command new plain shape_is local adds = record {
  app_is = adds.shape local ∙ ap (with_subcommand (app_of old)) shape_is;
  is_local = adds.globals ∙ (rw plain local);
}

-- with one more command the rest are fewer
pub next-command : {T : Type 0} (text : T → List ℕ) (items : List (T × Verb)) (i : ℕ) (item : T × Verb) (old new whole : App)
    → i < length items → with_subcommands old (map (shape_of_command text) (drop i items)) ≡ whole
    → new ≡ with_subcommand old (shape_of_command text (get_or items i item))
    → with_subcommands new (map (shape_of_command text) (drop (i + 1) items)) ≡ whole
next-command text items i item old new whole below is adds =
    ap (λ a. with_subcommands a (map (shape_of_command text) (drop (i + 1) items))) adds
    ∙ sym (at_drop_more (λ rest. with_subcommands old (map (shape_of_command text) rest)) items i item below) ∙ is

-- ---- the faults of words

-- what is wrong is also wrong in another way
pub wrong_so : (Wrong Other : WordsFault → Type 0) → ((fault : WordsFault) → Wrong fault → Other fault)
    → (fault : WordsFault) → ComesOfWrong Wrong fault → ComesOfWrong Other fault
wrong_so Wrong Other so fault (inl memory) = inl memory
wrong_so Wrong Other so fault (inr (usage, wrong)) = inr (usage, so fault wrong)

-- this is wrong, and the word of an option is quoted
pub word_wrong : (option : List ℕ) (rows : List Row) (word : List ℕ) (fault : WordsFault) (Wrong : Type 0)
    → Some word ≡ first_of option rows → Wrong → ComesOfWrong (Quotes word) fault
    → ComesOfWrong (λ f. Wrong × Quotes (word_of option rows) f) fault
word_wrong option rows word fault Wrong first wrong =
    let same : word ≡ word_of option rows = ap (λ (w : Option (List ℕ)). unwrap_or w []) first in
    wrong_so (Quotes word) (λ f. Wrong × Quotes (word_of option rows) f)
    (λ f quotes. (wrong, subst (λ (w : List ℕ). Quotes w f) same quotes)) fault

-- the words that `clap` gives are those of its rows
pub ruleset rows_found = (first_value-rows, raw_values-rows)
