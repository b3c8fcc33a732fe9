-- The grammar of the words: the commands of the table, and the arguments that each takes.
use Rattle.std.specs.Prelude.{◌≡◌, ◌^◌, ◌-◌, ℕ, true, false, List, [], ◌++◌, Option, Some, codes, map}
use Rattle.clap.specs.{Lexer.usize_max, Simple.new_shape, Simple.on_top, Simple.App, Simple.Shape, Words.new_rule, Words.Rule}
use Rattle.clap.specs.declared.builder.{action.ArgAction.TheVariants.Append, action.ArgAction.TheVariants.Set, action.ArgAction.TheVariants.SetTrue, arg.Arg.Arg, command.Command.Command, command.Command.TheViews.out-Command}
use Rattle.clap.specs.declared.builder.value_parser.{ValueParser.ValueParser, ValueParser.TheVariants.String, ValueParser.TheVariants.Unsigned}
use Rattle.version_usage.specs.declared.table.TheConstants.{COMMANDS, COMPARE, DIFF, ENDS, FILTER, KEY, LINES, NEWEST, NEXT, SETS, SHOW, SORT, TEST, WHY}
use Rattle.version_usage.specs.declared.{named.Verb.Verb, table.Form.Form, table.Row.Row}
use Rattle.version_usage.specs.declared.named.Verb.TheVariants as verb
use Rattle.version_usage.specs.declared.table.Form.TheVariants as form

-- an option, by its letter and its name
abbrev pub option_rule : Option ℕ → List ℕ → Rule
option_rule letter name = record (new_rule name) { long = Some name; short = letter }

-- an option with a value
abbrev pub valued_rule : Option ℕ → List ℕ → ValueParser → Rule
valued_rule letter name parser = record (option_rule letter name) {
  action = Some Set;
  value_names = 1;
  parser = Some parser;
}

-- a word that may be there
abbrev pub first_word_rule : List ℕ → Rule
first_word_rule name = record (new_rule name) { action = Some Set }

-- a word that has to be there
abbrev pub word_rule : List ℕ → Rule
word_rule name = record (first_word_rule name) { required = true }

-- any number of words
abbrev pub words_rule : Rule
words_rule = record (new_rule (codes "WORDS")) {
  action = Some Append;
  range = Some (record { start_inclusive = 0; end_inclusive = usize_max });
  value_names = 1;
}

-- a command without commands of its own
abbrev pub command_shape : List ℕ → List Rule → Shape
command_shape name rules = record (new_shape name) { rules = rules }

abbrev pub command_app : List ℕ → List Rule → App
command_app name rules = record { top = command_shape name rules; subs = [] }

module _ {T : Type 0} where
  -- what an argument of a form takes, by its letter and its name
  abbrev pub rule_of_form : Form T → Option ℕ → List ℕ → Rule
  rule_of_form form.Word letter name = word_rule name
  rule_of_form form.FirstWord letter name = first_word_rule name
  rule_of_form form.TwoOrThree letter name = record (word_rule name) {
    range = Some (record { start_inclusive = 2; end_inclusive = 3 });
  }
  rule_of_form form.Words letter name = words_rule
  rule_of_form form.Flag letter name = record (option_rule letter name) { action = Some SetTrue }
  rule_of_form form.Number letter name = valued_rule letter name (Unsigned 1 (2 ^ 64 - 1))
  rule_of_form (form.Text value) letter name = valued_rule letter name String

  -- the same of an argument of the table
  abbrev pub rule_of_row : (T → List ℕ) → Row T → Rule
  rule_of_row text row = rule_of_form row.form row.letter (text row.name)

-- a text of the table
abbrev pub Text : Type 0
Text = record { now : List ℕ }

-- what arguments of the table take
abbrev pub rules_in : List (Row Text) → List Rule
rules_in rows = map (rule_of_row (λ name. name.now)) rows

-- what a command takes
abbrev pub rules_of : Verb → List Rule
rules_of verb.Sort = rules_in SORT ++ rules_in LINES
rules_of verb.Newest = rules_in NEWEST ++ rules_in LINES
rules_of verb.Filter = rules_in FILTER ++ rules_in LINES
rules_of verb.Show = rules_in SHOW ++ rules_in ENDS
rules_of verb.Key = rules_in KEY ++ rules_in ENDS
rules_of verb.Test = rules_in TEST
rules_of verb.Compare = rules_in COMPARE
rules_of verb.Why = rules_in WHY ++ rules_in ENDS
rules_of verb.Implies = rules_in SETS
rules_of verb.Meets = rules_in SETS
rules_of verb.Diff = rules_in DIFF ++ rules_in ENDS
rules_of verb.Next = rules_in NEXT ++ rules_in ENDS

-- a command by its name, as `clap` has it
abbrev pub shape_of_command : {T : Type 0} → (T → List ℕ) → T × Verb → Shape
shape_of_command text named = command_shape (text named.0) (rules_of named.1)

-- a command with more arguments
abbrev pub with_rules : App → List Rule → App
with_rules a rules = on_top (λ s. record s { rules = s.rules ++ rules }) a

-- the program alone
abbrev pub program_shape : Shape
program_shape = record (new_shape (codes "versions")) {
  no_binary_name = true;
  has_version = true;
  disable_help_subcommand = true;
  subcommand_required = true;
  arg_required_else_help = true;
}

-- the program with its commands
abbrev pub program_app : App
program_app = record {
  top = record program_shape { is_leaf = false };
  subs = map (shape_of_command (λ (name : Text). name.now)) COMMANDS;
}

-- the argument is its command's alone
abbrev pub IsLocal : Arg → Type 0
IsLocal argument = argument.global ≡ false

-- each argument of the command is its own alone
abbrev pub HasNoGlobal : Command → Type 0
HasNoGlobal command = (out-Command command).has_globals ≡ false
