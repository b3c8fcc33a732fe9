-- What the words of a run mean.
use Rattle.std.specs.Prelude.{◌≡◌, ◌≢◌, ◌⊎◌, ⊤, ℕ, Bool, true, false, List, [], Option, None, Some, string_bytes}
use Rattle.clap.specs.Words.{fault_of, subcommand_of, IsAmong, Kinds, Row}
use Rattle.clap.specs.declared.error.kind.{ErrorKind.ErrorKind, ErrorKind.TheVariants.DisplayHelp, ErrorKind.TheVariants.DisplayVersion, ErrorKind.TheVariants.OutOfMemory}
use Rattle.version_words.specs.{Task.IsTaskOf, Task.IsWrong, declared.faults.Fault.Fault}
use Rattle.version_usage.specs.Grammar.{program_app}
use Rattle.version_usage.specs.Rows.{command_in}
use Rattle.version_usage.specs.Wrong.{ComesOfWrong, HasText}
use Rattle.version_usage.specs.declared.faults.WordsFault.{WordsFault}
use Rattle.version_usage.specs.declared.named.Verb.{Verb}
use Rattle.version_runs.specs.declared.options.{Task.Task, Task.TheVariants.Say}
use Rattle.version_words.specs.declared.faults.Fault.TheVariants as fault

-- this is the task of a command
abbrev pub IsTaskIn : Option (Verb × List Row) → Task → Type 0
IsTaskIn None task = ⊥
IsTaskIn (Some (command, rows)) task = IsTaskOf command rows task

-- there is no command, or no task of it
abbrev pub IsWrongIn : Option (Verb × List Row) → WordsFault → Type 0
IsWrongIn None fault = ⊤
IsWrongIn (Some (command, rows)) fault = IsWrong command rows fault

-- whether an error shows what was asked for: help, or the version
abbrev pub shows : ErrorKind → Bool
shows DisplayHelp = true
shows DisplayVersion = true
shows other = false

-- an error of this kind shows the text of the task, which isn't empty
abbrev pub Shows : ErrorKind → Task → Type 0
Shows kind (Say text) = (shows kind ≡ true) × HasText (string_bytes text)
Shows kind other = ⊥

-- an error of this kind is a mistake in the words
abbrev pub IsMistake : ErrorKind → Type 0
IsMistake kind = (shows kind ≡ false) × (kind ≢ OutOfMemory)

-- one of the kinds does, or does not
abbrev pub HasAnswer : Bool → Kinds → Type 0
HasAnswer shown kinds = (kind : ErrorKind) × IsAmong kind kinds × (shows kind ≡ shown)

module _ (words : List (List ℕ)) where
  -- what is wrong with the words by the grammar alone
  abbrev pub faults : Kinds
  faults = fault_of program_app words

  -- the command that they name, with its rows
  abbrev pub command_of : Option (Verb × List Row)
  command_of = command_in (subcommand_of program_app words)

  -- The words mean this task: that of their command and its rows, or to show help or the version,
  -- a text that isn't empty.
  abbrev pub Means : Task → Type 0
  Means (Say text) = HasAnswer true faults × HasText (string_bytes text)
  Means task = (faults ≡ []) × IsTaskIn command_of task

  -- they are none that the grammar has, or its command and rows mean no task
  abbrev pub AreWrong : WordsFault → Type 0
  AreWrong fault = HasAnswer false faults ⊎ ((faults ≡ []) × IsWrongIn command_of fault)

  -- the faults that words which mean no task end in
  abbrev pub ComesOfWords : WordsFault → Type 0
  ComesOfWords = ComesOfWrong AreWrong

  -- the same of a run
  abbrev pub IsOfWords : Fault → Type 0
  IsOfWords (fault.Words wrong) = ComesOfWords wrong
  IsOfWords (fault.Task failed) = ⊥
