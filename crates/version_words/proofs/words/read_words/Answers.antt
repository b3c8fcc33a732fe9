-- What the words of a run mean, and their faults.
use Rattle.version_usage.specs.Grammar.{program_app}
use Rattle.version_words.specs.Words.{command_of, faults, shows, AreWrong, HasAnswer, IsMistake, IsTaskIn, IsWrongIn, Means, Shows}
use Rattle.version_usage.specs.Rows.{command_in}
use Rattle.version_words.specs.Task.{IsTaskOf}
use Rattle.version_usage.specs.declared.faults.WordsFault.{WordsFault}
use Rattle.version_usage.specs.declared.named.Verb.{Verb}
use Rattle.clap.specs.Words.{is_simple, is_simple_and_free, App, fault_of, kind_of, subcommand_rows_of, HasKind, HasMatchesOf, Row}
use Rattle.clap.specs.{declared.error.Error.Error, declared.error.kind.ErrorKind.ErrorKind, declared.parser.matches.ArgMatches.ArgMatches}
use Rattle.version_runs.specs.declared.options.{Task.Task, Task.TheVariants.Say}
use Rattle.std.proofs.Common.{map, string_bytes, ◌≡◌, ℕ, true, false, List, [], ◌∷◌, refl, ◌++◌, String, Global, inl, inr, ap, sym, subst, ◌∙◌, ◌<◌, ◌+◌, Option, None, Some}
use Rattle.std.proofs.lemmas.Result.{IfErr-weaker, IfOk-weaker}
use Rattle.version_usage.proofs.lemmas.Words.{wrong_so}
use Rattle.version_usage.specs.declared.named.Verb.TheVariants as verb
use Rattle.version_words.proofs.words.read_words.Goals as goal

-- it is a command whose matches and faults `clap` tells
program-is-simple : is_simple program_app ≡ true
program-is-simple = refl

program-is-free : is_simple_and_free program_app ≡ true
program-is-free = refl

-- a command's task is none to show a text
unsaid : (command : Verb) (rows : List Row) (text : String Global) → IsTaskOf command rows (Say text) → ⊥
unsaid verb.Sort rows text never = never
unsaid command rows text never = never

unsaid-in : (found : Option (Verb × List Row)) (text : String Global) → IsTaskIn found (Say text) → ⊥
unsaid-in None text never = never
unsaid-in (Some (command, rows)) text is = unsaid command rows text is

module _ (words : List (List ℕ)) where
  meant : (task : Task) → faults words ≡ [] → IsTaskIn (command_of words) task → Means words task
  meant (Say text) right is = absurd (unsaid-in (command_of words) text is)
  meant task right is = (right, is)

  -- an error that shows a text
  shown : (task : Task) (kind : ErrorKind) → (shows kind ≡ true → HasAnswer true (faults words))
      → Shows kind task → Means words task
  shown (Say text) kind answers (is, has_text) = (answers is, has_text)
  shown task kind answers never = absurd never

  module _ (app : App) (same : app ≡ program_app) where
    -- a parse that found matches
    module _ (m : ArgMatches) (right : is_simple_and_free app ≡ true → fault_of app words ≡ [])
        (matches : HasMatchesOf app words m) where
      none-wrong : faults words ≡ []
      none-wrong = subst (λ a. is_simple_and_free a ≡ true → fault_of a words ≡ []) same right
          program-is-free

      command-is : command_in (subcommand_rows_of m) ≡ command_of words
      command-is =
          ap command_in (subst (λ a. HasMatchesOf a words m) same matches program-is-simple).1

      task-meant : (task : Task) → IsTaskIn (command_in (subcommand_rows_of m)) task
          → Means words task
      task-meant task is =
          meant task none-wrong (subst (λ found. IsTaskIn found task) command-is is)

      rows-wrong : (fault : WordsFault) → IsWrongIn (command_in (subcommand_rows_of m)) fault
          → AreWrong words fault
      rows-wrong fault wrong = inr (none-wrong, subst (λ found. IsWrongIn found fault) command-is wrong)

    -- a parse that failed
    module _ (error : Error) (fails : is_simple_and_free app ≡ true → HasKind (fault_of app words) error)
      where
        has-kind : HasKind (faults words) error
        has-kind = subst (λ a. is_simple_and_free a ≡ true → HasKind (fault_of a words) error) same fails
            program-is-free

        answer-shown : HasKind (faults words) error → shows (kind_of error) ≡ true
            → HasAnswer true (faults words)
        answer-shown (inl memory) is = cc (sym (ap shows memory) ∙ is)
        answer-shown (inr among) is = (kind_of error, among, is)

        mistaken : HasKind (faults words) error → IsMistake (kind_of error)
            → HasAnswer false (faults words)
        mistaken (inl memory) (hidden, other) = absurd (other memory)
        mistaken (inr among) (hidden, other) = (kind_of error, among, hidden)

        text-meant : (task : Task) → Shows (kind_of error) task → Means words task
        text-meant task is = shown task (kind_of error) (answer-shown has-kind) is

        words-wrong : (fault : WordsFault) → IsMistake (kind_of error) → AreWrong words fault
        words-wrong fault mistake = inl (mistaken has-kind mistake)

pub returns-in-Ok-clause-task : goal.returns-in-Ok-clause-task
returns-in-Ok-clause-task c = IfOk-weaker c.task_of.result _ _
    (task-meant (map string_bytes c.args.words.now) _ c.in_ok-program.ensures c.in-Ok.matches
    c.in-Ok.ensures.kinds c.in-Ok.ensures.matches) c.task_of.ensures.task

pub returns-in-Ok-clause-faults : goal.returns-in-Ok-clause-faults
returns-in-Ok-clause-faults c = IfErr-weaker c.task_of.result _ _
    (wrong_so _ _ (rows-wrong (map string_bytes c.args.words.now) _ c.in_ok-program.ensures c.in-Ok.matches
    c.in-Ok.ensures.kinds c.in-Ok.ensures.matches)) c.task_of.ensures.faults

pub returns-in-Err-clause-task : goal.returns-in-Err-clause-task
returns-in-Err-clause-task c = IfOk-weaker c.answer_to.result _ _
    (text-meant (map string_bytes c.args.words.now) _ c.in_ok-program.ensures c.in-Err.error
    c.in-Err.ensures.kinds) c.answer_to.ensures.task

pub returns-in-Err-clause-faults : goal.returns-in-Err-clause-faults
returns-in-Err-clause-faults c = IfErr-weaker c.answer_to.result _ _
    (wrong_so _ _ (words-wrong (map string_bytes c.args.words.now) _ c.in_ok-program.ensures c.in-Err.error
    c.in-Err.ensures.kinds)) c.answer_to.ensures.faults
