-- How `versions` ends by a fault: what it prints, and its status.
use Rattle.std.specs.Prelude.{ℕ, List, codes, string_bytes}
use Rattle.version_usage.specs.declared.faults.WordsFault.TheVariants.{Memory, Usage}
use Rattle.version_words.specs.declared.faults.Fault.{Fault, TheVariants.Words, TheVariants.Task}
use Rattle.version_runs.specs.Fault as task

-- the text of a fault
abbrev pub fault_text : Fault → List ℕ
fault_text (Words (Usage text)) = string_bytes text
fault_text (Words Memory) = codes "no memory"
fault_text (Task fault) = task.fault_text fault

-- the status that a fault ends the program with
abbrev pub status_of : Fault → ℕ
status_of (Words (Usage text)) = 2
status_of (Words Memory) = 3
status_of (Task fault) = task.status_of fault
