-- What `vers` prints of a fault, and the status that it ends with.
use Rattle.std.specs.Prelude.{ℕ, List, ◌++◌, codes, decimal}
use Rattle.version_runs.specs.declared.faults.TaskFault.TheVariants.{NotVersion, NotRequirement, BadLine, Read}
use Rattle.vers_words.specs.declared.faults.{Fault.Fault, Fault.TheVariants.Usage, Fault.TheVariants.Task}
use Rattle.version_runs.specs.Fault as task
use Rattle.version_runs.specs.declared.faults.TaskFault as commands

-- the text of the fault of a task: words stand there whole, and nothing more of a line than its number
abbrev pub task_fault_text : commands.TaskFault → List ℕ
task_fault_text (NotVersion word remark) = codes "not a version: " ++ word.now
task_fault_text (NotRequirement word) = codes "not a requirement: " ++ word.now
task_fault_text (BadLine bad) =
    codes "line " ++ (decimal bad.number ++ codes " is not a version")
task_fault_text (Read name) = codes "read failed"
task_fault_text fault = task.fault_text fault

-- the text of a fault
abbrev pub fault_text : Fault → List ℕ
fault_text Usage = codes "usage: vers ideal, show, sort, cmp A B, key V, match R"
fault_text (Task fault) = task_fault_text fault

-- the status that a fault ends the program with
abbrev pub status_of : Fault → ℕ
status_of Usage = 2
status_of (Task fault) = task.status_of fault
