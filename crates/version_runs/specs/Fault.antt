-- The faults of a run: the statuses that they end it with, and what a message says of them.
use Rattle.std.specs.Prelude.{ℕ, List, [], Option, None, Some, string_bytes, codes, if◌then◌else◌, ◌++◌}
use Rattle.std.specs.Fmt.{decimal}
use Rattle.std.proofs.Common.{Bor}
use Rattle.version_runs.specs.declared.faults.TaskFault.TheVariants.{NotVersion, NotRequirement, NotSet, NotTested, NotTestedSet, BadLine, NoNext, NoColumn, Unclosed, Memory, Read, Write}
use Rattle.version_runs.specs.declared.{faults.TaskFault.TaskFault, faults.Blamed.Blamed}
use Rattle.version_answers.specs.{Message.quoted, Message.no_version_text, Message.others_text, Sets.wrong_set_text, declared.message.remark.Remark.Remark}

-- the status that a fault ends the program with
abbrev pub status_of : TaskFault → ℕ
status_of (NotVersion text remark) = 1
status_of (NotRequirement text) = 1
status_of (NotSet wrong) = 1
status_of (NotTested text remark) = 2
status_of (NotTestedSet wrong) = 2
status_of (BadLine bad) = 1
status_of (NoNext text) = 1
status_of (NoColumn name) = 1
status_of (Unclosed name number) = 1
status_of Memory = 3
status_of (Read name) = 3
status_of (Write name) = 3

-- of which file
abbrev pub file_text : Option (Bor (List ℕ)) → List ℕ
file_text None = []
file_text (Some name) = codes " of " ++ quoted name.now

-- what a message says of the first line that has no version, and of how many more have none
abbrev pub bad_line_text : Blamed → List ℕ
bad_line_text bad = codes "line " ++ (decimal bad.number ++ (file_text bad.file ++ (if bad.ends_in_return
    then codes " ends in a carriage return: --crlf" ++ others_text bad.more
    else codes " is not a version: " ++ no_version_text bad.remark (string_bytes bad.text) (others_text bad.more))))

-- what a message says of a word that is no version
abbrev pub no_version_word : List ℕ → Option Remark → List ℕ
no_version_word word remark = codes "not a version: " ++ no_version_text remark word []

-- what a message says of a fault
abbrev pub fault_text : TaskFault → List ℕ
fault_text (NotVersion word remark) = no_version_word word.now remark
fault_text (NotRequirement word) = codes "not a requirement: " ++ quoted word.now
fault_text (NotSet wrong) = wrong_set_text wrong
fault_text (NotTested word remark) = no_version_word word.now remark
fault_text (NotTestedSet wrong) = wrong_set_text wrong
fault_text (BadLine bad) = bad_line_text bad
fault_text (NoNext text) = codes "no version comes next at that place: " ++ string_bytes text
fault_text (NoColumn name) = codes "no column is named " ++ quoted name.now
fault_text (Unclosed name number) =
    codes "line " ++ (decimal number ++ (codes " of " ++ (quoted name.now ++ codes ": its quotes never close")))
fault_text Memory = codes "no memory"
fault_text (Read name) = codes "cannot be read: " ++ quoted name.now
fault_text (Write (Some name)) = codes "cannot be written: " ++ quoted name.now
fault_text (Write None) = codes "write failed"
