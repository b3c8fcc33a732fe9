-- The inputs before the place were read, none of them ends in quotes, the reader is as it was if it is none of the inputs,
-- and whether it may fail stays.
use Rattle.std.proofs.Common.{◌≡◌, ℕ, false, List, map, take}
use Rattle.std.specs.List.{list_any}
use Rattle.version_commands.specs.Files.{inputs_named, reads_standard, AreInputs}
use Rattle.version_lines.specs.{Inputs.plain_input, Lines.ends_quoted}
use Rattle.version_commands.proofs.inputs.read_named.Given as goal

abbrev pub invariant-loop-name : goal.invariant-loop-name
invariant-loop-name g l =
    let before = map (λ name. name.now) (take l.name-index l.names) in
    ((texts : List (List ℕ))
    × AreInputs (g.F.Files.reads l.files) (g.R.Source.remaining l.initial.reader) (g.R.Source.remaining l.reader) before texts
    × (list_any (ends_quoted l.end) texts ≡ false) × (map plain_input l.inputs.items ≡ inputs_named before texts))
    × (reads_standard (map (λ name. name.now) l.names) ≡ false → l.reader ≡ l.initial.reader)
    × (g.R.Source.may_fail l.reader ≡ g.R.Source.may_fail l.initial.reader)
