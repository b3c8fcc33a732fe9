use Rattle.std.proofs.Common.{◌≡◌, ◌++◌, List, Some, codes}
use Rattle.version_answers.specs.{One.members_text, Sets.set_of}
use Rattle.version_sets.specs.{Excluding.AreLeft, Excluding.leave_out, Excluding.steps_left, Reading.Member}
use Rattle.version_schemes.specs.{Scheme.rules, any.AnyVersion.plain_any}
use Rattle.version_answers.proofs.one.why.add_members.Given as goal

-- what is written, and what is still to come, are the members of all alternatives
abbrev pub invariant-loop-found : goal.invariant-loop-found
invariant-loop-found l =
    (all : List (List Member)) → set_of (plain_any l.fn.version).scheme l.fn.set ≡ Some all
    → (rest : List (List Member)) × AreLeft (rules (plain_any l.fn.version).scheme).read_as (rules (plain_any l.fn.version).scheme).facts.operators
    l.alternatives.left rest
    × (l.fn.output.items ++ members_text (codes " is left out by ") l.fn.set
    (leave_out (plain_any l.fn.version).key all)
    ≡ l.output.items ++ members_text l.word l.fn.set
    (leave_out (plain_any l.fn.version).key rest))

abbrev pub decreases-loop-found : goal.decreases-loop-found
decreases-loop-found l = steps_left l.alternatives.left
