use Rattle.std.proofs.Common.{◌≡◌, ◌≤◌, ◌+◌, length}
use Rattle.version_requirements.specs.Requirement.{cut_at_commas, first_wrong, wrong_member}
use Rattle.version_requirements.proofs.requirements_ref.wrong_member.Given as goal

-- the first wrong member lies in what is left, which begins at the start
abbrev pub invariant-loop-others : goal.invariant-loop-others
invariant-loop-others l = record {
  found : first_wrong l.start (cut_at_commas l.left) ≡ wrong_member l.list;
  within : l.start + length l.left ≤ length l.list;
}

abbrev pub decreases-loop-others : goal.decreases-loop-others
decreases-loop-others l = length l.left
