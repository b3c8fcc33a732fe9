use Rattle.std.proofs.Common.{◌↔◌, IfSome, length}
use Rattle.std.specs.List.{All}
use Rattle.version_rules.proofs.lemmas.Requirement.{Asked}
use Rattle.version_rules.specs.requirement.{Range.IsIn, Range.requirement_range, Requirements.requirements_of}
use Rattle.version_texts.specs.{VersioningRef.plain_versioning_ref}
use Rattle.version_requirements.specs.Requirement.{list_of, pieces_of}
use Rattle.version_requirements.proofs.inexact.inexact_match.Given as goal

-- the members so far match the version, and those that are left decide
abbrev pub invariant-loop-member : goal.invariant-loop-member
invariant-loop-member l = record {
  asks : Asked (plain_versioning_ref l.version) (list_of (pieces_of l.members.left))
      ↔ Asked (plain_versioning_ref l.version) (requirements_of l.text);
  inside : IfSome (list_of (pieces_of l.members.left))
      (All (λ r. IsIn (requirement_range r) (plain_versioning_ref l.version)));
}

abbrev pub decreases-loop-member : goal.decreases-loop-member
decreases-loop-member l = length (pieces_of l.members.left)
