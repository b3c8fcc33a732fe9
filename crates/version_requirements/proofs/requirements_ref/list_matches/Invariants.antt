use Rattle.std.proofs.Common.{◌≡◌, ◌↔◌, length}
use Rattle.std.specs.Option.{is_some}
use Rattle.version_rules.specs.requirement.Requirements.{requirements_of}
use Rattle.version_texts.specs.{VersioningRef.plain_versioning_ref}
use Rattle.version_requirements.specs.Requirement.{list_of, pieces_of}
use Rattle.version_rules.proofs.lemmas.Requirement.{Asked}
use Rattle.version_requirements.proofs.requirements_ref.list_matches.Given as goal

-- the members so far parse and match the version, and what remains decides
abbrev pub invariant-loop-member : goal.invariant-loop-member
invariant-loop-member l = record {
  parses : is_some (list_of (pieces_of l.members.left)) ≡ is_some (requirements_of l.list);
  asks : Asked (plain_versioning_ref l.version) (list_of (pieces_of l.members.left))
      ↔ Asked (plain_versioning_ref l.version) (requirements_of l.list);
}

abbrev pub decreases-loop-member : goal.decreases-loop-member
decreases-loop-member l = length (pieces_of l.members.left)
