use Rattle.std.proofs.Common.{◌∙◌, refl, sym, arith}
use Rattle.version_rules.proofs.lemmas.{Range.requirement_exact, Requirement.first_decides}
use Rattle.version_requirements.proofs.lemmas.{Members.list_split, RangeRef.next_decides}
use Rattle.version_texts.specs.{VersioningRef.plain_versioning_ref}
use Rattle.version_requirements.specs.Requirement.{list_of, pieces_of, plain_requirement_ref}
use Rattle.version_requirements.proofs.inexact.inexact_match.Goals.{else-not-is_exact-via-else-not-is_exact, else-not-is_exact-via-then-not-is_exact+else-not-matches}
use Rattle.version_requirements.proofs.inexact.inexact_match.Goals as goal

pub returns-then-not-matches : goal.returns-then-not-matches
returns-then-not-matches c = grind (arith, list_split, first_decides)

pub loop-member-preserved : goal.loop-member-preserved
loop-member-preserved c =
    let v = plain_versioning_ref c.args.version.now in
    let r = plain_requirement_ref c.in-Some-from_bytes.member in
    let next = pieces_of c.next.new.self.left in
    let split = list_split (pieces_of c.loop-member.members.left) next c.in-Some.member.now r
    c.in-Some.ensures.some c.in-Some-from_bytes.ensures in
    let before = rw split at c.loop-member.invariant in
    let step = next_decides v r (list_of next) before.inside (elim c.else-not-is_exact.branch [
      | else-not-is_exact-via-then-not-is_exact+else-not-matches w ↦
          λ inside. w.if-not-matches.ensures.0 refl
      | else-not-is_exact-via-else-not-is_exact w ↦ requirement_exact r v
          (sym c.is_exact.ensures ∙ w.if-not-is_exact.false)
    ]) in
    record {
      asks = (
        λ asked. before.asks.0 (step.0.1 asked),
        λ asked. step.0.0 (before.asks.1 asked),
      );
      inside = step.1;
    }
