use Rattle.std.proofs.Common.{◌≡◌, ◌∙◌, ap, refl, subst}
use Rattle.version_rules.specs.requirement.Range.{requirement_range}
use Rattle.version_texts.specs.{VersioningRef.plain_versioning_ref}
use Rattle.version_requirements.specs.Requirement.{plain_requirement_ref, IsWhy}
use Rattle.version_requirements.proofs.why.why_not.Goals as goal

pub returns-clause-why : goal.returns-clause-why
returns-clause-why c =
    let found = c.first_failing-start.ensures.first in
    let same : plain_requirement_ref c.in_ok-from_bytes.field-0 ≡ found.0 =
    cc (c.in_ok-from_bytes.ensures, found.1.place.parsed) in
    record {
      requirement = found.0;
      member = c.first_failing-start.result.1.now;
      first = found.1;
      end_is = refl;
      why = subst
          (λ range. IsWhy range (plain_versioning_ref c.args.version.now) c.why_outside.result)
          (c.of-range.ensures ∙ ap requirement_range same) c.why_outside.ensures;
    }
