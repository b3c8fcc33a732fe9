use Rattle.std.proofs.Common.{◌≡◌, inr, subst}
use Rattle.version_rules.specs.{declared.kind.Kind.TheVariants.Ideal, requirement.Range.common_kinds, requirement.Range.no_kinds, requirement.Range.requirement_range, requirement.Requirements.requirements_of}
use Rattle.version_requirements.proofs.lemmas.Empty.{no_kind_left}
use Rattle.version_requirements.proofs.conflict.of_other_kinds.Goals as goal

pub failing-requires : goal.failing-requires
failing-requires c = no_kind_left Ideal (requirements_of c.args.list.now) c.requires

pub failing-requires-2 : goal.failing-requires-2
failing-requires-2 c =
    no_kind_left c.kind_of_one-kind.result (requirements_of c.args.list.now) c.requires

pub returns : goal.returns
returns c =
    let one = c.in_ok-one.ensures in
    let other = c.in_ok-other.ensures in
    let kinds = (requirement_range other.requirement).kinds in
    record {
      one = one.requirement;
      other = other.requirement;
      one_is = one.is;
      other_is = other.is;
      empty = inr (subst (λ range. common_kinds range.kinds kinds ≡ no_kinds) one.range_is
          (c.kind_of_one-kind.ensures kinds other.fails));
    }
