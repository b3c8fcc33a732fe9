use Rattle.std.proofs.Common.{inl, inr, refl, rules}
use Rattle.version_rules.specs.requirement.Requirements.{requirements_of}
use Rattle.version_requirements.proofs.lemmas.Empty.{is_by_ends, is_empty, is_not_by_ends, is_parsed}
use Rattle.version_requirements.specs.Range.{plain_range_ref}
use Rattle.version_requirements.proofs.conflict.conflict_in.Goals as goal

pub returns-then-is_crossed : goal.returns-then-is_crossed
returns-then-is_crossed c =
    let list = c.args.list.now in
    record {
      parses = is_parsed (requirements_of list) (plain_range_ref c.in_ok-range.range)
          c.in_ok-range.ensures;
      empty = (
        λ some. is_empty (requirements_of list) (plain_range_ref c.in_ok-range.range)
            c.in_ok-range.ensures (inl (c.is_crossed.ensures.0 c.if-is_crossed.true)),
        λ all. refl,
      );
      members = search rules;
      ends = is_by_ends (requirements_of list) (plain_range_ref c.in_ok-range.range)
          c.in_ok-range.ensures list c.in_ok-crossed.field-0 c.in_ok-crossed.ensures.ends;
    }

pub returns-then-is_no_kind : goal.returns-then-is_no_kind
returns-then-is_no_kind c =
    let list = c.args.list.now in
    record {
      parses = is_parsed (requirements_of list) (plain_range_ref c.in_ok-range.range)
          c.in_ok-range.ensures;
      empty = (
        λ some. is_empty (requirements_of list) (plain_range_ref c.in_ok-range.range)
            c.in_ok-range.ensures (inr (c.is_no_kind.ensures.0 c.if-is_no_kind.true)),
        λ all. refl,
      );
      members = search rules;
      ends = is_not_by_ends (requirements_of list) (plain_range_ref c.in_ok-range.range)
          c.in_ok-range.ensures list c.in_ok-of_other_kinds.field-0
          (λ crossed. cc (c.is_crossed.ensures.1 crossed, c.if-is_crossed.false));
    }
