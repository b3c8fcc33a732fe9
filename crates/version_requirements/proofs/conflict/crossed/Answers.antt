use Rattle.std.proofs.Common.{◌∙◌, ap, inl, inr, refl, subst, sym}
use Rattle.std.specs.Option.{option_map}
use Rattle.version_order.specs.keys.Lists.{bytes_cmp}
use Rattle.version_rules.specs.requirement.{Range.requirement_range, Requirements.requirements_of}
use Rattle.version_requirements.proofs.lemmas.Empty.{crossed_alone, crossed_ends, crossing, ends_crossed, ends_no_later, not_each_begins, not_each_ends}
use Rattle.version_requirements.specs.Range.{IsCrossed, bound_bytes, plain_range_ref}
use Rattle.version_requirements.proofs.conflict.crossed.Goals as goal

pub failing-requires : goal.failing-requires
failing-requires c =
    not_each_ends (bound_bytes c.in_ok-high.high) (requirements_of c.args.list.now)
    (plain_range_ref c.args.range.now) c.requires.range
    (ap (option_map bound_bytes) c.in_ok-high.was)

pub returns-then-is_crossed-clause-members : goal.returns-then-is_crossed-clause-members
returns-then-is_crossed-clause-members c =
    let found = c.in_ok-other.ensures in
    let range = requirement_range found.requirement in
    let alone = subst IsCrossed found.range_is (c.is_crossed.ensures.0 c.if-is_crossed.true) in
    record {
      one = found.requirement;
      other = found.requirement;
      one_is = found.is;
      other_is = found.is;
      empty = inl (crossing range range (crossed_alone range alone));
    }

pub failing-requires-2 : goal.failing-requires-2
failing-requires-2 c =
    not_each_begins (bound_bytes c.or_lowest-low.result) c.args.list.now
    (plain_range_ref c.args.range.now) c.requires.range (sym c.or_lowest-low.ensures)

pub returns-clause-members : goal.returns-clause-members
returns-clause-members c =
    let one = c.in_ok-one.ensures in
    let other = c.in_ok-other.ensures in
    let low = bound_bytes c.or_lowest-low.result in
    let high = bound_bytes c.in_ok-high.high in
    let crossed = crossed_ends (plain_range_ref c.args.range.now) low high
    (sym c.or_lowest-low.ensures) (ap (option_map bound_bytes) c.in_ok-high.was)
    c.requires.crossed in
    let first = requirement_range one.requirement in
    let second = requirement_range other.requirement in
    record {
      one = one.requirement;
      other = other.requirement;
      one_is = one.is;
      other_is = other.is;
      empty = inl (crossing first second
          (ends_crossed low high first second crossed one.fails other.fails));
    }

pub returns-then-is_crossed-clause-ends : goal.returns-then-is_crossed-clause-ends
returns-then-is_crossed-clause-ends c = inl refl

pub returns-clause-ends : goal.returns-clause-ends
returns-clause-ends c =
    let one = c.in_ok-one.ensures in
    let other = c.in_ok-other.ensures in
    let range = plain_range_ref c.args.range.now in
    inr (record {
      one = one.requirement;
      other = other.requirement;
      one_is = one.is;
      other_is = other.is;
      low = λ less. one.fails (ap (bytes_cmp (requirement_range one.requirement).low)
          c.or_lowest-low.ensures ∙ less);
      high = ends_no_later (requirement_range other.requirement).high range.high
          (bound_bytes c.in_ok-high.high) (ap (option_map bound_bytes) c.in_ok-high.was)
          other.fails;
    })
