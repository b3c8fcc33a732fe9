use Rattle.std.proofs.Common.{◌≡◌, ◌∙◌, ◌+◌, ◌-◌, ◌/◌, ap, arith, length, sym}
use Rattle.std.proofs.lemmas.List.{length-drop}
use Rattle.version_sets.proofs.lemmas.Ends.{above_from, decided, lt_less, passed_from}
use Rattle.version_sets.specs.Set.{ends_of}
use Rattle.version_sets.proofs.form.Form.has_key.Goals as goal

pub returns-in_default : goal.returns-in_default
returns-in_default g c rise =
    absurd (omega (
      arith,
      c.loop-low-test.true,
      c.loop-low.invariant.within,
      ap length c.in_default.ensures.none,
      length-drop (c.loop-low.low + (c.loop-low.high - c.loop-low.low) / 2)
          (ends_of c.args.self.now),
    ))

pub loop-low-preserved-then-is_lt : goal.loop-low-preserved-then-is_lt
loop-low-preserved-then-is_lt g c =
    let below = c.compare.ensures in
    record {
      passed = c.loop-low.invariant.passed;
      above = λ rise. above_from (ends_of c.args.self.now) _ _ _ _ rise c.in-Some.ensures.some
          (sym below ∙ lt_less _ (sym c.is_lt.ensures ∙ c.if-is_lt.true));
      order = omega arith;
      within = omega (arith, c.loop-low-test.true, c.loop-low.invariant.within);
    }

pub loop-low-preserved : goal.loop-low-preserved
loop-low-preserved g c =
    record {
      passed = λ rise. passed_from (ends_of c.args.self.now) _ _ _ rise c.in-Some.ensures.some
          (λ less. cc (rw (c.compare.ensures ∙ less) at (sym c.is_lt.ensures ∙ c.if-is_lt.false)));
      above = c.loop-low.invariant.above;
      order = omega (arith, c.loop-low-test.true);
      within = c.loop-low.invariant.within;
    }

pub returns : goal.returns
returns g c rise =
    let same : c.loop-low.high ≡ c.loop-low.low = omega (arith, c.loop-low-test.false, c.loop-low.invariant.order) in
    sym (decided (ends_of c.args.self.now) c.loop-low.low _ (c.loop-low.invariant.passed rise)
    (rw same at c.loop-low.invariant.above rise))
