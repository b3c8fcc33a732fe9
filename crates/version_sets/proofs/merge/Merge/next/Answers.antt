use Rattle.std.proofs.Common.{◌∙◌, arith, sym}
use Rattle.version_sets.proofs.lemmas.Ends.{kept_as_before, kept_differ}
use Rattle.version_sets.proofs.merge.Merge.next.Goals as goal

pub returns-then-has-before-clause-some : goal.returns-then-has-before-clause-some
returns-then-has-before-clause-some c =
    sym c.ends.invariant.same ∙ c.in_ok-end.ensures.some
    ∙ kept_differ _ _ _ _ (rw (c.has.ensures, c.has-before.ensures) at c.if-has-before.true)

pub ends-preserved : goal.ends-preserved
ends-preserved c = record {
  same =
      sym (sym c.ends.invariant.same ∙ c.in_ok-end.ensures.some ∙ kept_as_before _ _ _ _
      (rw (c.has.ensures, c.has-before.ensures) at c.if-has-before.false));
  nearer = omega (arith, c.ends.invariant.nearer, c.in_ok-end.ensures.nearer);
}
