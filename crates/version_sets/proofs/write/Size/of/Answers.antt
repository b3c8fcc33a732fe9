use Rattle.std.proofs.Common.{ap, arith, length}
use Rattle.std.specs.List.{concat}
use Rattle.version_sets.proofs.lemmas.Form.{form_length}
use Rattle.version_sets.specs.Set.{left}
use Rattle.version_sets.proofs.write.Size.of.Goals as goal

pub returns-clause-whole : goal.returns-clause-whole
returns-clause-whole c order =
    let none = c.in_default.ensures.none in
    omega (
      arith,
      c.loop-end.invariant.whole,
      c.loop-end.invariant.fits,
      ap length none,
      ap (λ ends. length (concat ends)) none,
      form_length order (left c.args.merge),
    )
