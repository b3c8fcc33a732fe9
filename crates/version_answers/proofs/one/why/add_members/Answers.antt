use Rattle.std.proofs.Common.{refl}
use Rattle.version_answers.proofs.lemmas.One.{all_left}
use Rattle.version_schemes.specs.{Scheme.rules, any.AnyVersion.plain_any}
use Rattle.version_answers.proofs.one.why.add_members.Goals as goal

pub loop-found-init : goal.loop-found-init
loop-found-init c = λ all is.
    let scheme = (plain_any c.args.version.now).scheme in (
      all,
      all_left scheme c.args.set.now c.of-alternatives.result.left
          (c.of-alternatives.ensures.all (rules scheme).read_as (rules scheme).facts.operators) all is,
      refl,
    )
