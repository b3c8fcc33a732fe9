use Rattle.std.proofs.Common.{◌∙◌, List, [], ℕ, ap, arith, not, refl}
use Rattle.version_sets.specs.{Comparison.ends_with, Form.has, Reading.Asked, Reading.Not, Reading.With}
use Rattle.version_sets.proofs.read.excluding.excludes.Goals as goal

-- the ends of a member
abbrev ends_asked : Asked → List (List ℕ)
ends_asked (Not reason) = []
ends_asked (With c version) = ends_with c version

pub leaves_out-requires : goal.leaves_out-requires
leaves_out-requires g c κs =
    let word = c.requires.room in
    ((refl, tt), (omega (arith, c.in-Ok.ensures.small 0 word.0 word.1, word.2), c.in-Ok.ensures.rise))

pub returns-in-Ok-clause-excludes : goal.returns-in-Ok-clause-excludes
returns-in-Ok-clause-excludes g c other version e =
    c.leaves_out.ensures.out
    ∙ ap (λ (a : Asked). not (has (ends_asked a) (g.V.SchemeVersion.plain c.args.version.now).key)) (c.in-Ok.ensures.asked ∙ e)
