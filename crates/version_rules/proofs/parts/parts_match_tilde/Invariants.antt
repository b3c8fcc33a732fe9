use Rattle.std.proofs.Common.{◌∷◌, Decides, length}
use Rattle.version_rules.proofs.lemmas.Matching.{tilde_test}
use Rattle.version_rules.specs.requirement.VersionMatch.{PartsMatchTilde}
use Rattle.version_rules.proofs.parts.parts_match_tilde.Given as goal

-- what is left decides
abbrev pub invariant-parts : goal.invariant-parts
invariant-parts g l =
    let p = g.P.Parts in
    Decides
    (tilde_test (p.first l.wanted ∷ p.more l.wanted) (p.first l.parts ∷ p.more l.parts))
    (PartsMatchTilde (p.first l.fn.wanted ∷ p.more l.fn.wanted)
    (p.first l.fn.parts ∷ p.more l.fn.parts))

abbrev pub decreases-parts : goal.decreases-parts
decreases-parts g l = length (g.P.Parts.more l.wanted)
