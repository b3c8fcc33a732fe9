use Rattle.std.proofs.Common.{◌∷◌, Decides, length}
use Rattle.version_rules.proofs.lemmas.Matching.{caret_test}
use Rattle.version_rules.specs.requirement.VersionMatch.{PartsMatchCaret}
use Rattle.version_rules.proofs.parts.parts_match_caret.Given as goal

-- what is left decides
abbrev pub invariant-parts : goal.invariant-parts
invariant-parts g l =
    let p = g.P.Parts in
    Decides
    (caret_test (p.first l.wanted ∷ p.more l.wanted) (p.first l.parts ∷ p.more l.parts))
    (PartsMatchCaret (p.first l.fn.wanted ∷ p.more l.fn.wanted)
    (p.first l.fn.parts ∷ p.more l.fn.parts))

abbrev pub decreases-parts : goal.decreases-parts
decreases-parts g l = length (g.P.Parts.more l.wanted)
