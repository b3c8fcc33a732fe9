use Rattle.version_requirements.proofs.lemmas.Newest.{Holds}
use Rattle.version_requirements.proofs.newest.newest_of.Given as goal

-- the newest of the candidates so far
abbrev pub invariant-loop-place : goal.invariant-loop-place
invariant-loop-place g l = Holds (g.C.Candidates.has l.candidates) l.place l.newest
