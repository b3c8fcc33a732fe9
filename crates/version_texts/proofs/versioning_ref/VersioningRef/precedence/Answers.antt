use Rattle.version_texts.proofs.lemmas.versioning_ref.VersioningRef.{shape_fits}
use Rattle.version_texts.proofs.versioning_ref.VersioningRef.precedence.Goals as goal

pub compare-requires-clause-a_fits : goal.compare-requires-clause-a_fits
compare-requires-clause-a_fits c = shape_fits _ _ c.args.self.now.read

pub compare-requires-clause-b_fits : goal.compare-requires-clause-b_fits
compare-requires-clause-b_fits c = shape_fits _ _ c.args.other.now.read
