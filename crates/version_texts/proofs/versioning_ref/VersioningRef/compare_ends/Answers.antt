use Rattle.version_texts.proofs.lemmas.versioning_ref.VersioningRef.{shape_fits}
use Rattle.version_texts.proofs.versioning_ref.VersioningRef.compare_ends.Goals as goal

pub compare_ends-requires-clause-a_fits : goal.compare_ends-requires-clause-a_fits
compare_ends-requires-clause-a_fits c = shape_fits _ _ c.args.self.now.read

pub compare_ends-requires-clause-b_fits : goal.compare_ends-requires-clause-b_fits
compare_ends-requires-clause-b_fits c = shape_fits _ _ c.args.other.now.read
