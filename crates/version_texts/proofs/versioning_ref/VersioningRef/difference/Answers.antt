use Rattle.version_texts.proofs.lemmas.versioning_ref.VersioningRef.{shape_fits}
use Rattle.version_texts.proofs.versioning_ref.VersioningRef.difference.Goals as goal

pub key_difference-requires-clause-a_fits : goal.key_difference-requires-clause-a_fits
key_difference-requires-clause-a_fits c = shape_fits _ _ c.args.self.now.read

pub key_difference-requires-clause-b_fits : goal.key_difference-requires-clause-b_fits
key_difference-requires-clause-b_fits c = shape_fits _ _ c.args.other.now.read
