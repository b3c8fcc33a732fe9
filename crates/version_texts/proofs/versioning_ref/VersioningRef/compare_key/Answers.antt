use Rattle.version_texts.proofs.lemmas.versioning_ref.VersioningRef.{shape_fits}
use Rattle.version_texts.proofs.versioning_ref.VersioningRef.compare_key.Goals as goal

pub compare_key-requires : goal.compare_key-requires
compare_key-requires c = shape_fits _ _ c.args.self.now.read
