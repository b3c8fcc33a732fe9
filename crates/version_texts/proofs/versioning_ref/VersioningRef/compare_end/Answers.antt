use Rattle.version_texts.proofs.lemmas.versioning_ref.VersioningRef.{shape_fits}
use Rattle.version_texts.proofs.versioning_ref.VersioningRef.compare_end.Goals as goal

pub compare_end-requires : goal.compare_end-requires
compare_end-requires c = shape_fits _ _ c.args.self.now.read
