use Rattle.version_texts.proofs.lemmas.versioning_ref.VersioningRef.{shape_fits}
use Rattle.version_texts.proofs.versioning_ref.VersioningRef.write_key.Goals as goal

pub write_key-requires-clause-shape : goal.write_key-requires-clause-shape
write_key-requires-clause-shape c = shape_fits _ _ c.args.self.now.read
