use Rattle.version_texts.proofs.lemmas.versioning_ref.VersioningRef.{shape_fits}
use Rattle.version_texts.proofs.versioning_ref.VersioningRef.put_key.Goals as goal

pub put_key-requires-clause-shape : goal.put_key-requires-clause-shape
put_key-requires-clause-shape g c = shape_fits _ _ c.args.self.now.read
