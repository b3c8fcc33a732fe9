use Rattle.version_texts.proofs.lemmas.versioning_ref.VersioningRef.{shape_fits}
use Rattle.version_texts.proofs.versioning_ref.VersioningRef.put_end.Goals as goal

pub put_end-requires-clause-shape : goal.put_end-requires-clause-shape
put_end-requires-clause-shape g c = shape_fits _ _ c.args.self.now.read
