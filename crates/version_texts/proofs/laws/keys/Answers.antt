use Rattle.version_texts.proofs.lemmas.versioning_ref.VersioningRef.{versioning_fits, versioning_key}
use Rattle.version_texts.proofs.laws.keys.Goals as goal

pub returns : goal.returns
returns c = record { fits = versioning_fits; key = versioning_key }
