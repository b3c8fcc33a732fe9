use Rattle.std.proofs.Common.{◌∙◌, ap}
use Rattle.version_rules.specs.grammar.Versioning.{versioning_of}
use Rattle.version_texts.proofs.lemmas.versioning_ref.VersioningRef.{printed-is, spelled}
use Rattle.version_schemes.proofs.any.AnyVersion.mixed.Goals as goal

pub returns-in-Mixed : goal.returns-in-Mixed
returns-in-Mixed c =
    let version = c.in-Mixed.version in
    rw c.in-Mixed.is
    (ap versioning_of (printed-is version.text.now version.shape version.read)
    ∙ (spelled version.text.now version.shape version.read).0)
