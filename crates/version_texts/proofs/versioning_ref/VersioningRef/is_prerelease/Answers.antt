use Rattle.std.proofs.Common.{◌∙◌, ap, sym}
use Rattle.version_texts.proofs.lemmas.versioning_ref.VersioningRef.{is_prerelease_tail, other_tail, prerelease-is}
use Rattle.version_texts.proofs.versioning_ref.VersioningRef.is_prerelease.Goals as goal

pub returns-in-PreRelease : goal.returns-in-PreRelease
returns-in-PreRelease c =
    sym (prerelease-is _ _ c.args.self.now.read ∙ ap is_prerelease_tail c.in-PreRelease.is)

pub returns-in_default : goal.returns-in_default
returns-in_default c =
    sym (prerelease-is _ _ c.args.self.now.read
    ∙ other_tail c.args.self.now.shape.tail c.in_default.not-PreRelease)
