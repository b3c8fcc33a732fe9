use Rattle.std.proofs.Common.{◌∙◌, sym}
use Rattle.version_texts.proofs.lemmas.versioning_ref.VersioningRef.{kind-is, spelled, tied_plain}
use Rattle.version_texts.specs.VersioningRef.{plain_versioning_ref}
use Rattle.version_texts.proofs.versioning_ref.VersioningRef.compare_tied.Goals as goal

pub returns : goal.returns
returns c =
    let self = c.args.self.now in
    let other = c.args.other.now in
    c.compare_key_ties.ensures.versions (plain_versioning_ref self) (plain_versioning_ref other)
    (spelled _ _ self.read).0 (spelled _ _ other.read).0 (sym (kind-is _ _ self.read))
    (sym (kind-is _ _ other.read)) c.requires
    ∙ tied_plain (plain_versioning_ref self) (plain_versioning_ref other) c.requires
