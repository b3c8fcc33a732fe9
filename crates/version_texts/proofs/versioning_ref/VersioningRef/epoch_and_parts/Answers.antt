use Rattle.std.proofs.Common.{arith}
use Rattle.std.proofs.lemmas.List.{length-take-le}
use Rattle.version_texts.proofs.lemmas.versioning_ref.{Field.body_within, VersioningRef.shape_fits}
use Rattle.version_texts.proofs.versioning_ref.VersioningRef.epoch_and_parts.Goals as goal

pub split_at-requires : goal.split_at-requires
split_at-requires c =
    let fits = (shape_fits _ _ c.args.self.now.read).epoch_fits in
    omega (arith, fits, length-take-le _ _ (body_within _ _ c.args.self.now.read))
