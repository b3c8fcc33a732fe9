use Rattle.std.proofs.Common.{ap, sym}
use Rattle.std.proofs.lemmas.Bool.{ne_eqb}
use Rattle.std.specs.Option.{option_map}
use Rattle.version_order.specs.keys.Sinks.{saturated}
use Rattle.version_texts.proofs.lemmas.versioning_ref.{Field.field_spans, VersioningRef.shape_fits}
use Rattle.version_texts.proofs.versioning_ref.VersioningRef.epoch.Goals as goal

pub returns-then-self-eq0 : goal.returns-then-self-eq0
returns-then-self-eq0 c =
    sym (ap (option_map saturated)
    (rw c.if-self-eq0.true at (field_spans _ _ c.args.self.now.read).value))

pub epoch_at-requires : goal.epoch_at-requires
epoch_at-requires c = shape_fits _ _ c.args.self.now.read

pub returns : goal.returns
returns c =
    let value = rw (ne_eqb _ 0 c.if-self-eq0.false) at
    (field_spans _ _ c.args.self.now.read).value in
    rw (c.saturated_value.ensures, c.epoch_at.ensures) (sym (ap (option_map saturated) value))
