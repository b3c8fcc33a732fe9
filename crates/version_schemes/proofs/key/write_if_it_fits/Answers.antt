use Rattle.std.proofs.Common.{◌∙◌, ◌+◌, [], ℕ, List, ap, append-nil, length}
use Rattle.version_order.specs.keys.Sinks.{saturated}
use Rattle.version_schemes.proofs.key.write_if_it_fits.Goals as goal

pub returns-else-end-room-clause-end : goal.returns-else-end-room-clause-end
returns-else-end-room-clause-end g c =
    let key = (g.V.SchemeVersion.plain c.args.version.now).key in
    c.length-end.ensures ∙ c.put_key.ensures []
    ∙ ap (λ (l : List ℕ). saturated (c.args.start + length l)) (append-nil key)
