use Rattle.std.proofs.Common.{◌≡◌, ◌∙◌, ◌+◌, ◌++◌, [], ap, arith, length}
use Rattle.version_order.specs.{Keyed.after, keys.Sinks.saturated}
use Rattle.version_sets.specs.{Comparison.ends_with, Form.form_bytes, declared.read.comparison.Comparison.TheVariants.Equal}
use Rattle.version_sets.proofs.lemmas.Form.{form_length}
use Rattle.version_sets.proofs.read.member.tied_length.Goals as goal

pub returns : goal.returns
returns g c order =
    let version = g.V.SchemeVersion.plain c.args.version in
    let ends = ends_with Equal version in
    let size : 25 + length (version.key ++ (after version.key ++ [])) ≡ length (form_bytes order ends) =
    omega (arith, form_length order ends) in
    c.length.ensures ∙ c.put_end-2.ensures [] ∙ c.put_end.ensures (after version.key ++ []) ∙ ap saturated size
