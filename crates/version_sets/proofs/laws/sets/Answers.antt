use Rattle.std.proofs.Common.{rules}
use Rattle.version_order.specs.keys.Codes.{Writes}
use Rattle.version_sets.proofs.lemmas.{Ends.are_merged, Ends.same, Members.by_order}
use Rattle.version_sets.proofs.laws.sets.Goals as goal

pub returns : goal.returns
returns g c =
    let writes : Writes g.V.SchemeVersion.order (λ version. (g.V.SchemeVersion.plain version).key) = search rules in
    record {
      canonical = same;
      merges = are_merged;
      by_order = by_order g.V.SchemeVersion.order g.V.SchemeVersion.plain writes;
    }
