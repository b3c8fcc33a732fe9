use Rattle.std.proofs.Common.{◌≡◌, ℕ, List, length, suc}
use Rattle.std.specs.Option.{option_map_or}
use Rattle.version_order.specs.keys.Lists.{bytes_cmp}
use Rattle.version_texts.proofs.lemmas.EndOrder.{front}
use Rattle.version_texts.specs.Key.{parts_behind}
use Rattle.version_texts.proofs.asked.end_order.compare_fronts.Given as goal

-- the parts so far are equal, and what is left decides
abbrev pub invariant-parts : goal.invariant-parts
invariant-parts l = (behind other : List ℕ)
    → bytes_cmp (front (parts_behind l.a) behind) (front (parts_behind l.b) other)
    ≡ bytes_cmp (front (parts_behind l.x) behind) (front (parts_behind l.y) other)

abbrev pub decreases-parts : goal.decreases-parts
decreases-parts l = option_map_or (λ text. suc (length text.now)) l.a 0
