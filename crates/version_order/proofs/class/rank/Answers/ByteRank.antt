-- The table of ranks.
use Rattle.std.proofs.Common.{◌≡◌, ◌<◌, ◌∙◌, ℕ, List, get_or, map, refl, ap, zero-add}
use Rattle.std.proofs.lemmas.List.FromFn.{get_or-map-range_with_len}
use Rattle.std.specs.List.{range_with_len}
use Rattle.version_order.specs.{declared.class.TheConstants.RANKS, texts.Class.byte_rank}

-- it has the rank of each byte at its place
ranks : RANKS ≡ map byte_rank (range_with_len 0 256)
ranks = refl

pub rank_at : (byte : ℕ) → byte < 256 → get_or RANKS byte 0 ≡ byte_rank byte
rank_at byte fits =
    ap (λ (l : List ℕ). get_or l byte 0) ranks
    ∙ get_or-map-range_with_len byte_rank 0 256 byte byte 0 fits (zero-add byte)
