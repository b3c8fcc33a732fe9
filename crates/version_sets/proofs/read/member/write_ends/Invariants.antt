use Rattle.std.proofs.Common.{◌≡◌, ◌+◌, ◌*◌, length}
use Rattle.std.specs.List.{concat, flat_map}
use Rattle.version_sets.specs.{Comparison.bytes_of, Form.number, Form.places}
use Rattle.version_order.specs.keys.Sinks.{put_at}
use Rattle.version_sets.proofs.read.member.write_ends.Given as goal

-- with the ends that are left all are written
abbrev pub invariant-loop-end : goal.invariant-loop-end
invariant-loop-end g l = record {
  numbers : put_at l.numbers l.place
      (flat_map number (places l.over (bytes_of (g.V.SchemeVersion.plain l.version) l.left)))
      ≡ flat_map number (places 0 (bytes_of (g.V.SchemeVersion.plain l.version) l.fn.ends));
  bytes : put_at l.bytes l.over (concat (bytes_of (g.V.SchemeVersion.plain l.version) l.left))
      ≡ put_at l.fn.bytes 0 (concat (bytes_of (g.V.SchemeVersion.plain l.version) l.fn.ends));
  over : l.over + length (concat (bytes_of (g.V.SchemeVersion.plain l.version) l.left))
      ≡ length (concat (bytes_of (g.V.SchemeVersion.plain l.version) l.fn.ends));
  place : l.place + 8 * length l.left ≡ length l.numbers;
}

abbrev pub decreases-loop-end : goal.decreases-loop-end
decreases-loop-end g l = length l.left
