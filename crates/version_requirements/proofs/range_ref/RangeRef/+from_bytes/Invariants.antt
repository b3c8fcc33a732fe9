use Rattle.std.proofs.Common.{length}
use Rattle.version_requirements.proofs.range_ref.RangeRef.+from_bytes.Given as goal

abbrev pub decreases-from_bytes : goal.decreases-from_bytes
decreases-from_bytes l = length l.list.now
