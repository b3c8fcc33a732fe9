use Rattle.std.proofs.Common.{arith}
use Rattle.version_order.proofs.class.rank.Answers.ByteRank.{rank_at}
use Rattle.version_order.proofs.class.rank.Goals as goal
mod ByteRank

pub returns : goal.returns
returns c = rw c.from.ensures (rank_at c.args.byte (omega (arith, c.ranges.byte)))
