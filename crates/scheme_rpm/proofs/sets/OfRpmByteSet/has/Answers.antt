use Rattle.std.proofs.Common.{arith, false, refl}
use Rattle.version_order.proofs.lemmas.Bytes.{table_at}
use Rattle.scheme_rpm.specs.{Texts.is_of_rpm, declared.sets.TheConstants.OF_RPM}
use Rattle.scheme_rpm.proofs.sets.OfRpmByteSet.has.Goals as goal

pub returns : goal.returns
returns c = rw c.from.ensures (table_at is_of_rpm OF_RPM false refl c.args.byte (omega (arith, c.ranges.byte)))
