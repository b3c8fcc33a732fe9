use Rattle.std.proofs.Common.{arith, false, refl}
use Rattle.version_order.proofs.lemmas.Bytes.{table_at}
use Rattle.scheme_deb.specs.{Texts.is_of_revision, declared.sets.TheConstants.OF_REVISION}
use Rattle.scheme_deb.proofs.sets.OfRevisionByteSet.has.Goals as goal

pub returns : goal.returns
returns c = rw c.from.ensures (table_at is_of_revision OF_REVISION false refl c.args.byte (omega (arith, c.ranges.byte)))
