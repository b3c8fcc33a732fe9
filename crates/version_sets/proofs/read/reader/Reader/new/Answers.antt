use Rattle.std.proofs.Common.{[], refl}
use Rattle.version_sets.proofs.read.reader.Reader.new.Goals as goal

pub returns-clause-holds : goal.returns-clause-holds
returns-clause-holds c room = record {
  sets = [];
  are = record { bytes = refl; size = refl; begin = c.new.ensures.depth; rise = tt };
  have = λ key. refl;
  members = [];
  members_are = record { bytes = refl; size = refl; begin = c.new-2.ensures.depth; rise = tt };
  members_have = λ key. refl;
}
