use Rattle.std.proofs.Common.{◌≡◌, ◌++◌, map, length}
use denote.Text.{Utf8}
use denote.Shadow.{shadow}
use Rattle.version_order.specs.texts.Front.{repeated}
use Rattle.version_rules.specs.grammar.Mess.{further_front}
use Rattle.versions.specs.Mess.{plain_further}
use Rattle.versions.proofs.mess.read_all_further.Given as goal

-- the further sections that are parsed, and those that the rest begins with, are all of them
abbrev pub invariant-loop-more : goal.invariant-loop-more
invariant-loop-more l = record {
  text : shadow (Utf8 l.rest);
  read : (
    map plain_further l.more.items ++ (repeated further_front (length l.rest) l.rest).0,
    (repeated further_front (length l.rest) l.rest).1,
  ) ≡ repeated further_front (length l.i) l.i;
}

abbrev pub decreases-loop-more : goal.decreases-loop-more
decreases-loop-more l = length l.rest
