use Rattle.std.proofs.Common.{◌≡◌, length}
use denote.Text.{Utf8}
use denote.Shadow.{shadow}
use Rattle.version_order.specs.texts.Front.{repeated}
use Rattle.version_rules.specs.grammar.Mess.{further_front}
use Rattle.versions.proofs.mess.skip_all_further.Given as goal

-- what follows the further sections of the rest follows all of them
abbrev pub invariant-loop-after : goal.invariant-loop-after
invariant-loop-after l = record {
  text : shadow (Utf8 l.rest);
  left : (repeated further_front (length l.rest) l.rest).1
      ≡ (repeated further_front (length l.i) l.i).1;
}

abbrev pub decreases-loop-after : goal.decreases-loop-after
decreases-loop-after l = length l.rest
