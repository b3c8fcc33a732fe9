use Rattle.version_rules.specs.grammar.Last.{last_of}
use Rattle.version_rules.proofs.lemmas.{Body.body_complete, Body.body_printed, Body.body_sound, Last.last_of-is, Last.last_of-only, Last.last_printed}
use Rattle.version_rules.proofs.laws.parts_grammar.bodies.Goals as goal

pub returns : goal.returns
returns c = record {
  sound = body_sound;
  complete = body_complete;
  printed = body_printed;
  last = λ part last. (λ e. rw (← e) (last_of-is part), last_of-only part last);
  last_printed = λ part. last_printed part (last_of part) (last_of-is part);
}
