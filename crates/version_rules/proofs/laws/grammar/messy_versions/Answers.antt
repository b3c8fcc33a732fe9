use Rattle.version_rules.proofs.lemmas.Mess.{mess_ascii, mess_complete, mess_kept, mess_of-Some, mess_of-spells, mess_printed, mess_sound, mess_unique, mess_whole}
use Rattle.version_rules.proofs.laws.grammar.messy_versions.Goals as goal

pub returns : goal.returns
returns c = record {
  whole = λ text m. (mess_whole text m, mess_complete text m);
  sound = mess_sound;
  kept = mess_kept;
  only = mess_unique;
  printed = mess_printed;
  ascii = mess_ascii;
  answer = λ text m. (mess_of-spells text m, mess_of-Some text m);
}
