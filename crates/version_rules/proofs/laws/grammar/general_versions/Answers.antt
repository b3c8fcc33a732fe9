use Rattle.version_rules.proofs.lemmas.Version.{version_ascii, version_complete, version_of-Some, version_of-spells, version_printed, version_sound, version_unique, version_whole}
use Rattle.version_rules.proofs.laws.grammar.general_versions.Goals as goal

pub returns : goal.returns
returns c = record {
  whole = λ text v. (version_whole text v, version_complete text v);
  sound = version_sound;
  only = version_unique;
  printed = version_printed;
  ascii = version_ascii;
  answer = λ text v. (version_of-spells text v, version_of-Some text v);
}
