use Rattle.version_rules.proofs.lemmas.SemVer.{semver_ascii, semver_complete, semver_of-Some, semver_of-spells, semver_printed, semver_sound, semver_unique, semver_whole}
use Rattle.version_rules.proofs.laws.grammar.strict_versions.Goals as goal

pub returns : goal.returns
returns c = record {
  whole = λ text v. (semver_whole text v, semver_complete text v);
  sound = semver_sound;
  only = semver_unique;
  printed = semver_printed;
  ascii = semver_ascii;
  answer = λ text v. (semver_of-spells text v, semver_of-Some text v);
}
