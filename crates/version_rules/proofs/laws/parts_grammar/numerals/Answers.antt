use Rattle.version_rules.proofs.lemmas.Numeral.{unsigned_complete, numeral_printed, unsigned_sound}
use Rattle.version_rules.proofs.laws.parts_grammar.numerals.Goals as goal

pub returns : goal.returns
returns c = record {
  sound =
      unsigned_sound;
  complete = unsigned_complete;
  printed = numeral_printed;
}
