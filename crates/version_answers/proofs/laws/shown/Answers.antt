use Rattle.version_answers.proofs.lemmas.Explain.{shown_epoch, shown_epoch_decides, shown_part, shown_part_decides, shown_sections, shown_tail}
use Rattle.version_answers.proofs.laws.shown.Goals as goal

pub returns : goal.returns
returns c = record {
  parts = shown_part;
  digits = λ text v s. (shown_epoch text v s).1;
  value = λ text v s. (shown_epoch text v s).0;
  none = shown_tail;
  sections = shown_sections;
  epoch = shown_epoch_decides;
  part = shown_part_decides;
}
