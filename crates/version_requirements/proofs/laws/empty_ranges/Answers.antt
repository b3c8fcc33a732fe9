use Rattle.version_requirements.proofs.lemmas.Empty.{none_in_empty, none_matched, none_matched_by_two}
use Rattle.version_requirements.proofs.laws.empty_ranges.Goals as goal

pub returns : goal.returns
returns c =
    record {
      within = none_in_empty;
      lists = none_matched;
      two = none_matched_by_two;
    }
