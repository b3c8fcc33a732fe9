use Rattle.version_usage.proofs.lemmas.Words.{fault_quotes}
use Rattle.version_usage.proofs.wrong.wrong_place.Goals as goal

pub returns : goal.returns
returns c = fault_quotes c.args.word.now c.text_of_listed.result c.fault_of.result c.text_of_listed.ensures c.fault_of.ensures
