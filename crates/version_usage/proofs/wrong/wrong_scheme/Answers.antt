use Rattle.version_usage.proofs.lemmas.Words.{fault_quotes}
use Rattle.version_usage.proofs.wrong.wrong_scheme.Goals as goal

pub returns : goal.returns
returns c = fault_quotes c.args.word.now c.text_of_scheme.result c.fault_of.result c.text_of_scheme.ensures c.fault_of.ensures
