use Rattle.version_texts.proofs.lemmas.Viable.{some_metadata}
use Rattle.version_texts.proofs.viable.left_of_metadata.Goals as goal

pub returns-in-Some : goal.returns-in-Some
returns-in-Some c =
    some_metadata c.args.text.now c.in-Some.behind.now _ _ c.in-Some.ensures c.split_run.ensures.run
    c.split_run.ensures.rest
