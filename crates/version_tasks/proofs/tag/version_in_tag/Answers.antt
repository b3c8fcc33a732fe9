use Rattle.version_tasks.specs.Tag.{text_in_tag}
use Rattle.version_tasks.proofs.lemmas.Tag.{prints_text}
use Rattle.version_tasks.proofs.tag.version_in_tag.Goals as goal

pub returns-clause-text : goal.returns-clause-text
returns-clause-text c =
    prints_text (text_in_tag c.args.tag.now) c.in_ok-text_in_tag.field-0.now c.from_bytes.result
    c.in_ok-text_in_tag.ensures c.from_bytes.ensures
