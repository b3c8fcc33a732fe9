use Rattle.version_tasks.specs.Tag.{text_after_prefix}
use Rattle.version_tasks.proofs.lemmas.Tag.{prints_text}
use Rattle.version_tasks.proofs.tag.version_after_prefix.Goals as goal

pub returns-clause-text : goal.returns-clause-text
returns-clause-text c =
    prints_text (text_after_prefix c.args.prefix.now c.args.tag.now) c.in_ok-text_after_prefix.field-0.now c.from_bytes.result
    c.in_ok-text_after_prefix.ensures c.from_bytes.ensures
