use Rattle.std.proofs.Common.{◌∙◌, ◌++◌}
use Rattle.version_answers.specs.One.{head_text}
use Rattle.version_commands.proofs.words.each.ask.Goals as goal

pub returns-clause-head : goal.returns-clause-head
returns-clause-head c = rw c.in-Why.is (
  _,
  c.has_any.result,
  c.in_ok-set.ensures.ok,
  c.has_any.ensures,
  c.in_ok-add_head.ensures
      ∙ (λ i. c.new-head.ensures.items i ++ head_text c.args.end (c.as_bytes.ensures.value i) c.has_any.result),
)
