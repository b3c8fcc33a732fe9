use Rattle.std.proofs.Common.{◌≡◌, length}
use Rattle.version_tasks.specs.Tag.{text_in_tag}
use Rattle.version_tasks.proofs.tag.text_in_tag.Given as goal

-- what is left decides
abbrev pub invariant-words : goal.invariant-words
invariant-words l = text_in_tag l.left ≡ text_in_tag l.tag

abbrev pub decreases-words : goal.decreases-words
decreases-words l = length l.left
