use Rattle.std.proofs.Common.{◌≡◌, length}
use Rattle.version_tasks.specs.Next.{after_separator}
use Rattle.version_tasks.proofs.tag.after_separator.Given as goal

-- what is left decides
abbrev pub invariant-bytes : goal.invariant-bytes
invariant-bytes l = after_separator l.left ≡ after_separator l.text

abbrev pub decreases-bytes : goal.decreases-bytes
decreases-bytes l = length l.left
