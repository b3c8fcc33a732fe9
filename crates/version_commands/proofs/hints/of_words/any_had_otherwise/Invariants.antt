-- No word before the rest is had otherwise.
use Rattle.std.proofs.Common.{◌≡◌, drop}
use Rattle.std.specs.List.{list_any}
use Rattle.version_commands.specs.{Hints.is_kept_otherwise, lines.Choice.is_of}
use Rattle.version_sets.specs.Form.{has}
use Rattle.version_commands.proofs.hints.of_words.any_had_otherwise.Given as goal

abbrev pub invariant-loop-word : goal.invariant-loop-word
invariant-loop-word l =
    list_any (λ word. is_kept_otherwise (is_of (has l.set)) l.scheme word.now) l.words
    ≡ list_any (λ word. is_kept_otherwise (is_of (has l.set)) l.scheme word.now) (drop l.word-index l.words)
