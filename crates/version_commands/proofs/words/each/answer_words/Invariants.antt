-- The words so far are answered, if they are versions, and are apart, if they are none.
use Rattle.std.proofs.Common.{◌≡◌, map, take}
use Rattle.version_commands.specs.Each.{HasSet, HaveAnswered, others_among, versions_among}
use Rattle.version_commands.proofs.words.each.answer_words.Given as goal

abbrev pub invariant-loop-word : goal.invariant-loop-word
invariant-loop-word g l =
    let words = map (λ word. word.now) (take l.word-index l.words) in
    HasSet l.answers.question l.answers.set
    × HaveAnswered l.initial.answers l.answers (versions_among l.question l.options.naming words)
    × (map (λ word. word.now) l.others.items ≡ others_among l.question l.options.naming words)
