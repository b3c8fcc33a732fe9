use Rattle.std.proofs.Common.{◌≡◌, drop}
use Rattle.scheme_pypi.specs.Texts.{after_word, left_of_word}
use Rattle.scheme_pypi.proofs.read.split_word.Given as goal

-- the letters that are left decide
abbrev pub invariant-loop-letter : goal.invariant-loop-letter
invariant-loop-letter l = (after_word (drop l.letter-index l.fn.word) l.left ≡ after_word l.fn.word l.fn.text)
    × (left_of_word (drop l.letter-index l.fn.word) l.left ≡ left_of_word l.fn.word l.fn.text)
