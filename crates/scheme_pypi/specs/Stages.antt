-- What may follow each piece of a version of Python, as its readers have it.
use Rattle.std.specs.Prelude.{◌≡◌, ◌==◌, true, [], ℕ, Bool, false, List, ◌∷◌, length}
use Rattle.std.specs.{Char.is_ascii_digit, Option.option_map_or}
use Rattle.version_order.specs.texts.{Bytes.hyphen, Bytes.plus, Front.number_front, Front.begins, Front.behind, Front.optional}
use Rattle.scheme_pypi.specs.Texts.{after_word, dev_front, epoch_front, epoch_or_zero, local_front, number_or_zero, post_front, pre_front, release_front, without_blanks, without_separator, without_v}

-- blanks
abbrev pub is_ended : List ℕ → Bool
is_ended text = length (without_blanks text) == 0

-- what may follow a dev release: a local version, or blanks
abbrev pub after_dev : List ℕ → Bool
after_dev text = is_ended (optional local_front text).1

-- what follows the plus of a local version
abbrev pub after_plus : List ℕ → Bool
after_plus text = after_dev (plus ∷ text)

-- what may follow a post-release
abbrev pub after_post : List ℕ → Bool
after_post text = after_dev (optional dev_front text).1

-- what may follow a pre-release
abbrev pub after_pre : List ℕ → Bool
after_pre text = after_post (optional post_front text).1

-- what may follow a release
abbrev pub after_release : List ℕ → Bool
after_release text = after_pre (optional pre_front text).1

-- a release, and what may follow it
abbrev pub is_release : List ℕ → Bool
is_release text = option_map_or (λ read. after_release read.1) (release_front text) false

-- the same behind an epoch, or without one
abbrev pub after_v : List ℕ → Bool
after_v text = is_release (epoch_or_zero text).1

-- the same behind a v, or without one
abbrev pub after_blanks : List ℕ → Bool
after_blanks text = after_v (without_v text)

-- an epoch, and a release
abbrev pub is_epoch : List ℕ → Bool
is_epoch text = option_map_or (λ read. is_release read.1) (epoch_front text) false

-- ---- words and numbers

-- a word, in letters of either case, and what passes a test
abbrev pub word_then : (List ℕ → Bool) → List ℕ → List ℕ → Bool
word_then test word text = option_map_or test (after_word word text) false

-- a number, perhaps none, with a separator before it or none, and what passes a test
abbrev pub number_then : (List ℕ → Bool) → List ℕ → Bool
number_then test text = test (number_or_zero (without_separator text)).1

-- a word, with a separator before it or none, and such a number
abbrev pub worded : (List ℕ → Bool) → List ℕ → List ℕ → Bool
worded test word text = word_then (number_then test) word (without_separator text)

-- a hyphen and a number, and what may follow a post-release
abbrev pub is_implicit : List ℕ → Bool
is_implicit text = option_map_or (λ read. after_post read.1) (behind hyphen number_front text) false

-- what may follow a number: nothing may, and no digit may
pub record Follows (test : List ℕ → Bool) : Type 0 where
  pub nothing : test [] ≡ true
  pub apart : (text : List ℕ) → test text ≡ true → begins is_ascii_digit text ≡ false
