-- How long a key of a version of Python is: at most two bytes for each byte of its text, and seven more.
use Rattle.std.proofs.Common.{[], ◌≡◌, ◌<◌, ◌≤◌, ◌+◌, ◌*◌, ◌++◌, ℕ, Bool, true, List, ◌∷◌, Option, None, Some, IfSome, ap, arith, length, length-append, map, nat_lt, refl}
use Rattle.std.proofs.lemmas.{Bool.cases_Bool, Bool.eqb-false, Grind.common_steps}
use Rattle.std.specs.{Char.is_ascii_alphanumeric, Char.to_ascii_lowercase, Cmp.first_so, Cmp.second_so, List.list_all, Option.option_map, Option.option_or}
use Rattle.version_order.proofs.lemmas.Costs.{Costs, FrontCosts, behind_costs, either_costs, mapped_costs, number_costs, optional_costs, parted, repeated_costs, weaker_costs, whole_within, zero_cost}
use Rattle.version_order.proofs.lemmas.{Front.list_all-take_while, NumberBytes.list_length, NumberBytes.number_length}
use Rattle.version_order.specs.texts.Front.{number_front, Front, map_value, begins, optional, run_front}
use Rattle.version_order.specs.{Facts.key_room, Keyed.AreWithin, keys.Codes.list_bytes, keys.Codes.number_bytes, keys.Codes.text_bytes, texts.Bytes.hyphen, texts.Bytes.plus}
use Rattle.scheme_pypi.proofs.lemmas.Pieces.{text_step}
use Rattle.scheme_pypi.specs.Order.{Alpha, Beta, Candidate, Phase, dev_bytes, local_bytes, locals_bytes, number_or_end_bytes, phase_bytes, pypi_bytes}
use Rattle.scheme_pypi.specs.Texts.{alpha_words, beta_words, candidate_words, post_words, dev_words, pypi_facts, pypi_rules, after_any, after_byte, after_word, dev_front, epoch_or_zero, is_dot, is_separator, joined, local_front, local_of, number_or_zero, numbered, phase_of, piece_front, post_front, pre_front, pypi_front, release_front, without_blanks, without_separator, without_v, without_zeros}

-- ---- words

word_length : (word text : List ℕ) → IfSome (after_word word text) (λ rest. length text ≡ length word + length rest)
word_length [] text = omega arith
word_length (letter ∷ word) [] = tt
word_length (letter ∷ word) (byte ∷ text) = grind (arith, common_steps, word_length word text, cases_Bool)

words_fall : (words : List (List ℕ)) → list_all (begins (λ letter. nat_lt 0 letter)) words ≡ true → (text : List ℕ)
    → IfSome (after_any words text) (λ rest. length rest < length text)
words_fall [] are text = tt
words_fall ([] ∷ words) are text = cc are
words_fall ((letter ∷ word) ∷ words) are text =
    by (after_word (letter ∷ word) text) (word_length (letter ∷ word) text)
    (words_fall words (second_so (nat_lt 0 letter) _ are) text)
  where
    by : (o : Option (List ℕ)) → IfSome o (λ rest. length text ≡ length (letter ∷ word) + length rest)
        → IfSome (after_any words text) (λ rest. length rest < length text)
        → IfSome (option_or o (after_any words text)) (λ rest. length rest < length text)
    by None e others = others
    by (Some rest) e others = omega (arith, e)

separator_within : (text : List ℕ) → length (without_separator text) ≤ length text
separator_within text = grind (arith, common_steps)

-- a number after a word has room for one byte more
numbered_costs : (words : List (List ℕ)) → list_all (begins (λ letter. nat_lt 0 letter)) words ≡ true
    → FrontCosts (λ n. length (number_bytes n) + 1) 0 (numbered words)
numbered_costs words are text =
    by (after_any words (without_separator text)) (words_fall words are (without_separator text))
  where
    by : (o : Option (List ℕ)) → IfSome o (λ rest. length rest < length (without_separator text))
        → IfSome (option_map (λ rest. number_or_zero (without_separator rest)) o)
        (Costs (λ n. length (number_bytes n) + 1) 0 text)
    by None falls = tt
    by (Some rest) falls =
        omega (arith, falls, zero_cost (without_separator rest), separator_within text, separator_within rest)

-- ---- lists

module _ {X : Type 0} (between : ℕ → Bool) (front : Front X) (code : Option X → List ℕ)
    (costs : FrontCosts (λ x. length (code (Some x))) 1 front) where
  after_costs : FrontCosts (λ x. length (code (Some x))) 0 (after_byte between front)
  after_costs = grind (arith, common_steps)

  -- the end of a list is one byte
  joined_costs : length (code None) ≡ 1 → FrontCosts (λ xs. length (list_bytes code xs)) 2 (joined between front)
  unfolding joined
  joined_costs one = grind (arith, common_steps, Costs, repeated_costs, after_costs, length-append, list_length)

-- ---- the pieces of a version

epoch_cost : (text : List ℕ) → Costs (λ n. length (number_bytes n)) 1 text (epoch_or_zero text)
epoch_cost text = grind (arith, common_steps, number_costs text)

-- zeros at the end of a release are not written
zeros_gone : (numbers : List ℕ)
    → length (list_bytes number_or_end_bytes (without_zeros numbers)) ≤ length (list_bytes number_or_end_bytes numbers)
zeros_gone [] = omega arith
zeros_gone (number ∷ numbers) = grind (arith, common_steps, zeros_gone numbers, length-append, cases_Bool)

release_costs : FrontCosts (λ numbers. length (list_bytes number_or_end_bytes (without_zeros numbers))) 2 release_front
release_costs =
    weaker_costs _ 2 release_front _ 2 (λ numbers. omega (arith, zeros_gone numbers))
    (joined_costs is_dot number_front number_or_end_bytes
    (weaker_costs _ 0 number_front _ 1 (λ n. omega arith) number_costs) refl)

abbrev phase_size : Phase → ℕ
phase_size phase = length (phase_bytes phase)

kind_costs : (kind : ℕ → Phase) → ((n : ℕ) → phase_size (kind n) ≤ length (number_bytes n) + 1)
    → (words : List (List ℕ)) → list_all (begins (λ letter. nat_lt 0 letter)) words ≡ true
    → FrontCosts phase_size 0 (λ text. map_value kind (numbered words text))
kind_costs kind fits words are = mapped_costs _ 0 (numbered words) kind phase_size fits (numbered_costs words are)

pre_costs : FrontCosts phase_size 0 pre_front
pre_costs =
    either_costs phase_size 0 _ _ (kind_costs Alpha (λ n. omega arith) alpha_words refl)
    (either_costs phase_size 0 _ _ (kind_costs Beta (λ n. omega arith) beta_words refl)
    (kind_costs Candidate (λ n. omega arith) candidate_words refl))

phase_cost : (text : List ℕ) (post dev : Option ℕ)
    → Costs (λ pre. phase_size (phase_of pre post dev)) 1 text (optional pre_front text)
phase_cost text post dev =
    optional_costs (λ pre. phase_size (phase_of pre post dev)) 1 pre_front (none post dev)
    (weaker_costs phase_size 0 pre_front _ 1 (λ phase. omega arith) pre_costs) text
  where
    none : (post dev : Option ℕ) → phase_size (phase_of None post dev) ≤ 1
    none None None = omega arith
    none None (Some dev) = omega arith
    none (Some post) None = omega arith
    none (Some post) (Some dev) = omega arith

post_cost : (text : List ℕ) → Costs (λ post. length (number_or_end_bytes post)) 1 text (optional post_front text)
post_cost =
    optional_costs (λ post. length (number_or_end_bytes post)) 1 post_front (omega arith)
    (weaker_costs (λ n. length (number_bytes n) + 1) 0 post_front _ 1 (λ n. omega arith)
    (either_costs _ 0 _ _
    (behind_costs _ 1 number_front hyphen 0 (omega arith)
    (weaker_costs _ 0 number_front (λ n. length (number_bytes n) + 1) 1 (λ n. omega arith) number_costs))
    (numbered_costs post_words refl)))

dev_cost : (text : List ℕ) → Costs (λ dev. length (dev_bytes dev)) 1 text (optional dev_front text)
dev_cost =
    optional_costs (λ dev. length (dev_bytes dev)) 1 dev_front (omega arith)
    (weaker_costs (λ n. length (number_bytes n) + 1) 0 dev_front _ 1 (λ n. omega arith)
    (numbered_costs dev_words refl))

-- ---- local versions

text_size : (text : List ℕ) → list_all is_ascii_alphanumeric text ≡ true
    → length (text_bytes (map to_ascii_lowercase text)) ≡ length text + 1
text_size [] all = refl
text_size (byte ∷ text) all =
    omega (arith, ap length (text_step byte text (first_so _ _ all)), text_size text (second_so _ _ all))

piece_size : (piece : List ℕ) → list_all is_ascii_alphanumeric piece ≡ true → 0 < length piece
    → length (local_bytes (Some (local_of piece))) ≤ 2 * length piece + 1
piece_size piece all some = grind (arith, common_steps, cases_Bool, number_length, text_size)

piece_costs : FrontCosts (λ piece. length (local_bytes (Some piece))) 1 piece_front
unfolding run_front
piece_costs = grind (arith, common_steps, cases_Bool, piece_size, list_all-take_while, eqb-false, parted)

local_cost : (text : List ℕ) → Costs (λ local. length (locals_bytes local)) 1 text (optional local_front text)
local_cost =
    optional_costs (λ local. length (locals_bytes local)) 1 local_front (omega arith)
    (weaker_costs (λ pieces. length (list_bytes local_bytes pieces)) 0 local_front _ 1 (λ pieces. omega arith)
    (behind_costs _ 2 (joined is_separator piece_front) plus 0 (omega arith)
    (joined_costs is_separator piece_front local_bytes piece_costs refl)))

-- ---- the whole

blanks_within : (text : List ℕ) → length (without_blanks text) ≤ length text
blanks_within [] = omega arith
blanks_within (byte ∷ text) = grind (arith, common_steps, blanks_within text, cases_Bool)

v_within : (text : List ℕ) → length (without_v text) ≤ length text
v_within text = grind (arith, common_steps)

pypi_costs : FrontCosts (λ v. length (pypi_bytes v)) 7 pypi_front
pypi_costs text = by (release_front start) refl (release_costs start)
  where
    start : List ℕ
    start = (epoch_or_zero (without_v text)).1

    by : (o : Option (List ℕ × List ℕ)) → release_front start ≡ o
        → IfSome o (Costs (λ numbers. length (list_bytes number_or_end_bytes (without_zeros numbers))) 2 start)
        → IfSome (pypi_front text) (Costs (λ v. length (pypi_bytes v)) 7 text)
    by None e cost = rw e tt
    by (Some release) e cost =
        let pre = optional pre_front release.1 in
        let post = optional post_front pre.1 in
        let dev = optional dev_front post.1 in
        let local = optional local_front dev.1 in
        let epoch = number_bytes (epoch_or_zero (without_v text)).0 in
        let numbers = list_bytes number_or_end_bytes (without_zeros release.0) in
        let phase = phase_bytes (phase_of pre.0 post.0 dev.0) in
        let last = locals_bytes local.0 in
        rw e (omega (
          arith,
          v_within text,
          epoch_cost (without_v text),
          cost,
          phase_cost release.1 post.0 dev.0,
          post_cost pre.1,
          dev_cost post.1,
          local_cost dev.1,
          blanks_within local.1,
          length-append epoch (numbers ++ (phase ++ (number_or_end_bytes post.0 ++ (dev_bytes dev.0 ++ last)))),
          length-append numbers (phase ++ (number_or_end_bytes post.0 ++ (dev_bytes dev.0 ++ last))),
          length-append phase (number_or_end_bytes post.0 ++ (dev_bytes dev.0 ++ last)),
          length-append (number_or_end_bytes post.0) (dev_bytes dev.0 ++ last),
          length-append (dev_bytes dev.0) last,
        ))

pub pypi_within : AreWithin pypi_rules.read_as (key_room pypi_facts)
pypi_within = whole_within pypi_front pypi_bytes without_blanks 7 blanks_within pypi_costs
