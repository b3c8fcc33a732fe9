-- How many bytes a key takes: at most five for each byte of its text, as a hyphen does.
use Rattle.std.proofs.Common.{◌≡◌, ◌==◌, ◌+◌, ◌*◌, ◌≤◌, ◌++◌, ◌∷◌, [], ℕ, zero, suc, Bool, true, false, List, IfSome, None, Some, ap, arith, codes, drop, if◌then◌else◌, inl, inr, length, refl, replicate}
use Rattle.std.proofs.lemmas.{Bool.cases_Bool, Bool.eqb-true, List.length-append, List.length-drop, List.length-replicate}
use Rattle.std.specs.{Char.is_ascii_alphabetic, Char.is_ascii_digit, List.list_all, List.prefix_len, List.take_while}
use Rattle.version_order.proofs.lemmas.{Costs.KeysCost, Costs.number_costs, Costs.parted, Costs.some_taken, Front.list_all-take_while}
use Rattle.version_order.specs.{keys.Codes.number_bytes, keys.Codes.text_bytes, texts.Front.behind_digits, texts.Front.run_value, texts.Front.starts_with_digit}
use Rattle.scheme_gem.proofs.lemmas.Segments.{letters_text, digits_shorter, hyphen_first, number_first, other_first, word_first}
use Rattle.scheme_gem.proofs.lemmas.Walks.{version_digit}
use Rattle.scheme_gem.specs.Segments.{Integer, Segment, Word, entries_after, entries_in, segments_of, without_last}
use Rattle.scheme_gem.specs.{Order.Letters, Order.gem_bytes, Texts.gem_of, Texts.is_blank, Texts.is_gem, Texts.trimmed}

-- ---- a segment after so many zeros, and those behind it, which take at most so many bytes beside these zeros

abbrev size : Bool → ℕ → List Segment → ℕ
size lettered count segments = length (gem_bytes (entries_after lettered count segments))

abbrev TakesMost : Bool → List Segment → ℕ → Type 0
TakesMost lettered segments most = (count : ℕ) → size lettered count segments ≤ count + most

number_size : (lettered : Bool) (n : ℕ) (segments : List Segment) (most : ℕ) → TakesMost lettered segments most
    → TakesMost lettered (Integer n ∷ segments) (1 + length (number_bytes n) + most)
number_size lettered zero segments most rest count = omega (arith, rest (suc count))
number_size lettered (suc n) segments most rest count =
    let code = replicate count 4 ++ 5 ∷ number_bytes (suc n) in
    omega (
      arith,
      length-append code (gem_bytes (entries_after lettered 0 segments)),
      length-append (replicate count 4) (5 ∷ number_bytes (suc n)),
      length-replicate {A = ℕ} count 4,
      rest 0,
    )

letters_size : (text : List ℕ) (segments : List Segment) (most : ℕ) → TakesMost true segments most → (count : ℕ)
    → length (gem_bytes (Letters count text ∷ entries_after true 0 segments))
    ≤ count + (1 + length (text_bytes text) + most)
letters_size text segments most rest count =
    let code = replicate count 2 ++ 1 ∷ text_bytes text in
    omega (
      arith,
      length-append code (gem_bytes (entries_after true 0 segments)),
      length-append (replicate count 2) (1 ∷ text_bytes text),
      length-replicate {A = ℕ} count 2,
      rest 0,
    )

word_size : (lettered : Bool) (text : List ℕ) (segments : List Segment) (most : ℕ) → TakesMost true segments most
    → TakesMost lettered (Word text ∷ segments) (1 + length (text_bytes text) + most)
word_size true text segments most rest count = letters_size text segments most rest count
word_size false text segments most rest count = omega (arith, letters_size text segments most rest 0)

-- ---- texts

-- five bytes for each byte, and the end
abbrev CostsFive : List ℕ → Type 0
CostsFive text = (lettered : Bool) → TakesMost lettered (segments_of text) (5 * length text + 1)

-- where a number comes first, that is enough for the end too
number_first_size : (text : List ℕ) → starts_with_digit text ≡ true → CostsFive (behind_digits text) → (lettered : Bool)
    → TakesMost lettered (segments_of text) (5 * length text)
number_first_size text digit rest lettered count =
    let behind = behind_digits text in
    omega (
      arith,
      ap (size lettered count) (number_first text digit),
      number_size lettered (run_value text) (segments_of behind) (5 * length behind + 1) (rest lettered) count,
      rw digit at (number_costs text),
      digits_shorter text digit,
    )

text_size : (n : ℕ) (text : List ℕ) → length text ≤ n → CostsFive text
text_size n [] short lettered count = omega arith
text_size zero (b ∷ text) short lettered count = absurd (omega (arith, short))
text_size (suc n) (b ∷ text) short lettered count = elim (cases_Bool (is_ascii_digit b)) [
  | inl digit ↦
      let shorter = digits_shorter (b ∷ text) digit in
      let rest = text_size n (behind_digits (b ∷ text)) (omega (arith, shorter)) in
      omega (arith, number_first_size (b ∷ text) digit rest lettered count)
  | inr no_digit ↦ elim (cases_Bool (is_ascii_alphabetic b)) [
    | inl letter ↦
        let letters = take_while is_ascii_alphabetic (b ∷ text) in
        let behind = drop (prefix_len is_ascii_alphabetic (b ∷ text)) (b ∷ text) in
        let some = some_taken is_ascii_alphabetic (b ∷ text) letter in
        let parts = parted (prefix_len is_ascii_alphabetic (b ∷ text)) (b ∷ text) in
        let shorter : length behind ≤ n = omega (arith, some, parts) in
        omega (
          arith,
          ap (size lettered count) (word_first (b ∷ text) letter),
          word_size lettered letters (segments_of behind) (5 * length behind + 1) (text_size n behind shorter true) count,
          ap length (letters_text letters (list_all-take_while is_ascii_alphabetic (b ∷ text))),
          length-append letters (0 ∷ []),
          some,
          parts,
        )
    | inr no_letter ↦ elim (cases_Bool (b == 45)) [
      | inl hyphen ↦
          let same : segments_of (b ∷ text) ≡ Word (codes "pre") ∷ segments_of text =
          rw (eqb-true b 45 hyphen) (hyphen_first text) in
          omega (
            arith,
            ap (size lettered count) same,
            word_size lettered (codes "pre") (segments_of text) (5 * length text + 1)
                (text_size n text (omega (arith, short)) true) count,
          )
      | inr no_hyphen ↦
          let same = other_first b text no_digit (rw (no_hyphen, no_letter) refl) in
          omega (arith, ap (size lettered count) same, text_size n text (omega (arith, short)) lettered count)
    ]
  ]
]

-- ---- versions

without_length : {A : Type 0} (test : A → Bool) (xs : List A) → length (without_last test xs) ≤ length xs
without_length test [] = omega arith
without_length test (x ∷ xs) = elim (cases_Bool (list_all test (x ∷ xs))) [
  | inl all ↦ rw all (omega arith)
  | inr some ↦ rw some (omega (arith, without_length test xs))
]

pub gem_cost : KeysCost gem_of gem_bytes 5 0
gem_cost text = by (is_gem text) refl
  where
    by : (is : Bool) → is_gem text ≡ is
        → IfSome (if is then Some (entries_in false (trimmed text)) else None) (λ v. length (gem_bytes v) ≤ length text * 5 + 0)
    by false e = tt
    by true e =
        let behind = behind_digits (trimmed text) in
        omega (
          arith,
          number_first_size (trimmed text) (version_digit (trimmed text) e) (text_size (length behind) behind (omega arith))
              false 0,
          without_length is_blank (drop (prefix_len is_blank text) text),
          length-drop (prefix_len is_blank text) text,
        )
