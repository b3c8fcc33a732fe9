use Rattle.std.proofs.Common.{◌≡◌, ◌==◌, ◌||◌, ◌<◌, ◌≤◌, ℕ, Bool, true, false, List, [], ◌∷◌, Option, length, get_or, subst, refl, sym, arith}
use Rattle.memchr.specs.Find.{is_byte, is_byte2, is_byte3, IsFirstByte}
use Rattle.version_lines.specs.Column.{is_among}
use Rattle.version_lines.proofs.lemmas.Column.{or-false}
use Rattle.version_lines.proofs.column.find_among.Goals as goal

or-or : (a b c : Bool) → a || b || c ≡ a || (b || (c || false))
or-or true b c = refl
or-or false true c = refl
or-or false false c = sym (or-false c)

-- tests that agree find the same byte
same-tests : (p q : ℕ → Bool) → ((b : ℕ) → p b ≡ q b) → (text : List ℕ) (place : Option ℕ)
    → IsFirstByte p text place → IsFirstByte q text place
same-tests p q same text place found =
    let tests : p ≡ q = λ i b. same b i in subst (λ (t : ℕ → Bool). IsFirstByte t text place) tests found

of-one : (bytes text : List ℕ) (place : Option ℕ) → 1 ≤ length bytes → length bytes < 2
    → IsFirstByte (is_byte (get_or bytes 0 0)) text place → IsFirstByte (is_among bytes) text place
of-one [] text place some few found = absurd (omega arith)
of-one (a ∷ []) text place some few found = same-tests _ _ (λ byte. sym (or-false (byte == a))) text place found
of-one (a ∷ b ∷ bytes) text place some few found = absurd (omega arith)

of-two : (bytes text : List ℕ) (place : Option ℕ) → 2 ≤ length bytes → length bytes < 3
    → IsFirstByte (is_byte2 (get_or bytes 0 0) (get_or bytes 1 0)) text place → IsFirstByte (is_among bytes) text place
of-two [] text place some few found = absurd (omega arith)
of-two (a ∷ []) text place some few found = absurd (omega arith)
of-two (a ∷ b ∷ []) text place some few found =
    same-tests _ _ (λ byte. or-or false (byte == a) (byte == b)) text place found
of-two (a ∷ b ∷ c ∷ bytes) text place some few found = absurd (omega arith)

of-three : (bytes text : List ℕ) (place : Option ℕ) → 3 ≤ length bytes → length bytes < 4
    → IsFirstByte (is_byte3 (get_or bytes 0 0) (get_or bytes 1 0) (get_or bytes 2 0)) text place
    → IsFirstByte (is_among bytes) text place
of-three [] text place some few found = absurd (omega arith)
of-three (a ∷ []) text place some few found = absurd (omega arith)
of-three (a ∷ b ∷ []) text place some few found = absurd (omega arith)
of-three (a ∷ b ∷ c ∷ []) text place some few found =
    same-tests _ _ (λ byte. or-or (byte == a) (byte == b) (byte == c)) text place found
of-three (a ∷ b ∷ c ∷ d ∷ bytes) text place some few found = absurd (omega arith)

pub returns-in-len1 : goal.returns-in-len1
returns-in-len1 c =
    of-one c.args.bytes.now c.args.text.now c.memchr.result c.in-len1.len_at_least c.in-len1.len_below c.memchr.ensures

pub returns-in-len2 : goal.returns-in-len2
returns-in-len2 c =
    of-two c.args.bytes.now c.args.text.now c.memchr2.result c.in-len2.len_at_least c.in-len2.len_below c.memchr2.ensures

pub returns-in-len3 : goal.returns-in-len3
returns-in-len3 c =
    of-three c.args.bytes.now c.args.text.now c.memchr3.result c.in-len3.len_at_least c.in-len3.len_below
    c.memchr3.ensures
