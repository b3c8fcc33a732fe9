use Rattle.std.proofs.Common.{◌≤◌, arith, length, ◌≡◌, ◌∙◌, ◌+◌, ◌<◌, ℕ, List, [], ◌∷◌, ◌++◌, drop, get_or, take, Some, add-one, ap, drop-cons, refl, sym}
use Rattle.std.proofs.lemmas.{Cmp.tied_itself, List.take_more_same, List.map-append, List.take-append-drop, List.take_all}
use Rattle.version_texts.proofs.order.list.pass_common.Goals.{then-bytes-test+else-place-y, else-bytes-test}
use Rattle.std.specs.declared.cmp.Ordering.TheVariants.{Equal}
use Rattle.version_order.specs.texts.Bytes.{dot}
use Rattle.version_rules.specs.{key.PartKey.PartKey, key.PartKey.list_cmp, laws.Part.list_total, laws.Part.part_total}
use Rattle.version_texts.proofs.lemmas.scan.Spelled.{split-append}
use Rattle.version_texts.specs.Key.{parts_of}
use Rattle.version_texts.proofs.order.list.pass_common.Goals as goal

-- Lists of parts that begin alike compare as what follows.

-- a common front of two lists does not count
fronts_passed : (ks xs ys : List PartKey) → list_cmp (ks ++ xs) (ks ++ ys) ≡ list_cmp xs ys
fronts_passed [] xs ys = refl
fronts_passed (k ∷ ks) xs ys = rw (tied_itself part_total (Some k)) (fronts_passed ks xs ys)

parts_passed : (u x y : List ℕ)
    → list_cmp (parts_of (u ++ (dot ∷ x))) (parts_of (u ++ (dot ∷ y)))
    ≡ list_cmp (parts_of x) (parts_of y)
parts_passed u x y = grind (arith, split-append, map-append, fronts_passed)

-- a text is what stands before a place, the byte there, and what follows it
seam : (x : List ℕ) (n : ℕ) → n < length x → x ≡ take n x ++ (get_or x n 0 ∷ drop (n + 1) x)
seam x n h = grind (arith, add-one, drop-cons, take-append-drop)

-- two texts that are the same up to a dot compare as what follows it
dot_passed : (x y : List ℕ) (n : ℕ) → n < length x → n < length y → take n x ≡ take n y
    → get_or x n 0 ≡ get_or y n 0 → get_or x n 0 ≡ dot
    → list_cmp (parts_of (drop (n + 1) x)) (parts_of (drop (n + 1) y))
    ≡ list_cmp (parts_of x) (parts_of y)
dot_passed x y n in_x in_y same byte at_dot =
    let first : x ≡ take n x ++ (dot ∷ drop (n + 1) x) =
    seam x n in_x ∙ ap (λ (b : ℕ). take n x ++ (b ∷ drop (n + 1) x)) at_dot in
    let start : take n y ++ (dot ∷ drop (n + 1) y) ≡ take n x ++ (dot ∷ drop (n + 1) y) =
    rw same refl in
    let second : y ≡ take n x ++ (dot ∷ drop (n + 1) y) =
    seam y n in_y ∙ ap (λ (b : ℕ). take n y ++ (b ∷ drop (n + 1) y)) (sym byte ∙ at_dot) ∙ start in
    sym ((λ i. list_cmp (parts_of (first i)) (parts_of (second i)))
    ∙ parts_passed (take n x) (drop (n + 1) x) (drop (n + 1) y))

-- two texts that are the same up to their ends hold the same parts
same_text : (x y : List ℕ) (n : ℕ) → length x ≤ n → length y ≤ n → take n x ≡ take n y
    → list_cmp (parts_of x) (parts_of y) ≡ Equal
same_text x y n all_x all_y same =
    let texts : x ≡ y = sym (take_all n x all_x) ∙ same ∙ take_all n y all_y in
    ap (λ (z : List ℕ). list_cmp (parts_of x) (parts_of z)) (sym texts)
    ∙ tied_itself list_total (parts_of x)

pub bytes-preserved-then-byte-eq46 : goal.bytes-preserved-then-byte-eq46
bytes-preserved-then-byte-eq46 c = grind (arith, take_more_same, dot_passed)

pub returns-then-x-y-clause-none : goal.returns-then-x-y-clause-none
returns-then-x-y-clause-none c = grind (arith, then-bytes-test+else-place-y, else-bytes-test, same_text)
