-- Keys of RubyGems' versions write their order, and none is empty.
use Rattle.std.proofs.Common.{◌≡◌, ◌∙◌, ◌++◌, ◌∷◌, ℕ, zero, suc, List, [], Option, None, Some, ap, arith, refl, replicate, sym}
use Rattle.std.specs.{Cmp.nat_cmp_is, FinMap.IsAntisymmetric, FinMap.nat_cmp-IsAntisymmetric, FinMap.slice_cmp-IsAntisymmetric, Ordering.nat_cmp, Ordering.ordering_then, Prelude.IfSome, Prelude.codes, Prelude.is_some}
use Rattle.std.specs.declared.cmp.Ordering.TheVariants.{Less, Greater}
use Rattle.std.proofs.lemmas.Bool.Decides.{nat_tests}
use Rattle.version_order.proofs.lemmas.{Codes.writes_list, Codes.compares_by_keys, Codes.some_key, NumberBytes.number_writes, NumberBytes.text_writes}
use Rattle.version_order.specs.keys.Codes.{Writes, then_first, then_second, number_bytes, text_bytes}
use Rattle.version_order.specs.{Keyed.by_key, Rules.ComparesByKeys, Viable.IsViable, keys.Lists.bytes_cmp}
use Rattle.scheme_gem.specs.Order.{Entry, Letters, Number, entry_bytes, entry_cmp, gem_bytes, gem_cmp}
use Rattle.scheme_gem.specs.{Rules.gem_facts, Rules.gem_rules, Texts.gem_of}

none_below : (n : ℕ) → Less ≡ nat_cmp 0 (suc n)
none_below n = nat_cmp_is 0 (suc n) Less (omega arith)

some_above : (n : ℕ) → Greater ≡ nat_cmp (suc n) 0
some_above n = nat_cmp_is (suc n) 0 Greater (omega arith)

one_less : (m n : ℕ) → nat_cmp m n ≡ nat_cmp (suc m) (suc n)
one_less m n = grind (arith, nat_tests)

letters_both : (y z : ℕ) (s t x w : List ℕ)
    → bytes_cmp ((replicate y 2 ++ 1 ∷ text_bytes s) ++ x) ((replicate z 2 ++ 1 ∷ text_bytes t) ++ w)
    ≡ ordering_then (ordering_then (nat_cmp y z) (bytes_cmp s t)) (bytes_cmp x w)
letters_both zero zero s t x w = text_writes.compares s t x w
letters_both zero (suc z) s t x w =
    ap (λ o. ordering_then (ordering_then o (bytes_cmp s t)) (bytes_cmp x w)) (none_below z)
letters_both (suc y) zero s t x w =
    ap (λ o. ordering_then (ordering_then o (bytes_cmp s t)) (bytes_cmp x w)) (some_above y)
letters_both (suc y) (suc z) s t x w =
    letters_both y z s t x w ∙ ap (λ o. ordering_then (ordering_then o (bytes_cmp s t)) (bytes_cmp x w)) (one_less y z)

numbers_both : (y z m n : ℕ) (x w : List ℕ)
    → bytes_cmp ((replicate y 4 ++ 5 ∷ number_bytes m) ++ x) ((replicate z 4 ++ 5 ∷ number_bytes n) ++ w)
    ≡ ordering_then (ordering_then (nat_cmp z y) (nat_cmp m n)) (bytes_cmp x w)
numbers_both zero zero m n x w = number_writes.compares m n x w
numbers_both zero (suc z) m n x w =
    ap (λ o. ordering_then (ordering_then o (nat_cmp m n)) (bytes_cmp x w)) (some_above z)
numbers_both (suc y) zero m n x w =
    ap (λ o. ordering_then (ordering_then o (nat_cmp m n)) (bytes_cmp x w)) (none_below y)
numbers_both (suc y) (suc z) m n x w =
    numbers_both y z m n x w ∙ ap (λ o. ordering_then (ordering_then o (nat_cmp m n)) (bytes_cmp x w)) (one_less z y)

entry_writes : Writes entry_cmp entry_bytes
entry_writes = record { compares = go }
  where
    go : (a b : Option Entry) (x y : List ℕ)
        → bytes_cmp (entry_bytes a ++ x) (entry_bytes b ++ y) ≡ ordering_then (entry_cmp a b) (bytes_cmp x y)
    go (Some (Letters y s)) (Some (Letters z t)) x w = letters_both y z s t x w
    go (Some (Number y m)) (Some (Number z n)) x w = numbers_both y z m n x w
    go (Some (Letters zero s)) (Some (Number zero n)) x w = refl
    go (Some (Letters zero s)) (Some (Number (suc z) n)) x w = refl
    go (Some (Letters (suc y) s)) (Some (Number zero n)) x w = refl
    go (Some (Letters (suc y) s)) (Some (Number (suc z) n)) x w = refl
    go (Some (Number zero m)) (Some (Letters zero t)) x w = refl
    go (Some (Number zero m)) (Some (Letters (suc z) t)) x w = refl
    go (Some (Number (suc y) m)) (Some (Letters zero t)) x w = refl
    go (Some (Number (suc y) m)) (Some (Letters (suc z) t)) x w = refl
    go (Some (Letters zero s)) None x w = refl
    go (Some (Letters (suc y) s)) None x w = refl
    go (Some (Number zero m)) None x w = refl
    go (Some (Number (suc y) m)) None x w = refl
    go None (Some (Letters zero t)) x w = refl
    go None (Some (Letters (suc z) t)) x w = refl
    go None (Some (Number zero n)) x w = refl
    go None (Some (Number (suc z) n)) x w = refl
    go None None x w = refl

entry_same : IsAntisymmetric entry_cmp
entry_same (Some (Letters y s)) (Some (Letters z t)) e =
    let zeros = nat_cmp-IsAntisymmetric y z (then_first _ _ e) in
    let texts = slice_cmp-IsAntisymmetric nat_cmp-IsAntisymmetric s t (then_second _ _ e) in
    λ i. Some (Letters (zeros i) (texts i))
entry_same (Some (Number y m)) (Some (Number z n)) e =
    let zeros = sym (nat_cmp-IsAntisymmetric z y (then_first _ _ e)) in
    let numbers = nat_cmp-IsAntisymmetric m n (then_second _ _ e) in
    λ i. Some (Number (zeros i) (numbers i))
entry_same (Some (Letters y s)) (Some (Number z n)) e = cc e
entry_same (Some (Letters y s)) None e = cc e
entry_same (Some (Number y m)) (Some (Letters z t)) e = cc e
entry_same (Some (Number y m)) None e = cc e
entry_same None (Some (Letters z t)) e = cc e
entry_same None (Some (Number z n)) e = cc e
entry_same None None e = refl

pub gem_writes : Writes gem_cmp gem_bytes
gem_writes = writes_list entry_same entry_writes

-- no key is empty
pub gem_some : (entries : List Entry) → ¬ (gem_bytes entries ≡ [])
gem_some [] e = cc e
gem_some (Letters zero text ∷ entries) e = cc e
gem_some (Letters (suc count) text ∷ entries) e = cc e
gem_some (Number zero n ∷ entries) e = cc e
gem_some (Number (suc count) n ∷ entries) e = cc e

-- texts compare as their keys do
pub gem_compares : ComparesByKeys gem_rules
gem_compares = compares_by_keys gem_facts gem_of (λ v. by_key (gem_bytes v)) gem_writes

pub gem_some_key : (text : List ℕ) → IfSome (gem_rules.read_as text) (λ version. ¬ (version.key ≡ []))
gem_some_key text = some_key (λ v. by_key (gem_bytes v)) (gem_of text) gem_some

-- nothing is a beginning of a version
pub gem_nothing : IsViable (λ begun. is_some (gem_rules.read_as begun)) []
gem_nothing = record { rest = codes "1"; passes = refl }
