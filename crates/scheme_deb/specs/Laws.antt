-- Keys of Debian's versions write their order.
use Rattle.std.proofs.Common.{◌-◌, if◌then◌else◌, ◌≡◌, ◌∙◌, ◌+◌, ◌==◌, ◌++◌, Bool, true, false, ℕ, List, [], Option, None, Some, ap, arith, refl, sym, IfSome, ◌∷◌}
use Rattle.std.proofs.lemmas.{Bool.eqb-true, Bool.Decides.nat_tests}
use Rattle.std.specs.{Char.is_ascii_alphabetic, FinMap.IsAntisymmetric, FinMap.nat_cmp-IsAntisymmetric, Option.is_some, Ordering.on, Ordering.ordering_then, Ordering.then_cmp}
use Rattle.version_order.proofs.lemmas.Codes.{ended_same, writes_list, writes_on, writes_then, compares_by_keys, some_key}
use Rattle.version_order.proofs.lemmas.{NumberBytes.number_writes, NumberBytes.some_bytes, Orders.then_decided}
use Rattle.version_order.specs.{Keyed.by_key, Rules.ComparesByKeys, Viable.IsViable, keys.Codes.Writes, keys.Codes.then_first, keys.Codes.then_second, keys.Lists.bytes_cmp}
use Rattle.scheme_deb.specs.Order.{PlainDeb, More, Pair, Part, byte_cmp, byte_code, deb_bytes, deb_cmp, more_bytes, more_cmp, pair_bytes, pair_cmp, part_bytes, part_cmp, rank}
use Rattle.scheme_deb.specs.{Deb.deb_facts, Deb.deb_rules, Texts.deb_of}

byte_writes : Writes byte_cmp byte_code
byte_writes = record { compares = λ a b x y. refl }

-- the byte of a rank, or the end: no two have one rank
abbrev unranked : ℕ → Option ℕ
unranked n =
    if n == 2 then None
    else (if n == 1 then Some 126 else (if is_ascii_alphabetic n then Some n else Some (n - 128)))

unranked-rank : (byte : Option ℕ) → unranked (rank byte) ≡ byte
unranked-rank None = refl
unranked-rank (Some byte) = by (byte == 126) refl
  where
    letter : (is : Bool) → is_ascii_alphabetic byte ≡ is → (byte == 126) ≡ false
        → unranked (rank (Some byte)) ≡ Some byte
    letter true is other =
        let above : ((byte == 2) ≡ false) × ((byte == 1) ≡ false) = (grind (arith, nat_tests), grind (arith, nat_tests)) in
        let whole : rank (Some byte) ≡ byte = rw (other, is) refl in
        let back : unranked byte ≡ Some byte = rw (above.0, above.1, is) refl in
        ap unranked whole ∙ back
    letter false is other =
        let n = byte + 128 in
        let above : ((n == 2) ≡ false) × ((n == 1) ≡ false) × (is_ascii_alphabetic n ≡ false) =
        (grind (arith, nat_tests), grind (arith, nat_tests), grind (arith, nat_tests)) in
        let whole : rank (Some byte) ≡ n = rw (other, is) refl in
        let back : unranked n ≡ Some (n - 128) = rw (above.0, above.1, above.2) refl in
        let less : n - 128 ≡ byte = omega arith in
        ap unranked whole ∙ back ∙ ap Some less

    by : (tilde : Bool) → (byte == 126) ≡ tilde → unranked (rank (Some byte)) ≡ Some byte
    by true is = rw is (ap Some (sym (eqb-true byte 126 is)))
    by false is = letter (is_ascii_alphabetic byte) refl is

rank_same : (a b : Option ℕ) → rank a ≡ rank b → a ≡ b
rank_same a b e = sym (unranked-rank a) ∙ ap unranked e ∙ unranked-rank b

pub byte_same : IsAntisymmetric byte_cmp
byte_same a b e = rank_same a b (nat_cmp-IsAntisymmetric (rank a) (rank b) e)

pair_writes : Writes pair_cmp pair_bytes
pair_writes =
    writes_then (writes_on (λ (pair : Pair). pair.run) (writes_list byte_same byte_writes))
    (writes_on (λ (pair : Pair). pair.number) number_writes)

pair_same : IsAntisymmetric pair_cmp
pair_same a b e =
    let runs = ended_same byte_same a.run b.run (then_first _ _ e) in
    let numbers = nat_cmp-IsAntisymmetric a.number b.number (then_second _ _ e) in
    λ i. record { run = runs i; number = numbers i }

more_writes : Writes more_cmp more_bytes
more_writes = record { compares = go }
  where
    both : Writes (then_cmp (on (λ more. Some more.first) byte_cmp) (on (λ more. more.rest) pair_cmp))
        (λ (more : More). byte_code (Some more.first) ++ pair_bytes more.rest)
    both = writes_then (writes_on (λ (more : More). Some more.first) byte_writes)
        (writes_on (λ (more : More). more.rest) pair_writes)

    go : (a b : Option More) (x y : List ℕ)
        → bytes_cmp (more_bytes a ++ x) (more_bytes b ++ y) ≡ ordering_then (more_cmp a b) (bytes_cmp x y)
    go None None x y = refl
    go None (Some b) x y = then_decided (byte_cmp None (Some b.first)) _ (bytes_cmp x y)
        (λ e. cc (byte_same None (Some b.first) e))
    go (Some a) None x y = then_decided (byte_cmp (Some a.first) None) _ (bytes_cmp x y)
        (λ e. cc (byte_same (Some a.first) None e))
    go (Some a) (Some b) x y = both.compares a b x y

more_same : IsAntisymmetric more_cmp
more_same None None e = refl
more_same None (Some b) e = cc (byte_same None (Some b.first) e)
more_same (Some a) None e = cc (byte_same (Some a.first) None e)
more_same (Some a) (Some b) e =
    let bytes : Some a.first ≡ Some b.first = byte_same (Some a.first) (Some b.first) (then_first _ _ e) in
    let first : a.first ≡ b.first = cc bytes in
    let rest = pair_same a.rest b.rest (then_second _ _ e) in
    λ i. Some (record { first = first i; rest = rest i })

pub part_writes : Writes part_cmp part_bytes
part_writes =
    writes_then (writes_on (λ (part : Part). part.head) pair_writes)
    (writes_on (λ (part : Part). part.more) (writes_list more_same more_writes))

pub deb_writes : Writes deb_cmp deb_bytes
deb_writes =
    writes_then (writes_on (λ (v : PlainDeb). v.epoch) number_writes)
    (writes_then (writes_on (λ (v : PlainDeb). v.upstream) part_writes)
    (writes_on (λ (v : PlainDeb). v.revision) part_writes))

-- no key is empty
pub deb_some : (v : PlainDeb) → ¬ (deb_bytes v ≡ [])
deb_some v = some_bytes v.epoch (part_bytes v.upstream ++ part_bytes v.revision)

-- texts compare as their keys do
pub deb_compares : ComparesByKeys deb_rules
deb_compares = compares_by_keys deb_facts deb_of (λ v. by_key (deb_bytes v)) deb_writes

pub deb_some_key : (text : List ℕ) → IfSome (deb_rules.read_as text) (λ v. ¬ (v.key ≡ []))
deb_some_key text = some_key (λ v. by_key (deb_bytes v)) (deb_of text) deb_some

-- some text is a version
pub deb_nothing : IsViable (λ begun. is_some (deb_rules.read_as begun)) []
deb_nothing = record { rest = 48 ∷ []; passes = refl }
