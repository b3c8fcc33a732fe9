-- Keys of RPM's versions write their order.
use Rattle.std.proofs.Common.{◌≡◌, ◌++◌, ℕ, List, [], Option, None, Some, ap, refl, IfSome, ◌∷◌}
use Rattle.std.specs.{FinMap.IsAntisymmetric, FinMap.nat_cmp-IsAntisymmetric, FinMap.slice_cmp-IsAntisymmetric, Option.option_cmp, Option.is_some, Ordering.ordering_then}
use Rattle.version_order.proofs.lemmas.Codes.{writes_list, writes_on, writes_then, compares_by_keys, some_key}
use Rattle.version_order.proofs.lemmas.NumberBytes.{number_writes, some_bytes, text_writes}
use Rattle.version_order.specs.{Keyed.by_key, Rules.ComparesByKeys, Viable.IsViable, keys.Codes.Writes, keys.Codes.list_bytes, keys.Lists.bytes_cmp}
use Rattle.scheme_rpm.specs.Order.{Caret, Item, Letters, Number, PlainRpm, Tilde, item_bytes, item_cmp, items_cmp, release_bytes, rpm_bytes, rpm_cmp}
use Rattle.scheme_rpm.specs.{Rpm.rpm_facts, Rpm.rpm_rules, Texts.rpm_of}

item_writes : Writes item_cmp item_bytes
item_writes = record { compares = go }
  where
    go : (a b : Option Item) (x y : List ℕ)
        → bytes_cmp (item_bytes a ++ x) (item_bytes b ++ y) ≡ ordering_then (item_cmp a b) (bytes_cmp x y)
    go (Some (Letters s)) (Some (Letters t)) x y = text_writes.compares s t x y
    go (Some (Number m)) (Some (Number n)) x y = number_writes.compares m n x y
    go (Some (Letters s)) (Some Tilde) x y = refl
    go (Some (Letters s)) (Some Caret) x y = refl
    go (Some (Letters s)) (Some (Number n)) x y = refl
    go (Some (Letters s)) None x y = refl
    go (Some (Number m)) (Some Tilde) x y = refl
    go (Some (Number m)) (Some Caret) x y = refl
    go (Some (Number m)) (Some (Letters t)) x y = refl
    go (Some (Number m)) None x y = refl
    go (Some Tilde) (Some Tilde) x y = refl
    go (Some Tilde) (Some Caret) x y = refl
    go (Some Tilde) (Some (Letters t)) x y = refl
    go (Some Tilde) (Some (Number n)) x y = refl
    go (Some Tilde) None x y = refl
    go (Some Caret) (Some Tilde) x y = refl
    go (Some Caret) (Some Caret) x y = refl
    go (Some Caret) (Some (Letters t)) x y = refl
    go (Some Caret) (Some (Number n)) x y = refl
    go (Some Caret) None x y = refl
    go None (Some Tilde) x y = refl
    go None (Some Caret) x y = refl
    go None (Some (Letters t)) x y = refl
    go None (Some (Number n)) x y = refl
    go None None x y = refl

item_same : IsAntisymmetric item_cmp
item_same (Some (Letters s)) (Some (Letters t)) e =
    ap (λ (text : List ℕ). Some (Letters text)) (slice_cmp-IsAntisymmetric nat_cmp-IsAntisymmetric s t e)
item_same (Some (Number m)) (Some (Number n)) e = ap (λ (n : ℕ). Some (Number n)) (nat_cmp-IsAntisymmetric m n e)
item_same (Some Tilde) (Some Tilde) e = refl
item_same (Some Caret) (Some Caret) e = refl
item_same None None e = refl
item_same (Some (Letters s)) (Some Tilde) e = cc e
item_same (Some (Letters s)) (Some Caret) e = cc e
item_same (Some (Letters s)) (Some (Number n)) e = cc e
item_same (Some (Letters s)) None e = cc e
item_same (Some (Number m)) (Some Tilde) e = cc e
item_same (Some (Number m)) (Some Caret) e = cc e
item_same (Some (Number m)) (Some (Letters t)) e = cc e
item_same (Some (Number m)) None e = cc e
item_same (Some Tilde) (Some Caret) e = cc e
item_same (Some Tilde) (Some (Letters t)) e = cc e
item_same (Some Tilde) (Some (Number n)) e = cc e
item_same (Some Tilde) None e = cc e
item_same (Some Caret) (Some Tilde) e = cc e
item_same (Some Caret) (Some (Letters t)) e = cc e
item_same (Some Caret) (Some (Number n)) e = cc e
item_same (Some Caret) None e = cc e
item_same None (Some Tilde) e = cc e
item_same None (Some Caret) e = cc e
item_same None (Some (Letters t)) e = cc e
item_same None (Some (Number n)) e = cc e

items_writes : Writes items_cmp (list_bytes item_bytes)
items_writes = writes_list item_same item_writes

release_writes : Writes (option_cmp items_cmp) release_bytes
release_writes = record { compares = go }
  where
    go : (a b : Option (List Item)) (x y : List ℕ)
        → bytes_cmp (release_bytes a ++ x) (release_bytes b ++ y)
        ≡ ordering_then (option_cmp items_cmp a b) (bytes_cmp x y)
    go None None x y = refl
    go None (Some t) x y = refl
    go (Some s) None x y = refl
    go (Some s) (Some t) x y = items_writes.compares s t x y

pub rpm_writes : Writes rpm_cmp rpm_bytes
rpm_writes =
    writes_then (writes_on (λ (v : PlainRpm). v.epoch) number_writes)
    (writes_then (writes_on (λ (v : PlainRpm). v.version) items_writes)
    (writes_on (λ (v : PlainRpm). v.release) release_writes))

-- no key is empty
pub rpm_some : (v : PlainRpm) → ¬ (rpm_bytes v ≡ [])
rpm_some v = some_bytes v.epoch (list_bytes item_bytes v.version ++ release_bytes v.release)

-- texts compare as their keys do
pub rpm_compares : ComparesByKeys rpm_rules
rpm_compares = compares_by_keys rpm_facts rpm_of (λ v. by_key (rpm_bytes v)) rpm_writes

pub rpm_some_key : (text : List ℕ) → IfSome (rpm_rules.read_as text) (λ v. ¬ (v.key ≡ []))
rpm_some_key text = some_key (λ v. by_key (rpm_bytes v)) (rpm_of text) rpm_some

-- some text is a version
pub rpm_nothing : IsViable (λ begun. is_some (rpm_rules.read_as begun)) []
rpm_nothing = record { rest = 48 ∷ []; passes = refl }
