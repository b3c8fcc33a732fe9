-- Keys of SemVer's versions write their order, and none is empty.
use Rattle.std.proofs.Common.{◌≡◌, ◌++◌, ℕ, List, [], Option, None, Some, refl}
use Rattle.std.specs.{Ordering.ordering_then, Prelude.IfSome, Prelude.codes, Prelude.is_some}
use Rattle.version_order.proofs.lemmas.{Codes.writes_on, Codes.writes_then, Codes.compares_by_keys, Codes.some_key, NumberBytes.number_writes, NumberBytes.some_bytes}
use Rattle.version_rules.proofs.lemmas.Key.{release_writes}
use Rattle.version_rules.specs.{grammar.Chunk.PlainChunk, grammar.SemVer.PlainSemVer, order.Kinds.semver_cmp, order.Parts.release_cmp}
use Rattle.version_order.specs.{Keyed.by_key, Rules.ComparesByKeys, Viable.IsViable, keys.Codes.Writes, keys.Codes.number_bytes, keys.Lists.bytes_cmp, keys.Lists.none_last_cmp}
use Rattle.scheme_semver.specs.{Order.pre_release_bytes, Order.semver_bytes, Rules.semver_facts, Rules.semver_rules, Texts.semver_of}

pre_release_writes : Writes (none_last_cmp release_cmp) pre_release_bytes
pre_release_writes = record { compares = go }
  where
    go : (a b : Option (List PlainChunk)) (x y : List ℕ)
        → bytes_cmp (pre_release_bytes a ++ x) (pre_release_bytes b ++ y)
        ≡ ordering_then (none_last_cmp release_cmp a b) (bytes_cmp x y)
    go None None x y = refl
    go None (Some t) x y = refl
    go (Some s) None x y = refl
    go (Some s) (Some t) x y = release_writes.compares s t x y

pub semver_writes : Writes semver_cmp semver_bytes
semver_writes =
    writes_then (writes_on (λ (v : PlainSemVer). v.major) number_writes)
    (writes_then (writes_on (λ (v : PlainSemVer). v.minor) number_writes)
    (writes_then (writes_on (λ (v : PlainSemVer). v.patch) number_writes)
    (writes_on (λ (v : PlainSemVer). v.pre_rel) pre_release_writes)))

-- no key is empty
pub semver_some : (v : PlainSemVer) → ¬ (semver_bytes v ≡ [])
semver_some v = some_bytes v.major (number_bytes v.minor ++ (number_bytes v.patch ++ pre_release_bytes v.pre_rel))

-- texts compare as their keys do
pub semver_compares : ComparesByKeys semver_rules
semver_compares = compares_by_keys semver_facts semver_of (λ v. by_key (semver_bytes v)) semver_writes

pub semver_some_key : (text : List ℕ) → IfSome (semver_rules.read_as text) (λ version. ¬ (version.key ≡ []))
semver_some_key text = some_key (λ v. by_key (semver_bytes v)) (semver_of text) semver_some

-- nothing is a beginning of a version
pub semver_nothing : IsViable (λ begun. is_some (semver_rules.read_as begun)) []
semver_nothing = record { rest = codes "1.0.0"; passes = refl }
