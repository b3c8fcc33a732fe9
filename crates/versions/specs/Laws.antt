-- The laws of the order of strict versions, which the impls of `Ord`, `Eq` and `Hash` cite.
use Rattle.std.proofs.Common.{◌≡◌, true, refl, ◌++◌, ap}
use Rattle.std.specs.{Cmp.Equal-is, Hash.HashWrites, Ordering.eq_by_cmp}
use Rattle.version_rules.specs.grammar.Versioning.{PlainVersioning, Ideal, General, Complex, versioning_plain_cmp}
use Rattle.version_rules.specs.{grammar.Mess.PlainMess, grammar.Mess.mess_plain_cmp, grammar.SemVer.PlainSemVer, grammar.Version.PlainVersion, laws.Versioning.tied_same, laws.Versioning.messes_same, laws.Versioning.versions_same}
use Rattle.version_rules.specs.order.Kinds.{semver_cmp, version_plain_cmp}
use Rattle.versions.specs.{Mess.mess_fed, SemVer.semver_fed, Version.version_fed, Versioning.versioning_fed}
use Rattle.std.specs.Hash as fed

-- equal versions are fed alike
pub fed_alike : (a b : PlainSemVer) → eq_by_cmp semver_cmp a b ≡ true → semver_fed a ≡ semver_fed b
fed_alike a b tied =
    let same = tied_same a b ((Equal-is (semver_cmp a b)).0 tied) in
    rw (same.major, same.minor, same.patch, same.pre_rel) refl

-- ---- the laws of the plain order of versions of any kind, which the impls of `Eq` and `Hash` cite

-- equal versions are fed alike
pub versions_fed_alike : (a b : PlainVersioning) → eq_by_cmp versioning_plain_cmp a b ≡ true
    → versioning_fed a ≡ versioning_fed b
versions_fed_alike (Ideal a) (Ideal b) tied =
    ap (λ (w : HashWrites). fed.u8 0 ++ w) (fed_alike a b tied)
versions_fed_alike (General a) (General b) tied =
    ap (λ (v : PlainVersion). fed.u8 1 ++ version_fed v)
    (versions_same a b ((Equal-is (version_plain_cmp a b)).0 tied))
versions_fed_alike (Complex a) (Complex b) tied =
    ap (λ (m : PlainMess). fed.u8 2 ++ mess_fed m)
    (messes_same a b ((Equal-is (mess_plain_cmp a b)).0 tied))
versions_fed_alike (Ideal a) (General b) tied = cc tied
versions_fed_alike (Ideal a) (Complex b) tied = cc tied
versions_fed_alike (General a) (Ideal b) tied = cc tied
versions_fed_alike (General a) (Complex b) tied = cc tied
versions_fed_alike (Complex a) (Ideal b) tied = cc tied
versions_fed_alike (Complex a) (General b) tied = cc tied
