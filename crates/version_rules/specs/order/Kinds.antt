-- How the versions of a kind compare: by precedence, and then field by field.
use Rattle.std.specs.{Option.option_cmp, Ordering.nat_cmp, Ordering.on, Ordering.then_cmp, Prelude.◌≡◌, declared.cmp.Ordering.Ordering}
use Rattle.version_order.specs.keys.Lists.{none_last_cmp, bytes_cmp}
use Rattle.version_rules.specs.{grammar.SemVer.PlainSemVer, grammar.Version.PlainVersion, order.Parts.release_cmp, order.Parts.last_plain_cmp}

-- ---- the order of strict versions (SemVer 2.0, section 11)

-- two strict versions: major, minor and patch by value, then the pre-releases, no pre-release last;
-- metadata does not count
abbrev pub semver_cmp : PlainSemVer → PlainSemVer → Ordering
semver_cmp =
    then_cmp (on (λ (v : PlainSemVer). v.major) nat_cmp)
    (then_cmp (on (λ (v : PlainSemVer). v.minor) nat_cmp)
    (then_cmp (on (λ (v : PlainSemVer). v.patch) nat_cmp)
    (on (λ (v : PlainSemVer). v.pre_rel) (none_last_cmp release_cmp))))

-- two strict versions are the same in every field except metadata
pub record SameButMetadata (a b : PlainSemVer) : Type 0 where
  pub major : a.major ≡ b.major
  pub minor : a.minor ≡ b.minor
  pub patch : a.patch ≡ b.patch
  pub pre_rel : a.pre_rel ≡ b.pre_rel

-- ---- the plain order of general versions: fields in the order of their declaration, None before Some

-- two general versions: epoch, chunks, last part, release and metadata in turn
abbrev pub version_plain_cmp : PlainVersion → PlainVersion → Ordering
version_plain_cmp =
    then_cmp (on (λ (v : PlainVersion). v.epoch) (option_cmp nat_cmp))
    (then_cmp (on (λ (v : PlainVersion). v.chunks) release_cmp)
    (then_cmp (on (λ (v : PlainVersion). v.last) last_plain_cmp)
    (then_cmp (on (λ (v : PlainVersion). v.release) (option_cmp release_cmp))
    (on (λ (v : PlainVersion). v.meta) (option_cmp bytes_cmp)))))
