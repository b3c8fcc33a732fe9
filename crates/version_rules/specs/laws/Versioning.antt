-- The laws of the plain order of versions of any kind, which the impls of `Eq` and `Hash` cite.
use Rattle.std.specs.{Cmp.IsTotalOrder, Cmp.on_total, Cmp.then_total, Cmp.nat_cmp_total, Cmp.Lexicographic.lists_total, Cmp.Lexicographic.nat_list_cmp_total, Cmp.Lexicographic.options_total}
use Rattle.std.specs.{FinMap.IsAntisymmetric, FinMap.slice_cmp-IsAntisymmetric, FinMap.nat_cmp-IsAntisymmetric, Option.option_cmp, Ordering.nat_cmp, Ordering.on, Ordering.then_cmp, declared.cmp.Ordering.TheVariants.Equal}
use Rattle.version_rules.specs.grammar.Mess.{Further, PlainMess, further_plain_cmp, mess_plain_cmp, section_plain_cmp}
use Rattle.version_rules.specs.grammar.Versioning.{PlainVersioning, Ideal, General, Complex, kind_rank, versioning_plain_cmp}
use Rattle.version_rules.specs.laws.Last.{mchunk_total, mchunks_same, sep_total, seps_same, last_total, lasts_same}
use Rattle.version_rules.specs.{grammar.SemVer.PlainSemVer, grammar.Version.PlainVersion, laws.Part.release_total, laws.Part.releases_same, order.Kinds.version_plain_cmp, order.Kinds.SameButMetadata, order.Kinds.semver_cmp}
use Rattle.version_order.specs.keys.Codes.{then_first, then_second, bytes_same, options_same, none_last_same, none_last_total, then_equal}
use Rattle.std.proofs.Common.{◌≡◌, Option, Some, None, refl, subst}

-- ---- the laws of the plain order of messy versions, which the impls of `Eq` and `Hash` cite

section_total : IsTotalOrder section_plain_cmp
section_total = lists_total mchunk_total

further_total : IsTotalOrder further_plain_cmp
further_total =
    then_total (on_total (λ (f : Further). f.0) sep_total)
    (on_total (λ (f : Further). f.1) section_total)

pub mess_total : IsTotalOrder mess_plain_cmp
mess_total = then_total (on_total (λ (m : PlainMess). m.first) section_total)
    (on_total (λ (m : PlainMess). m.more) (lists_total further_total))

sections_same : IsAntisymmetric section_plain_cmp
sections_same = slice_cmp-IsAntisymmetric mchunks_same

further_same : IsAntisymmetric further_plain_cmp
further_same a b e =
    let signs = seps_same a.0 b.0 (then_first _ _ e) in
    let sections = sections_same a.1 b.1 (then_second _ _ e) in
    λ i. (signs i, sections i)

pub messes_same : IsAntisymmetric mess_plain_cmp
messes_same a b e =
    let first = sections_same a.first b.first (then_first _ _ e) in
    let more = slice_cmp-IsAntisymmetric further_same a.more b.more (then_second _ _ e) in
    λ i. record { first = first i; more = more i }

-- ---- the laws of the plain order of general versions, which the impls of `Eq` and `Hash` cite

pub version_plain_total : IsTotalOrder version_plain_cmp
version_plain_total =
    then_total (on_total (λ (v : PlainVersion). v.epoch) (options_total nat_cmp_total))
    (then_total (on_total (λ (v : PlainVersion). v.chunks) release_total)
    (then_total (on_total (λ (v : PlainVersion). v.last) last_total)
    (then_total (on_total (λ (v : PlainVersion). v.release) (options_total release_total))
    (on_total (λ (v : PlainVersion). v.meta) (options_total nat_list_cmp_total)))))

pub versions_same : IsAntisymmetric version_plain_cmp
versions_same a b tied =
    let chunks = then_second _ _ tied in
    let last = then_second _ _ chunks in
    let release = then_second _ _ last in
    let epochs = options_same nat_cmp-IsAntisymmetric a.epoch b.epoch (then_first _ _ tied) in
    let bodies = releases_same a.chunks b.chunks (then_first _ _ chunks) in
    let lasts = lasts_same a.last b.last (then_first _ _ last) in
    let releases = options_same releases_same a.release b.release (then_first _ _ release) in
    let metas = options_same bytes_same a.meta b.meta (then_second _ _ release) in
    λ i. record {
      epoch =
          epochs i;
      chunks = bodies i;
      last = lasts i;
      release = releases i;
      meta = metas i;
    }

-- ---- the laws of the order of strict versions, which the impls of `Ord`, `Eq` and `Hash` cite

pub semver_total : IsTotalOrder semver_cmp
semver_total =
    then_total (on_total (λ (v : PlainSemVer). v.major) nat_cmp_total)
    (then_total (on_total (λ (v : PlainSemVer). v.minor) nat_cmp_total)
    (then_total (on_total (λ (v : PlainSemVer). v.patch) nat_cmp_total)
    (on_total (λ (v : PlainSemVer). v.pre_rel) (none_last_total release_total))))

-- versions that tie in the order are the same except for their metadata
pub tied_same : (a b : PlainSemVer) → semver_cmp a b ≡ Equal → SameButMetadata a b
tied_same a b tied =
    let minor = then_second _ _ tied in
    let patch = then_second _ _ minor in
    record {
      major = nat_cmp-IsAntisymmetric a.major b.major (then_first _ _ tied);
      minor = nat_cmp-IsAntisymmetric a.minor b.minor (then_first _ _ minor);
      patch = nat_cmp-IsAntisymmetric a.patch b.patch (then_first _ _ patch);
      pre_rel = none_last_same releases_same a.pre_rel b.pre_rel (then_second _ _ patch);
    }

-- the version of a kind, if it is of that kind
ideal_part : PlainVersioning → Option PlainSemVer
ideal_part (Ideal v) = Some v
ideal_part (General v) = None
ideal_part (Complex m) = None

general_part : PlainVersioning → Option PlainVersion
general_part (Ideal v) = None
general_part (General v) = Some v
general_part (Complex m) = None

complex_part : PlainVersioning → Option PlainMess
complex_part (Ideal v) = None
complex_part (General v) = None
complex_part (Complex m) = Some m

in_turn : (a b : PlainVersioning)
    → then_cmp (on kind_rank nat_cmp)
    (then_cmp (on ideal_part (option_cmp semver_cmp))
    (then_cmp (on general_part (option_cmp version_plain_cmp))
    (on complex_part (option_cmp mess_plain_cmp)))) a b
    ≡ versioning_plain_cmp a b
unfolding ideal_part general_part complex_part
in_turn (Ideal a) (Ideal b) = then_equal (semver_cmp a b)
in_turn (General a) (General b) = then_equal (version_plain_cmp a b)
in_turn (Complex a) (Complex b) = refl
in_turn (Ideal a) (General b) = refl
in_turn (Ideal a) (Complex b) = refl
in_turn (General a) (Ideal b) = refl
in_turn (General a) (Complex b) = refl
in_turn (Complex a) (Ideal b) = refl
in_turn (Complex a) (General b) = refl

pub versioning_plain_total : IsTotalOrder versioning_plain_cmp
versioning_plain_total = subst IsTotalOrder (λ i a b. in_turn a b i)
    (then_total (on_total kind_rank nat_cmp_total)
    (then_total (on_total ideal_part (options_total semver_total))
    (then_total (on_total general_part (options_total version_plain_total))
    (on_total complex_part (options_total mess_total)))))
