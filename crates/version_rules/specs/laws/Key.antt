-- Precedence is total; so are the orders of tails and of sections.
use Rattle.std.proofs.Common.{◌≡◌, List, ◌∷◌, Option, Some, None, refl, subst}
use Rattle.std.specs.Cmp.{IsTotalOrder, nat_cmp_total, on_total, then_total, tied_itself}
use Rattle.std.specs.{Cmp.Lexicographic.lists_total, Cmp.Lexicographic.options_total, Option.option_cmp, Ordering.nat_cmp, Ordering.on, Ordering.then_cmp, Ordering.eq_by_cmp, declared.cmp.Ordering.TheVariants.Equal}
use Rattle.version_rules.specs.grammar.Versioning.{PlainVersioning, Ideal, General, Complex, versioning_plain_cmp}
use Rattle.version_rules.specs.key.Key.{Key, precedence, key_of, key_of_mess, key_of_version, Tail, PreReleased, Bare, Released, Sections, sections_cmp, tail_cmp, tail_rank}
use Rattle.version_rules.specs.laws.Versioning.{mess_total, messes_same, tied_same, version_plain_total, versions_same, versioning_plain_total}
use Rattle.version_rules.specs.{grammar.Chunk.PlainChunk, grammar.Mess.PlainMess, grammar.Mess.mess_plain_cmp, grammar.Version.PlainVersion, key.PartKey.PartKey, laws.Part.list_total, laws.Part.release_total, order.Kinds.version_plain_cmp}
use Rattle.version_rules.specs.order.{Orders.mess_cmp, Orders.version_cmp, Orders.versioning_cmp, Parts.release_cmp}
use Rattle.version_order.specs.keys.Codes.{then_equal, ties_behind, ties_same}

pub sections_total : IsTotalOrder sections_cmp
sections_total = lists_total list_total

-- the pre-release, the release and the sections of a tail, each if the tail has it
pre_release : Tail → Option (List PlainChunk)
pre_release (PreReleased chunks) = Some chunks
pre_release Bare = None
pre_release (Released chunks) = None
pre_release (Sections first more) = None

release : Tail → Option (List PlainChunk)
release (PreReleased chunks) = None
release Bare = None
release (Released chunks) = Some chunks
release (Sections first more) = None

sections : Tail → Option (List (List PartKey))
sections (PreReleased chunks) = None
sections Bare = None
sections (Released chunks) = None
sections (Sections first more) = Some (first ∷ more)

in_turn : (a b : Tail)
    → then_cmp (on tail_rank nat_cmp)
    (then_cmp (on pre_release (option_cmp release_cmp))
    (then_cmp (on release (option_cmp release_cmp)) (on sections (option_cmp sections_cmp)))) a
    b ≡ tail_cmp a b
unfolding pre_release release sections
in_turn (PreReleased a) (PreReleased b) = then_equal (release_cmp a b)
in_turn (Released a) (Released b) = then_equal (release_cmp a b)
in_turn (PreReleased a) Bare = refl
in_turn (PreReleased a) (Released b) = refl
in_turn (PreReleased a) (Sections second further) = refl
in_turn Bare (PreReleased b) = refl
in_turn Bare Bare = refl
in_turn Bare (Released b) = refl
in_turn Bare (Sections second further) = refl
in_turn (Released a) (PreReleased b) = refl
in_turn (Released a) Bare = refl
in_turn (Released a) (Sections second further) = refl
in_turn (Sections first more) (PreReleased b) = refl
in_turn (Sections first more) Bare = refl
in_turn (Sections first more) (Released b) = refl
in_turn (Sections first more) (Sections second further) = refl

pub tail_total : IsTotalOrder tail_cmp
tail_total = subst IsTotalOrder (λ i a b. in_turn a b i)
    (then_total (on_total tail_rank nat_cmp_total)
    (then_total (on_total pre_release (options_total release_total))
    (then_total (on_total release (options_total release_total))
    (on_total sections (options_total sections_total)))))

pub precedence_total : IsTotalOrder precedence
precedence_total =
    then_total (on_total (λ (k : Key). k.epoch) nat_cmp_total)
    (then_total (on_total (λ (k : Key). k.body) list_total)
    (on_total (λ (k : Key). k.tail) tail_total))

-- ---- the laws of the orders of versions, which the impls of `Ord` cite

pub version_cmp_total : IsTotalOrder version_cmp
version_cmp_total = then_total (on_total key_of_version precedence_total) version_plain_total

pub version_cmp_ties : (a b : PlainVersion)
    → eq_by_cmp version_plain_cmp a b ≡ eq_by_cmp version_cmp a b
version_cmp_ties = ties_same (on_total key_of_version precedence_total) versions_same

pub mess_cmp_total : IsTotalOrder mess_cmp
mess_cmp_total = then_total (on_total key_of_mess precedence_total) mess_total

pub mess_cmp_ties : (a b : PlainMess) → eq_by_cmp mess_plain_cmp a b ≡ eq_by_cmp mess_cmp a b
mess_cmp_ties = ties_same (on_total key_of_mess precedence_total) messes_same

pub versioning_cmp_total : IsTotalOrder versioning_cmp
versioning_cmp_total = then_total (on_total key_of precedence_total) versioning_plain_total

-- versions whose fields tie have one key, since metadata is not in it
pub keys_tied : (a b : PlainVersioning) → versioning_plain_cmp a b ≡ Equal
    → precedence (key_of a) (key_of b) ≡ Equal
keys_tied (Ideal a) (Ideal b) tied =
    let same = tied_same a b tied in
    rw (same.major, same.minor, same.patch, same.pre_rel)
    (tied_itself precedence_total (key_of (Ideal b)))
keys_tied (General a) (General b) tied =
    rw (versions_same a b tied) (tied_itself precedence_total (key_of (General b)))
keys_tied (Complex a) (Complex b) tied =
    rw (messes_same a b tied) (tied_itself precedence_total (key_of (Complex b)))
keys_tied _ _ tied = cc tied

pub versioning_cmp_ties : (a b : PlainVersioning)
    → eq_by_cmp versioning_plain_cmp a b ≡ eq_by_cmp versioning_cmp a b
versioning_cmp_ties = ties_behind keys_tied
