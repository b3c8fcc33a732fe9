-- The laws of the orders of parts and of lists of parts, which the impls of `Ord` cite.
use Rattle.std.proofs.Common.{◌≡◌, ℕ, List, Option, Some, None, refl, ap, subst, []}
use Rattle.std.specs.{Cmp.IsTotalOrder, Cmp.nat_cmp_total, Cmp.on_total, Cmp.then_total, Cmp.Lexicographic.lists_total, Cmp.Lexicographic.nat_list_cmp_total, Cmp.Lexicographic.options_total}
use Rattle.std.specs.{FinMap.IsAntisymmetric, FinMap.nat_cmp-IsAntisymmetric, FinMap.slice_cmp-IsAntisymmetric, Option.option_cmp, Ordering.nat_cmp, Ordering.on, Ordering.then_cmp, Ordering.eq_by_cmp}
use Rattle.version_order.specs.keys.Codes.{bytes_same, none_last_same, none_last_total, options_same, then_equal, then_first, then_second, ties_same}
use Rattle.version_order.specs.keys.Lists.{none_last_cmp, with_end, bytes_cmp}
use Rattle.version_rules.specs.key.PartKey.{PartKey, Word, Number, list_cmp, part_cmp, Split, numbered_cmp, split_cmp, part_bytes, chunk_parts, part_key}
use Rattle.version_rules.specs.order.Parts.{chunk_bytes, as_part_cmp, chunks_cmp, last_cmp, mchunk_cmp, release_cmp, last_plain_cmp, chunk_cmp}
use Rattle.version_rules.specs.grammar.{Chunk.PlainChunk, Chunk.Numeric, Chunk.Alphanum, Last.PlainLast, Last.last_text, MChunk.PlainMChunk, MChunk.mchunk_plain_cmp, MChunk.mchunk_text}
use Rattle.version_rules.specs.laws.Last.{last_total, lasts_same, mchunk_total, mchunks_same}

-- ---- the laws of the order of releases, which the impls of `Ord`, `Eq` and `Hash` cite

-- a chunk as its class, its number and its text
class : PlainChunk → ℕ
class (Numeric n) = 0
class (Alphanum text) = 1

chunk_number : PlainChunk → ℕ
chunk_number (Numeric n) = n
chunk_number (Alphanum text) = 0

text : PlainChunk → List ℕ
text (Numeric n) = []
text (Alphanum t) = t

chunk_in_turn : (a b : PlainChunk)
    → then_cmp (on class nat_cmp) (then_cmp (on chunk_number nat_cmp) (on text bytes_cmp)) a b
    ≡ chunk_cmp a b
unfolding class chunk_number text
chunk_in_turn (Numeric m) (Numeric n) = then_equal (nat_cmp m n)
chunk_in_turn (Numeric m) (Alphanum t) = refl
chunk_in_turn (Alphanum s) (Numeric n) = refl
chunk_in_turn (Alphanum s) (Alphanum t) = refl

pub chunk_total : IsTotalOrder chunk_cmp
chunk_total = subst IsTotalOrder (λ i a b. chunk_in_turn a b i)
    (then_total (on_total class nat_cmp_total)
    (then_total (on_total chunk_number nat_cmp_total) (on_total text nat_list_cmp_total)))

pub chunks_same : IsAntisymmetric chunk_cmp
chunks_same (Numeric m) (Numeric n) e = ap Numeric (nat_cmp-IsAntisymmetric m n e)
chunks_same (Numeric m) (Alphanum t) e = cc e
chunks_same (Alphanum s) (Numeric n) e = cc e
chunks_same (Alphanum s) (Alphanum t) e = ap Alphanum (bytes_same s t e)

pub release_total : IsTotalOrder release_cmp
release_total = lists_total chunk_total

pub releases_same : IsAntisymmetric release_cmp
releases_same = slice_cmp-IsAntisymmetric chunks_same

numbered_total : IsTotalOrder numbered_cmp
numbered_total =
    then_total (on_total (λ (n : ℕ × List ℕ). n.0) nat_cmp_total)
    (on_total (λ (n : ℕ × List ℕ). n.1) nat_list_cmp_total)

pub split_total : IsTotalOrder split_cmp
split_total =
    then_total (on_total (λ (s : Split). s.before) nat_list_cmp_total)
    (on_total (λ (s : Split). s.number) (options_total numbered_total))

-- a part, or the end of a list, as its rank, its word, its number and its suffix
rank : Option PartKey → ℕ
rank (Some (Word w)) = 0
rank None = 1
rank (Some (Number n suffix)) = 2

word : Option PartKey → Option Split
word (Some (Word w)) = Some w
word None = None
word (Some (Number n suffix)) = None

number : Option PartKey → ℕ
number (Some (Word w)) = 0
number None = 0
number (Some (Number n suffix)) = n

suffix : Option PartKey → Option Split
suffix (Some (Word w)) = None
suffix None = None
suffix (Some (Number n s)) = s

in_turn : (a b : Option PartKey)
    → then_cmp (on rank nat_cmp)
    (then_cmp (on word (option_cmp split_cmp))
    (then_cmp (on number nat_cmp) (on suffix (none_last_cmp split_cmp)))) a b ≡ part_cmp a b
unfolding rank word number suffix
in_turn (Some (Word v)) (Some (Word w)) = then_equal (split_cmp v w)
in_turn (Some (Number m s)) (Some (Number n t)) = refl
in_turn (Some (Word v)) None = refl
in_turn (Some (Word v)) (Some (Number n t)) = refl
in_turn None (Some (Word w)) = refl
in_turn None None = refl
in_turn None (Some (Number n t)) = refl
in_turn (Some (Number m s)) (Some (Word w)) = refl
in_turn (Some (Number m s)) None = refl

pub part_total : IsTotalOrder part_cmp
part_total = subst IsTotalOrder (λ i a b. in_turn a b i)
    (then_total (on_total rank nat_cmp_total)
    (then_total (on_total word (options_total split_total))
    (then_total (on_total number nat_cmp_total) (on_total suffix (none_last_total split_total)))))

pub list_total : IsTotalOrder list_cmp
list_total = on_total with_end (lists_total part_total)

-- ---- the orders are Equal only for the same value

numbered_same : IsAntisymmetric numbered_cmp
numbered_same m n e =
    let numbers = nat_cmp-IsAntisymmetric m.0 n.0 (then_first _ _ e) in
    let texts = bytes_same m.1 n.1 (then_second _ _ e) in
    λ i. (numbers i, texts i)

pub splits_same : IsAntisymmetric split_cmp
splits_same v w e =
    let texts = bytes_same v.before w.before (then_first _ _ e) in
    let numbers = options_same numbered_same v.number w.number (then_second _ _ e) in
    λ i. record { before = texts i; number = numbers i }

pub parts_same : IsAntisymmetric part_cmp
parts_same (Some (Word v)) (Some (Word w)) e = ap (λ s. Some (Word s)) (splits_same v w e)
parts_same (Some (Word v)) None e = cc e
parts_same (Some (Word v)) (Some (Number n t)) e = cc e
parts_same None (Some (Word w)) e = cc e
parts_same None None e = refl
parts_same None (Some (Number n t)) e = cc e
parts_same (Some (Number m s)) (Some (Word w)) e = cc e
parts_same (Some (Number m s)) None e = cc e
parts_same (Some (Number m s)) (Some (Number n t)) e =
    let numbers = nat_cmp-IsAntisymmetric m n (then_first _ _ e) in
    let suffixes = none_last_same splits_same s t (then_second _ _ e) in
    λ i. Some (Number (numbers i) (suffixes i))

-- ---- laws that the impls of `Code` cite

pub part_begins : (key : PartKey) → ¬ (part_bytes (Some key) ≡ [])
part_begins (Word w) e = cc e
part_begins (Number n suffix) e = cc e

pub chunk_begins : (chunk : PlainChunk) → ¬ (chunk_bytes (Some chunk) ≡ [])
chunk_begins (Numeric n) e = cc e
chunk_begins (Alphanum text) e = cc e

-- ---- the laws of the orders of chunks, last parts and messy chunks, which the impls of `Ord` cite

pub chunks_cmp_total : IsTotalOrder chunks_cmp
chunks_cmp_total = then_total (on_total chunk_parts list_total) release_total

pub chunks_cmp_ties : (a b : List PlainChunk) → eq_by_cmp release_cmp a b ≡ eq_by_cmp chunks_cmp a b
chunks_cmp_ties = ties_same (on_total chunk_parts list_total) releases_same

as_part_total : IsTotalOrder as_part_cmp
as_part_total = on_total (λ text. Some (part_key text)) part_total

pub last_cmp_total : IsTotalOrder last_cmp
last_cmp_total = then_total (on_total last_text as_part_total) last_total

pub last_cmp_ties : (a b : PlainLast) → eq_by_cmp last_plain_cmp a b ≡ eq_by_cmp last_cmp a b
last_cmp_ties = ties_same (on_total last_text as_part_total) lasts_same

pub mchunk_cmp_total : IsTotalOrder mchunk_cmp
mchunk_cmp_total = then_total (on_total mchunk_text as_part_total) mchunk_total

pub mchunk_cmp_ties : (a b : PlainMChunk)
    → eq_by_cmp mchunk_plain_cmp a b ≡ eq_by_cmp mchunk_cmp a b
mchunk_cmp_ties = ties_same (on_total mchunk_text as_part_total) mchunks_same
