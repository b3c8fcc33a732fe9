-- The laws of the plain order of last parts, which the impls of `Eq` and `Hash` cite.
use Rattle.std.proofs.Common.{◌≡◌, ℕ, List, [], refl, ap, subst}
use Rattle.std.specs.{Cmp.IsTotalOrder, Cmp.nat_cmp_total, Cmp.on_total, Cmp.then_total, Cmp.Lexicographic.nat_list_cmp_total, FinMap.IsAntisymmetric, FinMap.nat_cmp-IsAntisymmetric}
use Rattle.std.specs.Ordering.{nat_cmp, on, ordering_then, then_cmp}
use Rattle.version_rules.specs.grammar.Last.{PlainLast, Numeric, Rc, Post, Alphanum}
use Rattle.version_rules.specs.grammar.MChunk.{PlainMChunk, Digits, Rev, Plain, mchunk_plain_cmp, mchunk_rank, mchunk_text, mchunk_value}
use Rattle.version_rules.specs.order.Parts.{last_plain_cmp, last_rank}
use Rattle.version_order.specs.texts.Grammar.{PlainSep, Colon, Hyphen, Plus, Underscore, Tilde, sep_plain_cmp, sep_rank}
use Rattle.version_order.specs.keys.{Codes.bytes_same, Codes.then_equal, Codes.then_first, Codes.then_second, Lists.bytes_cmp}

-- a last part as its rank, its first number, its text and its second number
first : PlainLast → ℕ
first (Numeric n) = n
first (Rc a text b) = a
first (Post a text) = a
first (Alphanum text) = 0

text : PlainLast → List ℕ
text (Numeric n) = []
text (Rc a t b) = t
text (Post a t) = t
text (Alphanum t) = t

second : PlainLast → ℕ
second (Numeric n) = 0
second (Rc a t b) = b
second (Post a t) = 0
second (Alphanum t) = 0

in_turn : (a b : PlainLast)
    → then_cmp (on last_rank nat_cmp)
    (then_cmp (on first nat_cmp) (then_cmp (on text bytes_cmp) (on second nat_cmp))) a b
    ≡ last_plain_cmp a b
unfolding first text second
in_turn (Numeric m) (Numeric n) = then_equal (nat_cmp m n)
in_turn (Rc a s b) (Rc c t d) = refl
in_turn (Post a s) (Post c t) = ap (ordering_then (nat_cmp a c)) (then_equal (bytes_cmp s t))
in_turn (Alphanum s) (Alphanum t) = then_equal (bytes_cmp s t)
in_turn (Numeric m) (Rc c t d) = refl
in_turn (Numeric m) (Post c t) = refl
in_turn (Numeric m) (Alphanum t) = refl
in_turn (Rc a s b) (Numeric n) = refl
in_turn (Rc a s b) (Post c t) = refl
in_turn (Rc a s b) (Alphanum t) = refl
in_turn (Post a s) (Numeric n) = refl
in_turn (Post a s) (Rc c t d) = refl
in_turn (Post a s) (Alphanum t) = refl
in_turn (Alphanum s) (Numeric n) = refl
in_turn (Alphanum s) (Rc c t d) = refl
in_turn (Alphanum s) (Post c t) = refl

pub last_total : IsTotalOrder last_plain_cmp
last_total = subst IsTotalOrder (λ i a b. in_turn a b i)
    (then_total (on_total last_rank nat_cmp_total) (then_total (on_total first nat_cmp_total)
    (then_total (on_total text nat_list_cmp_total) (on_total second nat_cmp_total))))

pub lasts_same : IsAntisymmetric last_plain_cmp
lasts_same (Numeric m) (Numeric n) e = ap Numeric (nat_cmp-IsAntisymmetric m n e)
lasts_same (Rc a s b) (Rc c t d) e =
    let more = then_second (nat_cmp a c) (ordering_then (bytes_cmp s t) (nat_cmp b d)) e in
    let number = nat_cmp-IsAntisymmetric a c (then_first _ _ e) in
    let letters = bytes_same s t (then_first _ _ more) in
    let last = nat_cmp-IsAntisymmetric b d (then_second _ _ more) in
    λ i. Rc (number i) (letters i) (last i)
lasts_same (Post a s) (Post c t) e =
    let number = nat_cmp-IsAntisymmetric a c (then_first _ _ e) in
    let letters = bytes_same s t (then_second (nat_cmp a c) (bytes_cmp s t) e) in
    λ i. Post (number i) (letters i)
lasts_same (Alphanum s) (Alphanum t) e = ap Alphanum (bytes_same s t e)
lasts_same (Numeric m) (Rc c t d) e = cc e
lasts_same (Numeric m) (Post c t) e = cc e
lasts_same (Numeric m) (Alphanum t) e = cc e
lasts_same (Rc a s b) (Numeric n) e = cc e
lasts_same (Rc a s b) (Post c t) e = cc e
lasts_same (Rc a s b) (Alphanum t) e = cc e
lasts_same (Post a s) (Numeric n) e = cc e
lasts_same (Post a s) (Rc c t d) e = cc e
lasts_same (Post a s) (Alphanum t) e = cc e
lasts_same (Alphanum s) (Numeric n) e = cc e
lasts_same (Alphanum s) (Rc c t d) e = cc e
lasts_same (Alphanum s) (Post c t) e = cc e

-- ---- the laws of the plain orders of signs and of messy chunks, which the impls of `Eq` and `Hash`
-- cite.

pub sep_total : IsTotalOrder sep_plain_cmp
sep_total = on_total sep_rank nat_cmp_total

-- signs of the same place are the same sign
rank_same : (s t : PlainSep) → sep_rank s ≡ sep_rank t → s ≡ t
rank_same Colon Colon e = refl
rank_same Hyphen Hyphen e = refl
rank_same Plus Plus e = refl
rank_same Underscore Underscore e = refl
rank_same Tilde Tilde e = refl
rank_same s t e = cc e

pub seps_same : IsAntisymmetric sep_plain_cmp
seps_same s t e = rank_same s t (nat_cmp-IsAntisymmetric (sep_rank s) (sep_rank t) e)

pub mchunk_total : IsTotalOrder mchunk_plain_cmp
mchunk_total =
    then_total (on_total mchunk_rank nat_cmp_total)
    (then_total (on_total mchunk_value nat_cmp_total) (on_total mchunk_text nat_list_cmp_total))

-- chunks of the same variant, value and text are the same chunk
fields_same : (a b : PlainMChunk) → mchunk_rank a ≡ mchunk_rank b → mchunk_value a ≡ mchunk_value b
    → mchunk_text a ≡ mchunk_text b → a ≡ b
fields_same (Digits m s) (Digits n t) rank value text = λ i. Digits (value i) (text i)
fields_same (Digits m s) (Rev n t) rank value text = cc rank
fields_same (Digits m s) (Plain t) rank value text = cc rank
fields_same (Rev m s) (Digits n t) rank value text = cc rank
fields_same (Rev m s) (Rev n t) rank value text = λ i. Rev (value i) (text i)
fields_same (Rev m s) (Plain t) rank value text = cc rank
fields_same (Plain s) (Digits n t) rank value text = cc rank
fields_same (Plain s) (Rev n t) rank value text = cc rank
fields_same (Plain s) (Plain t) rank value text = ap Plain text

pub mchunks_same : IsAntisymmetric mchunk_plain_cmp
mchunks_same a b e =
    let further = then_second _ _ e in
    fields_same a b (nat_cmp-IsAntisymmetric (mchunk_rank a) (mchunk_rank b) (then_first _ _ e))
    (nat_cmp-IsAntisymmetric (mchunk_value a) (mchunk_value b) (then_first _ _ further))
    (bytes_same (mchunk_text a) (mchunk_text b) (then_second _ _ further))
