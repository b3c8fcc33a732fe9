-- The numbers that may come next at a place, and which of them come after a version.
use Rattle.std.proofs.Common.{◌≡◌, ◌==◌, ◌&&◌, ◌∙◌, ◌<◌, ◌≤◌, ◌^◌, ◌⊎◌, if◌then◌else◌, ℕ, zero, suc, Bool, true, false, List, [], ◌∷◌, ◌++◌, drop, length, map, nat_lt, take, Option, Some, None, refl, sym, ap, arith, inl, inr}
use Rattle.std.proofs.Math.Dec.{eqb-suc-zero}
use Rattle.std.proofs.lemmas.Bool.{and_from, eqb-true, lt-ltb, ltb-true}
use Rattle.std.specs.{Cmp.first_so, Cmp.nat_cmp_is, Cmp.second_so, List.list_all, Option.option_map, Option.option_map_or, Option.unwrap_or, Ordering.nat_cmp, Ordering.ordering_then, declared.cmp.Ordering.Ordering}
use Rattle.std.specs.declared.cmp.Ordering.TheVariants.{Less, Equal, Greater}
use Rattle.version_rules.specs.grammar.Versioning.{versioning_kind, PlainVersioning, Ideal, General, Complex, is_prerelease}
use Rattle.version_rules.specs.key.Key.{key_of, plain, precedence, versioning_epoch, PreReleased, Bare, Released, tail_cmp}
use Rattle.version_rules.specs.{grammar.Chunk.PlainChunk, grammar.Chunk.number_of, grammar.Last.PlainLast, grammar.Version.PlainVersion, key.PartKey.PartKey, key.PartKey.chunk_parts, key.PartKey.list_cmp, key.PartKey.part_key}
use Rattle.version_order.specs.keys.Codes.{then_equal}
use Rattle.version_order.proofs.lemmas.NumberBytes.{above, below}
use Rattle.version_rules.proofs.lemmas.Key.{plain_number}
use Rattle.version_tasks.specs.Next.{IsAfter, IsBare, IsNext, IsOfForm, MayFollow, NoNext, all_of, last_number, numbers_of}
use Rattle.version_rules.specs.grammar.Chunk as chunk
use Rattle.version_rules.specs.grammar.Last as last

pub three_ways : (m n : ℕ) → (m < n) ⊎ ((m ≡ n) ⊎ (n < m))
three_ways m n = grind arith

pub same : (n : ℕ) → nat_cmp n n ≡ Equal
same n = sym (nat_cmp_is n n Equal refl)

-- ---- numbers

abbrev pub are_zeros : List ℕ → Bool
are_zeros = list_all (λ n. n == 0)

abbrev pub fit : List ℕ → Bool
fit = list_all (λ n. nat_lt n (2 ^ 32))

-- the number at a place
abbrev pub number_at : ℕ → List ℕ → ℕ
number_at place [] = 0
number_at zero (n ∷ ns) = n
number_at (suc place) (n ∷ ns) = number_at place ns

-- numbers with another one at a place, and zeros after it
abbrev pub raised : ℕ → List ℕ → ℕ → List ℕ
raised place [] k = []
raised zero (n ∷ ns) k = k ∷ map (λ m. 0) ns
raised (suc place) (n ∷ ns) k = n ∷ raised place ns k

zeros_are : (ns ms : List ℕ) → length ns ≡ length ms → are_zeros ns ≡ true → ns ≡ map (λ m. 0) ms
zeros_are [] [] count zeros = refl
zeros_are [] (m ∷ ms) count zeros = absurd (omega (arith, count))
zeros_are (n ∷ ns) [] count zeros = absurd (omega (arith, count))
zeros_are (n ∷ ns) (m ∷ ms) count zeros =
    let first : n ≡ 0 = eqb-true n 0 (first_so _ _ zeros) in
    let rest : length ns ≡ length ms = omega (arith, count) in
    rw first (ap (λ (l : List ℕ). 0 ∷ l) (zeros_are ns ms rest (second_so _ _ zeros)))

-- what may follow is raised at the place
raised_is : (place : ℕ) (ns next : List ℕ) → place < length ns → length next ≡ length ns
    → take place next ≡ take place ns → are_zeros (drop (suc place) next) ≡ true
    → next ≡ raised place ns (number_at place next)
raised_is place [] next within count before after = absurd (omega (arith, within))
raised_is place (n ∷ ns) [] within count before after = absurd (omega (arith, count))
raised_is zero (n ∷ ns) (m ∷ next) within count before after =
    ap (λ (l : List ℕ). m ∷ l) (zeros_are next ns (omega (arith, count)) after)
raised_is (suc place) (n ∷ ns) (m ∷ next) within count before after =
    let first : m ≡ n = cc before in
    let rest : take place next ≡ take place ns = cc before in
    rw first
    (ap (λ (l : List ℕ). n ∷ l)
    (raised_is place ns next (omega (arith, within)) (omega (arith, count)) rest after))

number_fits : (place : ℕ) (ns : List ℕ) → fit ns ≡ true → number_at place ns < 2 ^ 32
number_fits place [] fits = omega arith
number_fits zero (n ∷ ns) fits = ltb-true _ _ (first_so _ _ fits)
number_fits (suc place) (n ∷ ns) fits = number_fits place ns (second_so _ _ fits)

-- and what is raised may follow
zeros_zero : (ns : List ℕ) → are_zeros (map (λ m. 0) ns) ≡ true
zeros_zero [] = refl
zeros_zero (n ∷ ns) = zeros_zero ns

zeros_fit : (ns : List ℕ) → fit (map (λ m. 0) ns) ≡ true
zeros_fit [] = refl
zeros_fit (n ∷ ns) = zeros_fit ns

zeros_count : (ns : List ℕ) → length {A = ℕ} (map (λ m. 0) ns) ≡ length ns
zeros_count [] = refl
zeros_count (n ∷ ns) = ap suc (zeros_count ns)

pub raised_count : (place : ℕ) (ns : List ℕ) (k : ℕ) → length (raised place ns k) ≡ length ns
raised_count place [] k = refl
raised_count zero (n ∷ ns) k = ap suc (zeros_count ns)
raised_count (suc place) (n ∷ ns) k = ap suc (raised_count place ns k)

raised_before : (place : ℕ) (ns : List ℕ) (k : ℕ) → take place (raised place ns k) ≡ take place ns
raised_before place [] k = refl
raised_before zero (n ∷ ns) k = refl
raised_before (suc place) (n ∷ ns) k =
    ap (λ (l : List ℕ). n ∷ l) (raised_before place ns k)

raised_after : (place : ℕ) (ns : List ℕ) (k : ℕ)
    → are_zeros (drop (suc place) (raised place ns k)) ≡ true
raised_after place [] k = refl
raised_after zero (n ∷ ns) k = zeros_zero ns
raised_after (suc place) (n ∷ ns) k = raised_after place ns k

pub raised_fit : (place : ℕ) (ns : List ℕ) (k : ℕ) → fit ns ≡ true → k < 2 ^ 32
    → fit (raised place ns k) ≡ true
raised_fit place [] k fits less = refl
raised_fit zero (n ∷ ns) k fits less = and_from _ _ (lt-ltb _ _ less) (zeros_fit ns)
raised_fit (suc place) (n ∷ ns) k fits less =
    and_from _ _ (first_so _ _ fits) (raised_fit place ns k (second_so _ _ fits) less)

pub raised_follows : (place : ℕ) (ns : List ℕ) (k : ℕ) → place < length ns → fit ns ≡ true
    → k < 2 ^ 32 → MayFollow ns place (raised place ns k)
raised_follows place ns k within fits less =
    grind (arith, raised_count, raised_before, raised_after, raised_fit)

pub raised_number : (place : ℕ) (ns : List ℕ) (k : ℕ) → place < length ns
    → number_at place (raised place ns k) ≡ k
raised_number place [] k within = absurd (omega (arith, within))
raised_number zero (n ∷ ns) k within = refl
raised_number (suc place) (n ∷ ns) k within = raised_number place ns k (omega (arith, within))

-- ---- how numbers compare as parts

abbrev pub parts : List ℕ → List PartKey
parts = map plain

next_cmp : (m n : ℕ) (ms ns : List ℕ)
    → list_cmp (parts (m ∷ ms)) (parts (n ∷ ns))
    ≡ ordering_then (nat_cmp m n) (list_cmp (parts ms) (parts ns))
next_cmp m n ms ns =
    ap (λ o. ordering_then o (list_cmp (parts ms) (parts ns))) (then_equal (nat_cmp m n))

alike : (n : ℕ) (ms ns : List ℕ)
    → list_cmp (parts (n ∷ ms)) (parts (n ∷ ns)) ≡ list_cmp (parts ms) (parts ns)
alike n ms ns =
    next_cmp n n ms ns ∙ ap (λ o. ordering_then o (list_cmp (parts ms) (parts ns))) (same n)

same_list : (ns : List ℕ) → list_cmp (parts ns) (parts ns) ≡ Equal
same_list [] = refl
same_list (n ∷ ns) = alike n ns ns ∙ same_list ns

-- zeros are before other numbers
abbrev below_unless : Bool → Ordering
below_unless zeros = if zeros then Equal else Less

zeros_below : (ns : List ℕ)
    → list_cmp (parts (map (λ m. 0) ns)) (parts ns) ≡ below_unless (are_zeros ns)
zeros_below [] = refl
zeros_below (zero ∷ ns) = alike 0 (map (λ m. 0) ns) ns ∙ zeros_below ns
zeros_below (suc n ∷ ns) =
    next_cmp 0 (suc n) (map (λ m. 0) ns) ns
    ∙ ap (λ o. ordering_then o (list_cmp (parts (map (λ m. 0) ns)) (parts ns)))
    (below 0 (suc n) (omega arith))
    ∙ ap (λ zero. below_unless (zero && are_zeros ns)) (sym (eqb-suc-zero n))

-- raised numbers against those that they were raised from, and against others raised at that place
raised_cmp : (place : ℕ) (ns : List ℕ) (k : ℕ) → place < length ns
    → list_cmp (parts (raised place ns k)) (parts ns)
    ≡ ordering_then (nat_cmp k (number_at place ns))
    (below_unless (are_zeros (drop (suc place) ns)))
raised_cmp place [] k within = absurd (omega (arith, within))
raised_cmp zero (n ∷ ns) k within =
    next_cmp k n (map (λ m. 0) ns) ns ∙ ap (ordering_then (nat_cmp k n)) (zeros_below ns)
raised_cmp (suc place) (n ∷ ns) k within =
    alike n (raised place ns k) ns ∙ raised_cmp place ns k (omega (arith, within))

pub both_raised : (place : ℕ) (ns : List ℕ) (j k : ℕ) → place < length ns
    → list_cmp (parts (raised place ns j)) (parts (raised place ns k)) ≡ nat_cmp j k
both_raised place [] j k within = absurd (omega (arith, within))
both_raised zero (n ∷ ns) j k within =
    next_cmp j k (map (λ m. 0) ns) (map (λ m. 0) ns)
    ∙ ap (ordering_then (nat_cmp j k)) (same_list (map (λ m. 0) ns)) ∙ then_equal (nat_cmp j k)
both_raised (suc place) (n ∷ ns) j k within =
    alike n (raised place ns j) (raised place ns k)
    ∙ both_raised place ns j k (omega (arith, within))

-- ---- the keys of versions of numbers

-- a general version of numbers: all but the last as chunks, and the last
abbrev pub body_of : List ℕ → List PlainChunk × PlainLast
body_of [] = ([], last.Numeric 0)
body_of (n ∷ []) = ([], last.Numeric n)
body_of (n ∷ m ∷ ns) = (chunk.Numeric n ∷ (body_of (m ∷ ns)).0, (body_of (m ∷ ns)).1)

-- numbers that are all there are the first one and the others
all_first : (n : ℕ) (more : Option (List ℕ)) (numbers : List ℕ)
    → option_map (λ ns. n ∷ ns) more ≡ Some numbers
    → (ns : List ℕ) × (more ≡ Some ns) × (numbers ≡ n ∷ ns)
all_first n None numbers e = cc e
all_first n (Some ns) numbers e = (ns, refl, cc e)

last_is : (l : PlainLast) (numbers : List ℕ) → all_of (last_number l ∷ []) ≡ Some numbers
    → (n : ℕ) × (l ≡ last.Numeric n) × (numbers ≡ n ∷ [])
last_is (last.Numeric n) numbers e = (n, refl, cc e)
last_is (last.Rc a letters b) numbers e = cc e
last_is (last.Post a letters) numbers e = cc e
last_is (last.Alphanum text) numbers e = cc e

-- a list of numbers that ends with a last one is not empty
some_numbers : (chunks : List PlainChunk) (l : PlainLast)
    → ¬ (all_of (map number_of chunks ++ last_number l ∷ []) ≡ Some [])
some_numbers [] l e = let is = last_is l [] e in cc is.2
some_numbers (chunk.Numeric n ∷ chunks) l e =
    let first = all_first n _ [] e in cc first.2
some_numbers (chunk.Alphanum text ∷ chunks) l e = cc e

pub body_is : (chunks : List PlainChunk) (l : PlainLast) (numbers : List ℕ)
    → all_of (map number_of chunks ++ last_number l ∷ []) ≡ Some numbers
    → (chunks, l) ≡ body_of numbers
body_is [] l numbers e =
    let is = last_is l numbers e in
    ap (λ (l : PlainLast). ([], l)) is.1 ∙ sym (ap body_of is.2)
body_is (chunk.Alphanum text ∷ chunks) l numbers e = cc e
body_is (chunk.Numeric n ∷ chunks) l numbers e =
    let first = all_first n _ numbers e in
    by first.0 first.1 (body_is chunks l first.0 first.1) ∙ sym (ap body_of first.2)
  where
    by : (ns : List ℕ) → all_of (map number_of chunks ++ last_number l ∷ []) ≡ Some ns
        → (chunks, l) ≡ body_of ns
        → (chunk.Numeric n ∷ chunks, l) ≡ body_of (n ∷ ns)
    by [] f is = absurd (some_numbers chunks l f)
    by (m ∷ ns) f is =
        ap (λ (p : List PlainChunk × PlainLast). (chunk.Numeric n ∷ p.0, p.1)) is

pub body_numbers : (ns : List ℕ) → 0 < length ns
    → all_of (map number_of (body_of ns).0 ++ last_number (body_of ns).1 ∷ []) ≡ Some ns
body_numbers [] some = absurd (omega (arith, some))
body_numbers (n ∷ []) some = refl
body_numbers (n ∷ m ∷ ns) some =
    ap (option_map (λ numbers. n ∷ numbers)) (body_numbers (m ∷ ns) (omega arith))

body_parts : (ns : List ℕ) → 0 < length ns → fit ns ≡ true
    → chunk_parts (body_of ns).0 ++ part_key (last.last_text (body_of ns).1) ∷ [] ≡ parts ns
body_parts [] some fits = absurd (omega (arith, some))
body_parts (n ∷ []) some fits =
    ap (λ (p : PartKey). p ∷ []) (plain_number n (ltb-true _ _ (first_so _ _ fits)))
body_parts (n ∷ m ∷ ns) some fits =
    let first = plain_number n (ltb-true _ _ (first_so _ _ fits)) in
    let rest = body_parts (m ∷ ns) (omega arith) (second_so _ _ fits) in
    λ i. first i ∷ rest i

some_body : (v : PlainVersion) (ns : List ℕ) → numbers_of (General v) ≡ Some ns → 0 < length ns
some_body v [] e = absurd (some_numbers v.chunks v.last e)
some_body v (n ∷ ns) e = omega arith

-- the key of a version by its numbers
pub key_body : (v : PlainVersioning) (ns : List ℕ) → numbers_of v ≡ Some ns → fit ns ≡ true
    → (key_of v).body ≡ parts ns
key_body (Ideal v) ns e fits =
    let same : v.major ∷ v.minor ∷ v.patch ∷ [] ≡ ns = cc e in
    ap parts same
key_body (General v) ns e fits =
    ap (λ (p : List PlainChunk × PlainLast). chunk_parts p.0 ++ part_key (last.last_text p.1) ∷ [])
    (body_is v.chunks v.last ns e)
    ∙ body_parts ns (some_body v ns e) fits
key_body (Complex m) ns e fits = cc e

key_epoch : (v : PlainVersioning) (ns : List ℕ) → numbers_of v ≡ Some ns
    → (key_of v).epoch ≡ unwrap_or (versioning_epoch v) 0
key_epoch (Ideal v) ns e = refl
key_epoch (General v) ns e = refl
key_epoch (Complex m) ns e = cc e

bare_tail : (v : PlainVersioning) (ns : List ℕ) → numbers_of v ≡ Some ns → IsBare v
    → (key_of v).tail ≡ Bare
bare_tail (Ideal v) ns e bare = rw bare.0 refl
bare_tail (General v) ns e bare = rw bare.0 refl
bare_tail (Complex m) ns e bare = cc e

-- what is bare comes after a version with the same numbers exactly if that one is a pre-release
after_bare : (v : PlainVersioning) (ns : List ℕ) → numbers_of v ≡ Some ns
    → is_prerelease v ≡ true → tail_cmp Bare (key_of v).tail ≡ Greater
after_bare (Ideal v) ns e pre = by v.pre_rel pre
  where
    by : (o : Option (List PlainChunk)) → Rattle.std.specs.Option.is_some o ≡ true
        → tail_cmp Bare (option_map_or PreReleased o Bare) ≡ Greater
    by None pre = cc pre
    by (Some chunks) pre = refl
after_bare (General v) ns e pre = cc pre
after_bare (Complex m) ns e pre = cc e

not_after_bare : (v : PlainVersioning) (ns : List ℕ) → numbers_of v ≡ Some ns
    → is_prerelease v ≡ false → ¬ (tail_cmp Bare (key_of v).tail ≡ Greater)
not_after_bare (Ideal v) ns e other = by v.pre_rel other
  where
    by : (o : Option (List PlainChunk)) → Rattle.std.specs.Option.is_some o ≡ false
        → ¬ (tail_cmp Bare (option_map_or PreReleased o Bare) ≡ Greater)
    by None other after = cc after
    by (Some chunks) other after = cc other
not_after_bare (General v) ns e other = by v.release
  where
    by : (o : Option (List PlainChunk))
        → ¬ (tail_cmp Bare (option_map_or Released o Bare) ≡ Greater)
    by None after = cc after
    by (Some chunks) after = cc after
not_after_bare (Complex m) ns e other = cc e

-- ---- which numbers come after a version

-- the number at the place of the version that comes next
abbrev pub next_number : Bool → ℕ → ℕ
next_number stays n = if stays then n else suc n

abbrev from_number : ℕ → ℕ → Bool → Ordering → Ordering
from_number k n zeros tail = ordering_then (ordering_then (nat_cmp k n) (below_unless zeros)) tail

-- what comes after is at least that number
is_at_least : (k n : ℕ) (pre zeros : Bool) (tail : Ordering)
    → (pre ≡ false → ¬ (tail ≡ Greater)) → from_number k n zeros tail ≡ Greater
    → next_number (pre && zeros) n ≤ k
is_at_least k n pre zeros tail other after = elim (three_ways k n) [
  | inl less ↦ cc (rw (below k n less) at after)
  | inr (inl is) ↦
      let tied : nat_cmp k n ≡ Equal = sym (nat_cmp_is k n Equal is) in
      by_tail pre zeros other (rw tied at after) is
  | inr (inr more) ↦ large (pre && zeros) more
]
  where
    by_tail : (pre zeros : Bool) → (pre ≡ false → ¬ (tail ≡ Greater))
        → ordering_then (below_unless zeros) tail ≡ Greater → k ≡ n
        → next_number (pre && zeros) n ≤ k
    by_tail true true other after is = omega (arith, is)
    by_tail false true other after is = absurd (other refl after)
    by_tail pre false other after is = cc after

    large : (stays : Bool) → n < k → next_number stays n ≤ k
    large true more = omega (arith, more)
    large false more = omega (arith, more)

-- and what is at least that number comes after
comes_after : (k n : ℕ) (pre zeros : Bool) (tail : Ordering) → (pre ≡ true → tail ≡ Greater)
    → next_number (pre && zeros) n ≡ k → from_number k n zeros tail ≡ Greater
comes_after k n true true tail bare is =
    let tied : nat_cmp k n ≡ Equal = sym (nat_cmp_is k n Equal (sym is)) in
    rw (tied, bare refl) refl
comes_after k n false zeros tail bare is = rw (above k n (omega (arith, is))) refl
comes_after k n true false tail bare is = rw (above k n (omega (arith, is))) refl

module _ (v : PlainVersioning) (place : ℕ) (numbers : List ℕ)
    (are : numbers_of v ≡ Some numbers) where
  -- the numbers of a version of the form are raised at the place
  form_numbers : (w : PlainVersioning) → (f : IsOfForm v place w)
      → f.next ≡ raised place numbers (number_at place f.next)
  form_numbers w f = grind (arith, raised_is)

  form_within : (w : PlainVersioning) → IsOfForm v place w → place < length numbers
  form_within w f = grind arith

  form_body : (w : PlainVersioning) → (f : IsOfForm v place w)
      → (key_of w).body ≡ parts (raised place numbers (number_at place f.next))
  form_body w f = key_body w f.next f.next_are f.follow.fit ∙ ap parts (form_numbers w f)

  form_epoch : (w : PlainVersioning) → IsOfForm v place w → (key_of w).epoch ≡ (key_of v).epoch
  form_epoch w f = grind (arith, key_epoch)

  -- how two versions of the form compare
  forms_order : (u w : PlainVersioning) → (f : IsOfForm v place u) → (g : IsOfForm v place w)
      → precedence (key_of u) (key_of w)
      ≡ nat_cmp (number_at place f.next) (number_at place g.next)
  forms_order u w f g =
      let epochs : nat_cmp (key_of u).epoch (key_of w).epoch ≡ Equal =
      (λ i. nat_cmp (form_epoch u f i) (form_epoch w g i)) ∙ same (key_of v).epoch in
      let bodies : list_cmp (key_of u).body (key_of w).body
      ≡ nat_cmp (number_at place f.next) (number_at place g.next) =
      (λ i. list_cmp (form_body u f i) (form_body w g i))
      ∙ both_raised place numbers _ _ (form_within u f) in
      (λ i. ordering_then (epochs i)
      (ordering_then (bodies i) (tail_cmp (bare_tail u f.next f.next_are f.bare i)
      (bare_tail w g.next g.next_are g.bare i))))
      ∙ then_equal (nat_cmp (number_at place f.next) (number_at place g.next))

  module _ (fits : fit numbers ≡ true) where
    abbrev pub zeros_after : Bool
    zeros_after = are_zeros (drop (suc place) numbers)

    -- the number at the place of the version that comes next
    abbrev pub next_at : ℕ
    next_at = next_number (is_prerelease v && zeros_after) (number_at place numbers)

    -- how a version of the form compares with v
    form_order : (w : PlainVersioning) → (f : IsOfForm v place w)
        → precedence (key_of w) (key_of v)
        ≡ from_number (number_at place f.next) (number_at place numbers) zeros_after
        (tail_cmp Bare (key_of v).tail)
    form_order w f =
        let epochs : nat_cmp (key_of w).epoch (key_of v).epoch ≡ Equal =
        ap (λ e. nat_cmp e (key_of v).epoch) (form_epoch w f) ∙ same (key_of v).epoch in
        let bodies : list_cmp (key_of w).body (key_of v).body
        ≡ ordering_then (nat_cmp (number_at place f.next) (number_at place numbers))
        (below_unless zeros_after) =
        (λ i. list_cmp (form_body w f i) (key_body v numbers are fits i))
        ∙ raised_cmp place numbers (number_at place f.next) (form_within w f) in
        λ i. ordering_then (epochs i)
        (ordering_then (bodies i)
        (tail_cmp (bare_tail w f.next f.next_are f.bare i) (key_of v).tail))

    pub at_least : (w : PlainVersioning) → (f : IsOfForm v place w) → IsAfter w v
        → next_at ≤ number_at place f.next
    at_least w f after =
        is_at_least (number_at place f.next) (number_at place numbers) (is_prerelease v) zeros_after
        (tail_cmp Bare (key_of v).tail) (not_after_bare v numbers are)
        (sym (form_order w f) ∙ after)

    -- the version of the form with the next number is next
    pub is_next : (w : PlainVersioning) → (f : IsOfForm v place w)
        → next_at ≡ number_at place f.next → IsNext v place w
    is_next w f is = record {
      form = f;
      after = form_order w f ∙ comes_after (number_at place f.next) (number_at place numbers)
          (is_prerelease v) zeros_after (tail_cmp Bare (key_of v).tail)
          (after_bare v numbers are) is;
      least = λ u g after below. not_before (number_at place g.next) (number_at place f.next)
          (rw is at (at_least u g after)) (sym (forms_order u w g f) ∙ below);
    }
      where
        not_before : (j k : ℕ) → k ≤ j → ¬ (nat_cmp j k ≡ Less)
        not_before j k h less = elim (three_ways j k) [
          | inl before ↦ absurd (omega (arith, h, before))
          | inr (inl tied) ↦ cc (sym (nat_cmp_is j k Equal tied), less)
          | inr (inr after) ↦ cc (above j k after, less)
        ]

    -- past the largest number there is none
    pub none_past : 2 ^ 32 ≤ next_at → NoNext v place
    none_past large w f after =
        let fits = number_fits place f.next f.follow.fit in
        let least = at_least w f after in
        absurd (omega (arith, large, fits, least))

    -- and none beyond the parts
    pub none_beyond : length numbers ≤ place → NoNext v place
    none_beyond beyond w f after = absurd (omega (arith, beyond, form_within w f))

-- nor of a version without numbers
pub none_without : (v : PlainVersioning) (place : ℕ) → numbers_of v ≡ None → NoNext v place
none_without v place none w f after = cc (f.numbers_are, none)

-- ---- at most one version comes next

-- two bare versions of one kind, one epoch and the same numbers are the same
same_numbers : (w u : PlainVersioning) → versioning_kind w ≡ versioning_kind u
    → versioning_epoch w ≡ versioning_epoch u → (ns : List ℕ) → numbers_of w ≡ Some ns
    → numbers_of u ≡ Some ns → IsBare w → IsBare u → w ≡ u
same_numbers (Ideal a) (Ideal b) kinds epochs ns e f bare other =
    let all : a.major ∷ a.minor ∷ a.patch ∷ [] ≡ b.major ∷ b.minor ∷ b.patch ∷ [] =
    cc (e ∙ sym f) in
    let major : a.major ≡ b.major = cc all in
    let minor : a.minor ≡ b.minor = cc all in
    let patch : a.patch ≡ b.patch = cc all in
    λ i. Ideal (record {
      major = major i;
      minor = minor i;
      patch = patch i;
      pre_rel = (bare.0 ∙ sym other.0) i;
      meta = (bare.1 ∙ sym other.1) i;
    })
same_numbers (General a) (General b) kinds epochs ns e f bare other =
    let bodies : (a.chunks, a.last) ≡ (b.chunks, b.last) =
    body_is a.chunks a.last ns e ∙ sym (body_is b.chunks b.last ns f) in
    λ i. General (record {
      epoch = epochs i;
      chunks = (bodies i).0;
      last = (bodies i).1;
      release = (bare.0 ∙ sym other.0) i;
      meta = (bare.1 ∙ sym other.1) i;
    })
same_numbers (Complex a) u kinds epochs ns e f bare other = cc e
same_numbers w (Complex b) kinds epochs ns e f bare other = cc f
same_numbers (Ideal a) (General b) kinds epochs ns e f bare other = cc kinds
same_numbers (General a) (Ideal b) kinds epochs ns e f bare other = cc kinds

pub one_next : (v w u : PlainVersioning) (place : ℕ) → IsNext v place w → IsNext v place u → w ≡ u
one_next v w u place first second =
    let f = first.form in
    let g = second.form in
    let j = number_at place f.next in
    let k = number_at place g.next in
    let are = f.numbers_are in
    let equal : j ≡ k = elim (three_ways j k) [
      | inl less ↦
          absurd
          (second.least w f first.after
          (forms_order v place f.numbers are w u f g ∙ below j k less))
      | inr (inl same) ↦ same
      | inr (inr more) ↦
          absurd
          (first.least u g second.after
          (forms_order v place f.numbers are u w g f ∙ below k j more))
    ] in
    let numbers : g.next ≡ f.next =
    form_numbers v place f.numbers are u g ∙ ap (raised place f.numbers) (sym equal)
    ∙ sym (form_numbers v place f.numbers are w f) in
    same_numbers w u (f.kind_is ∙ sym g.kind_is) (f.epoch_is ∙ sym g.epoch_is) f.next f.next_are
    (g.next_are ∙ ap Some numbers) f.bare g.bare
