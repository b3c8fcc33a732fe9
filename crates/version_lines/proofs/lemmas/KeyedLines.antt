-- Lines with their keys.
use Rattle.std.proofs.Common.{◌≡◌, ◌&&◌, not, ℕ, suc, ◌-◌, Bool, true, false, cond, nat_lt, List, [], ◌∷◌, length, take, refl, sym, ap, ◌∙◌, arith, ◌+◌, ◌<◌, ◌≤◌, ◌++◌, drop, map, subst, length-append, length-drop}
use Rattle.version_lines.specs.Entry.{after_heads_cmp, entry_cmp, entry_key, entry_kind, entry_line, key_length, tie_cmp, version_cmp, AreRead, AreInTurn, HoldsKey, IsRead}
use Rattle.version_lines.specs.Newest.{are_of_one_group, first_after, first_of_each, first_of_ties, group_place, newest, newest_cmp}
use Rattle.version_lines.specs.Sort.{Reads, lines_precedence, version_in, lines_cmp, in_order, put_in_order, turned, turn}
use Rattle.version_lines.specs.declared.sort.{entry.Entry.Entry, keyed_lines.KeyedLines.KeyedLines}
use Rattle.std.specs.Ordering.{eq_by_cmp, is_eq, is_lt, nat_cmp, on, ordering_reverse, ordering_then, then_cmp}
use Rattle.std.specs.{Cmp.IsEquivalence, Cmp.IsTotalOrder, Cmp.IsStrictWeakOrder, Cmp.Lexicographic.options_total, Cmp.Lexicographic.slice_cmp, Int.from_be_bytes, Int.w64, List.All, List.filter, List.position_or_len, List.Sorted.ties}
use Rattle.std.specs.{Str.bytes_eq, declared.cmp.Ordering.Ordering, declared.cmp.Ordering.TheVariants.Less, declared.cmp.Ordering.TheVariants.Equal, declared.cmp.Ordering.TheVariants.Greater}
use Rattle.std.proofs.lemmas.Cmp.{eq_by_cmp_equiv, nat_cmp_total, nat_list_eq_equiv, on_equiv, on_total, then_total, tied_itself, nat_list_cmp_total}
use Rattle.std.proofs.lemmas.List.{map-id, take_all, drop-append-le, drop_all, length-take, take-append-le}
use Rattle.std.proofs.lemmas.{Bool.ltb-false, Bool.ltb-true, List.Elements.filter_passes, List.Quantifiers.all_pairs_push, List.Sorted.ranks_by, Slice.Eq.bytes_eq-Decides}
use Rattle.version_lines.proofs.lemmas.Sorting.{AtLeast, Rises, below, by_test, in_order-map, in_order-rises, in_order-stable, turn-tie, turned_total, AreAlike}
use Rattle.version_schemes.proofs.lemmas.Any.{any_precedence_total, any_total, in_one_scheme, is_of}
use Rattle.std.proofs.Math.Seq.{drop-append_seam}
use Rattle.version_rules.specs.declared.kind.Kind.TheVariants.{Ideal}
use Rattle.version_texts.specs.Order.{kind_on, marked_number, texts_tie}
use Rattle.version_texts.proofs.lemmas.Ties.{texts_tie_total}
use Rattle.version_schemes.specs.any.Order.{PlainAny, any_precedence}
use Rattle.version_order.proofs.lemmas.Bytes.{AreBytes, sixteen_first}

-- lines are read as before if their keys and entries are the same, wherever these lie
pub stay_read : {B : Type 0} (reads : B → Reads) (before after : KeyedLines B)
    → after.by ≡ before.by → after.keys.items ≡ before.keys.items
    → after.entries.items ≡ before.entries.items → AreRead reads before → AreRead reads after
stay_read reads before after by_is keys_are entries_are are_read =
    record {
      read = rw (by_is, keys_are, entries_are) are_read.read;
      in_turn = rw entries_are are_read.in_turn;
    }

-- ---- what is kept of the elements that are the same: the first of them, in their order

-- of the elements that are the same as z, the first

kept-next : {X : Type 0} (E : X → X → Bool) → IsEquivalence E → (count : ℕ) (z x : X)
    (before xs : List X) → E z x ≡ true
    → filter (E z) (first_after count E (x ∷ before) xs)
    ≡ take (count - suc (length (filter (E z) before))) (filter (E z) xs)
    → filter (E z) (first_after count E before (x ∷ xs))
    ≡ take (count - length (filter (E z) before)) (x ∷ filter (E z) xs)
kept-next E equiv count z x before xs same more = grind (arith, by_test, ltb-true, ltb-false)

pub kept-first : {X : Type 0} (E : X → X → Bool) → IsEquivalence E → (count : ℕ) (z : X)
    (before xs : List X)
    → filter (E z) (first_after count E before xs)
    ≡ take (count - length (filter (E z) before)) (filter (E z) xs)
kept-first E equiv count z before [] = sym (take_all _ [] (omega arith))
kept-first E equiv count z before (x ∷ xs) =
    grind (arith, by_test, kept-next, nat_lt, kept-first E equiv count z (x ∷ before) xs)

pub first_of_each-first : {X : Type 0} (E : X → X → Bool) → IsEquivalence E → (count : ℕ) (z : X)
    (xs : List X) → filter (E z) (first_of_each count E xs) ≡ take count (filter (E z) xs)
first_of_each-first E equiv count z xs = grind (arith, kept-first)

-- elements that tie, by an order or by its test

ties_tested : (o : Ordering)
    → (not (is_lt o) && not (is_lt (ordering_reverse o))) ≡ is_eq o
ties_tested Less = refl
ties_tested Equal = refl
ties_tested Greater = refl

ties-test : {X : Type 0} (R : X → X → Ordering) → IsTotalOrder R → (x y : X)
    → ties (below R) x y ≡ eq_by_cmp R x y
ties-test R total x y = rw (total.antisymm y x) (ties_tested (R x y))

-- sorting what passes a test

put-before : {X : Type 0} (R : X → X → Ordering) (x : X) (xs : List X) → AtLeast (below R) x xs
    → put_in_order R x xs ≡ x ∷ xs
put-before R x [] least = refl
put-before R x (y ∷ ys) (first, least) = rw first refl

at_least-filter : {X : Type 0} (lt : X → X → Bool) (p : X → Bool) (x : X) (xs : List X)
    → AtLeast lt x xs → AtLeast lt x (filter p xs)
at_least-filter lt p x [] least = tt
at_least-filter lt p x (y ∷ ys) (first, least) = grind (arith, by_test, at_least-filter lt p x ys least)

at_least-after : {X : Type 0} (R : X → X → Ordering) → IsTotalOrder R → (x y : X) (ys : List X)
    → below R y x ≡ false → AtLeast (below R) y ys → AtLeast (below R) x ys
at_least-after R total x y [] first least = tt
at_least-after R total x y (z ∷ zs) first (next, least) =
    ((ranks_by total (λ w. w)).chain z y x next first, at_least-after R total x y zs first least)

put-filter : {X : Type 0} (R : X → X → Ordering) → IsTotalOrder R → (p : X → Bool) (x : X)
    (xs : List X) → Rises (below R) xs
    → filter p (put_in_order R x xs) ≡ cond (p x) (put_in_order R x (filter p xs)) (filter p xs)
put-filter R total p x [] up = refl
put-filter {X} R total p x (y ∷ ys) (least, up) =
    grind (arith, by_test, below, at_least-filter, at_least-after, cond, put-before, put-filter R total p x ys up)

pub in_order-filter : {X : Type 0} (R : X → X → Ordering) → IsTotalOrder R → (p : X → Bool)
    (xs : List X) → filter p (in_order R xs) ≡ in_order R (filter p xs)
in_order-filter R total p [] = refl
in_order-filter R total p (x ∷ xs) =
    grind (arith, put-filter, in_order-rises, ranks_by, by_test, in_order-filter R total p xs)

-- among elements that tie in the first order, the second order decides
in_order-tied : {X : Type 0} (R S : X → X → Ordering) → IsTotalOrder R → (x : X) (run : List X)
    → All (λ y. R x y ≡ Equal) run → in_order (then_cmp R S) run ≡ in_order S run
in_order-tied {X} R S total x run tied =
    let alike = λ (y z : X) (y_tied : R x y ≡ Equal) (z_tied : R x z ≡ Equal).
    let same : R y z ≡ Equal =
    sym (total.congr x y z y_tied) ∙ z_tied in ap (λ o. ordering_then o (S y z)) same in
    sym (map-id (in_order (then_cmp R S) run))
    ∙ in_order-map (λ y. R x y ≡ Equal) (λ y. y) (then_cmp R S) S alike run tied
    ∙ ap (in_order S) (map-id run)

-- the lines that are kept

pub precedences_total : (reads : Reads) → IsTotalOrder (lines_precedence reads)
precedences_total reads =
    on_total (version_in reads) (options_total any_precedence_total)

-- of the lines that tie with a line, the first
pub first_of_ties-first : (reversed : Bool) (reads : Reads) (lines : List (List ℕ))
    (line : List ℕ)
    → filter (eq_by_cmp (lines_precedence reads) line) (first_of_ties reversed reads lines)
    ≡ take 1 (filter (eq_by_cmp (lines_precedence reads) line) lines)
first_of_ties-first reversed reads lines line =
    let cmp = lines_precedence reads in
    let R = turned reversed cmp in
    let total : IsTotalOrder R = turned_total reversed cmp (precedences_total reads) in
    let alike = λ (other : List ℕ). sym (turn-tie reversed (cmp line other))
    ∙ sym (ties-test R total line other) in
    first_of_each-first (eq_by_cmp cmp) (eq_by_cmp_equiv (precedences_total reads)) 1 line
    (in_order R lines)
    ∙ ap (take 1)
    (ap (λ (p : List ℕ → Bool). filter p (in_order R lines)) (λ i other. alike other i)
    ∙ in_order-stable R (ranks_by total (λ w. w)) lines line
    ∙ ap (λ (p : List ℕ → Bool). filter p lines) (λ i other. sym (alike other) i))

-- lines of one group have one place
one_place : (group_of : List ℕ → List ℕ) (lines : List (List ℕ)) (line other : List ℕ)
    → are_of_one_group group_of line other ≡ true
    → on (group_place group_of lines) nat_cmp line other ≡ Equal
one_place group_of lines line other same =
    let place = group_place group_of lines line in
    let there : group_place group_of lines other ≡ place =
    ap (λ (group : List ℕ). position_or_len (λ l. bytes_eq group (group_of l)) lines)
    (sym ((bytes_eq-Decides (group_of line) (group_of other)).0 same)) in
    ap (nat_cmp place) there ∙ tied_itself nat_cmp_total place

-- of the lines of a group, the newest
pub newest-first : (count : ℕ) (group_of : List ℕ → List ℕ) (reads : Reads) (lines : List (List ℕ))
    (line : List ℕ)
    → filter (are_of_one_group group_of line) (newest count group_of reads lines)
    ≡ take count (in_order (turned true (lines_precedence reads))
    (filter (are_of_one_group group_of line) lines))
newest-first count group_of reads lines line =
    let same = are_of_one_group group_of line in
    let places = on (group_place group_of lines) nat_cmp in
    let newer = turned true (lines_precedence reads) in
    let R = newest_cmp group_of reads lines in
    let places_total : IsTotalOrder places = on_total (group_place group_of lines) nat_cmp_total in
    let total : IsTotalOrder R =
    then_total places_total (turned_total true _ (precedences_total reads)) in
    let tied : All (λ other. places line other ≡ Equal) (filter same lines) =
    λ k d inside. one_place group_of lines line _ (filter_passes same lines k d inside) in
    first_of_each-first (are_of_one_group group_of) (on_equiv group_of nat_list_eq_equiv) count line
    (in_order R lines)
    ∙ ap (take count)
    (in_order-filter R total same lines
    ∙ in_order-tied places newer places_total line (filter same lines) tied)

-- ---- lines as they are sorted: their keys stay in place, and sorted entries are the sorted lines

-- an entry whose key was just added to the others

key-last : (keys kept key : List ℕ) → kept ≡ keys ++ key → drop (length keys) kept ≡ key
key-last keys kept key added = ap (drop (length keys)) added ∙ drop-append_seam keys key

pub key-part : (keys kept key : List ℕ) (start : ℕ) → kept ≡ keys ++ key → start ≡ length keys
    → take (length kept - start) (drop start kept) ≡ key
key-part keys kept key start added last = grind (arith, length-append, key-last, take_all)

pub holds-last : (keys kept : List ℕ) (v : PlainAny) (entry : Entry)
    → kept ≡ keys ++ v.key → entry.start ≡ length keys
    → key_length entry ≡ length v.key → entry_kind entry ≡ v.kind
    → AreBytes v.key → entry.first ≡ from_be_bytes w64 v.key
    → entry.second ≡ from_be_bytes w64 (drop 8 v.key) → HoldsKey kept v entry
holds-last keys kept v entry added last many same small one two =
    grind (arith, length-append, key-last, take_all)

-- a key stays at its place when more keys are added
key-stays : (keys more : List ℕ) (v : PlainAny) (entry : Entry) → HoldsKey keys v entry
    → HoldsKey (keys ++ more) v entry
key-stays keys more v entry read =
    grind (arith, length-drop, length-append, drop-append-le, take-append-le)

pub read-more : (reads : Reads) (keys more : List ℕ) (entry : Entry)
    → IsRead reads keys entry → IsRead reads (keys ++ more) entry
read-more reads keys more entry (v, here, key) = (v, here, key-stays keys more v entry key)

-- no key is empty
length-is-some : (key : List ℕ) → ¬ (key ≡ []) → 0 < length key
length-is-some [] some = absurd (some refl)
length-is-some (b ∷ key) some = omega arith

length-some : (reads : Reads) (keys : List ℕ) (entry : Entry)
    → IsRead reads keys entry → 0 < key_length entry
length-some reads keys entry (v, here, held) = grind (arith, length-is-some, is_of, length-take)

-- an entry after others, whose key lies after theirs, is in turn
pub in_turn-added : (reads : Reads) (after entries : List Entry) (entry : Entry)
    (keys : List ℕ) → AreInTurn entries → All (IsRead reads keys) entries
    → entry.start ≡ length keys → after ≡ entries ++ entry ∷ [] → AreInTurn after
in_turn-added reads after entries entry keys in_turn read last added =
    subst AreInTurn (sym added)
    (all_pairs_push (λ (a b : Entry). a.start < b.start) entries entry in_turn
    (λ k d inside. let (v, here, held) = read k d inside in
    omega (arith, last, held.within, length-some reads keys _ (read k d inside))))

-- the orders of lines are total

pub lines_total : (reversed : Bool) (reads : Reads)
    → IsTotalOrder (turned reversed (lines_cmp reads))
lines_total reversed reads =
    turned_total reversed (lines_cmp reads) (on_total (version_in reads) (options_total any_total))

pub lines_ranks : (reversed : Bool) (reads : Reads)
    → IsStrictWeakOrder (λ a b. is_lt (turned reversed (lines_cmp reads) a b))
lines_ranks reversed reads = ranks_by (lines_total reversed reads) (λ (line : List ℕ). line)

-- the orders of entries are total

pub entry_total : (keys : List ℕ) → IsTotalOrder (entry_cmp keys)
entry_total keys =
    then_total
    (then_total (on_total (λ (entry : Entry). entry.first) nat_cmp_total)
    (on_total (λ (entry : Entry). entry.second) nat_cmp_total))
    (on_total (entry_key keys)
    (then_total (on_total (drop 16) nat_list_cmp_total) (on_total length nat_cmp_total)))

pub version_total : (reads : Reads) (keys : List ℕ)
    → IsTotalOrder (version_cmp reads keys)
version_total reads keys =
    then_total (entry_total keys)
    (on_total (λ entry. (entry_kind entry, reads.text_of (entry_line entry))) texts_tie_total)

-- they are those of the lines

pub keys_alike : (reads : Reads) (keys : List ℕ)
    → AreAlike (IsRead reads keys) entry_line (entry_cmp keys) (lines_precedence reads)
keys_alike reads keys a b (v, a_is, a_held) (w, b_is, b_held) =
    let by_keys : entry_cmp keys a b ≡ slice_cmp nat_cmp v.key w.key =
    rw (a_held.first, b_held.first, a_held.second, b_held.second, a_held.key, b_held.key)
    (sixteen_first v.key w.key a_held.bytes b_held.bytes) in
    let same = (is_of reads.scheme (reads.text_of (entry_line a)) v a_is).scheme_is
    ∙ sym (is_of reads.scheme (reads.text_of (entry_line b)) w b_is).scheme_is in
    by_keys ∙ sym (in_one_scheme v w same) ∙ rw (a_is, b_is) refl

versions_alike : (reads : Reads) (keys : List ℕ)
    → AreAlike (IsRead reads keys) entry_line (version_cmp reads keys) (lines_cmp reads)
versions_alike reads keys a b a_read b_read =
    let (v, a_is, a_held) = a_read in
    let (w, b_is, b_held) = b_read in
    let by_keys : entry_cmp keys a b ≡ any_precedence v w =
    keys_alike reads keys a b a_read b_read ∙ rw (a_is, b_is) refl in
    let a_text = (is_of reads.scheme (reads.text_of (entry_line a)) v a_is).text_is in
    let b_text = (is_of reads.scheme (reads.text_of (entry_line b)) w b_is).text_is in
    (λ i. ordering_then (by_keys i)
    (texts_tie (a_held.kind i, sym a_text i) (b_held.kind i, sym b_text i)))
    ∙ rw (a_is, b_is) refl

-- the lines of entries in order are the lines in order
pub lines-ordered : (reversed : Bool) (reads : Reads) (keys : List ℕ)
    (entries : List Entry) → All (IsRead reads keys) entries
    → map entry_line (in_order (turned reversed (version_cmp reads keys)) entries)
    ≡ in_order (turned reversed (lines_cmp reads)) (map entry_line entries)
lines-ordered reversed reads keys =
    in_order-map (IsRead reads keys) entry_line _ _
    (λ a b a_read b_read. ap (turn reversed) (versions_alike reads keys a b a_read b_read))

-- two strict lines whose keys have as many bytes, at most sixteen, and begin alike, tie
pub short-tie : (keys : List ℕ) (a b : Entry) (reads : Reads) → a.length ≡ b.length → entry_kind a ≡ Ideal
    → key_length a ≤ 16 → a.start + 16 ≤ length keys → b.start + 16 ≤ length keys
    → then_cmp (on (entry_key keys) after_heads_cmp) (tie_cmp reads) a b ≡ Equal
short-tie keys a b reads alike strict short here there =
    let same : key_length a ≡ key_length b = ap marked_number alike in
    let one : length (entry_key keys a) ≡ key_length a =
    omega (arith, here, short, length-take (key_length a) (drop a.start keys), length-drop a.start keys) in
    let other : length (entry_key keys b) ≡ key_length b =
    omega (arith, there, short, same, length-take (key_length b) (drop b.start keys), length-drop b.start keys) in
    let none : drop 16 (entry_key keys a) ≡ [] = drop_all 16 (entry_key keys a) (omega (arith, one, short)) in
    let none' : drop 16 (entry_key keys b) ≡ [] = drop_all 16 (entry_key keys b) (omega (arith, other, short, same)) in
    let lengths : nat_cmp (length (entry_key keys a)) (length (entry_key keys b)) ≡ Equal =
    rw (one, other, same) (tied_itself nat_cmp_total (key_length b)) in
    let keys_tie : on (entry_key keys) after_heads_cmp a b ≡ Equal = rw (none, none') lengths in
    let strict' : entry_kind b ≡ Ideal = ap kind_on (sym alike) ∙ strict in
    let texts : tie_cmp reads a b ≡ Equal = rw (strict, strict') refl in
    λ i. ordering_then (keys_tie i) (texts i)
