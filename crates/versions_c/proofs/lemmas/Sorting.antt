-- Places in the order of the keys that lie there, and in the order of their texts.
use Rattle.std.proofs.Common.{◌≡◌, ◌∙◌, ℕ, ◌+◌, ◌-◌, ◌<◌, ◌≤◌, ◌^◌, ◌==◌, zero, suc, false, List, [], ◌++◌, length, take, drop, get_or, map, Option, Some, None, refl, sym, ap, arith, append-nil, append_assoc, length-append, ◌∷◌, IfSome, Bool, true, if◌then◌else◌, add-one}
use Rattle.std.proofs.Math.{Dec.eqb, Seq.drop-append_seam, Seq.take-append_seam}
use Rattle.std.proofs.lemmas.Cmp.{nat_list_cmp_total, on_total, then_total, by_ranked, ranked, tied_itself}
use Rattle.std.proofs.lemmas.List.Elements.{All-from_get_or, All-get_or, All-cons, All-contains, All-nil, All-weaker}
use Rattle.std.proofs.lemmas.List.Sorted.{All-permutation, IsPermutation-map, ranks_by, Contains-permutation, IsPermutation-sym}
use Rattle.std.proofs.lemmas.{Bool.eqb-false, Bool.Decides.nat_tests, Grind.get_or_default_zero, List.get_or-map, List.length-map, List.map-id, List.FromFn.fill_by_all, List.FromFn.get_or-range_with_len, List.FromFn.length-range_with_len}
use Rattle.std.proofs.lemmas.Map.{Keys.apart_from_distinct, Keys.IsDistinct-from_apart, Keys.IsDistinct-IsPermutation, Made.Contains-tail}
use Rattle.std.specs.Cmp.{IsStrictWeakOrder, IsTotalOrder, bool_cmp_total, nat_cmp_total, nat_eq_equiv}
use Rattle.std.specs.{FinMap.nat_cmp-IsAntisymmetric, List.All, List.IsDistinct, List.range_with_len, List.Contains, List.Sorted.IsPermutation, List.Sorted.IsSorted, Option.option_map, Option.option_map_or, Option.unwrap_or}
use Rattle.std.specs.{Ordering.is_lt, Ordering.ordering_reverse, Ordering.ordering_then, Ordering.nat_cmp, declared.cmp.Ordering.Ordering}
use Rattle.std.specs.declared.cmp.Ordering.TheVariants.{Less, Equal, Greater}
use Rattle.version_order.proofs.lemmas.Orders.{then_assoc}
use Rattle.version_order.specs.keys.{Codes.then_second, Codes.none_last_total, Lists.none_last_cmp, Lists.bytes_cmp}
use Rattle.version_rules.proofs.lemmas.Order.{key_bytes_alone}
use Rattle.version_rules.specs.{declared.kind.Kind.Kind, declared.kind.Kind.TheVariants.Ideal, grammar.Versioning.PlainVersioning, grammar.Versioning.versioning_of, grammar.Versioning.versioning_kind}
use Rattle.version_rules.specs.{key.Key.Key, key.Key.key_of, key.Key.precedence, key.Key.key_bytes, laws.Key.versioning_cmp_total, order.Orders.versioning_cmp}
use Rattle.versions_c.specs.Sorting.{AreInOrder, IsMarked, keyed_cmp, keys_cmp, marked_tie, place_cmp, AreSorted, key_place_cmp, lying_cmp, place_cmp_in}
use Rattle.versions_c.specs.{Keys.keys_before, Keys.saturated_signed, Schemes.key_by, Written.AreOffsets, Written.text_at}
use Rattle.version_schemes.specs.{Scheme.rules, Scheme.is_mixed, declared.scheme.Scheme.Scheme, declared.scheme.Scheme.TheVariants.Mixed}
use Rattle.version_texts.specs.Order.{marked_number, texts_tie}
use Rattle.version_texts.proofs.lemmas.Ties.{texts_alike, texts_tie_total}
use Rattle.version_schemes.proofs.lemmas.Table.{not_mixed}

-- numbers that are each its own place
pub counted : (xs : List ℕ) (n : ℕ) → length xs ≡ n → ((i : ℕ) → i < n → get_or xs i 0 ≡ i)
    → xs ≡ range_with_len 0 n
counted xs n long each = fill_by_all (λ i. i) xs n 0 long each ∙ map-id (range_with_len 0 n)

-- the order by keys is total
pub keys_total : IsTotalOrder keys_cmp
keys_total = then_total
    (on_total (λ (key : List ℕ). length key == 0) bool_cmp_total) nat_list_cmp_total

pub keyed_total : (texts offsets keys key_offsets : List ℕ)
    → IsTotalOrder (keyed_cmp texts offsets keys key_offsets)
keyed_total texts offsets keys key_offsets =
    then_total (on_total (λ m. text_at keys key_offsets (marked_number m)) keys_total)
    (then_total (on_total (marked_tie texts offsets) texts_tie_total)
    (on_total marked_number nat_cmp_total))

last_equal : (first next last : Ordering)
    → ordering_then first (ordering_then next last) ≡ Equal → last ≡ Equal
last_equal Less next last e = cc e
last_equal Equal Less last e = cc e
last_equal Equal Equal last e = e
last_equal Equal Greater last e = cc e
last_equal Greater next last e = cc e

-- a place ties only with itself
keyed_same : (texts offsets keys key_offsets : List ℕ) (m n : ℕ)
    → keyed_cmp texts offsets keys key_offsets m n ≡ Equal → marked_number m ≡ marked_number n
keyed_same texts offsets keys key_offsets m n tied =
    nat_cmp-IsAntisymmetric (marked_number m) (marked_number n) (last_equal _ _ _ tied)

pub keyed_ranks : (texts offsets keys key_offsets : List ℕ)
    → IsStrictWeakOrder (λ a b. is_lt (keyed_cmp texts offsets keys key_offsets a b))
keyed_ranks texts offsets keys key_offsets =
    ranks_by (keyed_total texts offsets keys key_offsets) (λ (i : ℕ). i)

-- ---- where the keys lie

-- the key of a text's version, and nothing if the text is not a version
abbrev pub key_or_nothing : Option PlainVersioning → List ℕ
key_or_nothing spelled = unwrap_or (option_map (λ v. key_bytes (key_of v)) spelled) []

-- the list between two lists
between_two : (before key more : List ℕ) (start end : ℕ) → start ≡ length before
    → end ≡ length before + length key
    → take (end - start) (drop start (before ++ (key ++ more))) ≡ key
between_two before key more start end begins ends =
    let count : end - start ≡ length key = omega (arith, begins, ends) in
    rw (count, begins)
    (ap (take (length key)) (drop-append_seam before (key ++ more)) ∙ take-append_seam key more)

module _ (key_of : List ℕ → Option (List ℕ)) where
  -- the keys of all texts begin with those of the first ones
  keys_begin : (texts offsets : List ℕ) (i k : ℕ)
      → (more : List ℕ) × (keys_before key_of texts offsets (k + i) ≡ keys_before key_of texts offsets i ++ more)
  keys_begin texts offsets i zero =
      let none : 0 + i ≡ i = omega arith in
      ([], ap (keys_before key_of texts offsets) none ∙ sym (append-nil (keys_before key_of texts offsets i)))
  keys_begin texts offsets i (suc k) =
      let shorter = keys_begin texts offsets i k in
      let next = unwrap_or (key_of (text_at texts offsets (k + i))) [] in
      let one_more : suc k + i ≡ suc (k + i) = omega arith in (
        shorter.0 ++ next,
        ap (keys_before key_of texts offsets) one_more
            ∙ ap (λ (l : List ℕ). l ++ next) shorter.1
            ∙ append_assoc (keys_before key_of texts offsets i) shorter.0 next,
      )

  -- the offsets of keys that fit are offsets in their buffer
  pub are_key_offsets : (texts offsets told : List ℕ) (room count : ℕ) → length told ≡ count + 1
      → length (keys_before key_of texts offsets count) ≤ room
      → ((i : ℕ) → i ≤ count
      → get_or told i 0 ≡ saturated_signed (length (keys_before key_of texts offsets i)))
      → AreOffsets told room count
  are_key_offsets texts offsets told room count many fits each =
      record {
        one_more = many;
        ascending = λ i j d low inside.
            let more = keys_begin texts offsets i (j - i) in
            let up_to : j - i + i ≡ j = omega (arith, low) in
            let longer : length (keys_before key_of texts offsets j)
            ≡ length (keys_before key_of texts offsets i) + length more.0 =
            ap (λ k. length (keys_before key_of texts offsets k)) (sym up_to) ∙ ap length more.1
            ∙ length-append (keys_before key_of texts offsets i) more.0 in
            omega (
              arith,
              longer,
              each i (omega (arith, low, inside, many)),
              each j (omega (arith, inside, many)),
              get_or_default_zero told i d (omega (arith, low, inside)),
              get_or_default_zero told j d inside,
            );
        within = omega (arith, each count (omega arith), fits);
      }

  -- the key of each text lies where the offsets of keys say
  pub key_lies : (texts offsets keys key_offsets rest : List ℕ) (count : ℕ)
      → keys ≡ keys_before key_of texts offsets count ++ rest
      → length (keys_before key_of texts offsets count) < 2 ^ 63
      → ((i : ℕ) → i ≤ count
      → get_or key_offsets i 0 ≡ saturated_signed (length (keys_before key_of texts offsets i)))
      → (i : ℕ) → i < count
      → text_at keys key_offsets i ≡ unwrap_or (key_of (text_at texts offsets i)) []
  key_lies texts offsets keys key_offsets rest count written small told i below =
      let before = keys_before key_of texts offsets i in
      let key = unwrap_or (key_of (text_at texts offsets i)) [] in
      let one_more : i + 1 ≡ suc i = omega arith in
      let next : keys_before key_of texts offsets (i + 1) ≡ before ++ key =
      ap (keys_before key_of texts offsets) one_more in
      let behind = keys_begin texts offsets (i + 1) (count - (i + 1)) in
      let up_to : count - (i + 1) + (i + 1) ≡ count = omega (arith, below) in
      let all : keys_before key_of texts offsets count ≡ (before ++ key) ++ behind.0 =
      ap (keys_before key_of texts offsets) (sym up_to) ∙ behind.1
      ∙ ap (λ (l : List ℕ). l ++ behind.0) next in
      let stands : keys ≡ before ++ (key ++ (behind.0 ++ rest)) =
      written ∙ ap (λ (l : List ℕ). l ++ rest) all ∙ append_assoc (before ++ key) behind.0 rest
      ∙ append_assoc before key (behind.0 ++ rest) in
      let long : length (keys_before key_of texts offsets count)
      ≡ length before + length key + length behind.0 =
      ap length all ∙ length-append (before ++ key) behind.0
      ∙ ap (λ n. n + length behind.0) (length-append before key) in
      let start : get_or key_offsets i 0 ≡ length before =
      omega (arith, told i (omega (arith, below)), long, small) in
      let end : get_or key_offsets (i + 1) 0 ≡ length before + length key =
      omega (
        arith,
        told (i + 1) (omega (arith, below)),
        ap length next,
        length-append before key,
        long,
        small,
      ) in
      ap (λ (l : List ℕ). text_at l key_offsets i) stands
      ∙ between_two before key (behind.0 ++ rest) (get_or key_offsets i 0)
      (get_or key_offsets (i + 1) 0) start end

-- ---- the order by keys is that of the texts

no_key_empty : (k : Key) → (length (key_bytes k) == 0) ≡ false
no_key_empty k = grind (arith, length-append, nat_tests)

-- the kind of a text by its version, as it is marked
abbrev marked_as : Option PlainVersioning → Kind
marked_as spelled = option_map_or versioning_kind spelled Ideal

alike : (a b : List ℕ) (v w : Option PlainVersioning) (o : Ordering) → versioning_of a ≡ v
    → versioning_of b ≡ w
    → ordering_then (keys_cmp (key_or_nothing v) (key_or_nothing w))
    (ordering_then (texts_tie (marked_as v, a) (marked_as w, b)) o)
    ≡ ordering_then (none_last_cmp versioning_cmp v w) o
alike a b None None o here there = refl
alike a b (Some v) None o here there = rw (no_key_empty (key_of v)) refl
alike a b None (Some w) o here there = rw (no_key_empty (key_of w)) refl
alike a b (Some v) (Some w) o here there =
    rw (no_key_empty (key_of v), no_key_empty (key_of w), key_bytes_alone (key_of v) (key_of w))
    (sym (then_assoc (precedence (key_of v) (key_of w))
    (texts_tie (versioning_kind v, a) (versioning_kind w, b)) o)
    ∙ ap (λ r. ordering_then r o) (texts_alike a b v w here there))

-- two marked places compare as their texts do, if their keys lie there
pub places_alike : (texts offsets keys key_offsets : List ℕ) (m n : ℕ)
    → IsMarked texts offsets (marked_number m) m → IsMarked texts offsets (marked_number n) n
    → text_at keys key_offsets (marked_number m)
    ≡ key_or_nothing (versioning_of (text_at texts offsets (marked_number m)))
    → text_at keys key_offsets (marked_number n)
    ≡ key_or_nothing (versioning_of (text_at texts offsets (marked_number n)))
    → keyed_cmp texts offsets keys key_offsets m n
    ≡ place_cmp texts offsets (marked_number m) (marked_number n)
places_alike texts offsets keys key_offsets m n m_marked n_marked m_lies n_lies =
    grind (arith, alike)

-- ---- places in order

-- places that change places stay different

eqb_flips : (x y : ℕ) → eqb x y ≡ eqb y x
eqb_flips = nat_eq_equiv.symm

range_distinct : (n : ℕ) → IsDistinct eqb (range_with_len 0 n)
range_distinct n =
    grind (
      arith,
      IsDistinct-from_apart,
      eqb,
      length-range_with_len,
      get_or-range_with_len,
      nat_tests,
    )

pub places_differ : (order : List ℕ) (n : ℕ) → IsPermutation (range_with_len 0 n) order → (k : ℕ)
    → k + 1 < length order → ¬ (get_or order k 0 ≡ get_or order (k + 1) 0)
places_differ order n permutes k inside =
    eqb-false _ _
    (apart_from_distinct eqb order k (k + 1) 0
    (IsDistinct-IsPermutation eqb eqb_flips (range_with_len 0 n) order permutes
    (range_distinct n)) (omega arith) inside)

-- a place that is neither above nor Equal is below
pub below : (o : Ordering) → is_lt (ordering_reverse o) ≡ false → ¬ (o ≡ Equal) → o ≡ Less
below Less above other = refl
below Equal above other = absurd (other refl)
below Greater above other = cc above

-- marked places of the first texts
abbrev AreMarked : List ℕ → List ℕ → ℕ → ℕ → Type 0
AreMarked texts offsets n m = (marked_number m < n) × IsMarked texts offsets (marked_number m) m

all_marked : (texts offsets marks : List ℕ) (n : ℕ) → length marks ≡ n
    → ((i : ℕ) → i < n → IsMarked texts offsets i (get_or marks i 0))
    → All (AreMarked texts offsets n) marks
all_marked texts offsets marks n long each =
    All-from_get_or (AreMarked texts offsets n) marks 0 (λ i inside.
    let here = each i (omega (arith, inside, long)) in (
      omega (arith, here.number, inside, long),
      rw here.number here,
    ))

places_of : (texts offsets marks : List ℕ) (n : ℕ) → length marks ≡ n
    → ((i : ℕ) → i < n → IsMarked texts offsets i (get_or marks i 0))
    → map marked_number marks ≡ range_with_len 0 n
places_of texts offsets marks n long each =
    counted (map marked_number marks) n (length-map marks marked_number ∙ long)
    (λ i inside. get_or-map marked_number marks i 0 0 (omega (arith, inside, long))
    ∙ (each i inside).number)

pub in_order : (texts offsets keys key_offsets marks sorted_marks : List ℕ) (n : ℕ)
    → length offsets ≡ n + 1 → length marks ≡ n
    → ((i : ℕ) → i < n → IsMarked texts offsets i (get_or marks i 0))
    → ((i : ℕ) → i < n
    → text_at keys key_offsets i ≡ key_or_nothing (versioning_of (text_at texts offsets i)))
    → IsPermutation marks sorted_marks
    → IsSorted (keyed_cmp texts offsets keys key_offsets) sorted_marks
    → AreInOrder Mixed texts offsets (map marked_number sorted_marks)
in_order texts offsets keys key_offsets marks sorted_marks n many long each lies permutes sorted =
    let count : length offsets - 1 ≡ n = omega (arith, many) in
    let cmp = keyed_cmp texts offsets keys key_offsets in
    let order = map marked_number sorted_marks in
    let places : IsPermutation (range_with_len 0 n) order =
    rw (← places_of texts offsets marks n long each)
    (IsPermutation-map marked_number marks sorted_marks permutes) in
    let all = All-permutation (AreMarked texts offsets n) marks sorted_marks permutes
    (all_marked texts offsets marks n long each) in
    record {
      places = rw count places;
      ascending = λ k inside.
          let within : k + 1 < length sorted_marks =
          omega (arith, inside, length-map sorted_marks marked_number) in
          let i = get_or sorted_marks k 0 in
          let j = get_or sorted_marks (k + 1) 0 in
          let not_above : is_lt (ordering_reverse (cmp i j)) ≡ false =
          ap is_lt (sym ((keyed_total texts offsets keys key_offsets).antisymm j i))
          ∙ sorted k 0 (omega arith) within in
          let i_is : get_or order k 0 ≡ marked_number i =
          get_or-map marked_number sorted_marks k 0 0 (omega (arith, within)) in
          let j_is : get_or order (k + 1) 0 ≡ marked_number j =
          get_or-map marked_number sorted_marks (k + 1) 0 0 within in
          let other = λ (tied : cmp i j ≡ Equal). places_differ order n places k inside
          (i_is ∙ keyed_same texts offsets keys key_offsets i j tied ∙ sym j_is) in
          let i_marked =
          All-get_or (AreMarked texts offsets n) sorted_marks k 0 (omega (arith, within)) all in
          let j_marked = All-get_or (AreMarked texts offsets n) sorted_marks (k + 1) 0 within all in
          rw (i_is, j_is)
          (sym (places_alike texts offsets keys key_offsets i j i_marked.1 j_marked.1
          (lies (marked_number i) i_marked.0) (lies (marked_number j) j_marked.0))
          ∙ below (cmp i j) not_above other);
    }

-- ---- places in the order of the keys that lie there alone

lying_total : (keys key_offsets : List ℕ) → IsTotalOrder (lying_cmp keys key_offsets)
lying_total keys key_offsets = then_total (on_total (λ i. text_at keys key_offsets i) keys_total) nat_cmp_total

pub lying_ranks : (keys key_offsets : List ℕ) → IsStrictWeakOrder (λ a b. is_lt (lying_cmp keys key_offsets a b))
lying_ranks keys key_offsets = ranks_by (lying_total keys key_offsets) (λ (i : ℕ). i)

-- a place ties only with itself
lying_same : (keys key_offsets : List ℕ) (m n : ℕ) → lying_cmp keys key_offsets m n ≡ Equal → m ≡ n
lying_same keys key_offsets m n tied = nat_cmp-IsAntisymmetric m n (then_second _ _ tied)

not_empty : (key : List ℕ) → ¬ (key ≡ []) → (length key == 0) ≡ false
not_empty [] some = absurd (some refl)
not_empty (byte ∷ key) some = grind (arith, nat_tests)

-- keys that lie there compare as those of the texts
alike_by_keys : (a b : Option (List ℕ)) (o : Ordering) → IfSome a (λ key. ¬ (key ≡ [])) → IfSome b (λ key. ¬ (key ≡ []))
    → ordering_then (keys_cmp (unwrap_or a []) (unwrap_or b [])) o ≡ ordering_then (none_last_cmp bytes_cmp a b) o
alike_by_keys None None o one other = refl
alike_by_keys (Some k) None o one other = rw (not_empty k one) refl
alike_by_keys None (Some l) o one other = rw (not_empty l other) refl
alike_by_keys (Some k) (Some l) o one other = rw (not_empty k one, not_empty l other) refl

pub in_key_order : (key_of : List ℕ → Option (List ℕ)) (texts offsets keys key_offsets sorted_places : List ℕ) (n : ℕ)
    → ((i : ℕ) → i < n → text_at keys key_offsets i ≡ unwrap_or (key_of (text_at texts offsets i)) [])
    → ((text : List ℕ) → IfSome (key_of text) (λ key. ¬ (key ≡ [])))
    → IsPermutation (range_with_len 0 n) sorted_places → IsSorted (lying_cmp keys key_offsets) sorted_places
    → AreSorted (key_place_cmp key_of texts offsets) n sorted_places
in_key_order key_of texts offsets keys key_offsets sorted_places n lies some permutes sorted =
    let cmp = lying_cmp keys key_offsets in
    let all : All (λ i. i < n) sorted_places =
    All-permutation (λ i. i < n) (range_with_len 0 n) sorted_places permutes
    (All-from_get_or (λ i. i < n) (range_with_len 0 n) 0 (λ i inside.
    omega (arith, inside, length-range_with_len 0 n, get_or-range_with_len 0 n i 0 (omega (arith, inside, length-range_with_len 0 n))))) in
    record {
      places = permutes;
      ascending = λ k inside.
          let i = get_or sorted_places k 0 in
          let j = get_or sorted_places (k + 1) 0 in
          let not_above : is_lt (ordering_reverse (cmp i j)) ≡ false =
          ap is_lt (sym ((lying_total keys key_offsets).antisymm j i)) ∙ sorted k 0 (omega arith) inside in
          let other = λ (tied : cmp i j ≡ Equal). places_differ sorted_places n permutes k inside
          (lying_same keys key_offsets i j tied) in
          let i_lies = lies i (All-get_or (λ i. i < n) sorted_places k 0 (omega (arith, inside)) all) in
          let j_lies = lies j (All-get_or (λ i. i < n) sorted_places (k + 1) 0 inside all) in
          sym (alike_by_keys (key_of (text_at texts offsets i)) (key_of (text_at texts offsets j)) (nat_cmp i j)
          (some (text_at texts offsets i)) (some (text_at texts offsets j)))
          ∙ (λ t. ordering_then (keys_cmp ((sym i_lies) t) ((sym j_lies) t)) (nat_cmp i j))
          ∙ below (cmp i j) not_above other;
    }

-- in all schemes but mixed places are ordered by keys alone
pub by_keys_alone : (scheme : Scheme) → ¬ (scheme ≡ Mixed) → place_cmp_in scheme ≡ key_place_cmp (key_by (rules scheme).read_as)
by_keys_alone scheme other = rw (not_mixed scheme other) refl

-- ---- the places of texts have one order

key_place_total : (key_of : List ℕ → Option (List ℕ)) (texts offsets : List ℕ)
    → IsTotalOrder (key_place_cmp key_of texts offsets)
key_place_total key_of texts offsets =
    then_total (on_total (λ i. key_of (text_at texts offsets i)) (none_last_total nat_list_cmp_total)) nat_cmp_total

mixed_total : (texts offsets : List ℕ) → IsTotalOrder (place_cmp texts offsets)
mixed_total texts offsets =
    then_total (on_total (λ i. versioning_of (text_at texts offsets i))
    (none_last_total versioning_cmp_total)) nat_cmp_total

place_total : (scheme : Scheme) (texts offsets : List ℕ) → IsTotalOrder (place_cmp_in scheme texts offsets)
place_total scheme texts offsets = by (is_mixed scheme)
  where
    by : (mixed : Bool)
        → IsTotalOrder ((if mixed then place_cmp else key_place_cmp (key_by (rules scheme).read_as)) texts offsets)
    by true = mixed_total texts offsets
    by false = key_place_total (key_by (rules scheme).read_as) texts offsets

module _ (R : ℕ → ℕ → Ordering) (total : IsTotalOrder R) where
  -- each element is below all elements after it
  abbrev Ascends : List ℕ → Type 0
  Ascends [] = Unit {0}
  Ascends (x ∷ xs) = All (λ y. R x y ≡ Less) xs × Ascends xs

  -- if each element is below the next, it is below all elements after it
  ascends : (xs : List ℕ)
      → ((k : ℕ) → k + 1 < length xs → R (get_or xs k 0) (get_or xs (k + 1) 0) ≡ Less) → Ascends xs
  ascends [] next = tt
  ascends (x ∷ []) next = (All-nil (λ y. R x y ≡ Less), tt)
  ascends (x ∷ y ∷ ys) next =
      let first : R x y ≡ Less = next 0 (omega arith) in
      let others = ascends (y ∷ ys)
      (λ k inside. rw (add-one k) (rw (add-one (suc k)) at (next (suc k) (omega arith)))) in (
        All-cons (λ z. R x z ≡ Less) y ys first
            (All-weaker (λ z. R y z ≡ Less) (λ z. R x z ≡ Less)
            (λ z up. total.trans x y z first up) ys others.0),
        others,
      )

  -- nothing is below itself
  not_below_itself : (x : ℕ) → ¬ (R x x ≡ Less)
  not_below_itself x up = cc (up, tied_itself total x)

  -- and of two elements at most one is below the other
  not_both : (x y : ℕ) → R x y ≡ Less → ¬ (R y x ≡ Less)
  not_both x y up down = not_below_itself x (total.trans x y x up down)

  -- the elements after the first are in the list
  behind : (x : ℕ) (xs : List ℕ) (z : ℕ) → Contains xs z → Contains (x ∷ xs) z
  behind x xs z (k, inside, at) = (suc k, omega (arith, inside), at)

  -- the first element of a list that ascends does not come again
  not_first : (x : ℕ) (xs : List ℕ) (z : ℕ) → Ascends (x ∷ xs) → Contains xs z → ¬ (x ≡ z)
  not_first x xs z up inside same =
      not_below_itself x (ap (R x) same ∙ All-contains (λ y. R x y ≡ Less) xs z up.0 inside)

  -- two lists that ascend, with the same elements, are equal
  same : (xs ys : List ℕ) → Ascends xs → Ascends ys → ((z : ℕ) → Contains xs z → Contains ys z)
      → ((z : ℕ) → Contains ys z → Contains xs z) → xs ≡ ys
  same [] [] xs_up ys_up there back = refl
  same [] (y ∷ ys) xs_up ys_up there back =
      absurd (let none = back y (0, omega arith, refl) in omega (arith, none.1))
  same (x ∷ xs) [] xs_up ys_up there back =
      absurd (let none = there x (0, omega arith, refl) in omega (arith, none.1))
  same (x ∷ xs) (y ∷ ys) xs_up ys_up there back =
      let apart = λ (differ : ¬ (x ≡ y)).
      let down = All-contains (λ z. R y z ≡ Less) ys x ys_up.0
      (Contains-tail y ys x (λ e. differ (sym e)) (there x (0, omega arith, refl))) in
      let up = All-contains (λ z. R x z ≡ Less) xs y xs_up.0
      (Contains-tail x xs y differ (back y (0, omega arith, refl))) in
      not_both x y up down in
      by_ranked (x < y) (x ≡ y) (y < x) (nat_cmp x y) (ranked x y _ refl)
      (λ _ less. absurd (apart (λ e. omega (arith, less, e))))
      (λ _ e.
      let others = same xs ys xs_up.1 ys_up.1
      (λ z inside. Contains-tail y ys z (λ f. not_first x xs z xs_up inside (e ∙ f))
      (there z (behind x xs z inside)))
      (λ z inside. Contains-tail x xs z (λ f. not_first y ys z ys_up inside (sym e ∙ f))
      (back z (behind y ys z inside))) in
      ap (λ h. h ∷ xs) e ∙ ap (λ (l : List ℕ). y ∷ l) others)
      (λ _ more. absurd (apart (λ e. omega (arith, more, e))))

pub one_order : (scheme : Scheme) (texts offsets order other : List ℕ) → AreInOrder scheme texts offsets order
    → AreInOrder scheme texts offsets other → other ≡ order
one_order scheme texts offsets order other one two =
    let R = place_cmp_in scheme texts offsets in
    let total = place_total scheme texts offsets in
    let places = range_with_len 0 (length offsets - 1) in
    same R total other order (ascends R total other two.ascending)
    (ascends R total order one.ascending)
    (λ z inside. Contains-permutation places order z one.places
    (Contains-permutation other places z (IsPermutation-sym places other two.places) inside))
    (λ z inside. Contains-permutation places other z two.places
    (Contains-permutation order places z (IsPermutation-sym places order one.places) inside))
