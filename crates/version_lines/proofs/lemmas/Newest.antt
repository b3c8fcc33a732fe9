-- The newest of entries, and the first of entries that tie, are those of their lines.
use Rattle.std.proofs.Common.{◌≡◌, ℕ, ◌+◌, ◌<◌, ◌≤◌, ◌-◌, ◌==◌, Bool, true, false, not, cond, List, [], ◌∷◌, ◌++◌, length, take, drop, set, get_or, map, nat_lt, Some, refl, sym, ap, ◌∙◌, subst, arith, append_assoc, length-append}
use Rattle.std.specs.List.{All, AllPairs, filter, position, position_or_len, prefix_len}
use Rattle.std.specs.{BTreeMap.BTreeMap, BTreeMap.get_by, Cmp.IsTotalOrder, Cmp.both_ways, Cmp.Lexicographic.slice_cmp, List.Sorted.IsPermutation, Option.unwrap_or, Ordering.eq_by_cmp, Ordering.is_eq, Ordering.nat_cmp, Str.bytes_eq}
use Rattle.std.proofs.lemmas.Bool.{eq-eqb, eqb-true, le-ltb, lt-ltb, ltb-false, ltb-true, true≢false}
use Rattle.std.proofs.lemmas.List.{drop_more, get_or-map, get_or-set_other, map-append, length-map, length-set, length-take, take-append-drop, take_more}
use Rattle.std.proofs.lemmas.{Bool.Decides.nat_tests, Cmp.nat_cmp_total, Cmp.nat_list_eq_equiv, Cmp.on_total, Cmp.then_total, Grind.get_or-set_at, Grind.get_or_default_zero, List.Elements.All-map}
use Rattle.std.proofs.lemmas.List.{Folds.position_or_len_push, Folds.prefix_len-append, Sorted.All-permutation, Sorted.length_permutation, Sums.fails_before_first, Sums.passes_at_first, Sums.prefix_len-drop_no, Sums.prefix_len-le-length}
use Rattle.std.proofs.lemmas.{Simd.map-map, Slice.Eq.bytes_eq-Decides}
use Rattle.version_lines.specs.Newest.{are_of_one_group, first_after, first_of_each, first_of_ties, group_place, newest, newest_cmp, are_at_one_place, placed, placed_cmp, placed_entry, placed_start}
use Rattle.version_lines.specs.Sort.{Reads, lines_precedence, in_order, turn, turned}
use Rattle.version_lines.specs.{Entry.entry_cmp, Entry.entry_line, Entry.AreInTurn, Entry.IsRead, declared.sort.entry.Entry.Entry, declared.sort.newest.Placed.Placed}
use Rattle.version_lines.proofs.lemmas.Sorting.{AreAlike, by_test, in_order-map, in_order-permutes, turned_total}
use Rattle.version_lines.proofs.lemmas.{FirstOfEach.AreSame, FirstOfEach.first_of_each-map, KeyedLines.entry_total, KeyedLines.keys_alike}
use denote.Ref.{Bor}

-- of entries that tie, the first are the first of the lines that tie
pub first_of_ties-entries : (reversed : Bool) (reads : Reads) (keys : List ℕ)
    (entries : List Entry) → All (IsRead reads keys) entries
    → map entry_line
    (first_of_each 1 (eq_by_cmp (entry_cmp keys)) (in_order (turned reversed (entry_cmp keys)) entries))
    ≡ first_of_ties reversed reads (map entry_line entries)
first_of_ties-entries reversed reads keys entries read =
    let P = IsRead reads keys in
    let R = turned reversed (entry_cmp keys) in
    first_of_each-map P entry_line _ _
    (λ a b a_read b_read. ap is_eq (keys_alike reads keys a b a_read b_read)) 1 (in_order R entries)
    (All-permutation P entries (in_order R entries) (in_order-permutes R entries) read)
    ∙ ap (first_of_each 1 (eq_by_cmp (lines_precedence reads)))
    (in_order-map P entry_line R (turned reversed (lines_precedence reads))
    (λ a b a_read b_read. ap (turn reversed) (keys_alike reads keys a b a_read b_read)) entries read)

-- the place at which a test first passes, among so many elements and one more

module _ {X : Type 0} (p : X → Bool) (xs : List X) (i : ℕ) (d : X) (inside : i < length xs) where
  pub position-more : position p (take (i + 1) xs)
      ≡ cond (p (get_or xs i d)) (Some (unwrap_or (position p (take i xs)) i)) (position p (take i xs))
  position-more =
      rw (take_more xs i d inside) (grind (
        arith,
        nat_tests,
        position_or_len_push p (take i xs) (get_or xs i d),
        length-append (take i xs) (get_or xs i d ∷ []),
        length-take i xs,
        prefix_len-le-length (λ x. not (p x)) (take i xs),
      ))

  pub position-here : p (get_or xs i d) ≡ true
      → position_or_len p xs ≡ unwrap_or (position p (take i xs)) i
  position-here passes =
      let q : X → Bool = λ x. not (p x) in
      let left : prefix_len q (drop i xs) ≡ 0 =
      prefix_len-drop_no q xs i d inside (ap not passes) in
      ap (position_or_len p) (sym (take-append-drop i xs))
      ∙ grind (
        arith,
        nat_tests,
        prefix_len-append q (take i xs) (drop i xs),
        left,
        length-take i xs,
        prefix_len-le-length q (take i xs),
      )

  position-le : p (get_or xs i d) ≡ true → position_or_len p xs ≤ i
  position-le passes = grind (arith, by_test, true≢false, fails_before_first, ltb-true, ltb-false)

-- going over lines: the place of a line's group is where it first was, or here

module _ (group_of : List ℕ → List ℕ) (entries : List Entry) (i : ℕ) (d : Entry)
    (inside : i < length entries) where
  -- a line is of its group
  own_group : are_of_one_group group_of (entry_line (get_or entries i d))
      (get_or (map entry_line entries) i (entry_line d)) ≡ true
  own_group = grind (arith, bytes_eq-Decides, get_or-map)

  pub place-here : group_place group_of (map entry_line entries) (entry_line (get_or entries i d))
      ≡ unwrap_or (position (are_of_one_group group_of (entry_line (get_or entries i d)))
      (take i (map entry_line entries))) i
  place-here = grind (arith, position-here, length-map, own_group)

  place-within : group_place group_of (map entry_line entries) (entry_line (get_or entries i d))
      < length entries
  place-within = grind (arith, position-le, length-map, own_group)

pub all_within : (group_of : List ℕ → List ℕ) (entries : List Entry)
    → All (λ (line : Placed). line.place < length entries)
    (map (placed group_of (map entry_line entries)) entries)
all_within group_of entries =
    All-map (λ (line : Placed). line.place < length entries)
    (placed group_of (map entry_line entries)) entries (place-within group_of entries)

-- one line more

module _ (group_of : List ℕ → List ℕ) (entries : List Entry) (i : ℕ) (d : Entry)
    (inside : i < length entries) (group : List ℕ) (place : ℕ)
    (group_is : group ≡ group_of (entry_line (get_or entries i d)))
    (place_is : place ≡ unwrap_or (position (λ line. bytes_eq group (group_of line))
    (take i (map entry_line entries))) i) where
  pub placed-more : (lines after : List Placed)
      → lines ≡ map (placed group_of (map entry_line entries)) (take i entries)
      → after ≡ lines ++ record { entry = get_or entries i d; place = place } ∷ []
      → after ≡ map (placed group_of (map entry_line entries)) (take (i + 1) entries)
  placed-more lines after lines_are pushed =
      let f = placed group_of (map entry_line entries) in
      let here : place ≡ group_place group_of (map entry_line entries) (entry_line (get_or entries i d)) =
      place_is ∙ rw group_is (sym (place-here group_of entries i d inside)) in
      pushed
      ∙ (λ j. lines_are j ++ record { entry = get_or entries i d; place = here j } ∷ [])
      ∙ sym (ap (map f) (take_more entries i d inside)
      ∙ map-append f (take i entries) (get_or entries i d ∷ []))

  pub places-more : (m n : BTreeMap (Bor (List ℕ)) ℕ)
      → ((other : List ℕ) → get_by (λ key. slice_cmp nat_cmp other key.now) n
      ≡ cond (bytes_eq group other) (Some place) (get_by (λ key. slice_cmp nat_cmp other key.now) m))
      → ((other : List ℕ) → get_by (λ key. slice_cmp nat_cmp other key.now) m
      ≡ position (λ line. bytes_eq other (group_of line)) (take i (map entry_line entries)))
      → (other : List ℕ) → get_by (λ key. slice_cmp nat_cmp other key.now) n
      ≡ position (λ line. bytes_eq other (group_of line)) (take (i + 1) (map entry_line entries))
  places-more m n updates places other =
      let lines = map entry_line entries in
      let here : group ≡ group_of (get_or lines i (entry_line d)) =
      group_is ∙ ap group_of (sym (get_or-map entry_line entries i d (entry_line d) inside)) in
      let more : (o : List ℕ) → position (λ line. bytes_eq o (group_of line)) (take (i + 1) lines)
      ≡ cond (bytes_eq o group)
      (Some (unwrap_or (position (λ line. bytes_eq o (group_of line)) (take i lines)) i))
      (position (λ line. bytes_eq o (group_of line)) (take i lines)) =
      λ o. rw here
      (position-more (λ line. bytes_eq o (group_of line)) lines i (entry_line d)
      (omega (arith, length-map entries entry_line))) in
      updates other
      ∙ by_test (bytes_eq group other)
      (λ same. let one : group ≡ other = (bytes_eq-Decides group other).0 same in
      rw same (subst (λ (o : List ℕ). Some place
      ≡ position (λ line. bytes_eq o (group_of line)) (take (i + 1) lines)) one
      (sym (more group ∙ rw ((bytes_eq-Decides group group).1 refl) (ap Some (sym place_is))))))
      (λ apart. let other_apart : bytes_eq other group ≡ false =
      nat_list_eq_equiv.symm other group ∙ apart in
      rw apart (places other ∙ sym (more other ∙ rw other_apart refl)))

-- sorted, they are as many
pub sorted_within : (group_of : List ℕ → List ℕ) (keys : List ℕ) (entries : List Entry)
    (lines sorted : List Placed) → lines ≡ map (placed group_of (map entry_line entries)) entries
    → sorted ≡ in_order (placed_cmp keys) lines
    → All (λ (line : Placed). line.place < length sorted) sorted
sorted_within group_of keys entries lines sorted lines_are in_turn =
    let moved : IsPermutation lines sorted =
    subst (IsPermutation lines) (sym in_turn) (in_order-permutes (placed_cmp keys) lines) in
    let many : length entries ≡ length sorted =
    omega (
      arith,
      length_permutation lines sorted moved,
      ap length lines_are,
      length-map entries (placed group_of (map entry_line entries)),
    ) in
    subst (λ (n : ℕ). All (λ (line : Placed). line.place < n) sorted) many
    (All-permutation (λ (line : Placed). line.place < length entries) lines sorted moved
    (rw lines_are (all_within group_of entries)))

-- a line with its key and the place of its group among some lines, one of which is of this group
record IsPlaced (group_of : List ℕ → List ℕ) (reads : Reads) (keys : List ℕ) (lines : List (List ℕ))
    (line : Placed) : Type 0 where
  pub read : IsRead reads keys line.entry
  pub place : line.place ≡ group_place group_of lines (entry_line line.entry)
  pub within : line.place < length lines

all_placed : (group_of : List ℕ → List ℕ) (reads : Reads) (keys : List ℕ) (entries : List Entry)
    → All (IsRead reads keys) entries
    → All (IsPlaced group_of reads keys (map entry_line entries))
    (map (placed group_of (map entry_line entries)) entries)
all_placed group_of reads keys entries read =
    All-map (IsPlaced group_of reads keys (map entry_line entries))
    (placed group_of (map entry_line entries)) entries
    (λ k d inside. record {
      read = read k d inside;
      place = refl;
      within = omega (
        arith,
        place-within group_of entries k d inside,
        length-map entries entry_line,
      );
    })

-- such lines compare as their lines do

abbrev placed_line : Placed → List ℕ
placed_line line = entry_line line.entry

placed_alike : (group_of : List ℕ → List ℕ) (reads : Reads) (keys : List ℕ) (lines : List (List ℕ))
    → AreAlike (IsPlaced group_of reads keys lines) placed_line
    (placed_cmp keys) (newest_cmp group_of reads lines)
placed_alike group_of reads keys lines a b a_placed b_placed = grind (arith, keys_alike)

-- and have one place if they are of one group

group-there : (group_of : List ℕ → List ℕ) (lines : List (List ℕ)) (line : List ℕ)
    → group_place group_of lines line < length lines
    → group_of line ≡ group_of (get_or lines (group_place group_of lines line) [])
group-there group_of lines line inside =
    (bytes_eq-Decides _ _).0 (passes_at_first (are_of_one_group group_of line) lines [] inside)

placed_same : (group_of : List ℕ → List ℕ) (reads : Reads) (keys : List ℕ) (lines : List (List ℕ))
    → AreSame (IsPlaced group_of reads keys lines) placed_line
    are_at_one_place (are_of_one_group group_of)
placed_same group_of reads keys lines a b a_placed b_placed =
    both_ways (a.place == b.place) _
    (λ tie. let same : group_place group_of lines (entry_line a.entry)
    ≡ group_place group_of lines (entry_line b.entry) =
    sym a_placed.place ∙ eqb-true a.place b.place tie ∙ b_placed.place in
    (bytes_eq-Decides _ _).1
    (group-there group_of lines (entry_line a.entry)
    (omega (arith, a_placed.place, a_placed.within))
    ∙ ap (λ (n : ℕ). group_of (get_or lines n [])) same
    ∙ sym (group-there group_of lines (entry_line b.entry)
    (omega (arith, b_placed.place, b_placed.within)))))
    (λ equal. eq-eqb a.place b.place
    (a_placed.place
    ∙ ap (λ (group : List ℕ). position_or_len (λ other. bytes_eq group (group_of other)) lines)
    ((bytes_eq-Decides _ _).0 equal)
    ∙ sym b_placed.place))

-- the newest of placed lines are the newest of the lines
pub newest-entries : (count : ℕ) (group_of : List ℕ → List ℕ) (reads : Reads) (keys : List ℕ)
    (entries : List Entry) → All (IsRead reads keys) entries
    → map entry_line (map placed_entry
    (first_of_each count are_at_one_place
    (in_order (placed_cmp keys) (map (placed group_of (map entry_line entries)) entries))))
    ≡ newest count group_of reads (map entry_line entries)
newest-entries count group_of reads keys entries read =
    let lines = map entry_line entries in
    let P = IsPlaced group_of reads keys lines in
    let R = placed_cmp keys in
    let all = map (placed group_of lines) entries in
    let each = all_placed group_of reads keys entries read in
    map-map entry_line placed_entry _
    ∙ first_of_each-map P placed_line _ _
    (placed_same group_of reads keys lines) count (in_order R all)
    (All-permutation P all (in_order R all) (in_order-permutes R all) each)
    ∙ ap (first_of_each count (are_of_one_group group_of))
    (in_order-map P placed_line R (newest_cmp group_of reads lines)
    (placed_alike group_of reads keys lines) all each
    ∙ ap (in_order (newest_cmp group_of reads lines)) (map-map placed_line (placed group_of lines) entries))

-- the order of placed lines is total, and their keys lie one after another

pub placed_total : (keys : List ℕ) → IsTotalOrder (placed_cmp keys)
placed_total keys =
    then_total (on_total (λ (line : Placed). line.place) nat_cmp_total)
    (turned_total true _ (on_total placed_entry (entry_total keys)))

pub placed_in_turn : (group_of : List ℕ → List ℕ) (lines : List (List ℕ)) (entries : List Entry)
    → AreInTurn entries
    → AllPairs (λ (a b : Placed). placed_start a < placed_start b) (map (placed group_of lines) entries)
placed_in_turn group_of lines entries in_turn = λ i j d up inside.
    let within : j < length entries = omega (arith, length-map entries (placed group_of lines)) in
    let at = λ (k : ℕ) (k_inside : k < length entries). ap placed_start
    (get_or-map (placed group_of lines) entries k d.entry d k_inside) in
    omega (arith, at i (omega arith), at j within, in_turn i j d.entry up within)

-- Going over lines and counting down for each place: so many of its lines are left to be kept.
pub record IsKeptTo (count : ℕ) (list : List Placed) (left : List ℕ) (kept : List Entry) (at : ℕ)
    : Type 0 where
  pub before : List Placed
  pub length_is : length left ≡ length list
  pub counted : (line : Placed)
      → line.place < length list → get_or left line.place 0
      ≡ count - length (filter (are_at_one_place line) before)
  pub whole : map placed_entry (first_of_each count are_at_one_place list)
      ≡ kept ++ map placed_entry (first_after count are_at_one_place before (drop at list))

module _ (count : ℕ) (list : List Placed) (left : List ℕ) (kept : List Entry) (at : ℕ) (d : Placed)
    (so_far : IsKeptTo count list left kept at) (inside : at < length list)
    (within : (get_or list at d).place < length list) where
  abbrev next : Placed
  next = get_or list at d

  kept-rest : drop at list ≡ next ∷ drop (at + 1) list
  kept-rest = drop_more list at d inside

  kept-left : (line : Placed) → line.place == next.place ≡ true
      → get_or left line.place 0 ≡ get_or left next.place 0
  kept-left line same = ap (λ (place : ℕ). get_or left place 0) (eqb-true line.place next.place same)

  count-left : (more : ℕ) → more ≡ get_or left next.place more
      → more ≡ count - length (filter (are_at_one_place next) so_far.before)
  count-left more read = grind (arith, read, get_or_default_zero, within)

  pub kept_to-stays : (more : ℕ) (after : List Entry) → more ≡ get_or left next.place more
      → 0 < more → after ≡ kept ++ next.entry ∷ []
      → IsKeptTo count list (set left next.place (more - 1)) after (at + 1)
  kept_to-stays more after read some pushed =
      let few : nat_lt (length (filter (are_at_one_place next) so_far.before)) count ≡ true =
      lt-ltb _ _ (omega (arith, count-left more read)) in
      record {
        before = next ∷ so_far.before;
        length_is = length-set left next.place (more - 1) ∙ so_far.length_is;
        counted = λ line line_within. by_test (line.place == next.place)
            (λ same. rw same (omega (
              arith,
              get_or-set_at left next.place line.place (more - 1) 0
                  (eqb-true line.place next.place same) (omega (arith, so_far.length_is)),
              so_far.counted line line_within,
              kept-left line same,
              so_far.counted next within,
              count-left more read,
            )))
            (λ apart. rw apart
            (get_or-set_other left next.place line.place (more - 1) 0
            (λ one. true≢false (sym (eq-eqb line.place next.place one) ∙ apart))
            ∙ so_far.counted line line_within));
        whole = so_far.whole
            ∙ ap (λ l. kept ++ map placed_entry (first_after count are_at_one_place so_far.before l))
            kept-rest
            ∙ rw (few, pushed) (sym (append_assoc kept (next.entry ∷ []) _));
      }

  pub kept_to-leaves : (more : ℕ) → more ≡ get_or left next.place more → more ≤ 0
      → IsKeptTo count list left kept (at + 1)
  kept_to-leaves more read none =
      let many : nat_lt (length (filter (are_at_one_place next) so_far.before)) count ≡ false =
      le-ltb _ _ (omega (arith, count-left more read)) in
      record {
        before = next ∷ so_far.before;
        length_is = so_far.length_is;
        counted = λ line line_within. by_test (line.place == next.place)
            (λ same. rw same (omega (
              arith,
              so_far.counted line line_within,
              kept-left line same,
              so_far.counted next within,
              count-left more read,
            )))
            (λ apart. rw apart (so_far.counted line line_within));
        whole = so_far.whole
            ∙ ap (λ l. kept ++ map placed_entry (first_after count are_at_one_place so_far.before l))
            kept-rest
            ∙ rw many refl;
      }
