-- What lies where in the bytes of a set.
use Rattle.std.proofs.Common.{[], ◌⊎◌, append_assoc, map, ◌≡◌, ◌∙◌, ◌+◌, ◌-◌, ◌*◌, ◌<◌, ◌≤◌, ◌^◌, ℕ, zero, suc, List, ◌∷◌, ◌++◌, length, get_or, take, drop, ap, arith, refl, sym}
use Rattle.std.proofs.lemmas.{Bool.le-ltb, Grind.common_steps, List.drop_at, List.length-append, List.take_at, List.FromFn.length-map-range_with_len, Nat.from_le_bytes-to_le_bytes_8}
use Rattle.std.proofs.Math.Seq.{drop-append-add, get_or-append_seam, take-append_seam, drop-append_seam}
use Rattle.std.specs.{Int.from_le_bytes, Int.w64, List.concat, List.flat_map, List.range_with_len}
use Rattle.version_sets.specs.Form.{between, count_told, end_at, ends_in, form_bytes, form_ends, number, over_at, places}

pub number_length : (n : ℕ) → length (number n) ≡ 8
unfolding number
number_length n = refl

-- the number at a place of a row of numbers
pub number_in : (ns : List ℕ) (i : ℕ) → i < length ns
    → take 8 (drop (8 * i) (flat_map number ns)) ≡ number (get_or ns i 0)
unfolding number
number_in [] i within = absurd (omega (arith, within))
number_in (n ∷ ns) zero within = refl
number_in (n ∷ ns) (suc i) within =
    let further : 8 * suc i ≡ 8 + 8 * i = omega arith in
    ap (λ k. take 8 (drop k (flat_map number (n ∷ ns)))) further
    ∙ ap (take 8) (drop-append-add (number n) (flat_map number ns) (8 * i))
    ∙ number_in ns i (omega (arith, within))

places_length : (from : ℕ) (ends : List (List ℕ)) → length (places from ends) ≡ length ends
places_length from [] = refl
places_length from (end ∷ ends) = ap suc (places_length (from + length end) ends)

pub place_is : (from : ℕ) (ends : List (List ℕ)) (i : ℕ) → i < length ends
    → get_or (places from ends) i 0 ≡ from + length (concat (take (suc i) ends))
place_is from [] i within = absurd (omega (arith, within))
place_is from (end ∷ ends) zero within = omega (arith, length-append end [])
place_is from (end ∷ ends) (suc i) within =
    omega (
      arith,
      place_is (from + length end) ends i (omega (arith, within)),
      length-append end (concat (take (suc i) ends)),
    )

-- the bytes of an end among those of all
pub end_in : (ends : List (List ℕ)) (i : ℕ) → i < length ends
    → take (length (get_or ends i [])) (drop (length (concat (take i ends))) (concat ends))
    ≡ get_or ends i []
end_in [] i within = absurd (omega (arith, within))
end_in (end ∷ ends) zero within = take-append_seam end (concat ends)
end_in (end ∷ ends) (suc i) within =
    ap (λ k. take (length (get_or ends i [])) (drop k (end ++ concat ends)))
    (length-append end (concat (take i ends)))
    ∙ ap (take (length (get_or ends i [])))
    (drop-append-add end (concat ends) (length (concat (take i ends))))
    ∙ end_in ends i (omega (arith, within))

-- where an end is over
pub over_is : (ends : List (List ℕ)) (i : ℕ) → i < length ends
    → length (concat (take (suc i) ends)) ≡ length (concat (take i ends)) + length (get_or ends i [])
over_is [] i within = absurd (omega (arith, within))
over_is (end ∷ ends) zero within = omega (arith, length-append end [])
over_is (end ∷ ends) (suc i) within =
    omega (
      arith,
      over_is ends i (omega (arith, within)),
      length-append end (concat (take (suc i) ends)),
      length-append end (concat (take i ends)),
    )

over_within : (ends : List (List ℕ)) (i : ℕ) → length (concat (take i ends)) ≤ length (concat ends)
over_within [] zero = omega arith
over_within [] (suc i) = omega arith
over_within (end ∷ ends) zero = omega arith
over_within (end ∷ ends) (suc i) = grind (arith, common_steps, over_within ends i, length-append)

-- where so many ends are over, as it is read
over_read : (ends : List (List ℕ)) (few : ℕ) → few ≤ length ends → length (concat ends) < 2 ^ 64
    → over_at (flat_map number (places 0 ends)) few ≡ length (concat (take few ends))
unfolding number
over_read ends zero within small = refl
over_read ends (suc place) within small =
    let fewer : place < length (places 0 ends) = omega (arith, within, places_length 0 ends) in
    let number_is : get_or (places 0 ends) place 0 ≡ length (concat (take (suc place) ends)) =
    omega (arith, place_is 0 ends place (omega (arith, within))) in
    ap (from_le_bytes w64) (number_in (places 0 ends) place fewer)
    ∙ from_le_bytes-to_le_bytes_8 (get_or (places 0 ends) place 0)
    (omega (arith, number_is, over_within ends (suc place), small))
    ∙ number_is

-- the end at a place, as it is read
end_read : (ends : List (List ℕ)) (place : ℕ) → place < length ends → length (concat ends) < 2 ^ 64
    → end_at (flat_map number (places 0 ends)) (concat ends) place ≡ get_or ends place []
end_read ends place within small =
    let from = over_read ends place (omega (arith, within)) small in
    let over = over_read ends (suc place) (omega (arith, within)) small in
    let size = over_is ends place within in
    let first = le-ltb (length (concat (take (suc place) ends))) (length (concat (take place ends)))
    (omega (arith, size)) in
    let second = le-ltb (length (concat ends)) (length (concat (take (suc place) ends)))
    (over_within ends (suc place)) in
    rw (from, over, first, second)
    (ap (λ n. take n (drop (length (concat (take place ends))) (concat ends))) (omega (arith, size))
    ∙ end_in ends place within)

-- ---- the bytes of a set, as they are read

row_length : (ns : List ℕ) → length (flat_map number ns) ≡ 8 * length ns
unfolding number
row_length [] = refl
row_length (n ∷ ns) = grind (arith, common_steps, row_length ns, length-append, number_length)

pub row_size : (ends : List (List ℕ)) → length (flat_map number (places 0 ends)) ≡ 8 * length ends
row_size ends = row_length (places 0 ends) ∙ ap (λ n. 8 * n) (places_length 0 ends)

pub form_length : (order : ℕ) (ends : List (List ℕ))
    → length (form_bytes order ends) ≡ 9 + 8 * length ends + length (concat ends)
unfolding form_bytes number
form_length order ends = grind (arith, common_steps, row_size, number_length, length-append)

-- two texts cut alike are the same in both pieces
pub cut_alike : (a b x y : List ℕ) → length a ≡ length b → a ++ x ≡ b ++ y → (a ≡ b) × (x ≡ y)
cut_alike a b x y long e = (
  sym (take-append_seam a x) ∙ (λ i. take (long i) (e i)) ∙ take-append_seam b y,
  sym (drop-append_seam a x) ∙ (λ i. drop (long i) (e i)) ∙ drop-append_seam b y,
)

-- a number has its own eight bytes
pub same_number : (n m : ℕ) → number n ≡ number m → n < 2 ^ 64 → m < 2 ^ 64 → n ≡ m
unfolding number
same_number n m same small small_too =
    sym (from_le_bytes-to_le_bytes_8 n small) ∙ ap (from_le_bytes w64) same ∙ from_le_bytes-to_le_bytes_8 m small_too

-- the number behind the first byte
pub count_is : (bytes : List ℕ) (first count : ℕ) (rest : List ℕ) → bytes ≡ first ∷ (number count ++ rest)
    → count < 2 ^ 64 → count_told bytes ≡ count
unfolding number
count_is bytes first count rest is small = grind (arith, common_steps)

-- the pieces of the bytes of a set
module _ (order first count : ℕ) (ends : List (List ℕ)) (small : count < 2 ^ 64) (few : length ends < 2 ^ 64) where
  pub count_read : (rest : List ℕ) → first ∷ (number count ++ rest) ≡ form_bytes order ends
      → (first ≡ order) × (count ≡ length ends) × (rest ≡ flat_map number (places 0 ends) ++ concat ends)
  unfolding form_bytes
  count_read rest is =
      let row = flat_map number (places 0 ends) in
      let behind : number count ++ rest ≡ number (length ends) ++ (row ++ concat ends) = cc is in
      let cut = cut_alike (number count) (number (length ends)) rest (row ++ concat ends)
      (number_length count ∙ sym (number_length (length ends))) behind in
      (cc is, same_number count (length ends) cut.0 small few, cut.1)

  pub all_read : (numbers bytes : List ℕ) → first ∷ (number count ++ (numbers ++ bytes)) ≡ form_bytes order ends
      → length numbers ≡ 8 * count
      → (first ≡ order) × (count ≡ length ends) × (numbers ≡ flat_map number (places 0 ends)) × (bytes ≡ concat ends)
  all_read numbers bytes is long =
      let read = count_read (numbers ++ bytes) is in
      let cut = cut_alike numbers (flat_map number (places 0 ends)) bytes (concat ends)
      (omega (arith, long, read.1, row_size ends)) read.2 in
      (read.0, read.1, cut.0, cut.1)

-- all ends, as they are read
ends_from : (f : ℕ → List ℕ) (front rest : List (List ℕ))
    → ((place : ℕ) → place < length (front ++ rest) → f place ≡ get_or (front ++ rest) place [])
    → map f (range_with_len (length front) (length rest)) ≡ rest
ends_from f front [] is = refl
ends_from f front (end ∷ rest) is =
    let here : f (length front) ≡ end =
    is (length front) (omega (arith, length-append front (end ∷ rest))) ∙ get_or-append_seam front end rest [] in
    let again : (front ++ end ∷ []) ++ rest ≡ front ++ end ∷ rest = append_assoc front (end ∷ []) rest in
    let more = ends_from f (front ++ end ∷ []) rest
    (λ place within.
    is place (omega (arith, within, ap length again)) ∙ ap (λ l. get_or l place []) (sym again)) in
    let next : length front + 1 ≡ length (front ++ end ∷ []) = omega (arith, length-append front (end ∷ [])) in
    (λ i. here i ∷ map f (range_with_len (next i) (length rest)))
    ∙ ap (λ (l : List (List ℕ)). end ∷ l) more

pub ends_are : (ends : List (List ℕ)) → length (concat ends) < 2 ^ 64
    → ends_in (length ends) (flat_map number (places 0 ends)) (concat ends) ≡ ends
ends_are ends small =
    ends_from (end_at (flat_map number (places 0 ends)) (concat ends)) [] ends
    (λ place within. end_read ends place within small)

-- the bytes of a set hold its ends
pub holds_ends : (order : ℕ) (ends : List (List ℕ)) → length (form_bytes order ends) < 2 ^ 64
    → form_ends (form_bytes order ends) ≡ ends
unfolding form_bytes number
holds_ends order ends small =
    let row = flat_map number (places 0 ends) in
    let size = form_length order ends in
    let count = count_is (form_bytes order ends) order (length ends) (row ++ concat ends) refl
    (omega (arith, size, small)) in
    let rest = drop-append_seam (order ∷ number (length ends)) (row ++ concat ends) in
    (λ i. ends_in (count i) (take (8 * count i) (rest i)) (drop (8 * count i) (rest i)))
    ∙ (λ i. ends_in (length ends) (take_at row (concat ends) (8 * length ends) (row_size ends) i)
    (drop_at row (concat ends) (8 * length ends) (row_size ends) i))
    ∙ ends_are ends (omega (arith, size, small))

-- how many ends are read
pub ends_count : (count : ℕ) (row bytes : List ℕ) → length (ends_in count row bytes) ≡ count
ends_count count row bytes = length-map-range_with_len (end_at row bytes) 0 count

-- ---- the ends that are left from a place on

ends_left_from : (f : ℕ → List ℕ) (from count place : ℕ) → place < count
    → drop place (map f (range_with_len from count))
    ≡ f (from + place) ∷ drop (place + 1) (map f (range_with_len from count))
ends_left_from f from zero place within = absurd (omega (arith, within))
ends_left_from f from (suc count) zero within = grind (arith, common_steps)
ends_left_from f from (suc count) (suc place) within =
    let further : suc place + 1 ≡ suc (place + 1) = omega arith in
    rw further (ends_left_from f (from + 1) count place (omega (arith, within))
    ∙ ap (λ n. f n ∷ drop (place + 1) (map f (range_with_len (from + 1) count))) (omega arith))

no_end_left : (f : ℕ → List ℕ) (from count place : ℕ) → count ≤ place
    → drop place (map f (range_with_len from count)) ≡ []
no_end_left f from zero zero past = refl
no_end_left f from zero (suc place) past = refl
no_end_left f from (suc count) zero past = absurd (omega (arith, past))
no_end_left f from (suc count) (suc place) past = no_end_left f (from + 1) count place (omega (arith, past))

module _ (count : ℕ) (row bytes : List ℕ) (place : ℕ) where
  pub left_past : count ≤ place → drop place (ends_in count row bytes) ≡ []
  left_past past = no_end_left (end_at row bytes) 0 count place past

  module _ (within : place < count) (from over : ℕ) (from_is : from ≡ over_at row place)
      (over_is : over ≡ over_at row (place + 1)) where
    pub left_at : drop place (ends_in count row bytes)
        ≡ between bytes from over ∷ drop (place + 1) (ends_in count row bytes)
    left_at =
        let next : place + 1 ≡ suc place = omega arith in
        ends_left_from (end_at row bytes) 0 count place within
        ∙ ap (λ (l : List ℕ). l ∷ drop (place + 1) (ends_in count row bytes))
        (ap (end_at row bytes) (omega arith)
        ∙ sym (λ i. between bytes (from_is i) ((over_is ∙ ap (over_at row) next) i)))

-- ---- the bytes between two places

pub between_is : (bytes : List ℕ) (from over : ℕ) → from ≤ over → over ≤ length bytes
    → between bytes from over ≡ take (over - from) (drop from bytes)
between_is bytes from over rise fits = rw (le-ltb over from rise, le-ltb (length bytes) over fits) refl

pub nothing_between : (bytes : List ℕ) (from over : ℕ) → (over < from) ⊎ (length bytes < over)
    → between bytes from over ≡ between bytes 0 0
nothing_between bytes from over wrong = grind (arith, common_steps)
