-- Bytes written into a buffer as far as they fit.
use Rattle.std.proofs.Common.{◌≡◌, ◌∙◌, ◌+◌, ◌-◌, ◌≤◌, ◌||◌, ℕ, zero, suc, Bool, true, List, [], ◌∷◌, ◌++◌, ap, append-nil, arith, drop, false, length, nat_lt, refl, replicate, set, sym, take}
use Rattle.std.proofs.lemmas.{Bool.or_right, Bool.Decides.nat_tests, List.length-append, List.length-replicate, List.take_all}
use Rattle.std.proofs.Math.Seq.{take-append_seam}
use Rattle.version_order.proofs.lemmas.Sinks.{put_behind}
use Rattle.version_order.specs.keys.Sinks.{length-put, put_at, put_nothing}
use Rattle.version_schemes.specs.{Front.TakesFront, declared.key.Front.Front}

-- nothing is written past the end
pub put_past : (room : List ℕ) (place : ℕ) (bytes : List ℕ) → length room ≤ place → put_at room place bytes ≡ room
put_past [] place bytes past = refl
put_past (x ∷ room) zero bytes past = absurd (omega (arith, past))
put_past (x ∷ room) (suc place) bytes past =
    ap (λ (l : List ℕ). x ∷ l) (put_past room place bytes (omega (arith, past)))

-- a buffer keeps its length
pub length-set : (room : List ℕ) (place byte : ℕ) → length (set room place byte) ≡ length room
length-set [] place byte = refl
length-set (x ∷ room) zero byte = refl
length-set (x ∷ room) (suc place) byte = ap suc (length-set room place byte)

-- past the end a byte is too much
pub too_much : (over : Bool) (size place more : ℕ) → size ≤ place → true ≡ (over || nat_lt size (place + suc more))
too_much over size place more past =
    let far : nat_lt size (place + suc more) ≡ true = grind (arith, nat_tests) in
    sym (or_right over (nat_lt size (place + suc more)) far)

-- what stood in a list before bytes that don't fit behind it: zeros are added to it, bytes are written over them, and the
-- zeros are cut off
pub taken_back : (old items room bytes : List ℕ) (n len start : ℕ)
    → items ≡ take n old ++ replicate (n - length old) 0 → len ≡ n
    → room ≡ put_at items (length old) bytes → length old ≤ n → start ≡ length old
    → take start (take len (room ++ drop (length room) items)) ≡ old
taken_back old items room bytes n len start i l r fits first =
    let zeros : List ℕ = replicate (n - length old) 0 in
    let many : length zeros ≡ n - length old = length-replicate (n - length old) 0 in
    let spare : items ≡ old ++ zeros =
    i ∙ ap (λ (xs : List ℕ). xs ++ zeros) (take_all n old (omega (arith, fits))) in
    let whole : room ≡ old ++ put_at zeros 0 bytes =
    r ∙ ap (λ (xs : List ℕ). put_at xs (length old) bytes) spare ∙ put_behind old zeros bytes in
    let long : length room ≡ len =
    ap length r ∙ length-put items (length old) bytes ∙ ap length spare ∙ length-append old zeros
    ∙ omega (arith, fits, l, many) in
    let back : take len (room ++ drop (length room) items) ≡ room =
    ap (λ k. take k (room ++ drop (length room) items)) (sym long) ∙ take-append_seam room (drop (length room) items) in
    ap (take start) (back ∙ whole) ∙ ap (λ k. take k (old ++ put_at zeros 0 bytes)) first
    ∙ take-append_seam old (put_at zeros 0 bytes)

-- what was written into a buffer
pub written : (first : Front) (key : List ℕ) (last : Front) → TakesFront first key last
    → last.room.now ≡ put_at first.room.now first.end key
written first key last takes =
    sym (put_nothing last.room.now last.end) ∙ ap (λ (p : List ℕ × (ℕ × Bool)). p.0) (takes.leads [])
    ∙ ap (put_at first.room.now first.end) (append-nil key)

-- and where it ends, if all of it fits
pub ended : (first : Front) (key : List ℕ) (last : Front) → TakesFront first key last
    → first.end ≤ length first.room.now → first.is_over ≡ false → last.is_over ≡ false
    → (last.end ≡ first.end + length key) × (last.end ≤ length first.room.now)
ended first key last takes begins none fits =
    let room = length first.room.now in
    let size : length last.room.now ≡ room =
    ap length (written first key last takes) ∙ length-put first.room.now first.end key in
    let inside = takes.within begins in
    let whole : length (key ++ []) ≡ length key = ap length (append-nil key) in
    let ends = ap (λ (p : List ℕ × (ℕ × Bool)). p.1.0) (takes.leads []) in
    let flags : nat_lt (length last.room.now) (last.end + 0) ≡ nat_lt room (first.end + length (key ++ [])) =
    ap (λ (b : Bool). b || nat_lt (length last.room.now) (last.end + 0)) (sym fits)
    ∙ ap (λ (p : List ℕ × (ℕ × Bool)). p.1.1) (takes.leads [])
    ∙ ap (λ (b : Bool). b || nat_lt room (first.end + length (key ++ []))) none in
    let enough : first.end + length (key ++ []) ≤ room = grind (arith, nat_tests, flags, inside, size) in
    (omega (arith, ends, size, inside, enough, whole), omega (arith, size, inside))
