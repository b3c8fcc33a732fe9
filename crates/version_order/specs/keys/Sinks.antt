-- What sinks become as bytes are written.
use Rattle.std.specs.Prelude.{◌≡◌, ℕ, zero, suc, ◌+◌, ◌-◌, ◌^◌, ◌<◌, ◌≤◌, min, List, [], ◌∷◌, ◌++◌, length, refl}
use Rattle.std.specs.{Ordering.ordering_then, declared.cmp.Ordering.Ordering}
use Rattle.std.proofs.lemmas.List.{length-append}
use Rattle.version_order.specs.{declared.sinks.Beside.Beside, declared.sinks.Count.Count, declared.sinks.Room.Room, keys.Lists.bytes_cmp}
use Rattle.std.proofs.Common.{◌∙◌, ap, append_assoc, arith, sym}

-- whatever is written to the last sink leads to what is written to the first one with the bytes
-- before it
abbrev pub Leads : {A B : Type 0} → (A → List ℕ → B) → A → List ℕ → A → Type 0
Leads outcome first bytes last = (more : List ℕ) → outcome last more ≡ outcome first (bytes ++ more)

pub leads_none : {A B : Type 0} (outcome : A → List ℕ → B) (sink : A) → Leads outcome sink [] sink
leads_none outcome sink more = refl

pub leads_both : {A B : Type 0} (outcome : A → List ℕ → B) (first middle last : A) (xs ys : List ℕ)
    → Leads outcome first xs middle → Leads outcome middle ys last
    → Leads outcome first (xs ++ ys) last
leads_both outcome first middle last xs ys h k more =
    k more ∙ h (ys ++ more) ∙ ap (outcome first) (sym (append_assoc xs ys more))

-- a number, or the largest number of 64 bits if it is larger
abbrev pub saturated : ℕ → ℕ
saturated n = min n (2 ^ 64 - 1)

-- a count after more bytes
abbrev pub count_with : Count → List ℕ → ℕ
count_with count more = saturated (count.length + length more)

-- bytes written into a buffer from a place on, as far as they fit
abbrev pub put_at : List ℕ → ℕ → List ℕ → List ℕ
put_at [] start bytes = []
put_at (x ∷ room) (suc start) bytes = x ∷ put_at room start bytes
put_at (x ∷ room) zero [] = x ∷ room
put_at (x ∷ room) zero (b ∷ bytes) = b ∷ put_at room zero bytes

-- a buffer that bytes are written into from a place on, if they end before it does; otherwise it
-- stays
pub record IsWritten (before : List ℕ) (start : ℕ) (bytes after : List ℕ) : Type 0 where
  pub fitting : start + length bytes ≤ length before → after ≡ put_at before start bytes
  pub kept : length before < start + length bytes → after ≡ before

-- the same buffer, with the bytes from its place on, and the place after them
pub record TakesRoom (first : Room) (bytes : List ℕ) (last : Room) : Type 0 where
  pub same : last.room.ghost_name ≡ first.room.ghost_name
  pub bytes_are : last.room.now ≡ put_at first.room.now first.end bytes
  pub end_is : last.end ≡ first.end + length bytes

-- the bytes end before the buffer does
abbrev pub FitsRoom : Room → List ℕ → Type 0
FitsRoom room bytes = room.end + length bytes ≤ length room.room.now

-- writing nothing changes nothing
pub put_nothing : (room : List ℕ) (start : ℕ) → put_at room start [] ≡ room
put_nothing [] start = refl
put_nothing (x ∷ room) zero = refl
put_nothing (x ∷ room) (suc start) = ap (λ (l : List ℕ). x ∷ l) (put_nothing room start)

-- bytes are written in turn
pub put_both : (room : List ℕ) (start : ℕ) (xs ys : List ℕ)
    → put_at (put_at room start xs) (start + length xs) ys ≡ put_at room start (xs ++ ys)
put_both room start [] ys =
    rw (put_nothing room start) (ap (λ n. put_at room n ys) (omega arith))
put_both [] start (x ∷ xs) ys = refl
put_both (r ∷ room) zero (x ∷ xs) ys =
    let place : 0 + length (x ∷ xs) ≡ suc (0 + length xs) = omega arith in
    ap (λ n. put_at (x ∷ put_at room 0 xs) n ys) place
    ∙ ap (λ (l : List ℕ). x ∷ l) (put_both room 0 xs ys)
put_both (r ∷ room) (suc start) (x ∷ xs) ys =
    let place : suc start + length (x ∷ xs) ≡ suc (start + length (x ∷ xs)) = omega arith in
    ap (λ n. put_at (r ∷ put_at room start (x ∷ xs)) n ys) place
    ∙ ap (λ (l : List ℕ). r ∷ l) (put_both room start (x ∷ xs) ys)

-- a buffer keeps its length
pub length-put : (room : List ℕ) (start : ℕ) (bytes : List ℕ)
    → length (put_at room start bytes) ≡ length room
length-put [] start bytes = refl
length-put (x ∷ room) zero [] = refl
length-put (x ∷ room) zero (b ∷ bytes) = ap suc (length-put room 0 bytes)
length-put (x ∷ room) (suc start) bytes = ap suc (length-put room start bytes)

pub room_none : (room : Room) → TakesRoom room [] room
room_none room =
    record {
      same =
          refl;
      bytes_are =
          sym (put_nothing room.room.now room.end);
      end_is = omega arith;
    }

pub room_both : (first middle last : Room) (xs ys : List ℕ) → TakesRoom first xs middle
    → TakesRoom middle ys last → TakesRoom first (xs ++ ys) last
room_both first middle last xs ys h k =
    record {
      same =
          k.same ∙ h.same;
      bytes_are =
          k.bytes_are ∙ (λ i. put_at (h.bytes_are i) (h.end_is i) ys)
          ∙ put_both first.room.now first.end xs ys;
      end_is = omega (arith, h.end_is, k.end_is, length-append xs ys);
    }

pub room_first : (room : Room) (xs ys : List ℕ) → FitsRoom room (xs ++ ys) → FitsRoom room xs
room_first room xs ys fits = omega (arith, fits, length-append xs ys)

pub room_then : (first middle : Room) (xs ys : List ℕ) → TakesRoom first xs middle
    → FitsRoom first (xs ++ ys) → FitsRoom middle ys
room_then first middle xs ys h fits =
    omega (
      arith,
      fits,
      length-append xs ys,
      h.end_is,
      ap length h.bytes_are,
      length-put first.room.now first.end xs,
    )

-- how the bytes written and more compare with the given bytes
abbrev pub order_with : Beside → List ℕ → Ordering
order_with beside more = ordering_then beside.order (bytes_cmp more beside.left.now)
