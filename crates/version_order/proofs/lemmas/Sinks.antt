-- Bytes written into a buffer.
use Rattle.std.proofs.Common.{◌≡◌, ◌∙◌, ◌+◌, ◌-◌, ◌<◌, ◌≤◌, ℕ, zero, suc, List, [], ◌∷◌, ◌++◌, append-nil, drop, length, replicate, set, take, refl, ap, sym, arith, zero-add, subst}
use Rattle.std.proofs.lemmas.{Grind.common_steps, List.length-append, List.length-replicate, List.take_all}
use Rattle.std.proofs.Math.Seq.{take-append-add, take-append_seam}
use Rattle.version_order.specs.keys.Sinks.{count_with, length-put, put_at, put_nothing, saturated, Leads}
use Rattle.version_order.specs.declared.sinks.Count.{Count}

-- the first byte, and then the others
pub put_first : (room : List ℕ) (start b : ℕ) (bytes : List ℕ) → start < length room
    → put_at (set room start b) (start + 1) bytes ≡ put_at room start (b ∷ bytes)
put_first [] start b bytes fits = absurd (omega (arith, fits))
put_first (x ∷ room) zero b bytes fits = refl
put_first (x ∷ room) (suc start) b bytes fits =
    let one_more : suc start + 1 ≡ suc (start + 1) = omega arith in
    rw one_more (ap (λ (l : List ℕ). x ∷ l) (put_first room start b bytes (omega (arith, fits))))

-- bytes that fit replace the first bytes, and the rest stays
pub put_fits : (room bytes : List ℕ) → length bytes ≤ length room
    → put_at room 0 bytes ≡ bytes ++ drop (length bytes) room
put_fits [] [] fits = refl
put_fits [] (b ∷ bytes) fits = absurd (omega (arith, fits))
put_fits (x ∷ room) [] fits = refl
put_fits (x ∷ room) (b ∷ bytes) fits =
    ap (λ (l : List ℕ). b ∷ l) (put_fits room bytes (omega (arith, fits)))

-- bytes written after a list leave it as it is
pub put_behind : (list room bytes : List ℕ)
    → put_at (list ++ room) (length list) bytes ≡ list ++ put_at room 0 bytes
put_behind [] room bytes = refl
put_behind (x ∷ list) room bytes = ap (λ (l : List ℕ). x ∷ l) (put_behind list room bytes)

-- bytes in the place of as many, and others behind them
pub put_along : (place rest bytes others : List ℕ) → length place ≡ length bytes
    → put_at (place ++ rest) 0 (bytes ++ others) ≡ bytes ++ put_at rest 0 others
put_along [] rest [] others long = refl
put_along [] rest (b ∷ bytes) others long = absurd (omega (arith, long))
put_along (x ∷ place) rest [] others long = absurd (omega (arith, long))
put_along (x ∷ place) rest (b ∷ bytes) others long =
    ap (λ (l : List ℕ). b ∷ l) (put_along place rest bytes others (omega (arith, long)))

pub put_over : (place rest bytes : List ℕ) → length place ≡ length bytes
    → put_at (place ++ rest) 0 bytes ≡ bytes ++ rest
put_over place rest bytes long =
    ap (put_at (place ++ rest) 0) (sym (append-nil bytes)) ∙ put_along place rest bytes [] long
    ∙ ap (λ (l : List ℕ). bytes ++ l) (put_nothing rest 0)

pub put_whole : (place bytes : List ℕ) → length place ≡ length bytes → put_at place 0 bytes ≡ bytes
put_whole place bytes long = grind (arith, common_steps, append-nil place, put_over place, append-nil bytes)

pub put_between : (front place rest bytes : List ℕ) (start : ℕ) → length front ≡ start
    → length place ≡ length bytes
    → put_at (front ++ (place ++ rest)) start bytes ≡ front ++ (bytes ++ rest)
put_between front place rest bytes start at long = grind (arith, common_steps, put_behind, put_over)

-- bytes appended to a list: zeros are added to it, bytes are written over them, and the zeros that
-- are left are cut off
pub appended : (old items room bytes : List ℕ) (n len end : ℕ)
    → items ≡ take n old ++ replicate (n - length old) 0 → len ≡ n
    → room ≡ put_at items (length old) bytes → length old + length bytes ≤ n
    → end ≡ length old + length bytes
    → take end (take len (room ++ drop (length room) items)) ≡ old ++ bytes
appended old items room bytes n len end i l r fits e =
    let zeros : List ℕ = replicate (n - length old) 0 in
    let many : length zeros ≡ n - length old = length-replicate (n - length old) 0 in
    let spare : items ≡ old ++ zeros =
    i ∙ ap (λ (xs : List ℕ). xs ++ zeros) (take_all n old (omega (arith, fits))) in
    let whole : room ≡ old ++ (bytes ++ drop (length bytes) zeros) =
    r ∙ ap (λ (xs : List ℕ). put_at xs (length old) bytes) spare ∙ put_behind old zeros bytes
    ∙ ap (λ (xs : List ℕ). old ++ xs)
    (put_fits zeros bytes (omega (arith, fits, many))) in
    let long : length room ≡ len =
    ap length r ∙ length-put items (length old) bytes ∙ ap length spare
    ∙ length-append old zeros
    ∙ omega (arith, fits, l, many) in
    let back : take len (room ++ drop (length room) items) ≡ room =
    ap (λ k. take k (room ++ drop (length room) items)) (sym long)
    ∙ take-append_seam room (drop (length room) items) in
    ap (take end) (back ∙ whole)
    ∙ ap (λ k. take k (old ++ (bytes ++ drop (length bytes) zeros))) e
    ∙ take-append-add old (bytes ++ drop (length bytes) zeros) (length bytes)
    ∙ ap (λ (xs : List ℕ). old ++ xs) (take-append_seam bytes (drop (length bytes) zeros))

-- the count of bytes that are written to a sink that had none
pub counted : (bytes : List ℕ) (last : Count) {count : ℕ}
    → Leads count_with (record { length = 0 }) bytes last → count ≡ count_with last []
    → count ≡ saturated (length bytes)
counted bytes last written count =
    count ∙ written [] ∙ ap (λ (l : List ℕ). saturated (0 + length l)) (append-nil bytes)
    ∙ ap saturated (zero-add (length bytes))

-- ---- bytes written into a sink one list after another

-- the bytes by another name
pub takes_same : {A : Type 0} (takes : A → List ℕ → A → Type 0) (first last : A) (xs ys : List ℕ)
    → ys ≡ xs → takes first xs last → takes first ys last
takes_same takes first last xs ys e h = subst (λ (l : List ℕ). takes first l last) (sym e) h

-- A sink has taken some of the bytes that fitted it at first: those that are left fit it, and it has
-- taken all once it has taken these.
pub record Owes {A : Type 0} (takes : A → List ℕ → A → Type 0) (fits : A → List ℕ → Type 0)
    (first : A) (all : List ℕ) (now : A) (left : List ℕ) : Type 0 where
  pub front : (sink : A) (xs ys : List ℕ) → fits sink (xs ++ ys) → fits sink xs
  pub behind : (before after : A) (xs ys : List ℕ) → takes before xs after
      → fits before (xs ++ ys) → fits after ys
  pub both : (before between after : A) (xs ys : List ℕ) → takes before xs between
      → takes between ys after → takes before (xs ++ ys) after
  pub room : fits now left
  pub ends : (last : A) → takes now left last → takes first all last

module _ {A : Type 0} {takes : A → List ℕ → A → Type 0} {fits : A → List ℕ → Type 0}
    {first : A} {all : List ℕ} where
  -- at first all are left, here by another name
  pub owes_all : ((sink : A) (xs ys : List ℕ) → fits sink (xs ++ ys) → fits sink xs)
      → ((before after : A) (xs ys : List ℕ) → takes before xs after → fits before (xs ++ ys)
      → fits after ys)
      → ((before between after : A) (xs ys : List ℕ) → takes before xs between
      → takes between ys after → takes before (xs ++ ys) after)
      → {left : List ℕ} → all ≡ left → fits first all → Owes takes fits first all first left
  owes_all front behind both e whole = subst (Owes takes fits first all first) e (record {
    front = front;
    behind = behind;
    both = both;
    room = whole;
    ends = λ last taken. taken;
  })

  pub owes_same : {now : A} {left other : List ℕ} → left ≡ other
      → Owes takes fits first all now left → Owes takes fits first all now other
  owes_same {now} e owes = subst (Owes takes fits first all now) e owes

  -- the next bytes fit
  pub next_fits : {now : A} (part rest : List ℕ) → Owes takes fits first all now (part ++ rest)
      → fits now part
  next_fits {now} part rest owes = owes.front now part rest owes.room

  -- and once they are taken, the rest is left
  pub owes_rest : {now next : A} (part rest : List ℕ)
      → Owes takes fits first all now (part ++ rest) → takes now part next
      → Owes takes fits first all next rest
  owes_rest {now} {next} part rest owes taken = record {
    front = owes.front;
    behind = owes.behind;
    both = owes.both;
    room = owes.behind now next part rest taken owes.room;
    ends = λ last others. owes.ends last (owes.both now next last part rest taken others);
  }
