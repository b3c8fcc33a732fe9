-- What members hold: by the order, and by the parts with which versions begin.
use Rattle.std.proofs.Common.{[], ◌≡◌, ◌∙◌, ◌+◌, ◌*◌, ℕ, List, ◌∷◌, ◌++◌, append-nil, ap, arith, length, refl, sym, ◌↔◌, true, false, not, Some, append_assoc, nat_cmp}
use Rattle.std.proofs.lemmas.Grind.{common_steps}
use Rattle.std.specs.Ordering.{is_eq, is_ge, is_gt, is_le, is_lt, ordering_then}
use Rattle.std.specs.{Cmp.nat_cmp_total, Cmp.tied_itself, FinMap.nat_cmp-IsAntisymmetric, List.concat, List.flat_map, declared.cmp.Ordering.Ordering}
use Rattle.std.specs.declared.cmp.Ordering.TheVariants.{Less, Equal, Greater}
use Rattle.version_order.specs.{Keyed.after, Keyed.BeginsKey, Keyed.PlainKeyed, keys.Codes.Writes, keys.Codes.items_bytes, keys.Codes.number_bytes, keys.Lists.bytes_cmp, keys.Sinks.put_at, keys.Sinks.put_both}
use Rattle.version_order.proofs.lemmas.{Codes.writes_alone, NumberBytes.number_writes, Sinks.put_along, Sinks.put_behind}
use Rattle.version_sets.specs.{Comparison.ends_with, Form.form_bytes, Form.number, Form.places, Form.has, Pile.AreByOrder, Pile.BeginsWith}
use Rattle.version_sets.proofs.lemmas.Form.{number_length, row_size}
use Rattle.version_rules.proofs.lemmas.{Key.lists_same, Key.part_writes, Order.key_writes}
use Rattle.version_rules.specs.key.Key.{Key, key_of, precedence, key_bytes, tail_bytes}
use Rattle.version_rules.specs.key.PartKey.{PartKey, Number, Word, part_bytes, part_cmp, parts_bytes}
use Rattle.version_rules.specs.{grammar.Versioning.PlainVersioning, laws.Part.part_total, requirement.Range.begun}

-- ---- bytes written into a buffer, piece by piece

-- bytes, and then others behind them
pub put_next : (room after : List ℕ) (start next : ℕ) (bytes others : List ℕ)
    → after ≡ put_at room start bytes → next ≡ start + length bytes
    → put_at after next others ≡ put_at room start (bytes ++ others)
put_next room after start next bytes others is at =
    (λ i. put_at (is i) (at i) others) ∙ put_both room start bytes others

-- a set in three pieces behind others: the head, where its ends are over, and these
pub put_form : (order : ℕ) (ends : List (List ℕ)) (front head numbers rest : List ℕ) (start : ℕ)
    → length front ≡ start → length head ≡ 9 → length numbers ≡ 8 * length ends
    → put_at (front ++ (head ++ (numbers ++ rest))) start (form_bytes order ends)
    ≡ front ++ ((order ∷ number (length ends))
    ++ (flat_map number (places 0 ends) ++ put_at rest 0 (concat ends)))
unfolding form_bytes
put_form order ends front head numbers rest start at at_head at_numbers =
    let row = flat_map number (places 0 ends) in
    let behind = head ++ (numbers ++ rest) in
    ap (λ n. put_at (front ++ behind) n (form_bytes order ends)) (sym at)
    ∙ put_behind front behind (form_bytes order ends)
    ∙ ap (λ (l : List ℕ). front ++ l)
    (put_along head (numbers ++ rest) (order ∷ number (length ends)) (row ++ concat ends)
    (omega (arith, at_head, number_length (length ends)))
    ∙ ap (λ (l : List ℕ). (order ∷ number (length ends)) ++ l)
    (put_along numbers rest row (concat ends) (omega (arith, at_numbers, row_size ends))))

-- ---- by the order

low_end : (key : List ℕ) → is_lt (bytes_cmp key []) ≡ false
low_end [] = refl
low_end (b ∷ key) = refl

module _ {V : Type 0} {order : V → V → Ordering} {key : V → List ℕ} (writes : Writes order key) where
  at_key : (v r : V) → bytes_cmp (key v) (key r) ≡ order v r
  at_key = writes_alone writes

  after_key : (v r : V) → bytes_cmp (key v) (after (key r)) ≡ ordering_then (order v r) Less
  after_key v r =
      ap (λ (l : List ℕ). bytes_cmp l (after (key r))) (sym (append-nil (key v)))
      ∙ writes.compares v r [] (0 ∷ [])

equal_is : (key low high : List ℕ) (o : Ordering) → bytes_cmp key low ≡ o
    → bytes_cmp key high ≡ ordering_then o Less → has (low ∷ high ∷ []) key ≡ is_eq o
equal_is key low high o at over = grind (arith, common_steps)

-- all but what two ends hold
pub all_but : (ends : List (List ℕ)) (key : List ℕ) → has ([] ∷ ends) key ≡ not (has ends key)
all_but ends key = rw (low_end key) refl

below_is : (key high : List ℕ) (o : Ordering) → bytes_cmp key high ≡ o → has ([] ∷ high ∷ []) key ≡ is_lt o
below_is key high o at = all_but (high ∷ []) key ∙ by o at
  where
    by : (o : Ordering) → bytes_cmp key high ≡ o → not (has (high ∷ []) key) ≡ is_lt o
    by Less at = rw at refl
    by Equal at = rw at refl
    by Greater at = rw at refl

from_is : (key low : List ℕ) (o : Ordering) → bytes_cmp key low ≡ o → has (low ∷ []) key ≡ is_ge o
from_is key low o at = grind (arith, common_steps)

then_less_lt : (o : Ordering) → is_lt (ordering_then o Less) ≡ is_le o
then_less_lt o = grind (arith, common_steps)

then_less_ge : (o : Ordering) → is_ge (ordering_then o Less) ≡ is_gt o
then_less_ge o = grind (arith, common_steps)

pub by_order : {V : Type 0} (order : V → V → Ordering) (plain : V → PlainKeyed)
    → Writes order (λ v. (plain v).key) → (v r : V)
    → AreByOrder (order v r) (λ c. has (ends_with c (plain r)) (plain v).key)
by_order order plain writes v r =
    let key = (plain v).key in
    let other = (plain r).key in
    let at = at_key writes v r in
    let over = after_key writes v r in
    record {
      equal = equal_is key other (after other) (order v r) at over;
      unequal =
          all_but (other ∷ after other ∷ []) key
          ∙ ap not (equal_is key other (after other) (order v r) at over);
      less = below_is key other (order v r) at;
      less_eq = below_is key (after other) (ordering_then (order v r) Less) over ∙ then_less_lt (order v r);
      greater = from_is key (after other) (ordering_then (order v r) Less) over ∙ then_less_ge (order v r);
      greater_eq = from_is key other (order v r) at;
      earlier = below_is key other (order v r) at;
      later = from_is key (after other) (ordering_then (order v r) Less) over ∙ then_less_ge (order v r);
    }

-- ---- by the parts

-- a key in an interval is not below the low end, and below the high one
interval : (key low high : List ℕ)
    → (has (low ∷ high ∷ []) key ≡ true) ↔ ((¬ (bytes_cmp key low ≡ Less)) × (bytes_cmp key high ≡ Less))
interval key low high = grind (arith, common_steps)

abbrev items : List PartKey → List ℕ
items = items_bytes part_bytes

-- parts with bytes after them, and the parts with which they begin, with bytes after these
by_first : (p b : PartKey) (parts ps : List PartKey) (x y : List ℕ)
    → bytes_cmp (parts_bytes (p ∷ parts) ++ x) (items (b ∷ ps) ++ y)
    ≡ ordering_then (part_cmp (Some p) (Some b)) (bytes_cmp (parts_bytes parts ++ x) (items ps ++ y))
by_first p b parts ps x y =
    (λ i. bytes_cmp (append_assoc (part_bytes (Some p)) (parts_bytes parts) x i)
    (append_assoc (part_bytes (Some b)) (items ps) y i))
    ∙ part_writes.compares (Some p) (Some b) (parts_bytes parts ++ x) (items ps ++ y)

same_part : (p b : PartKey) → part_cmp (Some p) (Some b) ≡ Equal → p ≡ b
same_part p b tied =
    let lists : p ∷ [] ≡ b ∷ [] = lists_same (p ∷ []) (b ∷ []) (rw tied refl) in
    cc lists

begin_parts : (ps parts : List PartKey) (x : List ℕ)
    → ¬ (bytes_cmp (parts_bytes parts ++ x) (items ps ++ []) ≡ Less)
    → bytes_cmp (parts_bytes parts ++ x) (items ps ++ 4 ∷ []) ≡ Less
    → (more : List PartKey) × (parts ≡ ps ++ more)
begin_parts [] parts x from below = (parts, refl)
begin_parts (Word w ∷ ps) [] x from below = cc below
begin_parts (Number n suffix ∷ ps) [] x from below = absurd (from refl)
begin_parts (b ∷ ps) (p ∷ parts) x from below =
    by (part_cmp (Some p) (Some b)) refl (begin_parts ps parts x)
  where
    by : (o : Ordering) → part_cmp (Some p) (Some b) ≡ o
        → (¬ (bytes_cmp (parts_bytes parts ++ x) (items ps ++ []) ≡ Less)
        → bytes_cmp (parts_bytes parts ++ x) (items ps ++ 4 ∷ []) ≡ Less
        → (more : List PartKey) × (parts ≡ ps ++ more))
        → (more : List PartKey) × (p ∷ parts ≡ (b ∷ ps) ++ more)
    by Less is step = absurd (from ((rw is at (by_first p b parts ps x []))))
    by Equal is step =
        let rest = step
        (λ less. from ((rw is at (by_first p b parts ps x [])) ∙ less))
        (sym ((rw is at (by_first p b parts ps x (4 ∷ [])))) ∙ below) in
        (rest.0, λ i. same_part p b is i ∷ rest.1 i)
    by Greater is step =
        cc (sym ((rw is at (by_first p b parts ps x (4 ∷ [])))) ∙ below)

not_below : (bytes : List ℕ) → ¬ (bytes_cmp bytes [] ≡ Less)
not_below [] e = cc e
not_below (b ∷ bytes) e = cc e

parts_between : (ps more : List PartKey) (x : List ℕ)
    → (¬ (bytes_cmp (parts_bytes (ps ++ more) ++ x) (items ps ++ []) ≡ Less))
    × (bytes_cmp (parts_bytes (ps ++ more) ++ x) (items ps ++ 4 ∷ []) ≡ Less)
parts_between [] [] x = (not_below (parts_bytes [] ++ x), refl)
parts_between [] (Word w ∷ more) x = (not_below (parts_bytes (Word w ∷ more) ++ x), refl)
parts_between [] (Number n suffix ∷ more) x = (not_below (parts_bytes (Number n suffix ∷ more) ++ x), refl)
parts_between (p ∷ ps) more x =
    let rest = parts_between ps more x in
    let tied = tied_itself part_total (Some p) in (
      λ less. rest.0 (sym ((rw tied at (by_first p p (ps ++ more) ps x []))) ∙ less),
      (rw tied at (by_first p p (ps ++ more) ps x (4 ∷ []))) ∙ rest.1,
    )

-- a key and a bound: by epochs, then by parts
bound_is : (k : Key) (epoch : ℕ) (ps : List PartKey) (y : List ℕ)
    → bytes_cmp (key_bytes k) (begun epoch ps ++ y)
    ≡ ordering_then (nat_cmp k.epoch epoch) (bytes_cmp (parts_bytes k.body ++ tail_bytes k.tail) (items ps ++ y))
bound_is k epoch ps y =
    ap (bytes_cmp (key_bytes k)) (append_assoc (number_bytes epoch) (items ps) y)
    ∙ number_writes.compares k.epoch epoch (parts_bytes k.body ++ tail_bytes k.tail) (items ps ++ y)

between : (k : Key) (epoch : ℕ) (ps : List PartKey)
    → ((¬ (bytes_cmp (key_bytes k) (begun epoch ps) ≡ Less))
    × (bytes_cmp (key_bytes k) (begun epoch ps ++ 4 ∷ []) ≡ Less)) ↔ BeginsWith epoch ps k
between k epoch ps = (
  λ is. by (nat_cmp k.epoch epoch) refl is.0 is.1,
  λ begins.
      let inside = parts_between ps begins.more (tail_bytes k.tail) in
      let tied : nat_cmp k.epoch epoch ≡ Equal =
      ap (λ n. nat_cmp n epoch) begins.epoch_is ∙ tied_itself nat_cmp_total epoch in
      let at : (y : List ℕ) → bytes_cmp (key_bytes k) (begun epoch ps ++ y)
      ≡ bytes_cmp (parts_bytes (ps ++ begins.more) ++ tail_bytes k.tail) (items ps ++ y) =
      λ y. (rw tied at (bound_is k epoch ps y))
      ∙ ap (λ body. bytes_cmp (parts_bytes body ++ tail_bytes k.tail) (items ps ++ y)) begins.parts_are in (
        λ less. inside.0 (sym (at []) ∙ ap (bytes_cmp (key_bytes k)) (append-nil (begun epoch ps)) ∙ less),
        at (4 ∷ []) ∙ inside.1,
      ),
)
  where
    by : (o : Ordering) → nat_cmp k.epoch epoch ≡ o → ¬ (bytes_cmp (key_bytes k) (begun epoch ps) ≡ Less)
        → bytes_cmp (key_bytes k) (begun epoch ps ++ 4 ∷ []) ≡ Less → BeginsWith epoch ps k
    by Less is from below =
        absurd (from (ap (bytes_cmp (key_bytes k)) (sym (append-nil (begun epoch ps)))
        ∙ (rw is at (bound_is k epoch ps []))))
    by Greater is from below =
        cc (sym ((rw is at (bound_is k epoch ps (4 ∷ [])))) ∙ below)
    by Equal is from below =
        let begins = begin_parts ps k.body (tail_bytes k.tail)
        (λ less. from (ap (bytes_cmp (key_bytes k)) (sym (append-nil (begun epoch ps)))
        ∙ (rw is at (bound_is k epoch ps [])) ∙ less))
        (sym ((rw is at (bound_is k epoch ps (4 ∷ [])))) ∙ below) in
        record {
          epoch_is = nat_cmp-IsAntisymmetric k.epoch epoch is;
          more = begins.0;
          parts_are = begins.1;
        }

pub prefix_is : (r v : PlainVersioning)
    → (has (begun (key_of r).epoch (key_of r).body ∷ (begun (key_of r).epoch (key_of r).body ++ 4 ∷ []) ∷ [])
    (key_bytes (key_of v)) ≡ true) ↔ BeginsWith (key_of r).epoch (key_of r).body (key_of v)
prefix_is r v = search (arith, interval, between)

-- bytes below others are below what these begin
below_longer : (bytes low more : List ℕ) → bytes_cmp bytes low ≡ Less → bytes_cmp bytes (low ++ more) ≡ Less
below_longer [] [] more less = cc less
below_longer [] (y ∷ low) more less = refl
below_longer (x ∷ bytes) [] more less = cc less
below_longer (x ∷ bytes) (y ∷ low) more less = grind (arith, common_steps, below_longer bytes low more)

-- from a key on, below the bound of parts with which it begins
pub series_is : (k key_r : Key) (epoch : ℕ) (ps : List PartKey) → BeginsKey (begun epoch ps) (key_bytes key_r)
    → (has (key_bytes key_r ∷ (begun epoch ps ++ 4 ∷ []) ∷ []) (key_bytes k) ≡ true)
    ↔ ((¬ (precedence k key_r ≡ Less)) × BeginsWith epoch ps k)
series_is k key_r epoch ps key_begins =
    let inside = interval (key_bytes k) (key_bytes key_r) (begun epoch ps ++ 4 ∷ []) in
    let begins = between k epoch ps in
    let same = writes_alone key_writes k key_r in (
      λ e.
          let is = inside.0 e in (
            λ less. is.0 (same ∙ less),
            begins.0 (
              λ less. is.0 (ap (bytes_cmp (key_bytes k)) key_begins.whole
                  ∙ below_longer (key_bytes k) (begun epoch ps) (key_begins.byte ∷ key_begins.rest) less),
              is.1,
            ),
          ),
      λ e. inside.1 (λ less. e.0 (sym same ∙ less), (begins.1 e.1).1),
    )
