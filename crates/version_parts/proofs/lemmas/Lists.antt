-- Lists that are compared, printed and fed to a hasher.
use Rattle.std.proofs.Common.{◌≡◌, List, map, refl, ℕ, [], ◌++◌, ◌∷◌, Result, Ok, Err, OnErr, sym, ap, ◌∙◌, append_assoc, append-nil}
use Rattle.std.proofs.lemmas.{List.length-map, List.Folds.flat_map-map}
use Rattle.std.specs.{Hash.HashWrites, List.flat_map, List.join_with_byte}
use Rattle.version_order.specs.keys.Lists.{Growing, GrowsWithin}
use Rattle.std.specs.Hash as fed

-- ---- what a hash is fed for a list

-- items are fed as their plain values are
pub fed_plain : {T A : Type 0} (plain : T → A) (item_fed : A → HashWrites) (items : List T)
    → fed.slice (λ (item : T). item_fed (plain item)) items ≡ fed.slice item_fed (map plain items)
fed_plain plain item_fed items = rw (length-map items plain, flat_map-map item_fed plain items) refl

-- ---- A list to which bytes are appended, some at a time

pub grows_not : (old bytes : List ℕ) → Growing old old bytes bytes
grows_not old bytes = record { taken = []; bytes_are = refl; new_is = sym (append-nil old) }

pub grows_by : (old new after bytes more left : List ℕ) → Growing old new bytes (more ++ left)
    → after ≡ new ++ more → Growing old after bytes left
grows_by old new after bytes more left g e = record {
  taken = g.taken ++ more;
  bytes_are = g.bytes_are ∙ sym (append_assoc g.taken more left);
  new_is = e ∙ ap (λ (l : List ℕ). l ++ more) g.new_is ∙ append_assoc old g.taken more;
}

-- a prefix of what is appended next
pub grows_within : (old new after bytes more left : List ℕ) → Growing old new bytes (more ++ left)
    → GrowsWithin new after more → GrowsWithin old after bytes
grows_within old new after bytes more left g (rest, h) = (
  rest ++ left,
  record {
    taken = g.taken ++ h.taken;
    bytes_are = g.bytes_are ∙ ap (λ (l : List ℕ). g.taken ++ (l ++ left)) h.bytes_are
        ∙ ap (λ (l : List ℕ). g.taken ++ l) (append_assoc h.taken rest left)
        ∙ sym (append_assoc g.taken h.taken (rest ++ left));
    new_is = h.new_is ∙ ap (λ (l : List ℕ). l ++ h.taken) g.new_is
        ∙ append_assoc old g.taken h.taken;
  },
)

-- what holds at any answer holds at an error
pub at_any_error : {T E P : Type 0} (r : Result T E) → P → OnErr r P
at_any_error (Ok x) p = tt
at_any_error (Err e) p = p

-- what is left, given in another way
pub left_is : (old new bytes left more : List ℕ) → Growing old new bytes left → left ≡ more
    → Growing old new bytes more
left_is old new bytes left more g e =
    record {
      taken =
          g.taken;
      bytes_are = g.bytes_are ∙ ap (λ (l : List ℕ). g.taken ++ l) e;
      new_is = g.new_is;
    }

-- one more byte
pub grows_by_byte : (old new after bytes rest left : List ℕ) (byte : ℕ) → Growing old new bytes left
    → left ≡ byte ∷ rest → after ≡ new ++ byte ∷ [] → Growing old after bytes rest
grows_by_byte old new after bytes rest left byte g e added =
    grows_by old new after bytes (byte ∷ []) rest
    (left_is old new bytes left (byte ∷ rest) g e) added

-- and then a prefix of what is left
pub grows_in_turn : (old new after bytes left : List ℕ) → Growing old new bytes left
    → GrowsWithin new after left → GrowsWithin old after bytes
grows_in_turn old new after bytes left g h =
    grows_within old new after bytes left []
    (left_is old new bytes left (left ++ []) g (sym (append-nil left))) h

-- and then nothing more
pub grows_so_far : (old new after bytes left : List ℕ) → Growing old new bytes left → after ≡ new
    → GrowsWithin old after bytes
grows_so_far old new after bytes left g e =
    (left, record { taken = g.taken; bytes_are = g.bytes_are; new_is = e ∙ g.new_is })

-- ---- the printed text of a list, as a loop writes it

-- the first item, and the others each after a mark, are the items joined by the mark
pub joined : {T A : Type 0} (mark : ℕ) (plain : T → A) (text : A → List ℕ) (first : T)
    (others : List T)
    → text (plain first) ++ flat_map (λ item. mark ∷ text (plain item)) others
    ≡ join_with_byte mark (map text (map plain (first ∷ others)))
joined mark plain text first [] = append-nil _
joined mark plain text first (next ∷ others) =
    ap (λ (l : List ℕ). text (plain first) ++ mark ∷ l) (joined mark plain text next others)
