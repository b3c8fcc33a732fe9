-- A set while it is read: one member more, the end of an alternative, the end of the text.
use Rattle.std.proofs.Common.{[], ◌≡◌, ◌∙◌, ◌+◌, ◌≤◌, ◌&&◌, ◌||◌, ℕ, zero, suc, Bool, true, false, List, ◌∷◌, ◌++◌, append-nil, append_assoc, ap, arith, length, length-append, refl, sym, take}
use Rattle.std.proofs.lemmas.{Grind.common_steps, List.take-append-drop}
use Rattle.version_order.specs.keys.Sinks.{put_at}
use Rattle.version_sets.specs.Reading.{Member, Reading, Right, Wrong, next_alternative, with_member}
use Rattle.version_sets.specs.{Form.Rise, Form.has, Form.form_bytes, Pile.IsPile, Pile.through, Reader.Continues, declared.read.pile.Pile.Pile}

-- ---- rooms

-- bytes written from a place on, and those before it
pub put_taken : (room : List ℕ) (start : ℕ) (bytes : List ℕ) → start + length bytes ≤ length room
    → (take (start + length bytes) (put_at room start bytes) ≡ take start room ++ bytes)
    × (take start (put_at room start bytes) ≡ take start room)
put_taken room zero [] fits = (refl, refl)
put_taken [] zero (b ∷ bytes) fits = absurd (omega (arith, fits))
put_taken [] (suc start) bytes fits = absurd (omega (arith, fits))
put_taken (x ∷ room) zero (b ∷ bytes) fits =
    let rest = put_taken room zero bytes (omega (arith, fits)) in (
      ap (λ n. take n (b ∷ put_at room 0 bytes)) place ∙ ap (λ (l : List ℕ). b ∷ l) rest.0,
      refl,
    )
  where
    place : 0 + length (b ∷ bytes) ≡ suc (0 + length bytes)
    place = omega arith
put_taken (x ∷ room) (suc start) bytes fits =
    let rest = put_taken room start bytes (omega (arith, fits)) in (
      ap (λ n. take n (x ∷ put_at room start bytes)) place ∙ ap (λ (l : List ℕ). x ∷ l) rest.0,
      ap (λ (l : List ℕ). x ∷ l) rest.1,
    )
  where
    place : suc start + length bytes ≡ suc (start + length bytes)
    place = omega arith

-- bytes written into a room from its beginning on begin it
pub begins_room : (old new bytes : List ℕ) (size : ℕ) → length bytes ≤ length old → size ≡ 0 + length bytes
    → new ≡ put_at old 0 bytes → take size new ≡ bytes
begins_room old new bytes size fits size_is new_is =
    (λ i. take (size_is i) (new_is i)) ∙ (put_taken old 0 bytes (omega (arith, fits))).0

-- the bytes through sets begin with those below them
through_begins : (order : ℕ) (below : List ℕ) (sets : List (List (List ℕ)))
    → (more : List ℕ) × (through order below sets ≡ below ++ more)
through_begins order below [] = ([], sym (append-nil below))
through_begins order below (last ∷ sets) =
    let front = through_begins order below sets in (
      front.0 ++ form_bytes order last,
      ap (λ (l : List ℕ). l ++ form_bytes order last) front.1
          ∙ append_assoc below front.0 (form_bytes order last),
    )

-- what lies below a pile
pub below_kept : (room below : List ℕ) (pile : Pile) (end : ℕ) (sets : List (List (List ℕ)))
    → IsPile room below pile end sets → take (length below) room ≡ below
below_kept room below pile end sets is =
    grind (arith, common_steps, through_begins pile.order below sets, take-append-drop end room)

-- a pile lies in each room that begins with the same bytes
pub same_bytes : (room other below : List ℕ) (pile : Pile) (end : ℕ) (sets : List (List (List ℕ)))
    → take end other ≡ take end room → IsPile room below pile end sets → IsPile other below pile end sets
same_bytes room other below pile end sets same is = grind (arith, common_steps)

-- the one set of a pile of one
pub record IsOfOne (room below : List ℕ) (pile : Pile) (end : ℕ) (sets : List (List (List ℕ))) : Type 0 where
  pub ends : List (List ℕ)
  pub sets_are : sets ≡ ends ∷ []
  pub rise : Rise ends
  pub bytes : take end room ≡ below ++ form_bytes pile.order ends
  pub size : end ≡ length below + length (form_bytes pile.order ends)

pub of_one : (room below : List ℕ) (pile : Pile) (end : ℕ) (sets : List (List (List ℕ)))
    → IsPile room below pile end sets → 1 ≤ pile.depth → pile.depth ≤ 1
    → IsOfOne room below pile end sets
of_one room below pile end [] is some few = absurd (omega (arith, is.begin, some))
of_one room below pile end (ends ∷ []) is some few = grind (arith, common_steps, length-append)
of_one room below pile end (ends ∷ next ∷ sets) is some few = grind (arith, common_steps)

-- ---- what is read

pub at_first : (whole : Reading) → Continues whole (λ key. false) (λ key. true) whole
at_first (Wrong place reason) = refl
at_first (Right first others) = (first, others, refl, λ key. refl)

pub with_one : (whole rest : Reading) (done own : List ℕ → Bool) (member : Member)
    → Continues whole done own (with_member member rest)
    → Continues whole done (λ key. own key && has member.ends key) rest
with_one whole rest done own member is = grind (arith, common_steps)

pub with_next : (whole rest : Reading) (done own : List ℕ → Bool)
    → Continues whole done own (next_alternative rest)
    → Continues whole (λ key. done key || own key) (λ key. true) rest
with_next whole rest done own is = grind (arith, common_steps)
