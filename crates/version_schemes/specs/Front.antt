-- What a buffer that keeps what fits becomes as bytes are written.
use Rattle.std.specs.Prelude.{◌≡◌, ℕ, Bool, List, [], ◌++◌, ◌+◌, ◌≤◌, ◌||◌, length, min, nat_lt, refl}
use Rattle.version_order.specs.keys.Sinks.{Leads, leads_both, leads_none, put_at}
use Rattle.version_schemes.specs.declared.key.Front.{Front}
use Rattle.std.proofs.Common.{◌∙◌}

-- the buffer after more bytes, the place after those that fit, and whether some didn't
abbrev pub front_with : Front → List ℕ → List ℕ × (ℕ × Bool)
front_with front more =
    let size = length front.room.now in
    let end = front.end + length more in
    (put_at front.room.now front.end more, (min size end, front.is_over || nat_lt size end))

-- the same buffer, with the bytes from its place on
pub record TakesFront (first : Front) (bytes : List ℕ) (last : Front) : Type 0 where
  pub same : last.room.ghost_name ≡ first.room.ghost_name
  pub within : first.end ≤ length first.room.now → last.end ≤ length last.room.now
  pub leads : Leads front_with first bytes last

pub front_none : (front : Front) → TakesFront front [] front
front_none front = record { same = refl; within = λ inside. inside; leads = leads_none front_with front }

pub front_both : (first middle last : Front) (xs ys : List ℕ) → TakesFront first xs middle
    → TakesFront middle ys last → TakesFront first (xs ++ ys) last
front_both first middle last xs ys h k = record {
  same = k.same ∙ h.same;
  within = λ inside. k.within (h.within inside);
  leads = leads_both front_with first middle last xs ys h.leads k.leads;
}
