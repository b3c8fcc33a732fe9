use Rattle.std.proofs.Common.{◌≡◌, ◌∙◌, ◌+◌, ◌≤◌, ◌∷◌, ◌||◌, arith, length, min, nat_lt, refl, sym}
use Rattle.version_order.proofs.lemmas.Sinks.{put_first}
use Rattle.version_schemes.proofs.lemmas.Front.{length-set, put_past, too_much}
use Rattle.version_schemes.proofs.key.FrontSink.put.Goals as goal

pub returns-then-self : goal.returns-then-self
returns-then-self c =
    let front = c.args.self.now in
    let room = front.room.now in
    let size = length-set room front.end c.args.byte in
    record {
      same = refl;
      within = λ _. omega (arith, size, c.if-self.true);
      leads = λ more.
          let bytes = put_first room front.end c.args.byte more (omega (arith, c.if-self.true)) in
          let place : front.end + 1 + length more ≡ front.end + length (c.args.byte ∷ more) = omega arith in
          λ i. (bytes i, (min (size i) (place i), front.is_over || nat_lt (size i) (place i)));
    }

pub returns-else-self : goal.returns-else-self
returns-else-self c =
    let front = c.args.self.now in
    let room = front.room.now in
    let past : length room ≤ front.end = omega (arith, c.if-self.false) in
    record {
      same = refl;
      within = λ inside. inside;
      leads = λ more.
          let bytes = put_past room front.end more past ∙ sym (put_past room front.end (c.args.byte ∷ more) past) in
          let ends : min (length room) (front.end + length more)
          ≡ min (length room) (front.end + length (c.args.byte ∷ more)) = omega (arith, past) in
          let over = too_much front.is_over (length room) front.end (length more) past in
          λ i. (bytes i, (ends i, over i));
    }
