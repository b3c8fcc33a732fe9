use Rattle.std.proofs.Common.{◌≡◌, ◌∙◌, ◌+◌, ◌||◌, ◌∷◌, ◌++◌, [], ap, length, refl, sym, take}
use Rattle.std.proofs.Math.Bool.{and-true, or_comm}
use Rattle.version_sets.specs.{Form.has, Form.form_bytes, Pile.IsPile, Pile.all_have, Pile.through, declared.merge.Rule.TheVariants.Both}
use Rattle.version_sets.proofs.lemmas.Reader.{below_kept, of_one}
use Rattle.version_sets.proofs.read.reader.Reader.close.Goals as goal

pub returns-clause-holds : goal.returns-clause-holds
returns-clause-holds c done own holds =
    let reader = c.args.self.now in
    let below = through reader.alternatives.order [] holds.sets in
    let room = c.collapse-end.new.room in
    let members = c.collapse-end.new.self in
    let end = c.collapse-end.result in
    let left = c.collapse-end.ensures.kept below holds.members holds.members_are in
    let one = of_one room below members end left.0 left.1 (c.collapse-end.ensures.some c.requires.some)
    c.collapse-end.ensures.depth in
    let front : take reader.start room ≡ below =
    ap (λ n. take n room) holds.are.size ∙ below_kept room below members end left.0 left.1 in
    let lies : IsPile room [] reader.alternatives reader.start holds.sets =
    record { bytes = front; size = holds.are.size; begin = holds.are.begin; rise = holds.are.rise } in
    let order : members.order ≡ reader.alternatives.order =
    c.collapse-end.ensures.same.0 ∙ c.requires.fits.members_order ∙ sym c.requires.fits.order in
    let pushed = c.push-self.ensures.sets [] holds.sets one.ends lies one.rise
    (one.bytes ∙ λ i. (sym front) i ++ form_bytes (order i) one.ends)
    (one.size ∙ λ i. (sym holds.are.size) i + length (form_bytes (order i) one.ends)) in
    record {
      sets = pushed.0;
      are = pushed.1;
      have = λ key.
          let own_is : has one.ends key ≡ own key =
          sym (and-true (has one.ends key)) ∙ ap (λ sets. all_have Both sets key) (sym one.sets_are)
          ∙ ap (λ rule. all_have rule left.0 key) (sym c.requires.fits.both) ∙ left.2 key
          ∙ ap (λ rule. all_have rule holds.members key) c.requires.fits.both ∙ holds.members_have key in
          ap (λ rule. all_have rule pushed.0 key) (sym c.requires.fits.either) ∙ pushed.2 key
          ∙ ap (λ rule. all_have rule (one.ends ∷ holds.sets) key) c.requires.fits.either
          ∙ (λ i. own_is i || holds.have key i) ∙ or_comm (own key) (done key);
      members = [];
      members_are =
          record { bytes = pushed.1.bytes; size = pushed.1.size; begin = c.clear.ensures.depth; rise = tt };
      members_have = λ key. refl;
    }
