use Rattle.std.proofs.Common.{◌≡◌, ◌∙◌, ◌+◌, ◌≤◌, ◌&&◌, ◌∷◌, ◌++◌, [], ap, arith, length, sym, take}
use Rattle.std.proofs.Math.Bool.{and_comm}
use Rattle.version_sets.specs.{Form.has, Form.form_bytes, Pile.all_have, Pile.through}
use Rattle.version_order.specs.keys.Sinks.{length-put}
use Rattle.version_sets.proofs.lemmas.Reader.{below_kept, put_taken, same_bytes}
use Rattle.version_sets.proofs.read.reader.Reader.add.Goals as goal

pub returns-clause-holds : goal.returns-clause-holds
returns-clause-holds c before ends done own holds rise written size =
    let reader = c.args.self.now in
    let below = through reader.alternatives.order [] holds.sets in
    let form = form_bytes reader.order ends in
    let order = c.requires.fits.members_order in
    let fits : reader.end + length form ≤ length before =
    omega (
      arith,
      c.requires.room,
      size,
      ap length written,
      length-put before reader.end form,
    ) in
    let put = put_taken before reader.end form fits in
    let front : take reader.end c.args.room.now ≡ take reader.end before =
    ap (take reader.end) written ∙ put.1 in
    let lies = same_bytes before c.args.room.now below reader.members reader.end holds.members front holds.members_are in
    let bytes : take c.args.end c.args.room.now
    ≡ take reader.end c.args.room.now ++ form_bytes reader.members.order ends =
    (λ i. take (size i) (written i)) ∙ put.0
    ∙ (λ i. (sym front) i ++ form_bytes (sym order i) ends) in
    let pushed = c.push-self.ensures.sets below holds.members ends lies rise bytes
    (size ∙ ap (λ n. reader.end + length (form_bytes n ends)) (sym order)) in
    record {
      sets = holds.sets;
      are =
          record {
            bytes =
                ap (λ n. take n c.push-self.new.room) holds.are.size
                ∙ below_kept c.push-self.new.room below c.push-self.new.self c.push-self.result pushed.0 pushed.1;
            size = holds.are.size;
            begin = holds.are.begin;
            rise = holds.are.rise;
          };
      have = holds.have;
      members = pushed.0;
      members_are = pushed.1;
      members_have = λ key.
          ap (λ rule. all_have rule pushed.0 key) (sym c.requires.fits.both) ∙ pushed.2 key
          ∙ ap (λ rule. all_have rule (ends ∷ holds.members) key) c.requires.fits.both
          ∙ ap (λ b. has ends key && b) (holds.members_have key) ∙ and_comm (has ends key) (own key);
    }
