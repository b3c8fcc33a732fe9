use Rattle.std.proofs.Common.{◌≡◌, ◌∙◌, ◌+◌, [], ap, length, subst, sym, zero-add}
use Rattle.std.proofs.Math.Bool.{or-false}
use Rattle.version_sets.specs.{Form.has, Form.form_bytes, Pile.IsPile, Pile.all_have, declared.merge.Rule.TheVariants.Either}
use Rattle.version_sets.proofs.lemmas.Reader.{of_one}
use Rattle.version_sets.proofs.read.reader.Reader.finish.Goals as goal

pub returns : goal.returns
returns c done own holds =
    let reader = c.close.new.self in
    let closed = c.close.ensures.holds done own holds in
    let lies : IsPile c.close.new.room [] reader.alternatives reader.end closed.sets =
    subst (λ n. IsPile c.close.new.room [] reader.alternatives n closed.sets) c.close.ensures.over closed.are in
    let left = c.collapse.ensures.kept [] closed.sets lies in
    let one = of_one c.collapse.new.room [] c.collapse.new.self c.collapse.result left.0 left.1
    (c.collapse.ensures.some c.close.ensures.read) c.collapse.ensures.depth in
    let order : c.collapse.new.self.order ≡ c.args.self.now.order =
    c.collapse.ensures.same.0 ∙ c.close.ensures.fits.order ∙ c.close.ensures.same.1 in
    record {
      ends = one.ends;
      rise = one.rise;
      bytes = one.bytes ∙ ap (λ n. form_bytes n one.ends) order;
      size_is = one.size ∙ ap (λ n. 0 + length (form_bytes n one.ends)) order ∙ zero-add _;
      have = λ key.
          sym (or-false (has one.ends key)) ∙ ap (λ sets. all_have Either sets key) (sym one.sets_are)
          ∙ ap (λ rule. all_have rule left.0 key) (sym c.close.ensures.fits.either) ∙ left.2 key
          ∙ ap (λ rule. all_have rule closed.sets key) c.close.ensures.fits.either ∙ closed.have key;
    }
