use Rattle.std.proofs.Common.{rules, of_z, to_z, ◌≡◌, ◌∙◌, List, ap, arith, false, length, subst, w32, ℕ}
use Rattle.version_sets.specs.{Form.form_bytes, Pile.merged, Set.by_rule}
use Rattle.version_sets.proofs.lemmas.{Ends.are_merged, Pile.no_longer, Pile.nothing_alone}
use Rattle.versions_c.specs.Written.{IsWritten}
use Rattle.versions_c.proofs.set_algebra.combine.Goals as goal

pub returns-in-Ok-clause-made : goal.returns-in-Ok-clause-made
returns-in-Ok-clause-made c scheme first second one_is other_is rise rise_too =
    let rule = by_rule c.args.rule in
    let sets = c.in-Ok.ensures.ok scheme first second one_is other_is in
    let are = are_merged rule (nothing_alone c.args.rule) first second rise rise_too in
    let ends = c.of.ensures.left ∙ (λ i. merged rule false false (sets.1 i) (sets.2 i)) in
    let written = subst (λ (form : List ℕ). IsWritten form c.args.form.now c.write.new.form c.write.new.form_len
    c.write.result) (λ i. form_bytes (sets.0 i) (ends i)) c.write.ensures.written in
    let same : to_z w32 (of_z w32 c.write.result) ≡ c.write.result = search rules in
    record {
      ends = merged rule false false first second;
      rise = are.rise;
      have = are.are;
      short = omega (
        arith,
        no_longer scheme rule first second,
        ap (λ (l : List ℕ). length l) one_is,
        ap (λ (l : List ℕ). length l) other_is,
      );
      written = rw same written;
    }
