use Rattle.std.proofs.Common.{rules, of_z, to_z, ◌≡◌, ◌∙◌, ◌∷◌, [], List, ap, arith, false, length, refl, true, subst, w32, ℕ}
use Rattle.version_sets.specs.{Form.has, Form.form_bytes, Pile.merged, Set.by_rule, declared.merge.Rule.TheVariants.FirstAlone}
use Rattle.version_sets.proofs.lemmas.{Comparison.one_rises, Ends.are_merged, Form.form_length, Pile.no_longer}
use Rattle.versions_c.specs.Written.{IsWritten}
use Rattle.versions_c.proofs.set_algebra.versions_set_not.Goals as goal

-- all have each key
all_has : (key : List ℕ) → has ([] ∷ []) key ≡ true
all_has [] = refl
all_has (b ∷ key) = refl

pub returns-clause-made : goal.returns-clause-made
returns-clause-made c scheme set is rise =
    let rule = by_rule FirstAlone in
    let one = c.in-Some.ensures.form scheme set is in
    let are = are_merged rule refl ([] ∷ []) set (one_rises []) rise in
    let ends = c.of-2.ensures.left ∙ (λ i. merged rule false false (c.all.ensures i) (one.1 i)) in
    let written = subst (λ (form : List ℕ). IsWritten form c.args.form.now c.write.new.form c.write.new.form_len
    c.write.result) (λ i. form_bytes (one.0 i) (ends i)) c.write.ensures.written in
    let same : to_z w32 (of_z w32 c.write.result) ≡ c.write.result = search rules in
    record {
      ends = merged rule false false ([] ∷ []) set;
      rise = are.rise;
      have = λ key. are.are key ∙ ap (λ b. by_rule FirstAlone b (has set key)) (all_has key);
      short = omega (
        arith,
        no_longer scheme rule ([] ∷ []) set,
        form_length scheme ([] ∷ []),
        ap (λ (l : List ℕ). length l) is,
      );
      written = rw same written;
    }
