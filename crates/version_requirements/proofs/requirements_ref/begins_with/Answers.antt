use Rattle.std.proofs.Common.{◌≡◌, ◌∙◌, ◌==◌, ℕ, slice_index, List, [], ◌∷◌, false, refl, sym, nat_eq, arith}
use Rattle.std.proofs.lemmas.{Cmp.nat_eq_equiv, List.drop_more}
use Rattle.std.proofs.Math.ListN.{drop_of_length-le}
use Rattle.std.specs.List.{starts_with}
use Rattle.version_order.specs.texts.Front.{begins}
use Rattle.version_requirements.proofs.requirements_ref.begins_with.Goals as goal

-- a text that doesn't begin with a byte doesn't begin with that byte and more
differs : (b : ℕ) (text front : List ℕ) → begins (λ x. x == b) text ≡ false
    → starts_with nat_eq text (b ∷ front) ≡ false
differs b [] front other = refl
differs b (x ∷ text) front other = rw (nat_eq_equiv.symm b x ∙ other) refl

pub returns-in-None : goal.returns-in-None
returns-in-None c = grind (arith, drop_more, differs)

pub loop-byte-preserved : goal.loop-byte-preserved
loop-byte-preserved c = grind (arith, drop_more, slice_index)

pub returns : goal.returns
returns c =
    sym (c.loop-byte.invariant ∙ rw (drop_of_length-le c.args.front.now c.loop-byte-test.false) refl)
