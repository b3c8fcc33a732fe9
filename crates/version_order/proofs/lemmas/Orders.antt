-- Lemmas of orders in general, for proofs: one order and then another, and orders that are Equal
-- only for the same value.
use Rattle.std.proofs.Common.{◌≡◌, ◌∙◌, ◌↔◌, refl, subst}
use Rattle.std.specs.{Cmp.IsTotalOrder, Cmp.tied_itself, FinMap.IsAntisymmetric, Ordering.ordering_then, Ordering.then_cmp, declared.cmp.Ordering.Ordering}
use Rattle.std.specs.declared.cmp.Ordering.TheVariants.{Less, Equal, Greater}
use Rattle.version_order.specs.keys.Codes.{then_equal, then_second}

pub then_assoc : (a b c : Ordering)
    → ordering_then (ordering_then a b) c ≡ ordering_then a (ordering_then b c)
then_assoc Less b c = refl
then_assoc Equal b c = refl
then_assoc Greater b c = refl

-- what is not Equal decides, whatever follows
pub then_decided : (a b c : Ordering) → ¬ (a ≡ Equal) → ordering_then a b ≡ ordering_then a c
then_decided Less b c h = refl
then_decided Equal b c h = absurd (h refl)
then_decided Greater b c h = refl

pub settled : (a b : Ordering) → ¬ (a ≡ Equal) → ordering_then a b ≡ a
settled a b h = then_decided a b Equal h ∙ then_equal a

pub then_same : {A : Type 0} (R : A → A → Ordering) {S : A → A → Ordering} → IsAntisymmetric S
    → IsAntisymmetric (then_cmp R S)
then_same R same a b tied = same a b (then_second _ _ tied)

-- an order is Equal exactly for the same value
pub equal_where_same : {A : Type 0} {R : A → A → Ordering} → IsTotalOrder R → IsAntisymmetric R
    → (a b : A) → (R a b ≡ Equal) ↔ (a ≡ b)
equal_where_same {R = R} total same a b =
    (same a b, λ e. subst (λ c. R a c ≡ Equal) e (tied_itself total a))
