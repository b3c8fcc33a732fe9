use Rattle.std.proofs.Common.{◌≡◌, ◌∙◌, IfSome, ap, sym, arith, ◌↔◌, ℕ, Bool, true, false, List, Option, IsTrue, refl}
use Rattle.std.specs.{Option.option_map, Ordering.is_ge, declared.cmp.Ordering.Ordering, declared.cmp.Ordering.TheVariants.Less}
use Rattle.version_rules.specs.{declared.kind.Kind.Kind, declared.kinds.Kinds.Kinds, key.Key.key_of, key.Key.key_bytes, requirement.Range.AreBetween, requirement.Range.has_kind}
use Rattle.version_order.specs.keys.Lists.{bytes_cmp}
use Rattle.version_texts.specs.VersioningRef.{plain_versioning_ref}
use Rattle.version_texts.proofs.lemmas.versioning_ref.VersioningRef.{kind-is}
use Rattle.version_texts.proofs.versioning_ref.VersioningRef.is_in.Goals.{in-Some+else-is_ge, in_default}
use Rattle.version_texts.proofs.versioning_ref.VersioningRef.is_in.Goals as goal

-- Whether bytes lie between bounds, by how they compare with these.

ge_is : (o : Ordering) → IsTrue (is_ge o) ↔ (¬ (o ≡ Less))
ge_is Less = (λ e. cc e, λ above. absurd (above refl))
ge_is o = (λ e less. cc less, λ above. refl)

less_is : (o : Ordering) → false ≡ is_ge o → o ≡ Less
less_is Less below = refl
less_is o below = cc below

module _ (low bytes : List ℕ) (high : Option (List ℕ)) (kinds : Kinds) (shape_kind kind : Kind)
    (same : shape_kind ≡ kind) where
  -- another kind
  pub not_of_kind : false ≡ has_kind kinds shape_kind
      → IsTrue false ↔ (AreBetween low high bytes × IsTrue (has_kind kinds kind))
  not_of_kind other = (λ no. cc no, λ is. other ∙ ap (has_kind kinds) same ∙ is.1)

  -- not below the high bound
  pub too_high : ¬ (IfSome high (λ bound. bytes_cmp bytes bound ≡ Less))
      → IsTrue false ↔ (AreBetween low high bytes × IsTrue (has_kind kinds kind))
  too_high above = (λ no. cc no, λ is. absurd (above is.0.below_high))

  -- below the high bound, so the low one decides
  pub from_low : (result : Bool) → true ≡ has_kind kinds shape_kind
      → IfSome high (λ bound. bytes_cmp bytes bound ≡ Less)
      → result ≡ is_ge (bytes_cmp bytes low)
      → IsTrue result ↔ (AreBetween low high bytes × IsTrue (has_kind kinds kind))
  from_low result has below e = grind (arith, ge_is)

pub returns-then-not-has : goal.returns-then-not-has
returns-then-not-has c =
    not_of_kind _ _ _ _ _ _ (kind-is _ _ c.args.self.now.read) c.if-not-has.ensures

pub returns-then-is_ge : goal.returns-then-is_ge
returns-then-is_ge c = grind (arith, too_high, kind-is, ge_is)

pub returns : goal.returns
returns c =
    let bytes = key_bytes (key_of (plain_versioning_ref c.args.self.now)) in
    let below : IfSome (option_map (λ bound. bound.now) c.args.high) (λ bound. bytes_cmp bytes bound ≡ Less) =
    elim c.match-high.branch [
      | in-Some+else-is_ge w ↦ rw w.in-Some.is (sym w.compare_key.ensures ∙ less_is _ w.if-is_ge.ensures)
      | in_default w ↦ rw w.in_default.is tt
    ] in
    from_low _ _ _ _ _ _ (kind-is _ _ c.args.self.now.read) _ c.if-not-has.ensures below
    (c.is_ge-2.ensures ∙ ap is_ge c.compare_key-2.ensures)
