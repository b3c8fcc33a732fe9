use Rattle.std.proofs.Common.{◌≡◌, ◌∙◌, ◌++◌, ◌∷◌, List, ℕ, Some, ap, append_assoc, refl, sym, true}
use Rattle.version_order.specs.declared.ends.{Kept.Kept, Kept.TheVariants.All, Kept.TheVariants.ButLast, Kept.TheVariants.ButLastOrOnly, Kept.TheVariants.ThroughOther}
use Rattle.version_order.specs.keys.Codes.{items_bytes}
use Rattle.version_rules.specs.{key.PartKey.PartKey, key.PartKey.part_bytes, requirement.Range.kept_parts, requirement.VersionMatch.is_plain_zero}
use Rattle.versions.specs.Version.{first_part, more_parts}
use Rattle.versions.proofs.range.build.append_kept.Goals.{else-eq-via-then-eq+else-not-begins_with_zero, else-eq-via-else-eq}
use Rattle.versions.proofs.range.build.append_kept.Goals as goal

-- a part that others follow is kept, and what is kept of these, unless the walk ends at it
goes_on : (kept : Kept) (w x : PartKey) (more : List PartKey)
    → ¬ (kept ≡ ButLastOrOnly) → (kept ≡ ThroughOther → is_plain_zero w ≡ true)
    → items_bytes part_bytes (kept_parts kept (w ∷ x ∷ more))
    ≡ part_bytes (Some w) ++ items_bytes part_bytes (kept_parts kept (x ∷ more))
goes_on All w x more other zero = refl
goes_on ButLast w x more other zero = refl
goes_on ButLastOrOnly w x more other zero = absurd (other refl)
goes_on ThroughOther w x more other zero = rw (zero refl) refl

pub loop-rest-preserved : goal.loop-rest-preserved
loop-rest-preserved c =
    let first = first_part c.loop-rest.parts in
    let zero : c.args.kept ≡ ThroughOther → is_plain_zero first ≡ true =
    elim c.else-eq.branch [
      | else-eq-via-then-eq+else-not-begins_with_zero w ↦
          λ same. sym w.begins_with_zero.ensures ∙ w.if-not-begins_with_zero.false
      | else-eq-via-else-eq w ↦ λ same. cc (rw same at c.eq.ensures, w.if-eq.false)
    ] in
    let whole = goes_on c.args.kept first (first_part c.in-Some.rest) (more_parts c.in-Some.rest)
    c.requires zero in
    let appended = c.part.ensures ∙ ap (λ (k : PartKey). part_bytes (Some k)) c.first.ensures in
    let kept = items_bytes part_bytes
    (kept_parts c.args.kept (first_part c.in-Some.rest ∷ more_parts c.in-Some.rest)) in
    ap (λ (l : List ℕ). l ++ kept) (c.in_ok-append_to.ensures.ok
    ∙ ap (λ (l : List ℕ). c.loop-rest.list.items ++ l) appended)
    ∙ append_assoc c.loop-rest.list.items (part_bytes (Some first)) kept
    ∙ ap (λ (l : List ℕ). c.loop-rest.list.items ++ l) (sym whole)
    ∙ rw c.in-Some.ensures.some at c.loop-rest.invariant
