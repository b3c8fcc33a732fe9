use Rattle.std.proofs.Common.{◌≡◌, ◌∙◌, None, Some, ap, refl, sym}
use Rattle.std.specs.{Cmp.second_so, List.list_all, Ordering.ordering_then, declared.cmp.Ordering.Ordering, declared.cmp.Ordering.TheVariants.Equal}
use Rattle.version_order.proofs.lemmas.Orders.{settled}
use Rattle.scheme_deb.proofs.lemmas.Cut.{behind_byte, byte_and_end, ranks_differ, runs_cmp, same_bytes, two_bytes}
use Rattle.scheme_deb.specs.{Order.byte_cmp, Texts.is_of_upstream}
use Rattle.scheme_deb.proofs.version.compare_runs.Goals as goal

pub returns-then-byte-other-clause-order : goal.returns-then-byte-other-clause-order
returns-then-byte-other-clause-order c =
    let one = c.in-Some-Some.ensures.some in
    let two = c.in-Some-Some.ensures'.some in
    let ranks = ranks_differ (Some c.in-Some-Some.byte) (Some c.in-Some-Some.other) _ _ _
    (c.new.ensures.order ∙ c.cmp.ensures) c.rank.ensures c.rank-then-byte-other.ensures
    (λ e. c.if-byte-other.true (cc e)) in
    ranks.0 ∙ sym (two_bytes _ _ _ _ _ _ one.0 one.1 two.0 two.1 ∙ settled _ _ ranks.1) ∙ c.bytes.invariant.left

pub returns-then-byte-other-clause-rest : goal.returns-then-byte-other-clause-rest
returns-then-byte-other-clause-rest c =
    let ranks = ranks_differ (Some c.in-Some-Some.byte) (Some c.in-Some-Some.other) _ _ _
    (c.new.ensures.order ∙ c.cmp.ensures) c.rank.ensures c.rank-then-byte-other.ensures
    (λ e. c.if-byte-other.true (cc e)) in
    λ e. absurd (ranks.1 (sym ranks.0 ∙ e))

pub returns-then-byte-other-clause-other_rest : goal.returns-then-byte-other-clause-other_rest
returns-then-byte-other-clause-other_rest c =
    let ranks = ranks_differ (Some c.in-Some-Some.byte) (Some c.in-Some-Some.other) _ _ _
    (c.new.ensures.order ∙ c.cmp.ensures) c.rank.ensures c.rank-then-byte-other.ensures
    (λ e. c.if-byte-other.true (cc e)) in
    λ e. absurd (ranks.1 (sym ranks.0 ∙ e))

pub bytes-preserved : goal.bytes-preserved
bytes-preserved c =
    let one = c.in-Some-Some.ensures.some in
    let two = c.in-Some-Some.ensures'.some in
    let left = runs_cmp c.in-Some-Some.rest.now c.in-Some-Some.other_rest.now in
    let same : byte_cmp (Some c.in-Some-Some.byte) (Some c.in-Some-Some.other) ≡ Equal =
    ap (λ b. byte_cmp (Some c.in-Some-Some.byte) (Some b)) (sym c.if-byte-other.false)
    ∙ same_bytes c.in-Some-Some.byte in
    record {
      in_x = second_so _ _ (sym (ap (list_all is_of_upstream) one.0) ∙ c.bytes.invariant.in_x);
      in_y = second_so _ _ (sym (ap (list_all is_of_upstream) two.0) ∙ c.bytes.invariant.in_y);
      left = sym (two_bytes _ _ _ _ _ _ one.0 one.1 two.0 two.1 ∙ ap (λ (o : Ordering). ordering_then o left) same)
          ∙ c.bytes.invariant.left;
      behind_x = behind_byte _ _ _ one.0 one.1 ∙ c.bytes.invariant.behind_x;
      behind_y = behind_byte _ _ _ two.0 two.1 ∙ c.bytes.invariant.behind_y;
    }

pub returns-in-Some-None-clause-order : goal.returns-in-Some-None-clause-order
returns-in-Some-None-clause-order c =
    let one = c.in-Some-None.ensures.some in
    let ranks = ranks_differ (Some c.in-Some-None.byte) None _ _ _
    (c.new-in-Some-None.ensures.order ∙ c.cmp-in-Some-None.ensures) c.rank-in-Some-None.ensures refl
    (λ e. cc e) in
    ranks.0 ∙ sym (byte_and_end c.bytes.a.now _ c.bytes.b.now _ one.0 one.1 c.in-Some-None.ensures'.none).0 ∙ c.bytes.invariant.left

pub returns-in-None-Some-clause-order : goal.returns-in-None-Some-clause-order
returns-in-None-Some-clause-order c =
    let two = c.in-None-Some.ensures'.some in
    let ranks = ranks_differ None (Some c.in-None-Some.other) _ _ _
    (c.new-in-None-Some.ensures.order ∙ c.cmp-in-None-Some.ensures) refl c.rank-in-None-Some.ensures
    (λ e. cc e) in
    ranks.0 ∙ sym (byte_and_end c.bytes.b.now _ c.bytes.a.now _ two.0 two.1 c.in-None-Some.ensures.none).1 ∙ c.bytes.invariant.left
