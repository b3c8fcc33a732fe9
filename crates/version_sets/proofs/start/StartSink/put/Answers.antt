use Rattle.std.proofs.Common.{◌≡◌, ◌∙◌, ◌+◌, ◌∷◌, List, ap, arith, length, suc, sym, ℕ}
use Rattle.version_order.specs.keys.Sinks.{put_at, saturated}
use Rattle.version_sets.proofs.lemmas.Pieces.{put_past, put_set}
use Rattle.version_sets.proofs.start.StartSink.put.Goals.{then-self-lt-KEPT, else-self-lt-KEPT}
use Rattle.version_sets.proofs.start.StartSink.put.Goals as goal

-- a byte more is counted, and more behind it
counted : (n now more : ℕ) → now ≡ saturated (n + 1) → saturated (now + more) ≡ saturated (n + suc more)
counted n now more is = omega (arith, is)

pub returns : goal.returns
returns c more =
    let before = c.args.self.now in
    let next = c.saturating_add-self.ensures in
    let count = counted before.end c.saturating_add-self.result (length more) next in
    elim c.if-self-lt-KEPT.branch [
      | then-self-lt-KEPT w ↦
          let there : c.saturating_add-self.result ≡ suc before.end = omega (arith, next, w.if-self-lt-KEPT.true) in
          let bytes = (λ i. put_at ((w.self-is i).1.0) (there i) more)
          ∙ put_set before.bytes before.end c.args.byte more in
          λ i. (bytes i, count i)
      | else-self-lt-KEPT w ↦
          let bytes = ap (λ (l : List ℕ). put_at l c.saturating_add-self.result more) (ap (λ s. s.1.0) w.self-is)
          ∙ put_past before.bytes c.saturating_add-self.result more
          (omega (arith, before.full, next, w.if-self-lt-KEPT.false))
          ∙ sym (put_past before.bytes before.end (c.args.byte ∷ more)
          (omega (arith, before.full, w.if-self-lt-KEPT.false))) in
          λ i. (bytes i, count i)
    ]
