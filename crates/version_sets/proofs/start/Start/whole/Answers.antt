use Rattle.std.proofs.Common.{◌≡◌, ◌∙◌, ◌≤◌, List, ap, arith, drop, length, replicate, sym, take, ℕ}
use Rattle.std.proofs.lemmas.List.{length-replicate, take_at}
use Rattle.version_order.specs.keys.Sinks.{put_at, put_nothing}
use Rattle.version_order.proofs.lemmas.Sinks.{put_fits}
use Rattle.version_sets.proofs.start.Start.whole.Goals as goal

pub returns : goal.returns
returns c bytes empty zeros none same =
    let start = c.args.self.now in
    let size : length bytes ≡ start.end =
    omega (arith, c.if-self-gt-KEPT.false, none, ap (λ (pair : List ℕ × ℕ). pair.1) same) in
    let buffer : start.bytes ≡ put_at (replicate 64 (0)) 0 bytes =
    sym (put_nothing start.bytes start.end) ∙ ap (λ (pair : List ℕ × ℕ). pair.0) same
    ∙ (λ i. put_at (zeros i) (none i) bytes) in
    let zero : ℕ = 0 in
    let fits : length bytes ≤ length (replicate 64 zero) =
    omega (arith, size, c.if-self-gt-KEPT.false, length-replicate 64 zero) in
    ap (take start.end) (buffer ∙ put_fits (replicate 64 zero) bytes fits)
    ∙ take_at bytes (drop (length bytes) (replicate 64 zero)) start.end size
