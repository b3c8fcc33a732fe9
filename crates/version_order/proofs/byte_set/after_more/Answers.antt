use Rattle.std.proofs.Common.{◌≡◌, ◌∙◌, ◌-◌, ◌<◌, ℕ, Bool, List, ap, arith, drop, get_or, length, suc, sym, true}
use Rattle.std.proofs.Math.Seq.{drop-cons}
use Rattle.std.proofs.lemmas.List.{length-drop, take_all}
use Rattle.std.specs.List.{prefix_len}
use Rattle.version_order.proofs.lemmas.Runs.{run_cons}
use Rattle.version_order.proofs.byte_set.after_more.Goals as goal

-- behind a byte that passes the run ends where it does from the byte on
passed : (test : ℕ → Bool) (text : List ℕ) (place : ℕ) → place < length text → test (get_or text place 0) ≡ true
    → drop (prefix_len test (drop (suc place) text)) (drop (suc place) text)
    ≡ drop (prefix_len test (drop place text)) (drop place text)
passed test text place within is =
    sym (ap (λ (l : List ℕ). drop (prefix_len test l) l) (drop-cons text place 0 within)
    ∙ (run_cons test (get_or text place 0) (drop (suc place) text) is).1)

pub loop-left-preserved : goal.loop-left-preserved
loop-left-preserved g c =
    let test = g.B.ByteSet.has in
    let left = c.loop-left.left.now in
    let long = c.in-len4-up.len_at_least in
    let rest = take_all (length left - 4) (drop 4 left) (omega (arith, length-drop 4 left)) in
    ap (λ (l : List ℕ). drop (prefix_len test l) l) rest
    ∙ passed test left 3 (omega (arith, long)) (sym c.has-in-len4-up-3.ensures ∙ c.if-not-has-4.false)
    ∙ passed test left 2 (omega (arith, long)) (sym c.has-in-len4-up-2.ensures ∙ c.if-not-has-3.false)
    ∙ passed test left 1 (omega (arith, long)) (sym c.has-in-len4-up.ensures ∙ c.if-not-has-2.false)
    ∙ passed test left 0 (omega (arith, long)) (sym c.has.ensures ∙ c.if-not-has.false)
    ∙ c.loop-left.invariant
