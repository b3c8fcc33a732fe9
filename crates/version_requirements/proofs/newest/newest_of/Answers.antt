use Rattle.std.proofs.Common.{◌≡◌, ◌∙◌, arith, sym}
use Rattle.version_requirements.proofs.lemmas.Newest.{newer, not_newer, passed_over}
use Rattle.version_requirements.proofs.newest.newest_of.Goals.{then-is_newer, else-is_newer}
use Rattle.version_requirements.proofs.newest.newest_of.Goals as goal

pub loop-place-preserved-in_default : goal.loop-place-preserved-in_default
loop-place-preserved-in_default g c =
    passed_over (g.C.Candidates.has c.args.candidates.now) c.loop-place.place
    c.loop-place.newest c.loop-place.invariant
    (rw c.in_default.is at c.version.ensures.none)

pub loop-place-preserved : goal.loop-place-preserved
loop-place-preserved g c =
    let candidates = g.C.Candidates.has c.args.candidates.now in
    let is = rw c.in-Some.is at c.version.ensures.some in
    let alone = rw c.in-Some.is at c.version.ensures.alone in
    elim c.if-is_newer.branch [
      | then-is_newer w ↦
          rw w.newest-is (newer candidates c.loop-place.place c.in-Some.version is alone
          c.loop-place.newest c.loop-place.invariant (c.is_newer.ensures.0 w.if-is_newer.true))
      | else-is_newer w ↦
          rw w.newest-is (not_newer candidates c.loop-place.place c.in-Some.version is alone
          c.loop-place.newest c.loop-place.invariant
          (λ after. cc (sym (c.is_newer.ensures.1 after) ∙ w.if-is_newer.false)))
    ]

pub returns : goal.returns
returns g c =
    let end = c.loop-place.auto.place-end in
    let past = c.loop-place-test.false in
    let all = c.count-place-end.ensures in
    let whole : g.C.Candidates.length c.args.candidates.now ≡ c.loop-place.place =
    omega (arith, end, past, all) in
    rw whole (record { some = c.loop-place.invariant.some; none = c.loop-place.invariant.none })
