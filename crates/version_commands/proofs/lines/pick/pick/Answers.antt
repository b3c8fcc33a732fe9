use Rattle.std.proofs.Common.{◌≡◌, ◌∙◌, ◌∷◌, ◌++◌, [], None, ap, append-nil, false, is_some, map, refl, sym, true}
use Rattle.std.proofs.lemmas.{List.map-append}
use Rattle.version_commands.proofs.lemmas.Picked.{picked-bad, picked-good, IsPicked}
use Rattle.version_commands.specs.{declared.lines.pick.Picked.Picked, lines.Picked.kept_lines, lines.Picked.Versions}
use Rattle.version_lines.specs.Inputs.{lines_left, plain_line}
use Rattle.version_commands.proofs.lines.pick.pick.Goals.{in-Some-text+in_ok-pick_text+else-branch, in_default-text}
use Rattle.version_commands.proofs.lines.pick.pick.Goals as goal

pub loop-line-preserved-then-branch : goal.loop-line-preserved-then-branch
loop-line-preserved-then-branch g c =
    let (ready, same, kept, taken, so_far) = c.loop-line.invariant in
    let line = plain_line c.in-Some.line in
    let some : is_some (g.T.Takes.versions c.args.taker.now line.text) ≡ true =
    ap (λ (versions : Versions). is_some (versions line.text)) (sym same) ∙ sym c.in_ok-pick_text.ensures.found
    ∙ c.if-branch.true in (
      c.pick_text.ensures.ready,
      c.pick_text.ensures.versions ∙ same,
      kept ++ kept_lines (g.T.Takes.versions c.args.taker.now) (g.C.Chooses.keeps c.args.chooser.now) (line.text ∷ []),
      rw same at (c.in_ok-pick_text.ensures.taken c.args.taker.now kept taken),
      picked-good _ _ _ _ _ line kept _ so_far c.in-Some.ensures.steps some,
    )

pub loop-line-preserved : goal.loop-line-preserved
loop-line-preserved g c =
    let (ready, same, kept, taken, so_far) = c.loop-line.invariant in
    let line = plain_line c.in-Some.line in
    let versions = g.T.Takes.versions c.args.taker.now in
    let keeps = g.C.Chooses.keeps c.args.chooser.now in
    let bad : c.match-text.picked.bad.items ≡ c.loop-line.picked.bad.items
    → map plain_line c.push.new.self.items ≡ map plain_line c.loop-line.picked.bad.items ++ line ∷ [] =
    λ stays. ap (map plain_line) (rw stays at c.in_ok-push.ensures.items) ∙ map-append plain_line _ _ in
    let picked : is_some (versions line.text) ≡ false → c.match-text.picked.bad.items ≡ c.loop-line.picked.bad.items
    → IsPicked versions keeps (lines_left c.args.lines) (lines_left c.next.new.self)
    (kept ++ kept_lines versions keeps (line.text ∷ [])) (map plain_line c.push.new.self.items) =
    λ none stays. rw (bad stays) (picked-bad _ _ _ _ _ line kept _ so_far c.in-Some.ensures.steps none) in
    elim c.match-text.branch [
      | in-Some-text+in_ok-pick_text+else-branch w ↦
          let none : is_some (versions line.text) ≡ false =
          rw same at (sym w.in_ok-pick_text.ensures.found ∙ w.if-branch.false) in (
            rw w.taker-is w.pick_text.ensures.ready,
            rw w.taker-is (w.pick_text.ensures.versions ∙ same),
            kept ++ kept_lines versions keeps (line.text ∷ []),
            rw w.taker-is (rw same at (w.in_ok-pick_text.ensures.taken c.args.taker.now kept taken)),
            picked none (ap (λ (p : Picked). p.bad.items) w.picked-is),
          )
      | in_default-text w ↦
          let none : versions line.text ≡ None = rw same at w.in_default-text.ensures in
          let alone : kept ++ kept_lines versions keeps (line.text ∷ []) ≡ kept = rw none (append-nil kept) in (
            rw w.taker-is ready,
            rw w.taker-is same,
            kept,
            rw w.taker-is taken,
            rw alone at (picked (rw none refl) (ap (λ (p : Picked). p.bad.items) w.picked-is)),
          )
    ]
