use Rattle.version_lines.proofs.lemmas.Newest.{kept_to-leaves, kept_to-stays}
use Rattle.version_lines.proofs.sort.newest.first_of_each.Goals.{then-more-gt0+in_ok-push, else-more-gt0}
use Rattle.version_lines.proofs.sort.newest.first_of_each.Goals as goal

pub loop-line-preserved : goal.loop-line-preserved
loop-line-preserved c =
    let within = c.requires c.loop-line.line-index _ c.loop-line-test.true in
    elim c.if-more-gt0.branch [
      | then-more-gt0+in_ok-push w ↦ rw (w.left-is, w.kept-is)
          (kept_to-stays _ _ _ _ _ _ c.loop-line.invariant c.loop-line-test.true within _ _
          c.index-more.ensures w.if-more-gt0.true w.in_ok-push.ensures.items)
      | else-more-gt0 w ↦ rw (w.left-is, w.kept-is)
          (kept_to-leaves _ _ _ _ _ _ c.loop-line.invariant c.loop-line-test.true within
          _ c.index-more.ensures w.if-more-gt0.false)
    ]
