use Rattle.std.proofs.Common.{◌++◌, ◌∷◌, [], is_gt, sym, subst, ap, ◌∙◌}
use Rattle.version_lines.specs.Newest.{IsNewestOf}
use Rattle.version_lines.proofs.lemmas.NewestLine.{newest-above, newest-stays}
use Rattle.version_lines.proofs.sort.newest_line.NewestLine.add.Goals as goal

pub returns-then-is_gt-clause-newest : goal.returns-then-is_gt-clause-newest
returns-then-is_gt-clause-newest g c = λ lines so_far.
    let reads = g.B.SortBy.reads c.args.self.now.by in
    newest-above reads lines c.in-Some.field-0-0 c.args.line c.in-Some.newest c.args.version.now
    (subst (IsNewestOf reads lines) c.in-Some.is so_far) c.requires
    (ap is_gt (sym c.precedence.ensures) ∙ sym c.if-is_gt.ensures)

pub returns-else-is_gt-clause-newest : goal.returns-else-is_gt-clause-newest
returns-else-is_gt-clause-newest g c = λ lines so_far.
    let reads = g.B.SortBy.reads c.args.self.now.by in
    let newest = c.in-Some.newest in
    subst (IsNewestOf reads (lines ++ c.args.line.now ∷ [])) (sym c.in-Some.is)
    (newest-stays reads lines c.in-Some.field-0-0 c.args.line newest c.args.version.now
    (subst (IsNewestOf reads lines) c.in-Some.is so_far) c.requires
    (ap is_gt (sym c.precedence.ensures) ∙ sym c.if-is_gt.ensures))
