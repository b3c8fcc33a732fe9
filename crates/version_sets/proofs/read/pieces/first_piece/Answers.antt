use Rattle.std.proofs.Common.{◌∙◌, ap, arith, length, length-append, sym}
use Rattle.version_order.proofs.lemmas.Cuts.{run_and_rest}
use Rattle.version_order.specs.texts.Front.{begins}
use Rattle.version_sets.specs.Pieces.{is_blank, is_word_byte}
use Rattle.version_sets.proofs.lemmas.Pieces.{first_bar, first_bars, first_comma, first_word, no_other}
use Rattle.version_sets.proofs.read.pieces.first_piece.Goals as goal

pub returns-then-first-eq44-clause-some : goal.returns-then-first-eq44-clause-some
returns-then-first-eq44-clause-some c =
    first_comma c.args.text.now c.in_ok-first.rest.now _ c.in_ok-first.ensures.cases.0 c.if-first-eq44.true

pub returns-in-Some-clause-some : goal.returns-in-Some-clause-some
returns-in-Some-clause-some c =
    first_bars c.args.text.now _ c.in-Some.behind.now _ c.in_ok-first.ensures.cases.0
    c.if-first-eq124.true c.in-Some.ensures

pub returns-in-None-clause-some : goal.returns-in-None-clause-some
returns-in-None-clause-some c =
    first_bar c.args.text.now c.in_ok-first.rest.now _ c.in_ok-first.ensures.cases.0
    c.if-first-eq124.true c.in-None.ensures

pub returns-clause-some : goal.returns-clause-some
returns-clause-some c =
    let whole = c.in_ok-first.ensures.cases.0 in
    let first = c.in_ok-first.first.now in
    (first_word c.args.text.now c.in_ok-first.rest.now c.split_set.result.0.now _ first whole
    (no_other first (ap (begins is_blank) (sym whole) ∙ c.requires) c.if-first-eq44.false
    c.if-first-eq124.false)
    c.split_set.ensures.run c.split_set.ensures.rest).0

pub returns-clause-whole : goal.returns-clause-whole
returns-clause-whole c =
    let cut = run_and_rest is_word_byte c.args.text.now _ _ c.split_set.ensures.run c.split_set.ensures.rest in
    omega (arith, ap length cut.0, length-append c.split_set.result.0.now c.split_set.result.1.now)

pub returns-clause-shorter : goal.returns-clause-shorter
returns-clause-shorter c =
    let whole = c.in_ok-first.ensures.cases.0 in
    let first = c.in_ok-first.first.now in
    let cut = run_and_rest is_word_byte c.args.text.now _ _ c.split_set.ensures.run c.split_set.ensures.rest in
    let some = (first_word c.args.text.now c.in_ok-first.rest.now c.split_set.result.0.now _ first whole
    (no_other first (ap (begins is_blank) (sym whole) ∙ c.requires) c.if-first-eq44.false
    c.if-first-eq124.false)
    c.split_set.ensures.run c.split_set.ensures.rest).1 in
    omega (arith, some, ap length cut.0, length-append c.split_set.result.0.now c.split_set.result.1.now)
