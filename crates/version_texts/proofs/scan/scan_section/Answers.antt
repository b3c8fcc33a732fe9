use Rattle.std.proofs.Common.{arith}
use Rattle.version_texts.proofs.lemmas.scan.Section.{is_dot, no_dot, all_last, all_next, empty_piece, end_last, end_next, pieces_last, pieces_next, run_some}
use Rattle.version_order.proofs.lemmas.Runs.{begins_within}
use Rattle.version_texts.proofs.scan.scan_section.Goals as goal

pub returns-in_err-run-clause-runs : goal.returns-in_err-run-clause-runs
returns-in_err-run-clause-runs c = grind (arith, empty_piece)

pub returns-then-section-ne-DOT : goal.returns-then-section-ne-DOT
returns-then-section-ne-DOT c = grind (arith, no_dot, pieces_last, run_some, end_last, all_last)

pub parts-preserved : goal.parts-preserved
parts-preserved c = grind (arith, is_dot, pieces_next, run_some, end_next, all_next, begins_within)
