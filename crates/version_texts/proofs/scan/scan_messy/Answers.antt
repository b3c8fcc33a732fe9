use Rattle.std.proofs.Common.{◌∙◌, ℕ, drop, sym, ap}
use Rattle.version_texts.specs.Scan.{are_marked_runs}
use Rattle.version_texts.proofs.lemmas.scan.Scanned.{no_kind}
use Rattle.version_texts.proofs.scan.scan_messy.Goals as goal

pub returns-then-not-are_marked_runs : goal.returns-then-not-are_marked_runs
returns-then-not-are_marked_runs c =
    let behind = ap (λ (k : ℕ). are_marked_runs (drop k c.args.text.now)) (sym c.requires.end) in
    no_kind c.args.text.now c.requires.runs c.requires.not_general
    (behind ∙ sym c.are_marked_runs.ensures ∙ c.if-not-are_marked_runs.true)
