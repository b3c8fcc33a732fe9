use Rattle.std.proofs.Common.{◌==◌, ◌∙◌, drop, sym, arith}
use Rattle.version_order.specs.texts.Bytes.{dot}
use Rattle.version_texts.proofs.lemmas.scan.Tail.{bad_chunk, from_last, from_next, place_last, place_next}
use Rattle.version_texts.proofs.lemmas.scan.Section.{is_dot, no_dot, chunk_empty}
use Rattle.version_order.proofs.lemmas.Runs.{not_false, not_true, begins_within}
use Rattle.version_texts.proofs.scan.scan_release.Goals as goal

pub returns-in_err-run-clause-whole : goal.returns-in_err-run-clause-whole
returns-in_err-run-clause-whole c = grind (arith, bad_chunk, chunk_empty)

pub returns-then-not-run-clause-whole : goal.returns-then-not-run-clause-whole
returns-then-not-run-clause-whole c = grind (arith, bad_chunk, not_true)

pub chunks-preserved : goal.chunks-preserved
chunks-preserved c =
    let goes_on =
    is_dot (drop c.in_ok-run.run'.end c.args.text.now) c.in_ok-run.run'.next
    c.in_ok-run.ensures.next c.if-run-ne-DOT.false in
    let good = sym c.in_ok-run.ensures.chunk ∙ not_false _ c.if-not-run.false in
    record {
      end = c.chunks.invariant.end
          ∙ place_next c.args.text.now c.chunks.place c.in_ok-run.run'.end c.in_ok-run.ensures.end
          goes_on;
      same = c.chunks.invariant.same
          ∙ from_next c.args.text.now c.chunks.place c.in_ok-run.run'.end c.in_ok-run.ensures.end
          good goes_on;
      within = omega
          (arith, begins_within (λ b. b == dot) c.args.text.now c.in_ok-run.run'.end goes_on);
    }

pub returns-then-is_metadata_tail : goal.returns-then-is_metadata_tail
returns-then-is_metadata_tail c =
    let text = c.args.text.now in
    let good = sym c.in_ok-run.ensures.chunk ∙ not_false _ c.if-not-run.false in
    let ends = no_dot (drop c.in_ok-run.run'.end text) c.in_ok-run.run'.next
    c.in_ok-run.ensures.next c.if-run-ne-DOT.true in
    record {
      end = sym (c.chunks.invariant.end ∙ place_last text c.chunks.place c.in_ok-run.run'.end
          c.in_ok-run.ensures.end (sym c.is_metadata_tail.ensures ∙ c.if-is_metadata_tail.true));
      whole = sym (c.chunks.invariant.same ∙ from_last text c.chunks.place c.in_ok-run.run'.end
          c.in_ok-run.ensures.end good ends ∙ sym c.is_metadata_tail.ensures
          ∙ c.if-is_metadata_tail.true);
    }

pub returns-then-run-ne-DOT-clause-whole : goal.returns-then-run-ne-DOT-clause-whole
returns-then-run-ne-DOT-clause-whole c =
    let good = sym c.in_ok-run.ensures.chunk ∙ not_false _ c.if-not-run.false in
    let ends = no_dot
    (drop c.in_ok-run.run'.end c.args.text.now) c.in_ok-run.run'.next c.in_ok-run.ensures.next
    c.if-run-ne-DOT.true in
    sym (c.chunks.invariant.same
    ∙ from_last c.args.text.now c.chunks.place c.in_ok-run.run'.end c.in_ok-run.ensures.end good
    ends ∙ sym c.is_metadata_tail.ensures ∙ c.if-is_metadata_tail.false)
