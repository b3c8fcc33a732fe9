use Rattle.std.proofs.Common.{◌≡◌, ◌∙◌, ap}
use Rattle.version_rules.specs.grammar.Chunk.{Numeric}
use Rattle.version_order.specs.texts.{Class.contains, Front.map_value}
use Rattle.version_parts.proofs.lemmas.Scans.{run_boundary, behind_more, more_by_rests, no_more_by_rests, numeral_scanned, run_by_rests, run_scanned}
use Rattle.version_parts.proofs.chunk.ChunkText.scan.Goals as goal

pub split_at-requires : goal.split_at-requires
split_at-requires c =
    let rest : c.split_run-2.result.1.now ≡ behind_more (contains c.args.class) c.args.i.now =
    rw (← c.split_run.ensures.rest) c.split_run-2.ensures.rest in
    rw (rest, (run_by_rests (contains c.args.class) c.requires.digits c.args.i.now).0)
    (run_boundary c.args.class c.requires.ascii c.args.i.now c.utf8.i)

pub returns-then-rest-behind-clause-chunk : goal.returns-then-rest-behind-clause-chunk
returns-then-rest-behind-clause-chunk c =
    let rest : c.split_run-2.result.1.now ≡ behind_more (contains c.args.class) c.args.i.now =
    rw (← c.split_run.ensures.rest) c.split_run-2.ensures.rest in
    let more = more_by_rests (contains c.args.class) c.args.i.now
    (rw (rest, c.split_run.ensures.rest) at c.if-rest-behind.true) in
    rw (
      c.split_at.ensures.front,
      c.split_at.ensures.back,
      rest,
      (run_by_rests (contains c.args.class) c.requires.digits c.args.i.now).0,
    )
    (run_scanned _ c.requires.digits _ more)

pub returns-in-Some-clause-chunk : goal.returns-in-Some-clause-chunk
returns-in-Some-clause-chunk c =
    let rest : c.split_run-2.result.1.now ≡ behind_more (contains c.args.class) c.args.i.now =
    rw (← c.split_run.ensures.rest) c.split_run-2.ensures.rest in
    let ends = no_more_by_rests (contains c.args.class) c.args.i.now
    (rw (rest, c.split_run.ensures.rest) at c.if-rest-behind.false) in
    ap (map_value Numeric) c.in-Some.ensures.read ∙ numeral_scanned _ c.requires.digits _ ends

pub returns-in-None-clause-chunk : goal.returns-in-None-clause-chunk
returns-in-None-clause-chunk c =
    let rest : c.split_run-2.result.1.now ≡ behind_more (contains c.args.class) c.args.i.now =
    rw (← c.split_run.ensures.rest) c.split_run-2.ensures.rest in
    let ends = no_more_by_rests (contains c.args.class) c.args.i.now
    (rw (rest, c.split_run.ensures.rest) at c.if-rest-behind.false) in
    ap (map_value Numeric) c.in-None.ensures.read ∙ numeral_scanned _ c.requires.digits _ ends
