use Rattle.std.proofs.Common.{◌∙◌, ap, arith}
use Rattle.std.proofs.lemmas.List.{nil_from_length}
use Rattle.std.specs.List.{list_all}
use Rattle.version_order.specs.texts.Bytes.{is_identifier_byte}
use Rattle.version_pieces.proofs.lemmas.Pieces.{chunk_and_more, chunk_of_metadata, first_chunk, last_chunk, not_dot, rest_of_metadata}
use Rattle.version_pieces.proofs.lemmas.Pieces.{behind_shorter}
use Rattle.version_order.proofs.lemmas.Sinks.{next_fits, owes_all, owes_rest, owes_same}
use Rattle.version_pieces.proofs.releases.put_release.Goals as goal

pub chunks-init : goal.chunks-init
chunks-init g c = grind (arith, owes_all)

pub chunks-preserved : goal.chunks-preserved
chunks-preserved g c =
    let so_far = c.chunks.invariant in
    let left = c.chunks.left.now in
    let rest = c.split_run.ensures.rest in
    let cut = c.in-Some.ensures.cases.0 in
    let more = chunk_and_more left _ _ _ _ c.split_run.ensures.run rest cut in (
      owes_rest _ _ (owes_same more so_far.0) c.put_chunk.ensures,
      rest_of_metadata left _ _ _ so_far.1 rest cut,
    )

pub chunks-smaller : goal.chunks-smaller
chunks-smaller g c =
    behind_shorter not_dot _ _ _ _ c.split_run.ensures.rest c.in-Some.ensures.cases.0

pub put_chunk-requires-clause-text : goal.put_chunk-requires-clause-text
put_chunk-requires-clause-text g c =
    ap (list_all is_identifier_byte) c.split_run.ensures.run
    ∙ chunk_of_metadata c.chunks.left.now c.chunks.invariant.1

pub put_chunk-requires-clause-fits : goal.put_chunk-requires-clause-fits
put_chunk-requires-clause-fits g c =
    next_fits _ _ (owes_same (first_chunk c.chunks.left.now _ c.split_run.ensures.run).1
    c.chunks.invariant.0)

pub put-requires : goal.put-requires
put-requires g c = grind (arith, last_chunk, nil_from_length, owes_rest, owes_same)

pub returns-in-None : goal.returns-in-None
returns-in-None g c = grind (arith, last_chunk, nil_from_length, owes_rest, owes_same)

pub returns-then-is_decided : goal.returns-then-is_decided
returns-then-is_decided g c =
    let first = first_chunk c.chunks.left.now _ c.split_run.ensures.run in
    (owes_rest _ _ (owes_same first.1 c.chunks.invariant.0) c.put_chunk.ensures).ends _
    (c.is_decided.ensures c.if-is_decided.true _)
