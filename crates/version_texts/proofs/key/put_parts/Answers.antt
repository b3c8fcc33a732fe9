use Rattle.std.proofs.Common.{◌∙◌, refl, rules, arith}
use Rattle.std.specs.Char.{is_ascii_alphanumeric}
use Rattle.version_texts.proofs.lemmas.Pieces.{first_part, last_part, part_and_more, rest_and_more, rest_of_last}
use Rattle.version_pieces.proofs.lemmas.Pieces.{behind_shorter}
use Rattle.version_order.proofs.lemmas.Sinks.{next_fits, owes_all, owes_rest, owes_same}
use Rattle.version_texts.proofs.key.put_parts.Goals as goal

pub parts-init : goal.parts-init
parts-init g c = grind (arith, owes_all)

pub parts-preserved : goal.parts-preserved
parts-preserved g c =
    let so_far = c.parts.invariant in
    let left = c.parts.left.now in
    let behind = c.in-Some.behind.now in
    let rest = c.put_part-rest.ensures.rest in
    let more = part_and_more left _ behind rest c.in-Some.ensures in (
      owes_rest _ _ (owes_same more so_far.0) c.put_part-rest.ensures.bytes,
      rest_and_more left _ behind rest c.in-Some.ensures ∙ so_far.1,
    )

pub parts-smaller : goal.parts-smaller
parts-smaller g c =
    behind_shorter is_ascii_alphanumeric _ _ _ _ c.put_part-rest.ensures.rest c.in-Some.ensures

pub returns-then-is_decided-clause-bytes : goal.returns-then-is_decided-clause-bytes
returns-then-is_decided-clause-bytes g c =
    let first = first_part c.parts.left.now _ c.put_part-rest.ensures.rest in
    let left = owes_rest _ _ (owes_same first.1 c.parts.invariant.0) c.put_part-rest.ensures.bytes in
    left.ends _ (c.if-is_decided.ensures (search rules) first.0)

pub returns-in-None-clause-bytes : goal.returns-in-None-clause-bytes
returns-in-None-clause-bytes g c = grind (arith, last_part, owes_same)

pub returns-in-None-clause-rest : goal.returns-in-None-clause-rest
returns-in-None-clause-rest g c = grind (arith, rest_of_last)

pub put_part-rest-requires : goal.put_part-rest-requires
put_part-rest-requires g c =
    next_fits _ _ (owes_same (first_part c.parts.left.now _ refl).1 c.parts.invariant.0)
