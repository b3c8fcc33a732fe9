use Rattle.std.proofs.Common.{[], ◌∷◌, arith}
use Rattle.std.proofs.lemmas.List.{nil_from_length}
use Rattle.version_order.specs.texts.Bytes.{is_section_byte}
use Rattle.version_texts.proofs.lemmas.Pieces.{behind_all, first_section, last_section, section_and_more}
use Rattle.version_pieces.proofs.lemmas.Pieces.{behind_shorter}
use Rattle.version_order.proofs.lemmas.Sinks.{next_fits, owes_all, owes_rest, owes_same}
use Rattle.version_texts.proofs.key.put_sections.Goals as goal

pub sections-init : goal.sections-init
sections-init g c = grind (arith, owes_all)

pub sections-preserved : goal.sections-preserved
sections-preserved g c =
    let so_far = c.sections.invariant in
    let left = c.sections.left.now in
    let rest = c.in-Some.ensures.rest in
    let cut = c.in-Some-split_first.ensures.cases.0 in
    let more = section_and_more left _ _ _ so_far.1 rest cut in (
      owes_rest _ _ (owes_rest (2 ∷ []) _ (owes_same more so_far.0) c.put.ensures)
          c.in-Some.ensures.bytes,
      behind_all left _ _ _ so_far.1 rest cut,
    )

pub sections-smaller : goal.sections-smaller
sections-smaller g c =
    behind_shorter is_section_byte _ _ _ _ c.in-Some.ensures.rest c.in-Some-split_first.ensures.cases.0

pub returns-in_default : goal.returns-in_default
returns-in_default g c =
    let first = first_section c.sections.left.now c.sections.invariant.1 in
    let left = owes_rest (2 ∷ []) _ (owes_same first.1 c.sections.invariant.0) c.put.ensures in
    (owes_rest _ _ left c.in_default.ensures.bytes).ends _ (c.in_default.ensures.decided first.0)

pub returns-in-None : goal.returns-in-None
returns-in-None g c =
    let last = last_section c.sections.left.now c.in-Some.rest.now c.in-Some.ensures.rest
    (nil_from_length _ c.in-None.ensures.cases) in
    let left = owes_rest (2 ∷ []) _ (owes_same last c.sections.invariant.0) c.put.ensures in
    (owes_rest _ _ left c.in-Some.ensures.bytes).ends _ c.put-in-None.ensures

pub put-requires : goal.put-requires
put-requires g c =
    let first = first_section c.sections.left.now c.sections.invariant.1 in
    next_fits (2 ∷ []) _ (owes_same first.1 c.sections.invariant.0)

pub put_list-requires : goal.put_list-requires
put_list-requires g c =
    let first = first_section c.sections.left.now c.sections.invariant.1 in
    next_fits _ _ (owes_rest (2 ∷ []) _ (owes_same first.1 c.sections.invariant.0) c.put.ensures)

pub put-requires-in-None : goal.put-requires-in-None
put-requires-in-None g c = grind (arith, last_section, nil_from_length, owes_rest, owes_same)
