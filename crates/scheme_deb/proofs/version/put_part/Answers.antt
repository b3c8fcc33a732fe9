use Rattle.std.proofs.Common.{◌∙◌, ◌<◌, ap, arith, length, refl, rules, sym}
use Rattle.std.specs.List.{list_all}
use Rattle.version_order.specs.texts.Front.{behind_digits}
use Rattle.version_order.proofs.lemmas.Sinks.{next_fits, owes_rest, owes_same}
use Rattle.scheme_deb.proofs.lemmas.Cut.{all_left, in_turn, left_bytes, left_shorter, left_some, none_left, some_left}
use Rattle.scheme_deb.specs.Texts.{is_of_upstream}
use Rattle.scheme_deb.proofs.version.put_part.Goals as goal

pub put_run-rest-requires-clause-fits : goal.put_run-rest-requires-clause-fits
put_run-rest-requires-clause-fits g c =
    next_fits _ _ (owes_same (in_turn c.pairs.left.now _ refl) c.pairs.invariant.1)

pub put_number-left-requires : goal.put_number-left-requires
put_number-left-requires g c =
    next_fits _ _
    (owes_rest _ _ (owes_same (in_turn c.pairs.left.now _ c.put_run-rest.ensures.rest) c.pairs.invariant.1)
    c.put_run-rest.ensures.bytes)

pub put-requires : goal.put-requires
put-requires g c =
    let none = none_left _ (sym c.is_empty.ensures ∙ c.if-is_empty.true) in
    (owes_same (ap left_bytes (sym c.put_number-left.ensures.rest ∙ none))
    (owes_rest _ _ (owes_rest _ _ (owes_same (in_turn c.pairs.left.now _ c.put_run-rest.ensures.rest)
    c.pairs.invariant.1) c.put_run-rest.ensures.bytes) c.put_number-left.ensures.bytes)).room

pub returns-then-is_empty : goal.returns-then-is_empty
returns-then-is_empty g c =
    let none = none_left _ (sym c.is_empty.ensures ∙ c.if-is_empty.true) in
    (owes_same (ap left_bytes (sym c.put_number-left.ensures.rest ∙ none))
    (owes_rest _ _ (owes_rest _ _ (owes_same (in_turn c.pairs.left.now _ c.put_run-rest.ensures.rest)
    c.pairs.invariant.1) c.put_run-rest.ensures.bytes) c.put_number-left.ensures.bytes)).ends _ c.put.ensures

pub returns-then-is_decided : goal.returns-then-is_decided
returns-then-is_decided g c =
    (owes_rest _ _ (owes_rest _ _ (owes_same (in_turn c.pairs.left.now _ c.put_run-rest.ensures.rest)
    c.pairs.invariant.1) c.put_run-rest.ensures.bytes) c.put_number-left.ensures.bytes).ends _
    (c.if-is_decided.ensures (search rules) _)

pub pairs-smaller : goal.pairs-smaller
pairs-smaller g c =
    let left = c.put_number-left.ensures.rest ∙ ap behind_digits c.put_run-rest.ensures.rest in
    let less : length c.put_number-left.result.now < length c.pairs.left.now =
    omega (
      arith,
      ap length left,
      left_shorter c.pairs.left.now
          (λ e. some_left _ (sym c.is_empty.ensures ∙ c.if-is_empty.false) (left ∙ e)),
    ) in
    less

pub pairs-preserved : goal.pairs-preserved
pairs-preserved g c =
    let left = c.put_number-left.ensures.rest in
    let all = left ∙ ap behind_digits c.put_run-rest.ensures.rest in
    let some = some_left _ (sym c.is_empty.ensures ∙ c.if-is_empty.false) in (
      ap (list_all is_of_upstream) all ∙ all_left is_of_upstream c.pairs.left.now c.pairs.invariant.0,
      owes_same (ap left_bytes (sym left) ∙ left_some _ some)
          (owes_rest _ _ (owes_rest _ _ (owes_same (in_turn c.pairs.left.now _ c.put_run-rest.ensures.rest)
          c.pairs.invariant.1) c.put_run-rest.ensures.bytes) c.put_number-left.ensures.bytes),
    )
