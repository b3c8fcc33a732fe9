use Rattle.std.proofs.Common.{◌∷◌, [], ap, rules, sym}
use Rattle.version_order.specs.keys.Codes.{list_bytes}
use Rattle.version_order.proofs.lemmas.Sinks.{next_fits, owes_rest, owes_same}
use Rattle.scheme_rpm.specs.Order.{item_bytes}
use Rattle.scheme_rpm.proofs.lemmas.Rpm.{bytes_first, bytes_step}
use Rattle.scheme_rpm.proofs.version.put_items.Goals as goal

pub put-requires : goal.put-requires
put-requires g c =
    let item = c.first_item-rank.ensures in
    let r = c.first_item-rank.result.0 in
    let text = c.first_item-rank.result.1.now in
    let first = bytes_first r text c.items.left.now item.begins item.items in
    next_fits (r ∷ []) _ (owes_same first c.items.invariant)

pub put_item-left-requires-clause-fits : goal.put_item-left-requires-clause-fits
put_item-left-requires-clause-fits g c =
    let item = c.first_item-rank.ensures in
    let r = c.first_item-rank.result.0 in
    let text = c.first_item-rank.result.1.now in
    let first = bytes_first r text c.items.left.now item.begins item.items in
    let more = bytes_step r text item.begins c.if-rank-eq-END.false in
    next_fits _ _ (owes_same more (owes_rest (r ∷ []) _ (owes_same first c.items.invariant) c.put.ensures))

pub returns-then-is_decided : goal.returns-then-is_decided
returns-then-is_decided g c =
    let item = c.first_item-rank.ensures in
    let r = c.first_item-rank.result.0 in
    let text = c.first_item-rank.result.1.now in
    let first = bytes_first r text c.items.left.now item.begins item.items in
    let more = bytes_step r text item.begins c.if-rank-eq-END.false in
    let left = owes_same more (owes_rest (r ∷ []) _ (owes_same first c.items.invariant) c.put.ensures) in
    (owes_rest _ _ left c.put_item-left.ensures.bytes).ends _ (c.if-is_decided.ensures (search rules) _)

pub items-preserved : goal.items-preserved
items-preserved g c =
    let item = c.first_item-rank.ensures in
    let r = c.first_item-rank.result.0 in
    let text = c.first_item-rank.result.1.now in
    let first = bytes_first r text c.items.left.now item.begins item.items in
    let more = bytes_step r text item.begins c.if-rank-eq-END.false in
    let left = owes_same more (owes_rest (r ∷ []) _ (owes_same first c.items.invariant) c.put.ensures) in
    owes_same (ap (list_bytes item_bytes) (sym c.put_item-left.ensures.rest))
    (owes_rest _ _ left c.put_item-left.ensures.bytes)
