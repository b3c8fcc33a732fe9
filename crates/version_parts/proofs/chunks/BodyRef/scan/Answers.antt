use Rattle.std.proofs.Common.{◌≡◌, ◌∙◌, ◌-◌, ℕ, take, Some, refl, sym, ap}
use Rattle.version_rules.specs.grammar.{Body.last_at, Chunk.part_front, Last.last_of}
use Rattle.version_order.specs.texts.Front.{elements_at}
use Rattle.version_rules.proofs.lemmas.Body.{body_front-None, body_front-Some, body_split, split_last-take}
use Rattle.version_parts.proofs.chunks.BodyRef.scan.Goals as goal

pub returns-in_err-list : goal.returns-in_err-list
returns-in_err-list c =
    rw c.from_residual.ensures
    (sym (body_front-None c.args.i.now (sym c.in_err-list.ensures.elements)))

pub returns : goal.returns
returns c =
    let parts = elements_at part_front c.in_ok-list.list.text.now in
    let rest = c.in_ok-list.rest.now in
    let split = c.in_ok-list.ensures.last in
    let read = body_front-Some c.args.i.now parts rest split.0
    (sym c.in_ok-list.ensures.elements) split.1 in
    let chunks : take (c.in_ok-list.list.count - 1) parts ≡ split.0.0 =
    ap (λ (n : ℕ). take (n - 1) parts) c.in_ok-list.ensures.counted
    ∙ split_last-take parts split.0 split.1 in
    let last : last_at c.in_ok-list.list.last.now ≡ last_of split.0.1 = rw split.2 refl in
    sym (read ∙ sym (λ i. Some ((chunks i, last i), rest)))

pub invariant_of-result : goal.invariant_of-result
invariant_of-result c =
    let split = c.in_ok-list.ensures.last in
    let last : last_at c.in_ok-list.list.last.now ≡ last_of split.0.1 = rw split.2 refl in
    body_split c.in_ok-list.list.count (elements_at part_front c.in_ok-list.list.text.now) split.0
    (last_at c.in_ok-list.list.last.now) c.in_ok-list.ensures.counted split.1 last
