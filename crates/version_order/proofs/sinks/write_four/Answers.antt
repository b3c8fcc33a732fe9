use Rattle.std.proofs.Common.{◌∙◌, ◌++◌, List, ℕ, ap, length, sym}
use Rattle.version_order.proofs.lemmas.Sinks.{put_between}
use Rattle.version_order.specs.keys.Sinks.{put_at}
use Rattle.version_order.proofs.sinks.write_four.Goals as goal

pub returns : goal.returns
returns c =
    let front = c.split_at_mut-rest.result.0.now in
    let place = c.split_at_mut-place.result.0.now in
    let rest = c.split_at_mut-place.result.1.now in
    let bytes = c.args.bytes.now in
    ap (λ (l : List ℕ). front ++ (l ++ rest)) c.copy_from_slice.ensures.after
    ∙ sym (put_between front place rest bytes c.args.start c.split_at_mut-rest.ensures.front_len
    (sym c.copy_from_slice.ensures.len ∙ ap length c.copy_from_slice.ensures.after))
    ∙ ap (λ (l : List ℕ). put_at l c.args.start bytes)
    (sym (c.split_at_mut-rest.ensures.value ∙ ap (λ (l : List ℕ). front ++ l) c.split_at_mut-place.ensures.value))
