use Rattle.std.proofs.Common.{◌∙◌, ◌++◌, [], ℕ, List, ap, append-nil, refl, sym}
use Rattle.version_order.specs.keys.{Lists.bytes_cmp, Sinks.order_with}
use Rattle.version_rules.specs.key.Key.{tail_bytes}
use Rattle.version_texts.specs.Key.{front_bytes, tail_of, text_key}
use Rattle.version_texts.proofs.lemmas.versioning_ref.VersioningRef.{key_halves}
use Rattle.version_texts.proofs.key.whole.compare_key.Goals as goal

pub returns : goal.returns
returns c =
    let key = text_key c.args.text.now c.args.shape in
    let tail = tail_bytes key.tail in
    c.order-2.ensures ∙ c.put_tail.ensures []
    ∙ ap (λ (t : List ℕ). order_with c.put_front.new.sink (tail_bytes (tail_of c.args.shape.tail t) ++ []))
    c.tail_at.ensures
    ∙ c.put_front.ensures.bytes (tail ++ [])
    ∙ ap (λ (l : List ℕ). bytes_cmp (front_bytes key ++ l) c.args.bytes.now) (append-nil tail)
    ∙ ap (λ (l : List ℕ). bytes_cmp l c.args.bytes.now) (sym (key_halves key))

pub returns-then-not-put_front : goal.returns-then-not-put_front
returns-then-not-put_front c =
    let key = text_key c.args.text.now c.args.shape in
    let tail = tail_bytes key.tail in
    c.order.ensures ∙ c.if-not-put_front.ensures.decided refl tail []
    ∙ c.put_front.ensures.bytes (tail ++ [])
    ∙ ap (λ (l : List ℕ). bytes_cmp (front_bytes key ++ l) c.args.bytes.now) (append-nil tail)
    ∙ ap (λ (l : List ℕ). bytes_cmp l c.args.bytes.now) (sym (key_halves key))
