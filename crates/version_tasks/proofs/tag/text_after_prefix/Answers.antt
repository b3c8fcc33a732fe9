use Rattle.std.proofs.Common.{◌∙◌, List, ℕ, Option, sym, ap}
use Rattle.std.specs.Option.{option_map}
use Rattle.version_order.specs.texts.Front.{◌>>=◌}
use Rattle.version_tasks.specs.Tag.{text_at_beginning}
use Rattle.version_tasks.proofs.lemmas.Tag.{no_prefix, with_prefix}
use Rattle.version_tasks.proofs.tag.text_after_prefix.Goals as goal

pub returns-in_err-strip_prefix : goal.returns-in_err-strip_prefix
returns-in_err-strip_prefix c =
    ap (option_map (λ text. text.now)) c.from_residual.ensures
    ∙ sym (ap (λ (o : Option (List ℕ)). o >>= text_at_beginning)
    (no_prefix c.args.prefix.now c.args.tag.now c.in_err-strip_prefix.ensures.cases))

pub returns : goal.returns
returns c =
    let rest = c.in_ok-strip_prefix.field-0.now in
    c.text_at_beginning.ensures
    ∙ sym (ap (λ (o : Option (List ℕ)). o >>= text_at_beginning)
    (with_prefix c.args.prefix.now c.args.tag.now rest c.in_ok-strip_prefix.ensures.cases.0
    c.in_ok-strip_prefix.ensures.cases.1))
