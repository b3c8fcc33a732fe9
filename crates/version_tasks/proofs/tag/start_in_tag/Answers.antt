use Rattle.std.proofs.Common.{◌∙◌, Some, sym, ap, arith}
use Rattle.std.specs.Option.{option_map}
use Rattle.version_rules.specs.grammar.Versioning.{versioning_text}
use Rattle.version_tasks.proofs.lemmas.Tag.{in_tag}
use Rattle.version_tasks.proofs.tag.start_in_tag.Goals as goal

pub overflow_sub-result : goal.overflow_sub-result
overflow_sub-result c =
    rw c.bytes.ensures.printed
    (in_tag c.args.tag.now _ c.in_ok-version.ensures.text).within

pub returns : goal.returns
returns c =
    let tag = c.args.tag.now in
    let rest = in_tag tag _ c.in_ok-version.ensures.text in
    record {
      version = rw c.bytes.ensures.printed (ap Some rest.is)
          ∙ ap (option_map versioning_text) c.in_ok-version.ensures.version;
      text = c.in_ok-version.ensures.text ∙ sym (rw c.bytes.ensures.printed (ap Some rest.is));
      within = rw c.bytes.ensures.printed (omega (arith, rest.some, rest.within));
    }
