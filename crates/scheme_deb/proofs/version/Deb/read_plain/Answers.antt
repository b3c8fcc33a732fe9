use Rattle.std.proofs.Common.{◌∙◌, refl, sym}
use Rattle.version_order.proofs.lemmas.Cuts.{behind}
use Rattle.scheme_deb.proofs.lemmas.Plain.{revision_all, upstream_all}
use Rattle.scheme_deb.proofs.version.Deb.read_plain.Goals as goal

pub invariant_of-result : goal.invariant_of-result
invariant_of-result c = record {
  upstream_is = upstream_all c.args.text.now c.split_begun.result.0.now c.split_begun.ensures.run;
  revision_is = refl;
}

pub invariant_of-result-in-len1-up : goal.invariant_of-result-in-len1-up
invariant_of-result-in-len1-up c = record {
  upstream_is = upstream_all c.args.text.now c.split_begun.result.0.now c.split_begun.ensures.run;
  revision_is = revision_all (behind c.split_begun.result.1.now) (sym c.is_revision.ensures ∙ c.if-is_revision.true);
}
