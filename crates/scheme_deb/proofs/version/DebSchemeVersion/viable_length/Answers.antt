use Rattle.version_order.proofs.lemmas.Viable.Left.{longest_read}
use Rattle.scheme_deb.specs.Texts.{deb_of}
use Rattle.scheme_deb.proofs.version.DebSchemeVersion.viable_length.Goals as goal

pub returns : goal.returns
returns c = longest_read _ deb_of c.args.text.now _ c.left_of_deb.ensures
