use Rattle.version_order.proofs.lemmas.Viable.Left.{longest_read}
use Rattle.scheme_rpm.specs.Texts.{rpm_of}
use Rattle.scheme_rpm.proofs.version.RpmSchemeVersion.viable_length.Goals as goal

pub returns : goal.returns
returns c = longest_read _ rpm_of c.args.text.now _ c.left_of_rpm.ensures
