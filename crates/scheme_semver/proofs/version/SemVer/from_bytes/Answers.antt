use Rattle.scheme_semver.proofs.lemmas.Walks.{semver_cut}
use Rattle.scheme_semver.proofs.version.SemVer.from_bytes.Goals as goal

pub returns-in-Err : goal.returns-in-Err
returns-in-Err c = semver_cut c.args.text.now _ c.in-Err.ensures
