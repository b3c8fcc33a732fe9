use Rattle.scheme_semver.specs.Laws.{semver_nothing, semver_compares, semver_some_key, semver_writes}
use Rattle.scheme_semver.proofs.laws.laws.Goals as goal

pub returns : goal.returns
returns c = record {
  writes = semver_writes;
  compares = semver_compares;
  some = semver_some_key;
  nothing = semver_nothing;
}
