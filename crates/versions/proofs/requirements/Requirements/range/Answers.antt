use Rattle.versions.proofs.lemmas.Keys.{list_within}
use Rattle.versions.specs.Requirements.{plain_requirements}
use Rattle.versions.proofs.requirements.Requirements.range.Goals as goal

pub returns-clause-within : goal.returns-clause-within
returns-clause-within c =
    list_within (plain_requirements c.args.self.now) c.common_range.result c.common_range.ensures
