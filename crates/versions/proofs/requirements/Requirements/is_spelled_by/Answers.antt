use Rattle.std.proofs.Common.{lit<, ◌∙◌, rules}
use Rattle.std.proofs.lemmas.Iterator.{Search.all_from_yields_List, Splits.YieldsList-from_str_split}
use Rattle.std.specs.Option.{is_some}
use Rattle.version_rules.specs.requirement.Requirement.{requirement_of}
use Rattle.version_rules.proofs.lemmas.Requirement.{requirements_of-is_some}
use Rattle.versions.proofs.requirements.Requirements.is_spelled_by.Goals as goal

pub returns : goal.returns
returns c =
    all_from_yields_List
    (λ member. is_some (requirement_of member)) _ _ c.all.result c.all.ensures.ran
    (YieldsList-from_str_split 44 c.args.s.now
    (lit< tt) c.split.ensures.text c.split.ensures.has_more c.split.ensures.pattern)
    (λ x b q k. search rules)
    ∙ requirements_of-is_some c.args.s.now
