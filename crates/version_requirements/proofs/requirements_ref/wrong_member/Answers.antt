use Rattle.std.proofs.Common.{rules, ◌∙◌, ap}
use Rattle.std.specs.Option.{is_none}
use Rattle.version_requirements.proofs.lemmas.Members.{none_wrong}
use Rattle.version_requirements.specs.Requirement.{cut_at_commas}
use Rattle.version_requirements.proofs.requirements_ref.wrong_member.Goals as goal

pub returns-then-is_none-clause-place : goal.returns-then-is_none-clause-place
returns-then-is_none-clause-place c = search rules

pub returns-then-is_none-clause-parses : goal.returns-then-is_none-clause-parses
returns-then-is_none-clause-parses c =
    ap is_none (returns-then-is_none-clause-place c) ∙ none_wrong 0 (cut_at_commas c.args.list.now)

pub returns-in_err-left-clause-place : goal.returns-in_err-left-clause-place
returns-in_err-left-clause-place c = search rules

pub returns-in_err-left-clause-parses : goal.returns-in_err-left-clause-parses
returns-in_err-left-clause-parses c =
    ap is_none (returns-in_err-left-clause-place c) ∙ none_wrong 0 (cut_at_commas c.args.list.now)
