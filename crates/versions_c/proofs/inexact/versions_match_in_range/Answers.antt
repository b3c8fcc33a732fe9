use Rattle.std.proofs.Common.{◌∙◌, ap}
use Rattle.version_texts.specs.VersioningRef.{plain_versioning_ref}
use Rattle.versions_c.proofs.lemmas.Matching.{told_of}
use Rattle.versions_c.specs.Matching.{match_code}
use Rattle.versions_c.proofs.inexact.versions_match_in_range.Goals as goal

pub returns-in_default-by_range-clause-told_status :
    goal.returns-in_default-by_range-clause-told_status
returns-in_default-by_range-clause-told_status c = λ wanted tell.
    let told = told_of _ c.args.members.now wanted tell (plain_versioning_ref c.in-Some.version) in
    cc (c.in_default-by_range.ensures ∙ told)

pub returns-clause-told : goal.returns-clause-told
returns-clause-told c = λ wanted tell ok.
    let told = told_of _ c.args.members.now wanted tell (plain_versioning_ref c.in-Some.version) in
    cc (c.in-Some-by_range.ensures ∙ told) ∙ ap (match_code wanted) c.in-Some.ensures
