use Rattle.version_texts.specs.VersioningRef.{plain_versioning_ref}
use Rattle.versions_c.proofs.lemmas.Matching.{by_members}
use Rattle.versions_c.specs.Ranges.{range_with}
use Rattle.versions_c.proofs.inexact.by_range.Goals as goal

pub returns : goal.returns
returns c =
    let told = c.in_ok-list_matches.ensures in
    by_members (range_with c.args.low.now c.args.high.now c.args.flags) c.args.members.now
    (plain_versioning_ref c.args.version.now) c.code.result c.code.ensures c.if-code-eq0.false
    c.in_ok-list_matches.field-0 told.parses told.matches
