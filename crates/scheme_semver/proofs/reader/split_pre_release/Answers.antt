use Rattle.std.proofs.Common.{◌∙◌, sym}
use Rattle.std.proofs.lemmas.Result.{err_from_is_err_and}
use Rattle.scheme_semver.proofs.lemmas.Walks.{no_metadata, no_pre_release, pre_release_alone, with_metadata, wrong_metadata}
use Rattle.scheme_semver.proofs.reader.split_pre_release.Goals as goal

pub returns-then-not-stop : goal.returns-then-not-stop
returns-then-not-stop c = no_pre_release _ _ _ c.walk_section-stop.ensures c.if-not-stop.true

pub returns-then-is_empty : goal.returns-then-is_empty
returns-then-is_empty c =
    pre_release_alone _ _ _ c.walk_section-stop.ensures c.if-not-stop.false (sym c.is_empty.ensures ∙ c.if-is_empty.true)

pub returns-in-None : goal.returns-in-None
returns-in-None c =
    no_metadata _ _ _ c.walk_section-stop.ensures (sym c.is_empty.ensures ∙ c.if-is_empty.false) c.in-None.ensures

pub returns-in_err-walk_metadata-in-Some : goal.returns-in_err-walk_metadata-in-Some
returns-in_err-walk_metadata-in-Some c =
    let p = err_from_is_err_and c.from_residual.result c.from_residual.ensures.1 in
    rw (p.1, p.2)
    (wrong_metadata _ _ _ c.walk_section-stop.ensures c.if-not-stop.false _ _ c.in-Some.ensures
    c.in_err-walk_metadata-in-Some.ensures)

pub returns-in_ok-walk_metadata-in-Some : goal.returns-in_ok-walk_metadata-in-Some
returns-in_ok-walk_metadata-in-Some c =
    with_metadata _ _ _ c.walk_section-stop.ensures c.if-not-stop.false _ c.in-Some.ensures
    c.in_ok-walk_metadata-in-Some.ensures
