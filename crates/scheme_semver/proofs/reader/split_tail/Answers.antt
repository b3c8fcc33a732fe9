use Rattle.std.proofs.Common.{◌∙◌, sym}
use Rattle.std.proofs.lemmas.Result.{err_from_is_err_and}
use Rattle.scheme_semver.proofs.lemmas.Walks.{hyphen_tail, no_tail, plus_tail}
use Rattle.scheme_semver.proofs.reader.split_tail.Goals as goal

pub returns-in_err-walk_metadata : goal.returns-in_err-walk_metadata
returns-in_err-walk_metadata c =
    let p = err_from_is_err_and c.from_residual.result c.from_residual.ensures.1 in
    rw (p.1, p.2)
    (plus_tail c.args.text.now _ _ c.in-Some.ensures c.in_err-walk_metadata.ensures)

pub returns-in_err-pre_release-in-Some-after_byte : goal.returns-in_err-pre_release-in-Some-after_byte
returns-in_err-pre_release-in-Some-after_byte c =
    let p = err_from_is_err_and c.from_residual-in_err-pre_release-in-Some-after_byte.result
    c.from_residual-in_err-pre_release-in-Some-after_byte.ensures.1 in
    rw (p.1, p.2)
    (hyphen_tail c.args.text.now _ _ c.in-Some-after_byte.ensures c.in_err-pre_release-in-Some-after_byte.ensures)

pub returns-in-None : goal.returns-in-None
returns-in-None c =
    no_tail c.args.text.now (sym c.is_empty.ensures ∙ c.if-is_empty.false) c.in_default.ensures c.in-None.ensures
