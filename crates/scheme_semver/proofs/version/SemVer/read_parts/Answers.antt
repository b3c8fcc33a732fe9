use Rattle.std.proofs.Common.{◌∙◌, refl}
use Rattle.std.proofs.lemmas.Result.{err_from_is_err_and}
use Rattle.version_order.specs.texts.Front.{behind_digits}
use Rattle.scheme_semver.proofs.lemmas.{Numbers.last_number, Numbers.next_number, Numbers.whole, Walks.next_cut, Walks.tail_cut, Walks.tail_ends}
use Rattle.scheme_semver.proofs.version.SemVer.read_parts.Goals as goal

pub returns-in_err-minor : goal.returns-in_err-minor
returns-in_err-minor c =
    let p = err_from_is_err_and c.from_residual-in_err-minor.result c.from_residual-in_err-minor.ensures.1 in
    let major = c.in_ok-major.ensures in
    rw (p.1, p.2)
    (next_cut c.args.text.now _ (behind_digits c.args.text.now) major.1 refl major.0 c.in_ok-major.rest.now major.2 1 _
    (c.in_err-minor.ensures 0))

pub returns-in_err-patch : goal.returns-in_err-patch
returns-in_err-patch c =
    let p = err_from_is_err_and c.from_residual-in_err-patch.result c.from_residual-in_err-patch.ensures.1 in
    let major = c.in_ok-major.ensures in
    let minor = c.in_ok-minor.ensures in
    rw (p.1, p.2)
    (next_cut c.args.text.now _ (behind_digits c.args.text.now) major.1 refl major.0 c.in_ok-major.rest.now major.2 1 _
    (next_cut c.in_ok-major.rest.now _ (behind_digits c.in_ok-major.rest.now) minor.1 refl minor.0 c.in_ok-minor.rest.now
    minor.2 0 _ c.in_err-patch.ensures))

pub returns-in_err-pre_release : goal.returns-in_err-pre_release
returns-in_err-pre_release c =
    let p = err_from_is_err_and c.from_residual-in_err-pre_release.result
    c.from_residual-in_err-pre_release.ensures.1 in
    let major = c.in_ok-major.ensures in
    let minor = c.in_ok-minor.ensures in
    let patch = c.in_ok-patch.ensures in
    rw (p.1, p.2)
    (next_cut c.args.text.now _ (behind_digits c.args.text.now) major.1 refl major.0 c.in_ok-major.rest.now major.2 1 _
    (next_cut c.in_ok-major.rest.now _ (behind_digits c.in_ok-major.rest.now) minor.1 refl minor.0 c.in_ok-minor.rest.now
    minor.2 0 _
    (tail_cut c.in_ok-minor.rest.now _ _ patch.1 patch.2 patch.0 _ c.in_err-pre_release.ensures)))

pub returns : goal.returns
returns c =
    let text = c.args.text.now in
    let behind = c.in_ok-major.rest.now in
    let rest = c.in_ok-minor.rest.now in
    let tail = c.in_ok-patch.tail.now in
    let major = c.in_ok-major.ensures in
    let minor = c.in_ok-minor.ensures in
    let patch = c.in_ok-patch.ensures in
    let read = c.in_ok-pre_release.ensures in
    let first = next_number text c.in_ok-major.major.now (behind_digits text) major.1 refl behind major.2 in
    let second = next_number behind c.in_ok-minor.minor.now (behind_digits behind) minor.1 refl rest minor.2 in
    let third = last_number rest c.in_ok-patch.patch.now tail patch.1 patch.2 (tail_ends tail _ read.0) in
    whole text _ behind first.0 _ rest second.0 _ tail third.0 (first.1 ∙ second.1 ∙ third.1) major.0 minor.0 patch.0 _
    read.0
