use Rattle.std.proofs.Common.{◌≡◌, ◌-◌, arith, length}
use Rattle.version_requirements.specs.Newest.{IsWanted}
use Rattle.versions_c.proofs.lemmas.Newest.{newest_alike}
use Rattle.versions_c.specs.{Newest.asked_at, Written.text_at}
use Rattle.versions_c.proofs.newest.versions_newest.Goals as goal

pub returns-in_default-newest_place-clause-some : goal.returns-in_default-newest_place-clause-some
returns-in_default-newest_place-clause-some c = λ good.
    rw (← c.in-Some-from_bytes.ensures)
    (λ i v below is.
    absurd (c.in_default-newest_place.ensures.none i v (omega (arith, below, c.in-Some.ensures))
    ((c.wanted_by-wanted.ensures (text_at c.args.texts.now c.args.offsets.now i) v).1 is)))

pub returns-clause-newest : goal.returns-clause-newest
returns-clause-newest c = λ ok.
    let all : c.in-Some.count ≡ length c.args.offsets.now - 1 = omega (arith, c.in-Some.ensures) in
    rw (← c.in-Some-from_bytes.ensures, ← all)
    (newest_alike
    (λ i. IsWanted c.wanted_by-wanted.result (text_at c.args.texts.now c.args.offsets.now i))
    (asked_at c.in-Some-from_bytes.list c.args.least c.args.flags c.args.texts.now
    c.args.offsets.now)
    (λ i v. (c.wanted_by-wanted.ensures (text_at c.args.texts.now c.args.offsets.now i) v).0)
    (λ i v. (c.wanted_by-wanted.ensures (text_at c.args.texts.now c.args.offsets.now i) v).1)
    c.in-Some.count c.in-Some-newest_place.newest c.in-Some-newest_place.ensures.some)

pub returns-clause-none : goal.returns-clause-none
returns-clause-none c = λ good.
    rw (← c.in-Some-from_bytes.ensures)
    (λ none.
    let found = c.in-Some-newest_place.ensures.some in
    absurd (none c.in-Some-newest_place.newest found.version
    (omega (arith, found.newest.within, c.in-Some.ensures))
    ((c.wanted_by-wanted.ensures (text_at c.args.texts.now c.args.offsets.now
    c.in-Some-newest_place.newest) found.version).0 found.newest.is)))
