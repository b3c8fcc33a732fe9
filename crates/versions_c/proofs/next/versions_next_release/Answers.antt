use Rattle.std.proofs.Common.{◌<◌, ◌≤◌, ◌^◌, arith, length}
use Rattle.version_tasks.specs.Next.{plain_next, IsOfForm, last_place}
use Rattle.version_texts.specs.VersioningRef.{plain_versioning_ref}
use Rattle.versions_c.proofs.lemmas.Written.{next_written}
use Rattle.versions_c.proofs.next.versions_next_release.Goals as goal

pub returns-clause-next : goal.returns-clause-next
returns-clause-next c =
    let small : length c.args.next.now < 2 ^ 63 = omega arith in
    let within : c.write.result ≤ length c.args.next.now =
    omega (arith, c.if-next_len-next.false, c.write.auto.room) in
    next_written (λ v. IsOfForm v (last_place v)) _ (plain_versioning_ref c.in-Some.version)
    c.in-Some.ensures c.args.next.now (plain_next c.in-Some-next_release.found) c.in-Some-next_release.ensures.some _
    c.write.ensures.length small within _
    (c.write.ensures.bytes.fitting (omega (arith, c.write.ensures.length, within, small)))
