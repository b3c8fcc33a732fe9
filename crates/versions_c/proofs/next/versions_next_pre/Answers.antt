use Rattle.std.proofs.Common.{List, Option, ℕ, subst, ◌<◌, ◌≤◌, ◌^◌, arith, length}
use Rattle.version_tasks.specs.{Next.IsLeastAfter, NextPre.plain_next_pre, NextPre.IsOfPreForm}
use Rattle.version_texts.specs.VersioningRef.{plain_versioning_ref}
use Rattle.versions_c.specs.Newest.{given_word}
use Rattle.versions_c.proofs.lemmas.Written.{next_written}
use Rattle.versions_c.proofs.next.versions_next_pre.Goals as goal

pub returns-clause-next : goal.returns-clause-next
returns-clause-next c =
    let v = plain_versioning_ref c.in-Some.version in
    let w = plain_next_pre c.in-Some-next_pre.found in
    let small : length c.args.next.now < 2 ^ 63 = omega arith in
    let within : c.write.result ≤ length c.args.next.now =
    omega (arith, c.if-next_len-next.false, c.write.auto.room) in
    let found : IsLeastAfter v (IsOfPreForm v (given_word c.args.word.now)) w =
    subst (λ (o : Option (List ℕ)). IsLeastAfter v (IsOfPreForm v o) w) c.given_word.ensures
    c.in-Some-next_pre.ensures.some in
    next_written (λ v. IsOfPreForm v (given_word c.args.word.now)) _ v c.in-Some.ensures
    c.args.next.now w found _ c.write.ensures.length small within _
    (c.write.ensures.bytes.fitting (omega (arith, c.write.ensures.length, within, small)))
