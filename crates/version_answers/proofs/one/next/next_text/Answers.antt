use Rattle.std.proofs.Common.{List, ℕ, Option, rules, subst}
use Rattle.version_tasks.specs.NextPre.{IsNextPre, plain_next_pre}
use Rattle.version_texts.specs.VersioningRef.{plain_versioning_ref}
use Rattle.version_answers.proofs.one.next.next_text.Goals as goal

pub returns-in_ok-to_string-in-Some-next_pre : goal.returns-in_ok-to_string-in-Some-next_pre
returns-in_ok-to_string-in-Some-next_pre c =
    let next = plain_next_pre c.in-Some-next_pre.next in
    let is = subst (λ (word : Option (List ℕ)). IsNextPre (plain_versioning_ref c.args.version.now) word next)
    c.bytes_of.ensures c.in-Some-next_pre.ensures.some in
    (next, rw c.in-Pre.is is, search rules)
