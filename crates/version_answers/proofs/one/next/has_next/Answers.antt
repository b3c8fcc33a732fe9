use Rattle.std.proofs.Common.{◌≡◌, ◌∙◌, true, List, ℕ, Option, None, Some, is_some, IfSome, subst, sym}
use Rattle.version_tasks.specs.{Next.plain_next, NextPre.IsNextPre, NextPre.plain_next_pre}
use Rattle.version_texts.specs.VersioningRef.{plain_versioning_ref}
use Rattle.version_answers.proofs.one.next.has_next.Goals as goal

-- what a value has, where there is one
some-has : {A : Type 0} {P : A → Type 0} (found : Option A) → is_some found ≡ true → IfSome found P
    → (value : A) × P value
some-has None is so = cc is
some-has (Some value) is so = (value, so)

pub returns-in-Place-clause-some : goal.returns-in-Place-clause-some
returns-in-Place-clause-some c is =
    let (next, so) = some-has c.next_of.result (sym c.is_some.ensures ∙ is) c.next_of.ensures.some in
    (plain_next next, rw c.in-Place.is so)

pub returns-in-Release-clause-some : goal.returns-in-Release-clause-some
returns-in-Release-clause-some c is =
    let (next, so) = some-has c.next_release.result (sym c.is_some-in-Release.ensures ∙ is) c.next_release.ensures.some in
    (plain_next next, rw c.in-Release.is so)

pub returns-in-Pre-clause-some : goal.returns-in-Pre-clause-some
returns-in-Pre-clause-some c is =
    let (next, so) = some-has c.next_pre.result (sym c.is_some-in-Pre.ensures ∙ is) c.next_pre.ensures.some in (
      plain_next_pre next,
      rw c.in-Pre.is (subst (λ (word : Option (List ℕ)).
          IsNextPre (plain_versioning_ref c.args.version.now) word (plain_next_pre next)) c.bytes_of.ensures so),
    )
