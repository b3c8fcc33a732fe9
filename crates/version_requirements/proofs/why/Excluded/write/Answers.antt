use Rattle.std.proofs.Common.{arith}
use Rattle.version_requirements.proofs.lemmas.Members.{member_within}
use Rattle.version_requirements.proofs.why.Excluded.write.Goals as goal

pub text_between-member-requires-clause-within : goal.text_between-member-requires-clause-within
text_between-member-requires-clause-within c =
    let is = c.requires in
    omega (
      arith,
      is.end_is,
      member_within c.args.list.now c.args.self.now.start is.member is.requirement is.first.place,
    )
