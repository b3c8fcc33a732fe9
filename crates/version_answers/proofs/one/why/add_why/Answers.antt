use Rattle.std.proofs.Common.{◌≡◌, ◌++◌, refl, rules}
use Rattle.version_answers.proofs.lemmas.One.{has_alternatives, in_turn}
use Rattle.version_answers.specs.One.{why_text}
use Rattle.version_schemes.specs.any.AnyVersion.{plain_any}
use Rattle.version_answers.proofs.one.why.add_why.Goals as goal

pub returns : goal.returns
returns c =
    let v = plain_any c.args.version.now in
    let (all, is) = has_alternatives v.scheme c.args.word.now _ c.requires in
    let text : c.extend_from_slice.new.self.items ≡ c.args.output.now.items ++ c.args.text.now = search rules in (
      _,
      (all, is, refl),
      in_turn c.args.output.now.items c.args.text.now (why_text c.args.word.now all v) c.args.end
          c.extend_from_slice.new.self.items c.add_verdict.new.output.items c.push.new.self.items text
          (c.in_ok-add_verdict.ensures all is) c.in_ok-push.ensures.items,
    )
