use Rattle.std.proofs.Common.{◌≡◌, ◌∙◌, ◌∷◌, IfSome, List, Option, Some, None, ap, arith, rules, subst}
use Rattle.version_sets.specs.Excluding.{AreLeft, EndsAt, leave_out, room_left, steps_left, with_found}
use Rattle.version_sets.specs.{Pieces.pieces, Reading.Member, Reading.pieces_room, declared.read.excluding.Span.Span}
use Rattle.version_sets.proofs.lemmas.Excluding.{before_end, behind_one, ends_still, fewer, no_span, room_kept}
use Rattle.version_order.specs.Facts.{key_room}
use Rattle.version_sets.proofs.read.excluding.Alternatives.next_excluding.Goals as goal

pub returns-then-is_some-clause-some : goal.returns-then-is_some-clause-some
returns-then-is_some-clause-some g c =
    by c.in_ok-found.found (λ all left.
    let before = c.loop-self.invariant.reads all left in
    let here = subst (λ l. AreLeft g.V.SchemeVersion.rules.read_as g.V.SchemeVersion.rules.facts.operators l before.0) c.in-Some.is before.1 in
    let after = behind_one g.V.SchemeVersion.rules.read_as g.V.SchemeVersion.rules.facts.operators (g.V.SchemeVersion.plain c.args.version.now).key c.in_ok-found.found c.in-Some.pieces
    c.in_ok-found.left c.in_ok-found.ensures.read before.0 here in
    (after.0, after.1, before.2 ∙ after.2))
  where
    by : (found : Option Span)
        → ((all : List (List Member)) → AreLeft g.V.SchemeVersion.rules.read_as g.V.SchemeVersion.rules.facts.operators c.args.self.now.left all
        → (rest : List (List Member)) × AreLeft g.V.SchemeVersion.rules.read_as g.V.SchemeVersion.rules.facts.operators c.in_ok-found.left rest
        × (leave_out (g.V.SchemeVersion.plain c.args.version.now).key all ≡ with_found found (leave_out (g.V.SchemeVersion.plain c.args.version.now).key rest)))
        → IfSome found (λ span. (all : List (List Member)) → AreLeft g.V.SchemeVersion.rules.read_as g.V.SchemeVersion.rules.facts.operators c.args.self.now.left all
        → (rest : List (List Member)) × AreLeft g.V.SchemeVersion.rules.read_as g.V.SchemeVersion.rules.facts.operators c.in_ok-found.left rest
        × (leave_out (g.V.SchemeVersion.plain c.args.version.now).key all ≡ span ∷ leave_out (g.V.SchemeVersion.plain c.args.version.now).key rest))
    by None all = tt
    by (Some span) all = all

pub returns-then-is_some-clause-within : goal.returns-then-is_some-clause-within
returns-then-is_some-clause-within g c =
    before_end c.in-Some.pieces c.in_ok-found.found (λ end. EndsAt end c.args.self.now.left) c.in_ok-found.ensures.within
    (λ end ends. subst (EndsAt end) c.in-Some.is (c.loop-self.invariant.end end ends))

pub returns-then-is_some-clause-end : goal.returns-then-is_some-clause-end
returns-then-is_some-clause-end g c = λ end ends. ends_still c.in-Some.pieces c.in_ok-found.left end
    c.in_ok-found.ensures.end (subst (EndsAt end) c.in-Some.is (c.loop-self.invariant.end end ends))

pub loop-self-preserved : goal.loop-self-preserved
loop-self-preserved g c =
    let V = g.V.SchemeVersion in
    let key = (V.plain c.args.version.now).key in
    record {
      room =
          omega (
            arith,
            room_kept (key_room V.rules.facts) c.in_ok-found.left
                (pieces_room (key_room V.rules.facts) (pieces c.in-Some.pieces.place c.in-Some.pieces.left.now))
                c.in_ok-found.ensures.room,
            ap (room_left (key_room V.rules.facts)) c.in-Some.is,
            c.loop-self.invariant.room,
          );
      nearer = omega (
        arith,
        fewer c.in_ok-found.left _ c.in_ok-found.ensures.nearer,
        ap steps_left c.in-Some.is,
        c.loop-self.invariant.nearer,
      );
      size = c.first_excluding.ensures.same ∙ c.loop-self.invariant.size;
      end = λ end ends. ends_still c.in-Some.pieces c.in_ok-found.left end c.in_ok-found.ensures.end
          (subst (EndsAt end) c.in-Some.is (c.loop-self.invariant.end end ends));
      reads = λ all left.
          let before = c.loop-self.invariant.reads all left in
          let here = subst (λ l. AreLeft V.rules.read_as V.rules.facts.operators l before.0) c.in-Some.is before.1 in
          let after = behind_one V.rules.read_as V.rules.facts.operators key c.in_ok-found.found c.in-Some.pieces
          c.in_ok-found.left c.in_ok-found.ensures.read before.0 here in (
            after.0,
            after.1,
            before.2 ∙ after.2 ∙ no_span c.in_ok-found.found (leave_out key after.0) (search rules),
          );
    }
