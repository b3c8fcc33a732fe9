use Rattle.std.proofs.Common.{◌≡◌, ◌∙◌, suc, [], ◌∷◌, ap, arith, length, refl, sym}
use Rattle.version_sets.specs.{Excluding.first_out, Excluding.found_or, Excluding.left_read, Pieces.piece_length, Pieces.plain_piece, Reading.Member, Reading.piece_room, Reading.pieces_room, declared.read.steps.State.TheVariants.Come}
use Rattle.version_sets.proofs.lemmas.Excluding.{all_has, behind_step, is_asked, none_found, once_found, one_more, passes, stops}
use Rattle.version_sets.proofs.lemmas.Steps.{tells}
use Rattle.version_order.proofs.lemmas.Runs.{not_false, not_true}
use Rattle.version_sets.proofs.read.excluding.first_excluding.Goals.{else-is_none-via-then-is_none+else-excludes, else-is_none-via-else-is_none}
use Rattle.version_order.specs.Facts.{key_room}
use Rattle.version_sets.proofs.read.excluding.first_excluding.Goals as goal

pub loop-place-preserved-in-All : goal.loop-place-preserved-in-All
loop-place-preserved-in-All g c =
    let V = g.V.SchemeVersion in
    let key = (V.plain c.args.version.now).key in
    record {
      end = omega (arith, c.in-Some.ensures.end, c.loop-place.invariant.end);
      opened = tt;
      within = c.loop-place.invariant.within;
      nearer = omega (arith, c.in-Some.ensures.nearer, c.loop-place.invariant.nearer);
      room = omega (arith, ap (pieces_room (key_room V.rules.facts)) c.in-Some.ensures.some, c.loop-place.invariant.room);
      size = c.loop-place.invariant.size;
      reads = λ first others e.
          let reads = c.loop-place.invariant.reads first others e in
          let stepped = behind_step V.rules.read_as V.rules.facts.operators c.loop-place.state c.loop-place.pieces
          c.next.new.self c.in-Some.place (plain_piece c.in-Some.piece) _ reads.0 others c.in-Some.ensures.some
          c.in-Some.ensures.end c.in-All.ensures reads.1 in
          let all : Member = record { start = c.in-All.field-0; end = suc c.in-All.field-0; ends = [] ∷ [] } in
          let found = one_more all (left_read V.rules.read_as V.rules.facts.operators Come c.next.new.self) reads.0 others
          stepped in (
            found.more,
            found.rest_is,
            reads.2 ∙ ap (found_or c.loop-place.found)
                (ap (first_out key) found.first_is ∙ passes key all found.more (all_has key)),
          );
    }

pub loop-place-preserved-in-Goes : goal.loop-place-preserved-in-Goes
loop-place-preserved-in-Goes g c =
    let V = g.V.SchemeVersion in
    record {
      end = omega (arith, c.in-Some.ensures.end, c.loop-place.invariant.end);
      opened = tells c.loop-place.state c.in-Some.place (plain_piece c.in-Some.piece) _ c.in-Goes.ensures
          c.next.new.self.place (omega (arith, c.in-Some.ensures.piece));
      within = c.loop-place.invariant.within;
      nearer = omega (arith, c.in-Some.ensures.nearer, c.loop-place.invariant.nearer);
      room = omega (arith, ap (pieces_room (key_room V.rules.facts)) c.in-Some.ensures.some, c.loop-place.invariant.room);
      size = c.loop-place.invariant.size;
      reads = λ first others e.
          let reads = c.loop-place.invariant.reads first others e in (
            reads.0,
            behind_step V.rules.read_as V.rules.facts.operators c.loop-place.state c.loop-place.pieces c.next.new.self
                c.in-Some.place (plain_piece c.in-Some.piece) _ reads.0 others c.in-Some.ensures.some
                c.in-Some.ensures.end c.in-Goes.ensures reads.1,
            reads.2,
          );
    }

pub excludes-requires : goal.excludes-requires
excludes-requires g c κs =
    let word = (tells c.loop-place.state c.in-Some.place (plain_piece c.in-Some.piece) _ c.in-Asks.ensures).0 in (
      (refl, tt),
      (
        word.word,
        word.longer,
        omega (
          arith,
          ap (piece_room (key_room g.V.SchemeVersion.rules.facts)) word.is,
          c.if-piece_room-room.false,
          c.piece_room.ensures,
          c.loop-place.invariant.size,
          c.well_formed.1.1.0,
        ),
      ),
    )

pub overflow_add-found : goal.overflow_add-found
overflow_add-found g c =
    let word = (tells c.loop-place.state c.in-Some.place (plain_piece c.in-Some.piece) _ c.in-Asks.ensures).0 in
    omega (
      arith,
      word.over,
      ap piece_length word.is,
      c.in-Some.ensures.piece,
      c.in-Some.ensures.end,
      c.loop-place.invariant.end,
      c.requires.place,
    )

pub loop-place-preserved-then-excludes : goal.loop-place-preserved-then-excludes
loop-place-preserved-then-excludes g c =
    let V = g.V.SchemeVersion in
    let told = tells c.loop-place.state c.in-Some.place (plain_piece c.in-Some.piece) _ c.in-Asks.ensures in
    record {
      end = omega (arith, c.in-Some.ensures.end, c.loop-place.invariant.end);
      opened = tt;
      within = (
        omega (arith, told.1 c.loop-place.pieces.place c.loop-place.invariant.opened c.in-Some.ensures.behind),
        omega (
          arith,
          told.0.over,
          ap piece_length told.0.is,
          c.in-Some.ensures.piece,
          c.in-Some.ensures.end,
          c.loop-place.invariant.end,
        ),
      );
      nearer = omega (arith, c.in-Some.ensures.nearer, c.loop-place.invariant.nearer);
      room = omega (arith, ap (pieces_room (key_room V.rules.facts)) c.in-Some.ensures.some, c.loop-place.invariant.room);
      size = c.excludes.ensures.same ∙ c.loop-place.invariant.size;
      reads = λ first others e.
          let reads = c.loop-place.invariant.reads first others e in
          let found = is_asked V.rules.read_as V.rules.facts.operators _ _ _ _ _ _ _
          (behind_step V.rules.read_as V.rules.facts.operators c.loop-place.state c.loop-place.pieces c.next.new.self
          c.in-Some.place (plain_piece c.in-Some.piece) _ reads.0 others c.in-Some.ensures.some c.in-Some.ensures.end
          c.in-Asks.ensures reads.1) in
          let lacks = not_true _ (sym (c.excludes.ensures.excludes found.comparison found.version found.is) ∙ c.if-excludes.true) in (
            found.has_more.more,
            found.has_more.rest_is,
            reads.2
                ∙ none_found c.loop-place.found _ (rw c.if-is_none.true at c.is_none.ensures)
                ∙ ap (first_out (V.plain c.args.version.now).key) found.has_more.first_is
                ∙ stops (V.plain c.args.version.now).key _ found.has_more.more lacks,
          );
    }

pub loop-place-preserved : goal.loop-place-preserved
loop-place-preserved g c =
    let V = g.V.SchemeVersion in
    let key = (V.plain c.args.version.now).key in
    record {
      end = omega (arith, c.in-Some.ensures.end, c.loop-place.invariant.end);
      opened = tt;
      within = c.loop-place.invariant.within;
      nearer = omega (arith, c.in-Some.ensures.nearer, c.loop-place.invariant.nearer);
      room = omega (arith, ap (pieces_room (key_room V.rules.facts)) c.in-Some.ensures.some, c.loop-place.invariant.room);
      size =
          elim c.else-is_none.branch [
            | else-is_none-via-then-is_none+else-excludes w ↦
                ap length w.room-is ∙ w.excludes.ensures.same ∙ c.loop-place.invariant.size
            | else-is_none-via-else-is_none w ↦ ap length w.room-is ∙ c.loop-place.invariant.size
          ];
      reads = λ first others e.
          let reads = c.loop-place.invariant.reads first others e in
          let found = is_asked V.rules.read_as V.rules.facts.operators _ _ _ _ _ _ _
          (behind_step V.rules.read_as V.rules.facts.operators c.loop-place.state c.loop-place.pieces c.next.new.self
          c.in-Some.place (plain_piece c.in-Some.piece) _ reads.0 others c.in-Some.ensures.some c.in-Some.ensures.end
          c.in-Asks.ensures reads.1) in
          let more = found.has_more.more in
          let same : found_or c.loop-place.found (first_out key reads.0)
          ≡ found_or c.loop-place.found (first_out key more) =
          elim c.else-is_none.branch [
            | else-is_none-via-then-is_none+else-excludes w ↦
                ap (found_or c.loop-place.found) (ap (first_out key) found.has_more.first_is
                ∙ passes key _ more (not_false _ (sym (w.excludes.ensures.excludes found.comparison found.version found.is)
                ∙ w.if-excludes.false)))
            | else-is_none-via-else-is_none w ↦
                once_found c.loop-place.found _ _ (rw w.if-is_none.false at c.is_none.ensures)
          ] in
          (more, found.has_more.rest_is, reads.2 ∙ same);
    }
