use Rattle.std.proofs.Common.{◌≡◌, ◌∙◌, ◌+◌, ◌*◌, ◌≤◌, ◌||◌, ◌&&◌, None, ap, arith, false, length, refl, subst, sym, true}
use Rattle.std.proofs.Math.Bool.{and-true, or-false}
use Rattle.version_sets.specs.Reading.{at_end, piece_room, pieces_room, read_pieces, read_set}
use Rattle.version_sets.specs.{Form.form_bytes, Pieces.pieces, Pieces.plain_piece, Reader.Continues, Steps.unfinished}
use Rattle.version_sets.proofs.lemmas.Reader.{at_first}
use Rattle.version_order.specs.Facts.{key_room}
use Rattle.version_sets.proofs.read.read_set.Goals as goal

pub loop-place-init : goal.loop-place-init
loop-place-init g c = record {
  fits = c.new-reader.ensures.fits;
  come = λ same. cc same;
  end = omega arith;
  room = omega (arith, c.new-reader.ensures.end);
  half = omega (arith, c.new-reader.ensures.end);
  size = refl;
  order = c.new-reader.ensures.order;
  reads = (λ key. false, λ key. true, c.new-reader.ensures.holds c.args.room.now, at_first _);
}

pub returns-in-Err-clause-wrong : goal.returns-in-Err-clause-wrong
returns-in-Err-clause-wrong g c =
    let V = g.V.SchemeVersion in
    let end = length c.args.text.now in
    let whole = read_set V.rules.read_as V.rules.facts.operators c.args.text.now in
    let reads = c.loop-place.invariant.reads in
    let behind = pieces c.next.new.self.place c.next.new.self.left.now in
    let stepped = subst (Continues whole reads.0 reads.1)
    (ap (read_pieces V.rules.read_as V.rules.facts.operators end c.loop-place.state) c.in-Some.ensures.some) reads.3 in
    c.in-Err.ensures.err whole (λ next. read_pieces V.rules.read_as V.rules.facts.operators end next behind) reads.0 reads.1 stepped

pub loop-place-preserved : goal.loop-place-preserved
loop-place-preserved g c =
    let V = g.V.SchemeVersion in
    let end = length c.args.text.now in
    let whole = read_set V.rules.read_as V.rules.facts.operators c.args.text.now in
    let reads = c.loop-place.invariant.reads in
    let behind = pieces c.next.new.self.place c.next.new.self.left.now in
    let stepped = subst (Continues whole reads.0 reads.1)
    (ap (read_pieces V.rules.read_as V.rules.facts.operators end c.loop-place.state) c.in-Some.ensures.some) reads.3 in
    let here : pieces_room (key_room V.rules.facts) (pieces c.loop-place.pieces.place c.loop-place.pieces.left.now)
    ≡ piece_room (key_room V.rules.facts) (plain_piece c.in-Some.piece) + pieces_room (key_room V.rules.facts) behind =
    ap (pieces_room (key_room V.rules.facts)) c.in-Some.ensures.some in
    let fits : 2 * (c.loop-place.reader.end + piece_room (key_room V.rules.facts) (plain_piece c.in-Some.piece)) ≤ length c.loop-place.room =
    omega (
      arith,
      c.if-saturating_add-room.false,
      c.saturating_add.ensures,
      c.piece_room.ensures,
      c.loop-place.invariant.size,
      c.well_formed.1.1.0,
    ) in
    record {
      fits = c.take.ensures.fits;
      come = c.in-Ok.ensures.come;
      end = omega (arith, c.in-Some.ensures.end, c.loop-place.invariant.end);
      room = omega (arith, c.take.ensures.end, c.loop-place.invariant.room, here);
      half = omega (arith, c.take.ensures.end, c.take.ensures.same.0, fits);
      size = c.take.ensures.same.0 ∙ c.loop-place.invariant.size;
      order = c.take.ensures.same.1 ∙ c.loop-place.invariant.order;
      reads = c.in-Ok.ensures.ok whole (λ next. read_pieces V.rules.read_as V.rules.facts.operators end next behind)
          reads.0 reads.1 reads.2 stepped;
    }

pub returns-in-None-clause-ok : goal.returns-in-None-clause-ok
returns-in-None-clause-ok g c =
    let V = g.V.SchemeVersion in
    let end = length c.args.text.now in
    let whole = read_set V.rules.read_as V.rules.facts.operators c.args.text.now in
    let reads = c.loop-place.invariant.reads in
    let done : unfinished c.loop-place.state ≡ None = sym c.unfinished.ensures ∙ c.in-None.is in
    let over = subst (Continues whole reads.0 reads.1)
    (ap (read_pieces V.rules.read_as V.rules.facts.operators end c.loop-place.state) c.in_default.ensures.none ∙ ap (at_end end) done)
    reads.3 in
    let made = c.finish.ensures reads.0 reads.1 reads.2 in (
      over.0,
      over.1,
      over.2,
      record {
        ends = made.ends;
        rise = made.rise;
        bytes = made.bytes ∙ ap (λ order. form_bytes order made.ends) c.loop-place.invariant.order;
        size_is =
            made.size_is ∙ ap (λ order. length (form_bytes order made.ends)) c.loop-place.invariant.order;
        have = λ key.
            made.have key
            ∙ sym (over.3 key
            ∙ ap (λ b. reads.0 key || b) (or-false (reads.1 key && true) ∙ and-true (reads.1 key)));
      },
    )
