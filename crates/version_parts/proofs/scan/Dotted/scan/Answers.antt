use Rattle.std.proofs.Common.{rules, arith, sym}
use Rattle.version_order.specs.texts.{Bytes.dot, Front.behind}
use Rattle.version_order.proofs.lemmas.Front.{behind_dot_shrinks, unlisted}
use Rattle.version_parts.proofs.lemmas.Scans.{nothing_before, read_before, scanned_all, scanned_first, scanned_next}
use Rattle.version_parts.proofs.scan.Dotted.scan.Goals as goal

pub returns-in_err-rest-clause-elements : goal.returns-in_err-rest-clause-elements
returns-in_err-rest-clause-elements g c =
    let none = unlisted g.E.Element.front c.args.i.now (nothing_before _ c.in_err-rest.ensures) in
    rw c.from_residual.ensures (sym none)

pub loop-next-init : goal.loop-next-init
loop-next-init g c =
    let first = read_before
    (g.E.Element.front c.args.i.now) c.in_ok-rest.rest.now c.in_ok-rest.ensures in
    record {
      text = search rules;
      scanned = scanned_first g.E.Element.front g.met.E.Element.consumes c.args.i.now first.0
          c.in_ok-rest.rest.now first.1;
      fits = omega (
        arith,
        g.met.E.Element.consumes c.args.i.now first.0 c.in_ok-rest.rest.now first.1,
      );
    }

pub loop-next-smaller : goal.loop-next-smaller
loop-next-smaller g c =
    let next = read_before
    (behind dot g.E.Element.front c.loop-next.rest.now) c.in-Some.after.now
    c.in-Some.ensures.after in
    behind_dot_shrinks g.E.Element.front g.met.E.Element.consumes c.loop-next.rest.now next.0
    c.in-Some.after.now next.1

pub loop-next-preserved : goal.loop-next-preserved
loop-next-preserved g c =
    let front = g.E.Element.front in
    let consumes = g.met.E.Element.consumes in
    let next = read_before
    (behind dot front c.loop-next.rest.now) c.in-Some.after.now c.in-Some.ensures.after in
    record {
      text = search rules;
      scanned = scanned_next front consumes c.args.i.now c.loop-next.count c.loop-next.last.now
          c.loop-next.rest.now c.in-Some.next.now c.in-Some.after.now next.0
          c.loop-next.invariant.scanned c.in-Some.ensures.next next.1;
      fits = omega (
        arith,
        c.loop-next.invariant.fits,
        behind_dot_shrinks front consumes c.loop-next.rest.now next.0 c.in-Some.after.now next.1,
      );
    }

pub returns : goal.returns
returns g c =
    let all = scanned_all g.E.Element.front g.met.E.Element.consumes c.args.i.now c.loop-next.count
    c.loop-next.last.now c.loop-next.rest.now
    c.loop-next.invariant.scanned (nothing_before _ c.in_default.ensures.after) in
    record {
      elements = sym all.read;
      counted = all.count_is;
      last = ((all.others, all.element), all.split, all.last_is);
    }
