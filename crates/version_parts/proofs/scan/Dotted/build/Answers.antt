use Rattle.std.proofs.Common.{rules, ◌<◌, arith, sym, map, length}
use Rattle.std.proofs.lemmas.List.{length-map, map_push}
use Rattle.version_parts.proofs.lemmas.Scans.{built_all, built_last, built_next}
use Rattle.version_parts.proofs.scan.Dotted.build.Goals as goal

pub returns-in_default-clause-ok : goal.returns-in_default-clause-ok
returns-in_default-clause-ok g c =
    let nothing = rw c.in_default.is at c.in_ok-item.ensures in
    built_all _ _ _ _ _ _ c.loop-text.invariant.built (sym nothing)

pub returns-in_default-after_mark-clause-ok : goal.returns-in_default-after_mark-clause-ok
returns-in_default-after_mark-clause-ok g c =
    let plain = g.E.Element.plain in
    let more : length (map plain c.loop-text.items.items) < c.args.count =
    omega (arith, length-map c.loop-text.items.items plain) in
    let read = rw c.in-Some.is at c.in_ok-item.ensures in
    let ends = rw c.in_default-after_mark.is at c.after_mark.ensures in
    rw (c.in_ok-push.ensures.items, map_push)
    (built_last _ _ _ _ _ _ c.in-Some.rest.now
    (plain c.in-Some.item) c.loop-text.invariant.built more (sym read) (sym ends))

pub loop-text-preserved : goal.loop-text-preserved
loop-text-preserved g c =
    let plain = g.E.Element.plain in
    let more : length (map plain c.loop-text.items.items) < c.args.count =
    omega (arith, length-map c.loop-text.items.items plain) in
    let read = rw c.in-Some.is at c.in_ok-item.ensures in
    let next = rw c.in-Some-after_mark.is at c.after_mark.ensures in
    record {
      text = search rules;
      built = rw (c.in_ok-push.ensures.items, map_push)
          (built_next _ _ _ _ _ _ c.in-Some.rest.now c.in-Some-after_mark.next.now
          (plain c.in-Some.item) c.loop-text.invariant.built more
          (sym read) (sym next));
    }
