use Rattle.std.proofs.Common.{◌≡◌, rules, ap, arith, length, map, take, ◌∙◌}
use Rattle.std.specs.{List.position, Option.unwrap_or, Str.bytes_eq}
use Rattle.std.proofs.lemmas.List.{length-map, length-take-le}
use Rattle.version_lines.specs.Entry.{entry_line}
use Rattle.version_lines.proofs.lemmas.Newest.{placed-more, places-more}
use Rattle.version_lines.proofs.sort.newest.place_lines.Goals as goal

pub loop-entry-preserved : goal.loop-entry-preserved
loop-entry-preserved g c =
    let group_of = g.G.GroupBy.group_of c.args.groups.now in
    let entries = c.args.entries.now in
    let i = c.loop-entry.entry-index in
    let group = c.group-group.result.now in
    let place = c.in_ok-place.place in
    let count : c.len.result ≡ length c.loop-entry.lines.items = search rules in
    let place_is : place
    ≡ unwrap_or (position (λ line. bytes_eq group (group_of line)) (take i (map entry_line entries))) i =
    c.in_ok-place.ensures.place
    ∙ (λ j. unwrap_or (c.loop-entry.invariant.places group j)
    ((count ∙ ap length c.loop-entry.invariant.lines ∙ length-map (take i entries) _
    ∙ length-take-le i entries (omega arith)) j)) in
    let group_is = c.group-group.ensures ∙ ap group_of c.line.ensures in
    record {
      places = places-more group_of entries i _ c.loop-entry-test.true group place group_is place_is
          c.loop-entry.places c.place_of.new.places c.in_ok-place.ensures.places
          c.loop-entry.invariant.places;
      lines = placed-more group_of entries i _ c.loop-entry-test.true group place group_is place_is
          c.loop-entry.lines.items c.push.new.self.items c.loop-entry.invariant.lines
          c.in_ok-push.ensures.items;
    }
