use Rattle.std.proofs.Common.{Some}
use Rattle.std.proofs.lemmas.Map.Text.{btree_map_updates_str}
use Rattle.version_lines.proofs.sort.newest.place_of.Goals as goal

pub returns-clause-places : goal.returns-clause-places
returns-clause-places c =
    btree_map_updates_str c.args.group.now c.args.places.now c.insert.new.self (Some c.args.here)
    c.in_ok-insert.ensures.updates
