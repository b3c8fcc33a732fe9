use Rattle.std.proofs.Common.{◌∙◌, sym}
use Rattle.std.proofs.lemmas.Map.Text.{btree_map_updates_str}
use Rattle.version_commands.proofs.lemmas.Lists.{names_added, names_kept}
use Rattle.version_schemes.specs.any.AnyVersion.{plain_any}
use Rattle.version_commands.proofs.lists.Names.add.Goals as goal

pub returns-then-contains_key : goal.returns-then-contains_key
returns-then-contains_key c =
    λ rows are. names_kept rows (c.args.name.now, plain_any c.args.version)
    c.args.self.now are (sym c.contains_key.ensures ∙ c.if-contains_key.true)

pub returns : goal.returns
returns c =
    λ rows are. names_added rows (record { name = c.args.name; version = c.args.version })
    c.args.self.now (record { rows = c.push.new.self; versions = c.insert.new.self }) are
    (sym c.contains_key.ensures ∙ c.if-contains_key.false) c.in_ok-push.ensures.items
    (btree_map_updates_str c.args.name.now c.args.self.now.versions c.insert.new.self _
    c.in_ok-insert.ensures.updates)
