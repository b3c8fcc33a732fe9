-- The orders of versions: by their keys; ties field by field.
use Rattle.std.specs.{Ordering.on, Ordering.then_cmp, declared.cmp.Ordering.Ordering}
use Rattle.version_rules.specs.grammar.{Mess.PlainMess, Mess.mess_plain_cmp, Version.PlainVersion, Versioning.PlainVersioning, Versioning.versioning_plain_cmp}
use Rattle.version_rules.specs.{key.Key.key_of, key.Key.key_of_mess, key.Key.key_of_version, key.Key.precedence, order.Kinds.version_plain_cmp}

-- two general versions
abbrev pub version_cmp : PlainVersion → PlainVersion → Ordering
version_cmp = then_cmp (on key_of_version precedence) version_plain_cmp

-- two messy versions
abbrev pub mess_cmp : PlainMess → PlainMess → Ordering
mess_cmp = then_cmp (on key_of_mess precedence) mess_plain_cmp

-- two versions of any kind: by key; ties by kind, strict before general before messy, then field by
-- field
abbrev pub versioning_cmp : PlainVersioning → PlainVersioning → Ordering
versioning_cmp = then_cmp (on key_of precedence) versioning_plain_cmp
