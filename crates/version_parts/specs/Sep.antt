-- The sign that a value holds, and what a hash is fed of it.
use Rattle.std.specs.Hash.{HashWrites}
use Rattle.version_parts.specs.declared.sep.Sep.{Sep}
use Rattle.version_order.specs.texts.Grammar.{PlainSep, Plus, Hyphen, Colon, Tilde, Underscore, sep_rank}
use Rattle.std.specs.Hash as fed
use Rattle.version_parts.specs.declared.sep.Sep.TheVariants as owned

-- the sign of a value
abbrev pub plain_sep : Sep → PlainSep
plain_sep owned.Colon = Colon
plain_sep owned.Hyphen = Hyphen
plain_sep owned.Plus = Plus
plain_sep owned.Underscore = Underscore
plain_sep owned.Tilde = Tilde

-- what a hash is fed: the place of the sign
abbrev pub sep_fed : PlainSep → HashWrites
sep_fed sign = fed.u8 (sep_rank sign)
