-- The last part that an owned or a scanned value holds, and what a hash is fed of it.
use Rattle.std.specs.{Hash.HashWrites, Prelude.◌++◌, String.string_bytes}
use Rattle.version_parts.specs.declared.last.{Last.Last, LastRef.LastRef}
use Rattle.version_rules.specs.grammar.Last.{Alphanum, Numeric, Rc, PlainLast, Post}
use Rattle.std.specs.Hash as fed
use Rattle.version_parts.specs.declared.last.Last.TheVariants as owned
use Rattle.version_parts.specs.declared.last.LastRef.TheVariants as lent

-- the value of an owned last part
abbrev pub plain_last : Last → PlainLast
plain_last (owned.Numeric n) = Numeric n
plain_last (owned.Rc a text b) = Rc a (string_bytes text) b
plain_last (owned.Post a text) = Post a (string_bytes text)
plain_last (owned.Alphanum text) = Alphanum (string_bytes text)

-- the value of a scanned last part
abbrev pub plain_last_ref : LastRef → PlainLast
plain_last_ref (lent.Numeric n) = Numeric n
plain_last_ref (lent.Rc a text b) = Rc a text.now b
plain_last_ref (lent.Post a text) = Post a text.now
plain_last_ref (lent.Alphanum text) = Alphanum text.now

-- what a hash is fed: the variant, and what it holds
abbrev pub last_fed : PlainLast → HashWrites
last_fed (Numeric n) = fed.u8 0 ++ fed.u32 n
last_fed (Rc a text b) = fed.u8 1 ++ (fed.u32 a ++ (fed.str text ++ fed.u32 b))
last_fed (Post a text) = fed.u8 2 ++ (fed.u32 a ++ fed.str text)
last_fed (Alphanum text) = fed.u8 3 ++ fed.str text
