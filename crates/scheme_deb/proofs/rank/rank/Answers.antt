use Rattle.std.proofs.Common.{◌≡◌, ◌<◌, ◌∙◌, ℕ, Some, arith, get_or, if◌then◌else◌, refl, true}
use Rattle.version_order.proofs.lemmas.Bytes.{table_at}
use Rattle.scheme_deb.specs.{Order.rank as rank_of, Texts.is_of_upstream, declared.rank.TheConstants.RANKS}
use Rattle.scheme_deb.proofs.rank.rank.Goals as goal

-- the rank of a byte of an upstream version, and 0 of any other
abbrev ranked : ℕ → ℕ
ranked byte = if is_of_upstream byte then rank_of (Some byte) else 0

at_place : (byte : ℕ) → byte < 256 → is_of_upstream byte ≡ true → get_or RANKS byte 0 ≡ rank_of (Some byte)
at_place byte fits is = table_at ranked RANKS 0 refl byte fits ∙ rw is refl

pub returns : goal.returns
returns c = rw c.from.ensures (at_place c.args.byte (omega (arith, c.ranges.byte)) c.requires)
