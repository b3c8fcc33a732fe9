use Rattle.std.proofs.Common.{◌≡◌, ◌≤◌, ℕ, List, [], ◌∷◌, IfSome, Option, Some, arith, length, length-append, refl, rules, subst, sym}
use Rattle.version_order.specs.{Facts.key_room, Keyed.AreWithin, Keyed.PlainKeyed, declared.ends.End.TheVariants.AfterKey, keys.Sinks.IsWritten}
use Rattle.version_schemes.proofs.key.write_key.Goals as goal

-- a key has as many bytes as the key of a text of that length may have
key_small : (read_as : List ℕ → Option PlainKeyed) (most : ℕ → ℕ) (text : List ℕ) (version : PlainKeyed)
    → AreWithin read_as most → read_as text ≡ Some version → length version.key ≤ most (length text)
key_small read_as most text version within read =
    let end = within text version AfterKey (length text) read (omega arith) in
    omega (arith, end, length-append version.key (0 ∷ []))

pub write_whole-requires : goal.write_whole-requires
write_whole-requires g c κs =
    let V = g.V.SchemeVersion in
    let version = V.plain c.in_ok-version.version in
    let read : V.rules.read_as c.args.text.now ≡ Some version = search rules in
    let small = key_small V.rules.read_as (key_room V.rules.facts) c.args.text.now version c.most_key_bytes.ensures.within read in
    let fits : c.saturating_add.result ≤ length c.args.room.now = search rules in
    ((refl, tt), omega (arith, small, c.most_key_bytes.ensures.room, c.saturating_add.ensures, fits))

pub returns-then-saturating_add-room-clause-bytes : goal.returns-then-saturating_add-room-clause-bytes
returns-then-saturating_add-room-clause-bytes g c =
    let V = g.V.SchemeVersion in
    let version = V.plain c.in_ok-version.version in
    let read : V.rules.read_as c.args.text.now ≡ Some version = search rules in
    let small = key_small V.rules.read_as (key_room V.rules.facts) c.args.text.now version c.most_key_bytes.ensures.within read in
    let fits : c.saturating_add.result ≤ length c.args.room.now = search rules in
    subst (λ found. IfSome found (λ v. IsWritten c.args.room.now c.args.start v.key c.write_whole.new.room)) (sym read)
    (record {
      fitting = λ _. c.write_whole.ensures.bytes;
      kept = λ short. absurd (omega (arith, short, small, c.most_key_bytes.ensures.room, c.saturating_add.ensures, fits));
    })
