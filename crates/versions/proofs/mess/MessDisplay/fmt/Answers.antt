use Rattle.std.proofs.Common.{◌≡◌, ◌∷◌, ◌++◌, [], append-nil, refl}
use Rattle.std.proofs.lemmas.Grind.{put_three}
use Rattle.std.specs.Fmt.{HasWritten}
use Rattle.version_parts.specs.Sep.{plain_sep}
use Rattle.version_order.specs.texts.Grammar.{sep_byte}
use Rattle.version_rules.specs.grammar.Mess.{joined_section}
use Rattle.versions.specs.Mess.{plain_mess}
use Rattle.versions.proofs.lemmas.Mess.{ends, first_is, goes_on, written_next}
use Rattle.versions.proofs.mess.MessDisplay.fmt.Goals as goal

pub loop-current-init : goal.loop-current-init
loop-current-init g c = λ plain. (
  joined_section (plain_mess c.args.self.now).first,
  refl,
  rw (first_is c.args.self.now, ← c.as_slice.ensures.value)
      (c.in_ok-write_dotted.ensures plain refl),
)

pub loop-current-preserved : goal.loop-current-preserved
loop-current-preserved g c = λ plain.
    let sofar = c.loop-current.invariant plain in
    let section = c.in-Some.section.value in
    let here : c.deref.result.now ≡ section = c.deref.ensures in
    let next : c.deref-current.result.now ≡ section = c.deref-current.ensures in
    let mark = sep_byte (plain_sep c.in-Some.sign) in
    let chunks = joined_section (plain_mess section).first in
    let signed : HasWritten g.W.Write.write_str_gives c.loop-current.f
    (mark ∷ []) c.write.new.self = c.in_ok-write.ensures.writes sofar.2.plain refl in
    let joined : HasWritten g.W.Write.write_str_gives c.write.new.self chunks
    c.write_dotted-in-Some.new.f =
    rw (← here, first_is c.deref.result.now, ← c.as_slice-in-Some.ensures.value)
    (c.in_ok-write_dotted-2.ensures signed.plain refl) in
    let whole = rw (goes_on c.loop-current.current.now c.in-Some.sign c.in-Some.section
    c.in-Some.is) at sofar.1 in (
      sofar.0 ++ ((mark ∷ []) ++ chunks),
      rw next (written_next sofar.0 (plain_sep c.in-Some.sign, (plain_mess section).first)
          (plain_mess section).more _ whole),
      put_three _ _ _ _ _ _ _ _ _ sofar.2 signed joined refl,
    )

pub returns-clause-writes : goal.returns-clause-writes
returns-clause-writes g c = λ plain ok.
    let sofar = c.loop-current.invariant plain in
    let all = rw (ends c.loop-current.current.now c.in_default.is, append-nil) at sofar.1 in
    rw (← all) sofar.2
