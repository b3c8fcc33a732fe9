use Rattle.std.proofs.Common.{◌≡◌, ◌∙◌, ap, arith, refl, sym}
use Rattle.std.specs.Fmt.{decimal}
use Rattle.version_tasks.specs.NextText.{zeros_text}
use Rattle.std.proofs.lemmas.Grind.{put_two}
use Rattle.version_rules.proofs.lemmas.Grammar.{is_read, same_bytes}
use Rattle.version_tasks.proofs.lemmas.Next.Text.{epoch_utf8, front_utf8, in_pieces, one_more_zero, printed}
use Rattle.version_tasks.proofs.next.text.NextDisplay.fmt.Goals as goal

pub unwrap-epoch-requires : goal.unwrap-epoch-requires
unwrap-epoch-requires g c =
    let self = c.args.self.now in
    is_read _ self.epoch.now c.from_utf8.result
    (epoch_utf8 self.epoch.now self.front.now self.number self.zeros _ self.read)
    c.from_utf8.ensures.cases

pub unwrap-front-requires : goal.unwrap-front-requires
unwrap-front-requires g c =
    let self = c.args.self.now in
    is_read _ self.front.now c.from_utf8-2.result
    (front_utf8 self.epoch.now self.front.now self.number self.zeros _ self.read)
    c.from_utf8-2.ensures.cases

pub loop-preserved : goal.loop-preserved
loop-preserved g c = λ plain.
    let before = c.loop.invariant plain in
    let more = c.in_ok-write-2.ensures.writes before.plain refl in
    put_two _ _ _ _ _ _ _ before more (one_more_zero c.loop.counter)

pub returns-clause-writes : goal.returns-clause-writes
returns-clause-writes g c = λ plain ok.
    let self = c.args.self.now in
    let begun = c.in_ok-write.ensures.writes plain refl in
    let epoch =
    same_bytes _ self.epoch.now c.from_utf8.result _ c.from_utf8.ensures.cases
    c.unwrap-epoch.ensures in
    let front =
    same_bytes _ self.front.now c.from_utf8-2.result _ c.from_utf8-2.ensures.cases
    c.unwrap-front.ensures in
    let all : c.loop.counter ≡ self.zeros =
    omega (arith, c.loop.auto.counter-end, c.loop-test.false) in
    put_two _ _ _ _ _ _ _ begun (c.loop.invariant begun.plain)
    (in_pieces self.epoch.now self.front.now (decimal self.number) (zeros_text self.zeros) _ _ _
    epoch front (ap zeros_text all)
    ∙ sym (printed _ _ self.read))
