use Rattle.version_order.specs.texts.Cuts.{pieces}
use Rattle.version_texts.proofs.lemmas.versioning_ref.Section.{next_left}
use Rattle.version_texts.proofs.versioning_ref.numbers.from_piece.Goals as goal

pub loop-preserved : goal.loop-preserved
loop-preserved c =
    next_left c.loop.left.now _ c.split_piece.ensures.rest (pieces c.args.text.now) c.loop.counter
    c.loop.invariant _ c.in_ok-left.ensures.some
