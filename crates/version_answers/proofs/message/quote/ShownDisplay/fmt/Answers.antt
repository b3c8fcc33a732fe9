use Rattle.std.proofs.Common.{ℕ, List, chars, flat_map, ap, sym, ◌∙◌, append-nil, map-id, arith}
use Rattle.std.proofs.Output.{has_written_append, has_written_of_eq}
use Rattle.std.proofs.lemmas.{Grind.flat_map-append, Iterator.YieldsList-from_chars, Iterator.Consumers.YieldsList-end}
use Rattle.version_answers.specs.Message.{quoted_character}
use Rattle.version_answers.proofs.message.quote.ShownDisplay.fmt.Goals as goal

pub loop-character-preserved : goal.loop-character-preserved
loop-character-preserved g c =
    grind (arith, has_written_of_eq, append-nil, flat_map-append, has_written_append)

pub returns-clause-writes : goal.returns-clause-writes
returns-clause-writes g c = λ plain _.
    let all = YieldsList-end (YieldsList-from_chars c.shown_front.result.now c.shown_front.utf8 cc)
    c.loop-character.yielded _ c.loop-character.yielded_by _ _ c.in-None.is c.next.ensures.steps in
    has_written_of_eq _ _ _ _ _
    (ap (flat_map quoted_character) (sym (map-id c.loop-character.yielded) ∙ all.0)
    ∙ ap (λ (t : List ℕ). flat_map quoted_character (chars t)) c.shown_front.ensures)
    (c.loop-character.invariant plain)
