use Rattle.std.proofs.Common.{sym}
use Rattle.version_tasks.proofs.lemmas.NextPre.Number.{no_number_last, number_last, word_before}
use Rattle.version_tasks.proofs.pre.own_word.Goals as goal

pub returns-then-spells_numeral-clause-word : goal.returns-then-spells_numeral-clause-word
returns-then-spells_numeral-clause-word c =
    word_before c.args.own.now c.split_last_piece.result.0.now c.split_last_piece.result.1.now
    c.requires c.split_last_piece.ensures.pieces c.split_last_piece.ensures.last

pub returns-then-spells_numeral-clause-some : goal.returns-then-spells_numeral-clause-some
returns-then-spells_numeral-clause-some c =
    number_last c.args.own.now c.split_last_piece.result.0.now c.split_last_piece.result.1.now
    c.requires c.split_last_piece.ensures.pieces c.split_last_piece.ensures.last
    (sym c.if-spells_numeral.ensures)

pub returns-else-spells_numeral-clause-none : goal.returns-else-spells_numeral-clause-none
returns-else-spells_numeral-clause-none c =
    no_number_last c.args.own.now c.split_last_piece.result.0.now c.split_last_piece.result.1.now
    c.requires c.split_last_piece.ensures.pieces c.split_last_piece.ensures.last
    (sym c.if-spells_numeral.ensures)
