use Rattle.std.proofs.Common.{◌∙◌, ap, sym}
use Rattle.version_texts.specs.VersioningRef.{numeral_value}
use Rattle.version_tasks.proofs.lemmas.NextPre.Number.{first_given, first_none, next_given, next_none, none_before_text}
use Rattle.version_tasks.proofs.pre.number_after.Goals as goal

pub returns-in_err-numeral_value-in-Some-clause-none :
    goal.returns-in_err-numeral_value-in-Some-clause-none
returns-in_err-numeral_value-in-Some-clause-none c =
    rw (c.from_residual-in_err-numeral_value-in-Some.ensures, c.in_ok-own.was)
    (none_before_text c.args.word.now c.in_ok-own.own.now c.in-Some.rest.now
    c.in-Some.ensures.some (rw c.in_ok-own.was at c.requires.own)
    (sym (c.in_err-numeral_value-in-Some.ensures ∙ ap numeral_value c.split_piece.ensures.piece)))

pub returns-in_ok-numeral_value-in-Some-clause-some :
    goal.returns-in_ok-numeral_value-in-Some-clause-some
returns-in_ok-numeral_value-in-Some-clause-some c =
    rw c.in_ok-own.was
    (next_given c.args.word.now c.in_ok-own.own.now c.in-Some.rest.now c.in-Some.ensures.some
    c.in_ok-numeral_value-in-Some.field-0
    (sym (c.in_ok-numeral_value-in-Some.ensures ∙ ap numeral_value c.split_piece.ensures.piece))
    c.successor.result c.successor.ensures.some)

pub returns-in_ok-numeral_value-in-Some-clause-none :
    goal.returns-in_ok-numeral_value-in-Some-clause-none
returns-in_ok-numeral_value-in-Some-clause-none c =
    rw c.in_ok-own.was
    (next_none c.args.word.now c.in_ok-own.own.now c.in-Some.rest.now c.in-Some.ensures.some
    c.in_ok-numeral_value-in-Some.field-0
    (sym (c.in_ok-numeral_value-in-Some.ensures ∙ ap numeral_value c.split_piece.ensures.piece))
    c.successor.result c.successor.ensures.none)

pub returns-in-None-clause-some : goal.returns-in-None-clause-some
returns-in-None-clause-some c =
    rw c.in_ok-own.was
    (first_given c.args.word.now c.in_ok-own.own.now c.in-None.ensures.none
    c.first_unless_below.result c.first_unless_below.ensures.some)

pub returns-in-None-clause-none : goal.returns-in-None-clause-none
returns-in-None-clause-none c =
    rw c.in_ok-own.was
    (first_none c.args.word.now c.in_ok-own.own.now c.requires.word c.in-None.ensures.none
    (rw c.in_ok-own.was at c.requires.own) c.first_unless_below.result
    c.first_unless_below.ensures.none)
