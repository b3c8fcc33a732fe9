use Rattle.std.proofs.Common.{◌∙◌, sym}
use Rattle.std.specs.Char.{is_ascii_digit}
use Rattle.version_order.specs.texts.Front.{number_front}
use Rattle.scheme_pypi.proofs.lemmas.{Items.next_goes, Items.rest-last, Items.rest-more, Items.rest-none, Release.number_read, Release.numbers_read}
use Rattle.scheme_pypi.specs.Texts.{is_dot}
use Rattle.scheme_pypi.proofs.read.after_release.Goals as goal

pub returns-then-not-begins_with-clause-rest : goal.returns-then-not-begins_with-clause-rest
returns-then-not-begins_with-clause-rest c =
    rest-none is_dot is_ascii_digit number_front numbers_read c.args.text.now cc

pub returns-then-is_empty-clause-rest : goal.returns-then-is_empty-clause-rest
returns-then-is_empty-clause-rest c =
    let so_far = c.numbers.invariant in
    let read = number_read c.numbers.left.now _ so_far.begins c.split_run.ensures.rest in
    rest-last is_dot is_ascii_digit number_front numbers_read c.numbers.left.now _ _ _ read
    c.next_number-left.ensures (sym c.if-is_empty.ensures) ∙ so_far.rest

pub numbers-preserved : goal.numbers-preserved
numbers-preserved c =
    let so_far = c.numbers.invariant in
    let next = c.next_number-left.ensures in
    let goes = sym c.if-is_empty.ensures in
    let read = number_read c.numbers.left.now c.split_run.result.1.now so_far.begins c.split_run.ensures.rest in
    record {
      begins = next_goes is_dot is_ascii_digit c.split_run.result.1.now _ next goes;
      rest = rest-more is_dot is_ascii_digit number_front numbers_read c.numbers.left.now _ _ _ read next goes
          ∙ so_far.rest;
    }
