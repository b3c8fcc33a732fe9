use Rattle.std.proofs.Common.{ℕ, List, ◌∙◌, ap, drop}
use Rattle.std.specs.{Char.is_ascii_digit, List.prefix_len}
use Rattle.version_order.proofs.lemmas.{NumberBytes.is_zero, NumberBytes.number_of_run, Runs.rest_within, Runs.zero_digit, Sinks.next_fits, Sinks.owes_all, Sinks.owes_rest}
use Rattle.version_order.proofs.numbers.put_long_number.Goals as goal

pub put_length-requires : goal.put_length-requires
put_length-requires g c =
    let laws = g.met.S.Sink in
    let number = number_of_run c.args.text.now _ _ c.without_zeros.ensures c.split_run.ensures.run in
    next_fits _ _ (owes_all laws.fits_first laws.fits_then laws.takes_both number c.requires)

pub put_all-requires : goal.put_all-requires
put_all-requires g c =
    let laws = g.met.S.Sink in
    let number = number_of_run c.args.text.now _ _ c.without_zeros.ensures c.split_run.ensures.run in
    (owes_rest _ _ (owes_all laws.fits_first laws.fits_then laws.takes_both number c.requires)
    c.put_length.ensures).room

pub returns-clause-bytes : goal.returns-clause-bytes
returns-clause-bytes g c =
    let laws = g.met.S.Sink in
    let number = number_of_run c.args.text.now _ _ c.without_zeros.ensures c.split_run.ensures.run in
    (owes_rest _ _ (owes_all laws.fits_first laws.fits_then laws.takes_both number c.requires)
    c.put_length.ensures).ends _ c.put_all.ensures

pub returns-clause-rest : goal.returns-clause-rest
returns-clause-rest g c =
    c.split_run.ensures.rest
    ∙ ap (λ (l : List ℕ). drop (prefix_len is_ascii_digit l) l) c.without_zeros.ensures
    ∙ rest_within is_zero is_ascii_digit zero_digit c.args.text.now
