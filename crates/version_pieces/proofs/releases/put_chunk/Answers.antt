use Rattle.std.proofs.Common.{◌≡◌, ◌==◌, ◌∙◌, ℕ, List, ap, length, sym, ◌∷◌, [], Bool, drop, arith}
use Rattle.std.specs.{Char.is_ascii_digit, List.list_all, List.prefix_len}
use Rattle.version_pieces.proofs.lemmas.Pieces.{number_chunk, text_chunk}
use Rattle.version_order.proofs.lemmas.{Runs.run_is, Sinks.next_fits, Sinks.owes_all, Sinks.owes_rest}
use Rattle.version_pieces.proofs.releases.put_chunk.Goals as goal

-- a text is all digits if none of it is left after its digits
all_digits : (text rest : List ℕ) (is_empty : Bool) → rest ≡ drop (prefix_len is_ascii_digit text) text
    → is_empty ≡ (length rest == 0) → list_all is_ascii_digit text ≡ is_empty
all_digits text rest is_empty r e =
    sym (run_is is_ascii_digit text) ∙ ap (λ (l : List ℕ). length l == 0) (sym r) ∙ sym e

pub put-requires : goal.put-requires
put-requires g c =
    let laws = g.met.S.Sink in
    let all = all_digits c.args.text.now _ _ c.split_run.ensures.rest c.if-is_empty.ensures in
    next_fits (2 ∷ []) _ (owes_all laws.fits_first laws.fits_then laws.takes_both
    (number_chunk c.args.text.now all) c.requires.fits)

pub put_number-requires : goal.put_number-requires
put_number-requires g c = grind (arith, all_digits, owes_rest, owes_all, number_chunk)

pub returns-then-is_empty : goal.returns-then-is_empty
returns-then-is_empty g c =
    let laws = g.met.S.Sink in
    let all = all_digits c.args.text.now _ _ c.split_run.ensures.rest c.if-is_empty.ensures in
    (owes_rest (2 ∷ []) _ (owes_all laws.fits_first laws.fits_then laws.takes_both
    (number_chunk c.args.text.now all) c.requires.fits) c.put.ensures).ends _
    c.put_number.ensures.bytes

pub put-requires-2 : goal.put-requires-2
put-requires-2 g c =
    let laws = g.met.S.Sink in
    let other = all_digits c.args.text.now _ _ c.split_run.ensures.rest c.if-is_empty.ensures in
    next_fits (3 ∷ []) _ (owes_all laws.fits_first laws.fits_then laws.takes_both
    (text_chunk c.args.text.now other c.requires.text) c.requires.fits)

pub put_all-requires : goal.put_all-requires
put_all-requires g c =
    let laws = g.met.S.Sink in
    let other = all_digits c.args.text.now _ _ c.split_run.ensures.rest c.if-is_empty.ensures in
    let chunk = text_chunk c.args.text.now other c.requires.text in
    let all = owes_all laws.fits_first laws.fits_then laws.takes_both chunk c.requires.fits in
    next_fits _ _ (owes_rest (3 ∷ []) _ all c.put-2.ensures)

pub put-requires-3 : goal.put-requires-3
put-requires-3 g c = grind (arith, all_digits, text_chunk, owes_all, owes_rest)

pub returns : goal.returns
returns g c =
    let laws = g.met.S.Sink in
    let other = all_digits c.args.text.now _ _ c.split_run.ensures.rest c.if-is_empty.ensures in
    let chunk = text_chunk c.args.text.now other c.requires.text in
    let all = owes_all laws.fits_first laws.fits_then laws.takes_both chunk c.requires.fits in
    (owes_rest _ _ (owes_rest (3 ∷ []) _ all c.put-2.ensures) c.put_all.ensures).ends _
    c.put-3.ensures
