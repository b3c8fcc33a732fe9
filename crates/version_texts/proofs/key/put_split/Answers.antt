use Rattle.std.proofs.Common.{ℕ, List, ◌∙◌, ap, drop, sym, ◌∷◌, [], refl, arith}
use Rattle.std.specs.{Char.is_ascii_alphabetic, Char.is_ascii_alphanumeric, Char.is_ascii_digit, List.prefix_len}
use Rattle.version_texts.proofs.lemmas.Pieces.{rest_of_letters, split_begun, split_of_letters, split_of_number}
use Rattle.version_order.proofs.lemmas.{Runs.digit_alphanumeric, Runs.letter_alphanumeric, Runs.rest_within, Sinks.next_fits, Sinks.owes_all, Sinks.owes_rest}
use Rattle.version_texts.proofs.key.put_split.Goals as goal

abbrev after_run : List ℕ → List ℕ
after_run text = drop (prefix_len is_ascii_alphanumeric text) text

pub put_run-rest-requires : goal.put_run-rest-requires
put_run-rest-requires g c =
    let laws = g.met.S.Sink in
    next_fits _ _ (owes_all laws.fits_first laws.fits_then laws.takes_both
    (split_begun c.args.text.now _ refl).1 c.requires)

pub put-requires : goal.put-requires
put-requires g c =
    let laws = g.met.S.Sink in
    let begun = split_begun c.args.text.now _ c.put_run-rest.ensures.rest in
    let all = owes_all laws.fits_first laws.fits_then laws.takes_both begun.1 c.requires in
    next_fits (0 ∷ []) _ (owes_rest _ _ all c.put_run-rest.ensures.bytes)

pub put-requires-then-not-begins_with : goal.put-requires-then-not-begins_with
put-requires-then-not-begins_with g c = grind (arith, split_of_letters, owes_all, owes_rest)

pub returns-then-not-begins_with : goal.returns-then-not-begins_with
returns-then-not-begins_with g c =
    let laws = g.met.S.Sink in
    let text = c.args.text.now in
    let rest = c.put_run-rest.ensures.rest in
    let other = sym c.if-not-begins_with.ensures in
    let all = owes_all laws.fits_first laws.fits_then laws.takes_both (split_of_letters text _ rest other) c.requires in
    let left = owes_rest (0 ∷ []) _ (owes_rest _ _ all c.put_run-rest.ensures.bytes) c.put.ensures in
    record {
      bytes = left.ends _ c.put-then-not-begins_with.ensures;
      rest = sym (rest_of_letters text _ rest other) ∙ ap after_run rest
          ∙ rest_within is_ascii_alphabetic is_ascii_alphanumeric letter_alphanumeric text;
    }

pub put-requires-2 : goal.put-requires-2
put-requires-2 g c =
    let laws = g.met.S.Sink in
    let number = split_of_number c.args.text.now _ _ c.put_run-rest.ensures.rest
    (sym c.if-not-begins_with.ensures) refl in
    let all = owes_all laws.fits_first laws.fits_then laws.takes_both number c.requires in
    next_fits (1 ∷ []) _
    (owes_rest (0 ∷ []) _ (owes_rest _ _ all c.put_run-rest.ensures.bytes) c.put.ensures)

pub put_long_number-behind-requires : goal.put_long_number-behind-requires
put_long_number-behind-requires g c =
    let laws = g.met.S.Sink in
    let number = split_of_number c.args.text.now _ _ c.put_run-rest.ensures.rest
    (sym c.if-not-begins_with.ensures) refl in
    let all = owes_all laws.fits_first laws.fits_then laws.takes_both number c.requires in
    let left = owes_rest (0 ∷ []) _ (owes_rest _ _ all c.put_run-rest.ensures.bytes) c.put.ensures in
    next_fits _ _ (owes_rest (1 ∷ []) _ left c.put-2.ensures)

pub put_run-rest-requires-2 : goal.put_run-rest-requires-2
put_run-rest-requires-2 g c =
    let laws = g.met.S.Sink in
    let number = split_of_number c.args.text.now _ _ c.put_run-rest.ensures.rest
    (sym c.if-not-begins_with.ensures) c.put_long_number-behind.ensures.rest in
    let all = owes_all laws.fits_first laws.fits_then laws.takes_both number c.requires in
    let left = owes_rest (0 ∷ []) _ (owes_rest _ _ all c.put_run-rest.ensures.bytes) c.put.ensures in
    next_fits _ _ (owes_rest _ _ (owes_rest (1 ∷ []) _ left c.put-2.ensures)
    c.put_long_number-behind.ensures.bytes)

pub put-requires-3 : goal.put-requires-3
put-requires-3 g c =
    let laws = g.met.S.Sink in
    let number = split_of_number c.args.text.now _ _ c.put_run-rest.ensures.rest
    (sym c.if-not-begins_with.ensures) c.put_long_number-behind.ensures.rest in
    let all = owes_all laws.fits_first laws.fits_then laws.takes_both number c.requires in
    let left = owes_rest (0 ∷ []) _ (owes_rest _ _ all c.put_run-rest.ensures.bytes) c.put.ensures in
    (owes_rest _ _ (owes_rest _ _ (owes_rest (1 ∷ []) _ left c.put-2.ensures)
    c.put_long_number-behind.ensures.bytes) c.put_run-rest-2.ensures.bytes).room

pub returns : goal.returns
returns g c =
    let laws = g.met.S.Sink in
    let text = c.args.text.now in
    let rest = c.put_run-rest.ensures.rest in
    let behind = c.put_long_number-behind.ensures.rest in
    let number = split_of_number text _ _ rest (sym c.if-not-begins_with.ensures) behind in
    let all = owes_all laws.fits_first laws.fits_then laws.takes_both number c.requires in
    let left = owes_rest (0 ∷ []) _ (owes_rest _ _ all c.put_run-rest.ensures.bytes) c.put.ensures in
    let last = owes_rest _ _ (owes_rest _ _ (owes_rest (1 ∷ []) _ left c.put-2.ensures)
    c.put_long_number-behind.ensures.bytes) c.put_run-rest-2.ensures.bytes in
    record {
      bytes = last.ends _ c.put-3.ensures;
      rest = c.put_run-rest-2.ensures.rest ∙ ap after_run behind
          ∙ rest_within is_ascii_digit is_ascii_alphanumeric digit_alphanumeric
          c.put_run-rest.result.now
          ∙ ap after_run rest
          ∙ rest_within is_ascii_alphabetic is_ascii_alphanumeric letter_alphanumeric text;
    }
