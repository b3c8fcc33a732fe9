use Rattle.std.proofs.Common.{ℕ, List, ◌∙◌, ap, drop, sym, ◌∷◌, [], refl, subst, arith}
use Rattle.std.specs.{Char.is_ascii_alphanumeric, Char.is_ascii_digit, List.prefix_len, List.take_while}
use Rattle.version_texts.proofs.lemmas.Pieces.{number_and_suffix, plain_of_run, rest_of_plain, suffixed_of_run, word_of_run}
use Rattle.version_order.proofs.lemmas.{Runs.digit_alphanumeric, Runs.rest_within, Sinks.next_fits, Sinks.owes_all, Sinks.owes_rest}
use Rattle.version_texts.proofs.key.put_any_part.Goals.{then-begins_with+else-not-begins_with, else-begins_with}
use Rattle.version_rules.specs.key.PartKey.{split_bytes, split_of}
use Rattle.version_texts.proofs.key.put_any_part.Goals as goal

abbrev after_run : List ℕ → List ℕ
after_run text = drop (prefix_len is_ascii_alphanumeric text) text

-- what a number is written with before it and after it
pub put-requires : goal.put-requires
put-requires g c =
    let laws = g.met.S.Sink in
    let suffixed = number_and_suffix c.args.text.now _ (sym c.if-begins_with.ensures) refl in
    next_fits (3 ∷ []) _ (owes_all laws.fits_first laws.fits_then laws.takes_both suffixed c.requires)

pub put_long_number-left-requires : goal.put_long_number-left-requires
put_long_number-left-requires g c =
    let laws = g.met.S.Sink in
    let suffixed = number_and_suffix c.args.text.now _ (sym c.if-begins_with.ensures) refl in
    let all = owes_all laws.fits_first laws.fits_then laws.takes_both suffixed c.requires in
    next_fits _ _ (owes_rest (3 ∷ []) _ all c.put.ensures)

pub put-requires-then-not-begins_with : goal.put-requires-then-not-begins_with
put-requires-then-not-begins_with g c = grind (arith, plain_of_run, owes_all, owes_rest)

pub returns-then-not-begins_with : goal.returns-then-not-begins_with
returns-then-not-begins_with g c =
    let laws = g.met.S.Sink in
    let text = c.args.text.now in
    let rest = c.put_long_number-left.ensures.rest in
    let other = sym c.if-not-begins_with.ensures in
    let plain = plain_of_run text _ (sym c.if-begins_with.ensures) rest other in
    let all = owes_all laws.fits_first laws.fits_then laws.takes_both plain c.requires in
    let last = owes_rest _ _ (owes_rest (3 ∷ []) _ all c.put.ensures) c.put_long_number-left.ensures.bytes in
    record {
      bytes = last.ends _ c.put-then-not-begins_with.ensures;
      rest = sym (rest_of_plain text _ rest other) ∙ ap after_run rest
          ∙ rest_within is_ascii_digit is_ascii_alphanumeric digit_alphanumeric text;
    }

pub put-requires-2 : goal.put-requires-2
put-requires-2 g c =
    let laws = g.met.S.Sink in
    elim c.if-begins_with.branch [
      | then-begins_with+else-not-begins_with w ↦
          let suffixed = suffixed_of_run c.args.text.now _ (sym w.if-begins_with.ensures)
          w.put_long_number-left.ensures.rest (sym w.if-not-begins_with.ensures) in
          let all = owes_all laws.fits_first laws.fits_then laws.takes_both suffixed c.requires in
          subst (λ sink. g.S.Sink.fits sink (1 ∷ [])) (sym w.sink-is)
          (next_fits (1 ∷ []) _
          (owes_rest _ _ (owes_rest (3 ∷ []) _ all w.put.ensures) w.put_long_number-left.ensures.bytes))
      | else-begins_with w ↦
          subst (λ sink. g.S.Sink.fits sink (1 ∷ [])) (sym w.sink-is)
          (next_fits (1 ∷ []) _ (owes_all laws.fits_first laws.fits_then laws.takes_both
          (word_of_run c.args.text.now (sym w.if-begins_with.ensures)) c.requires))
    ]

pub put_split-requires : goal.put_split-requires
put_split-requires g c =
    let laws = g.met.S.Sink in
    elim c.if-begins_with.branch [
      | then-begins_with+else-not-begins_with w ↦
          let suffixed = suffixed_of_run c.args.text.now _ (sym w.if-begins_with.ensures)
          w.put_long_number-left.ensures.rest (sym w.if-not-begins_with.ensures) in
          let all = owes_all laws.fits_first laws.fits_then laws.takes_both suffixed c.requires in
          subst (λ text. g.S.Sink.fits c.put-2.new.self
          (split_bytes (split_of (take_while is_ascii_alphanumeric text.now)))) (sym w.left-is)
          (owes_rest (1 ∷ []) _
          (owes_rest _ _ (owes_rest (3 ∷ []) _ all w.put.ensures) w.put_long_number-left.ensures.bytes)
          (rw w.sink-is at c.put-2.ensures)).room
      | else-begins_with w ↦
          let all = owes_all laws.fits_first laws.fits_then laws.takes_both
          (word_of_run c.args.text.now (sym w.if-begins_with.ensures)) c.requires in
          subst (λ text. g.S.Sink.fits c.put-2.new.self
          (split_bytes (split_of (take_while is_ascii_alphanumeric text.now)))) (sym w.left-is)
          (owes_rest (1 ∷ []) _ all (rw w.sink-is at c.put-2.ensures)).room
    ]

pub returns-clause-bytes : goal.returns-clause-bytes
returns-clause-bytes g c =
    let laws = g.met.S.Sink in
    elim c.if-begins_with.branch [
      | then-begins_with+else-not-begins_with w ↦
          let suffixed = suffixed_of_run c.args.text.now _ (sym w.if-begins_with.ensures)
          w.put_long_number-left.ensures.rest (sym w.if-not-begins_with.ensures) in
          let all = owes_all laws.fits_first laws.fits_then laws.takes_both suffixed c.requires in
          (owes_rest (1 ∷ []) _
          (owes_rest _ _ (owes_rest (3 ∷ []) _ all w.put.ensures) w.put_long_number-left.ensures.bytes)
          (rw w.sink-is at c.put-2.ensures)).ends _ (rw w.left-is at c.put_split.ensures.bytes)
      | else-begins_with w ↦
          let all = owes_all laws.fits_first laws.fits_then laws.takes_both
          (word_of_run c.args.text.now (sym w.if-begins_with.ensures)) c.requires in
          (owes_rest (1 ∷ []) _ all (rw w.sink-is at c.put-2.ensures)).ends _
          (rw w.left-is at c.put_split.ensures.bytes)
    ]

pub returns-clause-rest : goal.returns-clause-rest
returns-clause-rest g c =
    elim c.if-begins_with.branch [
      | then-begins_with+else-not-begins_with w ↦
          (rw w.left-is at c.put_split.ensures.rest) ∙ ap after_run w.put_long_number-left.ensures.rest
          ∙ rest_within is_ascii_digit is_ascii_alphanumeric digit_alphanumeric c.args.text.now
      | else-begins_with w ↦ rw w.left-is at c.put_split.ensures.rest
    ]
