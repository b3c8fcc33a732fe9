use Rattle.std.proofs.Common.{◌≡◌, ◌++◌, ◌∷◌, ℕ, List, encode_utf8, encode_utf8_all, rules, sym, ap, ◌∙◌, append_assoc}
use Rattle.std.proofs.Output.{has_written_append}
use Rattle.std.specs.Char.Iter.{escape_rest}
use Rattle.version_answers.proofs.message.quote.write_quoted.Goals as goal

pub loop-escaped-preserved : goal.loop-escaped-preserved
loop-escaped-preserved g c = λ plain.
    let so_far = c.loop-escaped.invariant plain in
    let one = encode_utf8 c.in-Some.escaped in
    let rest = encode_utf8_all (escape_rest c.next.new.self) in
    let first : escape_rest c.loop-escaped.escaped-iterator
    ≡ c.in-Some.escaped ∷ escape_rest c.next.new.self = search rules in (
      so_far.0 ++ one,
      has_written_append _ _ _ _ _ _ so_far.1 (search rules),
      append_assoc so_far.0 one rest
          ∙ ap (λ (e : List ℕ). so_far.0 ++ encode_utf8_all e) (sym first) ∙ so_far.2,
    )
