use Rattle.std.proofs.Common.{◌∙◌, ap, List, ℕ, ◌++◌, codes, Option}
use Rattle.serde_json.specs.{Data.string, Written.compact_text}
use Rattle.serde_json.proofs.OnLiterals.{serde_json_on_literals}
use Rattle.version_answers.proofs.lemmas.One.{then}
use Rattle.version_answers.specs.One.{number_or_null, text_or_null, kind_name, stability_name}
use Rattle.version_answers.proofs.one.json.add_object.Goals as goal

pub returns : goal.returns
unfolding serde_json_on_literals
returns c =
    then _ _ c.in_ok-add_text.ensures
    (ap (λ (text : List ℕ). codes "{\"version\":" ++ compact_text (string text))
    (c.text.ensures.printed))
    (then _ _ c.in_ok-add_text-2.ensures
    (ap (λ (text : List ℕ). codes ",\"kind\":" ++ compact_text (string text))
    (c.kind_name.ensures ∙ ap kind_name c.kind.ensures))
    (then _ _ c.in_ok-add_number.ensures
    (ap (λ (n : Option ℕ). codes ",\"epoch\":" ++ compact_text (number_or_null n)) c.epoch_of.ensures)
    (then _ _ c.in_ok-add_number-2.ensures
    (ap (λ (n : Option ℕ). codes ",\"major\":" ++ compact_text (number_or_null n)) c.number_at.ensures)
    (then _ _ c.in_ok-add_number-3.ensures
    (ap (λ (n : Option ℕ). codes ",\"minor\":" ++ compact_text (number_or_null n)) c.number_at-2.ensures)
    (then _ _ c.in_ok-add_number-4.ensures
    (ap (λ (n : Option ℕ). codes ",\"patch\":" ++ compact_text (number_or_null n)) c.number_at-3.ensures)
    (then _ _ c.in_ok-add_text-3.ensures
    (ap (λ (text : Option (List ℕ)). codes ",\"pre_release\":" ++ compact_text (text_or_null text)) c.field_of.ensures)
    (then _ _ c.in_ok-add_text-4.ensures
    (ap (λ (text : Option (List ℕ)). codes ",\"release\":" ++ compact_text (text_or_null text)) c.field_of-2.ensures)
    (then _ _ c.in_ok-add_text-5.ensures
    (ap (λ (text : Option (List ℕ)). codes ",\"metadata\":" ++ compact_text (text_or_null text)) c.field_of-3.ensures)
    (then _ _ c.in_ok-add_text-6.ensures
    (ap (λ (text : List ℕ). codes ",\"stability\":" ++ compact_text (string text))
    (c.stability_name.ensures ∙ ap stability_name c.stability_of.ensures))
    (c.in_ok-push.ensures.items))))))))))
