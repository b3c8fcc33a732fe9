use Rattle.std.proofs.Common.{◌∙◌, ap, List, ℕ, [], ◌∷◌, ◌++◌, codes, option_map, Option, Some}
use Rattle.std.specs.Fmt.{decimal}
use Rattle.version_answers.proofs.lemmas.One.{last, then}
use Rattle.version_answers.specs.One.{field_line, kind_name, stability_name}
use Rattle.version_answers.proofs.one.show.add_show.Goals as goal

pub returns : goal.returns
returns c =
    let end = c.args.end in
    then _ _ c.in_ok-add_pieces.ensures
    (ap (λ (l : List ℕ). l ++ end ∷ [])
    (c.as_bytes.ensures.value ∙ c.text.ensures.printed))
    (then _ _ c.in_ok-add_field.ensures
    (ap (λ (name : List ℕ). field_line end (codes "kind") (Some name))
    (c.kind_name.ensures ∙ ap kind_name c.kind.ensures))
    (then _ _ c.in_ok-add_number_field.ensures
    (ap (λ (n : Option ℕ). field_line end (codes "epoch") (option_map decimal n)) c.epoch_of.ensures)
    (then _ _ c.in_ok-add_number_field-2.ensures
    (ap (λ (n : Option ℕ). field_line end (codes "major") (option_map decimal n)) c.number_at.ensures)
    (then _ _ c.in_ok-add_number_field-3.ensures
    (ap (λ (n : Option ℕ). field_line end (codes "minor") (option_map decimal n)) c.number_at-2.ensures)
    (then _ _ c.in_ok-add_number_field-4.ensures
    (ap (λ (n : Option ℕ). field_line end (codes "patch") (option_map decimal n)) c.number_at-3.ensures)
    (then _ _ c.in_ok-add_field-2.ensures
    (ap (field_line end (codes "pre-release")) c.field_of.ensures)
    (then _ _ c.in_ok-add_field-3.ensures
    (ap (field_line end (codes "release")) c.field_of-2.ensures)
    (then _ _ c.in_ok-add_field-4.ensures
    (ap (field_line end (codes "metadata")) c.field_of-3.ensures)
    (last _ c.in_ok-add_field-5.ensures
    (ap (λ (name : List ℕ). field_line end (codes "stability") (Some name))
    (c.stability_name.ensures ∙ ap stability_name c.stability_of.ensures)))))))))))
