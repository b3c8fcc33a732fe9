use Rattle.std.proofs.Common.{◌≡◌, ◌++◌, ◌∷◌, List, rules, sym, ap, ◌∙◌, append_assoc}
use Rattle.std.proofs.Output.{has_written_append}
use Rattle.std.specs.Array.Iter.{array_into_iter_items}
use Rattle.version_schemes.specs.declared.scheme.Scheme.{Scheme}
use Rattle.version_answers.specs.Message.{names_of, names_of_each}
use Rattle.version_answers.proofs.message.schemes.SchemeNamesDisplay.fmt.Goals as goal

pub loop-scheme-preserved : goal.loop-scheme-preserved
loop-scheme-preserved g c = λ plain.
    let so_far = c.loop-scheme.invariant plain in
    let one = names_of c.in-Some.scheme in
    let rest = names_of_each (array_into_iter_items c.next.new.self) in
    let first : array_into_iter_items c.loop-scheme.scheme-iterator
    ≡ c.in-Some.scheme ∷ array_into_iter_items c.next.new.self = search rules in (
      so_far.0 ++ one,
      has_written_append _ _ _ _ _ _ so_far.1 (search rules),
      append_assoc so_far.0 one rest
          ∙ ap (λ (left : List Scheme). so_far.0 ++ names_of_each left) (sym first) ∙ so_far.2,
    )
