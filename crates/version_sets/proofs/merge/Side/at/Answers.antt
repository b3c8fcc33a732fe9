use Rattle.std.proofs.Common.{◌∙◌, ◌+◌, ◌∷◌, List, ap, arith, drop, length, sym, ℕ}
use Rattle.std.proofs.lemmas.List.{length-drop}
use Rattle.version_sets.specs.Form.{ends_in}
use Rattle.version_sets.proofs.lemmas.Form.{ends_count}
use Rattle.version_sets.proofs.merge.Side.at.Goals.{in-None, in-Some}
use Rattle.version_sets.proofs.merge.Side.at.Goals as goal

pub invariant_of-result : goal.invariant_of-result
invariant_of-result c =
    let set = c.args.set in
    let ends = ends_in set.count set.numbers.now set.ends.now in
    record {
      is_next = elim c.match-end.branch [
        | in-Some w ↦ λ left. w.in-Some.ensures.some
            ∙ ap (λ next. next.now ∷ drop (c.args.place + 1) ends) (sym w.next-is)
        | in-None w ↦ λ left. absurd (omega (
          arith,
          left,
          ap (λ (l : List (List ℕ)). length l) w.in-None.ensures.none,
          length-drop c.args.place ends,
          ends_count set.count set.numbers.now set.ends.now,
        ))
      ];
    }
