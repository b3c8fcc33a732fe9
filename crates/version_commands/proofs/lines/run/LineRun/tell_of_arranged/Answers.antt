use Rattle.std.proofs.Common.{◌∙◌, List, ℕ, Option, rules, inl, inr, subst, sym}
use Rattle.version_commands.specs.{Hints.IsOfNewest}
use Rattle.version_runs.specs.{declared.files.Hint.TheVariants.Tags}
use Rattle.version_lines.specs.Inputs.{lines_left}
use Rattle.version_commands.proofs.lines.run.LineRun.tell_of_arranged.Goals.{then-stand_otherwise, else-stand_otherwise}
use Rattle.version_commands.proofs.lines.run.LineRun.tell_of_arranged.Goals as goal

pub tell_of_newest-requires : goal.tell_of_newest-requires
tell_of_newest-requires g c =
    let run = c.args.self.now in
    let keeps = g.C.Chooses.keeps run.chooser.now in
    record {
      hints = λ hint so. c.requires.hints hint (rw c.in-Newest.is (subst (λ (first : Option (List ℕ)).
          IsOfNewest run.options keeps (lines_left run.input.body) c.in-Newest.group first hint) c.first_line.ensures so));
    }

pub hint-requires : goal.hint-requires
hint-requires g c =
    c.requires.hints Tags (rw c.in-Sort.is (
      sym c.is_bare.ensures ∙ c.if-is_bare.true,
      elim c.if-stand_otherwise.branch [
        | then-stand_otherwise w ↦ inl (c.stand_otherwise.ensures (search rules))
        | else-stand_otherwise w ↦ inr (search rules)
      ],
    ))
