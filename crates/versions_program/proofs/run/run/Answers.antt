use Rattle.std.proofs.Common.{inr, rules}
use Rattle.version_commands.specs.Run.{EndsAs}
use Rattle.version_words.specs.declared.faults.Fault.TheVariants.{Task}
use Rattle.versions_program.proofs.run.run.Goals as goal

pub returns-in_err-serve : goal.returns-in_err-serve
returns-in_err-serve g c =
    let ends : EndsAs (λ fault. Task fault) c.serve.result c.from_residual-in_err-serve.result = search rules in
    inr (
      c.in_ok-task.task,
      c.serve.result,
      c.in_ok-task.ensures.task,
      record {
        ends = c.serve.ensures.ends;
        answers = c.serve.ensures.answers;
        unread = c.serve.ensures.unread;
        files_are = c.serve.ensures.files;
        kept = c.serve.ensures.kept;
        early = c.serve.ensures.early;
      },
      ends,
    )
