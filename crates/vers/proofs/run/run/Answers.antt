use Rattle.std.proofs.Common.{inr, map, rules, string_bytes}
use Rattle.version_commands.specs.Run.{EndsAs}
use Rattle.vers_words.specs.{Words.Means, declared.faults.Fault.TheVariants.Task}
use Rattle.vers.proofs.run.run.Goals as goal

pub returns-in_err-serve : goal.returns-in_err-serve
returns-in_err-serve g c =
    let ends : EndsAs (λ fault. Task fault) c.serve.result c.from_residual-in_err-serve.result = search rules in
    let means : Means (map string_bytes c.args.words.now) c.in-Some.task =
    rw c.in-Some.is at c.in_ok-task.ensures in
    inr (
      c.in-Some.task,
      c.serve.result,
      means,
      record {
        ends = c.serve.ensures.ends;
        answers = c.serve.ensures.answers;
        unread = c.serve.ensures.unread;
        files_are = c.serve.ensures.files;
        kept = c.serve.ensures.kept;
        early = c.serve.ensures.early;
      },
      ends,
    )
