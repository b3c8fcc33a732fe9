use Rattle.std.proofs.Common.{sym}
use Rattle.version_tasks.proofs.lemmas.NextPre.Number.{no_dot_after, no_word, with_word}
use Rattle.version_tasks.proofs.pre.after_word.Goals as goal

pub returns-in_err-strip_prefix-clause-none : goal.returns-in_err-strip_prefix-clause-none
returns-in_err-strip_prefix-clause-none c =
    rw c.from_residual.ensures
    (no_word c.args.word.now c.args.text.now c.in_err-strip_prefix.ensures.cases)

pub returns : goal.returns
returns c =
    let rest = c.in_ok-strip_prefix.field-0.now in
    let cases = c.in_ok-strip_prefix.ensures.cases in
    record {
      some = with_word c.args.word.now c.args.text.now rest (sym c.if-is_empty.ensures) cases.0
          cases.1 c.after_byte.result c.after_byte.ensures;
      none = no_dot_after c.args.word.now c.args.text.now rest (sym c.if-is_empty.ensures) cases.1
          c.after_byte.result c.after_byte.ensures;
    }
