use Rattle.std.proofs.Common.{sym}
use Rattle.versions.specs.Mess.{plain_mess}
use Rattle.version_rules.proofs.lemmas.Mess.{mess_front-None}
use Rattle.versions.proofs.lemmas.Mess.{first_some, mess_read, reads_err, wants_memory}
use Rattle.versions.proofs.mess.Mess.parse.Goals as goal

pub returns-in_err-first : goal.returns-in_err-first
returns-in_err-first c =
    reads_err _ _ c.from_residual.ensures.0 (wants_memory c.args.i.now c.in_err-first.ensures)

pub returns-in_default : goal.returns-in_default
returns-in_default c =
    sym (mess_front-None c.args.i.now (sym (rw c.in_default.is at c.in_ok-first.ensures)))

pub returns-in_err-more : goal.returns-in_err-more
returns-in_err-more c =
    reads_err _ _ c.from_residual-in_err-more.ensures.0
    (wants_memory c.args.i.now (first_some _ _ (rw c.in-Some.is at c.in_ok-first.ensures)))

pub returns-in_err-link : goal.returns-in_err-link
returns-in_err-link c =
    reads_err _ _ c.from_residual-in_err-link.ensures.0
    (wants_memory c.args.i.now (first_some _ _ (rw c.in-Some.is at c.in_ok-first.ensures)))

pub returns : goal.returns
returns c = mess_read c.args.i.now _ c.in-Some.behind.now _ (plain_mess c.in_ok-link.field-0)
    (rw c.in-Some.is at c.in_ok-first.ensures) c.in_ok-more.ensures c.in_ok-link.ensures.first
    c.in_ok-link.ensures.more
