use Rattle.std.proofs.Common.{rules}
use Rattle.versions.specs.{Errors.IllegalMess, Mess.plain_mess}
use Rattle.versions.proofs.lemmas.Errors.{owns_any, reads_or}
use Rattle.versions.proofs.mess.Mess.from_str.Goals as goal

pub returns : goal.returns
returns c =
    reads_or plain_mess (λ _. Unit {0}) (IllegalMess c.args.s.now) _ _ _ c.new.ensures.exact
    (owns_any _ _ c.new.ensures.memory) c.or_illegal.ensures.some
    (c.or_illegal.ensures.none (IllegalMess c.args.s.now) (λ text error same made. search rules))
    c.or_illegal.ensures.err
