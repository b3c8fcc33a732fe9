use Rattle.std.proofs.Common.{◌<◌, ◌^◌, arith, length}
use Rattle.versions_c.proofs.lemmas.Written.{fitting, too_long}
use Rattle.versions_c.proofs.set_algebra.write.Goals as goal

pub returns-clause-written : goal.returns-clause-written
returns-clause-written c =
    let small : length c.args.form.now < 2 ^ 63 = omega arith in
    fitting _ _ _ _ c.write_merge.ensures.length small c.write_merge.ensures.bytes
    (omega (arith, c.if-form_len-form.false, c.write_merge.auto.room))

pub returns-then-form_len-form-clause-written : goal.returns-then-form_len-form-clause-written
returns-then-form_len-form-clause-written c =
    let small : length c.args.form.now < 2 ^ 63 = omega arith in
    too_long _ _ _ _ c.write_merge.ensures.length small c.write_merge.ensures.bytes
    (omega (arith, c.if-form_len-form.true, c.write_merge.auto.room))
