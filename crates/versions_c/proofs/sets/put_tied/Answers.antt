use Rattle.std.proofs.Common.{◌<◌, ◌^◌, ap, arith, length, subst}
use Rattle.std.specs.Option.{IfSome}
use Rattle.version_sets.specs.{Comparison.ends_with, Form.form_bytes, declared.read.comparison.Comparison.TheVariants.Equal}
use Rattle.versions_c.specs.{Written.IsWritten, declared.status.TheConstants.NO_ROOM, declared.status.TheConstants.OK}
use Rattle.versions_c.proofs.lemmas.Written.{fitting, too_long}
use Rattle.versions_c.proofs.sets.put_tied.Goals as goal

pub returns-clause-set : goal.returns-clause-set
returns-clause-set g c =
    let small : length c.args.form.now < 2 ^ 63 = omega arith in
    let written = fitting _ _ _ _ c.write_tied.ensures.length small c.write_tied.ensures.bytes
    (omega (arith, c.if-form_len-form.false, c.write_tied.auto.room)) in
    subst (λ n. IfSome (g.V.SchemeVersion.rules.read_as c.args.text.now)
    (λ v. IsWritten (form_bytes n (ends_with Equal v)) c.args.form.now c.write_tied.new.room c.write_tied.result OK))
    (ap (λ facts. facts.number) c.facts.ensures.facts)
    (subst (λ read. IfSome read (λ v. IsWritten (form_bytes c.facts.result.number (ends_with Equal v)) c.args.form.now
    c.write_tied.new.room c.write_tied.result OK)) c.in-Some.ensures written)

pub returns-then-form_len-form-clause-set : goal.returns-then-form_len-form-clause-set
returns-then-form_len-form-clause-set g c =
    let small : length c.args.form.now < 2 ^ 63 = omega arith in
    let written = too_long _ _ _ _ c.write_tied.ensures.length small c.write_tied.ensures.bytes
    (omega (arith, c.if-form_len-form.true, c.write_tied.auto.room)) in
    subst (λ n. IfSome (g.V.SchemeVersion.rules.read_as c.args.text.now)
    (λ v. IsWritten (form_bytes n (ends_with Equal v)) c.args.form.now c.write_tied.new.room c.write_tied.result NO_ROOM))
    (ap (λ facts. facts.number) c.facts.ensures.facts)
    (subst (λ read. IfSome read (λ v. IsWritten (form_bytes c.facts.result.number (ends_with Equal v)) c.args.form.now
    c.write_tied.new.room c.write_tied.result NO_ROOM)) c.in-Some.ensures written)
