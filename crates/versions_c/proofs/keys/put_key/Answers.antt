use Rattle.std.proofs.Common.{arith}
use Rattle.versions_c.proofs.lemmas.Schemes.{fitting_read}
use Rattle.versions_c.proofs.keys.put_key.Goals as goal

pub returns-clause-key : goal.returns-clause-key
returns-clause-key g c = λ ok.
    fitting_read (g.V.SchemeVersion.rules.read_as c.args.text.now) c.args.key.now c.write_key.new.room c.in-Some.end
    c.in-Some.ensures.end c.in-Some.ensures.bytes (omega (arith, c.if-end-key.false)) (omega arith)
