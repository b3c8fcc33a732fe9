use Rattle.std.proofs.Common.{◌∙◌, ap, not, subst, sym}
use Rattle.version_sets.specs.{Comparison.ends_with, Form.Rise, Form.has}
use Rattle.version_sets.proofs.lemmas.Reader.{begins_room}
use Rattle.version_sets.proofs.read.excluding.leaves_out.Goals as goal

pub returns-in-Some-clause-out : goal.returns-in-Some-clause-out
returns-in-Some-clause-out g c =
    let V = g.V.SchemeVersion in
    let bytes = begins_room c.args.room.now c.write_member-size.new.room _ c.write_member-size.result c.requires.room
    c.write_member-size.ensures.end c.write_member-size.ensures.bytes in
    let form = c.in-Some.ensures.form 0 (ends_with c.args.member.0 (V.plain c.args.member.1)) bytes in
    ap not (c.has.ensures (subst Rise (sym form.1) c.requires.rise)
    ∙ ap (λ ends. has ends (V.plain c.args.version.now).key) form.1)

pub returns-in-None-clause-out : goal.returns-in-None-clause-out
returns-in-None-clause-out g c =
    let member = c.args.member in
    let bytes = begins_room c.args.room.now c.write_member-size.new.room _ c.write_member-size.result c.requires.room
    c.write_member-size.ensures.end c.write_member-size.ensures.bytes in
    absurd (c.in-None.ensures.form 0 (ends_with member.0 (g.V.SchemeVersion.plain member.1)) bytes)
