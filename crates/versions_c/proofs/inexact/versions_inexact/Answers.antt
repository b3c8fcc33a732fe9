use Rattle.std.proofs.Common.{◌∙◌, arith, length, sym, rules}
use Rattle.std.specs.Option.{is_some}
use Rattle.version_rules.proofs.lemmas.Inexact.{inexact_decide, inexact_none, inexact_parse}
use Rattle.version_rules.specs.requirement.Requirements.{requirements_of}
use Rattle.versions_c.proofs.lemmas.Matching.{no_wrong, status_if, told, within, written}
use Rattle.versions_c.proofs.inexact.versions_inexact.Goals as goal

pub returns-then-members_len-members : goal.returns-then-members_len-members
returns-then-members_len-members c =
    let list = c.args.list.now in
    let some = no_wrong c.wrong_member.result (is_some (requirements_of list))
    c.wrong_member.ensures.parses (sym c.is_some.ensures ∙ c.if-is_some.false) in
    record {
      status = (status_if list c.write_inexact.result (length c.args.members.now) some (omega arith)
          c.write_inexact.ensures.length).0 (omega (arith, c.if-members_len-members.true));
      members = search rules;
      kept = search rules;
      length = told list c.write_inexact.result (omega arith) c.write_inexact.ensures.length;
      no_length = search rules;
      within = within list;
      none = λ wanted read none. inexact_none wanted none;
      parses = inexact_parse list;
      decides = λ wanted v read inside. inexact_decide wanted v inside;
    }

pub returns : goal.returns
returns c =
    let list = c.args.list.now in
    let some = no_wrong c.wrong_member.result (is_some (requirements_of list))
    c.wrong_member.ensures.parses (sym c.is_some.ensures ∙ c.if-is_some.false) in
    record {
      status = (status_if list c.write_inexact.result (length c.args.members.now) some (omega arith)
          c.write_inexact.ensures.length).1 (omega (arith, c.if-members_len-members.false));
      members = λ ok. written list c.write_inexact.result c.args.members.now
          c.write_inexact.new.room (omega arith) c.write_inexact.ensures.length
          (omega (arith, c.if-members_len-members.false))
          (c.write_inexact.ensures.bytes.fitting (omega (
            arith,
            c.write_inexact.ensures.length,
            c.if-members_len-members.false,
          )));
      kept = search rules;
      length = told list c.write_inexact.result (omega arith) c.write_inexact.ensures.length;
      no_length = search rules;
      within = within list;
      none = λ wanted read none. inexact_none wanted none;
      parses = inexact_parse list;
      decides = λ wanted v read inside. inexact_decide wanted v inside;
    }
