use Rattle.std.proofs.Common.{◌∙◌, ap, sym}
use Rattle.std.specs.List.{list_all}
use Rattle.version_order.proofs.lemmas.Front.{list_all-take_while}
use Rattle.version_order.specs.texts.Bytes.{is_identifier_byte}
use Rattle.scheme_semver.proofs.lemmas.Walks.{last_identifier, next_identifier, not_allowed}
use Rattle.scheme_semver.proofs.reader.walk_section.Goals as goal

pub allows-requires : goal.allows-requires
allows-requires c =
    ap (list_all is_identifier_byte) c.split_run.ensures.run
    ∙ list_all-take_while is_identifier_byte c.identifiers.left.now

pub returns-then-not-allows : goal.returns-then-not-allows
returns-then-not-allows c =
    let cut = c.split_run.ensures in
    c.identifiers.invariant _ _ (not_allowed c.args.section c.identifiers.left.now _ _ cut.run cut.rest
    (sym c.allows.ensures ∙ c.if-not-allows.true))

pub returns-in-None : goal.returns-in-None
returns-in-None c =
    let cut = c.split_run.ensures in
    c.identifiers.invariant _ _ (last_identifier c.args.section c.identifiers.left.now _ _ cut.run cut.rest
    (sym c.allows.ensures ∙ c.if-not-allows.false) c.in-None.ensures)

pub identifiers-preserved : goal.identifiers-preserved
identifiers-preserved c = λ rest passes stops.
    let cut = c.split_run.ensures in
    c.identifiers.invariant rest passes (next_identifier c.args.section c.identifiers.left.now _ _ cut.run cut.rest
    (sym c.allows.ensures ∙ c.if-not-allows.false) _ c.in-Some.ensures rest passes stops)
