use Rattle.version_rules.proofs.lemmas.Version.{body_alone, body_unread, epoch_unread}
use Rattle.versions.proofs.version.scan_body.Goals as goal

pub returns-in_default-clause-body : goal.returns-in_default-clause-body
returns-in_default-clause-body c = body_unread c.args.i.now c.in_default.ensures

pub returns-in-None-clause-epoch : goal.returns-in-None-clause-epoch
returns-in-None-clause-epoch c =
    epoch_unread c.args.i.now
    (c.in-Some.body, c.in-Some.rest.now) c.in-Some.ensures c.in-None.ensures

pub returns-in-None-clause-body : goal.returns-in-None-clause-body
returns-in-None-clause-body c =
    body_alone c.args.i.now (c.in-Some.body, c.in-Some.rest.now) c.in-Some.ensures c.in-None.ensures
