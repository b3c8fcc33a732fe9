use Rattle.version_requirements.proofs.lemmas.Newest.{alone_wanted, text_is}
use Rattle.version_requirements.specs.Newest.{text_at}
use Rattle.version_requirements.proofs.newest.TextsCandidates.version.Goals as goal

pub returns-clause-some : goal.returns-clause-some
returns-clause-some c =
    rw (text_is c.args.self.now.texts.now c.args.place) at c.version.ensures.some

pub returns-clause-alone : goal.returns-clause-alone
returns-clause-alone c =
    alone_wanted c.args.self.now.wanted (text_at c.args.self.now.texts.now c.args.place)
    c.version.result (rw (text_is c.args.self.now.texts.now c.args.place)
    at c.version.ensures.some)

pub returns-clause-none : goal.returns-clause-none
returns-clause-none c =
    rw (text_is c.args.self.now.texts.now c.args.place) at c.version.ensures.none
