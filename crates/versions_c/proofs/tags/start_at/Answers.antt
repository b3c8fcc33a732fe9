use Rattle.versions_c.proofs.lemmas.Newest.{start_found}
use Rattle.versions_c.proofs.tags.start_at.Goals as goal

pub returns-in-Some : goal.returns-in-Some
returns-in-Some c =
    start_found c.args.texts.now c.args.offsets.now c.args.place c.in-Some.start
    (rw c.text_at.ensures at c.in-Some.ensures.within)
    (rw c.text_at.ensures at c.in-Some.ensures.version)
