use Rattle.std.proofs.Common.{◌≡◌, rules, sym, ◌∙◌}
use Rattle.std.proofs.lemmas.Cmp.{tied_itself}
use Rattle.version_texts.specs.Order.{kind_on, texts_tie}
use Rattle.version_texts.proofs.lemmas.Ties.{texts_tie_total}
use Rattle.version_lines.proofs.sort.entry.Entry.compare_ties.Goals as goal

pub returns-then-eq : goal.returns-then-eq
returns-then-eq g c =
    let a = c.args.self.now in
    let b = c.args.other.now in
    let text_of = (g.B.SortBy.reads c.args.by.now).text_of in
    let alike : a.length ≡ b.length = search rules in
    let same : a.line.now ≡ b.line.now = search rules in
    sym ((λ i. texts_tie (kind_on (alike i), text_of (same i)) (kind_on b.length, text_of b.line.now))
    ∙ tied_itself texts_tie_total (kind_on b.length, text_of b.line.now))
