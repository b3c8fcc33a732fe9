use Rattle.std.proofs.Common.{◌∙◌, ◌∷◌, ap, sym}
use Rattle.std.specs.{Char.is_ascii_alphabetic, List.list_all}
use Rattle.version_order.proofs.lemmas.Front.{list_all-take_while}
use Rattle.scheme_gem.proofs.lemmas.Segments.{word_first}
use Rattle.scheme_gem.specs.Segments.{Word, segments_of}
use Rattle.scheme_gem.proofs.version.split_letters.Goals as goal

pub returns-then-begins_with-clause-letters : goal.returns-then-begins_with-clause-letters
returns-then-begins_with-clause-letters c =
    ap (list_all is_ascii_alphabetic) c.split_run.ensures.run ∙ list_all-take_while is_ascii_alphabetic c.args.text.now

pub returns-then-begins_with-clause-first : goal.returns-then-begins_with-clause-first
returns-then-begins_with-clause-first c =
    let cut = c.split_run.ensures in
    word_first c.args.text.now (sym c.if-begins_with.ensures)
    ∙ (λ i. Word (sym cut.run i) ∷ segments_of (sym cut.rest i))
