use Rattle.std.proofs.Common.{◌∙◌, ap, sym}
use Rattle.scheme_gem.proofs.lemmas.Walks.{cut_gem, stops_early, stops_later, stops_whole}
use Rattle.scheme_gem.specs.{Segments.without_last, Texts.is_blank, Texts.is_version}
use Rattle.scheme_gem.proofs.reader.read.Goals as goal

pub returns-then-not-stop : goal.returns-then-not-stop
returns-then-not-stop c =
    let stop = c.walk_version-stop in
    cut_gem c.args.text.now _ _ c.split_set.ensures.rest (stops_early _ _ _ stop.ensures c.if-not-stop.true)

pub returns-else-is_empty : goal.returns-else-is_empty
returns-else-is_empty c =
    let stop = c.walk_version-stop in
    cut_gem c.args.text.now _ _ c.split_set.ensures.rest
    (stops_later _ _ _ stop.ensures _ c.split_set-2.ensures.rest c.if-not-stop.false (sym c.is_empty.ensures ∙ c.if-is_empty.false))

pub returns-then-is_empty : goal.returns-then-is_empty
returns-then-is_empty c =
    let stop = c.walk_version-stop in
    let whole = stops_whole _ _ _ stop.ensures _ c.split_set-2.ensures.rest c.if-not-stop.false
    (sym c.is_empty.ensures ∙ c.if-is_empty.true) in (
      ap (λ l. is_version (without_last is_blank l)) (sym c.split_set.ensures.rest) ∙ whole.0,
      whole.1 ∙ ap (without_last is_blank) c.split_set.ensures.rest,
    )
