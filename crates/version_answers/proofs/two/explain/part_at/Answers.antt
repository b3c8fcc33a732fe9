use Rattle.std.proofs.Common.{◌≡◌, ◌==◌, ◌∙◌, ℕ, List, ap, rules}
use Rattle.std.proofs.lemmas.Iterator.{Consumers.nth_from_yields_List, Splits.YieldsList-from_slice_split}
use Rattle.std.specs.List.{slice_get, slice_split}
use Rattle.version_answers.specs.Two.{parts_text}
use Rattle.version_order.specs.texts.Bytes.{dot}
use Rattle.version_texts.specs.VersioningRef.{plain_versioning_ref}
use Rattle.version_answers.proofs.two.explain.part_at.Goals as goal

pub returns : goal.returns
returns c =
    let parts : c.split_run.result.0.now ≡ parts_text (plain_versioning_ref c.args.version.now) = search rules in
    nth_from_yields_List _ _ c.args.place c.nth.ensures.ran
    (YieldsList-from_slice_split _ (λ (b : ℕ). b == dot) c.split_run.result.0.now c.split.ensures.rest
    c.split.ensures.done c.split.ensures.closure (search rules))
    ∙ ap (λ (text : List ℕ). slice_get (slice_split (λ (b : ℕ). b == dot) text) c.args.place) parts
