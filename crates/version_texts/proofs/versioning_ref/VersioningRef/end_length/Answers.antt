use Rattle.std.proofs.Common.{◌∙◌, ◌+◌, [], ℕ, List, ap, append-nil, length, zero-add}
use Rattle.version_rules.specs.{key.Key.key_of, requirement.Range.end_bytes}
use Rattle.version_order.specs.keys.Sinks.{saturated}
use Rattle.version_texts.specs.VersioningRef.{plain_versioning_ref}
use Rattle.version_texts.proofs.versioning_ref.VersioningRef.end_length.Goals as goal

pub returns : goal.returns
returns c =
    let bytes = end_bytes c.args.end (key_of (plain_versioning_ref c.args.self.now)) in
    c.length.ensures ∙ c.put_end.ensures []
    ∙ ap (λ (l : List ℕ). saturated (0 + length l)) (append-nil bytes)
    ∙ ap saturated (zero-add (length bytes))
