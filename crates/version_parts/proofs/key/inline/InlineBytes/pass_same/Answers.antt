use Rattle.std.proofs.Common.{rules, ◌≡◌, take}
use Rattle.version_parts.proofs.lemmas.Compare.{past_left}
use Rattle.version_parts.proofs.key.inline.InlineBytes.pass_same.Goals as goal

pub returns-then-eq : goal.returns-then-eq
returns-then-eq c =
    let n = c.min-count.result in
    let same : take n c.as_slice-a.result.now ≡ take n c.as_slice-b.result.now = search rules in
    rw (← c.self.view_is, ← c.other.view_is)
    (past_left n c.self.inside.start c.other.inside.start c.self.inside.bytes
    c.other.inside.bytes
    (rw (
      c.as_slice-a.ensures.value,
      c.as_slice-b.ensures.value,
      ← c.self.view_is,
      ← c.other.view_is,
    ) at same))
