use Rattle.std.proofs.Common.{◌≡◌, ◌≤◌, refl, rules}
use Rattle.version_lines.proofs.lemmas.KeyedLines.{short-tie}
use Rattle.version_lines.specs.Entry.{key_length}
use Rattle.version_lines.proofs.sort.entry.Entry.is_short_tie.Goals as goal

pub returns : goal.returns
returns c = λ yes reads.
    let a = c.args.self.now in
    let b = c.args.other.now in
    let alike : a.length ≡ b.length = search rules in
    let short : key_length a ≤ 16 = search rules in
    short-tie c.args.keys.now a b reads alike (c.if-not-is_strict.ensures refl) short
    (c.if-not-has_sixteen.ensures refl) (c.has_sixteen-2.ensures yes)
