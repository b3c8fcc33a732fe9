use Rattle.std.proofs.Common.{◌≡◌, length}
use Rattle.version_texts.specs.VersioningRef.{section_in}
use Rattle.version_texts.proofs.versioning_ref.numbers.section.Given as goal

-- a colon follows each section so far
abbrev pub invariant-sections : goal.invariant-sections
invariant-sections l = section_in l.left ≡ section_in l.fn.text

abbrev pub decreases-sections : goal.decreases-sections
decreases-sections l = length l.left
