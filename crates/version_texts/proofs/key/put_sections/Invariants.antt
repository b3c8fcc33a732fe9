use Rattle.std.proofs.Common.{◌≡◌, length, true}
use Rattle.std.specs.List.{list_all}
use Rattle.version_order.specs.keys.Codes.{list_bytes}
use Rattle.version_rules.specs.key.Key.{section_bytes}
use Rattle.version_texts.specs.{Key.sections_of, Scan.is_tail_byte, declared.scan.shape.TailKind.TheVariants.Sections}
use Rattle.version_order.proofs.lemmas.Sinks.{Owes}
use Rattle.version_texts.proofs.key.put_sections.Given as goal

-- the bytes of the sections that are left are to be written
abbrev pub invariant-sections : goal.invariant-sections
invariant-sections g l =
    Owes g.S.Sink.takes g.S.Sink.fits l.fn.sink (list_bytes section_bytes (sections_of l.fn.text))
    l.sink (list_bytes section_bytes (sections_of l.left))
    × (list_all (is_tail_byte Sections) l.left ≡ true)

abbrev pub decreases-sections : goal.decreases-sections
decreases-sections g l = length l.left
