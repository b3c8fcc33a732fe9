use Rattle.std.proofs.Common.{◌≡◌, drop, length}
use Rattle.std.specs.List.{prefix_len, take_while}
use Rattle.version_order.specs.{keys.Codes.items_bytes, texts.Bytes.is_section_byte}
use Rattle.version_rules.specs.key.PartKey.{part_bytes}
use Rattle.version_texts.specs.Key.{parts_of}
use Rattle.version_order.proofs.lemmas.Sinks.{Owes}
use Rattle.version_texts.proofs.key.put_parts.Given as goal

-- the bytes of the parts that are left are to be written
abbrev pub invariant-parts : goal.invariant-parts
invariant-parts g l =
    Owes g.S.Sink.takes g.S.Sink.fits l.fn.sink
    (items_bytes part_bytes (parts_of (take_while is_section_byte l.fn.text)))
    l.sink (items_bytes part_bytes (parts_of (take_while is_section_byte l.left)))
    × (drop (prefix_len is_section_byte l.left) l.left
    ≡ drop (prefix_len is_section_byte l.fn.text) l.fn.text)

abbrev pub decreases-parts : goal.decreases-parts
decreases-parts g l = length l.left
