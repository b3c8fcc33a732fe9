use Rattle.std.proofs.Common.{◌-◌, map, vec_len}
use denote.Text.{Utf8}
use denote.Shadow.{shadow}
use Rattle.version_parts.proofs.lemmas.Scans.{Built}
use Rattle.version_parts.proofs.scan.Dotted.build.Given as goal

-- the elements built so far, and as many of those left as are still needed, are the first count
-- elements
abbrev pub invariant-loop-text : goal.invariant-loop-text
invariant-loop-text g l = record {
  text : shadow (Utf8 l.text);
  built : Built g.E.Element.front g.met.E.Element.consumes l.fn.self.text.now l.count
      (map g.E.Element.plain l.items.items) l.text;
}

abbrev pub decreases-loop-text : goal.decreases-loop-text
decreases-loop-text g l = l.count - vec_len l.items
