use Rattle.std.proofs.Common.{◌≡◌, ◌+◌, ◌-◌, ◌≤◌, ◌&&◌, length}
use Rattle.std.specs.{Char.is_ascii_alphanumeric, List.list_all}
use Rattle.version_order.specs.texts.Front.{is_digits, is_run}
use Rattle.version_texts.specs.Scan.{is_chunk, section_end, section_pieces}
use Rattle.version_texts.proofs.scan.scan_section.Given as goal

-- the runs so far, and the pieces from the place on, are the pieces
abbrev pub invariant-parts : goal.invariant-parts
invariant-parts l = record {
  end : section_end l.text l.start ≡ section_end l.text l.section.end;
  count : length (section_pieces l.text l.start)
      ≡ l.section.dots + length (section_pieces l.text l.section.end);
  digits : list_all is_digits (section_pieces l.text l.start)
      ≡ (l.section.digits && list_all is_digits (section_pieces l.text l.section.end));
  chunks : list_all (is_chunk is_ascii_alphanumeric) (section_pieces l.text l.start)
      ≡ (l.section.chunks && list_all (is_chunk is_ascii_alphanumeric)
      (section_pieces l.text l.section.end));
  runs : list_all (is_run is_ascii_alphanumeric) (section_pieces l.text l.start)
      ≡ list_all (is_run is_ascii_alphanumeric) (section_pieces l.text l.section.end);
  counted : l.section.dots ≤ l.section.end;
  within : l.section.end ≤ length l.text;
}

abbrev pub decreases-parts : goal.decreases-parts
decreases-parts l = length l.text - l.section.end
