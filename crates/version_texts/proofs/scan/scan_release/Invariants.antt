use Rattle.std.proofs.Common.{◌≡◌, ◌+◌, ◌-◌, ◌≤◌, drop, length}
use Rattle.std.specs.List.{prefix_len}
use Rattle.version_texts.specs.Scan.{is_not_plus, is_released}
use Rattle.version_texts.proofs.scan.scan_release.Given as goal

-- what follows the place decides
abbrev pub invariant-chunks : goal.invariant-chunks
invariant-chunks l = record {
  end : l.start + prefix_len is_not_plus (drop l.start l.text)
      ≡ l.place + prefix_len is_not_plus (drop l.place l.text);
  same : is_released (drop l.start l.text) ≡ is_released (drop l.place l.text);
  within : l.place ≤ length l.text;
}

abbrev pub decreases-chunks : goal.decreases-chunks
decreases-chunks l = length l.text - l.place
