use Rattle.std.proofs.Common.{◌∷◌, take}
use Rattle.std.specs.{Fmt.HasWritten, Fmt.IsPlainFormatter, List.flat_map}
use Rattle.version_order.specs.texts.Bytes.{dot}
use Rattle.version_parts.proofs.lists.write_dotted.Given as goal

-- the further items so far are written, each after a dot
abbrev pub invariant-loop-item : goal.invariant-loop-item
invariant-loop-item g l = IsPlainFormatter l.initial.f
    → HasWritten g.W.Write.write_str_gives l.initial.f
    (flat_map (λ item. dot ∷ g.T.ListItem.text (g.T.ListItem.plain item))
    (take l.item-index l.others)) l.f
