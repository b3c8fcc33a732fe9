use Rattle.std.proofs.Common.{◌<◌, List, [], length, map, get_or, rules, sym, ap, ◌∙◌, arith, Bor, ℕ, drop, ◌+◌}
use Rattle.std.proofs.lemmas.List.{get_or-map, length-map}
use Rattle.version_commands.specs.lines.Arranged.{schemes_after}
use Rattle.version_commands.proofs.lemmas.Ordered.{schemes-next}
use Rattle.version_schemes.specs.declared.scheme.Scheme.{Scheme}
use Rattle.version_commands.proofs.lines.by_schemes.schemes_in.Goals as goal

pub loop-line-preserved : goal.loop-line-preserved
loop-line-preserved c =
    let place = c.args.place.now in
    let i = c.loop-line.line-index in
    let d : Bor (List ℕ) = record { ref_ptr = (0, 0); now = [] } in
    let lines = map (λ (l : Bor (List ℕ)). l.now) c.args.lines.now in
    let inside : i < length c.args.lines.now = search rules in
    let within : i < length lines = omega (arith, inside, length-map c.args.lines.now (λ (l : Bor (List ℕ)). l.now)) in
    ap (λ (s : List Scheme). schemes_after place c.args.column s (drop (i + 1) lines)) c.in_ok-add_scheme_of.ensures
    ∙ sym (schemes-next place c.args.column c.loop-line.schemes.items lines i (get_or c.args.lines.now i d).now within
    (sym (get_or-map (λ (l : Bor (List ℕ)). l.now) c.args.lines.now i d [] inside)))
    ∙ c.loop-line.invariant
