use Rattle.std.proofs.Common.{◌≡◌, ◌<◌, ◌++◌, ◌∷◌, ℕ, List, [], length, map, get_or, rules, sym, arith, None}
use Rattle.std.proofs.lemmas.List.{get_or-map, length-map}
use Rattle.version_commands.proofs.lemmas.Ordered.{joined-next, lines_output-next}
use Rattle.version_lines.specs.declared.inputs.Line.{Line}
use Rattle.version_commands.proofs.lines.write.joined_lines.Goals as goal

pub loop-line-preserved : goal.loop-line-preserved
loop-line-preserved c =
    let lines = c.args.lines.now in
    let i = c.loop-line.line-index in
    let text : Line → List ℕ = λ line. line.text.now in
    let d : Line = record { text = record { ref_ptr = (0, 0); now = [] }; file = None; number = 0 } in
    let line = text (get_or lines i d) in
    let inside : i < length lines = search rules in
    let within : i < length (map text lines) =
    omega (arith, inside, length-map lines text) in
    let next = lines_output-next c.args.end (map text lines) i line within
    (sym (get_or-map text lines i d [] inside)) in
    let extended : c.extend_from_slice.new.self.items ≡ c.loop-line.bytes.items ++ line =
    search rules in
    let pushed : c.push.new.self.items
    ≡ c.extend_from_slice.new.self.items ++ c.args.end ∷ [] = search rules in
    joined-next c.args.end c.loop-line.bytes.items _ _ line _ _ _ extended pushed next
    c.loop-line.invariant
