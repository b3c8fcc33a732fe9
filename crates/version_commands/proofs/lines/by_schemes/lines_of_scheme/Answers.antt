use Rattle.std.proofs.Common.{◌≡◌, ◌<◌, List, [], Some, None, true, length, map, get_or, refl, rules, sym, ap, ◌∙◌, arith, Bor, ℕ}
use Rattle.std.proofs.lemmas.List.{get_or-map, length-map}
use Rattle.std.specs.Option.{option_map}
use Rattle.version_commands.specs.lines.Arranged.{version_as}
use Rattle.version_commands.proofs.lemmas.Ordered.{as-read, line-added, line-left}
use Rattle.version_commands.proofs.lines.by_schemes.lines_of_scheme.Goals.{in-Some+in_ok-add, in_default}
use Rattle.version_lines.specs.Entry.{lines_in}
use Rattle.version_schemes.specs.any.AnyVersion.{plain_any}
use Rattle.version_commands.proofs.lines.by_schemes.lines_of_scheme.Goals as goal

pub loop-line-preserved : goal.loop-line-preserved
loop-line-preserved c =
    let (read, by, so_far) = c.loop-line.invariant in
    let versions = version_as c.args.by.place c.args.column c.args.by.place.spelling.scheme in
    let i = c.loop-line.line-index in
    let d : Bor (List ℕ) = record { ref_ptr = (0, 0); now = [] } in
    let line = (get_or c.args.lines.now i d).now in
    let lines = map (λ (l : Bor (List ℕ)). l.now) c.args.lines.now in
    let inside : i < length c.args.lines.now = search rules in
    let within : i < length lines = omega (arith, inside, length-map c.args.lines.now (λ (l : Bor (List ℕ)). l.now)) in
    let same = sym (get_or-map (λ (l : Bor (List ℕ)). l.now) c.args.lines.now i d [] inside) in
    elim c.match-version_as.branch [
      | in-Some+in_ok-add w ↦
          let some : versions line ≡ Some (plain_any w.in-Some.version) =
          sym c.version_as.ensures ∙ ap (option_map plain_any) w.in-Some.is in
          rw w.of_scheme-is (
            w.add.ensures.read,
            w.add.ensures.by ∙ by,
            line-added versions (λ v. true) lines i line within same (lines_in c.loop-line.of_scheme) _ _ so_far
                (plain_any w.in-Some.version) some refl w.in_ok-add.ensures.lines,
          )
      | in_default w ↦
          let none : versions line ≡ None = sym c.version_as.ensures ∙ ap (option_map plain_any) w.in_default.is in
          rw w.of_scheme-is (
            read,
            by,
            line-left versions (λ v. true) lines i line within same (lines_in c.loop-line.of_scheme) [] _ so_far none,
          )
    ]

pub add-requires-clause-version : goal.add-requires-clause-version
add-requires-clause-version c =
    let (read, by, so_far) = c.loop-line.invariant in
    let place = c.args.by.place in
    let line = (get_or c.args.lines.now c.loop-line.line-index (record { ref_ptr = (0, 0); now = [] })).now in
    let some : version_as place c.args.column place.spelling.scheme line ≡ Some (plain_any c.in-Some.version) =
    sym c.version_as.ensures ∙ ap (option_map plain_any) c.in-Some.is in
    rw by (as-read place c.args.column place.spelling.scheme line _ some)
