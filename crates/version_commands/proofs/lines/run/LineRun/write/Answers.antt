use Rattle.version_lines.specs.{Inputs.lines_left, declared.column.Column.Column}
use Rattle.version_commands.specs.{Run.Arranges, lines.Ordered.ordered_by, lines.Ordered.versions_by}
use Rattle.std.proofs.Common.{Option, sym, subst}
use Rattle.version_commands.proofs.lines.run.LineRun.write.Goals as goal

pub returns-in-Some : goal.returns-in-Some
returns-in-Some g c =
    let run = c.args.self.now in
    subst (λ (at : Option Column). Arranges {F = g.row.F.Denot} g.F.Files.puts g.F.Files.refuses g.F.Files.alters c.args.files.now
    c.write_by_schemes.new.files (g.W.Write.contents c.args.writer.now) (g.W.Write.contents c.write_by_schemes.new.writer)
    (versions_by run.options.place at) run.options run.input
    (ordered_by at (g.C.Chooses.keeps run.chooser.now) run.options (lines_left run.input.body)) c.write_by_schemes.result) (sym c.in-Some.is)
    c.write_by_schemes.ensures

pub returns-in-None : goal.returns-in-None
returns-in-None g c =
    let run = c.args.self.now in
    subst (λ (at : Option Column). Arranges {F = g.row.F.Denot} g.F.Files.puts g.F.Files.refuses g.F.Files.alters c.args.files.now
    c.write_arranged.new.files (g.W.Write.contents c.args.writer.now) (g.W.Write.contents c.write_arranged.new.writer)
    (versions_by run.options.place at) run.options run.input
    (ordered_by at (g.C.Chooses.keeps run.chooser.now) run.options (lines_left run.input.body)) c.write_arranged.result) (sym c.in-None.is)
    c.write_arranged.ensures
