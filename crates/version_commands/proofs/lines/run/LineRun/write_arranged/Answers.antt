use Rattle.std.proofs.Common.{ℕ, List, rules, sym, subst}
use Rattle.version_commands.specs.{Run.Arranges, lines.Ordered.arranged_in}
use Rattle.version_runs.specs.Place.{reads_of}
use Rattle.version_lines.specs.{Inputs.lines_left, Sort.Reads, Sort.version_in}
use Rattle.version_schemes.specs.declared.scheme.Scheme.TheVariants.{Mixed}
use Rattle.version_commands.proofs.lemmas.{Hints.hints-alike}
use Rattle.version_commands.proofs.lemmas.Ordered.{filter-arranged, lines-alike}
use Rattle.version_commands.proofs.lines.run.LineRun.write_arranged.Goals as goal

pub returns-then-not-reverse : goal.returns-then-not-reverse
returns-then-not-reverse g c =
    let run = c.args.self.now in
    let whole = c.is_whole.ensures (search rules) in
    let lines = arranged_in (reads_of run.options.place) (g.C.Chooses.keeps run.chooser.now) run.options (lines_left run.input.body) in
    let same = lines-alike run.options (g.C.Chooses.keeps run.chooser.now) (lines_left run.input.body) whole (c.keeps_all.ensures (search rules)) in
    let Writes : Reads → List (List ℕ) → Type 0 = λ at l. Arranges {F = g.row.F.Denot} g.F.Files.puts g.F.Files.refuses
    g.F.Files.alters c.args.files.now c.write_keyed.new.files (g.W.Write.contents c.args.writer.now)
    (g.W.Write.contents c.write_keyed.new.writer) (version_in at) run.options run.input l c.write_keyed.result in
    subst (λ (at : Reads). Writes at lines) (sym whole)
    (subst (Writes (record { scheme = Mixed; text_of = λ line. line })) same c.write_keyed.ensures)

pub returns-in-Filter : goal.returns-in-Filter
returns-in-Filter g c =
    let run = c.args.self.now in
    subst (λ (l : List (List ℕ)). Arranges {F = g.row.F.Denot} g.F.Files.puts g.F.Files.refuses g.F.Files.alters c.args.files.now
    c.write_kept.new.files (g.W.Write.contents c.args.writer.now) (g.W.Write.contents c.write_kept.new.writer)
    (version_in (reads_of run.options.place)) run.options run.input l c.write_kept.result)
    (filter-arranged (reads_of run.options.place) (g.C.Chooses.keeps run.chooser.now) run.options (lines_left run.input.body)
    c.in-Filter.set c.in-Filter.inverted c.in-Filter.is)
    c.write_kept.ensures

pub write_keyed-requires : goal.write_keyed-requires
write_keyed-requires g c =
    let run = c.args.self.now in
    record {
      reversed = search rules;
      hints = λ hint so. c.requires.hints hint (hints-alike run.options (g.C.Chooses.keeps run.chooser.now) (lines_left run.input.body)
          (c.is_whole.ensures (search rules)) (c.keeps_all.ensures (search rules)) hint so);
    }

pub write_kept-requires : goal.write_kept-requires
write_kept-requires g c = record { hints = λ hint so. c.requires.hints hint (rw c.in-Filter.is so) }
