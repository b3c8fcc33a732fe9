use Rattle.std.proofs.Common.{ℕ, List, Some, ap, arith, length}
use Rattle.std.proofs.lemmas.List.{length-map}
use Rattle.version_commands.specs.Lists.{lines_of_list, rows_of, named_in}
use Rattle.version_commands.proofs.lemmas.{Files.numbered-length, Files.numbered-texts, Hints.rows-left}
use Rattle.version_lines.specs.{Inputs.plain_line, Inputs.PlainLine, Lines.lines_of}
use Rattle.version_commands.proofs.lists.repeated.Goals as goal

pub returns : goal.returns
returns c =
    let lists = c.args.lists.now in
    let text = c.args.text.now in
    let lines = lines_of lists.end text in
    let file = Some c.args.file.now in
    omega (
      arith,
      rows-left lists (lines_of_list lists c.args.file.now text),
      ap (λ (l : List (List ℕ)). length (named_in lists l)) (numbered-texts file 0 lines),
      numbered-length file 0 lines,
      ap (λ (l : List PlainLine). length l) c.requires.bad,
      length-map c.args.bad.now plain_line,
      c.count.ensures (rows_of lists text) c.requires.names,
      c.count_lines.ensures,
      c.saturating_sub.ensures,
      c.saturating_sub-2.ensures,
    )
