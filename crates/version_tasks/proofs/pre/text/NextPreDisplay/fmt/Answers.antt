use Rattle.std.proofs.Common.{◌∙◌, List, ℕ, subst, sym}
use Rattle.std.specs.Fmt.{HasWritten, decimal}
use Rattle.version_rules.proofs.lemmas.Grammar.{is_read, same_bytes}
use Rattle.version_tasks.proofs.lemmas.{Next.Text.printed, NextPre.Text.in_one, NextPre.Text.word_utf8}
use Rattle.version_tasks.proofs.pre.text.NextPreDisplay.fmt.Goals as goal

pub unwrap-word-requires : goal.unwrap-word-requires
unwrap-word-requires g c =
    let self = c.args.self.now in
    is_read _ self.word.now c.from_utf8.result
    (word_utf8 self.major self.minor self.patch self.word.now self.number _ self.read)
    c.from_utf8.ensures.cases

pub returns-clause-writes : goal.returns-clause-writes
returns-clause-writes g c = λ plain ok.
    let self = c.args.self.now in
    let word =
    same_bytes _ self.word.now c.from_utf8.result _ c.from_utf8.ensures.cases
    c.unwrap-word.ensures in
    subst (λ (l : List ℕ). HasWritten g.W.Write.write_str_gives c.args.f.now l c.write.new.self)
    (in_one (decimal self.major) (decimal self.minor) (decimal self.patch) self.word.now
    c.dot_after-dot.result.now (decimal self.number) c.unwrap-word.result.now word
    c.dot_after-dot.ensures
    ∙ sym (printed _ _ self.read))
    (c.write.ensures.writes plain ok)
