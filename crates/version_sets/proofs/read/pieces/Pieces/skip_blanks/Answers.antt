use Rattle.std.proofs.Common.{◌≡◌, ◌∙◌, ◌+◌, ap, arith, length}
use Rattle.std.proofs.lemmas.{List.length-drop, List.Folds.length-prefix_len, List.Sums.prefix_len-le-length}
use Rattle.std.specs.List.{prefix_len}
use Rattle.version_order.proofs.lemmas.Front.{begins-drop}
use Rattle.version_order.specs.texts.Front.{begins}
use Rattle.version_sets.specs.Pieces.{is_blank, pieces}
use Rattle.version_sets.proofs.lemmas.Pieces.{past_blanks}
use Rattle.version_sets.proofs.read.pieces.Pieces.skip_blanks.Goals as goal

pub returns : goal.returns
returns c =
    let before = c.args.self.now in
    let text = before.left.now in
    let run = ap length c.split_set.ensures.run ∙ length-prefix_len is_blank text in
    let rest = c.split_set.ensures.rest in
    let size : length c.split_set.result.1.now + length c.split_set.result.0.now ≡ length text =
    omega (arith, ap length rest, length-drop (prefix_len is_blank text) text, run, prefix_len-le-length is_blank text) in
    record {
      same = (λ i. pieces (before.place + run i) (rest i)) ∙ past_blanks before.place text;
      end = omega (arith, size);
      other = ap (begins is_blank) rest ∙ begins-drop is_blank text;
      nearer = omega (arith, size);
    }
