use Rattle.std.proofs.Common.{◌≡◌, ◌∙◌, ℕ, List, ap, drop, refl, sym, arith}
use Rattle.std.specs.{List.before_first, List.prefix_len, List.take_while, Option.option_cmp, Ordering.ordering_then}
use Rattle.version_order.proofs.lemmas.Front.{begins-drop}
use Rattle.version_order.specs.{keys.Lists.bytes_cmp, texts.Cuts.from_first, texts.Front.number_front}
use Rattle.version_rules.specs.key.PartKey.{numbered_cmp, split_cmp, split_of}
use Rattle.version_pieces.specs.Pieces.{delimits, in_run}
use Rattle.version_pieces.specs.declared.runs.Delimiters.{Delimiters}
use Rattle.version_pieces.specs.declared.runs.Run.TheVariants.{Word}
use Rattle.version_pieces.proofs.lemmas.Pieces.{decides, leaves, tied, run_is_word}
use Rattle.version_texts.proofs.order.part.compare_words.Goals as goal

abbrev behind_word : Delimiters → List ℕ → List ℕ
behind_word ends text = drop (prefix_len (in_run (Word ends)) text) text

-- two words compare by the bytes before their first digits, and then by what follows these
by_words : (ends : Delimiters) (a b : List ℕ)
    → split_cmp (split_of (before_first (delimits ends) a)) (split_of (before_first (delimits ends) b))
    ≡ ordering_then
    (bytes_cmp (take_while (in_run (Word ends)) a) (take_while (in_run (Word ends)) b))
    (option_cmp numbered_cmp (number_front (before_first (delimits ends) (behind_word ends a)))
    (number_front (before_first (delimits ends) (behind_word ends b))))
by_words ends a b =
    let first = run_is_word (delimits ends) a in
    let second = run_is_word (delimits ends) b in
    rw (first.0, first.1, second.0, second.1) refl

pub returns-then-ne-clause-order : goal.returns-then-ne-clause-order
returns-then-ne-clause-order c = grind (arith, decides, by_words)

pub compare_numbered-requires : goal.compare_numbered-requires
compare_numbered-requires c = grind (arith, tied, begins-drop)

pub returns : goal.returns
returns c =
    let ends = c.args.delimiters in
    let same = tied c.compare_runs-words.result.order (sym c.if-ne.false ∙ c.ne.ensures) in
    let rest = c.compare_runs-words.ensures.rest same in
    let other_rest = c.compare_runs-words.ensures.other_rest same in
    record {
      order = c.compare_numbered.ensures.order
          ∙ (λ i. option_cmp numbered_cmp (number_front (before_first (delimits ends) (rest i)))
          (number_front (before_first (delimits ends) (other_rest i)))) ∙ leaves
          c.compare_runs-words.result.order _ _ _ (c.compare_runs-words.ensures.order)
          (by_words ends c.args.a.now c.args.b.now) same;
      rest = λ e. c.compare_numbered.ensures.rest e ∙ ap (from_first (delimits c.args.delimiters))
          (c.compare_runs-words.ensures.rest same)
          ∙ (run_is_word (delimits c.args.delimiters) c.args.a.now).2;
      other_rest = λ e. c.compare_numbered.ensures.other_rest e ∙ ap
          (from_first (delimits c.args.delimiters)) (c.compare_runs-words.ensures.other_rest same)
          ∙ (run_is_word (delimits c.args.delimiters) c.args.b.now).2;
    }
