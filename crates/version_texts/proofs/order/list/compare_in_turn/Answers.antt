use Rattle.std.proofs.Common.{◌≡◌, ℕ, List, [], ◌∷◌, Ordering, map, ap, refl, false, arith}
use Rattle.std.specs.{List.onto_first, List.slice_split, Ordering.ordering_then, declared.cmp.Ordering.TheVariants.Less, declared.cmp.Ordering.TheVariants.Equal}
use Rattle.version_texts.specs.{Key.lists_of, Key.parts_of}
use Rattle.version_pieces.specs.declared.runs.Delimiters.TheVariants.{Dots}
use Rattle.version_texts.proofs.order.list.compare_in_turn.Goals as goal

one_piece : (text : List ℕ) → slice_split (λ (b : ℕ). false) text ≡ text ∷ []
one_piece [] = refl
one_piece (b ∷ text) = ap (onto_first b) (one_piece text)

one_list : (text : List ℕ) → lists_of Dots text ≡ parts_of text ∷ []
one_list text = ap (map parts_of) (one_piece text)

then_no_more : (o : Ordering) → ordering_then o Equal ≡ o
then_no_more Less = refl
then_no_more o = refl

pub returns : goal.returns
returns c = grind (arith, one_list, then_no_more)
