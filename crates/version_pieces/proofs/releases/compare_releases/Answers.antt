use Rattle.std.proofs.Common.{◌≡◌, ◌∙◌, ◌==◌, ℕ, false, List, Ordering, map, not, refl, sym}
use Rattle.std.specs.{Ordering.ordering_index, declared.cmp.Ordering.TheVariants.Equal}
use Rattle.version_rules.specs.order.Parts.{chunk_cmp, release_cmp}
use Rattle.version_pieces.proofs.lemmas.Pieces.{further_of_more, further_of_none, above, below, compared, left, decided, tied}
use Rattle.version_order.specs.texts.Cuts.{behind_piece, first_piece, further_pieces, is_dot}
use Rattle.version_pieces.specs.Pieces.{chunk_of, chunks_of}
use Rattle.version_pieces.proofs.releases.compare_releases.Goals as goal

abbrev others_cmp : List ℕ → List ℕ → Ordering
others_cmp rest other =
    release_cmp (map chunk_of (further_pieces is_dot rest))
    (map chunk_of (further_pieces is_dot other))

-- where the first chunks are equal, what follows them decides
goes_on : (a b rest other : List ℕ) (o whole : Ordering)
    → record {
      order : o ≡ chunk_cmp (chunk_of (first_piece a)) (chunk_of (first_piece b));
      rest : o ≡ Equal → rest ≡ behind_piece a;
      other_rest : o ≡ Equal → other ≡ behind_piece b;
    }
    → false ≡ not (ordering_index o == 1) → release_cmp (chunks_of a) (chunks_of b) ≡ whole
    → others_cmp rest other ≡ whole
goes_on a b rest other o whole firsts equal is =
    let same = tied o equal in
    sym (left is_dot chunk_of chunk_cmp release_cmp (λ x y xs ys. refl) a b rest other o
    firsts.order same (firsts.rest same) (firsts.other_rest same)) ∙ is

pub returns-then-ne : goal.returns-then-ne
returns-then-ne c =
    let a = c.chunks.a.now in
    let b = c.chunks.b.now in
    let both = compared is_dot chunk_of chunk_cmp release_cmp (λ x y xs ys. refl) a b
    (behind_piece a) (behind_piece b) c.compare_first_chunks-chunks.result.order
    c.compare_first_chunks-chunks.ensures.order refl refl in
    sym (sym c.chunks.invariant ∙ both
    ∙ decided c.compare_first_chunks-chunks.result.order _ (sym c.if-ne.true ∙ c.ne.ensures))

pub returns-in-None-None : goal.returns-in-None-None
returns-in-None-None c =
    let first = further_of_none is_dot _ c.in-None-None.ensures.none in
    let second = further_of_none is_dot _ c.in-None-None.ensures'.none in
    (λ i. release_cmp (map chunk_of (sym first i)) (map chunk_of (sym second i)))
    ∙ goes_on c.chunks.a.now c.chunks.b.now _ _ _ _ c.compare_first_chunks-chunks.ensures
    (sym c.if-ne.false ∙ c.ne.ensures) c.chunks.invariant

pub returns-in-None-Some : goal.returns-in-None-Some
returns-in-None-Some c =
    sym (below is_dot chunk_of chunk_cmp _ _ _ c.in-None-Some.ensures.none
    c.in-None-Some.ensures'.some)
    ∙ goes_on c.chunks.a.now c.chunks.b.now _ _ _ _ c.compare_first_chunks-chunks.ensures
    (sym c.if-ne.false ∙ c.ne.ensures) c.chunks.invariant

pub returns-in-Some-None : goal.returns-in-Some-None
returns-in-Some-None c =
    sym (above is_dot chunk_of chunk_cmp _ _ _ c.in-Some-None.ensures.some
    c.in-Some-None.ensures'.none)
    ∙ goes_on c.chunks.a.now c.chunks.b.now _ _ _ _ c.compare_first_chunks-chunks.ensures
    (sym c.if-ne.false ∙ c.ne.ensures) c.chunks.invariant

pub chunks-preserved : goal.chunks-preserved
chunks-preserved c =
    let first = further_of_more is_dot _ _ c.in-Some-Some.ensures.some in
    let second = further_of_more is_dot _ _ c.in-Some-Some.ensures'.some in
    (λ i. release_cmp (map chunk_of (sym first i)) (map chunk_of (sym second i)))
    ∙ goes_on c.chunks.a.now c.chunks.b.now _ _ _ _ c.compare_first_chunks-chunks.ensures
    (sym c.if-ne.false ∙ c.ne.ensures) c.chunks.invariant
