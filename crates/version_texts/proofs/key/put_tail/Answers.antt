use Rattle.std.proofs.Common.{◌≡◌, ◌⊎◌, ◌∙◌, ℕ, List, ◌∷◌, ap, inl, inr, refl, sym, [], arith}
use Rattle.version_rules.specs.{key.Key.held_bytes, key.Key.tail_bytes, key.Key.tail_rank, order.Parts.release_bytes}
use Rattle.version_texts.specs.{Key.tail_of, declared.scan.shape.TailKind.TailKind}
use Rattle.version_pieces.specs.Pieces.{chunks_of}
use Rattle.version_texts.specs.declared.scan.shape.TailKind.TheVariants.{PreRelease, Release, Sections}
use Rattle.version_texts.proofs.lemmas.Pieces.{sections_held}
use Rattle.version_order.proofs.lemmas.Sinks.{next_fits, owes_all, owes_rest}
use Rattle.version_texts.proofs.key.put_tail.Goals as goal

-- a tail begins with its rank, and what it holds follows
ranked : (kind like : TailKind) (text held : List ℕ) (rank : ℕ) → rank ≡ tail_rank (tail_of kind text)
    → kind ≡ like → held_bytes (tail_of like text) ≡ held
    → tail_bytes (tail_of kind text) ≡ rank ∷ held
ranked kind like text held rank r is whole =
    (λ i. sym r i ∷ held_bytes (tail_of (is i) text)) ∙ ap (λ (l : List ℕ). rank ∷ l) whole

pub put-requires : goal.put-requires
put-requires g c =
    let laws = g.met.S.Sink in
    let held = held_bytes (tail_of c.args.kind c.args.text.now) in
    next_fits (c.rank.result ∷ []) held (owes_all laws.fits_first laws.fits_then laws.takes_both
    (ap (λ n. n ∷ held) (sym (c.rank.ensures c.args.text.now))) c.requires.fits)

pub put_sections-requires-clause-fits : goal.put_sections-requires-clause-fits
put_sections-requires-clause-fits g c = grind (arith, ranked, sections_held, owes_rest, owes_all)

pub returns-in-Sections : goal.returns-in-Sections
returns-in-Sections g c =
    let laws = g.met.S.Sink in
    let text = c.args.text.now in
    let whole = ranked c.args.kind Sections text _ _ (c.rank.ensures text) c.in-Sections.is
    (sections_held text) in
    (owes_rest (c.rank.result ∷ []) _ (owes_all laws.fits_first laws.fits_then laws.takes_both whole
    c.requires.fits) c.put.ensures).ends _ c.put_sections.ensures

-- a release after a rank
released : (kind : TailKind) (text : List ℕ) (rank : ℕ) → rank ≡ tail_rank (tail_of kind text)
    → (kind ≡ PreRelease) ⊎ (kind ≡ Release)
    → tail_bytes (tail_of kind text) ≡ rank ∷ release_bytes (chunks_of text)
released kind text rank r (inl is) = ranked kind PreRelease text _ rank r is refl
released kind text rank r (inr is) = ranked kind Release text _ rank r is refl

pub put_release-requires-clause-fits : goal.put_release-requires-clause-fits
put_release-requires-clause-fits g c = grind (arith, released, owes_rest, owes_all)

pub returns-in-PreRelease : goal.returns-in-PreRelease
returns-in-PreRelease g c =
    let laws = g.met.S.Sink in
    let text = c.args.text.now in
    let whole = released c.args.kind text _ (c.rank.ensures text) c.in-PreRelease.is in
    (owes_rest (c.rank.result ∷ []) _ (owes_all laws.fits_first laws.fits_then laws.takes_both whole
    c.requires.fits) c.put.ensures).ends _ c.put_release.ensures
