-- Which pre-releases of a word come after a version, and the least of them.
use Rattle.std.proofs.Common.{◌≡◌, ◌∙◌, ◌<◌, ◌≤◌, ◌^◌, ◌⊎◌, ℕ, suc, List, [], ◌∷◌, ◌++◌, Option, Some, None, refl, sym, ap, arith, inl, inr}
use Rattle.std.specs.{Cmp.nat_cmp_is, Option.option_map_or, Ordering.nat_cmp, Ordering.ordering_then, declared.cmp.Ordering.TheVariants.Less, declared.cmp.Ordering.TheVariants.Equal, declared.cmp.Ordering.TheVariants.Greater}
use Rattle.version_order.proofs.lemmas.NumberBytes.{above, below}
use Rattle.version_rules.specs.key.Key.{key_of, precedence, strict_body, Tail, PreReleased, Bare, tail_cmp}
use Rattle.version_rules.specs.grammar.{Chunk.PlainChunk, Chunk.Numeric, SemVer.PlainSemVer, Versioning.PlainVersioning, Versioning.Ideal, Versioning.General, Versioning.Complex}
use Rattle.version_rules.specs.key.PartKey.{list_cmp}
use Rattle.version_tasks.specs.NextPre.{AreNamed, IsNextPre, IsOfPreForm, IsPreRelease, NoNextPre}
use Rattle.version_tasks.specs.NextPreText.{IsPlace, NonePass, Passes, own_chunks, word_chunks}
use Rattle.version_tasks.specs.Next.{IsAfter}
use Rattle.version_tasks.proofs.lemmas.{Next.Order.both_raised, Next.Order.same, Next.Order.three_ways, NextPre.Number.numbers_cmp, NextPre.Number.one_named}

abbrev tail_of : Option (List PlainChunk) → Tail
tail_of pre_rel = option_map_or PreReleased pre_rel Bare

-- the pre-release of a word and a number
abbrev numbered : List ℕ → ℕ → Option (List PlainChunk)
numbered word n = Some (word_chunks word ++ Numeric n ∷ [])

passes_after : (word : List ℕ) (own : Option (List ℕ)) (n : ℕ) → Passes word own n
    → tail_cmp (tail_of (numbered word n)) (tail_of (own_chunks own)) ≡ Greater
passes_after word None n passes = absurd passes
passes_after word (Some own) n passes = passes

after_passes : (word : List ℕ) (own : Option (List ℕ)) (n : ℕ)
    → tail_cmp (tail_of (numbered word n)) (tail_of (own_chunks own)) ≡ Greater
    → Passes word own n
after_passes word None n after = cc after
after_passes word (Some own) n after = after

-- two strict versions with the same major and minor numbers
patches_cmp : (v w : PlainSemVer) → w.major ≡ v.major → w.minor ≡ v.minor
    → precedence (key_of (Ideal w)) (key_of (Ideal v))
    ≡ ordering_then (nat_cmp w.patch v.patch) (tail_cmp (tail_of w.pre_rel) (tail_of v.pre_rel))
patches_cmp v w major minor =
    let bodies : list_cmp (strict_body w.major w.minor w.patch)
    (strict_body v.major v.minor v.patch)
    ≡ nat_cmp w.patch v.patch =
    (λ i. list_cmp (strict_body (major i) (minor i) w.patch)
    (strict_body v.major v.minor v.patch))
    ∙ both_raised 2 (v.major ∷ v.minor ∷ 0 ∷ []) w.patch v.patch (omega arith) in
    ap (λ o. ordering_then o (tail_cmp (tail_of w.pre_rel) (tail_of v.pre_rel))) bodies

tied : (m n : ℕ) → m ≡ n → nat_cmp m n ≡ Equal
tied m n e = sym (nat_cmp_is m n Equal e)

not_less : (j k : ℕ) → k ≤ j → ¬ (nat_cmp j k ≡ Less)
not_less j k h less = elim (three_ways j k) [
  | inl before ↦ absurd (omega (arith, h, before))
  | inr (inl is) ↦ cc (tied j k is, less)
  | inr (inr after) ↦ cc (above j k after, less)
]

-- a later patch, or the same one with a number that is not less, is not before
not_before : (p q j k : ℕ) → (q < p) ⊎ ((p ≡ q) × (k ≤ j))
    → ¬ (ordering_then (nat_cmp p q) (nat_cmp j k) ≡ Less)
not_before p q j k (inl more) less = cc (rw (above p q more) at less)
not_before p q j k (inr is) less = not_less j k is.1 (rw (tied p q is.0) at less)

-- two versions of the form, by their patches and their numbers
same_pre : (v : PlainSemVer) (given : Option (List ℕ)) (u w : PlainSemVer)
    → (f : IsPreRelease given v u) → (g : IsPreRelease given v w)
    → w.pre_rel ≡ Some (f.chunks ++ Numeric g.number ∷ [])
same_pre v given u w f g =
    g.pre_rel_is
    ∙ ap (λ (l : List PlainChunk). Some (l ++ Numeric g.number ∷ []))
    (one_named given v.pre_rel g.chunks f.chunks g.named f.named)

forms_order : (v : PlainSemVer) (given : Option (List ℕ)) (u w : PlainSemVer)
    → (f : IsPreRelease given v u) → (g : IsPreRelease given v w)
    → precedence (key_of (Ideal u)) (key_of (Ideal w))
    ≡ ordering_then (nat_cmp u.patch w.patch) (nat_cmp f.number g.number)
forms_order v given u w f g =
    patches_cmp w u (f.major_is ∙ sym g.major_is) (f.minor_is ∙ sym g.minor_is)
    ∙ (λ i. ordering_then (nat_cmp u.patch w.patch)
    (tail_cmp (tail_of (f.pre_rel_is i)) (tail_of (same_pre v given u w f g i))))
    ∙ ap (ordering_then (nat_cmp u.patch w.patch)) (numbers_cmp f.chunks f.number g.number)

module _ (v : PlainSemVer) (given : Option (List ℕ)) (word : List ℕ) (own : Option (List ℕ))
    (own_is : own_chunks own ≡ v.pre_rel)
    (named : AreNamed given v.pre_rel (word_chunks word)) where
  -- the pre-release of a version of the form
  form_pre : (u : PlainSemVer) → (f : IsPreRelease given v u) → u.pre_rel ≡ numbered word f.number
  form_pre u f =
      f.pre_rel_is
      ∙ ap (λ (l : List PlainChunk). Some (l ++ Numeric f.number ∷ []))
      (one_named given v.pre_rel f.chunks (word_chunks word) f.named named)

  form_order : (u : PlainSemVer) → (f : IsPreRelease given v u)
      → precedence (key_of (Ideal u)) (key_of (Ideal v))
      ≡ ordering_then (nat_cmp u.patch v.patch)
      (tail_cmp (tail_of (numbered word f.number)) (tail_of (own_chunks own)))
  form_order u f =
      patches_cmp v u f.major_is f.minor_is
      ∙ (λ i. ordering_then (nat_cmp u.patch v.patch)
      (tail_cmp (tail_of (form_pre u f i)) (tail_of (sym own_is i))))

  -- what comes after has a later patch, or a number that passes
  comes_after : (u : PlainSemVer) → (f : IsPreRelease given v u) → IsAfter (Ideal u) (Ideal v)
      → (v.patch < u.patch) ⊎ ((u.patch ≡ v.patch) × Passes word own f.number)
  comes_after u f after =
      let order = sym (form_order u f) ∙ after in
      elim (three_ways u.patch v.patch) [
        | inl less ↦ cc (rw (below u.patch v.patch less) at order)
        | inr (inl is) ↦
            inr (is, after_passes word own f.number (rw (tied u.patch v.patch is) at order))
        | inr (inr more) ↦ inl more
      ]

  place_after : (w : PlainSemVer) → (f : IsPreRelease given v w)
      → IsPlace word own v.patch (w.patch, f.number) → IsAfter (Ideal w) (Ideal v)
  place_after w f (inl here) =
      form_order w f
      ∙ ap (λ o. ordering_then o (tail_cmp (tail_of (numbered word f.number))
      (tail_of (own_chunks own)))) (tied w.patch v.patch here.0)
      ∙ passes_after word own f.number here.1.passes
  place_after w f (inr next) =
      form_order w f
      ∙ ap (λ o. ordering_then o (tail_cmp (tail_of (numbered word f.number))
      (tail_of (own_chunks own)))) (above w.patch v.patch (omega (arith, next.0)))

  is_least : (w : PlainSemVer) → (f : IsPreRelease given v w)
      → IsPlace word own v.patch (w.patch, f.number)
      → (u : PlainSemVer) → (g : IsPreRelease given v u) → IsAfter (Ideal u) (Ideal v)
      → (w.patch < u.patch) ⊎ ((u.patch ≡ w.patch) × (f.number ≤ g.number))
  is_least w f place u g after = by place (comes_after u g after)
    where
      by : IsPlace word own v.patch (w.patch, f.number)
          → (v.patch < u.patch) ⊎ ((u.patch ≡ v.patch) × Passes word own g.number)
          → (w.patch < u.patch) ⊎ ((u.patch ≡ w.patch) × (f.number ≤ g.number))
      by (inl here) (inl more) = inl (omega (arith, here.0, more))
      by (inl here) (inr there) =
          inr (there.0 ∙ sym here.0, here.1.least g.number g.from_one there.1)
      by (inr next) (inl more) = elim (three_ways u.patch w.patch) [
        | inl less ↦ absurd (omega (arith, less, more, next.0))
        | inr (inl is) ↦ inr (is, omega (arith, next.1, g.from_one))
        | inr (inr later) ↦ inl later
      ]
      by (inr next) (inr there) = absurd (next.2 g.number g.number_fits there.1)

  -- the version of the form at that place is next
  pub is_next : (w : PlainSemVer) → (f : IsPreRelease given v w)
      → IsPlace word own v.patch (w.patch, f.number) → IsNextPre (Ideal v) given (Ideal w)
  is_next w f place = record {
    form = f;
    after = place_after w f place;
    least = least;
  }
    where
      least : (u : PlainVersioning) → IsOfPreForm (Ideal v) given u → IsAfter u (Ideal v)
          → ¬ (precedence (key_of u) (key_of (Ideal w)) ≡ Less)
      least (Ideal u) g after before =
          not_before u.patch w.patch g.number f.number (is_least w f place u g after)
          (sym (forms_order v given u w g f) ∙ before)
      least (General u) g after before = absurd g
      least (Complex u) g after before = absurd g

  -- past the largest patch there is none
  pub none_past : 2 ^ 32 ≤ suc v.patch → NonePass word own → NoNextPre (Ideal v) given
  none_past large none (Ideal u) f after = elim (comes_after u f after) [
    | inl more ↦ let fits = f.patch_fits in absurd (omega (arith, large, more, fits))
    | inr there ↦ none f.number f.number_fits there.1
  ]
  none_past large none (General u) f after = absurd f
  none_past large none (Complex u) f after = absurd f

-- nor is there one without a word
pub none_unnamed : (v : PlainSemVer) (given : Option (List ℕ))
    → ((chunks : List PlainChunk) → ¬ (AreNamed given v.pre_rel chunks)) → NoNextPre (Ideal v) given
none_unnamed v given none (Ideal u) f after = none f.chunks f.named
none_unnamed v given none (General u) f after = absurd f
none_unnamed v given none (Complex u) f after = absurd f

-- ---- at most one version comes next

same_parts : (p q j k : ℕ) → ¬ (ordering_then (nat_cmp p q) (nat_cmp j k) ≡ Less)
    → ¬ (ordering_then (nat_cmp q p) (nat_cmp k j) ≡ Less) → (p ≡ q) × (j ≡ k)
same_parts p q j k first second = elim (three_ways p q) [
  | inl less ↦ absurd (first (rw (below p q less) refl))
  | inr (inr more) ↦ absurd (second (rw (below q p more) refl))
  | inr (inl same) ↦ elim (three_ways j k) [
    | inl less ↦ absurd (first (rw (tied p q same) (below j k less)))
    | inr (inr more) ↦ absurd (second (rw (tied q p (sym same)) (below k j more)))
    | inr (inl alike) ↦ (same, alike)
  ]
]

one_of_form : (v : PlainSemVer) (given : Option (List ℕ)) (w u : PlainSemVer)
    → IsNextPre (Ideal v) given (Ideal w) → IsNextPre (Ideal v) given (Ideal u) → w ≡ u
one_of_form v given w u first second =
    let f = first.form in
    let g = second.form in
    let both =
    same_parts w.patch u.patch f.number g.number
    (λ less. second.least (Ideal w) f first.after (forms_order v given w u f g ∙ less))
    (λ less. first.least (Ideal u) g second.after (forms_order v given u w g f ∙ less)) in
    let pre_rels : w.pre_rel ≡ u.pre_rel =
    f.pre_rel_is ∙ ap (λ (n : ℕ). Some (f.chunks ++ Numeric n ∷ [])) both.1
    ∙ sym (same_pre v given w u f g) in
    λ i. record {
      major = (f.major_is ∙ sym g.major_is) i;
      minor = (f.minor_is ∙ sym g.minor_is) i;
      patch = both.0 i;
      pre_rel = pre_rels i;
      meta = (f.bare ∙ sym g.bare) i;
    }

pub one_next_pre : (v w u : PlainVersioning) (given : Option (List ℕ)) → IsNextPre v given w
    → IsNextPre v given u → w ≡ u
one_next_pre (Ideal v) (Ideal w) (Ideal u) given first second =
    ap Ideal (one_of_form v given w u first second)
one_next_pre (Ideal v) (Ideal w) (General u) given first second = absurd second.form
one_next_pre (Ideal v) (Ideal w) (Complex u) given first second = absurd second.form
one_next_pre (Ideal v) (General w) u given first second = absurd first.form
one_next_pre (Ideal v) (Complex w) u given first second = absurd first.form
one_next_pre (General v) w u given first second = absurd first.form
one_next_pre (Complex v) w u given first second = absurd first.form
