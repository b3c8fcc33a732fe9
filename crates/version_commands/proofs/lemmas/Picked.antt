-- Lines are picked one by one.
use Rattle.std.proofs.Common.{◌≡◌, ℕ, Bool, true, false, List, [], ◌∷◌, ◌++◌, Option, None, Some, is_some, refl, sym, subst, ap, ◌∙◌, append-nil, append_assoc}
use Rattle.std.proofs.lemmas.{List.map-append, List.Elements.filter-append}
use Rattle.version_commands.specs.lines.Picked.{Versions, bad_lines, is_bad, kept_lines, kept_of, has}
use Rattle.version_lines.specs.Inputs.{texts_of, PlainLine}
use Rattle.version_schemes.specs.any.Order.{PlainAny}

-- the lines before those that are left are picked
pub record IsPicked (versions : Versions) (keeps : PlainAny → Bool) (lines left : List PlainLine)
    (kept : List (List ℕ)) (bad : List PlainLine) : Type 0 where
  pub done : List PlainLine
  pub lines_are : lines ≡ done ++ left
  pub kept_are : kept ≡ kept_of versions keeps done
  pub bad_are : bad ≡ bad_lines versions done

-- one line more
pub picked-more : (versions : Versions) (keeps : PlainAny → Bool) (lines left after : List PlainLine) (line : PlainLine)
    (kept : List (List ℕ)) (bad : List PlainLine) → IsPicked versions keeps lines left kept bad → left ≡ line ∷ after
    → IsPicked versions keeps lines after (kept ++ kept_lines versions keeps (line.text ∷ []))
    (bad ++ bad_lines versions (line ∷ []))
picked-more versions keeps lines left after line kept bad so_far next = record {
  done = so_far.done ++ line ∷ [];
  lines_are = so_far.lines_are ∙ ap (λ (l : List PlainLine). so_far.done ++ l) next
      ∙ sym (append_assoc so_far.done (line ∷ []) after);
  kept_are = ap (λ (l : List (List ℕ)). l ++ kept_lines versions keeps (line.text ∷ [])) so_far.kept_are
      ∙ sym (filter-append (has keeps versions) (texts_of so_far.done) (line.text ∷ []))
      ∙ ap (kept_lines versions keeps) (sym (map-append (λ (l : PlainLine). l.text) so_far.done (line ∷ [])));
  bad_are = ap (λ (l : List PlainLine). l ++ bad_lines versions (line ∷ [])) so_far.bad_are
      ∙ sym (filter-append (λ (l : PlainLine). is_bad versions l.text) so_far.done (line ∷ []));
}

module _ (versions : Versions) (keeps : PlainAny → Bool) (lines left after : List PlainLine) (line : PlainLine)
    (kept : List (List ℕ)) (bad : List PlainLine) (so_far : IsPicked versions keeps lines left kept bad)
    (next : left ≡ line ∷ after) where
  -- one that has no version
  pub picked-bad : is_some (versions line.text) ≡ false
      → IsPicked versions keeps lines after (kept ++ kept_lines versions keeps (line.text ∷ [])) (bad ++ line ∷ [])
  picked-bad none =
      let alone : bad_lines versions (line ∷ []) ≡ line ∷ [] = rw none refl in
      subst (λ (more : List PlainLine). IsPicked versions keeps lines after
      (kept ++ kept_lines versions keeps (line.text ∷ [])) (bad ++ more)) alone
      (picked-more versions keeps lines left after line kept bad so_far next)

  -- one that has, and is kept or not
  pub picked-good : is_some (versions line.text) ≡ true
      → IsPicked versions keeps lines after (kept ++ kept_lines versions keeps (line.text ∷ [])) bad
  picked-good some =
      let none : bad_lines versions (line ∷ []) ≡ [] = rw some refl in
      subst (IsPicked versions keeps lines after (kept ++ kept_lines versions keeps (line.text ∷ [])))
      (ap (λ (more : List PlainLine). bad ++ more) none ∙ append-nil bad)
      (picked-more versions keeps lines left after line kept bad so_far next)

-- where no line is bad, each has a version
kept-first : (versions : Versions) (line : PlainLine) (lines : List PlainLine)
    (v : Option PlainAny) → versions line.text ≡ v
    → bad_lines versions (line ∷ lines) ≡ []
    → (bad_lines versions lines ≡ [] → kept_of versions (λ w. true) lines ≡ texts_of lines)
    → kept_of versions (λ w. true) (line ∷ lines) ≡ texts_of (line ∷ lines)
kept-first versions line lines None is none rest =
    let bad : line ∷ bad_lines versions lines ≡ [] = rw is at none in cc
kept-first versions line lines (Some v) is none rest =
    let others : bad_lines versions lines ≡ [] = rw is at none in
    rw is (ap (λ (l : List (List ℕ)). line.text ∷ l) (rest others))

pub all-kept : (versions : Versions) (lines : List PlainLine) → bad_lines versions lines ≡ []
    → kept_of versions (λ w. true) lines ≡ texts_of lines
all-kept versions [] none = refl
all-kept versions (line ∷ lines) none =
    kept-first versions line lines (versions line.text) refl none (all-kept versions lines)
