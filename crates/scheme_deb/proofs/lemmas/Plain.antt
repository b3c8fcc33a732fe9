-- Versions of Debian with at most one hyphen, behind an epoch or none.
use Rattle.std.proofs.Common.{[], ◌≡◌, ◌&&◌, ◌∙◌, ◌<◌, ◌∷◌, ◌++◌, ℕ, List, None, Some, ap, drop, false, get_or, length, refl, sym, true}
use Rattle.std.specs.List.{list_all, prefix_len, take_while}
use Rattle.version_order.proofs.lemmas.Cuts.{behind, cut_plain, not_all_pass, not_cut_plain, run_and_rest}
use Rattle.version_order.proofs.lemmas.Front.{all_weaker}
use Rattle.version_order.specs.texts.{Cuts.cut_first, Front.starts_with_digit}
use Rattle.scheme_deb.specs.Texts.{behind_epoch, is_of_revision, is_of_upstream, is_revision, is_upstream, of_cut, part_of}

of_upstream : (text : List ℕ) → list_all is_of_revision text ≡ true → list_all is_of_upstream text ≡ true
of_upstream = all_weaker is_of_revision is_of_upstream (λ b e. rw e refl)

all_of_revision : (text : List ℕ) → is_revision text ≡ true → list_all is_of_revision text ≡ true
all_of_revision [] is = refl
all_of_revision (byte ∷ text) is = is

pub revision_all : (text : List ℕ) → is_revision text ≡ true → list_all is_of_upstream text ≡ true
revision_all text is = of_upstream text (all_of_revision text is)

begins_front : (upstream rest : List ℕ) → starts_with_digit (upstream ++ 45 ∷ rest) ≡ true
    → starts_with_digit upstream ≡ true
begins_front [] rest digit = cc digit
begins_front (byte ∷ upstream) rest digit = digit

-- by the bytes of a revision that a text begins with, and what follows them
module _ (text upstream rest : List ℕ) (upstream_is : upstream ≡ take_while is_of_revision text)
    (rest_is : rest ≡ drop (prefix_len is_of_revision text) text) where
  plain : (text ≡ upstream ++ rest) × (list_all is_of_revision upstream ≡ true)
  plain = run_and_rest is_of_revision text upstream rest upstream_is rest_is

  pub whole_no_colon : length rest < 1 → cut_first 58 text ≡ None
  whole_no_colon short = (not_cut_plain is_of_revision refl refl text upstream rest short plain.0 plain.1).1

  pub cut_no_colon : 0 < length rest → get_or rest 0 0 ≡ 45 → is_revision (behind rest) ≡ true → cut_first 58 text ≡ None
  cut_no_colon some hyphen is =
      (cut_plain is_of_revision refl refl text upstream rest some hyphen plain.0 plain.1
      (all_of_revision (behind rest) is)).1

  pub whole_behind : (epoch : ℕ) → starts_with_digit text ≡ true → length rest < 1
      → behind_epoch epoch text
      ≡ Some (record { epoch = epoch; upstream = part_of upstream; revision = part_of (48 ∷ []) })
  whole_behind epoch digit short =
      let none = not_cut_plain is_of_revision refl refl text upstream rest short plain.0 plain.1 in
      let up : is_upstream upstream ≡ true =
      rw (ap starts_with_digit (sym none.0) ∙ digit, of_upstream upstream plain.1) refl in
      ap (of_cut epoch text) none.2 ∙ ap (λ (l : List ℕ). of_cut epoch l None) none.0 ∙ rw up refl

  pub cut_behind : (epoch : ℕ) → starts_with_digit text ≡ true → 0 < length rest → get_or rest 0 0 ≡ 45
      → is_revision (behind rest) ≡ true
      → behind_epoch epoch text
      ≡ Some (record { epoch = epoch; upstream = part_of upstream; revision = part_of (behind rest) })
  cut_behind epoch digit some hyphen is =
      let cut = cut_plain is_of_revision refl refl text upstream rest some hyphen plain.0 plain.1
      (all_of_revision (behind rest) is) in
      let begins = begins_front upstream (behind rest) (ap starts_with_digit (sym cut.0) ∙ digit) in
      let up : is_upstream upstream ≡ true = rw (begins, of_upstream upstream plain.1) refl in
      rw (cut.2, up, is) refl

  pub not_plain : starts_with_digit text ≡ true → 0 < length rest
      → (starts_with_digit text && list_all is_of_revision text) ≡ false
  not_plain digit some = rw (digit, not_all_pass is_of_revision text rest rest_is some) refl

pub upstream_all : (text upstream : List ℕ) → upstream ≡ take_while is_of_revision text
    → list_all is_of_upstream upstream ≡ true
upstream_all text upstream upstream_is =
    of_upstream upstream (run_and_rest is_of_revision text upstream _ upstream_is refl).1
