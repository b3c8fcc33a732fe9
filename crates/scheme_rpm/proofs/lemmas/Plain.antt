-- Versions of RPM without a colon, behind an epoch or none.
use Rattle.std.proofs.Common.{◌≡◌, ◌==◌, ◌<◌, ◌++◌, ◌∙◌, ◌∷◌, [], ℕ, List, None, Some, ap, drop, false, get_or, length, refl, true}
use Rattle.std.specs.List.{list_all, prefix_len, take_while}
use Rattle.version_order.proofs.lemmas.Cuts.{behind, cut_plain, not_all_pass, not_cut_plain, run_and_rest}
use Rattle.version_order.specs.texts.Cuts.{cut_first}
use Rattle.scheme_rpm.specs.Texts.{behind_epoch, is_of_rpm, is_version, items_in, of_cut}

pub some_version : (text : List ℕ) → (length text == 0) ≡ false → is_version text ≡ list_all is_of_rpm text
some_version [] some = cc some
some_version (byte ∷ text) some = refl

pub all_of_version : (text : List ℕ) → is_version text ≡ true → list_all is_of_rpm text ≡ true
all_of_version [] is = refl
all_of_version (byte ∷ text) is = is

-- by the bytes of a version that a text begins with, and what follows them
module _ (text version rest : List ℕ) (version_is : version ≡ take_while is_of_rpm text)
    (rest_is : rest ≡ drop (prefix_len is_of_rpm text) text) where
  plain : (text ≡ version ++ rest) × (list_all is_of_rpm version ≡ true)
  plain = run_and_rest is_of_rpm text version rest version_is rest_is

  pub whole_no_colon : length rest < 1 → cut_first 58 text ≡ None
  whole_no_colon short = (not_cut_plain is_of_rpm refl refl text version rest short plain.0 plain.1).1

  pub cut_no_colon : 0 < length rest → get_or rest 0 0 ≡ 45 → is_version (behind rest) ≡ true → cut_first 58 text ≡ None
  cut_no_colon one hyphen also =
      (cut_plain is_of_rpm refl refl text version rest one hyphen plain.0 plain.1
      (all_of_version (behind rest) also)).1

  pub whole_behind : (epoch : ℕ) → (length version == 0) ≡ false → length rest < 1
      → behind_epoch epoch text ≡ Some (record { epoch = epoch; version = items_in version; release = None })
  whole_behind epoch some short =
      let none = not_cut_plain is_of_rpm refl refl text version rest short plain.0 plain.1 in
      let is : is_version version ≡ true = some_version version some ∙ plain.1 in
      ap (of_cut epoch text) none.2 ∙ ap (λ (l : List ℕ). of_cut epoch l None) none.0 ∙ rw is refl

  pub cut_behind : (epoch : ℕ) → (length version == 0) ≡ false → 0 < length rest → get_or rest 0 0 ≡ 45
      → is_version (behind rest) ≡ true
      → behind_epoch epoch text
      ≡ Some (record { epoch = epoch; version = items_in version; release = Some (items_in (behind rest)) })
  cut_behind epoch some one hyphen also =
      let cut = cut_plain is_of_rpm refl refl text version rest one hyphen plain.0 plain.1
      (all_of_version (behind rest) also) in
      let is : is_version version ≡ true = some_version version some ∙ plain.1 in
      rw (cut.2, is, also) refl

-- a text with another byte is no version
pub wrong_bytes : (text : List ℕ) → list_all is_of_rpm text ≡ false → is_version text ≡ false
wrong_bytes [] fails = refl
wrong_bytes (byte ∷ text) fails = fails

pub not_version : (text rest : List ℕ) → rest ≡ drop (prefix_len is_of_rpm text) text → 0 < length rest
    → is_version text ≡ false
not_version text rest rest_is some = wrong_bytes text (not_all_pass is_of_rpm text rest rest_is some)
