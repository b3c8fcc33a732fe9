-- A version of SemVer that is cut at its plus and its hyphen is the one that is read from the beginning on.
use Rattle.std.proofs.Common.{◌≡◌, ◌==◌, ◌∙◌, ℕ, Bool, true, false, List, [], ◌∷◌, ◌++◌, Option, Some, None, ap, append-nil, if◌then◌else◌, refl, sym}
use Rattle.std.proofs.lemmas.{Bool.eqb-true, List.take-append-drop}
use Rattle.std.specs.{Cmp.first_so, Cmp.second_so, List.list_all, List.prefix_len, List.take_while, Option.option_map, Prelude.option_and_then}
use Rattle.version_order.proofs.lemmas.Front.{begins-drop, list_all-take_while}
use Rattle.version_order.specs.texts.{Bytes.hyphen, Bytes.plus, Cuts.pieces, Cuts.cut_first, Front.begins}
use Rattle.version_rules.specs.grammar.{Chunk.PlainChunk, SemVer.PlainSemVer}
use Rattle.version_pieces.specs.Pieces.{chunks_of}
use Rattle.scheme_semver.specs.Reading.{before_metadata, behind_core, core_pieces, is_of_core, pre_release_of, tail_of}
use Rattle.scheme_semver.specs.{Texts.is_section, Texts.of_numbers, Texts.semver_of, Texts.without_metadata, declared.reader.Section.TheVariants.PreRelease, declared.reader.Section.TheVariants.Metadata}

-- a cut, with a text before it
abbrev with_front : List ℕ → Option (List ℕ × List ℕ) → Option (List ℕ × List ℕ)
with_front front = option_map (λ cut. (front ++ cut.0, cut.1))

with_none : (cut : Option (List ℕ × List ℕ)) → cut ≡ with_front [] cut
with_none None = refl
with_none (Some cut) = refl

with_more : (byte : ℕ) (front : List ℕ) (cut : Option (List ℕ × List ℕ))
    → option_map (λ (c : List ℕ × List ℕ). (byte ∷ c.0, c.1)) (with_front front cut) ≡ with_front (byte ∷ front) cut
with_more byte front None = refl
with_more byte front (Some cut) = refl

-- a byte that core has is not the one that texts are cut at
apart : (at : ℕ) → is_of_core at ≡ false → (byte : ℕ) → is_of_core byte ≡ true → (byte == at) ≡ false
apart at other byte is = by (byte == at) refl
  where
    by : (same : Bool) → (byte == at) ≡ same → same ≡ false
    by true e = cc (sym is ∙ ap is_of_core (eqb-true byte at e) ∙ other)
    by false e = refl

cut_behind : (at : ℕ) → is_of_core at ≡ false → (front rest : List ℕ) → list_all is_of_core front ≡ true
    → cut_first at (front ++ rest) ≡ with_front front (cut_first at rest)
cut_behind at other [] rest all = with_none (cut_first at rest)
cut_behind at other (byte ∷ front) rest all =
    rw (apart at other byte (first_so _ _ all))
    (ap (option_map (λ (c : List ℕ × List ℕ). (byte ∷ c.0, c.1))) (cut_behind at other front rest (second_so _ _ all))
    ∙ with_more byte front (cut_first at rest))

module _ (front : List ℕ) (all : list_all is_of_core front ≡ true) where
  abbrev numbers : Option (List PlainChunk) → Option PlainSemVer
  numbers pre_release = of_numbers pre_release (pieces front)

  -- no hyphen, and one behind the numbers
  no_hyphen : without_metadata (front ++ []) ≡ numbers None
  no_hyphen = rw (cut_behind hyphen refl front [] all) (ap (λ l. of_numbers None (pieces l)) (append-nil front))

  at_hyphen : (text : List ℕ)
      → without_metadata (front ++ hyphen ∷ text) ≡ option_and_then numbers (pre_release_of text)
  at_hyphen text = rw (cut_behind hyphen refl front (hyphen ∷ text) all) (by (is_section PreRelease text))
    where
      by : (is : Bool)
          → (if is then of_numbers (Some (chunks_of text)) (pieces (front ++ [])) else None)
          ≡ option_and_then numbers (if is then Some (Some (chunks_of text)) else None)
      by true = ap (λ l. of_numbers (Some (chunks_of text)) (pieces l)) (append-nil front)
      by false = refl

  at_plus : (text : List ℕ) → semver_of (front ++ plus ∷ text) ≡ option_and_then numbers (tail_of (plus ∷ text))
  at_plus text = rw (cut_behind plus refl front (plus ∷ text) all) (by (is_section Metadata text))
    where
      by : (is : Bool)
          → (if is then without_metadata (front ++ []) else None)
          ≡ option_and_then numbers (if is then Some None else None)
      by true = no_hyphen
      by false = refl

  behind_hyphen : (text : List ℕ)
      → semver_of (front ++ hyphen ∷ text) ≡ option_and_then numbers (before_metadata text)
  behind_hyphen text = rw (cut_behind plus refl front (hyphen ∷ text) all) (go (cut_first plus text))
    where
      at_cut : List ℕ → Option (List ℕ × List ℕ) → Option PlainSemVer
      at_cut whole None = without_metadata whole
      at_cut whole (Some cut) = if is_section Metadata cut.1 then without_metadata cut.0 else None

      before : Option (List ℕ × List ℕ) → Option (Option (List PlainChunk))
      before None = pre_release_of text
      before (Some cut) = if is_section Metadata cut.1 then pre_release_of cut.0 else None

      by : (pre_release : List ℕ) (is : Bool)
          → (if is then without_metadata (front ++ hyphen ∷ pre_release) else None)
          ≡ option_and_then numbers (if is then pre_release_of pre_release else None)
      by pre_release true = at_hyphen pre_release
      by pre_release false = refl

      go : (cut : Option (List ℕ × List ℕ))
          → at_cut (front ++ hyphen ∷ text)
          (with_front front (option_map (λ (c : List ℕ × List ℕ). (hyphen ∷ c.0, c.1)) cut))
          ≡ option_and_then numbers (before cut)
      go None = at_hyphen text
      go (Some cut) = by cut.0 (is_section Metadata cut.1)

  core_cut : (tail : List ℕ) → begins is_of_core tail ≡ false
      → semver_of (front ++ tail) ≡ option_and_then numbers (tail_of tail)
  core_cut [] ends = rw (cut_behind plus refl front [] all) no_hyphen
  core_cut (byte ∷ text) ends = by (byte == plus) (byte == hyphen) refl refl
    where
      by : (is_plus is_hyphen : Bool) → (byte == plus) ≡ is_plus → (byte == hyphen) ≡ is_hyphen
          → semver_of (front ++ byte ∷ text) ≡ option_and_then numbers (tail_of (byte ∷ text))
      by true is_hyphen e f = rw (eqb-true byte plus e) (at_plus text)
      by false true e f = rw (eqb-true byte hyphen f) (behind_hyphen text)
      by false false e f = cc (rw (e, f) at ends)

pub semver_read : (text : List ℕ)
    → semver_of text
    ≡ option_and_then (λ pre_release. of_numbers pre_release (core_pieces text)) (tail_of (behind_core text))
semver_read text =
    ap semver_of (sym (take-append-drop (prefix_len is_of_core text) text))
    ∙ core_cut (take_while is_of_core text) (list_all-take_while is_of_core text) (behind_core text)
    (begins-drop is_of_core text)
