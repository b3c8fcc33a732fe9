-- The newest of the candidates so far, and one more.
use Rattle.std.proofs.Common.{◌≡◌, ◌∙◌, ◌<◌, ◌+◌, ◌⊎◌, ℕ, Option, Some, None, IfSome, IfNone, arith, inl, inr, refl, sym, ap, get_or, List, [], ◌∷◌, suc, zero}
use Rattle.std.proofs.lemmas.Bool.{cases_Bool, eqb-false, eqb-true}
use Rattle.std.specs.{Borrow.Bor, Ordering.ordering_reverse, declared.cmp.Ordering.Ordering, declared.cmp.Ordering.TheVariants.Less, declared.cmp.Ordering.TheVariants.Equal, declared.cmp.Ordering.TheVariants.Greater}
use Rattle.version_rules.specs.{grammar.Versioning.PlainVersioning, key.Key.Key, key.Key.key_of, key.Key.precedence, laws.Key.precedence_total}
use Rattle.version_requirements.specs.{Newest.IsNewest, Newest.IsWanted, Newest.NoVersion, Newest.text_at, declared.newest.Wanted.Wanted}
use Rattle.version_texts.specs.{VersioningRef.plain_versioning_ref, declared.versioning_ref.VersioningRef.VersioningRef}

-- what is held is the newest of so many candidates
pub record Holds (candidates : ℕ → PlainVersioning → Type 0) (count : ℕ)
    (held : Option (ℕ × VersioningRef)) : Type 0 where
  pub some : IfSome held (λ newest. IsNewest candidates count newest.0
      (plain_versioning_ref newest.1))
  pub none : IfNone held (NoVersion candidates count)

last_or_before : (m count : ℕ) → m < count + 1 → (m ≡ count) ⊎ (m < count)
last_or_before m count h = grind (arith, cases_Bool, eqb-true, eqb-false)

-- the order of a version behind another, seen from that one
seen_back : (k l : Key) → precedence k l ≡ Greater → precedence l k ≡ Less
seen_back k l e = precedence_total.antisymm l k ∙ ap ordering_reverse e

-- what is not after a version is before each version after it
before_newer : (v best newer : Key) → ¬ (precedence v best ≡ Greater)
    → precedence newer best ≡ Greater → precedence v newer ≡ Less
before_newer v best newer not_after after = by (precedence v best) refl
  where
    by : (o : Ordering) → precedence v best ≡ o → precedence v newer ≡ Less
    by Less e = precedence_total.trans v best newer e (seen_back newer best after)
    by Equal e = precedence_total.congr v best newer e ∙ seen_back newer best after
    by Greater e = absurd (not_after e)

not_after_itself : (k : Key) → ¬ (precedence k k ≡ Greater)
not_after_itself k e = let back = seen_back k k e in cc (sym e ∙ back)

less_not_greater : (o : Ordering) → o ≡ Less → ¬ (o ≡ Greater)
less_not_greater o less greater = cc (sym less ∙ greater)

module _ (candidates : ℕ → PlainVersioning → Type 0) (count : ℕ) where
  none_more : NoVersion candidates count → ((v : PlainVersioning) → ¬ (candidates count v))
      → NoVersion candidates (count + 1)
  none_more none last m v h is = grind (arith, last_or_before)

  newest_more : (place : ℕ) (version : PlainVersioning)
      → IsNewest candidates count place version
      → ((v : PlainVersioning) → candidates count v
      → ¬ (precedence (key_of v) (key_of version) ≡ Greater))
      → IsNewest candidates (count + 1) place version
  newest_more place version newest last = grind (arith, last_or_before)

  -- one that is passed over
  pub passed_over : (held : Option (ℕ × VersioningRef)) → Holds candidates count held
      → ((v : PlainVersioning) → ¬ (candidates count v)) → Holds candidates (count + 1) held
  passed_over None h last = record { some = tt; none = none_more h.none last }
  passed_over (Some newest) h last = record {
    some = newest_more newest.0 (plain_versioning_ref newest.1) h.some
        (λ v is. absurd (last v is));
    none = tt;
  }

  module _ (v : VersioningRef) (is : candidates count (plain_versioning_ref v))
      (alone : (w : PlainVersioning) → candidates count w → w ≡ plain_versioning_ref v) where
    -- one that is not newer
    pub not_newer : (held : Option (ℕ × VersioningRef)) → Holds candidates count held
        → ¬ (IfSome held (λ best. precedence (key_of (plain_versioning_ref v))
        (key_of (plain_versioning_ref best.1)) ≡ Greater))
        → Holds candidates (count + 1) held
    not_newer None h older = absurd (older tt)
    not_newer (Some newest) h older = record {
      some = newest_more newest.0 (plain_versioning_ref newest.1) h.some
          (λ w here. rw (alone w here) older);
      none = tt;
    }

    first_newest : ((m : ℕ) (w : PlainVersioning) → m < count → candidates m w
        → precedence (key_of w) (key_of (plain_versioning_ref v)) ≡ Less)
        → Holds candidates (count + 1) (Some (count, v))
    first_newest before = record {
      some = record {
        within = omega arith;
        is = is;
        none_after = λ m w h there. elim (last_or_before m count h) [
          | inl same ↦ rw (alone w (rw same at there))
              (not_after_itself (key_of (plain_versioning_ref v)))
          | inr early ↦ less_not_greater _ (before m w early there)
        ];
        is_first = before;
      };
      none = tt;
    }

    -- one that is newer
    pub newer : (held : Option (ℕ × VersioningRef)) → Holds candidates count held
        → IfSome held (λ best. precedence (key_of (plain_versioning_ref v))
        (key_of (plain_versioning_ref best.1)) ≡ Greater)
        → Holds candidates (count + 1) (Some (count, v))
    newer None h after = first_newest (λ m w early there. absurd (h.none m w early there))
    newer (Some newest) h after =
        first_newest (λ m w early there.
        before_newer (key_of w) (key_of (plain_versioning_ref newest.1))
        (key_of (plain_versioning_ref v)) (h.some.none_after m w early there) after)

-- ---- texts

-- a text by its index
abbrev no_text : Bor (List ℕ)
no_text = record { ref_ptr = (0, 0); now = [] }

pub text_is : (texts : List (Bor (List ℕ))) (place : ℕ)
    → (get_or texts place no_text).now ≡ text_at texts place
text_is [] place = refl
text_is (text ∷ texts) zero = refl
text_is (text ∷ texts) (suc place) = text_is texts place

-- a text gives one version at most
pub alone_wanted : (wanted : Wanted) (text : List ℕ) (given : Option VersioningRef)
    → IfSome given (λ version. IsWanted wanted text (plain_versioning_ref version))
    → IfSome given (λ version. (v : PlainVersioning) → IsWanted wanted text v
    → v ≡ plain_versioning_ref version)
alone_wanted wanted text None is = tt
alone_wanted wanted text (Some version) is = λ v other.
    let both : Some v ≡ Some (plain_versioning_ref version) = sym other.given ∙ is.given in cc both
