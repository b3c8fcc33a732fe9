-- What comes next among pre-releases, read off the text of a version.
use Rattle.std.proofs.Common.{◌≡◌, ◌∙◌, ◌<◌, ◌≤◌, ◌^◌, ℕ, suc, true, false, List, [], ◌∷◌, Option, Some, refl, sym, ap, subst, arith, inl, inr}
use Rattle.version_rules.specs.grammar.Versioning.{versioning_kind, PlainVersioning, Ideal, General, Complex, SpellsVersioning, versioning_nth, versioning_of, versioning_text}
use Rattle.version_rules.specs.grammar.{Body.SpellsRelease, Chunk.PlainChunk}
use Rattle.version_tasks.proofs.lemmas.{Next.Text.printed, NextPre.Order.is_next, NextPre.Order.none_past, NextPre.Order.none_unnamed, NextPre.Text.own_read, NextPre.Text.release_passes, NextPre.Text.release_spelled}
use Rattle.version_tasks.specs.NextPreText.{IsPlace, NonePass, is_own, is_release, own_chunks, pre_text, pre_version, word_chunks}
use Rattle.version_tasks.specs.NextPre.{AreNamed, IsNextPre, IsPreRelease, NoNextPre}
use Rattle.version_texts.specs.{VersioningRef.field_text, declared.versioning_ref.field.Field.TheVariants.PreRelease}
use Rattle.version_rules.specs.declared.kind.Kind.TheVariants as kind

-- ---- a given word

pub chosen_spelled : (word : List ℕ) → is_release word ≡ true
    → SpellsRelease word (word_chunks word)
chosen_spelled [] passes = cc passes
chosen_spelled (b ∷ word) passes = release_spelled (b ∷ word) passes

pub not_chosen : (word : List ℕ) → is_release word ≡ false → (chunks : List PlainChunk)
    → ¬ (SpellsRelease word chunks)
not_chosen word fails chunks s = cc (sym fails ∙ release_passes word chunks s)

-- ---- what comes next

pub own_valid : (text : List ℕ) (v : PlainVersioning) → SpellsVersioning text v
    → versioning_kind v ≡ kind.Ideal → (own : Option (List ℕ)) → own ≡ field_text PreRelease v
    → is_own own ≡ true
own_valid text (Ideal v) s is own own_is = (own_read text v s own own_is).1
own_valid text (General v) s is own own_is = cc is
own_valid text (Complex m) s is own own_is = cc is

pub unnamed : (text : List ℕ) (v : PlainVersioning) → SpellsVersioning text v
    → versioning_kind v ≡ kind.Ideal → (own : Option (List ℕ)) → own ≡ field_text PreRelease v
    → (given : Option (List ℕ))
    → ((chunks : List PlainChunk) → ¬ (AreNamed given (own_chunks own) chunks))
    → NoNextPre v given
unnamed text (Ideal v) s is own own_is given none =
    let chunks = (own_read text v s own own_is).0 in
    none_unnamed v given (rw chunks at none)
unnamed text (General v) s is own own_is given none = cc is
unnamed text (Complex m) s is own own_is given none = cc is

pub past : (text : List ℕ) (v : PlainVersioning) → SpellsVersioning text v
    → versioning_kind v ≡ kind.Ideal → (own : Option (List ℕ)) → own ≡ field_text PreRelease v
    → (given : Option (List ℕ)) (word : List ℕ) → AreNamed given (own_chunks own) (word_chunks word)
    → (patch : ℕ) → Some patch ≡ versioning_nth v 2
    → (2 ^ 32 ≤ suc patch) × NonePass word own → NoNextPre v given
past text (Ideal v) s is own own_is given word named patch nth none =
    let chunks = (own_read text v s own own_is).0 in
    let same : patch ≡ v.patch = cc nth in
    none_past v given word own chunks
    (subst (λ (o : Option (List PlainChunk)). AreNamed given o (word_chunks word)) chunks named)
    (omega (arith, none.0, same)) none.1
past text (General v) s is own own_is given word named patch nth none = cc is
past text (Complex m) s is own own_is given word named patch nth none = cc is

from_one : (word : List ℕ) (own : Option (List ℕ)) (patch : ℕ) (place : ℕ × ℕ)
    → IsPlace word own patch place → 1 ≤ place.1
from_one word own patch place (inl here) = here.1.from_one
from_one word own patch place (inr next) = omega (arith, next.1)

pub found : (text : List ℕ) (v : PlainVersioning) → SpellsVersioning text v
    → versioning_kind v ≡ kind.Ideal → (own : Option (List ℕ)) → own ≡ field_text PreRelease v
    → (given : Option (List ℕ)) (word : List ℕ) → AreNamed given (own_chunks own) (word_chunks word)
    → (major minor patch : ℕ) → Some major ≡ versioning_nth v 0 → Some minor ≡ versioning_nth v 1
    → Some patch ≡ versioning_nth v 2 → (place : ℕ × ℕ) → IsPlace word own patch place
    → place.0 < 2 ^ 32 → place.1 < 2 ^ 32
    → IsNextPre v given (Ideal (pre_version major minor place.0 word place.1))
found text (Ideal v) s is own own_is given word named major minor patch first second third place at
    fits number_fits =
    let chunks = (own_read text v s own own_is).0 in
    let same : patch ≡ v.patch = cc third in
    let its =
    subst (λ (o : Option (List PlainChunk)). AreNamed given o (word_chunks word)) chunks named in
    let form : IsPreRelease given v (pre_version major minor place.0 word place.1) = record {
      major_is = cc first;
      minor_is = cc second;
      patch_fits = fits;
      chunks = word_chunks word;
      number = place.1;
      named = its;
      pre_rel_is = refl;
      from_one = from_one word own patch place at;
      number_fits = number_fits;
      bare = refl;
    } in
    is_next v given word own chunks its (pre_version major minor place.0 word place.1) form
    (subst (λ (n : ℕ). IsPlace word own n place) same at)
found text (General v) s is own own_is given word named major minor patch first second third place
    at fits number_fits = cc is
found text (Complex m) s is own own_is given word named major minor patch first second third place
    at fits number_fits = cc is

-- what is printed parses as the version
pub read_back : (major minor patch : ℕ) (word : List ℕ) (number : ℕ)
    → versioning_of (pre_text major minor patch word number)
    ≡ Some (Ideal (pre_version major minor patch word number))
    → versioning_of (versioning_text (Ideal (pre_version major minor patch word number)))
    ≡ Some (Ideal (pre_version major minor patch word number))
read_back major minor patch word number read =
    ap versioning_of
    (printed (pre_text major minor patch word number)
    (Ideal (pre_version major minor patch word number)) read)
    ∙ read
