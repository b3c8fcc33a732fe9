-- Versions of any kind: a text parses as the version of the first kind that fits, and the version
-- prints the text.
use Rattle.std.proofs.Common.{◌≡◌, List, ℕ, Some, None, refl, inl, inr, ◌∙◌, [], ◌∷◌, ◌++◌, append_assoc}
use Rattle.std.specs.Str.{IsAscii}
use Rattle.version_order.specs.texts.{Bytes.dot, Grammar.IsPrinted, Grammar.SpellsDotted}
use Rattle.version_order.proofs.lemmas.Front.{cases_Option}
use Rattle.version_rules.specs.grammar.Version.{PlainVersion, SpellsVersion, version_of, SpellsEpoch, version_text}
use Rattle.version_rules.specs.grammar.Versioning.{PlainVersioning, Ideal, General, Complex, SpellsVersioning, versioning_of, versioning_text}
use Rattle.version_rules.specs.grammar.{Chunk.PlainChunk, Chunk.Numeric, Chunk.SpellsPart, Conversions.version_of_semver, Mess.mess_of, SemVer.PlainSemVer, SemVer.SpellsSemVer, SemVer.semver_of, SemVer.semver_text}
use Rattle.version_rules.proofs.lemmas.{Mess.mess_of-Some, Mess.mess_of-spells, Mess.mess_ascii, Mess.mess_printed, SemVer.semver_ascii, SemVer.semver_of-Some, SemVer.semver_of-spells, SemVer.semver_printed}
use Rattle.version_rules.proofs.lemmas.Version.{version_ascii, version_of-Some, version_of-spells, version_printed}

-- a text parses as no strict version exactly if it spells none
no_semver : (text : List ℕ) → ((w : PlainSemVer) → ¬ (SpellsSemVer text w)) → semver_of text ≡ None
no_semver text none = elim (cases_Option (semver_of text)) [
  | inl absent ↦ absent
  | inr one ↦ absurd (none one.0 (semver_of-spells text one.0 one.1))
]

no_version : (text : List ℕ) → ((w : PlainVersion) → ¬ (SpellsVersion text w))
    → version_of text ≡ None
no_version text none = elim (cases_Option (version_of text)) [
  | inl absent ↦ absent
  | inr one ↦ absurd (none one.0 (version_of-spells text one.0 one.1))
]

unspelled_semver : (text : List ℕ) → semver_of text ≡ None → (w : PlainSemVer)
    → ¬ (SpellsSemVer text w)
unspelled_semver text none w s = cc (semver_of-Some text w s, none)

unspelled_version : (text : List ℕ) → version_of text ≡ None → (w : PlainVersion)
    → ¬ (SpellsVersion text w)
unspelled_version text none w s = cc (version_of-Some text w s, none)

pub versioning_of-Some : (text : List ℕ) (v : PlainVersioning) → SpellsVersioning text v
    → versioning_of text ≡ Some v
versioning_of-Some text (Ideal v) s = rw (semver_of-Some text v s) refl
versioning_of-Some text (General v) s = rw (no_semver text s.1, version_of-Some text v s.0) refl
versioning_of-Some text (Complex m) s =
    rw (no_semver text s.2, no_version text s.1, mess_of-Some text m s.0) refl

pub versioning_of-spells : (text : List ℕ) (v : PlainVersioning) → versioning_of text ≡ Some v
    → SpellsVersioning text v
versioning_of-spells text v e = elim (cases_Option (semver_of text)) [
  | inr ideal ↦
      let same : Ideal ideal.0 ≡ v = cc (rw ideal.1 at e) in
      rw (← same) (semver_of-spells text ideal.0 ideal.1)
  | inl no_ideal ↦ elim (cases_Option (version_of text)) [
    | inr general ↦
        let same : General general.0 ≡ v = cc (rw (no_ideal, general.1) at e) in
        rw (← same) (version_of-spells text general.0 general.1, unspelled_semver text no_ideal)
    | inl no_general ↦ elim (cases_Option (mess_of text)) [
      | inr complex ↦
          let same : Complex complex.0 ≡ v = cc (rw (no_ideal, no_general, complex.1) at e) in
          rw (← same) (
            mess_of-spells text complex.0 complex.1,
            unspelled_version text no_general,
            unspelled_semver text no_ideal,
          )
      | inl none ↦ cc (rw (no_ideal, no_general, none) at e)
    ]
  ]
]

pub versioning_printed : IsPrinted SpellsVersioning versioning_text
versioning_printed text (Ideal v) s = semver_printed text v s
versioning_printed text (General v) s = version_printed text v s.0
versioning_printed text (Complex m) s = mess_printed text m s.0

pub versioning_ascii : (text : List ℕ) (v : PlainVersioning) → SpellsVersioning text v
    → IsAscii text
versioning_ascii text (Ideal v) s = semver_ascii text v s
versioning_ascii text (General v) s = version_ascii text v s.0
versioning_ascii text (Complex m) s = mess_ascii text m s.0

-- ---- A strict version widened to a general one: its text spells that too, and it prints alike

three_parts : (a b c : List ℕ) (x y z : PlainChunk) → SpellsPart a x → SpellsPart b y
    → SpellsPart c z
    → SpellsDotted SpellsPart (a ++ dot ∷ (b ++ dot ∷ c)) (x ∷ y ∷ z ∷ [])
unfolding SpellsDotted
three_parts a b c x y z p q r = (a, b ++ dot ∷ c, refl, p, (b, c, refl, q, r))

no_epoch : SpellsEpoch [] None
unfolding SpellsEpoch
no_epoch = refl

regroup : (a b c d : List ℕ) → a ++ dot ∷ (b ++ dot ∷ (c ++ d)) ≡ (a ++ dot ∷ (b ++ dot ∷ c)) ++ d
regroup a b c d = simp append_assoc

-- a text that spells a strict version spells a general one
pub strict_is_general : (text : List ℕ) (v : PlainSemVer) → SpellsSemVer text v
    → SpellsVersion text (version_of_semver v)
strict_is_general text v s = record {
  epoch = [];
  body = s.major ++ dot ∷ (s.minor ++ dot ∷ s.patch);
  release = s.pre_rel;
  meta = s.meta;
  whole = s.whole ∙ regroup s.major s.minor s.patch (s.pre_rel ++ s.meta);
  epoch_is = no_epoch;
  body_is = record {
    part = Numeric v.patch;
    parts_are = three_parts s.major s.minor s.patch (Numeric v.major) (Numeric v.minor)
        (Numeric v.patch) s.major_is s.minor_is s.patch_is;
    last_is = refl;
  };
  release_is = s.pre_rel_is;
  meta_is = s.meta_is;
}

-- a strict version prints the same as its general conversion
pub version_of_semver_printed : (v : PlainSemVer)
    → version_text (version_of_semver v) ≡ semver_text v
version_of_semver_printed v = simp append_assoc
