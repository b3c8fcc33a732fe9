-- Strict versions. A prefix spells the version that it parses as, a text that spells a version
-- parses as that version, and the version prints that text.
use Rattle.std.proofs.Common.{◌≡◌, ◌==◌, ℕ, Bool, false, List, [], ◌∷◌, ◌++◌, Option, Some, None, refl, sym, ap, subst, ◌∙◌, append-nil, append_assoc, arith}
use Rattle.std.proofs.lemmas.Str.{IsAscii-append}
use Rattle.std.specs.{Char.is_ascii_digit, Str.IsAscii}
use Rattle.version_order.specs.texts.Bytes.{dot, hyphen, is_identifier_byte, is_metadata_byte, plus}
use Rattle.version_order.specs.texts.Front.{begins, behind, dotted_front, optional, run_front}
use Rattle.version_order.specs.texts.Grammar.{SpellsOptional, EndsList, EndsRun, IsPrinted, IsSound}
use Rattle.version_rules.specs.grammar.SemVer.{PlainSemVer, SpellsSemVer, optional_text, semver_front, semver_of, semver_text}
use Rattle.version_rules.specs.grammar.{Body.SpellsMetadata, Body.meta_front, Body.SpellsRelease, Body.release_front, Chunk.PlainChunk, Chunk.chunk_front, Chunk.unsigned_front}
use Rattle.version_order.proofs.lemmas.{Bytes.IsAscii-nil, Bytes.metadata_run_ascii, Bytes.sign_ascii, Front.behind-Some, Front.cases_Option}
use Rattle.version_rules.proofs.lemmas.Chunk.{metadata_complete, metadata_sound, optional_complete, optional_sound, release_complete, release_printed, release_sound}
use Rattle.version_rules.proofs.lemmas.Grammar.{read_whole, spelled_once, whole_read, whole_spelled, of_semver}
use Rattle.version_rules.proofs.lemmas.Numeral.{numeral_printed, unsigned_complete, unsigned_sound}

-- what `semver_front` returns after three numbers
semver_front-Some : (text : List ℕ) (major minor patch : ℕ × List ℕ)
    → unsigned_front text ≡ Some major → behind dot unsigned_front major.1 ≡ Some minor
    → behind dot unsigned_front minor.1 ≡ Some patch
    → semver_front text ≡ Some (
      record {
        major = major.0;
        minor = minor.0;
        patch = patch.0;
        pre_rel = (optional release_front patch.1).0;
        meta = (optional meta_front (optional release_front patch.1).1).0;
      },
      (optional meta_front (optional release_front patch.1).1).1,
    )
unfolding semver_front
semver_front-Some text major minor patch e f g = rw e (rw f (rw g refl))

-- if `semver_front` returns something, the text begins with three numbers
semver_front-reads : (text : List ℕ) (p : PlainSemVer × List ℕ) → semver_front text ≡ Some p
    → (major minor patch : ℕ × List ℕ) × (unsigned_front text ≡ Some major)
    × (behind dot unsigned_front major.1 ≡ Some minor)
    × (behind dot unsigned_front minor.1 ≡ Some patch)
unfolding semver_front
semver_front-reads text p e = grind (arith, cases_Option)

regroup : (a b c d e rest : List ℕ)
    → a ++ dot ∷ (b ++ dot ∷ (c ++ (d ++ (e ++ rest))))
    ≡ (a ++ dot ∷ (b ++ dot ∷ (c ++ (d ++ e)))) ++ rest
regroup a b c d e rest = simp append_assoc

pub semver_sound : IsSound SpellsSemVer semver_front
semver_sound text v rest e =
    let numbers = semver_front-reads text (v, rest) e in
    let major = numbers.0 in
    let minor = numbers.1 in
    let patch = numbers.2 in
    let a = unsigned_sound text major.0 major.1 numbers.3 in
    let at_minor = behind-Some dot unsigned_front major.1 minor numbers.4 in
    let b = unsigned_sound at_minor.0 minor.0 minor.1 at_minor.2 in
    let at_patch = behind-Some dot unsigned_front minor.1 patch numbers.5 in
    let c = unsigned_sound at_patch.0 patch.0 patch.1 at_patch.2 in
    let pre_rel = optional release_front patch.1 in
    let meta = optional meta_front pre_rel.1 in
    let d = optional_sound hyphen SpellsRelease (dotted_front chunk_front) release_sound patch.1 in
    let m = optional_sound plus SpellsMetadata
    (run_front is_metadata_byte) metadata_sound pre_rel.1 in
    let read : PlainSemVer =
    record {
      major =
          major.0;
      minor = minor.0;
      patch = patch.0;
      pre_rel = pre_rel.0;
      meta = meta.0;
    } in
    let same : (read, meta.1) ≡ (v, rest) =
    cc (sym (semver_front-Some text major minor patch numbers.3 numbers.4 numbers.5) ∙ e) in
    let piece = a.0 ++ dot ∷ (b.0 ++ dot ∷ (c.0 ++ (d.0 ++ m.0))) in
    let in_pieces : text ≡ piece ++ meta.1 =
    a.1 ∙ ap (λ (l : List ℕ). a.0 ++ l)
    (at_minor.1 ∙ ap (λ (l : List ℕ). dot ∷ l) (b.1 ∙ ap (λ (l : List ℕ). b.0 ++ l)
    (at_patch.1 ∙ ap (λ (l : List ℕ). dot ∷ l)
    (c.1 ∙ ap (λ (l : List ℕ). c.0 ++ l) (d.1 ∙ ap (λ (l : List ℕ). d.0 ++ l) m.1)))))
    ∙ regroup a.0 b.0 c.0 d.0 m.0 meta.1 in
    let spelled : SpellsSemVer piece read = record {
      major = a.0;
      minor = b.0;
      patch = c.0;
      pre_rel = d.0;
      meta = m.0;
      whole = refl;
      major_is = a.2;
      minor_is = b.2;
      patch_is = c.2;
      pre_rel_is = d.2;
      meta_is = m.2;
    } in
    subst (λ (p : PlainSemVer × List ℕ). (x : List ℕ) × (text ≡ x ++ p.1) × SpellsSemVer x p.0) same
    (piece, in_pieces, spelled)

-- an optional piece and what follows begin with the mark of the piece, or as what follows begins
pub optional_begins : {X : Type 0} (mark : ℕ) (Spells : List ℕ → X → Type 0) (test : ℕ → Bool)
    (piece : List ℕ) (o : Option X) (rest : List ℕ)
    → SpellsOptional mark Spells piece o → test mark ≡ false → begins test rest ≡ false
    → begins test (piece ++ rest) ≡ false
unfolding SpellsOptional
optional_begins mark Spells test piece None rest s other ends = rw s ends
optional_begins mark Spells test piece (Some x) rest s other ends = rw s.1 other

-- A release and metadata, each if it is spelled, parse as these, and what comes before them ends there.
pub record AreEnds (release meta : List ℕ) (r : Option (List PlainChunk)) (m : Option (List ℕ)) : Type 0 where
  pub release_is : optional release_front (release ++ meta) ≡ (r, meta)
  pub meta_is : optional meta_front meta ≡ (m, [])
  pub ends : (test : ℕ → Bool) → test plus ≡ false → test hyphen ≡ false
      → begins test (release ++ meta) ≡ false

pub ends_complete : (release meta : List ℕ) (r : Option (List PlainChunk)) (m : Option (List ℕ))
    → SpellsOptional hyphen SpellsRelease release r → SpellsOptional plus SpellsMetadata meta m
    → AreEnds release meta r m
ends_complete release meta r m release_is meta_is =
    let no_meta = λ (test : ℕ → Bool) (other : test plus ≡ false).
    rw append-nil at (optional_begins plus SpellsMetadata test meta m [] meta_is other refl) in
    record {
      release_is =
          optional_complete hyphen SpellsRelease (dotted_front chunk_front)
          (EndsList (EndsRun is_identifier_byte)) release_complete release r meta
          release_is (no_meta is_identifier_byte refl, no_meta (λ b. b == dot) refl)
          (no_meta (λ b. b == hyphen) refl);
      meta_is =
          rw append-nil at
          (optional_complete plus SpellsMetadata (run_front is_metadata_byte)
          (EndsRun is_metadata_byte) metadata_complete meta m [] meta_is refl refl);
      ends =
          λ test other mark.
          optional_begins hyphen SpellsRelease test release r meta release_is mark (no_meta test other);
    }

pub semver_complete : (text : List ℕ) (v : PlainSemVer) → SpellsSemVer text v
    → semver_front text ≡ Some (v, [])
semver_complete text v s =
    let tail = s.pre_rel ++ s.meta in
    let read = ends_complete s.pre_rel s.meta v.pre_rel v.meta s.pre_rel_is s.meta_is in
    let after_major = dot ∷ (s.minor ++ dot ∷ (s.patch ++ tail)) in
    let after_minor = dot ∷ (s.patch ++ tail) in
    let major : unsigned_front (s.major ++ after_major) ≡ Some (v.major, after_major) =
    unsigned_complete s.major v.major after_major s.major_is refl in
    let minor : behind dot unsigned_front after_major ≡ Some (v.minor, after_minor) =
    unsigned_complete s.minor v.minor after_minor s.minor_is refl in
    let patch : behind dot unsigned_front after_minor ≡ Some (v.patch, tail) =
    unsigned_complete s.patch v.patch tail s.patch_is (read.ends is_ascii_digit refl refl) in
    rw s.whole (semver_front-Some _ (v.major, after_major) (v.minor, after_minor)
    (v.patch, tail) major minor patch ∙ rw (read.release_is, read.meta_is) refl)

-- a text spells at most one version
pub semver_unique : (text : List ℕ) (v w : PlainSemVer) → SpellsSemVer text v → SpellsSemVer text w
    → v ≡ w
semver_unique = spelled_once SpellsSemVer semver_front semver_sound semver_complete

-- if no rest is left, the whole text spells the version
pub semver_whole : (text : List ℕ) (v : PlainSemVer) → semver_front text ≡ Some (v, [])
    → SpellsSemVer text v
semver_whole = whole_spelled SpellsSemVer semver_front semver_sound semver_complete

pub optional_printed : {X : Type 0} (mark : ℕ) (Spells : List ℕ → X → Type 0) (text_of : X → List ℕ)
    → IsPrinted Spells text_of
    → (text : List ℕ) (o : Option X) → SpellsOptional mark Spells text o
    → optional_text mark text_of o ≡ text
unfolding SpellsOptional
optional_printed mark Spells text_of printed text None s = sym s
optional_printed mark Spells text_of printed text (Some x) s =
    rw s.1 (ap (λ (l : List ℕ). mark ∷ l) (printed s.0 x s.2))

pub semver_printed : IsPrinted SpellsSemVer semver_text
semver_printed text v s = grind (arith, optional_printed, release_printed, numeral_printed)

-- a text that spells a version parses as that version
pub semver_of-Some : (text : List ℕ) (v : PlainSemVer) → SpellsSemVer text v
    → semver_of text ≡ Some v
unfolding semver_of
semver_of-Some = whole_read SpellsSemVer semver_front semver_sound semver_complete

pub semver_of-spells : (text : List ℕ) (v : PlainSemVer) → semver_of text ≡ Some v
    → SpellsSemVer text v
unfolding semver_of
semver_of-spells = read_whole SpellsSemVer semver_front semver_sound semver_complete

pub semver_ascii : (text : List ℕ) (v : PlainSemVer) → SpellsSemVer text v → IsAscii text
semver_ascii = of_semver IsAscii IsAscii-nil IsAscii-append metadata_run_ascii sign_ascii
