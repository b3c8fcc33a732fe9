-- Sections of SemVer's versions: identifiers with dots between.
use Rattle.std.proofs.Common.{◌≡◌, ◌==◌, ◌&&◌, ℕ, Bool, true, false, List, [], ◌∷◌, if◌then◌else◌, length, not, refl}
use Rattle.std.proofs.lemmas.Bool.{eqb-true}
use Rattle.std.specs.{Cmp.first_so, Cmp.second_so, List.list_all, List.onto_first}
use Rattle.version_order.specs.texts.{Bytes.dot, Bytes.is_identifier_byte, Bytes.is_metadata_byte, Cuts.pieces, Cuts.is_dot}
use Rattle.version_order.proofs.lemmas.{Bytes.identifier_no_dot, Runs.and-false, Runs.split_some}
use Rattle.scheme_semver.specs.{Texts.allows, Texts.is_identifier, Texts.is_section, declared.reader.Section.Section, declared.reader.Section.TheVariants.Metadata, declared.reader.Section.TheVariants.PreRelease}

-- an identifier has no other bytes
pub allows_no_other : (section : Section) (text : List ℕ) → list_all is_identifier_byte text ≡ false
    → allows section text ≡ false
allows_no_other Metadata text e = and-false (not (length text == 0)) _ e
allows_no_other PreRelease text e = rw (and-false (not (length text == 0)) _ e) refl

-- a section has letters, digits, hyphens and dots alone
abbrev are_identifiers : List (List ℕ) → Bool
are_identifiers = list_all (list_all is_identifier_byte)

allowed_bytes : (section : Section) (text : List ℕ) → allows section text ≡ true
    → list_all is_identifier_byte text ≡ true
allowed_bytes Metadata text is = second_so (not (length text == 0)) _ is
allowed_bytes PreRelease text is = second_so (not (length text == 0)) _ (first_so (is_identifier text) _ is)

all_allowed : (section : Section) (texts : List (List ℕ)) → list_all (allows section) texts ≡ true
    → are_identifiers texts ≡ true
all_allowed section [] is = refl
all_allowed section (text ∷ texts) is =
    rw (allowed_bytes section text (first_so (allows section text) _ is))
    (all_allowed section texts (second_so (allows section text) _ is))

dotted_bytes : (text : List ℕ) → are_identifiers (pieces text) ≡ true → list_all is_metadata_byte text ≡ true
dotted_bytes [] is = refl
dotted_bytes (byte ∷ text) is = by (is_dot byte) refl is (dotted_bytes text)
  where
    grown : (first : List ℕ) (others : List (List ℕ)) → pieces text ≡ first ∷ others
        → are_identifiers (onto_first byte (pieces text)) ≡ true
        → (are_identifiers (pieces text) ≡ true → list_all is_metadata_byte text ≡ true)
        → list_all is_metadata_byte (byte ∷ text) ≡ true
    grown first others e all more =
        let here = rw e at all in
        let bytes = first_so (is_identifier_byte byte && list_all is_identifier_byte first) _ here in
        let behind : are_identifiers (pieces text) ≡ true =
        rw (e, second_so (is_identifier_byte byte) _ bytes)
        (second_so (is_identifier_byte byte && list_all is_identifier_byte first) _ here) in
        rw (first_so (is_identifier_byte byte) _ bytes) (more behind)

    by : (dot_is : Bool) → is_dot byte ≡ dot_is
        → are_identifiers (if dot_is then [] ∷ pieces text else onto_first byte (pieces text)) ≡ true
        → (are_identifiers (pieces text) ≡ true → list_all is_metadata_byte text ≡ true)
        → list_all is_metadata_byte (byte ∷ text) ≡ true
    by true e all more = rw (eqb-true byte dot e) (more all)
    by false e all more =
        let some = split_some is_identifier_byte is_dot identifier_no_dot text in
        grown some.0 some.1 some.2 all more

pub section_bytes : (section : Section) (text : List ℕ) → is_section section text ≡ true
    → list_all is_metadata_byte text ≡ true
section_bytes section text is = dotted_bytes text (all_allowed section (pieces text) is)
