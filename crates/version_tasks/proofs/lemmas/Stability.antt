-- The text of a version that counts for its stability.
use Rattle.std.proofs.Common.{◌≡◌, ◌-◌, ◌∙◌, ℕ, List, [], ◌∷◌, ◌++◌, length, take, Option, Some, None, ap, arith, append_assoc, append-nil, length-append}
use Rattle.std.proofs.lemmas.List.{take_at}
use Rattle.std.specs.Option.{option_map}
use Rattle.version_order.specs.texts.Bytes.{plus}
use Rattle.version_rules.specs.grammar.Versioning.{PlainVersioning, Ideal, General, Complex, versioning_text}
use Rattle.version_rules.specs.grammar.{SemVer.PlainSemVer, SemVer.optional_text, SemVer.semver_text, Version.PlainVersion, Version.version_text}
use Rattle.version_tasks.specs.Stability.{counted_text}
use Rattle.version_texts.specs.{VersioningRef.bare_semver, VersioningRef.bare_version, VersioningRef.field_span, VersioningRef.span_behind, declared.versioning_ref.field.Field.TheVariants.Metadata}

-- a plus and metadata, or nothing
abbrev meta_text : Option (List ℕ) → List ℕ
meta_text = optional_text plus (λ text. text)

-- the text is what is printed without metadata, and a plus and the metadata
bare_semver_text : (v : PlainSemVer)
    → semver_text v ≡ semver_text (bare_semver v) ++ meta_text v.meta
bare_semver_text v = simp (append_assoc, append-nil)

bare_version_text : (v : PlainVersion)
    → version_text v ≡ version_text (bare_version v) ++ meta_text v.meta
bare_version_text v = simp (append_assoc, append-nil)

-- what stands before the place of metadata and its plus
before_place : (front : List ℕ) (meta : Option (List ℕ)) (start end : ℕ)
    → option_map (span_behind (front ++ plus ∷ [])) meta ≡ Some (start, end)
    → take (start - 1) (front ++ meta_text meta) ≡ front
before_place front None start end e = cc
before_place front (Some meta) start end e =
    let place : span_behind (front ++ plus ∷ []) meta ≡ (start, end) = cc in
    let starts : length (front ++ plus ∷ []) ≡ start = ap (λ (p : ℕ × ℕ). p.0) place in
    take_at front (plus ∷ meta) (start - 1)
    (omega (arith, starts, length-append front (plus ∷ [])))

-- what stands before metadata counts
pub before_metadata : (v : PlainVersioning) (start end : ℕ)
    → field_span Metadata v ≡ Some (start, end)
    → take (start - 1) (versioning_text v) ≡ counted_text v
before_metadata (Ideal v) start end e =
    ap (take (start - 1)) (bare_semver_text v)
    ∙ before_place (semver_text (bare_semver v)) v.meta start end e
before_metadata (General v) start end e =
    ap (take (start - 1)) (bare_version_text v)
    ∙ before_place (version_text (bare_version v)) v.meta start end e
before_metadata (Complex m) start end e = cc
