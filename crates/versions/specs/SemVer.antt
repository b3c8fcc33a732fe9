-- The strict version that an owned or a scanned value holds, and what a hash is fed of it.
use Rattle.std.specs.{Hash.HashWrites, Option.option_map, Prelude.◌++◌, Str.Parse.digits_value, String.string_bytes}
use Rattle.version_rules.specs.grammar.{Chunk.SpellsNumeral, SemVer.PlainSemVer}
use Rattle.version_parts.specs.Body.{plain_release, release_fed}
use Rattle.versions.specs.declared.semver.{SemVer.SemVer, SemVerRef.SemVerRef, SemVerText.SemVerText}
use Rattle.std.specs.Hash as fed

-- the version that a value holds
abbrev pub plain_semver : SemVer → PlainSemVer
plain_semver v = record {
  major = v.major;
  minor = v.minor;
  patch = v.patch;
  pre_rel = option_map plain_release v.pre_rel;
  meta = option_map string_bytes v.meta;
}

-- the version that a scanned value holds
abbrev pub plain_semver_ref : SemVerRef → PlainSemVer
plain_semver_ref p = record {
  major = p.major;
  minor = p.minor;
  patch = p.patch;
  pre_rel = p.pre_rel;
  meta = option_map (λ text. text.now) p.meta;
}

-- the version that a scanned text holds; below, whether the digits of its numbers are numerals
abbrev pub semver_of_text : SemVerText → PlainSemVer
semver_of_text p = record {
  major = digits_value 10 p.major.now;
  minor = digits_value 10 p.minor.now;
  patch = digits_value 10 p.patch.now;
  pre_rel = p.pre_rel;
  meta = option_map (λ text. text.now) p.meta;
}

abbrev pub IsSemVerText : SemVerText → Type 0
IsSemVerText p =
    SpellsNumeral p.major.now (digits_value 10 p.major.now)
    × SpellsNumeral p.minor.now (digits_value 10 p.minor.now)
    × SpellsNumeral p.patch.now (digits_value 10 p.patch.now)

-- what a hash is fed with: the three numbers and the release, without the metadata
abbrev pub semver_fed : PlainSemVer → HashWrites
semver_fed v =
    fed.u32 v.major ++ (fed.u32 v.minor ++ (fed.u32 v.patch ++ fed.option release_fed v.pre_rel))
