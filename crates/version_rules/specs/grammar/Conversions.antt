-- Conversions of versions to a more lenient kind.
use Rattle.std.specs.Prelude.{ℕ, List, [], ◌∷◌, ◌++◌, ◌||◌, if◌then◌else◌, is_some, map, Option, Some, None}
use Rattle.std.specs.{Fmt.decimal, declared.cmp.Ordering.Ordering, declared.cmp.Ordering.TheVariants.Less, declared.cmp.Ordering.TheVariants.Equal}
use Rattle.version_rules.specs.grammar.{Chunk.PlainChunk, Last.PlainLast, Last.last_text, MChunk.PlainMChunk, MChunk.Digits, MChunk.Plain, Mess.Further, Mess.PlainMess, Mess.Section, SemVer.PlainSemVer, Version.PlainVersion}
use Rattle.version_order.specs.texts.Grammar.{Colon, Hyphen, Plus}
use Rattle.version_rules.specs.grammar.Chunk as chunk
use Rattle.version_rules.specs.grammar.Last as last

-- a strict version as a general one: its first two numbers are the chunks, the third the last part
abbrev pub version_of_semver : PlainSemVer → PlainVersion
version_of_semver v = record {
  epoch = None;
  chunks = chunk.Numeric v.major ∷ chunk.Numeric v.minor ∷ [];
  last = last.Numeric v.patch;
  release = v.pre_rel;
  meta = v.meta;
}

-- how a version compares with a messy one that prints the same: less if it has a release or
-- metadata, else equal
abbrev pub below_sections : Option (List PlainChunk) → Option (List ℕ) → Ordering
below_sections release meta = if is_some release || is_some meta then Less else Equal

-- a number as digits
abbrev pub digits_of_number : ℕ → PlainMChunk
digits_of_number n = Digits n (decimal n)

-- a chunk as a messy one: a number as digits, and a text as it is
abbrev pub mchunk_of : PlainChunk → PlainMChunk
mchunk_of (chunk.Numeric n) = digits_of_number n
mchunk_of (chunk.Alphanum text) = Plain text

-- a last part as a messy chunk: a number as digits, and any other by its printed text
abbrev pub mchunk_of_last : PlainLast → PlainMChunk
mchunk_of_last (last.Numeric n) = digits_of_number n
mchunk_of_last part = Plain (last_text part)

-- the section of a body
abbrev pub body_section : List PlainChunk → PlainLast → Section
body_section chunks part = map mchunk_of chunks ++ mchunk_of_last part ∷ []

-- a release as a section after a hyphen, if there is one
abbrev pub release_section : Option (List PlainChunk) → List Further
release_section None = []
release_section (Some chunks) = (Hyphen, map mchunk_of chunks) ∷ []

-- metadata as a section of one text after a plus, if there is any
abbrev pub meta_section : Option (List ℕ) → List Further
meta_section None = []
meta_section (Some text) = (Plus, Plain text ∷ []) ∷ []

-- a body after an epoch, if there is one: a section of the digits of the epoch, then a colon
abbrev pub behind_epoch : Option ℕ → Section → List Further → PlainMess
behind_epoch None body more = record { first = body; more = more }
behind_epoch (Some n) body more =
    record { first = digits_of_number n ∷ []; more = (Colon, body) ∷ more }

-- a general version as a messy one
abbrev pub mess_of_version : PlainVersion → PlainMess
mess_of_version v =
    behind_epoch v.epoch (body_section v.chunks v.last)
    (release_section v.release ++ meta_section v.meta)

-- a strict version as a messy one, by way of the general one
abbrev pub mess_of_semver : PlainSemVer → PlainMess
mess_of_semver v = mess_of_version (version_of_semver v)
