-- The key of a version of any kind, and precedence: the one order of all versions.
use Rattle.std.specs.Prelude.{ℕ, List, [], ◌∷◌, ◌++◌, map, if◌then◌else◌, Option, Some, None}
use Rattle.std.specs.{Cmp.Lexicographic.slice_cmp, Option.option_map_or, Option.unwrap_or, Ordering.nat_cmp, Ordering.on, Ordering.then_cmp, Str.Parse.digits_value, declared.cmp.Ordering.Ordering, declared.cmp.Ordering.TheVariants.Equal}
use Rattle.version_order.specs.{keys.Codes.list_bytes, keys.Codes.number_bytes, texts.Front.is_digits, texts.Grammar.PlainSep, texts.Grammar.Colon}
use Rattle.version_rules.specs.grammar.Versioning.{PlainVersioning, Ideal, General, Complex, versioning_plain_cmp}
use Rattle.version_rules.specs.key.PartKey.{PartKey, Number, chunk_parts, list_cmp, part_key, section_parts, parts_bytes}
use Rattle.version_rules.specs.grammar.{Chunk.PlainChunk, Last.last_text, MChunk.PlainMChunk, MChunk.mchunk_text, Mess.PlainMess, Mess.Further, SemVer.PlainSemVer, Version.PlainVersion}
use Rattle.version_rules.specs.order.Parts.{release_bytes, release_cmp}

-- ---- what a key holds after its body, how two such tails compare, and their bytes

-- a strict pre-release, nothing, a general release, or further messy sections, at least one
pub data Tail : Type 0 where
  PreReleased : List PlainChunk → Tail
  Bare : Tail
  Released : List PlainChunk → Tail
  Sections : List PartKey → List (List PartKey) → Tail

-- the rank of a kind of tail
abbrev pub tail_rank : Tail → ℕ
tail_rank (PreReleased chunks) = 1
tail_rank Bare = 2
tail_rank (Released chunks) = 3
tail_rank (Sections first more) = 4

-- two lists of sections: section by section, a prefix first
abbrev pub sections_cmp : List (List PartKey) → List (List PartKey) → Ordering
sections_cmp = slice_cmp list_cmp

-- two tails of one kind, by what they hold
abbrev pub same_rank_cmp : Tail → Tail → Ordering
same_rank_cmp (PreReleased a) (PreReleased b) = release_cmp a b
same_rank_cmp (Released a) (Released b) = release_cmp a b
same_rank_cmp (Sections a further_a) (Sections b further_b) =
    sections_cmp (a ∷ further_a) (b ∷ further_b)
same_rank_cmp _ _ = Equal

-- two tails: by kind, and then by what they hold
abbrev pub tail_cmp : Tail → Tail → Ordering
tail_cmp = then_cmp (on tail_rank nat_cmp) same_rank_cmp

-- the bytes of a section: 2 and its parts; the end of the sections is 1
abbrev pub section_bytes : Option (List PartKey) → List ℕ
section_bytes None = 1 ∷ []
section_bytes (Some parts) = 2 ∷ parts_bytes parts

-- the bytes of what a tail holds
abbrev pub held_bytes : Tail → List ℕ
held_bytes (PreReleased chunks) = release_bytes chunks
held_bytes Bare = []
held_bytes (Released chunks) = release_bytes chunks
held_bytes (Sections first more) = list_bytes section_bytes (first ∷ more)

-- the bytes of a tail: its rank, then what it holds
abbrev pub tail_bytes : Tail → List ℕ
tail_bytes tail = tail_rank tail ∷ held_bytes tail

-- what versions are compared by
pub record Key : Type 0 where
  pub epoch : ℕ
  pub body : List PartKey
  pub tail : Tail

-- how two keys compare: by epoch, then by body, then by tail
abbrev pub precedence : Key → Key → Ordering
precedence =
    then_cmp (on (λ (k : Key). k.epoch) nat_cmp)
    (then_cmp (on (λ (k : Key). k.body) list_cmp)
    (on (λ (k : Key). k.tail) tail_cmp))

-- a plain number
abbrev pub plain : ℕ → PartKey
plain n = Number n None

-- the body of a strict version: its three numbers
abbrev pub strict_body : ℕ → ℕ → ℕ → List PartKey
strict_body major minor patch = plain major ∷ plain minor ∷ plain patch ∷ []

-- the key of a strict version: its three numbers, then its pre-release
abbrev pub key_of_semver : PlainSemVer → Key
key_of_semver v = record {
  epoch = 0;
  body = strict_body v.major v.minor v.patch;
  tail = option_map_or PreReleased v.pre_rel Bare;
}

-- the key of a general version: its epoch, or 0 without one, its chunks and its last part, then its
-- release
abbrev pub key_of_version : PlainVersion → Key
key_of_version v = record {
  epoch = unwrap_or v.epoch 0;
  body = chunk_parts v.chunks ++ part_key (last_text v.last) ∷ [];
  tail = option_map_or Released v.release Bare;
}

-- the tail of the sections after the body
abbrev pub sections_tail : List (PlainSep × List PlainMChunk) → Tail
sections_tail [] = Bare
sections_tail (section ∷ more) =
    Sections (section_parts section.1) (map (λ further. section_parts further.1) more)

-- the epoch of a first section that a colon follows: one chunk of digits
abbrev pub section_epoch : List PlainMChunk → Option ℕ
section_epoch (chunk ∷ []) =
    if is_digits (mchunk_text chunk) then Some (digits_value 10 (mchunk_text chunk)) else None
section_epoch chunks = None

-- the key of sections whose first is the body
abbrev pub key_of_sections : ℕ → List PlainMChunk → List (PlainSep × List PlainMChunk) → Key
key_of_sections epoch body more =
    record { epoch = epoch; body = section_parts body; tail = sections_tail more }

-- the key of sections as a messy version, after an epoch
abbrev pub key_with_epoch : ℕ → PlainMess → Key
key_with_epoch epoch m = key_of_sections epoch m.first m.more

-- a first section that may be the epoch is the epoch if a colon follows; otherwise it is the body,
-- and the epoch is 0
abbrev pub key_behind_epoch : Option ℕ → List PlainMChunk → List (PlainSep × List PlainMChunk) → Key
key_behind_epoch (Some epoch) first ((Colon, body) ∷ more) = key_of_sections epoch body more
key_behind_epoch may_be_epoch first more = key_of_sections 0 first more

-- the key of a first section, which may be the epoch, and of the sections after it
abbrev pub key_from_first : List PlainMChunk → List (PlainSep × List PlainMChunk) → Key
key_from_first first more = key_behind_epoch (section_epoch first) first more

-- the key of a messy version: its epoch, the section after it, then the further sections; other
-- signs do not count
abbrev pub key_of_mess : PlainMess → Key
key_of_mess m = key_from_first m.first m.more

-- the key of a version of any kind
abbrev pub key_of : PlainVersioning → Key
key_of (Ideal v) = key_of_semver v
key_of (General v) = key_of_version v
key_of (Complex m) = key_of_mess m

-- the epoch of a messy version: its first section, if it may be the epoch and a colon follows
abbrev pub mess_epoch : List PlainMChunk → List (PlainSep × List PlainMChunk) → Option ℕ
mess_epoch first ((Colon, body) ∷ more) = section_epoch first
mess_epoch first more = None

-- the epoch that counts in the order, if the version has one; a strict version has none
abbrev pub versioning_epoch : PlainVersioning → Option ℕ
versioning_epoch (Ideal v) = None
versioning_epoch (General v) = v.epoch
versioning_epoch (Complex m) = mess_epoch m.first m.more

-- ---- the bytes of a key, which compare as precedence does

-- the epoch, the parts of the body with their end, and the tail
abbrev pub key_bytes : Key → List ℕ
key_bytes k = number_bytes k.epoch ++ (parts_bytes k.body ++ tail_bytes k.tail)

-- the bytes of further messy sections, and of their end
abbrev pub further_bytes : List Further → List ℕ
further_bytes more = list_bytes section_bytes (map (λ further. section_parts further.1) more)

-- ---- what breaks the tie of the keys of two versions

-- two versions whose keys tie: strict ones are alike, others compare by kind, then field by field
abbrev pub key_tie_cmp : PlainVersioning → PlainVersioning → Ordering
key_tie_cmp (Ideal a) (Ideal b) = Equal
key_tie_cmp a b = versioning_plain_cmp a b
