-- The laws of orders that contracts of src/laws state: of parts, of releases and of each kind.
use Rattle.std.specs.{Cmp.tied_itself, FinMap.IsAntisymmetric, FinMap.nat_cmp-IsAntisymmetric, Ordering.on, Ordering.ordering_then, declared.cmp.Ordering.TheVariants.Equal}
use Rattle.version_order.proofs.lemmas.Codes.{writes_on, writes_then, writes_alone, writes_canonical, writes_no_prefix}
use Rattle.version_order.proofs.lemmas.NumberBytes.{number_writes, length_bytes-long, length_bytes-short, number_bytes-decimal, number_bytes-zero, text_writes}
use Rattle.version_order.proofs.lemmas.Orders.{equal_where_same, then_same, then_decided}
use Rattle.version_rules.proofs.lemmas.Key.{list_writes, lists_same, tail_writes, tails_same, part_key-decimal, part_key-digits, part_key-word, part_writes, release_writes, split_writes, precedence_of_semvers, sections_same, sections_writes}
use Rattle.version_rules.proofs.lemmas.{Numeral.split_of-digits, Numeral.split_of-no_digit, Texts.keys_are_bytes, Texts.versions_are_bytes, Worked.worked_bytes, Worked.worked_order, Worked.worked_keys}
use Rattle.version_order.specs.{keys.Codes.then_first, keys.Codes.then_second, keys.Codes.then_equal, keys.Codes.Writes, keys.Lists.bytes_cmp, texts.Grammar.PlainSep}
use Rattle.version_rules.specs.grammar.Versioning.{PlainVersioning, Ideal, General, Complex, SameVersioning, versioning_plain_cmp}
use Rattle.version_rules.specs.key.Key.{Key, precedence, key_of, key_of_mess, key_of_semver, key_of_version, sections_tail, key_bytes, Tail, sections_cmp, tail_cmp}
use Rattle.version_rules.specs.key.PartKey.{PartKey, list_cmp, part_cmp, Split, split_cmp}
use Rattle.version_rules.specs.laws.Key.{precedence_total, sections_total, tail_total, keys_tied, mess_cmp_total, version_cmp_total, versioning_cmp_total}
use Rattle.version_rules.specs.laws.Part.{list_total, part_total, parts_same, split_total, splits_same, chunks_cmp_total, last_cmp_total, mchunk_cmp_total, chunk_total, chunks_same, release_total, releases_same}
use Rattle.version_rules.specs.laws.Versioning.{mess_total, messes_same, versioning_plain_total, semver_total, tied_same, version_plain_total, versions_same}
use Rattle.version_rules.specs.order.Parts.{last_plain_cmp, chunks_cmp, last_cmp, mchunk_cmp, chunk_cmp, release_cmp}
use Rattle.version_rules.specs.grammar.{Chunk.PlainChunk, Last.PlainLast, MChunk.PlainMChunk, Mess.PlainMess, Mess.mess_plain_cmp, SemVer.PlainSemVer, Version.PlainVersion}
use Rattle.version_rules.specs.{laws.Last.last_total, laws.Last.lasts_same, laws.Last.mchunks_same, order.Kinds.SameButMetadata, order.Kinds.semver_cmp, order.Kinds.version_plain_cmp}
use Rattle.version_rules.specs.order.Orders.{mess_cmp, version_cmp, versioning_cmp}
use Rattle.std.proofs.Common.{◌≡◌, ◌↔◌, List, Option, ℕ, ◌∷◌, ◌++◌, refl, ◌∙◌, arith}

-- ---- precedence distinguishes all keys, and the bytes of keys compare as the keys do

pub keys_same : IsAntisymmetric precedence
keys_same k l e =
    let behind = then_second _ _ e in
    let epochs = nat_cmp-IsAntisymmetric k.epoch l.epoch (then_first _ _ e) in
    let bodies = lists_same k.body l.body (then_first _ _ behind) in
    let tails = tails_same k.tail l.tail (then_second _ _ behind) in
    λ i. record { epoch = epochs i; body = bodies i; tail = tails i }

pub key_writes : Writes precedence key_bytes
key_writes =
    writes_then (writes_on (λ (k : Key). k.epoch) number_writes)
    (writes_then (writes_on (λ (k : Key). k.body) list_writes)
    (writes_on (λ (k : Key). k.tail) tail_writes))

-- ---- the laws that the contracts of `src/laws/order.rt` state

pub split_equal : (v w : Split) → (split_cmp v w ≡ Equal) ↔ (v ≡ w)
split_equal = equal_where_same split_total splits_same

pub part_equal : (a b : Option PartKey) → (part_cmp a b ≡ Equal) ↔ (a ≡ b)
part_equal = equal_where_same part_total parts_same

pub list_equal : (xs ys : List PartKey) → (list_cmp xs ys ≡ Equal) ↔ (xs ≡ ys)
list_equal = equal_where_same list_total lists_same

pub chunks_equal : (a b : List PlainChunk) → (chunks_cmp a b ≡ Equal) ↔ (a ≡ b)
chunks_equal = equal_where_same chunks_cmp_total (then_same _ releases_same)

pub last_equal : (a b : PlainLast) → (last_cmp a b ≡ Equal) ↔ (a ≡ b)
last_equal = equal_where_same last_cmp_total (then_same _ lasts_same)

pub mchunk_equal : (a b : PlainMChunk) → (mchunk_cmp a b ≡ Equal) ↔ (a ≡ b)
mchunk_equal = equal_where_same mchunk_cmp_total (then_same _ mchunks_same)

pub last_plain_equal : (a b : PlainLast) → (last_plain_cmp a b ≡ Equal) ↔ (a ≡ b)
last_plain_equal = equal_where_same last_total lasts_same

pub chunk_equal : (a b : PlainChunk) → (chunk_cmp a b ≡ Equal) ↔ (a ≡ b)
chunk_equal = equal_where_same chunk_total chunks_same

pub release_equal : (a b : List PlainChunk) → (release_cmp a b ≡ Equal) ↔ (a ≡ b)
release_equal = equal_where_same release_total releases_same

pub ruleset part_laws = (
  length_bytes-short,
  length_bytes-long,
  number_bytes-zero,
  number_bytes-decimal,
  number_writes,
  text_writes,
  split_total,
  split_equal,
  split_writes,
  split_of-no_digit,
  split_of-digits,
  part_total,
  part_equal,
  part_writes,
  part_key-digits,
  part_key-word,
  part_key-decimal,
  list_total,
  list_equal,
  list_writes,
  chunks_cmp_total,
  chunks_equal,
  last_cmp_total,
  last_equal,
  mchunk_cmp_total,
  mchunk_equal,
  last_total,
  last_plain_equal,
  chunk_total,
  chunk_equal,
  release_total,
  release_equal,
  release_writes,
  worked_bytes,
  worked_order,
)

-- ---- the laws that the contracts of `src/laws/order.rt` state, from the laws of the codes

pub sections_equal : (a b : List (List PartKey)) → (sections_cmp a b ≡ Equal) ↔ (a ≡ b)
sections_equal = equal_where_same sections_total sections_same

pub tail_equal : (a b : Tail) → (tail_cmp a b ≡ Equal) ↔ (a ≡ b)
tail_equal = equal_where_same tail_total tails_same

pub precedence_equal : (k l : Key) → (precedence k l ≡ Equal) ↔ (k ≡ l)
precedence_equal = equal_where_same precedence_total keys_same

pub key_bytes_compare : (k l : Key) (x y : List ℕ)
    → bytes_cmp (key_bytes k ++ x) (key_bytes l ++ y)
    ≡ ordering_then (precedence k l) (bytes_cmp x y)
key_bytes_compare = key_writes.compares

pub key_bytes_alone : (k l : Key) → bytes_cmp (key_bytes k) (key_bytes l) ≡ precedence k l
key_bytes_alone = writes_alone key_writes

pub key_bytes_equal : (k l : Key) → (key_bytes k ≡ key_bytes l) ↔ (precedence k l ≡ Equal)
key_bytes_equal = writes_canonical keys_same key_writes

pub key_bytes_apart : (k l : Key) (x y : List ℕ) → ¬ (precedence k l ≡ Equal)
    → bytes_cmp (key_bytes k ++ x) (key_bytes l ++ y) ≡ precedence k l
key_bytes_apart k l x y differ = grind (arith, key_writes, then_decided, then_equal)

pub no_key_begins_another : (k l : Key) (x y : List ℕ) → key_bytes k ++ x ≡ key_bytes l ++ y → k ≡ l
no_key_begins_another = writes_no_prefix keys_same key_writes

pub version_equal : (a b : PlainVersion) → (version_plain_cmp a b ≡ Equal) ↔ (a ≡ b)
version_equal = equal_where_same version_plain_total versions_same

pub mess_equal : (a b : PlainMess) → (mess_plain_cmp a b ≡ Equal) ↔ (a ≡ b)
mess_equal = equal_where_same mess_total messes_same

-- versions that are the same except for their metadata tie
same_tied : (a b : PlainSemVer) → SameButMetadata a b → semver_cmp a b ≡ Equal
same_tied a b same =
    rw (same.major, same.minor, same.patch, same.pre_rel) (tied_itself semver_total b)

pub versioning_equal : (a b : PlainVersioning)
    → (versioning_plain_cmp a b ≡ Equal) ↔ SameVersioning a b
versioning_equal (Ideal a) (Ideal b) = (tied_same a b, same_tied a b)
versioning_equal (General a) (General b) = version_equal a b
versioning_equal (Complex a) (Complex b) = mess_equal a b
versioning_equal (Ideal a) (General b) = (λ e. cc e, λ s. absurd s)
versioning_equal (Ideal a) (Complex b) = (λ e. cc e, λ s. absurd s)
versioning_equal (General a) (Ideal b) = (λ e. cc e, λ s. absurd s)
versioning_equal (General a) (Complex b) = (λ e. cc e, λ s. absurd s)
versioning_equal (Complex a) (Ideal b) = (λ e. cc e, λ s. absurd s)
versioning_equal (Complex a) (General b) = (λ e. cc e, λ s. absurd s)

-- ---- the orders by keys, and then field by field

pub version_cmp_equal : (a b : PlainVersion) → (version_cmp a b ≡ Equal) ↔ (a ≡ b)
version_cmp_equal =
    equal_where_same version_cmp_total (then_same (on key_of_version precedence) versions_same)

pub mess_cmp_equal : (a b : PlainMess) → (mess_cmp a b ≡ Equal) ↔ (a ≡ b)
mess_cmp_equal = equal_where_same mess_cmp_total (then_same (on key_of_mess precedence) messes_same)

pub versioning_cmp_equal : (a b : PlainVersioning)
    → (versioning_cmp a b ≡ Equal) ↔ SameVersioning a b
versioning_cmp_equal a b = grind (arith, versioning_equal, then_second, keys_tied)

pub versioning_cmp_refines : (a b : PlainVersioning) → ¬ (precedence (key_of a) (key_of b) ≡ Equal)
    → versioning_cmp a b ≡ precedence (key_of a) (key_of b)
versioning_cmp_refines a b differ =
    then_decided _ (versioning_plain_cmp a b) Equal differ ∙ then_equal _

pub semver_equal : (a b : PlainSemVer) → (semver_cmp a b ≡ Equal) ↔ SameButMetadata a b
semver_equal a b = (tied_same a b, same_tied a b)

-- metadata and the signs between sections are not in a key
pub semver_metadata : (v : PlainSemVer) (meta : Option (List ℕ))
    → key_of_semver (record v { meta = meta }) ≡ key_of_semver v
semver_metadata v meta = refl

pub version_metadata : (v : PlainVersion) (meta : Option (List ℕ))
    → key_of_version (record v { meta = meta }) ≡ key_of_version v
version_metadata v meta = refl

pub signs : (sign other : PlainSep) (section : List PlainMChunk)
    (more : List (PlainSep × List PlainMChunk))
    → sections_tail ((sign, section) ∷ more) ≡ sections_tail ((other, section) ∷ more)
signs sign other section more = refl

pub ruleset laws = (
  sections_total,
  sections_equal,
  sections_writes,
  tail_total,
  tail_equal,
  tail_writes,
  precedence_total,
  precedence_equal,
  key_bytes_compare,
  key_bytes_alone,
  key_bytes_equal,
  key_bytes_apart,
  no_key_begins_another,
  precedence_of_semvers,
  version_plain_total,
  version_equal,
  mess_total,
  mess_equal,
  versioning_plain_total,
  versioning_equal,
  version_cmp_total,
  version_cmp_equal,
  mess_cmp_total,
  mess_cmp_equal,
  versioning_cmp_total,
  versioning_cmp_equal,
  versioning_cmp_refines,
  semver_total,
  semver_equal,
  keys_are_bytes,
  versions_are_bytes,
  semver_metadata,
  version_metadata,
  signs,
  worked_keys,
)
