-- The bytes of splits compare as they do.
use Rattle.std.proofs.Common.{◌≡◌, ℕ, List, ◌++◌, Option, Some, None, refl, ◌<◌, ◌^◌, [], true, false, ap, ◌∙◌, arith, ◌∷◌}
use Rattle.std.specs.{FinMap.IsAntisymmetric, FinMap.slice_cmp-IsAntisymmetric, Fmt.decimal, Option.option_cmp, Option.option_map_or, Ordering.ordering_then, Ordering.nat_cmp, Str.Parse.digits_value, declared.cmp.Ordering.Ordering}
use Rattle.std.specs.declared.cmp.Ordering.TheVariants.{Less, Equal, Greater}
use Rattle.version_order.proofs.lemmas.Codes.{writes_on, writes_then, ended_same, in_turn, writes_list, writes_slice}
use Rattle.version_order.proofs.lemmas.{NumberBytes.number_writes, NumberBytes.text_writes, Orders.then_assoc}
use Rattle.version_order.specs.keys.Codes.{Writes, list_bytes, then_equal, number_bytes, text_bytes}
use Rattle.version_order.specs.{keys.Lists.bytes_cmp, keys.Lists.none_last_cmp, texts.Front.is_digits, texts.Front.starts_with_digit}
use Rattle.version_rules.specs.key.Key.{Tail, PreReleased, Bare, Released, Sections, section_bytes, sections_cmp, tail_bytes, tail_cmp, key_of_semver, precedence, key_of, key_tie_cmp}
use Rattle.version_rules.specs.key.PartKey.{Split, numbered_bytes, numbered_cmp, split_bytes, split_cmp, split_of, PartKey, Word, Number, list_cmp, part_bytes, part_cmp, part_key, parts_bytes, suffix_bytes, suffix_of}
use Rattle.version_rules.specs.grammar.{Chunk.PlainChunk, Chunk.Numeric, Chunk.Alphanum, SemVer.PlainSemVer, Versioning.PlainVersioning, Versioning.Ideal, Versioning.General, Versioning.Complex}
use Rattle.version_rules.specs.{laws.Part.parts_same, laws.Part.chunks_same, laws.Part.releases_same, order.Kinds.semver_cmp, order.Orders.versioning_cmp}
use Rattle.version_rules.specs.order.Parts.{chunk_bytes, chunk_cmp, release_bytes, release_cmp}
use Rattle.std.proofs.lemmas.{Fmt.decimal_is_IsNumeral, List.append-nil}
use Rattle.version_rules.proofs.lemmas.Numeral.{decimal-digits, number_front-digits, number_front-none}

numbered_writes : Writes numbered_cmp (λ n. number_bytes n.0 ++ text_bytes n.1)
numbered_writes =
    writes_then (writes_on (λ (n : ℕ × List ℕ). n.0) number_writes)
    (writes_on (λ (n : ℕ × List ℕ). n.1) text_writes)

option_numbered_writes : Writes (option_cmp numbered_cmp) numbered_bytes
option_numbered_writes = record { compares = go }
  where
    go : (a b : Option (ℕ × List ℕ)) (x y : List ℕ)
        → bytes_cmp (numbered_bytes a ++ x) (numbered_bytes b ++ y)
        ≡ ordering_then (option_cmp numbered_cmp a b) (bytes_cmp x y)
    go None None x y = refl
    go None (Some n) x y = refl
    go (Some m) None x y = refl
    go (Some m) (Some n) x y = numbered_writes.compares m n x y

pub split_writes : Writes split_cmp split_bytes
split_writes =
    writes_then (writes_on (λ (s : Split). s.before) text_writes)
    (writes_on (λ (s : Split). s.number) option_numbered_writes)

-- ---- the order of lists of parts is Equal only for the same list, and the bytes of parts and of lists
-- compare as they do.

suffix_writes : Writes (none_last_cmp split_cmp) suffix_bytes
suffix_writes = record { compares = go }
  where
    go : (s t : Option Split) (x y : List ℕ)
        → bytes_cmp (suffix_bytes s ++ x) (suffix_bytes t ++ y)
        ≡ ordering_then (none_last_cmp split_cmp s t) (bytes_cmp x y)
    go None None x y = refl
    go None (Some t) x y = refl
    go (Some s) None x y = refl
    go (Some s) (Some t) x y = split_writes.compares s t x y

pub part_writes : Writes part_cmp part_bytes
part_writes = record { compares = go }
  where
    go : (a b : Option PartKey) (x y : List ℕ)
        → bytes_cmp (part_bytes a ++ x) (part_bytes b ++ y)
        ≡ ordering_then (part_cmp a b) (bytes_cmp x y)
    go (Some (Word v)) (Some (Word w)) x y = split_writes.compares v w x y
    go (Some (Word v)) None x y = refl
    go (Some (Word v)) (Some (Number n t)) x y = refl
    go None (Some (Word w)) x y = refl
    go None None x y = refl
    go None (Some (Number n t)) x y = refl
    go (Some (Number m s)) (Some (Word w)) x y = refl
    go (Some (Number m s)) None x y = refl
    go (Some (Number m s)) (Some (Number n t)) x y =
        in_turn (number_bytes m) (suffix_bytes s) x (number_bytes n) (suffix_bytes t) y
        (nat_cmp m n) (none_last_cmp split_cmp s t) (bytes_cmp x y)
        (number_writes.compares m n (suffix_bytes s ++ x) (suffix_bytes t ++ y)
        ∙ ap (ordering_then (nat_cmp m n)) (suffix_writes.compares s t x y))

pub lists_same : IsAntisymmetric list_cmp
lists_same = ended_same parts_same

pub list_writes : Writes list_cmp parts_bytes
list_writes = writes_list parts_same part_writes

-- ---- the key of a text, by the pieces of the text

pub part_key-digits : (digits rest : List ℕ) → is_digits digits ≡ true
    → starts_with_digit rest ≡ false
    → part_key (digits ++ rest) ≡ Number (digits_value 10 digits) (suffix_of rest)
part_key-digits digits rest run ends = rw (number_front-digits digits rest run ends) refl

pub part_key-word : (text : List ℕ) → starts_with_digit text ≡ false
    → part_key text ≡ Word (split_of text)
part_key-word text other = rw (number_front-none text other) refl

pub part_key-decimal : (n : ℕ) → n < 2 ^ 64 → part_key (decimal n) ≡ Number n None
part_key-decimal n h =
    let plain : part_key (decimal n) ≡ Number (digits_value 10 (decimal n)) None =
    rw append-nil at (part_key-digits (decimal n) [] (decimal-digits n h) refl) in
    plain ∙ ap (λ value. Number value None) (decimal_is_IsNumeral n h).1

-- ---- plain numbers

pub plain_number : (n : ℕ) → n < 2 ^ 32 → part_key (decimal n) ≡ Number n None
plain_number n small = grind (arith, part_key-decimal)

-- ---- the bytes of releases compare as the releases do

chunk_compares : (a b : Option PlainChunk) (x y : List ℕ)
    → bytes_cmp (chunk_bytes a ++ x) (chunk_bytes b ++ y)
    ≡ ordering_then (option_cmp chunk_cmp a b) (bytes_cmp x y)
chunk_compares None None x y = refl
chunk_compares None (Some (Numeric n)) x y = refl
chunk_compares None (Some (Alphanum t)) x y = refl
chunk_compares (Some (Numeric m)) None x y = refl
chunk_compares (Some (Alphanum s)) None x y = refl
chunk_compares (Some (Numeric m)) (Some (Numeric n)) x y = number_writes.compares m n x y
chunk_compares (Some (Numeric m)) (Some (Alphanum t)) x y = refl
chunk_compares (Some (Alphanum s)) (Some (Numeric n)) x y = refl
chunk_compares (Some (Alphanum s)) (Some (Alphanum t)) x y = text_writes.compares s t x y

pub release_writes : Writes release_cmp release_bytes
release_writes = writes_slice chunks_same (record { compares = chunk_compares })

-- ---- the order of tails distinguishes all of them, and their bytes compare as they do

section_writes : Writes (option_cmp list_cmp) section_bytes
section_writes = record { compares = go }
  where
    go : (a b : Option (List PartKey)) (x y : List ℕ)
        → bytes_cmp (section_bytes a ++ x) (section_bytes b ++ y)
        ≡ ordering_then (option_cmp list_cmp a b) (bytes_cmp x y)
    go None None x y = refl
    go None (Some b) x y = refl
    go (Some a) None x y = refl
    go (Some a) (Some b) x y = list_writes.compares a b x y

pub sections_same : IsAntisymmetric sections_cmp
sections_same = slice_cmp-IsAntisymmetric lists_same

pub sections_writes : Writes sections_cmp (list_bytes section_bytes)
sections_writes = writes_slice lists_same section_writes

pub tails_same : IsAntisymmetric tail_cmp
tails_same (PreReleased a) (PreReleased b) e = ap PreReleased (releases_same a b e)
tails_same Bare Bare e = refl
tails_same (Released a) (Released b) e = ap Released (releases_same a b e)
tails_same (Sections a more) (Sections b further) e =
    let same : a ∷ more ≡ b ∷ further = sections_same (a ∷ more) (b ∷ further) e in
    cc same
tails_same _ _ e = cc e

pub tail_writes : Writes tail_cmp tail_bytes
tail_writes = record { compares = go }
  where
    go : (a b : Tail) (x y : List ℕ)
        → bytes_cmp (tail_bytes a ++ x) (tail_bytes b ++ y)
        ≡ ordering_then (tail_cmp a b) (bytes_cmp x y)
    go (PreReleased a) (PreReleased b) x y = release_writes.compares a b x y
    go Bare Bare x y = refl
    go (Released a) (Released b) x y = release_writes.compares a b x y
    go (Sections a more) (Sections b further) x y =
        sections_writes.compares (a ∷ more) (b ∷ further) x y
    go _ _ x y = refl

-- ---- on strict versions precedence is the order of strict versions

-- no pre-release comes last
pre_releases : (a b : Option (List PlainChunk))
    → tail_cmp (option_map_or PreReleased a Bare) (option_map_or PreReleased b Bare)
    ≡ none_last_cmp release_cmp a b
pre_releases None None = refl
pre_releases None (Some b) = refl
pre_releases (Some a) None = refl
pre_releases (Some a) (Some b) = refl

pub precedence_of_semvers : (a b : PlainSemVer)
    → precedence (key_of_semver a) (key_of_semver b) ≡ semver_cmp a b
precedence_of_semvers a b = simp (then_equal, then_assoc, pre_releases)

-- ---- versions compare by their keys, and then by what breaks the tie of these

-- an order followed by itself is the same order
then_twice : (first : Ordering) → ordering_then first Equal ≡ ordering_then first first
then_twice Less = refl
then_twice Equal = refl
then_twice Greater = refl

pub ties_alike : (a b : PlainVersioning)
    → ordering_then (precedence (key_of a) (key_of b)) (key_tie_cmp a b) ≡ versioning_cmp a b
ties_alike (Ideal a) (Ideal b) = grind (arith, then_twice, precedence_of_semvers)
ties_alike (Ideal a) (General b) = refl
ties_alike (Ideal a) (Complex b) = refl
ties_alike (General a) (Ideal b) = refl
ties_alike (General a) (General b) = refl
ties_alike (General a) (Complex b) = refl
ties_alike (Complex a) (Ideal b) = refl
ties_alike (Complex a) (General b) = refl
ties_alike (Complex a) (Complex b) = refl
