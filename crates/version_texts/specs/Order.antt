-- What breaks the ties of keys, and where two versions differ first.
use Rattle.std.specs.Option.{option_cmp, option_map_or, option_map, option_or, unwrap_or}
use Rattle.std.specs.Prelude.{◌==◌, ◌&&◌, ◌||◌, ℕ, Bool, List, drop, length, if◌then◌else◌, ◌/◌, ◌%◌, suc, [], ◌∷◌, Option, Some, None}
use Rattle.std.specs.{Char.is_ascii_alphabetic, Char.is_ascii_digit, Cmp.Lexicographic.slice_cmp, List.prefix_len, List.take_while, Ordering.nat_cmp, Ordering.on, Ordering.then_cmp, Ordering.is_eq, declared.cmp.Ordering.Ordering}
use Rattle.std.specs.declared.cmp.Ordering.TheVariants.{Less, Equal, Greater}
use Rattle.version_order.specs.{keys.Lists.bytes_cmp, keys.Lists.split_last, texts.Bytes.dot, texts.Bytes.is_section_byte, texts.Cuts.pieces, texts.Front.begins, texts.Front.behind_digits, texts.Grammar.sep_of, texts.Grammar.sep_rank}
use Rattle.version_texts.specs.declared.order.difference.Difference.TheVariants.{Same, Tie, Epoch, Part, Tail}
use Rattle.version_texts.specs.{Scan.body_start, Scan.from_body, Scan.is_numeral, declared.order.difference.Difference.Difference}
use Rattle.version_rules.specs.declared.kind.{Kind.Kind, Kind.TheVariants.Ideal, Kind.TheVariants.General, Kind.TheVariants.Complex}
use Rattle.version_rules.specs.{grammar.Versioning.PlainVersioning, grammar.Versioning.versioning_plain_cmp, key.Key.Key, key.Key.key_of, key.Key.tail_cmp, key.PartKey.PartKey, key.PartKey.part_cmp}

-- ---- how two versions of one key compare field by field, by their texts

-- ---- messy versions

-- the place of a byte: signs in the order of declaration, then the dot, then digits and letters
abbrev pub byte_place : ℕ → ℕ
byte_place b = option_map_or sep_rank (sep_of b) (if b == dot then 5 else b)

-- two messy versions: byte by byte, a prefix first
abbrev pub messy_tie : List ℕ → List ℕ → Ordering
messy_tie = slice_cmp (on byte_place nat_cmp)

-- ---- general versions

-- what follows the letters that a text begins with
abbrev pub after_letters : List ℕ → List ℕ
after_letters text = drop (prefix_len is_ascii_alphabetic text) text

-- letters, and then nothing or a numeral
abbrev pub is_lettered : List ℕ → Bool
is_lettered text =
    begins is_ascii_alphabetic text && (length (after_letters text) == 0 || is_numeral
    (after_letters text))

-- whether a part is decomposed where it stands last: a numeral and letters, and then nothing or a
-- numeral
abbrev pub is_numbered : List ℕ → Bool
is_numbered text = is_lettered (behind_digits text) && is_numeral (take_while is_ascii_digit text)

-- two last parts: one that is decomposed first, two that are not by bytes
abbrev pub last_tie : List ℕ → List ℕ → Ordering
last_tie a b =
    if is_numbered a then (if is_numbered b then Equal else Less)
    else (if is_numbered b then Greater else bytes_cmp a b)

-- two lists of parts: by those before the last, a prefix first, then by the last
abbrev pub parts_tie : List (List ℕ) → List (List ℕ) → Ordering
parts_tie =
    on split_last
    (option_cmp
    (then_cmp (on (λ (split : List (List ℕ) × List ℕ). split.0) (slice_cmp bytes_cmp))
    (on (λ (split : List (List ℕ) × List ℕ). split.1) last_tie)))

-- two texts that begin with a body: by its parts, then by what follows it
abbrev pub bodies_tie : List ℕ → List ℕ → Ordering
bodies_tie =
    then_cmp (on (λ text. pieces (take_while is_section_byte text)) parts_tie)
    (on (λ text. drop (prefix_len is_section_byte text) text) bytes_cmp)

-- two general versions: no epoch first, then from the body on
abbrev pub general_tie : List ℕ → List ℕ → Ordering
general_tie = then_cmp (on body_start nat_cmp) (on from_body bodies_tie)

-- ---- what breaks the tie of the keys of two texts whose kinds are known

-- the place of a kind among the three
abbrev pub kind_place : Kind → ℕ
kind_place Ideal = 0
kind_place General = 1
kind_place Complex = 2

-- two kinds and texts whose keys tie: strict before general before messy; strict texts are alike,
-- others compare field by field
abbrev pub texts_tie : Kind × List ℕ → Kind × List ℕ → Ordering
texts_tie (General, a) (General, b) = general_tie a b
texts_tie (Complex, a) (Complex, b) = messy_tie a b
texts_tie (kind, a) (other, b) = nat_cmp (kind_place kind) (kind_place other)

-- the number that a kind is marked on
abbrev pub marked_number : ℕ → ℕ
marked_number marked = marked / 4

-- the kind that is marked on it
abbrev pub kind_on : ℕ → Kind
kind_on marked = if marked % 4 == 0 then Ideal else (if marked % 4 == 1 then General else Complex)

-- ---- where two versions differ first

-- the number of the first part that two lists differ in, counted from 0, or None if they differ in
-- none; a list that ends where the other goes on differs from it there
abbrev pub first_differing : List PartKey → List PartKey → Option ℕ
first_differing [] [] = None
first_differing (p ∷ ps) (q ∷ qs) =
    if is_eq (part_cmp (Some p) (Some q)) then option_map suc (first_differing ps qs) else Some 0
first_differing ps qs = Some 0

-- the tail, if two keys differ in it
abbrev pub tail_difference : Key → Key → Option Difference
tail_difference k l = if is_eq (tail_cmp k.tail l.tail) then None else Some Tail

-- where two keys differ first: in their epochs, else in a part of their bodies, else in their tails
abbrev pub key_difference : Key → Key → Option Difference
key_difference k l =
    if k.epoch == l.epoch
    then option_or (option_map Part (first_differing k.body l.body)) (tail_difference k l)
    else Some Epoch

-- where two versions differ first: where their keys do; if these are equal, they are the same
-- version, except for metadata of strict ones, or they tie
abbrev pub difference_of : PlainVersioning → PlainVersioning → Difference
difference_of a b =
    unwrap_or (key_difference (key_of a) (key_of b))
    (if is_eq (versioning_plain_cmp a b) then Same else Tie)
