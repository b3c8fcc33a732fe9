-- The stream of a key, what follows its parts, and ranges.
use Rattle.std.proofs.Common.{◌≡◌, ℕ, List, [], ◌∷◌, ◌++◌, map, Some, None, sym, ap, ◌∙◌, append_assoc, append-nil, Option, refl, Result, Ok, Err, IfOk, Vec, ◌<◌, length, get_or, arith, subst}
use Rattle.version_parts.specs.{Chunk.plain_chunk, declared.chunk.Chunk.Chunk}
use Rattle.version_order.specs.keys.{Codes.items_bytes, Lists.bytes_cmp}
use Rattle.version_rules.specs.key.Key.{Bare, PreReleased, Released, tail_bytes, Key, precedence, key_bytes}
use Rattle.version_rules.specs.{grammar.Chunk.PlainChunk, grammar.Versioning.PlainVersioning, key.PartKey.PartKey, key.PartKey.chunk_parts, key.PartKey.part_bytes, key.PartKey.parts_bytes, order.Parts.release_bytes}
use Rattle.version_rules.specs.requirement.{Matching.MatchesAll, Matching.Matches, Range.IsIn, Range.range_of, Requirement.PlainRequirement}
use Rattle.version_parts.proofs.lemmas.Keys.{chunk_parts-map, key_of_chunk}
use Rattle.std.specs.{Option.option_map, Option.option_map_or, declared.alloc.Global.Global, declared.cmp.Ordering.TheVariants.Equal}
use Rattle.versions.specs.{KeyStream.release_tail, Requirements.plain_range, Requirements.plain_requirement, declared.range.Range.Range, declared.requirement.Requirement.Requirement}
use Rattle.version_rules.proofs.lemmas.{Order.key_bytes_apart, Range.list_in}
use Rattle.std.proofs.lemmas.List.{get_or-map, length-map}

-- ---- the parts of a body in a key, from what remains of them

-- the parts of a body, and the last part after them
last_written : (keys : List PartKey) (last : PartKey)
    → items_bytes part_bytes keys ++ (part_bytes (Some last) ++ part_bytes None)
    ≡ parts_bytes (keys ++ last ∷ [])
last_written [] last =
    ap (λ (l : List ℕ). part_bytes (Some last) ++ l) (sym (append-nil (part_bytes None)))
last_written (key ∷ keys) last =
    append_assoc (part_bytes (Some key)) (items_bytes part_bytes keys)
    (part_bytes (Some last) ++ part_bytes None)
    ∙ ap (λ (l : List ℕ). part_bytes (Some key) ++ l) (last_written keys last)

pub parts_written : (chunks : List Chunk) (last : PartKey)
    → items_bytes part_bytes (map key_of_chunk chunks)
    ++ (part_bytes (Some last) ++ part_bytes None)
    ≡ parts_bytes (chunk_parts (map plain_chunk chunks) ++ last ∷ [])
parts_written chunks last =
    last_written (map key_of_chunk chunks) last
    ∙ ap (λ keys. parts_bytes (keys ++ last ∷ [])) (chunk_parts-map chunks)

-- ---- what remains of a release to be written is the tail of the release

pub pre_release_written : (o : Option (List PlainChunk))
    → release_tail 1 (option_map release_bytes o) ≡ tail_bytes (option_map_or PreReleased o Bare)
pre_release_written None = refl
pre_release_written (Some chunks) = refl

pub release_written : (o : Option (List PlainChunk))
    → release_tail 3 (option_map release_bytes o) ≡ tail_bytes (option_map_or Released o Bare)
release_written None = refl
release_written (Some chunks) = refl

-- ---- ranges that a loop makes narrower, member by member

-- the first of the range that a call returns, if it returns one
pub list_within : {E : Type 0} (list : List PlainRequirement) (result : Result Range E)
    → IfOk result (λ range. plain_range range ≡ range_of list)
    → IfOk result (λ range. (v : PlainVersioning) → MatchesAll list v → IsIn (plain_range range) v)
list_within list (Ok range) is = λ v all. rw is (list_in list v all)
list_within list (Err e) is = is

-- ---- the bytes of a key as a list, compared with those of any other key

-- whatever bytes follow, they compare as the keys do, if the keys differ
pub stays_apart : {E : Type 0} (r : Result (Vec ℕ Global) E) (k : Key)
    → IfOk r (λ list. list.items ≡ key_bytes k)
    → IfOk r (λ list. (l : Key) (x y : List ℕ) → ¬ (precedence k l ≡ Equal)
    → bytes_cmp (list.items ++ x) (key_bytes l ++ y) ≡ precedence k l)
stays_apart (Ok list) k is = λ l x y differ. rw is (key_bytes_apart k l x y differ)
stays_apart (Err e) k is = is

-- ---- what a list of requirements matches, from what its members match

-- if all members match a version, so does the member at a place
pub member : (list : List Requirement) (v : PlainVersioning) (n : ℕ) (d : Requirement)
    → n < length list → MatchesAll (map plain_requirement list) v
    → Matches (plain_requirement (get_or list n d)) v
member list v n d fits all =
    let long = length-map list plain_requirement in
    subst (λ (r : PlainRequirement). Matches r v)
    (get_or-map plain_requirement list n d (plain_requirement d) fits)
    (all n (plain_requirement d) (omega (arith, long)))
