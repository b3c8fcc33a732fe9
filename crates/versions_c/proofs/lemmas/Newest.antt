-- The texts that are wanted are those that a caller asks for by numbers.
use Rattle.std.proofs.Common.{◌≡◌, ◌↔◌, ◌≤◌, ◌+◌, ℕ, List, IfSome, arith, ◌<◌, ◌-◌, ◌∙◌, [], drop, take, length, slice_index, Option, Some, None, sym, ap}
use Rattle.version_rules.specs.{grammar.Versioning.PlainVersioning, grammar.Versioning.versioning_text, requirement.Matching.MatchesAll, requirement.Requirement.PlainRequirement}
use Rattle.version_tasks.specs.{Stability.rank, Tag.version_in_tag, declared.stability.Stability.Stability}
use Rattle.version_requirements.specs.{Newest.IsWanted, declared.newest.Wanted.Wanted}
use Rattle.versions_c.specs.{Newest.IsAsked, Newest.IsNewestPlace, Newest.IsStart, Ranges.has_flag, declared.newest.TheConstants.TAGS}
use Rattle.std.proofs.lemmas.List.{drop-drop, drop-take, length-take}
use Rattle.std.specs.{List.slice_range, Option.option_map, Option.option_map_or}

-- what is wanted is what is asked for, if the three parts are
pub asked_alike : (wanted : Wanted) (list : List PlainRequirement) (least flags : ℕ)
    → wanted.in_tags ≡ has_flag flags TAGS
    → ((v : PlainVersioning) → IfSome wanted.list (λ l. MatchesAll l.now v) ↔ MatchesAll list v)
    → ((s : Stability) → IfSome wanted.least (λ floor. rank floor ≤ rank s)
    ↔ (least ≤ rank s + 1))
    → (text : List ℕ) (v : PlainVersioning) → IsWanted wanted text v
    ↔ IsAsked list least flags text v
asked_alike wanted list least flags in_tags matched stable text v = grind arith

-- candidates that are alike have one newest
pub newest_alike : (one other : ℕ → PlainVersioning → Type 0)
    → ((i : ℕ) (v : PlainVersioning) → one i v → other i v)
    → ((i : ℕ) (v : PlainVersioning) → other i v → one i v)
    → (count place : ℕ) → IsNewestPlace one count place → IsNewestPlace other count place
newest_alike one other there back count place found = grind arith

-- ---- where the version in a tag begins in the buffer

-- the rest of a piece of a buffer, from a place within the piece on
rest_of_piece : (texts : List ℕ) (from until start : ℕ) → from + start ≤ until
    → slice_range texts (from + start) until ≡ drop start (slice_range texts from until)
rest_of_piece texts from until start within =
    let left : start + (until - (from + start)) ≡ until - from = omega (arith, within) in
    ap (take (until - (from + start))) (sym (drop-drop start from texts))
    ∙ sym (drop-take start (until - (from + start)) (drop from texts))
    ∙ ap (λ n. drop start (take n (drop from texts))) left

found : (version : Option PlainVersioning) (rest : List ℕ)
    → Some rest ≡ option_map versioning_text version
    → rest ≡ option_map_or versioning_text version []
found None rest e = cc
found (Some v) rest e = cc

-- the place that is found in a tag, counted from where the buffer begins
pub start_found : (texts offsets : List ℕ) (i start : ℕ)
    → let tag = slice_range texts (slice_index offsets i) (slice_index offsets (i + 1)) in
    start < length tag
    → Some (drop start tag) ≡ option_map versioning_text (version_in_tag tag)
    → IsStart texts offsets i (slice_index offsets i + start)
start_found texts offsets i start within version = grind (arith, length-take, rest_of_piece, found)
