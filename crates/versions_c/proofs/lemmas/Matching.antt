-- An answer for a text, by whether its version matches.
use Rattle.std.proofs.Common.{◌≡◌, ◌⊎◌, List, Option, Some, inl, inr, refl, ◌∙◌, ◌<◌, ◌≤◌, ◌^◌, ℕ, Bool, [], ◌∷◌, ◌++◌, None, IfSome, drop, take, length, nat_le, true, false, ap, arith, sym, ◌↔◌, IsSomeAnd, IsTrue, is_some}
use Rattle.version_rules.specs.requirement.Range.{inexact_members, inexact_text, PlainRange, range_of, IsIn}
use Rattle.version_rules.specs.{grammar.Versioning.PlainVersioning, laws.Matching.matches_all_or_not, requirement.Matching.MatchesAll, requirement.Requirement.PlainRequirement, requirement.Requirements.requirements_of}
use Rattle.versions_c.specs.Ranges.{inexact_status, Tell, answer_by, by_range, open_members, in_range_code, is_in_or_not}
use Rattle.versions_c.specs.{Matching.bit, Matching.match_code, Matching.Decide, declared.status.TheConstants.NO_ROOM, declared.status.TheConstants.OK}
use Rattle.std.proofs.lemmas.Bool.Decides.{nat_tests}
use Rattle.std.specs.Option.{is_none, option_map}
use Rattle.version_rules.proofs.lemmas.Inexact.{inexact_decide, inexact_parse, inexact_within, nothing_parses, inexact_none}
use Rattle.version_rules.proofs.lemmas.Range.{list_in}
use Rattle.version_requirements.proofs.lemmas.{Members.part_is, RangeRef.written as first_bytes}
use Rattle.version_order.proofs.lemmas.Sinks.{put_fits}
use Rattle.version_requirements.specs.Requirement.{inexact_part}
use Rattle.version_order.specs.keys.Sinks.{put_at, saturated}
use mir.Val.{bool_byte}

pub bit_holds : {Holds : Type 0} (decided : Holds ⊎ ¬ Holds) → Holds → bit decided ≡ 1
bit_holds (inl known) holds = refl
bit_holds (inr known) holds = absurd (known holds)

pub bit_fails : {Holds : Type 0} (decided : Holds ⊎ ¬ Holds) → ¬ Holds → bit decided ≡ 0
bit_fails (inl known) fails = absurd (fails known)
bit_fails (inr known) fails = refl

pub coded_asked : (wanted : List PlainRequirement) (v : PlainVersioning)
    (spelled : Option PlainVersioning) → Some v ≡ spelled → MatchesAll wanted v
    → 1 ≡ match_code wanted spelled
coded_asked wanted v spelled found all =
    rw (← found, bit_holds (matches_all_or_not wanted v) all) refl

pub coded_unasked : (wanted : List PlainRequirement) (v : PlainVersioning)
    (spelled : Option PlainVersioning) → Some v ≡ spelled → ¬ (MatchesAll wanted v)
    → 0 ≡ match_code wanted spelled
coded_unasked wanted v spelled found other =
    rw (← found, bit_fails (matches_all_or_not wanted v) other) refl

pub ruleset coded = (coded_asked, coded_unasked)

-- ---- the text of the members of a list that its range leaves open: its length, and the status for it

-- what holds of the list that a text parses as, if it parses
parsed : (text : List ℕ) (P : List PlainRequirement → Type 0)
    → ((list : List PlainRequirement) → requirements_of text ≡ Some list → P list)
    → IfSome (requirements_of text) P
parsed text P holds = by (requirements_of text) refl
  where
    by : (o : Option (List PlainRequirement)) → requirements_of text ≡ o → IfSome o P
    by None e = tt
    by (Some list) e = holds list e

pub within : (text : List ℕ)
    → IfSome (requirements_of text) (λ list. length (inexact_text list) ≤ length text)
within text = parsed text (λ list. length (inexact_text list) ≤ length text) (inexact_within text)

-- the length of such a text is not too large to be told
length_of : (text : List ℕ) (n : ℕ) → length text < 2 ^ 63
    → n ≡ saturated (length (inexact_part text)) → (list : List PlainRequirement)
    → requirements_of text ≡ Some list → n ≡ length (inexact_text list)
length_of text n small e list read = grind (arith, part_is, inexact_within)

pub told : (text : List ℕ) (n : ℕ) → length text < 2 ^ 63
    → n ≡ saturated (length (inexact_part text))
    → IfSome (requirements_of text) (λ list. n ≡ length (inexact_text list))
told text n small e =
    parsed text (λ list. n ≡ length (inexact_text list)) (length_of text n small e)

pub written : (text : List ℕ) (n : ℕ) (old new : List ℕ) → length text < 2 ^ 63
    → n ≡ saturated (length (inexact_part text)) → n ≤ length old
    → new ≡ put_at old 0 (inexact_part text)
    → IfSome (requirements_of text)
    (λ list. new ≡ inexact_text list ++ drop (length (inexact_text list)) old)
written text n old new small e fits is = grind (arith, parsed, part_is, put_fits, length_of)

-- a text without a wrong member parses
pub no_wrong : {X : Type 0} (wrong : Option X) (parses : Bool) → is_none wrong ≡ parses
    → is_some wrong ≡ false → parses ≡ true
no_wrong None parses e none = sym e
no_wrong (Some place) parses e none = cc none

-- the status of a text that parses
pub status_if : (text : List ℕ) (n room : ℕ) → is_some (requirements_of text) ≡ true
    → length text < 2 ^ 63 → n ≡ saturated (length (inexact_part text))
    → (room < n → NO_ROOM ≡ inexact_status (requirements_of text) room)
    × (n ≤ room → OK ≡ inexact_status (requirements_of text) room)
status_if text n room some small e = by (requirements_of text) refl some
  where
    by : (o : Option (List PlainRequirement)) → requirements_of text ≡ o → is_some o ≡ true
        → (room < n → NO_ROOM ≡ inexact_status o room) × (n ≤ room → OK ≡ inexact_status o room)
    by None read none = cc none
    by (Some list) read one =
        let same = length_of text n small e list read in (
          λ past.
              let test : nat_le (length (inexact_text list)) room ≡ false =
              grind (arith, nat_tests, past, same) in
              rw test refl,
          λ fits.
              let test : nat_le (length (inexact_text list)) room ≡ true =
              grind (arith, nat_tests, fits, same) in
              rw test refl,
        )

-- ---- a range and the members that it leaves open decide as the list does

few_are : (text : List ℕ) (few members : List PlainRequirement) → Some few ≡ requirements_of text
    → (¬ (text ≡ []) → requirements_of text ≡ Some members) → few ≡ members
few_are [] few members e parse = absurd (nothing_parses few (sym e))
few_are (b ∷ text) few members e parse = cc (e ∙ parse (λ none. cc none))

pub decide : (text part : List ℕ) (range : PlainRange) (few : List PlainRequirement)
    → Some range ≡ option_map range_of (requirements_of text) → part ≡ inexact_part text
    → Some few ≡ requirements_of part → IfSome (requirements_of text) (Decide range few)
decide text part range few read is parse = parsed text (Decide range few) (λ list e.
    let same : range ≡ range_of list = cc (read ∙ ap (option_map range_of) e) in
    let text_is = is ∙ part_is text list e in
    let members = few_are (inexact_text list) few (inexact_members list)
    (parse ∙ ap requirements_of text_is) (inexact_parse text list e) in
    rw (same, members) (λ v. (
      λ all. (list_in list v all, (inexact_decide list v (list_in list v all)).0 all),
      λ both. (inexact_decide list v both.0).1 both.1,
    )))

-- the first bytes of a room are what was written into it
pub part_in : (room new part : List ℕ) (n : ℕ) → length room < 2 ^ 63 → new ≡ put_at room 0 part
    → n ≡ saturated (length part) → n ≤ length room → take n new ≡ part
part_in room new part n small is e fits =
    let same : n ≡ length part = omega (arith, e, fits, small) in
    ap (take n) is ∙ ap (λ k. take k (put_at room 0 part)) same
    ∙ first_bytes room part (omega (arith, same, fits))

-- ---- the answer about a version by a range and the members that it leaves open, and by the list that
-- these tell

bit_same : {P Q : Type 0} (p : P ⊎ ¬ P) (q : Q ⊎ ¬ Q) → P ↔ Q → bit p ≡ bit q
bit_same (inl p) (inl q) e = refl
bit_same (inl p) (inr not_q) e = absurd (not_q (e.0 p))
bit_same (inr not_p) (inl q) e = absurd (not_p (e.1 q))
bit_same (inr not_p) (inr not_q) e = refl

bit_told : {P : Type 0} (p : P ⊎ ¬ P) (all : Bool) → IsTrue all ↔ P
    → bool_byte all ≡ bit p
bit_told (inl p) true e = refl
bit_told (inl p) false e = cc (e.1 p)
bit_told (inr not_p) true e = absurd (not_p (e.0 refl))
bit_told (inr not_p) false e = refl

-- a text that is a list tells its members
open_are : (text : List ℕ) (few : List PlainRequirement) → requirements_of text ≡ Some few
    → open_members text ≡ Some few
open_are [] few e = absurd (nothing_parses few e)
open_are (byte ∷ text) few e = e

-- in the range the members are asked
asked : {In : Type 0} (is_in : In ⊎ ¬ In) (few : List PlainRequirement) (v : PlainVersioning)
    → ¬ (bit is_in ≡ 0)
    → answer_by is_in (Some few) v ≡ Some (bit (matches_all_or_not few v))
asked (inl is_in) few v inside = refl
asked (inr out) few v inside = absurd (inside refl)

pub by_members : (range : PlainRange) (text : List ℕ) (v : PlainVersioning) (n : ℕ)
    → n ≡ in_range_code range (Some v) → ¬ (n ≡ 0) → (all : Bool)
    → true ≡ is_some (requirements_of text)
    → IsTrue all ↔ IsSomeAnd (requirements_of text) (λ few. MatchesAll few v)
    → Some (bool_byte all) ≡ by_range range text v
by_members range text v n is inside all parse told = by (requirements_of text) refl parse told
  where
    by : (o : Option (List PlainRequirement)) → requirements_of text ≡ o → true ≡ is_some o
        → IsTrue all ↔ IsSomeAnd o (λ few. MatchesAll few v)
        → Some (bool_byte all) ≡ by_range range text v
    by None e parse told = cc parse
    by (Some few) e parse told = ap Some (bit_told (matches_all_or_not few v) all told)
        ∙ sym (asked (is_in_or_not range v) few v (λ none. inside (is ∙ none)))
        ∙ ap (λ members. answer_by (is_in_or_not range v) members v) (sym (open_are text few e))

-- ---- the list that a range and members tell

left_open : (list : List ℕ) (wanted : List PlainRequirement) → requirements_of list ≡ Some wanted
    → open_members (inexact_text wanted) ≡ Some (inexact_members wanted)
left_open list wanted read = by (inexact_text wanted) refl
  where
    by : (text : List ℕ) → inexact_text wanted ≡ text
        → open_members text ≡ Some (inexact_members wanted)
    by [] none = ap Some (sym (inexact_none wanted none))
    by (byte ∷ text) e = ap requirements_of (sym e)
        ∙ inexact_parse list wanted read (λ none. cc (sym e ∙ none))

-- what they answer is the list's answer
pub told_of : (range : PlainRange) (members : List ℕ) (wanted : List PlainRequirement)
    → Tell range members wanted → (v : PlainVersioning)
    → by_range range members v ≡ Some (bit (matches_all_or_not wanted v))
told_of range members wanted tell v = by (is_in_or_not range v)
  where
    asked_by : (few : List PlainRequirement) → open_members members ≡ Some few
        → MatchesAll few v ↔ MatchesAll wanted v → (is_in : IsIn range v)
        → answer_by {In = IsIn range v} (inl is_in) (open_members members) v
        ≡ Some (bit (matches_all_or_not wanted v))
    asked_by few e same is_in = ap (λ asked. answer_by {In = IsIn range v} (inl is_in) asked v) e
        ∙ ap Some (bit_same (matches_all_or_not few v) (matches_all_or_not wanted v) same)

    inside : (members ≡ inexact_text wanted) ⊎ (members ≡ tell.list) → (is_in : IsIn range v)
        → answer_by {In = IsIn range v} (inl is_in) (open_members members) v
        ≡ Some (bit (matches_all_or_not wanted v))
    inside (inl e) is_in =
        let decide = inexact_decide wanted v (rw tell.range_is at is_in) in
        asked_by (inexact_members wanted)
        (ap open_members e ∙ left_open tell.list wanted tell.parses) (decide.1, decide.0) is_in
    inside (inr e) is_in =
        asked_by wanted (ap open_members e ∙ open_are tell.list wanted tell.parses)
        (λ all. all, λ all. all) is_in

    by : (is_in : IsIn range v ⊎ ¬ (IsIn range v))
        → answer_by is_in (open_members members) v ≡ Some (bit (matches_all_or_not wanted v))
    by (inl is_in) = inside tell.members_are is_in
    by (inr out) = ap Some (sym (bit_fails (matches_all_or_not wanted v)
        (λ all. out (rw tell.range_is (list_in wanted v all)))))
