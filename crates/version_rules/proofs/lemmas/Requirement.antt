-- Requirements: a whole text parses as the requirement that it spells, and that requirement prints
-- the text.
use Rattle.std.proofs.Common.{◌≡◌, ◌==◌, ◌∙◌, ◌&&◌, ℕ, Bool, true, false, not, eqb, List, [], ◌∷◌, ◌++◌, Option, Some, None, IsSomeAnd, refl, sym, arith, inl, inr, ◌<◌, ◌+◌, zero, suc, get_or, length, map, ap, ◌↔◌, rules}
use Rattle.std.proofs.lemmas.{Bool.Decides.nat_tests, List.Elements.All-cons, List.Elements.All-nil, List.Elements.All-head, List.Elements.All-tail, List.Folds.list_all-append}
use Rattle.std.proofs.lemmas.{List.Splits.join_with_byte-slice_split, List.Splits.length-slice_split, List.Splits.slice_split_at, List.Splits.slice_split_none, Slice.Zip.AllZip-long}
use Rattle.std.specs.List.{All, list_all, AllZip, count_by, join_with_byte, slice_split}
use Rattle.std.specs.{Cmp.first_so, Cmp.second_so, Option.option_map, Option.option_map_or, Option.is_some}
use Rattle.version_order.specs.texts.Grammar.{IsPrinted, PlainSep, Colon, Hyphen, Plus, Underscore, Tilde, sep_byte}
use Rattle.version_order.specs.texts.{Bytes.is_metadata_byte, Front.begins}
use Rattle.version_order.proofs.lemmas.Front.{cases_Option, all_weaker}
use Rattle.version_rules.specs.grammar.Versioning.{PlainVersioning, SpellsVersioning, VersioningOwns, versioning_of, versioning_text}
use Rattle.version_rules.specs.requirement.Requirement.{op_front, op_text, PlainRequirement, RequirementOwns, SpellsOperand, SpellsRequirement, operand_of, requirement_of, requirement_text}
use Rattle.version_rules.specs.requirement.Requirements.{comma, SpellsRequirements, every, requirements_of, requirements_text, before_others}
use Rattle.version_rules.specs.{declared.op.Op.Op, requirement.Matching.Matches, requirement.Matching.MatchesAll}
use Rattle.version_rules.proofs.lemmas.{Grammar.of_versioning, Numeral.op_front-Some, Numeral.op_front-reads, Versioning.versioning_of-Some, Versioning.versioning_of-spells, Versioning.versioning_printed}
use Rattle.version_rules.specs.declared.op.Op.TheVariants as op

-- ---- the bytes of versions and of requirements

is_no_comma : ℕ → Bool
is_no_comma b = not (eqb b comma)

not_so : (t : Bool) → not t ≡ true → t ≡ false
not_so true e = cc e
not_so false e = refl

-- neither a comma nor an equals sign
is_version_byte : ℕ → Bool
is_version_byte b = is_no_comma b && not (b == 61)

metadata_byte : (b : ℕ) → is_metadata_byte b ≡ true → is_version_byte b ≡ true
unfolding is_version_byte is_no_comma
metadata_byte b h = grind (arith, nat_tests)

together : (test : ℕ → Bool) (a b : List ℕ) → list_all test a ≡ true → list_all test b ≡ true
    → list_all test (a ++ b) ≡ true
together test a b h g = list_all-append test a b ∙ rw (h, g) refl

sign : (s : PlainSep) → list_all is_version_byte (sep_byte s ∷ []) ≡ true
unfolding is_version_byte is_no_comma
sign Colon = refl
sign Hyphen = refl
sign Plus = refl
sign Underscore = refl
sign Tilde = refl

version_bytes : (text : List ℕ) (v : PlainVersioning) → SpellsVersioning text v
    → list_all is_version_byte text ≡ true
version_bytes = search (rules, of_versioning, is_version_byte, together, all_weaker, metadata_byte, sign)

operand_bytes : (o : Op) (text : List ℕ) (version : Option PlainVersioning)
    → SpellsOperand o text version → list_all is_version_byte text ≡ true
operand_bytes o text None s = rw s.1 refl
operand_bytes o text (Some v) s = version_bytes text v s.1

begins_so : (text : List ℕ) → list_all is_version_byte text ≡ true
    → begins (λ b. b == 61) text ≡ false
unfolding is_version_byte
begins_so [] h = refl
begins_so (b ∷ text) h = not_so (b == 61) (second_so (is_no_comma b) _ (first_so _ _ h))

op_bytes : (o : Op) → list_all is_no_comma (op_text o) ≡ true
unfolding is_no_comma
op_bytes op.Exact = refl
op_bytes op.Greater = refl
op_bytes op.GreaterEq = refl
op_bytes op.Less = refl
op_bytes op.LessEq = refl
op_bytes op.Tilde = refl
op_bytes op.Caret = refl
op_bytes op.Wildcard = refl

version_byte_no_comma : (b : ℕ) → is_version_byte b ≡ true → is_no_comma b ≡ true
unfolding is_version_byte
version_byte_no_comma b h = first_so _ _ h

each_no_comma : (text : List ℕ) → list_all is_no_comma text ≡ true
    → All (λ b. eqb b comma ≡ false) text
unfolding is_no_comma
each_no_comma [] h = All-nil (λ b. eqb b comma ≡ false)
each_no_comma (b ∷ text) h =
    All-cons (λ c. eqb c comma ≡ false) b text (not_so (eqb b comma) (first_so _ _ h))
    (each_no_comma text (second_so _ _ h))

pub requirement_without_comma : (text : List ℕ) (r : PlainRequirement) → SpellsRequirement text r
    → All (λ b. eqb b comma ≡ false) text
requirement_without_comma text r s =
    grind (arith, all_weaker, version_byte_no_comma, operand_bytes, each_no_comma, together, op_bytes)

-- ---- what follows an operator

operand_of-version : (o : Op) (text : List ℕ) → ¬ (o ≡ op.Wildcard)
    → operand_of o text ≡ option_map Some (versioning_of text)
operand_of-version op.Exact text other = refl
operand_of-version op.Greater text other = refl
operand_of-version op.GreaterEq text other = refl
operand_of-version op.Less text other = refl
operand_of-version op.LessEq text other = refl
operand_of-version op.Tilde text other = refl
operand_of-version op.Caret text other = refl
operand_of-version op.Wildcard text other = absurd (other refl)

operand_of-Some : (o : Op) (text : List ℕ) (version : Option PlainVersioning)
    → SpellsOperand o text version → operand_of o text ≡ Some version
operand_of-Some o text None s = rw (s.0, s.1) refl
operand_of-Some o text (Some v) s =
    rw (operand_of-version o text s.0, versioning_of-Some text v s.1) refl

version_spells : (o : Op) (text : List ℕ) (version : Option PlainVersioning) → ¬ (o ≡ op.Wildcard)
    → option_map Some (versioning_of text) ≡ Some version → SpellsOperand o text version
version_spells o text version other e = grind (arith, cases_Option, versioning_of-spells)

operand_of-spells : (o : Op) (text : List ℕ) (version : Option PlainVersioning)
    → operand_of o text ≡ Some version → SpellsOperand o text version
operand_of-spells op.Exact text version e = version_spells op.Exact text version (λ d. cc d) e
operand_of-spells op.Greater text version e = version_spells op.Greater text version (λ d. cc d) e
operand_of-spells op.GreaterEq text version e =
    version_spells op.GreaterEq text version (λ d. cc d) e
operand_of-spells op.Less text version e = version_spells op.Less text version (λ d. cc d) e
operand_of-spells op.LessEq text version e = version_spells op.LessEq text version (λ d. cc d) e
operand_of-spells op.Tilde text version e = version_spells op.Tilde text version (λ d. cc d) e
operand_of-spells op.Caret text version e = version_spells op.Caret text version (λ d. cc d) e
operand_of-spells op.Wildcard [] None e = (refl, refl)
operand_of-spells op.Wildcard [] (Some v) e = cc e
operand_of-spells op.Wildcard (b ∷ text) version e = cc e

-- ---- whole texts

pub requirement_of-Some : (text : List ℕ) (r : PlainRequirement) → SpellsRequirement text r
    → requirement_of text ≡ Some r
requirement_of-Some text r s =
    grind (arith, operand_bytes, op_front-reads, begins_so, operand_of-Some)

-- after an operator other than `*`, a requirement owns what its version owns
pub requirement_owns : (text rest : List ℕ) (o : Op) (v : Option PlainVersioning)
    → op_front text ≡ Some (o, rest) → ¬ (o ≡ op.Wildcard) → versioning_of rest ≡ v
    → IsSomeAnd v VersioningOwns → IsSomeAnd (requirement_of text) RequirementOwns
requirement_owns text rest o None e other is owns = absurd owns
requirement_owns text rest o (Some v) e other is owns =
    rw (e, operand_of-version o rest other, is) owns

pub requirement_of-spells : (text : List ℕ) (r : PlainRequirement) → requirement_of text ≡ Some r
    → SpellsRequirement text r
requirement_of-spells text r e = elim (cases_Option (op_front text)) [
  | inl none ↦ cc (rw none at e)
  | inr front ↦ elim (cases_Option (operand_of front.0.0 front.0.1)) [
    | inl none ↦ cc (rw (front.1, none) at e)
    | inr operand ↦
        let read : PlainRequirement = record { op = front.0.0; version = operand.0 } in
        let same : read ≡ r = cc (rw (front.1, operand.1) at e) in
        rw (← same) (record {
          operand = front.0.1;
          whole = op_front-Some text front.0.0 front.0.1 front.1;
          operand_is = operand_of-spells front.0.0 front.0.1 operand.0 operand.1;
        })
  ]
]

operand_printed : (o : Op) (text : List ℕ) (version : Option PlainVersioning)
    → SpellsOperand o text version → option_map_or versioning_text version [] ≡ text
operand_printed o text None s = sym s.1
operand_printed o text (Some v) s = versioning_printed text v s.1

pub requirement_printed : IsPrinted SpellsRequirement requirement_text
requirement_printed text r s =
    rw (operand_printed r.op s.operand r.version s.operand_is) (sym s.whole)

-- a text spells at most one requirement
pub requirement_unique : (text : List ℕ) (r q : PlainRequirement) → SpellsRequirement text r
    → SpellsRequirement text q → r ≡ q
requirement_unique text r q s t =
    let same : Some r ≡ Some q =
    sym (requirement_of-Some text r s) ∙ requirement_of-Some text q t in
    cc same

-- ---- lists of requirements: a whole text parses as the list that it spells, and that list prints the
-- text.

-- texts without commas, joined by commas, are cut where they were joined
cut_where_joined : (first : List ℕ) (texts : List (List ℕ)) (list : List PlainRequirement)
    → AllZip SpellsRequirement (first ∷ texts) list
    → slice_split (λ b. eqb b comma) (join_with_byte comma (first ∷ texts)) ≡ first ∷ texts
cut_where_joined first [] [] z = absurd z
cut_where_joined first [] (r ∷ list) z =
    slice_split_none (λ b. eqb b comma) first (requirement_without_comma first r z.0)
cut_where_joined first (second ∷ texts) [] z = absurd z
cut_where_joined first (second ∷ texts) (r ∷ list) z =
    slice_split_at (λ b. eqb b comma) first comma (join_with_byte comma (second ∷ texts))
    (requirement_without_comma first r z.0) refl
    ∙ ap (λ (l : List (List ℕ)). first ∷ l) (cut_where_joined second texts list z.1)

-- each text that spells its member parses as that member
every_read : (texts : List (List ℕ)) (list : List PlainRequirement)
    → AllZip SpellsRequirement texts list → every (map requirement_of texts) ≡ Some list
every_read [] [] z = refl
every_read [] (r ∷ list) z = absurd z
every_read (text ∷ texts) [] z = absurd z
every_read (text ∷ texts) (r ∷ list) z =
    rw (requirement_of-Some text r z.0, every_read texts list z.1) refl

pub every_spells : (texts : List (List ℕ)) (list : List PlainRequirement)
    → every (map requirement_of texts) ≡ Some list → AllZip SpellsRequirement texts list
every_spells [] [] e = tt
every_spells [] (r ∷ list) e = cc e
every_spells (text ∷ texts) list e = elim (cases_Option (requirement_of text)) [
  | inl none ↦ cc (rw none at e)
  | inr one ↦ elim (cases_Option (every (map requirement_of texts))) [
    | inl none ↦ cc (rw (one.1, none) at e)
    | inr others ↦
        let same : one.0 ∷ others.0 ≡ list = cc (rw (one.1, others.1) at e) in
        rw (← same) (requirement_of-spells text one.0 one.1, every_spells texts others.0 others.1)
  ]
]

-- a list parses if each of its pieces parses as a requirement
every_is_some : (texts : List (List ℕ))
    → list_all (λ text. is_some (requirement_of text)) texts
    ≡ is_some (every (map requirement_of texts))
every_is_some [] = refl
every_is_some (text ∷ texts) = grind (arith, cases_Option, every_is_some texts)

pub requirements_of-is_some : (text : List ℕ)
    → list_all (λ member. is_some (requirement_of member)) (slice_split (λ b. eqb b comma) text)
    ≡ is_some (requirements_of text)
requirements_of-is_some text = every_is_some (slice_split (λ b. eqb b comma) text)

-- one more value after the others
pub every_push : {A X : Type 0} (read : A → Option X) (texts : List A) (text : A) (values : List X)
    (value : X) → every (map read texts) ≡ Some values → read text ≡ Some value
    → every (map read (texts ++ text ∷ [])) ≡ Some (values ++ value ∷ [])
every_push read [] text [] value e one = rw one refl
every_push read [] text (x ∷ values) value e one = cc e
every_push read (first ∷ texts) text values value e one = elim (cases_Option (read first)) [
  | inl none ↦ cc (rw none at e)
  | inr x ↦ elim (cases_Option (every (map read texts))) [
    | inl none ↦ cc (rw (x.1, none) at e)
    | inr others ↦
        let same : x.0 ∷ others.0 ≡ values = cc (rw (x.1, others.1) at e) in
        rw (← same, x.1, every_push read texts text others.0 value others.1 one) refl
  ]
]

-- if one text does not parse, the list does not
every_stops : (texts : List (List ℕ)) (n : ℕ) (d : List ℕ) → n < length texts
    → requirement_of (get_or texts n d) ≡ None → every (map requirement_of texts) ≡ None
every_stops [] n d fits none = absurd (omega arith)
every_stops (text ∷ texts) zero d fits none = rw none refl
every_stops (text ∷ texts) (suc n) d fits none = elim (cases_Option (requirement_of text)) [
  | inl absent ↦ rw absent refl
  | inr one ↦ rw (one.1, every_stops texts n d (omega arith) none) refl
]

pub requirements_of-stops : (text : List ℕ) (n : ℕ) (d : List ℕ)
    → n < length (slice_split (λ b. eqb b comma) text)
    → requirement_of (get_or (slice_split (λ b. eqb b comma) text) n d) ≡ None
    → requirements_of text ≡ None
requirements_of-stops text n d = every_stops (slice_split (λ b. eqb b comma) text) n d

requirements_of-joined : (texts : List (List ℕ)) (list : List PlainRequirement) → 0 < length list
    → AllZip SpellsRequirement texts list
    → requirements_of (join_with_byte comma texts) ≡ Some list
requirements_of-joined [] [] some z = absurd (omega arith)
requirements_of-joined [] (r ∷ list) some z = absurd z
requirements_of-joined (first ∷ texts) list some z =
    rw (cut_where_joined first texts list z) (every_read (first ∷ texts) list z)

pub requirements_of-Some : (text : List ℕ) (list : List PlainRequirement)
    → SpellsRequirements text list → requirements_of text ≡ Some list
requirements_of-Some text list s =
    rw s.whole (requirements_of-joined s.members list s.some s.members_are)

pub requirements_of-spells : (text : List ℕ) (list : List PlainRequirement)
    → requirements_of text ≡ Some list → SpellsRequirements text list
requirements_of-spells text list e =
    let members = slice_split (λ b. eqb b comma) text in
    let zipped = every_spells members list e in
    let long : length list ≡ length members = AllZip-long SpellsRequirement members list zipped in
    let cut : length members ≡ count_by (λ b. eqb b comma) text + 1 =
    length-slice_split (λ b. eqb b comma) text in
    record {
      members = members;
      whole = sym (join_with_byte-slice_split comma text);
      members_are = zipped;
      some = omega (arith, long, cut);
    }

members_printed : (texts : List (List ℕ)) (list : List PlainRequirement)
    → AllZip SpellsRequirement texts list → map requirement_text list ≡ texts
members_printed [] [] z = refl
members_printed [] (r ∷ list) z = absurd z
members_printed (text ∷ texts) [] z = absurd z
members_printed (text ∷ texts) (r ∷ list) z =
    rw (requirement_printed text r z.0, members_printed texts list z.1) refl

pub requirements_printed : IsPrinted SpellsRequirements requirements_text
requirements_printed text list s = rw (members_printed s.members list s.members_are) (sym s.whole)

-- a text spells at most one list
pub requirements_unique : (text : List ℕ) (list others : List PlainRequirement)
    → SpellsRequirements text list → SpellsRequirements text others → list ≡ others
requirements_unique text list others s t =
    cc (sym (requirements_of-Some text list s) ∙ requirements_of-Some text others t)

-- ---- A scanned list of requirements: what its members match, one after another

-- there is a list, and each member of it matches a version
abbrev pub Asked : PlainVersioning → Option (List PlainRequirement) → Type 0
Asked v members = IsSomeAnd members (λ list. MatchesAll list v)

-- the first member matches, and the others decide
pub others_decide : (v : PlainVersioning) (r : PlainRequirement)
    (others : Option (List PlainRequirement)) → Matches r v
    → Asked v (before_others (Some r) others) ↔ Asked v others
others_decide v r None asks = (λ e. e, λ e. e)
others_decide v r (Some list) asks = (
  λ all. All-tail (λ q. Matches q v) r list all,
  λ all. All-cons (λ q. Matches q v) r list asks all,
)

-- the first member does not match
pub first_decides : (v : PlainVersioning) (r : PlainRequirement)
    (others : Option (List PlainRequirement)) → ¬ (Matches r v)
    → ¬ (Asked v (before_others (Some r) others))
first_decides v r None other e = absurd e
first_decides v r (Some list) other all = other (All-head (λ q. Matches q v) r list all)

-- the same for a list with others
pub first_asks : (v : PlainVersioning) (r : PlainRequirement) (list : List PlainRequirement)
    → Matches r v → MatchesAll list v ↔ MatchesAll (r ∷ list) v
first_asks v r list asks = (
  λ all. All-cons (λ q. Matches q v) r list asks all,
  λ all. All-tail (λ q. Matches q v) r list all,
)

pub first_asks_not : (v : PlainVersioning) (r : PlainRequirement) (list : List PlainRequirement)
    → ¬ (Matches r v) → ¬ (MatchesAll (r ∷ list) v)
first_asks_not v r list other all = other (All-head (λ q. Matches q v) r list all)
