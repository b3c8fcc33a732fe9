-- Messy versions that are scanned.
use Rattle.std.proofs.Common.{◌≡◌, [], Some, None, Box, Global, refl, ◌≢◌, ◌==◌, ◌∙◌, ◌<◌, ℕ, List, ◌∷◌, ◌++◌, length, Option, Result, Ok, Err, IsSomeAnd, inl, inr, sym, ap, append-nil, append_assoc, ◌≤◌, rules, arith, map, slice_index_or, true}
use Rattle.version_parts.specs.{Body.Reads, MChunk.plain_mchunk, Sep.sep_fed, declared.mchunk.MChunk.MChunk, declared.sep.Sep.Sep}
use Rattle.versions.specs.Mess.{behind_sign, flat_layer, plain_mess, plain_section, further_fed, section_fed}
use Rattle.versions.specs.declared.mess.{Mess.Mess, Mess.TheFolds.fold_out-Mess, Mess.TheViews.out-Mess}
use Rattle.version_rules.specs.grammar.Mess.{PlainMess, Further, Section, further_front, mess_front, mess_of, section_front, further_text, joined_section}
use Rattle.version_rules.specs.{grammar.MChunk.mchunk_text, key.Key.section_epoch}
use Rattle.std.proofs.lemmas.{Bool.cases_Bool, Bool.eqb-true, List.Sums.take_while-cons, List.Sums.fold-append, Option.slice_get-map, Option.slice_get_past, Option.slice_get_read}
use Rattle.std.specs.List.{slice_get, list_all, take_while, flat_map, fold}
use Rattle.std.specs.{Borrow.Bor, Char.is_ascii_digit, Cmp.first_so, Cmp.second_so, Hash.HashWrites, Option.option_map, Result.IsErr, Slice.IsItemAt, Str.Parse.digits_value, declared.alloc.AllocError.AllocError}
use Rattle.version_order.specs.texts.{Front.repeated, Front.is_digits, Grammar.PlainSep, Grammar.sep_byte}
use Rattle.version_parts.proofs.lemmas.Scans.{nothing_before, read_before}
use Rattle.version_order.proofs.lemmas.Front.{cases_Option, repeated-None, repeated-next}
use Rattle.version_rules.proofs.lemmas.Mess.{further_shrinks, mess_front-None, mess_front-Some}
use Rattle.std.specs.Hash as fed

-- ---- A flat messy version, step by step

pub first_is : (m : Mess) → (plain_mess m).first ≡ plain_section (out-Mess m).chunks
first_is m = rw (fold_out-Mess PlainMess flat_layer m) refl

-- nothing follows
pub ends : (m : Mess) → (out-Mess m).next ≡ None → (plain_mess m).more ≡ []
ends m e = rw (fold_out-Mess PlainMess flat_layer m, e) refl

-- a sign and what is after it follow
pub goes_on : (m : Mess) (sign : Sep) (section : Box Mess Global)
    → (out-Mess m).next ≡ Some (sign, section)
    → (plain_mess m).more ≡ behind_sign sign (plain_mess section.value)
goes_on m sign section e = rw (fold_out-Mess PlainMess flat_layer m, e) refl

-- ---- how a messy version is parsed, section by section

-- the further sections that a text begins with, and the rest after them
abbrev pub all_further : List ℕ → List Further × List ℕ
all_further text = repeated further_front (length text) text

-- the same, after those that are parsed so far
abbrev pub and_further : List Further → List ℕ → List Further × List ℕ
and_further sofar text = (sofar ++ (all_further text).0, (all_further text).1)

-- ---- the rest

-- after a further section
pub left_next : (text after : List ℕ) → Some after ≡ option_map (λ p. p.1) (further_front text)
    → (all_further text).1 ≡ (all_further after).1
left_next text after e =
    let one = read_before (further_front text) after e in
    rw (repeated-next further_front further_shrinks text one.0 after one.1) refl

pub left_shorter : (text after : List ℕ) → Some after ≡ option_map (λ p. p.1) (further_front text)
    → length after < length text
left_shorter text after e =
    let one = read_before (further_front text) after e in
    further_shrinks text one.0 after one.1

pub left_last : (text : List ℕ) → None ≡ option_map (λ p. p.1) (further_front text)
    → (all_further text).1 ≡ text
left_last text e = rw (repeated-None further_front text (length text) (nothing_before _ e)) refl

-- ---- what is parsed

pub read_next : (sofar : List Further) (text : List ℕ) (one : Further) (after : List ℕ)
    → further_front text ≡ Some (one, after)
    → and_further (sofar ++ one ∷ []) after ≡ and_further sofar text
read_next sofar text one after e =
    rw (repeated-next further_front further_shrinks text one after e, append_assoc) refl

pub read_last : (sofar : List Further) (text : List ℕ) → further_front text ≡ None
    → and_further sofar text ≡ (sofar, text)
read_last sofar text e = rw (repeated-None further_front text (length text) e, append-nil) refl

-- a version whose first section and further ones are parsed
pub mess_read : (text : List ℕ) (first : Section) (behind : List ℕ)
    (further : List Further × List ℕ) (m : PlainMess) → Some (first, behind) ≡ section_front text
    → further ≡ all_further behind → m.first ≡ first → m.more ≡ further.0
    → Some (m, further.1) ≡ mess_front text
mess_read text first behind further m read rest first_is more_is =
    let more : m.more ≡ (all_further behind).0 =
    more_is ∙ ap (λ (p : List Further × List ℕ). p.0) rest in
    let left : further.1 ≡ (all_further behind).1 = ap (λ (p : List Further × List ℕ). p.1) rest in
    let value : m ≡ record { first = first; more = (all_further behind).0 } =
    λ i. record { first = first_is i; more = more i } in
    ap (λ (p : PlainMess × List ℕ). Some p) (λ i. (value i, left i))
    ∙ sym (mess_front-Some text first behind (sym read))

-- the version that the whole text parses as, if no rest is left after its sections
pub whole_sections : (text : List ℕ) (first : Section) (behind : List ℕ)
    → Some (first, behind) ≡ section_front text → length (all_further behind).1 ≡ 0
    → mess_of text ≡ Some (record { first = first; more = (all_further behind).0 })
unfolding mess_of
whole_sections text first behind read none =
    rw (mess_front-Some text first behind (sym read), none) refl

pub sections_and_more : (text : List ℕ) (first : Section) (behind : List ℕ)
    → Some (first, behind) ≡ section_front text → length (all_further behind).1 ≢ 0
    → mess_of text ≡ None
unfolding mess_of
sections_and_more text first behind read some =
    elim (cases_Bool (length (all_further behind).1 == 0)) [
      | inl none ↦ absurd (some (eqb-true _ 0 none))
      | inr goes_on ↦ rw (mess_front-Some text first behind (sym read), goes_on) refl
    ]

pub no_section : (text : List ℕ) → None ≡ section_front text → mess_of text ≡ None
unfolding mess_of
no_section text e = rw (mess_front-None text (sym e)) refl

pub ruleset whole_mess = (whole_sections, sections_and_more, no_section)

-- an allocation is needed only if a first section parses
pub wants_memory : (text : List ℕ) → IsSomeAnd (section_front text) (λ r. Unit {0})
    → IsSomeAnd (mess_front text) (λ r. Unit {0})
wants_memory text some = elim (cases_Option (section_front text)) [
  | inl none ↦ absurd (rw none at some)
  | inr one ↦ rw (mess_front-Some text one.0.0 one.0.1 one.1) tt
]

pub first_some : {X : Type 0} (o : Option (X × List ℕ)) (p : X × List ℕ) → Some p ≡ o
    → IsSomeAnd o (λ r. Unit {0})
first_some o p e = rw (← e) tt

pub reads_err : (r : Result (Option (Mess × Bor (List ℕ))) AllocError)
    (front : Option (PlainMess × List ℕ)) → IsErr r → IsSomeAnd front (λ r. Unit {0})
    → Reads plain_mess (λ m. Unit {0}) r front
reads_err (Ok answer) front err some = cc err
reads_err (Err e) front err some = some

-- ---- one after another

-- ---- the item at a place of a list, if there is one

-- what `get` returns is the item
pub lent_item : {X : Type 0} (xs : List X) (at : ℕ) (o : Option (Bor X)) → IsItemAt xs at o
    → slice_get xs at ≡ option_map (λ x. x.now) o
lent_item xs at None h = let past : length xs ≤ at = search rules in slice_get_past xs at past
lent_item xs at (Some x) h = grind (arith, slice_get_read)

-- ---- the epoch of a messy section that is one chunk of digits

all_taken : (text : List ℕ) → list_all is_ascii_digit text ≡ true
    → take_while is_ascii_digit text ≡ text
all_taken [] all = refl
all_taken (b ∷ text) all =
    let more = all_taken text (second_so (is_ascii_digit b) (list_all is_ascii_digit text) all) in
    take_while-cons is_ascii_digit b text
    ∙ rw (first_so (is_ascii_digit b) (list_all is_ascii_digit text) all)
    (ap (λ (l : List ℕ). b ∷ l) more)

pub digits_alone : (text : List ℕ) → is_digits text ≡ true
    → digits_value 10 (take_while is_ascii_digit text) ≡ digits_value 10 text
digits_alone text digits = grind (arith, all_taken, second_so)

-- one chunk of digits is the epoch with their value
pub one_of_digits : (section : List MChunk) (chunk : MChunk) (digits : List ℕ) → 1 ≤ length section
    → length section < 2 → chunk ≡ slice_index_or section 0 chunk
    → digits ≡ mchunk_text (plain_mchunk chunk)
    → is_digits (mchunk_text (plain_mchunk chunk)) ≡ true
    → Some (digits_value 10 (take_while is_ascii_digit digits))
    ≡ section_epoch (map plain_mchunk section)
one_of_digits [] chunk digits some few first text run = absurd (omega arith)
one_of_digits (only ∷ []) chunk digits some few first text run = grind (arith, digits_alone)
one_of_digits (only ∷ second ∷ more) chunk digits some few first text run = absurd (omega arith)

-- ---- a messy version fed to a hash, section by section

-- feeding the remaining writes after the others feeds all of them
pub fed_behind : {S : Type 0} (write : S → List ℕ → S) (s t : S) (writes left : HashWrites)
    → t ≡ fold write s writes → fold write t left ≡ fold write s (writes ++ left)
fed_behind write s t writes left e =
    ap (λ r. fold write r left) e ∙ sym (fold-append write s writes left)

pub fed_next : {S : Type 0} (write : S → List ℕ → S) (s t : S) (one : Further) (more : List Further)
    (end : HashWrites) → t ≡ fold write s (further_fed one)
    → fold write t (flat_map further_fed more ++ end)
    ≡ fold write s (flat_map further_fed (one ∷ more) ++ end)
fed_next write s t one more end e = grind (arith, fed_behind, append_assoc)

-- a further section is fed by three writes
pub fed_further : {S : Type 0} (write : S → List ℕ → S) (s t u v : S) (sign : PlainSep)
    (section : Section) → t ≡ fold write s (fed.u8 1) → u ≡ fold write t (sep_fed sign)
    → v ≡ fold write u (section_fed section) → v ≡ fold write s (further_fed (sign, section))
fed_further write s t u v sign section e f g = grind arith

-- ---- a messy version printed, section by section

-- one more further section is written: its sign, and its chunks
pub written_next : (written : List ℕ) (one : Further) (more : List Further) (all : List ℕ)
    → written ++ flat_map further_text (one ∷ more) ≡ all
    → (written ++ ((sep_byte one.0 ∷ []) ++ joined_section one.1)) ++ flat_map further_text more
    ≡ all
written_next written one more all e =
    append_assoc written (further_text one) (flat_map further_text more) ∙ e

-- what `nth` cites, where a name can't stand in an attribute
pub ruleset nth_cites = (slice_get-map)
