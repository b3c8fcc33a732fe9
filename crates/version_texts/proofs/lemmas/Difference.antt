-- Where two versions differ first, by their keys, and two lists of parts, by their first parts and
-- what follows these.
use Rattle.std.proofs.Common.{sym, if◌then◌else◌, ◌≡◌, ◌∙◌, ◌+◌, ◌<◌, ℕ, suc, true, false, List, [], ◌∷◌, Option, Some, None, length, length-drop, refl, ap, arith, ◌↔◌, ◌⊎◌, ◌==◌, zero, Bool, eqb-true, eq-eqb, inl, inr, take}
use Rattle.std.specs.{Cmp.Equal-is, Cmp.IsTotalOrder, Cmp.tied_itself, List.position_or_len, Option.option_map, Option.unwrap_or, Option.option_or, Ordering.is_eq, Ordering.is_ne, Ordering.ordering_reverse, declared.cmp.Ordering.Ordering}
use Rattle.std.specs.declared.cmp.Ordering.TheVariants.{Less, Equal, Greater}
use Rattle.version_rules.specs.{grammar.Versioning.PlainVersioning, grammar.Versioning.versioning_plain_cmp, grammar.Versioning.SameVersioning, key.Key.Key, key.Key.key_of, key.Key.precedence, key.Key.tail_cmp}
use Rattle.version_rules.specs.{key.PartKey.part_cmp, key.PartKey.PartKey, laws.Key.tail_total, laws.Key.keys_tied, laws.Part.part_total, laws.Part.parts_same, laws.Versioning.versioning_plain_total}
use Rattle.version_texts.proofs.lemmas.EndOrder.{further, parts_are}
use Rattle.version_pieces.proofs.lemmas.Pieces.{pieces_are, further_of_more, further_of_none}
use Rattle.version_texts.proofs.lemmas.Matching.{chain}
use Rattle.version_texts.specs.declared.order.difference.Difference.TheVariants.{Same, Tie, Epoch, Part, Tail}
use Rattle.version_texts.specs.{Key.first_part, Key.parts_of, Order.difference_of, Order.first_differing, Order.key_difference, declared.order.difference.Difference.Difference}
use Rattle.version_order.specs.texts.Cuts.{behind_piece, is_dot}
use Rattle.version_rules.proofs.lemmas.Order.{precedence_equal, tail_equal, versioning_equal}

-- the number of a part, counted from another on
abbrev pub counted_from : ℕ → Option ℕ → Option ℕ
counted_from n = option_map (λ place. n + place)

-- the first parts, if these differ, or where what follows them does
abbrev first_or_later : Ordering → Option ℕ → Option ℕ
first_or_later o later = if is_eq o then option_map suc later else Some 0

is_tied : (o : Ordering) → is_ne o ≡ false → o ≡ Equal
is_tied Equal e = refl
is_tied o e = cc e

first_counted : (n : ℕ) (o : Ordering) (later : Option ℕ) → is_ne o ≡ true
    → counted_from n (first_or_later o later) ≡ Some n
first_counted n Equal later e = cc e
first_counted n o later e = ap Some (omega arith)

later_counted : (n : ℕ) (later : Option ℕ)
    → counted_from n (first_or_later Equal later) ≡ counted_from (n + 1) later
later_counted n None = refl
later_counted n (Some place) = ap Some (omega arith)

module _ (n : ℕ) (a b : List ℕ) (o : Ordering)
    (e : o ≡ part_cmp (Some (first_part a)) (Some (first_part b))) where
  by_first : (rest other : List ℕ) → rest ≡ behind_piece a → other ≡ behind_piece b
      → counted_from n (first_differing (parts_of a) (parts_of b))
      ≡ counted_from n (first_or_later o (first_differing (further rest) (further other)))
  by_first rest other left left_too =
      rw (parts_are a rest left, parts_are b other left_too, e) refl

  -- two lists whose first parts differ
  pub differ_here : is_ne o ≡ true
      → counted_from n (first_differing (parts_of a) (parts_of b)) ≡ Some n
  differ_here differ =
      by_first (behind_piece a) (behind_piece b) refl refl ∙ first_counted n o _ differ

  -- two lists whose first parts are equal
  pub differ_later : {rest other : List ℕ} {whole : Option ℕ}
      → (o ≡ Equal → rest ≡ behind_piece a) → (o ≡ Equal → other ≡ behind_piece b)
      → is_ne o ≡ false
      → counted_from n (first_differing (parts_of a) (parts_of b)) ≡ whole
      → counted_from (n + 1) (first_differing (further rest) (further other)) ≡ whole
  differ_later {rest} {other} left left_too equal is =
      let same = is_tied o equal in
      let later = first_differing (further rest) (further other) in
      sym (by_first rest other (left same) (left_too same)
      ∙ ap (λ o. counted_from n (first_or_later o later)) same ∙ later_counted n later) ∙ is

-- what follows two parts: a list that goes on differs from one that has ended
pub both_go_on : (rest other more others : List ℕ) → (b : ℕ) × (rest ≡ b ∷ more)
    → (b : ℕ) × (other ≡ b ∷ others)
    → first_differing (further rest) (further other)
    ≡ first_differing (parts_of more) (parts_of others)
both_go_on rest other more others p q =
    rw (further_of_more is_dot rest more p, further_of_more is_dot other others q) refl

pub both_end : (rest other : List ℕ) → rest ≡ [] → other ≡ []
    → first_differing (further rest) (further other) ≡ None
both_end rest other none none_too =
    rw (further_of_none is_dot rest none, further_of_none is_dot other none_too) refl

pub first_goes_on : (n : ℕ) (rest other more : List ℕ) → (b : ℕ) × (rest ≡ b ∷ more) → other ≡ []
    → counted_from n (first_differing (further rest) (further other)) ≡ Some n
first_goes_on n rest other more p none = grind (arith, further_of_more, further_of_none, pieces_are)

pub second_goes_on : (n : ℕ) (rest other more : List ℕ) → rest ≡ [] → (b : ℕ) × (other ≡ b ∷ more)
    → counted_from n (first_differing (further rest) (further other)) ≡ Some n
second_goes_on n rest other more none p =
    grind (arith, further_of_none, further_of_more, pieces_are)

-- what follows the first part is shorter
pub is_shorter : (text rest more : List ℕ) (o : Ordering) → (o ≡ Equal → rest ≡ behind_piece text)
    → is_ne o ≡ false → (b : ℕ) × (rest ≡ b ∷ more) → length more < length text
is_shorter text rest more o left equal p =
    let cut = ap length (left (is_tied o equal)) in
    omega (arith, cut, ap length p.1, length-drop (position_or_len is_dot text) text)

-- where the keys of two versions differ first, or whether the versions are the same
pub by_keys : (a b : PlainVersioning) (k l : Key) (found : Option Difference)
    → found ≡ key_difference k l → key_of a ≡ k → key_of b ≡ l
    → unwrap_or found (if is_eq (versioning_plain_cmp a b) then Same else Tie) ≡ difference_of a b
by_keys a b k l found e of_a of_b = rw (e, of_a, of_b) refl

-- ---- the laws of where two versions differ first: what each answer says, and that it is the same either
-- way.

-- ---- facts that hold exactly if others do

both : {P Q R S : Type 0} → (P ↔ Q) → (R ↔ S) → ((P × R) ↔ (Q × S))
both first second = (λ p. (first.0 p.0, second.0 p.1), λ q. (first.1 q.0, second.1 q.1))

all : {P Q R S T U : Type 0} → (P ↔ Q) → (R ↔ S) → (T ↔ U) → ((P × R × T) ↔ (Q × S × U))
all first second third = grind arith

in_a_row : {P Q R : Type 0} → ((P × (Q × R)) ↔ (P × Q × R))
in_a_row = (λ p. (p.0, p.1.0, p.1.1), λ q. (q.0, (q.1, q.2)))

fails : {P : Type 0} (b : Bool) → ((b ≡ true) ↔ P) → ((b ≡ false) ↔ (¬ P))
fails true holds = (λ e. cc e, λ none. absurd (none (holds.0 refl)))
fails false holds = (λ e p. cc (holds.1 p), λ none. refl)

-- ---- lists of parts

-- two parts are equal in the order exactly if they are the same
same_part : (p q : PartKey) → (is_eq (part_cmp (Some p) (Some q)) ≡ true) ↔ (p ≡ q)
same_part p q = (
  λ tied. cc (parts_same (Some p) (Some q) ((Equal-is (part_cmp (Some p) (Some q))).0 tied)),
  λ same. rw (same, tied_itself part_total (Some q)) refl,
)

heads : {p q : PartKey} {ps qs : List PartKey} → p ∷ ps ≡ q ∷ qs → p ≡ q
heads e = cc e

tails : {p q : PartKey} {ps qs : List PartKey} → p ∷ ps ≡ q ∷ qs → ps ≡ qs
tails e = cc e

-- where two lists differ, by whether their first parts are equal
abbrev later_if : Bool → Option ℕ → Option ℕ
later_if equal later = if equal then option_map suc later else Some 0

nowhere : (equal : Bool) (later : Option ℕ) → later_if equal later ≡ None
    → (equal ≡ true) × (later ≡ None)
nowhere true None e = (refl, refl)
nowhere true (Some n) e = cc e
nowhere false later e = cc e

at_first : (equal : Bool) (later : Option ℕ) → later_if equal later ≡ Some zero
    → equal ≡ false
at_first true None e = cc e
at_first true (Some n) e = cc e
at_first false later e = refl

at_later : (equal : Bool) (later : Option ℕ) (n : ℕ) → later_if equal later ≡ Some (suc n)
    → (equal ≡ true) × (later ≡ Some n)
at_later true None n e = cc e
at_later true (Some m) n e = (refl, cc e)
at_later false later n e = cc e

-- lists that differ nowhere are the same
same_lists : (ps qs : List PartKey) → first_differing ps qs ≡ None → ps ≡ qs
same_lists [] [] e = refl
same_lists (p ∷ ps) (q ∷ qs) e =
    let here = nowhere (is_eq (part_cmp (Some p) (Some q))) (first_differing ps qs) e in
    let first = (same_part p q).0 here.0 in
    let later = same_lists ps qs here.1 in
    λ i. first i ∷ later i
same_lists ps qs e = cc e

list_itself : (ps : List PartKey) → first_differing ps ps ≡ None
list_itself [] = refl
list_itself (p ∷ ps) = rw ((same_part p p).1 refl, list_itself ps) refl

-- the first parts of two lists are the same, so many as the number says, but not those and one more
abbrev DifferAt : ℕ → List PartKey → List PartKey → Type 0
DifferAt n ps qs = (take n ps ≡ take n qs) × ¬ (take (suc n) ps ≡ take (suc n) qs)

differ_at : (ps qs : List PartKey) (n : ℕ) → first_differing ps qs ≡ Some n → DifferAt n ps qs
differ_at [] (q ∷ qs) zero e = (refl, λ f. cc f)
differ_at (p ∷ ps) [] zero e = (refl, λ f. cc f)
differ_at (p ∷ ps) (q ∷ qs) zero e =
    let differ = at_first (is_eq (part_cmp (Some p) (Some q))) (first_differing ps qs) e in
    (refl, λ f. (fails _ (same_part p q)).0 differ (heads f))
differ_at (p ∷ ps) (q ∷ qs) (suc n) e =
    let here = at_later (is_eq (part_cmp (Some p) (Some q))) (first_differing ps qs) n e in
    let first = (same_part p q).0 here.0 in
    let later = differ_at ps qs n here.1 in
    (λ i. first i ∷ later.0 i, λ f. later.1 (tails f))
differ_at ps qs n e = cc e

first_at : (ps qs : List PartKey) (n : ℕ) → DifferAt n ps qs → first_differing ps qs ≡ Some n
first_at [] [] n d = absurd (d.1 refl)
first_at [] (q ∷ qs) (suc n) d = cc d.0
first_at (p ∷ ps) [] (suc n) d = cc d.0
first_at (p ∷ ps) (q ∷ qs) zero d =
    rw ((fails _ (same_part p q)).1 (λ same. d.1 (λ i. same i ∷ []))) refl
first_at (p ∷ ps) (q ∷ qs) (suc n) d =
    let first = heads d.0 in
    let later = first_at ps qs n (tails d.0, λ f. d.1 (λ i. first i ∷ f i)) in
    rw ((same_part p q).1 first, later) refl
first_at ps qs n d = refl

-- ---- what the answers say, by what is equal

abbrev answer : Bool → Option ℕ → Bool → Bool → Difference
answer epochs part rest same =
    unwrap_or
    (if epochs then option_or (option_map Part part) (if rest then None else Some Tail)
    else Some Epoch)
    (if same then Same else Tie)

abbrev AreEqual : Bool → Option ℕ → Bool → Type 0
AreEqual epochs part rest = (epochs ≡ true) × (part ≡ None) × (rest ≡ true)

answers_epoch : (e : Bool) (p : Option ℕ) (t s : Bool) → (answer e p t s ≡ Epoch) ↔ (e ≡ false)
answers_epoch false p t s = (λ a. refl, λ h. refl)
answers_epoch true (Some n) t s = (λ a. cc a, λ h. cc h)
answers_epoch true None false s = (λ a. cc a, λ h. cc h)
answers_epoch true None true false = (λ a. cc a, λ h. cc h)
answers_epoch true None true true = (λ a. cc a, λ h. cc h)

answers_part : (e : Bool) (p : Option ℕ) (t s : Bool) (n : ℕ)
    → (answer e p t s ≡ Part n) ↔ ((e ≡ true) × (p ≡ Some n))
answers_part false p t s n = (λ a. cc a, λ h. cc h.0)
answers_part true (Some m) t s n = (λ a. (refl, cc a), λ h. cc h.1)
answers_part true None false s n = (λ a. cc a, λ h. cc h.1)
answers_part true None true false n = (λ a. cc a, λ h. cc h.1)
answers_part true None true true n = (λ a. cc a, λ h. cc h.1)

answers_tail : (e : Bool) (p : Option ℕ) (t s : Bool)
    → (answer e p t s ≡ Tail) ↔ ((e ≡ true) × (p ≡ None) × (t ≡ false))
answers_tail false p t s = (λ a. cc a, λ h. cc h.0)
answers_tail true (Some m) t s = (λ a. cc a, λ h. cc h.1)
answers_tail true None false s = (λ a. (refl, refl, refl), λ h. refl)
answers_tail true None true false = (λ a. cc a, λ h. cc h.2)
answers_tail true None true true = (λ a. cc a, λ h. cc h.2)

answers_same : (e : Bool) (p : Option ℕ) (t s : Bool)
    → (answer e p t s ≡ Same) ↔ (AreEqual e p t × (s ≡ true))
answers_same false p t s = (λ a. cc a, λ h. cc h.0.0)
answers_same true (Some m) t s = (λ a. cc a, λ h. cc h.0.1)
answers_same true None false s = (λ a. cc a, λ h. cc h.0.2)
answers_same true None true false = (λ a. cc a, λ h. cc h.1)
answers_same true None true true = (λ a. ((refl, refl, refl), refl), λ h. refl)

answers_tie : (e : Bool) (p : Option ℕ) (t s : Bool)
    → (answer e p t s ≡ Tie) ↔ (AreEqual e p t × (s ≡ false))
answers_tie false p t s = (λ a. cc a, λ h. cc h.0.0)
answers_tie true (Some m) t s = (λ a. cc a, λ h. cc h.0.1)
answers_tie true None false s = (λ a. cc a, λ h. cc h.0.2)
answers_tie true None true false = (λ a. ((refl, refl, refl), refl), λ h. refl)
answers_tie true None true true = (λ a. cc a, λ h. cc h.1)

either : {P Q R : Type 0} (b : Bool) → (P ↔ (R × (b ≡ true))) → (Q ↔ (R × (b ≡ false)))
    → ((P ⊎ Q) ↔ R)
either true p q = (
  λ u. elim u [ inl h ↦ (p.0 h).0 | inr h ↦ (q.0 h).0 ],
  λ r. inl (p.1 (r, refl)),
)
either false p q = (
  λ u. elim u [ inl h ↦ (p.0 h).0 | inr h ↦ (q.0 h).0 ],
  λ r. inr (q.1 (r, refl)),
)

-- ---- two versions

module _ (a b : PlainVersioning) where
  abbrev k : Key
  k = key_of a

  abbrev l : Key
  l = key_of b

  -- whether their epochs, tails and fields are equal, and where their parts are not
  abbrev epochs : Bool
  epochs = k.epoch == l.epoch

  abbrev rest : Bool
  rest = is_eq (tail_cmp k.tail l.tail)

  abbrev fields : Bool
  fields = is_eq (versioning_plain_cmp a b)

  abbrev part : Option ℕ
  part = first_differing k.body l.body

  same_epochs : (epochs ≡ true) ↔ (k.epoch ≡ l.epoch)
  same_epochs = (eqb-true k.epoch l.epoch, eq-eqb k.epoch l.epoch)

  same_bodies : (part ≡ None) ↔ (k.body ≡ l.body)
  same_bodies = (same_lists k.body l.body, λ e. rw e (list_itself l.body))

  same_tails : (rest ≡ true) ↔ (k.tail ≡ l.tail)
  same_tails = chain (Equal-is (tail_cmp k.tail l.tail)) (tail_equal k.tail l.tail)

  same_fields : (fields ≡ true) ↔ SameVersioning a b
  same_fields = chain (Equal-is (versioning_plain_cmp a b)) (versioning_equal a b)

  fields_of_keys : ((k.epoch ≡ l.epoch) × (k.body ≡ l.body) × (k.tail ≡ l.tail)) ↔ (k ≡ l)
  fields_of_keys = grind arith

  equal_keys : AreEqual epochs part rest ↔ (precedence k l ≡ Equal)
  equal_keys =
      grind (
        arith,
        precedence_equal,
        chain,
        all,
        same_epochs,
        same_bodies,
        same_tails,
        fields_of_keys,
      )

  pub tie_law : (difference_of a b ≡ Tie) ↔ ((precedence k l ≡ Equal) × ¬ (SameVersioning a b))
  tie_law = chain (answers_tie epochs part rest fields) (both equal_keys (fails fields same_fields))

  pub same_law : (difference_of a b ≡ Same) ↔ SameVersioning a b
  same_law = grind (arith, answers_same, same_fields, keys_tied, versioning_equal, equal_keys)

  pub equal_law : ((difference_of a b ≡ Same) ⊎ (difference_of a b ≡ Tie))
      ↔ (precedence k l ≡ Equal)
  equal_law = grind (arith, chain, either, answers_same, answers_tie, equal_keys)

  pub epoch_law : (difference_of a b ≡ Epoch) ↔ (¬ (k.epoch ≡ l.epoch))
  epoch_law = chain (answers_epoch epochs part rest fields) (fails epochs same_epochs)

  pub part_law : (n : ℕ) → (difference_of a b ≡ Part n)
      ↔ ((k.epoch ≡ l.epoch) × (take n k.body ≡ take n l.body)
      × ¬ (take (suc n) k.body ≡ take (suc n) l.body))
  part_law n =
      chain (answers_part epochs part rest fields n)
      (chain (both same_epochs (differ_at k.body l.body n, first_at k.body l.body n)) in_a_row)

  pub tail_law : (difference_of a b ≡ Tail)
      ↔ ((k.epoch ≡ l.epoch) × (k.body ≡ l.body) × ¬ (k.tail ≡ l.tail))
  tail_law =
      chain (answers_tail epochs part rest fields)
      (all same_epochs same_bodies (fails rest same_tails))

-- ---- the other way round

either_way : {A : Type 0} {R : A → A → Ordering} → IsTotalOrder R → (x y : A)
    → is_eq (R x y) ≡ is_eq (R y x)
either_way {R = R} total x y = ap is_eq (total.antisymm x y) ∙ reversed (R y x)
  where
    reversed : (o : Ordering) → is_eq (ordering_reverse o) ≡ is_eq o
    reversed Less = refl
    reversed Equal = refl
    reversed Greater = refl

numbers_either_way : (m n : ℕ) → (m == n) ≡ (n == m)
numbers_either_way m n = grind (arith, eqb-true, eq-eqb)

lists_either_way : (ps qs : List PartKey) → first_differing ps qs ≡ first_differing qs ps
lists_either_way [] [] = refl
lists_either_way (p ∷ ps) (q ∷ qs) =
    rw (either_way part_total (Some p) (Some q), lists_either_way ps qs) refl
lists_either_way ps qs = refl

pub either_way_law : (a b : PlainVersioning) → difference_of a b ≡ difference_of b a
either_way_law a b =
    let k = key_of a in
    let l = key_of b in
    λ i.
    answer (numbers_either_way k.epoch l.epoch i) (lists_either_way k.body l.body i)
    (either_way tail_total k.tail l.tail i) (either_way versioning_plain_total a b i)
