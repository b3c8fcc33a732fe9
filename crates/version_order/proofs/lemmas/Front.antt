-- Fronts: readers of the beginning of a text.
use Rattle.std.proofs.Common.{◌≡◌, ◌⊎◌, ◌∙◌, ℕ, zero, suc, ◌<◌, ◌≤◌, List, [], ◌∷◌, ◌++◌, length, Option, Some, None, refl, sym, ap, arith, inl, inr, append_assoc, length-append, ◌==◌, false, subst, append-nil, Bool, true, drop, one-add}
use Rattle.std.specs.{Cmp.first_so, Cmp.second_so, List.flat_map, List.list_all, List.prefix_len, List.take_while, Option.option_map_or}
use Rattle.version_order.specs.texts.Front.{Front, repeated, Consumes, after_mark, begins, behind, dotted_front, elements_at, further, run_front, unless_empty}
use Rattle.version_order.specs.texts.Grammar.{SpellsEach, SpellsBehind, SpellsDotted, IsComplete, IsPrinted, IsSoundBefore, EndsList, IsSound}
use Rattle.version_order.specs.texts.Bytes.{dot}
use Rattle.std.proofs.lemmas.{Bool.cases_Bool, Bool.eqb-true, Bool.eqb-false, Bool.ne_eqb, List.drop_at, List.take-append-drop, List.take_at}

-- ---- items one after another: what their front reads, and that it reads what is spelled

pub cases_Option : {X : Type 0} (o : Option X) → (o ≡ None) ⊎ ((x : X) × (o ≡ Some x))
cases_Option None = inl refl
cases_Option (Some x) = inr (x, refl)

-- the rest that a front leaves is shorter than the text
abbrev pub Shrinks : {X : Type 0} → Front X → Type 0
Shrinks {X} front =
    (text : List ℕ) (x : X) (rest : List ℕ) → front text ≡ Some (x, rest)
    → length rest < length text

module _ {X : Type 0} (front : Front X) where
  repeated-zero : (text : List ℕ) → repeated front zero text ≡ ([], text)
  unfolding repeated
  repeated-zero text = refl

  pub repeated-None : (text : List ℕ) (n : ℕ) → front text ≡ None
      → repeated front n text ≡ ([], text)
  unfolding repeated
  repeated-None text zero e = refl
  repeated-None text (suc n) e = rw e refl

  pub repeated-Some : (text : List ℕ) (n : ℕ) (x : X) (rest : List ℕ) → front text ≡ Some (x, rest)
      → repeated front (suc n) text ≡ (x ∷ (repeated front n rest).0, (repeated front n rest).1)
  unfolding repeated
  repeated-Some text n x rest e = rw e refl

  module _ (shrinks : Shrinks front) where
    more_enough : (n m : ℕ) (text : List ℕ) (x : X) (rest : List ℕ) → front text ≡ Some (x, rest)
        → ((k : ℕ) → length rest ≤ k → repeated front n rest ≡ repeated front k rest)
        → length text ≤ m
        → repeated front (suc n) text ≡ repeated front m text
    more_enough n zero text x rest e same enough =
        let shorter = shrinks text x rest e in absurd (omega arith)
    more_enough n (suc m) text x rest e same enough = grind (arith, repeated-Some)

    -- the limit on the number of items does not matter if it is at least the number of bytes
    pub repeated_enough : (n m : ℕ) (text : List ℕ) → length text ≤ n → length text ≤ m
        → repeated front n text ≡ repeated front m text
    repeated_enough zero m text fits enough = elim (cases_Option (front text)) [
      | inl none ↦ rw (repeated-zero text) (sym (repeated-None text m none))
      | inr one ↦ let shorter : length one.0.1 < length text =
          shrinks text one.0.0 one.0.1 one.1 in absurd (omega arith)
    ]
    repeated_enough (suc n) m text fits enough = elim (cases_Option (front text)) [
      | inl none ↦ repeated-None text (suc n) none ∙ sym (repeated-None text m none)
      | inr one ↦
          let shorter : length one.0.1 < length text = shrinks text one.0.0 one.0.1 one.1 in
          more_enough n m text one.0.0 one.0.1 one.1
          (λ k. repeated_enough n k one.0.1 (omega arith)) enough
    ]

    -- all items are the next one and those after it
    pub repeated-next : (text : List ℕ) (x : X) (rest : List ℕ) → front text ≡ Some (x, rest)
        → repeated front (length text) text
        ≡ (x ∷ (repeated front (length rest) rest).0, (repeated front (length rest) rest).1)
    repeated-next [] x rest e = let shorter = shrinks [] x rest e in absurd (omega arith)
    repeated-next (b ∷ text) x rest e = grind (arith, repeated_enough, repeated-Some)

    -- the rest is no longer than the text
    pub repeated_consumes : (n : ℕ) (text : List ℕ) → length (repeated front n text).1 ≤ length text
    repeated_consumes zero text = rw (repeated-zero text) (omega arith)
    repeated_consumes (suc n) text = elim (cases_Option (front text)) [
      | inl none ↦ rw (repeated-None text (suc n) none) (omega arith)
      | inr one ↦
          let shorter : length one.0.1 < length text = shrinks text one.0.0 one.0.1 one.1 in
          rw (repeated-Some text n one.0.0 one.0.1 one.1)
          (omega (arith, repeated_consumes n one.0.1))
    ]

-- items one after another print their texts one after another
pub each_printed : {X : Type 0} (Spells : List ℕ → X → Type 0) (text_of : X → List ℕ)
    → IsPrinted Spells text_of
    → IsPrinted (SpellsEach Spells) (flat_map text_of)
unfolding SpellsEach
each_printed Spells text_of printed text [] s = sym s
each_printed Spells text_of printed text (x ∷ xs) s =
    rw (s.2, printed s.0 x s.3, each_printed Spells text_of printed s.1 xs s.4) refl

module _ {X : Type 0} (Spells : List ℕ → X → Type 0) (front : Front X) where
  -- Follows holds of what follows each item: of a text that begins with an item, and of what
  -- follows the last one.
  module _ (Follows : List ℕ → Type 0) (sound : IsSoundBefore Follows Spells front)
      (begins_so : (text : List ℕ) (p : X × List ℕ) → front text ≡ Some p → Follows text) where
    pub repeated_follows : (n : ℕ) (text : List ℕ) → Follows (repeated front n text).1
        → Follows text
    repeated_follows zero text f = rw (repeated-zero front text) at f
    repeated_follows (suc n) text f = grind (arith, cases_Option, repeated-None)

    -- items that are read are spelled so
    pub repeated_sound : (n : ℕ) (text : List ℕ) → Follows (repeated front n text).1
        → (pieces : List ℕ) × (text ≡ pieces ++ (repeated front n text).1)
        × SpellsEach Spells pieces (repeated front n text).0
    unfolding SpellsEach
    repeated_sound zero text f = rw (repeated-zero front text) ([], refl, refl)
    repeated_sound (suc n) text f = elim (cases_Option (front text)) [
      | inl none ↦ rw (repeated-None front text (suc n) none) ([], refl, refl)
      | inr one ↦
          let x = one.0.0 in
          let rest = one.0.1 in
          let last = rw (repeated-Some front text n x rest one.1) at f in
          let read = sound text x rest one.1 (repeated_follows n rest last) in
          let more = repeated_sound n rest last in
          rw (repeated-Some front text n x rest one.1) (
            read.0 ++ more.0,
            read.1 ∙ ap (λ (l : List ℕ). read.0 ++ l) more.1 ∙ sym (append_assoc read.0 more.0 _),
            (read.0, more.0, refl, read.2, more.2),
          )
    ]

  -- What follows an item does not continue it: neither a further item, nor what follows the last
  -- one.
  module _ (Ends : List ℕ → Type 0) (complete : IsComplete Spells Ends front)
      (some : (piece : List ℕ) (x : X) → Spells piece x → 0 < length piece)
      (begins_so : (piece : List ℕ) (x : X) (text : List ℕ) → Spells piece x
      → Ends (piece ++ text)) where
    pub each_ends : (pieces rest : List ℕ) (xs : List X) → SpellsEach Spells pieces xs → Ends rest
        → Ends (pieces ++ rest)
    unfolding SpellsEach
    each_ends pieces rest [] s ends = rw s ends
    each_ends pieces rest (x ∷ xs) s ends =
        rw (s.2, append_assoc) (begins_so s.0 x (s.1 ++ rest) s.3)

    -- items that are spelled are read, if what follows does not begin with one
    pub repeated-reads : (n : ℕ) (pieces rest : List ℕ) (xs : List X) → SpellsEach Spells pieces xs
        → Ends rest → front rest ≡ None → length pieces ≤ n
        → repeated front n (pieces ++ rest) ≡ (xs, rest)
    unfolding SpellsEach
    repeated-reads n pieces rest [] s ends none fits = rw s (repeated-None front rest n none)
    repeated-reads zero pieces rest (x ∷ xs) s ends none fits = grind (arith, some, length-append)
    repeated-reads (suc n) pieces rest (x ∷ xs) s ends none fits =
        let nonempty = some s.0 x s.3 in
        let first = complete s.0 x (s.1 ++ rest) s.3 (each_ends s.1 rest xs s.4 ends) in
        let shorter : length s.1 ≤ n =
        omega (arith, ap (λ (l : List ℕ). length l) s.2, length-append s.0 s.1) in
        let more = repeated-reads n s.1 rest xs s.4 ends none shorter in
        rw (s.2, append_assoc) (rw (repeated-Some front _ n x (s.1 ++ rest) first) (rw more refl))

-- ---- lists joined by dots: what their front reads, and that it reads what is spelled

-- a front after a byte reads that byte, and then as the front does
pub behind-Some : {X : Type 0} (mark : ℕ) (front : Front X) (text : List ℕ) (p : X × List ℕ)
    → behind mark front text ≡ Some p
    → (tail : List ℕ) × (text ≡ mark ∷ tail) × (front tail ≡ Some p)
behind-Some mark front [] p e = cc e
behind-Some mark front (b ∷ tail) p e = grind (arith, cases_Bool, eqb-true)

behind-other : {X : Type 0} (front : Front X) (text : List ℕ) → begins (λ b. b == dot) text ≡ false
    → behind dot front text ≡ None
behind-other front [] e = refl
behind-other front (b ∷ text) e = rw e refl

behind_sound : {X : Type 0} (mark : ℕ) (Follows : List ℕ → Type 0) (Spells : List ℕ → X → Type 0)
    (front : Front X) → IsSoundBefore Follows Spells front
    → IsSoundBefore Follows (SpellsBehind mark Spells) (behind mark front)
behind_sound mark Follows Spells front sound text x rest e f =
    let parts = behind-Some mark front text (x, rest) e in
    let read = sound parts.0 x rest parts.2 f in
    (mark ∷ read.0, parts.1 ∙ ap (λ (l : List ℕ). mark ∷ l) read.1, (read.0, refl, read.2))

behind_complete : {X : Type 0} (Ends : List ℕ → Type 0) (Spells : List ℕ → X → Type 0)
    (front : Front X) → IsComplete Spells Ends front
    → IsComplete (SpellsBehind dot Spells) Ends (behind dot front)
behind_complete Ends Spells front complete piece x rest s ends =
    rw s.1 (complete s.0 x rest s.2 ends)

-- what the front of a list reads, whatever its elements are
module _ {X : Type 0} (front : Front X) where
  pub further-None : (text : List ℕ) (n : ℕ) → behind dot front text ≡ None
      → further front n text ≡ ([], text)
  further-None = repeated-None (behind dot front)

  -- the elements of a list, if its first element is read
  pub listed : (text : List ℕ) (x : X) (rest : List ℕ) → front text ≡ Some (x, rest)
      → dotted_front front text
      ≡ Some (x ∷ (further front (length rest) rest).0, (further front (length rest) rest).1)
  unfolding dotted_front
  listed text x rest e = rw e refl

  pub unlisted : (text : List ℕ) → front text ≡ None → dotted_front front text ≡ None
  unfolding dotted_front
  unlisted text e = rw e refl

  module _ (consumes : Consumes front) where
    -- what is left after a dot is shorter
    pub behind_dot_shrinks : Shrinks (behind dot front)
    behind_dot_shrinks text x rest e = grind (arith, behind-Some)

    -- all further elements are the next one and those after it
    pub further-next : (text : List ℕ) (x : X) (rest : List ℕ)
        → behind dot front text ≡ Some (x, rest)
        → further front (length text) text
        ≡ (x ∷ (further front (length rest) rest).0, (further front (length rest) rest).1)
    further-next = repeated-next (behind dot front) behind_dot_shrinks

    -- the elements after the first one are those after the dot that follows it
    elements_behind : (text : List ℕ)
        → (further front (length text) text).0
        ≡ option_map_or (elements_at front) (after_mark dot text) []
    elements_behind text = elim (cases_Option (after_mark dot text)) [
      | inl none ↦ rw (further-None text (length text) (rw none refl), none) refl
      | inr tail ↦ elim (cases_Option (front tail.0)) [
        | inl unread ↦
            rw (further-None text (length text) (rw tail.1 unread), tail.1, unlisted tail.0 unread)
            refl
        | inr one ↦ rw (
          further-next text one.0.0 one.0.1 (rw tail.1 one.1),
          tail.1,
          listed tail.0 one.0.0 one.0.1 one.1,
        ) refl
      ]
    ]

    pub elements_at-first : (text : List ℕ) (x : X) (rest : List ℕ) → front text ≡ Some (x, rest)
        → elements_at front text ≡ x ∷ option_map_or (elements_at front) (after_mark dot rest) []
    elements_at-first text x rest e =
        rw (listed text x rest e) (ap (λ (xs : List X). x ∷ xs) (elements_behind rest))

    -- the rest after a list is no longer than the text
    pub dotted_consumes : Consumes (dotted_front front)
    dotted_consumes text xs rest e = elim (cases_Option (front text)) [
      | inl none ↦ cc (sym (unlisted text none) ∙ e)
      | inr first ↦
          let after = first.0.1 in
          let m = further front (length after) after in
          let same : (first.0.0 ∷ m.0, m.1) ≡ (xs, rest) =
          cc (sym (listed text first.0.0 after first.1) ∙ e) in
          let left : m.1 ≡ rest = ap (λ (p : List X × List ℕ). p.1) same in
          omega (
            arith,
            consumes text first.0.0 after first.1,
            repeated_consumes (behind dot front) behind_dot_shrinks (length after) after,
            ap (λ (l : List ℕ). length l) left,
          )
    ]

-- and what spells a list
module _ {X : Type 0} (Spells : List ℕ → X → Type 0) (front : Front X) where
  -- further elements, each after a dot
  abbrev SpellsFurther : List ℕ → List X → Type 0
  SpellsFurther = SpellsEach (SpellsBehind dot Spells)

  -- a first element and further ones are a list
  dotted : (first others : List ℕ) (x : X) (xs : List X) → Spells first x → SpellsFurther others xs
      → SpellsDotted Spells (first ++ others) (x ∷ xs)
  unfolding SpellsDotted SpellsEach
  dotted first others x [] s e = rw (e, append-nil) s
  dotted first others x (y ∷ ys) s more =
      let at_dot = more.3 in
      let whole : others ≡ dot ∷ (at_dot.0 ++ more.1) =
      more.2 ∙ ap (λ (l : List ℕ). l ++ more.1) at_dot.1 in (
        first,
        at_dot.0 ++ more.1,
        ap (λ (l : List ℕ). first ++ l) whole,
        s,
        dotted at_dot.0 more.1 y ys at_dot.2 more.4,
      )

  -- a list has a first element and further ones
  undotted : (text : List ℕ) (x : X) (xs : List X) → SpellsDotted Spells text (x ∷ xs)
      → (first others : List ℕ) × (text ≡ first ++ others) × Spells first x
      × SpellsFurther others xs
  unfolding SpellsDotted SpellsEach
  undotted text x [] s = (text, [], sym (append-nil text), s, refl)
  undotted text x (y ∷ ys) s =
      let more = undotted s.1 y ys s.4 in (
        s.0,
        dot ∷ s.1,
        s.2,
        s.3,
        (
          dot ∷ more.0,
          more.1,
          ap (λ (l : List ℕ). dot ∷ l) more.2,
          (more.0, refl, more.3),
          more.4,
        ),
      )

  -- Follows holds of what follows each element: of the dot before a further one, and of what
  -- follows the list.
  module _ (Follows : List ℕ → Type 0) (sound : IsSoundBefore Follows Spells front)
      (follows_at_dot : (text : List ℕ) → Follows (dot ∷ text)) where
    behind_sound_here : IsSoundBefore Follows (SpellsBehind dot Spells) (behind dot front)
    behind_sound_here = behind_sound dot Follows Spells front sound

    dot_follows : (text : List ℕ) (p : X × List ℕ) → behind dot front text ≡ Some p → Follows text
    dot_follows text p e = rw (behind-Some dot front text p e).1 (follows_at_dot _)

    -- a list that is read is spelled so
    pub dotted_sound_before : IsSoundBefore Follows (SpellsDotted Spells) (dotted_front front)
    dotted_sound_before text xs rest e f = elim (cases_Option (front text)) [
      | inl none ↦ cc (sym (unlisted front text none) ∙ e)
      | inr first ↦
          let x = first.0.0 in
          let after = first.0.1 in
          let m = further front (length after) after in
          let same : (x ∷ m.0, m.1) ≡ (xs, rest) =
          cc (sym (listed front text x after first.1) ∙ e) in
          let elements : x ∷ m.0 ≡ xs = ap (λ (p : List X × List ℕ). p.0) same in
          let left : m.1 ≡ rest = ap (λ (p : List X × List ℕ). p.1) same in
          let last : Follows m.1 = subst Follows (sym left) f in
          let read = sound text x after first.1
          (repeated_follows (SpellsBehind dot Spells)
          (behind dot front) Follows behind_sound_here dot_follows (length after) after last) in
          let more = repeated_sound (SpellsBehind dot Spells)
          (behind dot front) Follows behind_sound_here dot_follows (length after) after last in
          let whole : text ≡ (read.0 ++ more.0) ++ m.1 =
          read.1 ∙ ap (λ (l : List ℕ). read.0 ++ l) more.1
          ∙ sym (append_assoc read.0 more.0 m.1) in (
            read.0 ++ more.0,
            subst (λ (l : List ℕ). text ≡ (read.0 ++ more.0) ++ l) left whole,
            subst (SpellsDotted Spells (read.0 ++ more.0)) elements
                (dotted read.0 more.0 x m.0 read.2 more.2),
          )
    ]

  pub dotted_sound : IsSound Spells front → IsSound (SpellsDotted Spells) (dotted_front front)
  dotted_sound sound text xs rest e =
      dotted_sound_before (λ rest. Unit {0}) (λ text x rest e f. sound text x rest e)
      (λ text. tt) text xs rest e tt

  -- What follows a list does not continue it.
  module _ (Ends : List ℕ → Type 0) (complete : IsComplete Spells Ends front)
      (ends_at_dot : (text : List ℕ) → Ends (dot ∷ text)) where
    some : (piece : List ℕ) (x : X) → SpellsBehind dot Spells piece x → 0 < length piece
    some piece x s = omega (arith, ap (λ (l : List ℕ). length l) s.1)

    ends_here : (piece : List ℕ) (x : X) (text : List ℕ) → SpellsBehind dot Spells piece x
        → Ends (piece ++ text)
    ends_here piece x text s = rw s.1 (ends_at_dot _)

    -- a list that is spelled is read
    pub dotted_complete : IsComplete (SpellsDotted Spells) (EndsList Ends) (dotted_front front)
    unfolding dotted_front SpellsDotted
    dotted_complete piece [] rest s e = absurd s
    dotted_complete piece (x ∷ xs) rest s e =
        let parts = undotted piece x xs s in
        let again : piece ++ rest ≡ parts.0 ++ (parts.1 ++ rest) =
        ap (λ (l : List ℕ). l ++ rest) parts.2 ∙ append_assoc parts.0 parts.1 rest in
        let whole = behind_complete Ends Spells front complete in
        let first = complete parts.0 x (parts.1 ++ rest) parts.3
        (each_ends (SpellsBehind dot Spells)
        (behind dot front) Ends whole some ends_here parts.1 rest xs parts.4 e.0) in
        let enough : length parts.1 ≤ length (parts.1 ++ rest) =
        omega (arith, length-append parts.1 rest) in
        let more = repeated-reads (SpellsBehind dot Spells)
        (behind dot front) Ends whole some ends_here
        (length (parts.1 ++ rest)) parts.1 rest xs parts.4 e.0
        (behind-other front rest e.1) enough in
        rw again (rw first (rw more refl))

-- ---- what the front of a run reads, and that it reads each run that ends

-- what follows a byte, if the text begins with it
pub after_mark-Some : (mark : ℕ) (text tail : List ℕ) → after_mark mark text ≡ Some tail
    → text ≡ mark ∷ tail
after_mark-Some mark [] tail e = cc e
after_mark-Some mark (b ∷ text) tail e = grind (arith, cases_Bool, eqb-true)

-- what passes one test passes a weaker one
pub all_weaker : (p q : ℕ → Bool) → ((b : ℕ) → p b ≡ true → q b ≡ true) → (text : List ℕ)
    → list_all p text ≡ true → list_all q text ≡ true
all_weaker p q weaker [] h = refl
all_weaker p q weaker (b ∷ text) h =
    rw (weaker b (first_so _ _ h)) (all_weaker p q weaker text (second_so _ _ h))

-- the run and the rest that a front of a run gives
pub record ReadsRun (test : ℕ → Bool) (text run rest : List ℕ) : Type 0 where
  pub whole : text ≡ run ++ rest
  pub all : list_all test run ≡ true
  pub some : 0 < length run
  pub ends : begins test rest ≡ false

take_while-cons : (test : ℕ → Bool) (b : ℕ) (text : List ℕ) → test b ≡ true
    → (take_while test (b ∷ text) ≡ b ∷ take_while test text)
    × (drop (prefix_len test (b ∷ text)) (b ∷ text) ≡ drop (prefix_len test text) text)
take_while-cons test b text h = rw (h, one-add) (refl, refl)

pub list_all-take_while : (test : ℕ → Bool) (text : List ℕ)
    → list_all test (take_while test text) ≡ true
list_all-take_while test [] = refl
list_all-take_while test (b ∷ text) = grind (arith, cases_Bool, take_while-cons, list_all-take_while test text)

pub begins-drop : (test : ℕ → Bool) (text : List ℕ)
    → begins test (drop (prefix_len test text) text) ≡ false
begins-drop test [] = refl
begins-drop test (b ∷ text) = elim (cases_Bool (test b)) [
  | inl passes ↦ rw (take_while-cons test b text passes).1 (begins-drop test text)
  | inr fails ↦ rw fails fails
]

-- a run that is not empty is read as it is
unless_empty-Some : (p : List ℕ × List ℕ) (run rest : List ℕ) → unless_empty p ≡ Some (run, rest)
    → (p.0 ≡ run) × (p.1 ≡ rest) × (0 < length run)
unless_empty-Some p run rest e = grind (arith, cases_Bool, eqb-false)

pub reads_run : (test : ℕ → Bool) (text run rest : List ℕ) → run_front test text ≡ Some (run, rest)
    → ReadsRun test text run rest
unfolding run_front
reads_run test text run rest e =
    let parts = unless_empty-Some _ run rest e in
    record {
      whole = sym (take-append-drop (prefix_len test text) text) ∙ rw (parts.0, parts.1) refl;
      all = rw parts.0 at (list_all-take_while test text);
      some = parts.2;
      ends = rw parts.1 at (begins-drop test text);
    }

pub prefix_len-append : (test : ℕ → Bool) (run rest : List ℕ) → list_all test run ≡ true
    → begins test rest ≡ false → prefix_len test (run ++ rest) ≡ length run
prefix_len-append test [] [] all ends = refl
prefix_len-append test [] (b ∷ rest) all ends = rw ends refl
prefix_len-append test (b ∷ run) rest all ends =
    let more : prefix_len test (run ++ rest) ≡ length run =
    prefix_len-append test run rest (second_so _ _ all) ends in
    let first : test b ≡ true = first_so _ _ all in
    rw first (omega arith)

-- the same of a run that is known
pub run_front-empty : (test : ℕ → Bool) (text run : List ℕ) → run ≡ take_while test text
    → (length run == 0) ≡ true → run_front test text ≡ None
unfolding run_front
run_front-empty test text run e none = rw (rw e at none) refl

pub run_front-some : (test : ℕ → Bool) (text run rest : List ℕ) → run ≡ take_while test text
    → rest ≡ drop (prefix_len test text) text → (length run == 0) ≡ false
    → run_front test text ≡ Some (run, rest)
unfolding run_front
run_front-some test text run rest e f some = rw (e, f) (rw (rw e at some) refl)

pub run_front-reads : (test : ℕ → Bool) (run rest : List ℕ) → list_all test run ≡ true
    → 0 < length run → begins test rest ≡ false → run_front test (run ++ rest) ≡ Some (run, rest)
unfolding run_front
run_front-reads test run rest all some ends = grind (arith, prefix_len-append, all, ends, ne_eqb, take_at, drop_at)

pub take_while-all : (test : ℕ → Bool) (run : List ℕ) → list_all test run ≡ true
    → take_while test run ≡ run
take_while-all test [] all = refl
take_while-all test (b ∷ run) all =
    let first : test b ≡ true = first_so _ _ all in
    rw (first, one-add) (ap (λ (l : List ℕ). b ∷ l) (take_while-all test run (second_so _ _ all)))
