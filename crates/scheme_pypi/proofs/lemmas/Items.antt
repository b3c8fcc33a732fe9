-- Words, what may be absent, and lists of items in the texts of Python's versions.
use Rattle.std.proofs.Common.{[], ◌≡◌, ◌⊎◌, ◌∙◌, ◌≤◌, ◌==◌, ℕ, Bool, true, false, List, ◌∷◌, length, Option, Some, None, arith, inl, inr, refl, sym}
use Rattle.std.proofs.lemmas.{Bool.eqb-true, Grind.common_steps, List.nil_from_length}
use Rattle.std.specs.{Option.option_map, Option.option_or, Ordering.is_ne, Ordering.ordering_then, declared.cmp.Ordering.Ordering, declared.cmp.Ordering.TheVariants.Equal}
use Rattle.version_order.proofs.lemmas.Front.{Shrinks, repeated-None, repeated-next}
use Rattle.version_order.specs.texts.Front.{Consumes, Front, begins, repeated, map_value, optional}
use Rattle.scheme_pypi.specs.Texts.{after_byte, items_at, joined, next_item, after_any, number_or_zero, numbered, without_separator}

-- ---- words, and what may be absent

-- the number after a word
pub numbered-Some : (words : List (List ℕ)) (text rest : List ℕ) → Some rest ≡ after_any words (without_separator text)
    → numbered words text ≡ Some (number_or_zero (without_separator rest))
numbered-Some words text rest e = rw (← e) refl

pub numbered-None : (words : List (List ℕ)) (text : List ℕ) → None ≡ after_any words (without_separator text)
    → numbered words text ≡ None
numbered-None words text e = rw (← e) refl

-- the first of two that is there
pub or-None : {X : Type 0} (o p : Option X) → None ≡ o → None ≡ p → None ≡ option_or o p
or-None o p e f = rw (← e) f

pub or-first : {X : Type 0} (o p : Option X) (x : X) → Some x ≡ o → Some x ≡ option_or o p
or-first o p x e = rw (← e) refl

pub or-second : {X : Type 0} (o p : Option X) (x : X) → None ≡ o → Some x ≡ p → Some x ≡ option_or o p
or-second o p x e f = rw (← e) f

pub mapped-None : {X Y : Type 0} (f : X → Y) (o : Option (X × List ℕ)) → o ≡ None → None ≡ map_value f o
mapped-None f o e = rw e refl

pub mapped-Some : {X Y : Type 0} (f : X → Y) (o : Option (X × List ℕ)) (read : X × List ℕ) → o ≡ Some read
    → Some (f read.0, read.1) ≡ map_value f o
mapped-Some f o read e = rw e refl

-- what may be absent
pub optional-Some : {X : Type 0} (front : Front X) (text : List ℕ) (read : X × List ℕ) → front text ≡ Some read
    → (Some read.0, read.1) ≡ optional front text
unfolding optional
optional-Some front text read e = rw e refl

pub optional-None : {X : Type 0} (front : Front X) (text : List ℕ) → front text ≡ None
    → (None, text) ≡ optional front text
unfolding optional
optional-None front text e = rw e refl

-- ---- lists

-- a front reads an item where one begins, and there alone
pub record Reads {X : Type 0} (starts : ℕ → Bool) (front : Front X) : Type 0 where
  pub none : (text : List ℕ) → begins starts text ≡ false → front text ≡ None
  pub some : (text : List ℕ) → begins starts text ≡ true → (read : X × List ℕ) × (front text ≡ Some read)
  pub consumes : Consumes front

-- the next item begins so, or there is none
pub next_begins : (between starts : ℕ → Bool) (text : List ℕ)
    → (next_item between starts text ≡ []) ⊎ (begins starts (next_item between starts text) ≡ true)
next_begins between starts text = grind (arith, common_steps)

-- it is no longer than the text
pub next_shorter : (between starts : ℕ → Bool) (text : List ℕ) → length (next_item between starts text) ≤ length text
next_shorter between starts text = grind (arith, common_steps)

pub is_nil : (l : List ℕ) → (length l == 0) ≡ true → l ≡ []
is_nil l e = nil_from_length l (eqb-true (length l) 0 e)

-- a next item that is not empty begins so
pub next_goes : (between starts : ℕ → Bool) (text more : List ℕ) → more ≡ next_item between starts text
    → (length more == 0) ≡ false → begins starts more ≡ true
next_goes between starts text more e some = grind (arith, common_steps)

module _ {X : Type 0} (between starts : ℕ → Bool) (front : Front X) (reads : Reads starts front) where
  abbrev next : List ℕ → List ℕ
  next = next_item between starts

  after_shrinks : Shrinks (after_byte between front)
  after_shrinks = grind (arith, common_steps)

  -- what a front after a byte reads is the next item, if there is one
  after_next : (text : List ℕ) → begins starts (next text) ≡ true → after_byte between front text ≡ front (next text)
  after_next text e = grind (arith, common_steps)

  after_none : (text : List ℕ) → next text ≡ [] → after_byte between front text ≡ None
  after_none text e = grind (arith, common_steps)

  pub joined-None : (text : List ℕ) → begins starts text ≡ false → joined between front text ≡ None
  unfolding joined
  joined-None text e = rw (reads.none text e) refl

  pub joined-last : (text : List ℕ) (x : X) (rest : List ℕ) → front text ≡ Some (x, rest) → next rest ≡ []
      → joined between front text ≡ Some (x ∷ [], rest)
  unfolding joined
  joined-last text x rest e ends =
      rw e (rw (repeated-None (after_byte between front) rest (length rest) (after_none rest ends)) refl)

  pub joined-more : (text : List ℕ) (x : X) (rest : List ℕ) → front text ≡ Some (x, rest)
      → begins starts (next rest) ≡ true
      → joined between front text
      ≡ option_map (λ (read : List X × List ℕ). (x ∷ read.0, read.1)) (joined between front (next rest))
  unfolding joined
  joined-more text x rest e goes = grind (arith, common_steps, repeated-next, after_shrinks, after_next)

  -- a list is read where an item begins
  pub joined-some : (text : List ℕ) → begins starts text ≡ true
      → (read : List X × List ℕ) × (joined between front text ≡ Some read)
  unfolding joined
  joined-some text e = let one = reads.some text e in (
    (
      one.0.0 ∷ (repeated (after_byte between front) (length one.0.1) one.0.1).0,
      (repeated (after_byte between front) (length one.0.1) one.0.1).1,
    ),
    rw one.1 refl,
  )

  -- what follows a list follows its last item
  pub rest-none : (text : List ℕ) → begins starts text ≡ false
      → None ≡ option_map (λ (read : List X × List ℕ). read.1) (joined between front text)
  rest-none text e = rw (joined-None text e) refl

  pub rest-last : (text : List ℕ) (x : X) (rest more : List ℕ) → front text ≡ Some (x, rest) → more ≡ next rest
      → (length more == 0) ≡ true
      → Some rest ≡ option_map (λ (read : List X × List ℕ). read.1) (joined between front text)
  rest-last text x rest more e is ends = rw (joined-last text x rest e (sym is ∙ is_nil more ends)) refl

  pub rest-more : (text : List ℕ) (x : X) (rest more : List ℕ) → front text ≡ Some (x, rest) → more ≡ next rest
      → (length more == 0) ≡ false
      → option_map (λ (read : List X × List ℕ). read.1) (joined between front more)
      ≡ option_map (λ (read : List X × List ℕ). read.1) (joined between front text)
  rest-more text x rest more e is goes =
      let begun = next_goes between starts rest more is goes in
      let others = joined-some more begun in
      rw (joined-more text x rest e (rw is at begun), ← is, others.1) refl

  -- what is read, by what is left
  pub by_rest : (text rest : List ℕ)
      → Some rest ≡ option_map (λ (read : List X × List ℕ). read.1) (joined between front text)
      → joined between front text ≡ Some (items_at between front text, rest)
  by_rest text rest e = grind (arith, common_steps)

  pub items-none : (text : List ℕ) → begins starts text ≡ false → items_at between front text ≡ []
  items-none text e = rw (joined-None text e) refl

  -- the items of a text are the first one and those of the next
  pub items-step : (text : List ℕ) (x : X) (rest more : List ℕ) → front text ≡ Some (x, rest) → more ≡ next rest
      → items_at between front text ≡ x ∷ items_at between front more
  items-step text x rest more e is = elim (next_begins between starts rest) [
    | inl ends ↦ rw (is, joined-last text x rest e ends, ends, joined-None [] refl) refl
    | inr goes ↦
        let others = joined-some (next rest) goes in
        rw (is, joined-more text x rest e goes, others.1) refl
  ]

-- the rests of two equal reads
pub rest_same : {X : Type 0} (a x : X) (r s : List ℕ)
    → ◌≡◌ {A = Option (X × List ℕ)} (Some (a, r)) (Some (x, s)) → r ≡ s
rest_same a x r s hyp1 = grind (arith, common_steps)

-- ---- lists compared item by item

-- an order that decides, or leaves it to the next
pub decided : (o first second : Ordering) → o ≡ first → is_ne o ≡ true → o ≡ ordering_then first second
decided o first second e ne = grind (arith, common_steps)

pub left_over : (o first second : Ordering) → o ≡ first → is_ne o ≡ false → ordering_then first second ≡ second
left_over o first second e ne = grind (arith, common_steps)

pub is_equal : (o : Ordering) → is_ne o ≡ false → o ≡ Equal
is_equal o e = grind (arith, common_steps)
