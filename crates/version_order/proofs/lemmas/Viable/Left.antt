-- What is left of a text after its longest viable beginning, piece by piece.
use Rattle.std.proofs.Common.{◌≡◌, ◌⊎◌, ◌==◌, ◌&&◌, ◌||◌, ◌-◌, ◌<◌, ◌≤◌, ◌∙◌, ℕ, Bool, true, false, List, [], ◌∷◌, ◌++◌, ap, append_assoc, arith, drop, length, length-append, not, refl, subst, suc, sym, take, if◌then◌else◌, inl, inr, Option}
use Rattle.std.specs.{Cmp.first_so, Cmp.second_so, List.list_all, List.prefix_len, List.take_while, Option.is_some, Option.option_map}
use Rattle.version_order.specs.{Viable.IsLeft, Viable.IsLongestViable, Viable.IsViable, texts.Front.begins, texts.Front.is_run}
use Rattle.version_order.proofs.lemmas.{Codes.is_read, Front.begins-drop, Front.list_all-take_while, Front.prefix_len-append, Front.take_while-all, Runs.and-false, Runs.run_cons, Runs.run_none}
use Rattle.std.proofs.Math.Dec.{eqb-suc-zero}
use Rattle.std.proofs.lemmas.List.{drop_at, length-drop, take-append-drop, take_all, take_at}
use Rattle.std.proofs.lemmas.Bool.{and_from, cases_Bool, or_left}

-- a test that holds of the same texts
pub same : (test other : List ℕ → Bool) → ((text : List ℕ) → test text ≡ other text) → (text left : List ℕ)
    → IsLeft other text left → IsLeft test text left
same test other alike text left is = record {
  begun = is.begun;
  whole = is.whole;
  viable = record { rest = is.viable.rest; passes = alike _ ∙ is.viable.passes };
  stuck = λ byte behind e more. alike _ ∙ is.stuck byte behind e more;
}

-- the text stands still: it is viable, but not with its first byte
pub stays : (test : List ℕ → Bool) (text rest : List ℕ) → test rest ≡ true
    → ((byte : ℕ) (behind : List ℕ) → text ≡ byte ∷ behind → (more : List ℕ) → test (byte ∷ more) ≡ false)
    → IsLeft test text text
stays test text rest passes stuck = record {
  begun = [];
  whole = refl;
  viable = record { rest = rest; passes = passes };
  stuck = stuck;
}

-- what follows a beginning decides
pub behind : (test other : List ℕ → Bool) (begun : List ℕ) → ((text : List ℕ) → test (begun ++ text) ≡ other text)
    → (text left : List ℕ) → IsLeft other text left → IsLeft test (begun ++ text) left
behind test other begun alike text left is = record {
  begun = begun ++ is.begun;
  whole = ap (λ (l : List ℕ). begun ++ l) is.whole ∙ sym (append_assoc begun is.begun left);
  viable = record {
    rest = is.viable.rest;
    passes = ap test (append_assoc begun is.begun is.viable.rest) ∙ alike _ ∙ is.viable.passes;
  };
  stuck = λ byte after e more.
      ap test (append_assoc begun is.begun (byte ∷ more)) ∙ alike _ ∙ is.stuck byte after e more;
}

-- the first byte of a text, where more follows it
first_byte : (class : ℕ → Bool) (begun : List ℕ) (byte : ℕ) (behind more : List ℕ)
    → begins class (begun ++ byte ∷ more) ≡ begins class (begun ++ byte ∷ behind)
first_byte class [] byte behind more = refl
first_byte class (b ∷ begun) byte behind more = refl

-- tests that agree on the texts that begin with a byte of a class, or on those that don't
pub where_begins : (class : ℕ → Bool) (is_begun : Bool) (test other : List ℕ → Bool)
    → ((text : List ℕ) → begins class text ≡ is_begun → test text ≡ other text)
    → ((text : List ℕ) → other text ≡ true → begins class text ≡ is_begun) → (text left : List ℕ)
    → begins class text ≡ is_begun → IsLeft other text left → IsLeft test text left
where_begins class is_begun test other alike closed text left here is = record {
  begun = is.begun;
  whole = is.whole;
  viable = record {
    rest = is.viable.rest;
    passes = alike _ (closed _ is.viable.passes) ∙ is.viable.passes;
  };
  stuck = λ byte after e more.
      alike _ (first_byte class is.begun byte after more
      ∙ ap (begins class) (sym (is.whole ∙ ap (λ (l : List ℕ). is.begun ++ l) e)) ∙ here)
      ∙ is.stuck byte after e more;
}

-- tests that agree on the texts that begin with no byte of a class, and of which nothing passes one
pub unless_nothing : (mark : ℕ → Bool) (test other : List ℕ → Bool)
    → ((text : List ℕ) → begins mark text ≡ false → test text ≡ other text) → test [] ≡ true → (text left : List ℕ)
    → begins mark text ≡ false → IsLeft other text left → IsLeft test text left
unless_nothing mark test other alike nothing text left none is = record {
  begun = is.begun;
  whole = is.whole;
  viable = by is.begun is.whole is.viable;
  stuck = λ byte after e more.
      alike _ (first_byte mark is.begun byte after more
      ∙ ap (begins mark) (sym (is.whole ∙ ap (λ (l : List ℕ). is.begun ++ l) e)) ∙ none)
      ∙ is.stuck byte after e more;
}
  where
    by : (begun : List ℕ) → text ≡ begun ++ left → IsViable other begun → IsViable test begun
    by [] e viable = record { rest = []; passes = nothing }
    by (b ∷ begun) e viable = record {
      rest = viable.rest;
      passes = alike _ (ap (begins mark) (sym e) ∙ none) ∙ viable.passes;
    }

-- a run stays where another byte follows
run_of : (class : ℕ → Bool) (run rest : List ℕ) → list_all class run ≡ true → begins class rest ≡ false
    → (take_while class (run ++ rest) ≡ run) × (drop (prefix_len class (run ++ rest)) (run ++ rest) ≡ rest)
run_of class run rest all ends = grind (arith, prefix_len-append, all, ends, take_at, drop_at)

-- by the run that a text begins with, and what follows it
module _ (class : ℕ → Bool) (test : List ℕ → Bool) (by : List ℕ → List ℕ → Bool)
    (split : (text : List ℕ) → test text ≡ by (take_while class text) (drop (prefix_len class text) text))
    (text run rest : List ℕ) (run_is : run ≡ take_while class text)
    (rest_is : rest ≡ drop (prefix_len class text) text) where
  all : list_all class run ≡ true
  all = ap (list_all class) run_is ∙ list_all-take_while class text

  ends : begins class rest ≡ false
  ends = ap (begins class) rest_is ∙ begins-drop class text

  whole : text ≡ run ++ rest
  whole = sym (take-append-drop (prefix_len class text) text) ∙ (λ i. sym run_is i ++ sym rest_is i)

  at_run : (next : List ℕ) → begins class next ≡ false → test (run ++ next) ≡ by run next
  at_run next apart = grind (arith, run_of, all)

  -- what follows the run decides
  pub after_run : ((next : List ℕ) → by run next ≡ true → begins class next ≡ false) → (left : List ℕ)
      → IsLeft (by run) rest left → IsLeft test text left
  after_run closed left is = record {
    begun = run ++ is.begun;
    whole = whole ∙ ap (λ (l : List ℕ). run ++ l) is.whole ∙ sym (append_assoc run is.begun left);
    viable = record {
      rest = is.viable.rest;
      passes = ap test (append_assoc run is.begun is.viable.rest)
          ∙ at_run (is.begun ++ is.viable.rest) (closed _ is.viable.passes) ∙ is.viable.passes;
    };
    stuck = λ byte after e more.
        ap test (append_assoc run is.begun (byte ∷ more))
        ∙ at_run (is.begun ++ byte ∷ more)
        (first_byte class is.begun byte after more ∙ ap (begins class)
        (sym (is.whole ∙ ap (λ (l : List ℕ). is.begun ++ l) e)) ∙ ends)
        ∙ is.stuck byte after e more;
  }

  -- the run is viable, but nothing may follow it
  pub at_end : (more : List ℕ) → test (run ++ more) ≡ true
      → ((byte : ℕ) (after : List ℕ) → rest ≡ byte ∷ after → (next : List ℕ) → by run (byte ∷ next) ≡ false)
      → IsLeft test text rest
  at_end more passes wrong = record {
    begun = run;
    whole = whole;
    viable = record { rest = more; passes = passes };
    stuck = λ byte after e next. at_run (byte ∷ next) (first byte after e) ∙ wrong byte after e next;
  }
    where
      first : (byte : ℕ) (after : List ℕ) → rest ≡ byte ∷ after → class byte ≡ false
      first byte after e = ap (begins class) (sym e) ∙ ends

-- ---- runs to the end

-- nothing
abbrev pub is_nothing : List ℕ → Bool
is_nothing [] = true
is_nothing (byte ∷ text) = false

pub nothing_apart : (class mark : ℕ → Bool) (text : List ℕ) → is_nothing text ≡ true
    → (begins class text ≡ false) × (begins mark text ≡ false)
nothing_apart class mark [] e = (refl, refl)
nothing_apart class mark (byte ∷ text) e = absurd (cc e)

pub nothing_left : (text : List ℕ) → IsLeft is_nothing text text
nothing_left text = stays is_nothing text [] refl (λ byte after e more. refl)

-- nothing follows the run of a text whose bytes all pass
pub whole_run : (test : ℕ → Bool) (text : List ℕ)
    → list_all test text ≡ is_nothing (drop (prefix_len test text) text)
whole_run test [] = refl
whole_run test (b ∷ text) = elim (cases_Bool (test b)) [
  | inl passes ↦
      let here : list_all test (b ∷ text) ≡ list_all test text = rw passes refl in
      here ∙ whole_run test text ∙ ap is_nothing (sym (run_cons test b text passes).1)
  | inr fails ↦
      let here : list_all test (b ∷ text) ≡ false = rw fails refl in
      here ∙ ap is_nothing (sym (run_none test b text fails).1)
]

pub run_is_run : (test : ℕ → Bool) (run : List ℕ) → list_all test run ≡ true → (length run == 0) ≡ false
    → is_run test run ≡ true
run_is_run test run all some = rw (some, all) refl

pub run_split : (test : ℕ → Bool) (text : List ℕ) → is_run test text
    ≡ (not (length (take_while test text) == 0) && is_nothing (drop (prefix_len test text) text))
run_split test [] = refl
run_split test (byte ∷ text) = grind (arith, cases_Bool, run_cons, eqb-suc-zero, whole_run, run_none, and-false)

pub grown : (test : ℕ → Bool) → test 97 ≡ true → (run : List ℕ) → list_all test run ≡ true
    → list_all test (run ++ 97 ∷ []) ≡ true
grown test letter [] e = rw letter refl
grown test letter (b ∷ run) e = and_from _ _ (first_so _ _ e) (grown test letter run (second_so (test b) _ e))

-- a run, to the end
pub run_left : (test : ℕ → Bool) → test 97 ≡ true → (text run rest : List ℕ) → run ≡ take_while test text
    → rest ≡ drop (prefix_len test text) text → IsLeft (is_run test) text rest
run_left test letter text run rest run_is rest_is =
    at_end test (is_run test) (λ run rest. not (length run == 0) && is_nothing rest) (run_split test)
    text run rest run_is rest_is (97 ∷ []) (by run all_pass) (λ byte after e t. and-false _ _ refl)
  where
    all_pass : list_all test run ≡ true
    all_pass = ap (list_all test) run_is ∙ list_all-take_while test text

    by : (l : List ℕ) → list_all test l ≡ true → is_run test (l ++ 97 ∷ []) ≡ true
    by [] e = run_is_run test (97 ∷ []) (grown test letter [] e) refl
    by (b ∷ l) e = run_is_run test (b ∷ (l ++ 97 ∷ [])) (grown test letter (b ∷ l) e)
        (eqb-suc-zero (length (l ++ 97 ∷ [])))

pub empty_run : (run : List ℕ) → (length run == 0) ≡ true → run ≡ []
empty_run [] none = refl
empty_run (byte ∷ run) none = cc (sym (eqb-suc-zero (length run)) ∙ none)

pub nothing_nil : (text : List ℕ) → is_nothing text ≡ true → text ≡ []
nothing_nil [] e = refl
nothing_nil (byte ∷ text) e = cc e

-- ---- pieces with marks between, and a tail

-- what follows a piece
abbrev pub next : (ℕ → Bool) → (List ℕ → Bool) → (List ℕ → Bool) → List ℕ → Bool
next mark test tail [] = tail []
next mark test tail (byte ∷ text) = if mark byte then test text else tail (byte ∷ text)

module _ (mark : ℕ → Bool) (test tail : List ℕ → Bool) where
  pub next_tail : (text : List ℕ) → begins mark text ≡ false → next mark test tail text ≡ tail text
  next_tail [] none = refl
  next_tail (byte ∷ text) none = rw none refl

  next_mark : (byte : ℕ) → mark byte ≡ true → (text : List ℕ) → next mark test tail (byte ∷ text) ≡ test text
  next_mark byte marked text = rw marked refl

module _ (class mark : ℕ → Bool) (good test tail : List ℕ → Bool)
    (split : (text : List ℕ) → test text
    ≡ (good (take_while class text) && next mark test tail (drop (prefix_len class text) text)))
    (mark_apart : (byte : ℕ) → mark byte ≡ true → class byte ≡ false)
    (tail_apart : (text : List ℕ) → tail text ≡ true → (begins class text ≡ false) × (begins mark text ≡ false)) where
  abbrev pub by : List ℕ → List ℕ → Bool
  by run rest = good run && next mark test tail rest

  pub next_closed : (text : List ℕ) → next mark test tail text ≡ true → begins class text ≡ false
  next_closed [] passes = refl
  next_closed (byte ∷ text) passes = grind (arith, cases_Bool)

  closed : (run rest : List ℕ) → by run rest ≡ true → begins class rest ≡ false
  closed run rest passes = next_closed rest (second_so (good run) _ passes)

  -- a piece alone
  pub alone : (run : List ℕ) → list_all class run ≡ true → good run ≡ true → tail [] ≡ true → test run ≡ true
  alone run all is nothing = grind (arith, nothing_nil, whole_run, all, take_while-all)

  -- a tail follows the piece, or a further one
  pub last_rest : (run rest left : List ℕ) → good run ≡ true → begins mark rest ≡ false
      → IsLeft tail rest left → IsLeft (by run) rest left
  last_rest run rest left is none tail_left =
      where_begins mark false (by run) tail (λ t e. rw is (next_tail mark test tail t e))
      (λ t e. (tail_apart t e).1) rest left none tail_left

  pub next_rest : (run rest left : List ℕ) (byte : ℕ) (more : List ℕ) → good run ≡ true → rest ≡ byte ∷ more
      → mark byte ≡ true → IsLeft test more left → IsLeft (by run) rest left
  next_rest run rest left byte more is cut marked more_left =
      subst (λ (l : List ℕ). IsLeft (by run) l left) (sym cut)
      (behind (by run) test (byte ∷ []) (λ t. rw is (next_mark mark test tail byte marked t)) more left more_left)

  module _ (text run rest : List ℕ) (run_is : run ≡ take_while class text)
      (rest_is : rest ≡ drop (prefix_len class text) text) where
    -- a piece that is none, but may become one
    pub wrong_piece : good run ≡ false → (more : List ℕ) → test (run ++ more) ≡ true → IsLeft test text rest
    wrong_piece fails more passes =
        at_end class test by split text run rest run_is rest_is more passes (λ byte after e t. rw fails refl)

    pub last_piece : good run ≡ true → begins mark rest ≡ false → (left : List ℕ) → IsLeft tail rest left
        → IsLeft test text left
    last_piece is none left tail_left =
        after_run class test by split text run rest run_is rest_is (closed run) left
        (last_rest run rest left is none tail_left)

    pub next_piece : good run ≡ true → (byte : ℕ) (more : List ℕ) → rest ≡ byte ∷ more → mark byte ≡ true
        → (left : List ℕ) → IsLeft test more left → IsLeft test text left
    next_piece is byte more cut marked left more_left =
        after_run class test by split text run rest run_is rest_is (closed run) left
        (next_rest run rest left byte more is cut marked more_left)

-- ---- one of two tests

-- a text cut at two places
cut_twice : (a x b y : List ℕ) → a ++ x ≡ b ++ y → length x ≤ length y
    → (z : List ℕ) × (a ≡ b ++ z) × (y ≡ z ++ x)
cut_twice a x [] y e less = (a, refl, sym e)
cut_twice [] x (c ∷ b) y e less = grind (arith, length-append)
cut_twice (d ∷ a) x (c ∷ b) y e less =
    let head : d ≡ c = cc e in
    let tail : a ++ x ≡ b ++ y = cc e in
    let more = cut_twice a x b y tail less in
    (more.0, (λ i. head i ∷ more.1 i), more.2)

stuck_later : (test : List ℕ → Bool) (begun left : List ℕ)
    → ((byte : ℕ) (behind : List ℕ) → left ≡ byte ∷ behind → (more : List ℕ) → test (begun ++ byte ∷ more) ≡ false)
    → (z x : List ℕ) → left ≡ z ++ x → (byte : ℕ) (behind : List ℕ) → x ≡ byte ∷ behind → (more : List ℕ)
    → test (begun ++ (z ++ byte ∷ more)) ≡ false
stuck_later test begun left stuck [] x e byte behind f more = stuck byte behind (e ∙ f) more
stuck_later test begun left stuck (c ∷ z) x e byte behind f more = stuck c (z ++ x) e (z ++ byte ∷ more)

neither : (p q : Bool) → p ≡ false → q ≡ false → (p || q) ≡ false
neither true q e f = cc e
neither false q e f = f

-- of two tests the one that comes further
pub further : (test one other : List ℕ → Bool) → ((text : List ℕ) → test text ≡ (one text || other text))
    → (text x y : List ℕ) → IsLeft one text x → IsLeft other text y → length x ≤ length y → IsLeft test text x
further test one other either text x y is more less =
    let cut = cut_twice is.begun x more.begun y (sym is.whole ∙ more.whole) less in
    record {
      begun = is.begun;
      whole = is.whole;
      viable = record {
        rest = is.viable.rest;
        passes = either _ ∙ or_left _ _ is.viable.passes;
      };
      stuck = λ byte after e next.
          either _ ∙ neither _ _ (is.stuck byte after e next)
          (ap (λ (l : List ℕ). other (l ++ byte ∷ next)) cut.1
          ∙ ap other (append_assoc more.begun cut.0 (byte ∷ next))
          ∙ stuck_later other more.begun y more.stuck cut.0 x cut.2 byte after e next);
    }

or_swap : (p q : Bool) → (p || q) ≡ (q || p)
or_swap true true = refl
or_swap true false = refl
or_swap false true = refl
or_swap false false = refl

pub further_other : (test one other : List ℕ → Bool) → ((text : List ℕ) → test text ≡ (one text || other text))
    → (text x y : List ℕ) → IsLeft one text x → IsLeft other text y → length y ≤ length x → IsLeft test text y
further_other test one other either text x y is more less =
    further test other one (λ t. either t ∙ or_swap (one t) (other t)) text y x more is less

-- ---- as a length

taken_more : (begun : List ℕ) (byte : ℕ) (behind : List ℕ) (m : ℕ) → length begun < m
    → (more : List ℕ) × (take m (begun ++ byte ∷ behind) ≡ begun ++ byte ∷ more)
taken_more [] byte behind m longer =
    let e : m ≡ suc (m - 1) = omega arith in
    (take (m - 1) behind, ap (λ (n : ℕ). take n (byte ∷ behind)) e)
taken_more (b ∷ begun) byte behind m longer =
    let e : m ≡ suc (m - 1) = omega arith in
    let more = taken_more begun byte behind (m - 1) (omega arith) in
    (more.0, ap (λ (n : ℕ). take n (b ∷ (begun ++ byte ∷ behind))) e ∙ ap (λ (l : List ℕ). b ∷ l) more.1)

no_longer : (test : List ℕ → Bool) (begun left : List ℕ)
    → ((byte : ℕ) (behind : List ℕ) → left ≡ byte ∷ behind → (more : List ℕ) → test (begun ++ byte ∷ more) ≡ false)
    → (m : ℕ) → length begun < m → m ≤ length (begun ++ left) → ¬ IsViable test (take m (begun ++ left))
no_longer test begun [] stuck m longer within viable =
    absurd (omega (arith, length-append begun []))
no_longer test begun (byte ∷ behind) stuck m longer within viable =
    let more = taken_more begun byte behind m longer in
    cc (
    sym viable.passes
    ∙ ap (λ (l : List ℕ). test (l ++ viable.rest)) more.1
    ∙ ap test (append_assoc begun (byte ∷ more.0) viable.rest)
    ∙ stuck byte behind refl (more.0 ++ viable.rest)
    )

as_length : (test : List ℕ → Bool) (begun left : List ℕ) → IsViable test begun
    → ((byte : ℕ) (behind : List ℕ) → left ≡ byte ∷ behind → (more : List ℕ) → test (begun ++ byte ∷ more) ≡ false)
    → IsLongestViable test (begun ++ left) (length begun)
as_length test begun left viable stuck = record {
  within = omega (arith, length-append begun left);
  viable = subst (IsViable test) (sym (take_at begun left _ refl)) viable;
  longest = no_longer test begun left stuck;
}

pub longest : (test : List ℕ → Bool) (text left : List ℕ) → IsLeft test text left
    → IsLongestViable test text (length text - length left)
longest test text left is =
    let count : length is.begun ≡ length text - length left =
    omega (arith, ap (λ (l : List ℕ). length l) is.whole, length-append is.begun left) in
    subst (λ (l : List ℕ). IsLongestViable test l (length text - length left)) (sym is.whole)
    (subst (IsLongestViable test (is.begun ++ left)) count (as_length test is.begun left is.viable is.stuck))

-- the same of tests that agree
pub longest_alike : (test other : List ℕ → Bool) → ((text : List ℕ) → test text ≡ other text) → (text : List ℕ) (n : ℕ)
    → IsLongestViable other text n → IsLongestViable test text n
longest_alike test other alike text n is = grind (arith, longest)

-- the same of what is made of what is read
pub longest_read : {A B : Type 0} (f : A → B) (read : List ℕ → Option A) (text left : List ℕ)
    → IsLeft (λ begun. is_some (read begun)) text left
    → IsLongestViable (λ begun. is_some (option_map f (read begun))) text (length text - length left)
longest_read f read text left is =
    longest_alike _ _ (λ begun. is_read f (read begun)) text _ (longest _ text left is)

pub or-false : (p : Bool) → p ≡ (p || false)
or-false true = refl
or-false false = refl

-- ---- slices

pub behind_first : (text : List ℕ) → take (length text - 1) (drop 1 text) ≡ drop 1 text
behind_first text = take_all (length text - 1) (drop 1 text) (omega (arith, length-drop 1 text))

-- the shorter of what two tests leave
pub shorter_left : (test one other : List ℕ → Bool) → ((text : List ℕ) → test text ≡ (one text || other text))
    → (text x y left : List ℕ) → IsLeft one text x → IsLeft other text y
    → ((length x ≤ length y) × (left ≡ x)) ⊎ ((length y ≤ length x) × (left ≡ y)) → IsLeft test text left
shorter_left test one other either text x y left is more (inl cut) =
    subst (IsLeft test text) (sym cut.1) (further test one other either text x y is more cut.0)
shorter_left test one other either text x y left is more (inr cut) =
    subst (IsLeft test text) (sym cut.1) (further_other test one other either text x y is more cut.0)
