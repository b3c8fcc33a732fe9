-- What is left of a text as a release, behind an epoch, a v and blanks or none of them.
use Rattle.std.proofs.Common.{[], ◌≡◌, ◌==◌, ◌&&◌, ◌||◌, ◌⊎◌, ◌-◌, ◌≤◌, ◌∙◌, ℕ, Bool, true, false, List, ◌∷◌, ◌++◌, Option, None, Some, ap, arith, codes, drop, if◌then◌else◌, inl, inr, length, not, refl, subst, sym}
use Rattle.std.proofs.lemmas.{Bool.cases_Bool, Bool.eqb-true, Bool.Decides.nat_tests, Grind.common_steps}
use Rattle.std.specs.{Char.is_ascii_digit, Char.to_ascii_lowercase, Cmp.first_so, Cmp.second_so, List.prefix_len, List.take_while, Option.is_some, Option.option_map, Option.option_map_or, Prelude.option_and_then}
use Rattle.version_order.specs.{Viable.IsLeft, Viable.IsLongestViable, texts.Bytes.dot, texts.Bytes.hyphen, texts.Front.number_front, texts.Front.run_value, texts.Front.begins, texts.Front.whole}
use Rattle.version_order.proofs.lemmas.Viable.Left.{after_run, at_end, behind, empty_run, or-false, longest, longest_alike, same, shorter_left, stays, where_begins}
use Rattle.version_order.proofs.lemmas.{Codes.is_read, Runs.and-false}
use Rattle.scheme_pypi.proofs.lemmas.Viable.Stages.{dotted_dev, post_follows, release_digit, release_follows, release_no_mark}
use Rattle.scheme_pypi.proofs.lemmas.{Items.joined-None, Items.joined-last, Items.joined-more, Release.number_read, Release.numbers_read, Viable.Ends.blanks_gone, Viable.Ends.some}
use Rattle.scheme_pypi.specs.Stages.{after_blanks, after_post, after_release, after_v, is_epoch, is_implicit, is_release}
use Rattle.scheme_pypi.specs.Texts.{is_blank, is_dot, pypi_of, release_front, without_blanks, without_v, pypi_rules, next_number}

some_digits : (text : List ℕ) → some (take_while is_ascii_digit text) ≡ begins is_ascii_digit text
some_digits text = grind (arith, common_steps)

-- ---- a post-release that is a hyphen and a number

abbrev number_then_post : List ℕ → Bool
number_then_post text = option_map_or (λ read. after_post read.1) (number_front text) false

implicit_split : (text : List ℕ) → number_then_post text
    ≡ (some (take_while is_ascii_digit text) && after_post (drop (prefix_len is_ascii_digit text) text))
implicit_split text = grind (arith, common_steps)

zero_post : number_then_post (48 ∷ []) ≡ true
zero_post = post_follows.nothing

pub no_implicit : (text : List ℕ) → begins (λ b. b == hyphen) text ≡ false → IsLeft is_implicit text text
no_implicit text none = stays is_implicit text (hyphen ∷ 48 ∷ []) zero_post
    (λ byte after e more. fails byte more (ap (begins (λ b. b == hyphen)) (sym e) ∙ none))
  where
    fails : (byte : ℕ) (more : List ℕ) → (byte == hyphen) ≡ false → is_implicit (byte ∷ more) ≡ false
    fails byte more e = rw e refl

module _ (text more run rest : List ℕ) (cut : text ≡ hyphen ∷ more) (run_is : run ≡ take_while is_ascii_digit more)
    (rest_is : rest ≡ drop (prefix_len is_ascii_digit more) more) where
  from_number : (left : List ℕ) → IsLeft number_then_post more left → IsLeft is_implicit text left
  from_number left is =
      subst (λ (l : List ℕ). IsLeft is_implicit l left) (sym cut)
      (behind is_implicit number_then_post (hyphen ∷ []) (λ t. refl) more left is)

  pub implicit_none : (length run == 0) ≡ true → IsLeft is_implicit text rest
  implicit_none none =
      from_number rest (at_end is_ascii_digit number_then_post (λ run rest. some run && after_post rest) implicit_split
      more run rest run_is rest_is (48 ∷ [])
      (ap (λ (l : List ℕ). number_then_post (l ++ 48 ∷ [])) (empty_run run none) ∙ zero_post)
      (λ byte after e t. ap (λ (b : Bool). not b && after_post (byte ∷ t)) none))

  pub implicit_some : (length run == 0) ≡ false → (left : List ℕ) → IsLeft after_post rest left
      → IsLeft is_implicit text left
  implicit_some is left left_is =
      from_number left
      (after_run is_ascii_digit number_then_post (λ run rest. some run && after_post rest) implicit_split
      more run rest run_is rest_is (λ t e. post_follows.apart t (second_so (some run) _ e)) left
      (same (λ t. some run && after_post t) after_post
      (λ t. ap (λ (b : Bool). not b && after_post t) is) rest left left_is))

-- ---- releases

-- a dot and a digit
abbrev is_dotted : List ℕ → Bool
is_dotted [] = false
is_dotted (byte ∷ text) = is_dot byte && begins is_ascii_digit text

abbrev release_next : List ℕ → Bool
release_next [] = after_release []
release_next (byte ∷ text) =
    if is_dot byte && begins is_ascii_digit text then is_release text else after_release (byte ∷ text)

plain_next : (rest : List ℕ) → is_dotted rest ≡ false → release_next rest ≡ after_release rest
plain_next [] e = refl
plain_next (byte ∷ rest) e = ap (λ (b : Bool). if b then is_release rest else after_release (byte ∷ rest)) e

module _ (text : List ℕ) (begun : begins is_ascii_digit text ≡ true) where
  abbrev rest_of : List ℕ
  rest_of = drop (prefix_len is_ascii_digit text) text

  last : next_number rest_of ≡ [] → is_release text ≡ after_release rest_of
  last none = search (arith, joined-last, numbers_read, number_read)

  further : begins is_ascii_digit (next_number rest_of) ≡ true → is_release text ≡ is_release (next_number rest_of)
  further goes =
      ap (λ (o : Option (List ℕ × List ℕ)). option_map_or (λ read. after_release read.1) o false)
      (joined-more is_dot is_ascii_digit number_front numbers_read text (run_value text) rest_of
      (number_read text rest_of begun refl) goes)
      ∙ by (release_front (next_number rest_of))
    where
      by : (o : Option (List ℕ × List ℕ))
          → option_map_or (λ (read : List ℕ × List ℕ). after_release read.1)
          (option_map (λ (read : List ℕ × List ℕ). (run_value text ∷ read.0, read.1)) o) false
          ≡ option_map_or (λ (read : List ℕ × List ℕ). after_release read.1) o false
      by None = refl
      by (Some read) = refl

  after_number : (rest : List ℕ) → rest_of ≡ rest → is_release text ≡ release_next rest
  after_number rest e = grind (arith, common_steps, last, cases_Bool, further, plain_next)

abbrev release_by : List ℕ → List ℕ → Bool
release_by run rest = some run && release_next rest

release_split : (text : List ℕ) → is_release text
    ≡ release_by (take_while is_ascii_digit text) (drop (prefix_len is_ascii_digit text) text)
release_split text = search (arith, cases_Bool, after_number, some_digits, joined-None, numbers_read)

pub release_begins : (text : List ℕ) → is_release text ≡ true → begins is_ascii_digit text ≡ true
release_begins text passes =
    sym (some_digits text) ∙ first_so (some (take_while is_ascii_digit text)) _ (sym (release_split text) ∙ passes)

next_apart : (rest : List ℕ) → release_next rest ≡ true → begins is_ascii_digit rest ≡ false
next_apart [] passes = refl
next_apart (byte ∷ rest) passes = elim (cases_Bool (is_dot byte && begins is_ascii_digit rest)) [
  | inl goes ↦ ap is_ascii_digit (eqb-true byte dot (first_so (is_dot byte) _ goes))
  | inr ends ↦ release_follows.apart (byte ∷ rest) (sym (plain_next (byte ∷ rest) ends) ∙ passes)
]

-- what may follow a release does not begin so
not_dotted : (text : List ℕ) → after_release text ≡ true → is_dotted text ≡ false
not_dotted text passes = grind (arith, common_steps, and-false, cases_Bool, eqb-true, release_digit)

zero_release : is_release (48 ∷ []) ≡ true
zero_release = release_split (48 ∷ []) ∙ release_follows.nothing

module _ (text run rest : List ℕ) (run_is : run ≡ take_while is_ascii_digit text)
    (rest_is : rest ≡ drop (prefix_len is_ascii_digit text) text) where
  pub no_number : (length run == 0) ≡ true → IsLeft is_release text rest
  no_number none = search (arith, at_end, release_split, empty_run, zero_release)

  module _ (is : (length run == 0) ≡ false) where
    by_number : (left : List ℕ) → IsLeft release_next rest left → IsLeft is_release text left
    by_number left left_is =
        after_run is_ascii_digit is_release release_by release_split text run rest run_is rest_is
        (λ t e. next_apart t (second_so (some run) _ e)) left
        (same (release_by run) release_next (λ t. ap (λ (b : Bool). not b && release_next t) is) rest left left_is)

    pub next_number_left : (more left : List ℕ) → rest ≡ dot ∷ more → begins is_ascii_digit more ≡ true
        → IsLeft is_release more left → IsLeft is_release text left
    next_number_left more left cut digit more_left =
        by_number left (subst (λ (l : List ℕ). IsLeft release_next l left) (sym cut)
        (behind release_next (λ t. release_next (dot ∷ t)) (dot ∷ []) (λ t. refl) more left
        (where_begins is_ascii_digit true (λ t. release_next (dot ∷ t)) is_release
        (λ t e. ap (λ (b : Bool). if b then is_release t else after_release (dot ∷ t)) e) release_begins more left
        digit more_left)))

    pub last_number_left : is_dotted rest ≡ false → (left : List ℕ) → IsLeft after_release rest left
        → IsLeft is_release text left
    last_number_left none left rest_left =
        by_number left record {
          begun = rest_left.begun;
          whole = rest_left.whole;
          viable = record {
            rest = rest_left.viable.rest;
            passes = plain_next _ (not_dotted _ rest_left.viable.passes) ∙ rest_left.viable.passes;
          };
          stuck = λ byte after e more.
              fails rest_left.begun byte after (rest_left.whole ∙ ap (λ (l : List ℕ). rest_left.begun ++ l) e)
              (rest_left.stuck byte after e) more;
        }
      where
        fails : (begun : List ℕ) (byte : ℕ) (after : List ℕ) → rest ≡ begun ++ byte ∷ after
            → ((more : List ℕ) → after_release (begun ++ byte ∷ more) ≡ false) → (more : List ℕ)
            → release_next (begun ++ byte ∷ more) ≡ false
        fails [] byte after e stuck more = elim (cases_Bool (is_dot byte)) [
          | inr other ↦
              plain_next (byte ∷ more) (ap (λ (b : Bool). b && begins is_ascii_digit more) other) ∙ stuck more
          | inl here ↦
              cc (sym dotted_dev ∙ ap (λ (b : ℕ). after_release (b ∷ codes "dev")) (sym (eqb-true byte dot here))
              ∙ stuck (codes "dev"))
        ]
        fails (b ∷ []) byte after e stuck more =
            plain_next (b ∷ byte ∷ more) (sym (ap is_dotted e) ∙ none) ∙ stuck more
        fails (b ∷ c ∷ begun) byte after e stuck more =
            plain_next (b ∷ c ∷ (begun ++ byte ∷ more)) (sym (ap is_dotted e) ∙ none) ∙ stuck more

pub no_dot_left : (rest : List ℕ) → begins is_dot rest ≡ false → is_dotted rest ≡ false
no_dot_left [] e = refl
no_dot_left (byte ∷ rest) e = ap (λ (b : Bool). b && begins is_ascii_digit rest) e

pub no_digit_left : (rest more : List ℕ) → rest ≡ dot ∷ more → begins is_ascii_digit more ≡ false → is_dotted rest
    ≡ false
no_digit_left rest more cut e = ap is_dotted cut ∙ e

-- ---- epochs

abbrev marked : List ℕ → Bool
marked [] = false
marked (byte ∷ text) = byte == 33 && is_release text

abbrev epoch_by : List ℕ → List ℕ → Bool
epoch_by run rest = some run && marked rest

epoch_split : (text : List ℕ) → is_epoch text
    ≡ epoch_by (take_while is_ascii_digit text) (drop (prefix_len is_ascii_digit text) text)
epoch_split text = grind (arith, common_steps)

zero_marked : marked (33 ∷ 48 ∷ []) ≡ true
zero_marked = zero_release

marked_apart : (rest : List ℕ) → marked rest ≡ true → begins is_ascii_digit rest ≡ false
marked_apart [] e = refl
marked_apart (byte ∷ rest) e = ap is_ascii_digit (eqb-true byte 33 (first_so (byte == 33) _ e))

module _ (text run rest : List ℕ) (run_is : run ≡ take_while is_ascii_digit text)
    (rest_is : rest ≡ drop (prefix_len is_ascii_digit text) text) where
  pub no_epoch : (length run == 0) ≡ true → IsLeft is_epoch text rest
  no_epoch none =
      at_end is_ascii_digit is_epoch epoch_by epoch_split text run rest run_is rest_is (48 ∷ 33 ∷ 48 ∷ [])
      (ap (λ (l : List ℕ). is_epoch (l ++ 48 ∷ 33 ∷ 48 ∷ [])) (empty_run run none) ∙ epoch_split (48 ∷ 33 ∷ 48 ∷ [])
      ∙ zero_marked)
      (λ byte after e t. ap (λ (b : Bool). not b && marked (byte ∷ t)) none)

  module _ (is : (length run == 0) ≡ false) where
    by_epoch : (left : List ℕ) → IsLeft marked rest left → IsLeft is_epoch text left
    by_epoch left left_is =
        after_run is_ascii_digit is_epoch epoch_by epoch_split text run rest run_is rest_is
        (λ t e. marked_apart t (second_so (some run) _ e)) left
        (same (epoch_by run) marked (λ t. ap (λ (b : Bool). not b && marked t) is) rest left left_is)

    pub after_mark_left : (more left : List ℕ) → rest ≡ 33 ∷ more → IsLeft is_release more left
        → IsLeft is_epoch text left
    after_mark_left more left cut more_left =
        by_epoch left (subst (λ (l : List ℕ). IsLeft marked l left) (sym cut)
        (behind marked is_release (33 ∷ []) (λ t. refl) more left more_left))

    pub no_mark_left : begins (λ b. b == 33) rest ≡ false → IsLeft is_epoch text rest
    no_mark_left none =
        by_epoch rest (stays marked rest (33 ∷ 48 ∷ []) zero_marked
        (λ byte after e more. ap (λ (b : Bool). b && is_release more) (ap (begins (λ b. b == 33)) (sym e) ∙ none)))

pub v_or : (text : List ℕ) → after_v text ≡ (is_release text || is_epoch text)
v_or text =
    search (arith, cases_Bool, eqb-true, release_no_mark, release_split, and-false, some, some_digits, or-false)

-- ---- a v, and blanks

or_cases : (p q : Bool) → (p || q) ≡ true → (p ≡ false → q ≡ true)
or_cases true q e f = cc f
or_cases false q e f = e

v_begins : (text : List ℕ) → after_v text ≡ true → begins is_ascii_digit text ≡ true
v_begins text passes =
    grind (arith, common_steps, cases_Bool, release_begins, some_digits, some, epoch_split, or_cases, v_or)

without : (text : List ℕ) → begins (λ b. to_ascii_lowercase b == 118) text ≡ false → without_v text ≡ text
without [] e = refl
without (byte ∷ text) e = rw e refl

digit_no_v : (text : List ℕ) → begins is_ascii_digit text ≡ true → begins (λ b. to_ascii_lowercase b == 118) text
    ≡ false
digit_no_v [] e = refl
digit_no_v (byte ∷ text) e = grind (arith, nat_tests)

pub v_left : (text left : List ℕ) → IsLeft after_v (without_v text) left → IsLeft after_blanks text left
v_left [] left is =
    where_begins (λ b. to_ascii_lowercase b == 118) false after_blanks after_v (λ t e. ap after_v (without t e))
    (λ t e. digit_no_v t (v_begins t e))
    [] left refl is
v_left (byte ∷ text) left is = elim (cases_Bool (to_ascii_lowercase byte == 118)) [
  | inl same ↦
      let here : (t : List ℕ) → without_v (byte ∷ t) ≡ t = λ t. rw same refl in
      behind after_blanks after_v (byte ∷ []) (λ t. ap after_v (here t)) text left
      (subst (λ (l : List ℕ). IsLeft after_v l left) (here text) is)
  | inr other ↦
      where_begins (λ b. to_ascii_lowercase b == 118) false after_blanks after_v (λ t e. ap after_v (without t e))
      (λ t e. digit_no_v t (v_begins t e)) (byte ∷ text) left other
      (subst (λ (l : List ℕ). IsLeft after_v l left) (without (byte ∷ text) other) is)
]

abbrev is_pypi : List ℕ → Bool
is_pypi text = is_some (pypi_of text)

chained : {A : Type 0} (value : List ℕ × List ℕ → A) (rest : List ℕ × List ℕ → List ℕ) (o : Option (List ℕ × List ℕ))
    → is_some (whole (option_and_then (λ read. Some (value read, rest read)) o))
    ≡ option_map_or (λ (read : List ℕ × List ℕ). length (rest read) == 0) o false
chained value rest o = grind (arith, common_steps)

pypi_split : (text : List ℕ) → is_pypi text ≡ after_blanks (drop (prefix_len is_blank text) text)
pypi_split text = grind (arith, common_steps, chained, blanks_gone)

digit_no_blank : (byte : ℕ) → is_ascii_digit byte ≡ true → is_blank byte ≡ false
digit_no_blank byte e = grind (arith, nat_tests)

v_no_blank : (byte : ℕ) → (to_ascii_lowercase byte == 118) ≡ true → is_blank byte ≡ false
v_no_blank byte e = grind (arith, nat_tests)

blanks_apart : (text : List ℕ) → after_blanks text ≡ true → begins is_blank text ≡ false
blanks_apart text passes = grind (arith, common_steps, cases_Bool, same, v_no_blank, digit_no_blank, v_begins)

pub pypi_left : (text start x y left : List ℕ) → start ≡ without_v (without_blanks text) → IsLeft is_release start x
    → IsLeft is_epoch start y
    → ((length x ≤ length y) × (left ≡ x)) ⊎ ((length y ≤ length x) × (left ≡ y)) → IsLeft is_pypi text left
pypi_left text start x y left start_is release epoch shorter =
    after_run is_blank is_pypi (λ run rest. after_blanks rest) pypi_split text (take_while is_blank text)
    (without_blanks text) refl (blanks_gone text) blanks_apart left
    (v_left (without_blanks text) left (subst (λ (l : List ℕ). IsLeft after_v l left) start_is
    (shorter_left after_v is_release is_epoch v_or start x y left release epoch shorter)))

pub pypi_longest : (text left : List ℕ) → IsLeft is_pypi text left
    → IsLongestViable (λ begun. is_some (pypi_rules.read_as begun)) text (length text - length left)
pypi_longest text left is = longest_alike _ is_pypi (λ t. is_read _ (pypi_of t)) text _ (longest is_pypi text left is)
