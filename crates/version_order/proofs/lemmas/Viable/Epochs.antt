-- What is left of a text that an epoch may begin: digits and a colon.
use Rattle.std.proofs.Common.{◌≡◌, ◌==◌, ◌∙◌, ℕ, Bool, true, false, List, [], ◌∷◌, ◌++◌, Option, None, Some, ap, drop, inl, inr, not, refl, sym, ◌&&◌, append-nil, append_assoc, if◌then◌else◌, nat_le, subst, arith}
use Rattle.std.proofs.lemmas.{Bool.cases_Bool, Bool.eqb-true, List.drop_at, List.Folds.list_all-append}
use Rattle.version_order.proofs.lemmas.{Cuts.not_cut, Cuts.run_and_rest, Front.all_weaker, Front.prefix_len-append, Runs.run_cons, Runs.run_none, Runs.and-false, Viable.Left.behind}
use Rattle.version_order.specs.{Viable.IsLeft, Viable.IsViable, texts.Bytes.colon, texts.Cuts.cut_first, texts.Cuts.cut_last, texts.Cuts.is_epoch, texts.Cuts.split_epoch}
use Rattle.version_order.specs.texts.Front.{behind_digits, run_value, starts_with_digit, begins}
use Rattle.std.specs.{Char.is_ascii_digit, Cmp.first_so, Cmp.second_so, List.list_all, List.prefix_len, List.take_while, Option.option_map, Option.option_or, Option.is_some, Prelude.option_and_then}

-- ---- texts cut at a byte that their front does not have

-- a cut, with a text before it
abbrev pub with_front : List ℕ → Option (List ℕ × List ℕ) → Option (List ℕ × List ℕ)
with_front front = option_map (λ cut. (front ++ cut.0, cut.1))

abbrev with_byte : ℕ → Option (List ℕ × List ℕ) → Option (List ℕ × List ℕ)
with_byte byte = option_map (λ (cut : List ℕ × List ℕ). (byte ∷ cut.0, cut.1))

with_none : (cut : Option (List ℕ × List ℕ)) → cut ≡ with_front [] cut
with_none None = refl
with_none (Some cut) = refl

with_more : (byte : ℕ) (front : List ℕ) (cut : Option (List ℕ × List ℕ))
    → with_byte byte (with_front front cut) ≡ with_front (byte ∷ front) cut
with_more byte front None = refl
with_more byte front (Some cut) = refl

or_none : (cut : Option (List ℕ × List ℕ)) → option_or cut None ≡ cut
or_none None = refl
or_none (Some cut) = refl

module _ (test : ℕ → Bool) (at : ℕ) (fails : test at ≡ false) where
  apart : (byte : ℕ) → test byte ≡ true → (byte == at) ≡ false
  apart byte passes = grind (arith, cases_Bool, eqb-true)

  pub first_behind : (front rest : List ℕ) → list_all test front ≡ true
      → cut_first at (front ++ rest) ≡ with_front front (cut_first at rest)
  first_behind [] rest all = with_none (cut_first at rest)
  first_behind (byte ∷ front) rest all =
      rw (apart byte (first_so _ _ all))
      (ap (with_byte byte) (first_behind front rest (second_so (test byte) _ all))
      ∙ with_more byte front (cut_first at rest))

  pub last_behind : (front rest : List ℕ) → list_all test front ≡ true
      → cut_last at (front ++ rest) ≡ with_front front (cut_last at rest)
  last_behind [] rest all = with_none (cut_last at rest)
  last_behind (byte ∷ front) rest all =
      rw (apart byte (first_so _ _ all))
      (or_none (with_byte byte (cut_last at (front ++ rest)))
      ∙ ap (with_byte byte) (last_behind front rest (second_so (test byte) _ all))
      ∙ with_more byte front (cut_last at rest))

-- a text with a byte that fails
pub not_all : (test : ℕ → Bool) (front rest : List ℕ) (byte : ℕ) → test byte ≡ false
    → list_all test (front ++ byte ∷ rest) ≡ false
not_all test [] rest byte fails = rw fails refl
not_all test (first ∷ front) rest byte fails = grind (arith, cases_Bool, front, not_all test front rest byte fails)

-- ---- by the run before the byte

abbrev pub cut_by : List ℕ → List ℕ → Option (List ℕ × List ℕ)
cut_by front [] = None
cut_by front (byte ∷ rest) = Some (front, rest)

grown_cut : (byte : ℕ) (front rest : List ℕ)
    → option_map (λ (cut : List ℕ × List ℕ). (byte ∷ cut.0, cut.1)) (cut_by front rest) ≡ cut_by (byte ∷ front) rest
grown_cut byte front [] = refl
grown_cut byte front (b ∷ rest) = refl

-- a text cut at its first byte of a kind
pub cutting : (at : ℕ) (text rest : List ℕ) → drop (prefix_len (λ b. not (b == at)) text) text ≡ rest
    → cut_first at text ≡ cut_by (take_while (λ b. not (b == at)) text) rest
cutting at [] rest e = ap (cut_by []) e
cutting at (byte ∷ text) rest e = elim (cases_Bool (byte == at)) [
  | inl here ↦
      let fails : not (byte == at) ≡ false = rw here refl in
      let none = run_none (λ b. not (b == at)) byte text fails in
      let whole : cut_first at (byte ∷ text) ≡ Some ([], text) = rw here refl in
      whole ∙ (λ i. cut_by (sym none.0 i) ((sym none.1 ∙ e) i))
  | inr other ↦
      let passes : not (byte == at) ≡ true = rw other refl in
      let some = run_cons (λ b. not (b == at)) byte text passes in
      let more = cutting at text rest (sym some.1 ∙ e) in
      let here : cut_first at (byte ∷ text) ≡ option_map (λ (cut : List ℕ × List ℕ). (byte ∷ cut.0, cut.1))
      (cut_first at text) =
      rw other refl in
      here ∙ ap (option_map (λ (cut : List ℕ × List ℕ). (byte ∷ cut.0, cut.1))) more
      ∙ grown_cut byte (take_while (λ b. not (b == at)) text) rest
      ∙ ap (λ (l : List ℕ). cut_by l rest) (sym some.0)
]

abbrev pub no_colon : ℕ → Bool
no_colon byte = not (byte == colon)

digit_no_colon : (byte : ℕ) → is_ascii_digit byte ≡ true → no_colon byte ≡ true
digit_no_colon byte e = grind (arith, cases_Bool, eqb-true)

-- a text that isn't cut has no colon
pub uncut : (begun rest : List ℕ) → cut_first colon (begun ++ rest) ≡ None → list_all no_colon begun ≡ true
uncut [] rest none = refl
uncut (byte ∷ begun) rest none = grind (arith, uncut begun rest)

-- what is made of one part or of two, if these pass
pub one_part : {A B : Type 0} (is : Bool) (part : A) (make : A → B)
    → is_some (option_map make (if is then Some part else None)) ≡ is
one_part true part make = refl
one_part false part make = refl

pub two_parts : {A B : Type 0} (is also : Bool) (part other : A) (make : A → A → B)
    → is_some
    (option_and_then (λ first. option_map (make first) (if also then Some other else None))
    (if is then Some part else None))
    ≡ (is && also)
two_parts true true part other make = refl
two_parts true false part other make = refl
two_parts false also part other make = refl

-- what stands behind an epoch is read by the same texts for each epoch
module _ {A : Type 0} (read_behind : ℕ → List ℕ → Option A) (most : ℕ)
    (any_epoch : (epoch : ℕ) (text : List ℕ) → is_some (read_behind epoch text) ≡ is_some (read_behind 0 text)) where
  abbrev pub is_behind : List ℕ → Bool
  is_behind text = is_some (read_behind 0 text)

  abbrev pub is_read : List ℕ → Bool
  is_read text = is_some (option_and_then (λ (cut : ℕ × List ℕ). read_behind cut.0 cut.1) (split_epoch most text))

  abbrev pub by_cut : Bool → List ℕ → Option (List ℕ × List ℕ) → Bool
  by_cut whole text None = is_behind text
  by_cut whole text (Some cut) = whole && (is_epoch most cut.0 && is_behind cut.1)

  -- it has no colon, and may stand behind an epoch
  abbrev pub is_plain : List ℕ → Bool
  is_plain text = by_cut false text (cut_first colon text)

  read_test : (text : List ℕ) → is_read text ≡ by_cut true text (cut_first colon text)
  read_test text = grind arith

  at_colon : (front rest : List ℕ) → list_all no_colon front ≡ true
      → is_read (front ++ colon ∷ rest) ≡ (is_epoch most front && is_behind rest)
  at_colon front rest all = grind (arith, read_test, front, first_behind, append-nil)

  no_epoch_there : (front : List ℕ) (rest : Bool) → list_all is_ascii_digit front ≡ false
      → (is_epoch most front && rest) ≡ false
  no_epoch_there front rest fails =
      ap (λ (b : Bool). (b && nat_le (run_value front) most) && rest) (and-false (starts_with_digit front) _ fails)

  all_before : (digits : List ℕ) → list_all is_ascii_digit digits ≡ true → list_all no_colon digits ≡ true
  all_before = all_weaker is_ascii_digit no_colon digit_no_colon

  -- by the digits that a text begins with, and what follows them
  module _ (text digits rest : List ℕ) (digits_is : digits ≡ take_while is_ascii_digit text)
      (rest_is : rest ≡ drop (prefix_len is_ascii_digit text) text) where
    parts : (text ≡ digits ++ rest) × (list_all is_ascii_digit digits ≡ true)
    parts = run_and_rest is_ascii_digit text digits rest digits_is rest_is

    pub after_epoch : (more left : List ℕ) → rest ≡ colon ∷ more → is_epoch most digits ≡ true
        → IsLeft is_behind more left → IsLeft is_read text left
    after_epoch more left cut epoch is =
        subst (λ (l : List ℕ). IsLeft is_read l left)
        (append_assoc digits (colon ∷ []) more ∙ sym (parts.0 ∙ ap (λ (l : List ℕ). digits ++ l) cut))
        (behind is_read is_behind (digits ++ colon ∷ [])
        (λ text. ap is_read (append_assoc digits (colon ∷ []) text) ∙ at_colon digits text (all_before digits parts.1)
        ∙ ap (λ (b : Bool). b && is_behind text) epoch) more left is)

  -- digits that a digit may follow
  module _ (digits_read : (digits : List ℕ) → list_all is_ascii_digit digits ≡ true
      → is_behind (digits ++ 48 ∷ []) ≡ true) where
    digits_viable : (digits : List ℕ) → list_all is_ascii_digit digits ≡ true → IsViable is_plain digits
    digits_viable digits all = record {
      rest = 48 ∷ [];
      passes = ap (by_cut false (digits ++ 48 ∷ []))
          (not_cut no_colon colon (digits ++ 48 ∷ []) refl
          (list_all-append no_colon digits (48 ∷ []) ∙ rw (all_before digits all) refl)).0
          ∙ digits_read digits all;
    }

    -- what is plain is read
    plain_viable : (begun : List ℕ) → IsViable is_plain begun → IsViable is_read begun × (list_all no_colon begun ≡ true)
    plain_viable begun is = grind (arith, read_test, uncut)

    module _ (text digits rest : List ℕ) (digits_is : digits ≡ take_while is_ascii_digit text)
        (rest_is : rest ≡ drop (prefix_len is_ascii_digit text) text) where
      pub wrong_epoch : (more : List ℕ) → rest ≡ colon ∷ more → is_epoch most digits ≡ false → IsLeft is_read text rest
      wrong_epoch more cut fails =
          let cut_here = run_and_rest is_ascii_digit text digits rest digits_is rest_is in
          record {
            begun = digits;
            whole = cut_here.0;
            viable = (plain_viable digits (digits_viable digits cut_here.1)).0;
            stuck = λ byte after e next.
                ap (λ (b : ℕ). is_read (digits ++ b ∷ next))
                (eqb-true byte colon (ap (begins (λ b. b == colon)) (sym e ∙ cut)))
                ∙ at_colon digits next (all_before digits cut_here.1) ∙ ap (λ (b : Bool). b && is_behind next) fails;
          }

      pub without_epoch : (left : List ℕ) → begins (λ b. b == colon) rest ≡ false → IsLeft is_plain text left
          → IsLeft is_read text left
      without_epoch left none is = record {
        begun = is.begun;
        whole = is.whole;
        viable = viable.0;
        stuck = λ byte after e more. stuck byte after e more (byte == colon) refl (cut_first colon more) refl;
      }
        where
          viable : IsViable is_read is.begun × (list_all no_colon is.begun ≡ true)
          viable = plain_viable is.begun is.viable

          -- digits alone do not stand before a colon
          no_digits : (after : List ℕ) → text ≡ is.begun ++ colon ∷ after → list_all is_ascii_digit is.begun ≡ false
          no_digits after whole = elim (cases_Bool (list_all is_ascii_digit is.begun)) [
            | inr other ↦ other
            | inl all ↦
                let there = ap behind_digits whole
                ∙ ap (λ n. drop n (is.begun ++ colon ∷ after)) (prefix_len-append is_ascii_digit is.begun (colon ∷ after) all refl)
                ∙ drop_at is.begun (colon ∷ after) _ refl in
                cc (sym none ∙ ap (begins (λ b. b == colon)) (rest_is ∙ there))
          ]

          -- nor with a byte that stops them
          no_digit : (byte : ℕ) (after rest : List ℕ) → left ≡ byte ∷ after
              → list_all is_ascii_digit (is.begun ++ byte ∷ rest) ≡ false
          no_digit byte after rest e = elim (cases_Bool (list_all is_ascii_digit (is.begun ++ byte ∷ rest))) [
            | inr other ↦ other
            | inl all ↦
                let parts = sym (list_all-append is_ascii_digit is.begun (byte ∷ rest)) ∙ all in
                let begun = first_so (list_all is_ascii_digit is.begun) _ parts in
                let digit = first_so (is_ascii_digit byte) _ (second_so (list_all is_ascii_digit is.begun) _ parts) in
                let more = digits_viable (is.begun ++ byte ∷ [])
                (list_all-append is_ascii_digit is.begun (byte ∷ []) ∙ rw (begun, digit) refl) in
                cc (sym (is.stuck byte after e more.rest) ∙ ap is_plain (sym (append_assoc is.begun (byte ∷ []) more.rest))
                ∙ more.passes)
          ]

          stuck : (byte : ℕ) (after : List ℕ) → left ≡ byte ∷ after → (more : List ℕ) (here : Bool) → (byte == colon) ≡ here
              → (cut : Option (List ℕ × List ℕ)) → cut_first colon more ≡ cut → is_read (is.begun ++ byte ∷ more) ≡ false
          stuck byte after e more true here cut is_cut =
              let same = eqb-true byte colon here in
              ap (λ (b : ℕ). is_read (is.begun ++ b ∷ more)) same
              ∙ at_colon is.begun more viable.1
              ∙ no_epoch_there is.begun _
              (no_digits after (is.whole ∙ ap (λ (l : List ℕ). is.begun ++ l) (e ∙ ap (λ (b : ℕ). b ∷ after) same)))
          stuck byte after e more false here cut is_cut = by cut is_cut
            where
              front : cut_first colon (is.begun ++ byte ∷ more) ≡ with_front is.begun (cut_first colon (byte ∷ more))
              front = first_behind no_colon colon refl is.begun (byte ∷ more) viable.1

              by : (cut : Option (List ℕ × List ℕ)) → cut_first colon more ≡ cut → is_read (is.begun ++ byte ∷ more) ≡ false
              by None is_cut =
                  let none : cut_first colon (byte ∷ more) ≡ None = rw (here, is_cut) refl in
                  let whole : cut_first colon (is.begun ++ byte ∷ more) ≡ None = front ∙ ap (with_front is.begun) none in
                  read_test (is.begun ++ byte ∷ more) ∙ ap (by_cut true (is.begun ++ byte ∷ more)) whole
                  ∙ sym (ap (by_cut false (is.begun ++ byte ∷ more)) whole) ∙ is.stuck byte after e more
              by (Some cut) is_cut =
                  let some : cut_first colon (byte ∷ more) ≡ Some (byte ∷ cut.0, cut.1) = rw (here, is_cut) refl in
                  read_test (is.begun ++ byte ∷ more)
                  ∙ ap (by_cut true (is.begun ++ byte ∷ more)) (front ∙ ap (with_front is.begun) some)
                  ∙ no_epoch_there (is.begun ++ byte ∷ cut.0) _ (no_digit byte after cut.0 e)
