-- What may follow a dev release, and the blanks at the end.
use Rattle.std.proofs.Common.{[], ◌≡◌, ◌==◌, ◌&&◌, ◌∙◌, ℕ, Bool, true, false, List, ◌∷◌, ◌++◌, Option, None, Some, ap, append-nil, arith, drop, inl, inr, length, not, refl, subst, sym}
use Rattle.std.proofs.lemmas.{Bool.cases_Bool, Bool.Decides.nat_tests, Grind.common_steps}
use Rattle.std.proofs.Math.Dec.{eqb-suc-zero}
use Rattle.std.specs.{Char.is_ascii_alphanumeric, Cmp.first_so, Cmp.second_so, List.list_all, List.prefix_len, List.take_while, Option.option_map}
use Rattle.version_order.proofs.lemmas.Viable.Left.{at_end, behind, empty_run, is_nothing, last_piece, next, next_piece, wrong_piece, where_begins}
use Rattle.version_order.proofs.lemmas.{Front.list_all-take_while, Runs.run_cons, Runs.run_none}
use Rattle.version_order.specs.{Viable.IsLeft, texts.Bytes.plus, texts.Front.begins}
use Rattle.scheme_pypi.proofs.lemmas.Pieces.{local-None, local-other, piece_read, pieces_read, some_run}
use Rattle.scheme_pypi.proofs.lemmas.Items.{joined-last, joined-more, optional-None, optional-Some}
use Rattle.scheme_pypi.specs.Texts.{is_blank, is_separator, joined, local_front, local_of, piece_front, pieces_front, without_blanks, next_piece as next_piece_of}
use Rattle.scheme_pypi.specs.{Order.Local, Stages.after_dev, Stages.after_plus, Stages.is_ended}

-- ---- blanks

pub blanks_gone : (text : List ℕ) → without_blanks text ≡ drop (prefix_len is_blank text) text
blanks_gone [] = refl
blanks_gone (byte ∷ text) = elim (cases_Bool (is_blank byte)) [
  | inl blank ↦
      let here : without_blanks (byte ∷ text) ≡ without_blanks text = rw blank refl in
      here ∙ blanks_gone text ∙ sym (run_cons is_blank byte text blank).1
  | inr other ↦
      let here : without_blanks (byte ∷ text) ≡ byte ∷ text = rw other refl in
      here ∙ sym (run_none is_blank byte text other).1
]

nothing_is : (text : List ℕ) → (length text == 0) ≡ is_nothing text
nothing_is [] = refl
nothing_is (byte ∷ text) = eqb-suc-zero (length text)

ended_split : (text : List ℕ) → is_ended text ≡ is_nothing (drop (prefix_len is_blank text) text)
ended_split text = nothing_is (without_blanks text) ∙ ap is_nothing (blanks_gone text)

pub blanks_left : (text rest : List ℕ) → rest ≡ without_blanks text → IsLeft is_ended text rest
blanks_left text rest rest_is =
    let run = take_while is_blank text in
    at_end is_blank is_ended (λ run rest. is_nothing rest) ended_split text run rest refl (rest_is ∙ blanks_gone text) []
    (ap is_ended (append-nil run) ∙ all_gone run (list_all-take_while is_blank text)) (λ byte after e t. refl)
  where
    all_gone : (run : List ℕ) → list_all is_blank run ≡ true → is_ended run ≡ true
    all_gone [] e = refl
    all_gone (byte ∷ run) e =
        let here : is_ended (byte ∷ run) ≡ is_ended run =
        rw (first_so (is_blank byte) (list_all is_blank run) e) refl in
        here ∙ all_gone run (second_so (is_blank byte) _ e)

pub ended_false : (byte : ℕ) (text : List ℕ) → is_blank byte ≡ false → is_ended (byte ∷ text) ≡ false
ended_false byte text e = grind (arith, common_steps)

-- ---- a local version

pub no_plus : (text : List ℕ) → begins (λ b. b == plus) text ≡ false → after_dev text ≡ is_ended text
no_plus text e = ap (λ (o : Option (List Local) × List ℕ). is_ended o.1)
    (sym (optional-None local_front text (local-None text e)))

pub dev_false : (byte : ℕ) (text : List ℕ) → is_blank byte ≡ false → (byte == plus) ≡ false
    → after_dev (byte ∷ text) ≡ false
dev_false byte text blank other = no_plus (byte ∷ text) other ∙ ended_false byte text blank

blank_no_plus : (text : List ℕ) → is_ended text ≡ true → begins (λ b. b == plus) text ≡ false
blank_no_plus text e = grind (arith, common_steps)

pub at_plus : (text more left : List ℕ) → text ≡ plus ∷ more → IsLeft after_plus more left → IsLeft after_dev text left
at_plus text more left cut is =
    subst (λ (l : List ℕ). IsLeft after_dev l left) (sym cut)
    (behind after_dev after_plus (plus ∷ []) (λ t. refl) more left is)

pub not_plus : (text left : List ℕ) → begins (λ b. b == plus) text ≡ false → left ≡ without_blanks text
    → IsLeft after_dev text left
not_plus text left none left_is = search (arith, where_begins, no_plus, blank_no_plus, blanks_left)

-- ---- its pieces

abbrev pub some : List ℕ → Bool
some run = not (length run == 0)

separator_no_letter : (byte : ℕ) → is_separator byte ≡ true → is_ascii_alphanumeric byte ≡ false
separator_no_letter byte e = grind (arith, nat_tests)

pub separator_no_blank : (byte : ℕ) → is_separator byte ≡ true → is_blank byte ≡ false
separator_no_blank byte e = grind (arith, nat_tests)

ended_apart : (text : List ℕ) → is_ended text ≡ true
    → (begins is_ascii_alphanumeric text ≡ false) × (begins is_separator text ≡ false)
ended_apart text e = grind (arith, common_steps)

no_pieces : (text : List ℕ) → begins is_ascii_alphanumeric text ≡ false → after_plus text ≡ false
no_pieces text e = grind (arith, common_steps, optional-None, local-other, eqb-suc-zero)

read_any : (text rest : List ℕ) (read : List Local) → pieces_front text ≡ Some (read, rest) → after_plus text
    ≡ is_ended rest
read_any text rest read e = grind (arith, common_steps, optional-Some)

module _ (text : List ℕ) (begun : begins is_ascii_alphanumeric text ≡ true) where
  abbrev rest_of : List ℕ
  rest_of = drop (prefix_len is_ascii_alphanumeric text) text

  last : next_piece_of rest_of ≡ [] → after_plus text ≡ is_ended rest_of
  last none =
      read_any text rest_of (local_of (take_while is_ascii_alphanumeric text) ∷ [])
      (joined-last is_separator is_ascii_alphanumeric piece_front pieces_read text
      (local_of (take_while is_ascii_alphanumeric text)) rest_of
      (piece_read text rest_of begun refl) none)

  more : begins is_ascii_alphanumeric (next_piece_of rest_of) ≡ true → after_plus text
      ≡ after_plus (next_piece_of rest_of)
  more goes = by (joined is_separator piece_front (next_piece_of rest_of)) refl
    where
      step : pieces_front text ≡ option_map (λ (read : List Local × List ℕ).
          (local_of (take_while is_ascii_alphanumeric text) ∷ read.0, read.1)) (pieces_front (next_piece_of rest_of))
      step = joined-more is_separator is_ascii_alphanumeric piece_front pieces_read text
          (local_of (take_while is_ascii_alphanumeric text)) rest_of
          (piece_read text rest_of begun refl) goes

      by : (o : Option (List Local × List ℕ)) → pieces_front (next_piece_of rest_of) ≡ o
          → after_plus text ≡ after_plus (next_piece_of rest_of)
      by None e =
          let none : pieces_front text ≡ None = step ∙ ap (option_map _) e in
          ap (λ (o : Option (List Local) × List ℕ). is_ended o.1) (sym (optional-None local_front (plus ∷ text) none))
          ∙ eqb-suc-zero (length text)
          ∙ sym (ap (λ (o : Option (List Local) × List ℕ). is_ended o.1)
          (sym (optional-None local_front (plus ∷ next_piece_of rest_of) e))
          ∙ eqb-suc-zero (length (next_piece_of rest_of)))
      by (Some read) e =
          read_any text read.1 _ (step ∙ ap (option_map _) e) ∙ sym (read_any (next_piece_of rest_of) read.1 read.0 e)

  after_piece : (rest : List ℕ) → rest_of ≡ rest → after_plus text ≡ next is_separator after_plus is_ended rest
  after_piece rest e = search (arith, last, cases_Bool, more, ended_false, separator_no_blank, no_pieces)

plus_split : (text : List ℕ) → after_plus text
    ≡ (some (take_while is_ascii_alphanumeric text)
    && next is_separator after_plus is_ended (drop (prefix_len is_ascii_alphanumeric text) text))
plus_split text = grind (arith, common_steps, cases_Bool, after_piece, next, some_run, no_pieces)

module _ (text run rest : List ℕ) (run_is : run ≡ take_while is_ascii_alphanumeric text)
    (rest_is : rest ≡ drop (prefix_len is_ascii_alphanumeric text) text) where
  pub no_run : (length run == 0) ≡ true → IsLeft after_plus text rest
  no_run none = wrong_piece is_ascii_alphanumeric is_separator some after_plus is_ended plus_split separator_no_letter
      ended_apart text run rest run_is rest_is (ap (λ (b : Bool). not b) none) (97 ∷ [])
      (ap (λ (l : List ℕ). after_plus (l ++ 97 ∷ [])) (empty_run run none) ∙ plus_split (97 ∷ []))

  pub last_run : (length run == 0) ≡ false → begins is_separator rest ≡ false → (left : List ℕ)
      → IsLeft is_ended rest left → IsLeft after_plus text left
  last_run is = last_piece is_ascii_alphanumeric is_separator some after_plus is_ended plus_split separator_no_letter
      ended_apart text run rest run_is rest_is (ap (λ (b : Bool). not b) is)

  pub next_run : (length run == 0) ≡ false → (byte : ℕ) (more : List ℕ) → rest ≡ byte ∷ more → is_separator byte ≡ true
      → (left : List ℕ) → IsLeft after_plus more left → IsLeft after_plus text left
  next_run is = next_piece is_ascii_alphanumeric is_separator some after_plus is_ended plus_split separator_no_letter
      ended_apart text run rest run_is rest_is (ap (λ (b : Bool). not b) is)
