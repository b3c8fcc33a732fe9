-- What is left of a text as a version of Debian. A hyphen and a revision may follow any upstream version.
use Rattle.std.proofs.Common.{[], ◌≡◌, ◌&&◌, ◌∙◌, ℕ, Bool, true, false, List, ◌∷◌, ◌++◌, Option, None, Some, ap, append-nil, arith, drop, inl, inr, refl, sym}
use Rattle.std.proofs.lemmas.{Bool.and_from, Bool.cases_Bool, Bool.Decides.nat_tests, Grind.common_steps, List.Folds.list_all-append}
use Rattle.std.specs.{Char.is_ascii_digit, Cmp.first_so, Cmp.second_so, List.list_all, List.prefix_len, List.take_while, Option.is_some}
use Rattle.version_order.proofs.lemmas.Viable.Epochs.{by_cut, is_plain, no_colon, uncut, not_all}
use Rattle.version_order.proofs.lemmas.{Cuts.cut_between, Cuts.cut_last-whole, Cuts.not_cut, Cuts.run_and_rest, Front.all_weaker, Front.begins-drop, Runs.begins_inner, Viable.Left.stays}
use Rattle.version_order.specs.{Viable.IsLeft, texts.Cuts.cut_first, texts.Cuts.cut_last, texts.Front.starts_with_digit, texts.Front.begins}
use Rattle.scheme_deb.specs.Texts.{behind_epoch, is_before_colon, is_behind_epoch, is_of_upstream, is_revision, is_upstream}
use Rattle.scheme_deb.proofs.lemmas.Plain.{revision_all}

abbrev cut_test : List ℕ → Option (List ℕ × List ℕ) → Bool
cut_test text None = is_upstream text
cut_test text (Some cut) = is_upstream cut.0 && is_revision cut.1

behind_test : (epoch : ℕ) (text : List ℕ) → is_some (behind_epoch epoch text) ≡ cut_test text (cut_last 45 text)
behind_test epoch text = grind (arith, common_steps)

pub any_epoch : (epoch : ℕ) (text : List ℕ) → is_some (behind_epoch epoch text) ≡ is_behind_epoch text
any_epoch epoch text = behind_test epoch text ∙ sym (behind_test 0 text)

all_joined : (test : ℕ → Bool) (front rest : List ℕ) → list_all test front ≡ true → list_all test rest ≡ true
    → list_all test (front ++ rest) ≡ true
all_joined test front rest e f = list_all-append test front rest ∙ rw (e, f) refl

starts_joined : (front rest : List ℕ) → starts_with_digit front ≡ true → starts_with_digit (front ++ rest) ≡ true
starts_joined [] rest e = cc e
starts_joined (byte ∷ front) rest e = e

-- what stands behind an epoch begins with a digit, and has the bytes of an upstream version alone
behind_bytes : (text : List ℕ) → is_behind_epoch text ≡ true
    → (starts_with_digit text ≡ true) × (list_all is_of_upstream text ≡ true)
behind_bytes text is = by (cut_last 45 text) refl (sym (behind_test 0 text) ∙ is)
  where
    by : (cut : Option (List ℕ × List ℕ)) → cut_last 45 text ≡ cut → cut_test text cut ≡ true
        → (starts_with_digit text ≡ true) × (list_all is_of_upstream text ≡ true)
    by None e passes = (first_so (starts_with_digit text) _ passes, second_so (starts_with_digit text) _ passes)
    by (Some cut) e passes =
        let whole = cut_last-whole 45 text cut e in
        let upstream = first_so (is_upstream cut.0) _ passes in
        let revision = revision_all cut.1 (second_so (is_upstream cut.0) _ passes) in (
          ap starts_with_digit whole ∙ starts_joined cut.0 (45 ∷ cut.1) (first_so (starts_with_digit cut.0) _ upstream),
          ap (list_all is_of_upstream) whole
              ∙ all_joined is_of_upstream cut.0 (45 ∷ cut.1) (second_so (starts_with_digit cut.0) _ upstream) revision,
        )

-- a revision 0
abbrev revision : List ℕ
revision = 45 ∷ 48 ∷ []

behind_revised : (text : List ℕ) → starts_with_digit text ≡ true → list_all is_of_upstream text ≡ true
    → is_behind_epoch (text ++ revision) ≡ true
behind_revised text digit all = grind (arith, common_steps, and_from, behind_test, cut_between)

pub digits_behind : (digits : List ℕ) → list_all is_ascii_digit digits ≡ true
    → is_behind_epoch (digits ++ 48 ∷ []) ≡ true
digits_behind digits all =
    let joined = all_joined is_ascii_digit digits (48 ∷ []) all refl in
    behind_test 0 (digits ++ 48 ∷ [])
    ∙ ap (cut_test (digits ++ 48 ∷ [])) (not_cut is_ascii_digit 45 (digits ++ 48 ∷ []) refl joined).1
    ∙ and_from _ _ (starts digits all)
    (all_weaker is_ascii_digit is_of_upstream (λ byte e. grind (arith, nat_tests)) (digits ++ 48 ∷ []) joined)
  where
    starts : (l : List ℕ) → list_all is_ascii_digit l ≡ true → starts_with_digit (l ++ 48 ∷ []) ≡ true
    starts [] e = refl
    starts (byte ∷ l) e = first_so _ _ e

-- ---- texts of a set of bytes that begin with a digit, and that a revision may follow

module _ (test : List ℕ → Bool) (set : ℕ → Bool) (within : (byte : ℕ) → is_ascii_digit byte ≡ true → set byte ≡ true)
    (bytes : (text : List ℕ) → test text ≡ true → (starts_with_digit text ≡ true) × (list_all set text ≡ true))
    (revised : (text : List ℕ) → starts_with_digit text ≡ true → list_all set text ≡ true
    → test (text ++ revision) ≡ true) where
  bytes_left : (text run rest : List ℕ) → starts_with_digit text ≡ true → run ≡ take_while set text
      → rest ≡ drop (prefix_len set text) text → IsLeft test text rest
  bytes_left text run rest digit run_is rest_is =
      let parts = run_and_rest set text run rest run_is rest_is in
      record {
        begun = run;
        whole = parts.0;
        viable = record {
          rest = revision;
          passes = revised run (ap starts_with_digit run_is ∙ begins_inner is_ascii_digit set within text ∙ digit) parts.1;
        };
        stuck = λ byte after e more. fails run byte more (ap (begins set) (sym e ∙ rest_is) ∙ begins-drop set text);
      }
    where
      fails : (run : List ℕ) (byte : ℕ) (more : List ℕ) → set byte ≡ false → test (run ++ byte ∷ more) ≡ false
      fails run byte more e = elim (cases_Bool (test (run ++ byte ∷ more))) [
        | inr none ↦ none
        | inl is ↦ cc (sym (bytes (run ++ byte ∷ more) is).1 ∙ not_all set run more byte e)
      ]

  no_digit_left : (text : List ℕ) → starts_with_digit text ≡ false → IsLeft test text text
  no_digit_left text none = stays test text ((48 ∷ []) ++ revision)
      (revised (48 ∷ []) refl (and_from _ _ (within 48 refl) refl))
      (λ byte after e more. fails byte (ap starts_with_digit (sym e) ∙ none) more)
    where
      fails : (byte : ℕ) → is_ascii_digit byte ≡ false → (more : List ℕ) → test (byte ∷ more) ≡ false
      fails byte e more = elim (cases_Bool (test (byte ∷ more))) [
        | inr none ↦ none
        | inl is ↦ cc (sym (bytes (byte ∷ more) is).0 ∙ e)
      ]

digit_upstream : (byte : ℕ) → is_ascii_digit byte ≡ true → is_of_upstream byte ≡ true
digit_upstream byte e = grind (arith, nat_tests)

pub behind_left : (text run rest : List ℕ) → starts_with_digit text ≡ true → run ≡ take_while is_of_upstream text
    → rest ≡ drop (prefix_len is_of_upstream text) text → IsLeft is_behind_epoch text rest
behind_left = bytes_left is_behind_epoch is_of_upstream digit_upstream behind_bytes behind_revised

pub no_digit_behind : (text : List ℕ) → starts_with_digit text ≡ false → IsLeft is_behind_epoch text text
no_digit_behind = no_digit_left is_behind_epoch is_of_upstream digit_upstream behind_bytes behind_revised

-- ---- without an epoch

abbrev pub is_plain_deb : List ℕ → Bool
is_plain_deb = is_plain behind_epoch 2147483647 any_epoch

digit_before : (byte : ℕ) → is_ascii_digit byte ≡ true → is_before_colon byte ≡ true
digit_before byte e = grind (arith, nat_tests)

before_upstream : (byte : ℕ) → is_before_colon byte ≡ true → is_of_upstream byte ≡ true
before_upstream byte e = grind (arith, nat_tests)

neither : (byte : ℕ) → is_of_upstream byte ≡ true → no_colon byte ≡ true → is_before_colon byte ≡ true
neither byte e f = grind (arith, nat_tests)

plain_bytes : (text : List ℕ) → is_plain_deb text ≡ true
    → (starts_with_digit text ≡ true) × (list_all is_before_colon text ≡ true)
plain_bytes text is = by (cut_first 58 text) refl is
  where
    both : (l : List ℕ) → list_all is_of_upstream l ≡ true → list_all no_colon l ≡ true → list_all is_before_colon l ≡ true
    both [] e f = refl
    both (byte ∷ l) e f =
        and_from _ _ (neither byte (first_so (is_of_upstream byte) _ e) (first_so (no_colon byte) _ f))
        (both l (second_so (is_of_upstream byte) _ e) (second_so (no_colon byte) _ f))

    by : (cut : Option (List ℕ × List ℕ)) → cut_first 58 text ≡ cut → by_cut behind_epoch 2147483647 any_epoch false text cut ≡ true
        → (starts_with_digit text ≡ true) × (list_all is_before_colon text ≡ true)
    by None e passes =
        let behind = behind_bytes text passes in
        (behind.0, both text behind.1 (uncut text [] (ap (cut_first 58) (append-nil text) ∙ e)))
    by (Some cut) e passes = cc passes

plain_revised : (text : List ℕ) → starts_with_digit text ≡ true → list_all is_before_colon text ≡ true
    → is_plain_deb (text ++ revision) ≡ true
plain_revised text digit all =
    let none = (not_cut is_before_colon 58 (text ++ revision) refl (all_joined is_before_colon text revision all refl)).0 in
    ap (by_cut behind_epoch 2147483647 any_epoch false (text ++ revision)) none
    ∙ behind_revised text digit (all_weaker is_before_colon is_of_upstream before_upstream text all)

pub plain_left : (text run rest : List ℕ) → starts_with_digit text ≡ true → run ≡ take_while is_before_colon text
    → rest ≡ drop (prefix_len is_before_colon text) text → IsLeft is_plain_deb text rest
plain_left = bytes_left is_plain_deb is_before_colon digit_before plain_bytes plain_revised

pub no_digit_plain : (text : List ℕ) → starts_with_digit text ≡ false → IsLeft is_plain_deb text text
no_digit_plain = no_digit_left is_plain_deb is_before_colon digit_before plain_bytes plain_revised
