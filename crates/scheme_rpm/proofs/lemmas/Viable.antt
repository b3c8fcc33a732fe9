-- What is left of a text as a version of RPM.
use Rattle.std.proofs.Common.{◌≡◌, ◌==◌, ◌&&◌, ◌||◌, ◌∙◌, ℕ, Bool, true, false, List, [], ◌∷◌, ◌++◌, Option, None, Some, ap, append-nil, append_assoc, arith, drop, inl, inr, length, not, refl, subst, sym}
use Rattle.std.proofs.lemmas.{Bool.cases_Bool, Bool.Decides.nat_tests, Grind.common_steps, List.Folds.list_all-append}
use Rattle.std.proofs.Math.Dec.{eqb-suc-zero}
use Rattle.std.specs.{Char.is_ascii_digit, Cmp.first_so, Cmp.second_so, List.list_all, List.prefix_len, List.take_while, Option.is_some}
use Rattle.version_order.proofs.lemmas.Viable.Epochs.{last_behind, not_all, with_front, by_cut, one_part, two_parts, is_plain}
use Rattle.version_order.proofs.lemmas.Viable.Left.{behind, empty_run, run_left, same, stays}
use Rattle.version_order.proofs.lemmas.{Cuts.cut_last-whole, Cuts.not_cut, Cuts.run_and_rest, Front.all_weaker, Front.begins-drop}
use Rattle.version_order.specs.{Viable.IsLeft, texts.Bytes.hyphen, texts.Cuts.cut_first, texts.Cuts.cut_last, texts.Front.begins, texts.Front.is_run}
use Rattle.scheme_rpm.specs.Texts.{behind_epoch, is_behind_epoch, is_of_rpm, is_version}
use Rattle.scheme_rpm.proofs.lemmas.Plain.{all_of_version, some_version, wrong_bytes}

-- a version is a run of its bytes
version_run : (text : List ℕ) → is_version text ≡ is_run is_of_rpm text
version_run [] = refl
version_run (byte ∷ text) = sym
    (ap (λ (b : Bool). not b && list_all is_of_rpm (byte ∷ text)) (eqb-suc-zero (length text)))

-- and has no hyphen
no_cut : (text : List ℕ) (cut : List ℕ × List ℕ) → cut_last 45 text ≡ Some cut → is_version text ≡ false
no_cut text cut e = elim (cases_Bool (is_version text)) [
  | inr none ↦ none
  | inl is ↦ cc (sym e ∙ (not_cut is_of_rpm 45 text refl (all_of_version text is)).1)
]

abbrev cut_test : List ℕ → Option (List ℕ × List ℕ) → Bool
cut_test text None = is_version text
cut_test text (Some cut) = is_version cut.0 && is_version cut.1

behind_test : (epoch : ℕ) (text : List ℕ) → is_some (behind_epoch epoch text) ≡ cut_test text (cut_last 45 text)
behind_test epoch text = grind (arith, common_steps, one_part, two_parts)

pub any_epoch : (epoch : ℕ) (text : List ℕ) → is_some (behind_epoch epoch text) ≡ is_behind_epoch text
any_epoch epoch text = behind_test epoch text ∙ sym (behind_test 0 text)

-- it begins with a byte of a version, and has no others but hyphens
abbrev or_hyphen : ℕ → Bool
or_hyphen byte = is_of_rpm byte || byte == hyphen

weaker : (text : List ℕ) → is_version text ≡ true → list_all or_hyphen text ≡ true
weaker text is = all_weaker is_of_rpm or_hyphen (λ b e. rw e refl) text (all_of_version text is)

behind_bytes : (text : List ℕ) → is_behind_epoch text ≡ true
    → (begins is_of_rpm text ≡ true) × (list_all or_hyphen text ≡ true)
behind_bytes text is = by (cut_last 45 text) refl (sym (behind_test 0 text) ∙ is)
  where
    first : (version rest : List ℕ) → is_version version ≡ true → begins is_of_rpm (version ++ rest) ≡ true
    first [] rest e = cc e
    first (byte ∷ version) rest e = first_so (is_of_rpm byte) _ e

    by : (cut : Option (List ℕ × List ℕ)) → cut_last 45 text ≡ cut → cut_test text cut ≡ true
        → (begins is_of_rpm text ≡ true) × (list_all or_hyphen text ≡ true)
    by None e passes =
        (ap (begins is_of_rpm) (sym (append-nil text)) ∙ first text [] passes, weaker text passes)
    by (Some cut) e passes =
        let whole = cut_last-whole 45 text cut e in
        let version = first_so (is_version cut.0) _ passes in
        let release = second_so (is_version cut.0) _ passes in (
          ap (begins is_of_rpm) whole ∙ first cut.0 (45 ∷ cut.1) version,
          ap (list_all or_hyphen) whole ∙ list_all-append or_hyphen cut.0 (45 ∷ cut.1)
              ∙ rw (weaker cut.0 version, weaker cut.1 release) refl,
        )

-- nothing but a release follows a version and a hyphen
at_hyphen : (run release : List ℕ) → list_all is_of_rpm run ≡ true → is_version run ≡ true
    → is_behind_epoch (run ++ hyphen ∷ release) ≡ is_version release
at_hyphen run release all good =
    behind_test 0 (run ++ hyphen ∷ release)
    ∙ ap (cut_test (run ++ hyphen ∷ release)) (last_behind is_of_rpm 45 refl run (hyphen ∷ release) all)
    ∙ by (cut_last 45 release) refl
  where
    by : (cut : Option (List ℕ × List ℕ)) → cut_last 45 release ≡ cut
        → cut_test (run ++ hyphen ∷ release) (with_front run (cut_last 45 (hyphen ∷ release))) ≡ is_version release
    by (Some cut) e =
        let here : cut_last 45 (hyphen ∷ release) ≡ Some (hyphen ∷ cut.0, cut.1) = rw e refl in
        ap (λ c. cut_test (run ++ hyphen ∷ release) (with_front run c)) here
        ∙ ap (λ (b : Bool). b && is_version cut.1)
        (wrong_bytes (run ++ hyphen ∷ cut.0) (not_all is_of_rpm run cut.0 hyphen refl))
        ∙ sym (no_cut release cut e)
    by None e =
        let here : cut_last 45 (hyphen ∷ release) ≡ Some ([], release) = rw e refl in
        ap (λ c. cut_test (run ++ hyphen ∷ release) (with_front run c)) here
        ∙ ap (λ (l : List ℕ). is_version l && is_version release) (append-nil run)
        ∙ ap (λ (b : Bool). b && is_version release) good

version_behind : (run : List ℕ) → list_all is_of_rpm run ≡ true → is_version run ≡ true → is_behind_epoch run ≡ true
version_behind run all good =
    behind_test 0 run ∙ ap (cut_test run) (not_cut is_of_rpm 45 run refl all).1 ∙ good

pub digits_behind : (digits : List ℕ) → list_all is_ascii_digit digits ≡ true
    → is_behind_epoch (digits ++ 48 ∷ []) ≡ true
digits_behind digits all = grind (arith, common_steps, list_all-append, all_weaker, nat_tests, version_behind)

module _ (text run rest : List ℕ) (run_is : run ≡ take_while is_of_rpm text)
    (rest_is : rest ≡ drop (prefix_len is_of_rpm text) text) where
  parts : (text ≡ run ++ rest) × (list_all is_of_rpm run ≡ true)
  parts = run_and_rest is_of_rpm text run rest run_is rest_is

  outside : (byte : ℕ) (after : List ℕ) → rest ≡ byte ∷ after → is_of_rpm byte ≡ false
  outside byte after e = ap (begins is_of_rpm) (sym e ∙ rest_is) ∙ begins-drop is_of_rpm text

  pub no_version : (length run == 0) ≡ true → IsLeft is_behind_epoch text rest
  no_version none =
      subst (λ (l : List ℕ). IsLeft is_behind_epoch l rest)
      (sym (parts.0 ∙ ap (λ (l : List ℕ). l ++ rest) (empty_run run none)))
      (stays is_behind_epoch rest (48 ∷ []) refl (λ byte after e more. fails byte more (outside byte after e)))
    where
      fails : (byte : ℕ) (more : List ℕ) → is_of_rpm byte ≡ false → is_behind_epoch (byte ∷ more) ≡ false
      fails byte more e = elim (cases_Bool (is_behind_epoch (byte ∷ more))) [
        | inr none ↦ none
        | inl is ↦ cc (sym (behind_bytes (byte ∷ more) is).0 ∙ e)
      ]

  module _ (some : (length run == 0) ≡ false) where
    good : is_version run ≡ true
    good = some_version run some ∙ parts.1

    pub no_release : begins (λ b. b == hyphen) rest ≡ false → IsLeft is_behind_epoch text rest
    no_release none = record {
      begun = run;
      whole = parts.0;
      viable = record { rest = []; passes = ap is_behind_epoch (append-nil run) ∙ version_behind run parts.1 good };
      stuck = λ byte after e more. fails byte more
          (rw (outside byte after e, ap (begins (λ b. b == hyphen)) (sym e) ∙ none) refl);
    }
      where
        fails : (byte : ℕ) (more : List ℕ) → or_hyphen byte ≡ false → is_behind_epoch (run ++ byte ∷ more) ≡ false
        fails byte more e = elim (cases_Bool (is_behind_epoch (run ++ byte ∷ more))) [
          | inr none ↦ none
          | inl is ↦ cc (sym (behind_bytes (run ++ byte ∷ more) is).1 ∙ not_all or_hyphen run more byte e)
        ]

    pub some_release : (release more left : List ℕ) → rest ≡ hyphen ∷ release → more ≡ take_while is_of_rpm release
        → left ≡ drop (prefix_len is_of_rpm release) release → IsLeft is_behind_epoch text left
    some_release release more left cut more_is left_is =
        subst (λ (l : List ℕ). IsLeft is_behind_epoch l left)
        (append_assoc run (hyphen ∷ []) release ∙ sym (parts.0 ∙ ap (λ (l : List ℕ). run ++ l) cut))
        (behind is_behind_epoch is_version (run ++ hyphen ∷ [])
        (λ t. ap is_behind_epoch (append_assoc run (hyphen ∷ []) t) ∙ at_hyphen run t parts.1 good) release left
        (same is_version (is_run is_of_rpm) version_run release left
        (run_left is_of_rpm refl release more left more_is left_is)))

-- ---- without an epoch

-- what may stand behind an epoch has no colon
plain_behind : (text : List ℕ) → is_plain behind_epoch 4294967295 any_epoch text ≡ is_behind_epoch text
plain_behind text = by (cut_first 58 text) refl
  where
    by : (cut : Option (List ℕ × List ℕ)) → cut_first 58 text ≡ cut
        → by_cut behind_epoch 4294967295 any_epoch false text cut ≡ is_behind_epoch text
    by None e = refl
    by (Some cut) e = elim (cases_Bool (is_behind_epoch text)) [
      | inr none ↦ sym none
      | inl is ↦ cc (sym e ∙ (not_cut or_hyphen 58 text refl (behind_bytes text is).1).0)
    ]

pub plain_left : (text left : List ℕ) → IsLeft is_behind_epoch text left
    → IsLeft (is_plain behind_epoch 4294967295 any_epoch) text left
plain_left = same (is_plain behind_epoch 4294967295 any_epoch) is_behind_epoch plain_behind
