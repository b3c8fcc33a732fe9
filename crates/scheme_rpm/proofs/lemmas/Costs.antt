-- How long the key of a version of RPM may be.
use Rattle.std.proofs.Common.{◌==◌, ◌≡◌, ◌≤◌, ◌<◌, ◌+◌, ◌*◌, ◌++◌, ◌∷◌, [], ℕ, Bool, true, List, Option, None, Some, IfSome, arith, drop, inl, inr, length, refl}
use Rattle.std.proofs.lemmas.{Bool.cases_Bool, Bool.eqb-false, Bool.eqb-true, Grind.common_steps, List.length-append, List.take-append-drop}
use Rattle.std.specs.{Char.is_ascii_alphabetic, Char.is_ascii_digit, List.prefix_len, List.take_while}
use Rattle.version_order.proofs.lemmas.Costs.{HasNext, ends_cost, epoch_costs, pieces_cost, some_if, some_map, some_then, where_cut}
use Rattle.version_order.proofs.lemmas.{Front.list_all-take_while, NumberBytes.number_length, Runs.run_cons}
use Rattle.version_order.specs.{Facts.key_room, Keyed.AreWithin, keys.Codes.list_bytes, keys.Codes.number_bytes, keys.Codes.text_bytes, texts.Front.run_value, texts.Front.behind_digits}
use Rattle.scheme_rpm.proofs.lemmas.Rpm.{IsRank, caret_first, digit_of, letter_of, letters_bytes, letters_first, no_end, number_first, ranks, separated, tilde_first}
use Rattle.scheme_rpm.specs.Order.{Caret, Item, Letters, Number, PlainRpm, Tilde, item_bytes, release_bytes, rpm_bytes}
use Rattle.scheme_rpm.specs.Texts.{behind_epoch, byte_rank, is_version, items_in, items_of, of_cut, rpm_of}
use Rattle.scheme_rpm.specs.Rpm.{rpm_facts, rpm_rules}

-- letters have one byte more in a key
letters_length : (text : List ℕ)
    → length (text_bytes (take_while is_ascii_alphabetic text)) ≡ length (take_while is_ascii_alphabetic text) + 1
letters_length text = grind (arith, common_steps, letters_bytes, length-append)

-- a run that begins has a byte or more, and with the rest it is as long as the text
run_length : (kind : ℕ → Bool) (byte : ℕ) (text : List ℕ) → kind byte ≡ true
    → (0 < length (take_while kind (byte ∷ text)))
    × (length (take_while kind (byte ∷ text)) + length (drop (prefix_len kind (byte ∷ text)) (byte ∷ text))
    ≡ length (byte ∷ text))
run_length kind byte text is = grind (arith, common_steps, run_cons, length-append, take-append-drop)

-- each piece costs at most three bytes for each byte that it has
next : (text : List ℕ) → HasNext items_in item_bytes 3 text
next [] = inl refl
next (byte ∷ text) = elim (cases_Bool (byte_rank byte == 0)) [
  | inl none ↦ inr (inl (text, separated byte text (eqb-true (byte_rank byte) 0 none), omega arith))
  | inr some ↦ by (ranks (byte_rank byte) (byte ∷ text) (refl, eqb-false (byte_rank byte) 0 some))
]
  where
    by : IsRank (byte_rank byte) → HasNext items_in item_bytes 3 (byte ∷ text)
    by (inl e) = inr (inr (Tilde, text, tilde_first (byte ∷ text) e, omega arith, omega arith))
    by (inr (inl e)) = absurd (no_end byte e)
    by (inr (inr (inl e))) = inr (inr (Caret, text, caret_first (byte ∷ text) e, omega arith, omega arith))
    by (inr (inr (inr (inl e)))) =
        let letters = take_while is_ascii_alphabetic (byte ∷ text) in
        let left = drop (prefix_len is_ascii_alphabetic (byte ∷ text)) (byte ∷ text) in
        let run = run_length is_ascii_alphabetic byte text (letter_of byte e) in
        inr (inr (
          Letters letters,
          left,
          letters_first (byte ∷ text) e,
          omega (arith, run.0, run.1),
          omega (arith, run.0, run.1, letters_length (byte ∷ text)),
        ))
    by (inr (inr (inr (inr e)))) =
        let digits = take_while is_ascii_digit (byte ∷ text) in
        let run = run_length is_ascii_digit byte text (digit_of byte e) in
        inr (inr (
          Number (run_value (byte ∷ text)),
          behind_digits (byte ∷ text),
          number_first (byte ∷ text) e,
          omega (arith, run.0, run.1),
          omega (arith, run.0, run.1, number_length digits (list_all-take_while is_ascii_digit (byte ∷ text)) run.0),
        ))

items_cost : (text : List ℕ) → length (list_bytes item_bytes (items_in text)) ≤ length text * 3 + 1
items_cost = pieces_cost items_in item_bytes 3 next

-- a version behind its epoch
behind_cost : (epoch : ℕ) (text : List ℕ)
    → IfSome (behind_epoch epoch text) (λ v. length (rpm_bytes v) ≤ length (number_bytes epoch) + (length text * 3 + 2))
behind_cost epoch text =
    where_cut 45 text (λ cut. IfSome (of_cut epoch text cut) Fit)
    (some_map Fit _ (items_of text) (some_if _ (is_version text) _
    (both (items_in text) None (omega (arith, items_cost text)))))
    (λ cut whole. some_then Fit _ (items_of cut.0) (some_if _ (is_version cut.0) _
    (some_map Fit _ (items_of cut.1) (some_if _ (is_version cut.1) _
    (both (items_in cut.0) (Some (items_in cut.1)) (omega (arith, items_cost cut.0, items_cost cut.1, whole)))))))
  where
    Fit : PlainRpm → Type 0
    Fit v = length (rpm_bytes v) ≤ length (number_bytes epoch) + (length text * 3 + 2)

    both : (version : List Item) (release : Option (List Item))
        → length (list_bytes item_bytes version) + length (release_bytes release) ≤ length text * 3 + 2
        → Fit (record { epoch = epoch; version = version; release = release })
    both version release enough = omega (
      arith,
      enough,
      length-append (number_bytes epoch) (list_bytes item_bytes version ++ release_bytes release),
      length-append (list_bytes item_bytes version) (release_bytes release),
    )

pub rpm_within : AreWithin rpm_rules.read_as (key_room rpm_facts)
rpm_within = ends_cost rpm_of rpm_bytes rpm_facts (epoch_costs behind_epoch rpm_bytes 4294967295 3 2 (omega arith) behind_cost)
