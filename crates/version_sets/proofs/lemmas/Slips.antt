-- Texts that look like versions by a glance.
use Rattle.std.proofs.Common.{[], ◌≡◌, ◌==◌, ◌&&◌, List, ◌∷◌, ℕ, zero, suc, Bool, Option, None, false, true, not, drop, arith, refl}
use Rattle.std.proofs.lemmas.{Grind.common_steps}
use Rattle.std.specs.{Char.is_ascii_digit, List.list_any, List.prefix_len}
use Rattle.version_order.specs.{Keyed.PlainKeyed, texts.Front.begins}
use Rattle.version_sets.specs.Slips.{behind_epoch, has_part_x, is_x, slip_of}

no_part : (begins : Bool) (text : List ℕ) → list_any is_x text ≡ false → has_part_x begins text ≡ false
no_part begins [] none = refl
no_part begins (b ∷ text) none = grind (arith, common_steps, no_part (b == 46) text)

none_in_rest : (n : ℕ) (text : List ℕ) → list_any is_x text ≡ false → list_any is_x (drop n text) ≡ false
none_in_rest zero text none = none
none_in_rest (suc n) [] none = refl
none_in_rest (suc n) (b ∷ text) none = grind (arith, common_steps, none_in_rest n text)

none_behind_epoch : (text : List ℕ) → list_any is_x text ≡ false → list_any is_x (behind_epoch text) ≡ false
none_behind_epoch text none =
    grind (arith, common_steps, none_in_rest (prefix_len is_ascii_digit text) text none)

-- a text that begins with a digit and has no x
pub looks_plain : (read_as : List ℕ → Option PlainKeyed) (version : PlainKeyed) (text : List ℕ)
    → (begins is_ascii_digit text && not (list_any is_x text)) ≡ true → slip_of read_as version text ≡ None
looks_plain read_as version [] plain = cc plain
looks_plain read_as version (first ∷ rest) plain =
    grind (arith, common_steps, no_part true (behind_epoch (first ∷ rest)), none_behind_epoch (first ∷ rest))
