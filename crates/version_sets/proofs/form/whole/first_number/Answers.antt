use Rattle.std.proofs.Common.{◌≡◌, ◌∙◌, ◌<◌, ◌++◌, List, ap, arith, get_or, inl, inr, length, subst, sym, take, ℕ}
use Rattle.std.proofs.lemmas.List.{get_or-take, get_or_past, length-take, length-take-le, take-append-drop}
use Rattle.std.proofs.lemmas.{Bool.cases_lt, Nat.le_bytes_8}
use Rattle.version_sets.specs.Form.{number}
use Rattle.version_sets.proofs.form.whole.first_number.Goals as goal

-- the first bytes of a row are bytes
small_in : (row : List ℕ) → ((i : ℕ) → get_or row i 0 < 256) → (i : ℕ) → get_or (take 8 row) i 0 < 256
small_in row small i = elim (cases_lt i 8) [
  | inl inside ↦ rw (get_or-take 8 row i 0 inside) (small i)
  | inr past ↦ rw (get_or_past (take 8 row) i 0 (omega (arith, past, length-take 8 row))) (omega arith)
]

pub returns-clause-some : goal.returns-clause-some
unfolding number
returns-clause-some c =
    let row = c.args.row.now in
    let cut = c.in_ok-eight.ensures.cases in
    let long : length c.in_ok-eight.eight.now ≡ 8 =
    ap length cut.0 ∙ length-take-le 8 row (omega (arith, cut.2)) in
    let told = le_bytes_8 c.in_ok-eight.eight.now _ long
    (subst (λ (l : List ℕ). (i : ℕ) → get_or l i 0 < 256) (sym cut.0)
    (small_in row (λ i. omega (arith, c.type_inv.row i)))) c.from_le_bytes.ensures in
    sym (take-append-drop 8 row) ∙ (λ i. (sym cut.0 ∙ sym told) i ++ sym cut.1 i)
