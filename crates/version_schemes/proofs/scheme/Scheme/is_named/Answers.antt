use Rattle.std.proofs.Common.{rules, ◌≡◌, ◌≤◌, ◌-◌, Bool, false, List, [], ◌∷◌, arith, drop, get_or, length, map, subst, sym, take, ℕ}
use Rattle.std.proofs.lemmas.List.{take_all}
use Rattle.std.specs.{List.list_any, Str.str_eq_ignore_ascii_case}
use Rattle.version_schemes.proofs.scheme.Scheme.is_named.Goals as goal

-- what passes no test is left out
next : {A : Type 0} (p : List ℕ → Bool) (f : A → List ℕ) (left : List A) (all : Bool) (none : A)
    → 1 ≤ length left → list_any p (map f left) ≡ all → p (f (get_or left 0 none)) ≡ false
    → list_any p (map f (take (length left - 1) (drop 1 left))) ≡ all
next p f [] all none some one fails = absurd (omega (arith, some))
next p f (first ∷ rest) all none some one fails =
    let left : take (length (first ∷ rest) - 1) (drop 1 (first ∷ rest)) ≡ rest = take_all _ rest (omega arith) in
    subst (λ left. list_any p (map f left) ≡ all) (sym left) (rw fails at one)

pub loop-left-preserved : goal.loop-left-preserved
loop-left-preserved c =
    let test = c.eq_ignore_ascii_case-in-len1-up.ensures in
    let value = c.as_bytes-in-len1-up.ensures.value in
    let not : str_eq_ignore_ascii_case c.as_bytes-in-len1-up.result.now c.args.text.now ≡ false = search rules in
    next (λ name. str_eq_ignore_ascii_case name c.args.text.now) (λ alias. alias.now) c.loop-left.left.now _ _
    c.in-len1-up.len_at_least c.loop-left.invariant (rw value at not)
