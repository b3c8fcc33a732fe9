-- The worked rows, by computation.
use Rattle.std.proofs.Common.{◌≡◌, ◌&&◌, ◌^◌, ◌∙◌, ◌-◌, if◌then◌else◌, ℕ, suc, Bool, true, List, [], ◌∷◌, drop, length, map, nat_lt, Option, Some, None, refl, sym, ap, arith, inl, inr}
use Rattle.std.proofs.lemmas.{Bool.and_parts, Bool.cases_Bool, Bool.ltb-true, Bool.Decides.nat_tests}
use Rattle.std.specs.{Cmp.first_so, Cmp.second_so, Fmt.digits, List.list_all}
use Rattle.version_rules.specs.grammar.{Body.body_front, Chunk.chunk_front_of, Chunk.unsigned_front, Last.numbered_last, MChunk.mchunk_front, MChunk.variant_of, Mess.further_front, Mess.mess_front, Mess.mess_of}
use Rattle.version_rules.specs.grammar.{SemVer.semver_front, SemVer.semver_of, Version.epoch_front, Version.version_front, Version.version_of, Versioning.PlainVersioning, Versioning.is_prerelease}
use Rattle.version_texts.specs.VersioningRef.{version_in}
use Rattle.version_tasks.specs.Worked.{AreNext, HaveNoNext, WorkedRows, next_rows, no_next_rows}
use Rattle.version_tasks.specs.{Next.IsNext, Next.NoNext, Next.numbers_of, Tag.place_in_tag}
use Rattle.version_tasks.proofs.lemmas.Next.Order.{are_zeros, fit, is_next, next_number, none_beyond, none_past, none_without, number_at, raised, raised_follows, raised_number}
use Rattle.version_tasks.proofs.lemmas.Next.Text.{numbered, numbered_form}
use Rattle.version_order.specs.texts.Front.{dotted_front, optional, repeated, run_front}

-- ---- what comes next after a version, computed

-- the number that comes next at a place
abbrev next_in : PlainVersioning → ℕ → List ℕ → ℕ
next_in v place ns =
    next_number (is_prerelease v && are_zeros (drop (suc place) ns)) (number_at place ns)

-- the version that comes next
abbrev next_of_numbers : PlainVersioning → ℕ → Option (List ℕ) → Option PlainVersioning
next_of_numbers v place None = None
next_of_numbers v place (Some ns) =
    if nat_lt place (length ns) && (fit ns && nat_lt (next_in v place ns) (2 ^ 32))
    then Some (numbered v (raised place ns (next_in v place ns)))
    else None

computed_next : (v : PlainVersioning) (place : ℕ) (w : PlainVersioning) (numbers : Option (List ℕ))
    → numbers_of v ≡ numbers → next_of_numbers v place numbers ≡ Some w → IsNext v place w
computed_next v place w None are e = cc e
computed_next v place w (Some ns) are e =
    let k = next_in v place ns in
    elim (cases_Bool (nat_lt place (length ns) && (fit ns && nat_lt k (2 ^ 32)))) [
      | inr other ↦ cc (rw other at e)
      | inl passes ↦
          let first = and_parts (nat_lt place (length ns)) (fit ns && nat_lt k (2 ^ 32)) passes in
          let second = and_parts (fit ns) (nat_lt k (2 ^ 32)) first.1 in
          let within = ltb-true place (length ns) first.0 in
          let form =
          numbered_form v place ns (raised place ns k) are
          (raised_follows place ns k within second.0 (ltb-true k (2 ^ 32) second.1)) in
          let same : numbered v (raised place ns k) ≡ w = cc (rw passes at e) in
          rw same at
          (is_next v place ns are second.0 (numbered v (raised place ns k)) form.0
          (sym (ap (number_at place) form.1 ∙ raised_number place ns k within)))
    ]

-- whether there is none
abbrev has_none : PlainVersioning → ℕ → Option (List ℕ) → Bool
has_none v place None = true
has_none v place (Some ns) =
    fit ns && (if nat_lt place (length ns) then nat_lt (2 ^ 32 - 1) (next_in v place ns) else true)

computed_none : (v : PlainVersioning) (place : ℕ) (numbers : Option (List ℕ))
    → numbers_of v ≡ numbers → has_none v place numbers ≡ true → NoNext v place
computed_none v place None are e = none_without v place are
computed_none v place (Some ns) are e =
    let both =
    and_parts (fit ns)
    (if nat_lt place (length ns) then nat_lt (2 ^ 32 - 1) (next_in v place ns) else true) e in
    elim (cases_Bool (nat_lt place (length ns))) [
      | inl within ↦
          let large : nat_lt (2 ^ 32 - 1) (next_in v place ns) ≡ true = rw within at both.1 in
          let past = ltb-true (2 ^ 32 - 1) (next_in v place ns) large in
          none_past v place ns are both.0 (omega (arith, past))
      | inr beyond ↦ none_beyond v place ns are both.0 (grind (arith, nat_tests, beyond))
    ]

-- rows that are computed
pub next_rows_are : (rows : List (List ℕ × ℕ × List ℕ))
    → map (λ row. next_of_numbers (version_in row.0) row.1 (numbers_of (version_in row.0))) rows
    ≡ map (λ row. Some (version_in row.2)) rows
    → AreNext rows
next_rows_are [] e = tt
next_rows_are (row ∷ rows) e =
    let first : next_of_numbers (version_in row.0) row.1 (numbers_of (version_in row.0))
    ≡ Some (version_in row.2) = cc e in
    let rest : map (λ (row : List ℕ × ℕ × List ℕ).
    next_of_numbers (version_in row.0) row.1 (numbers_of (version_in row.0))) rows
    ≡ map (λ (row : List ℕ × ℕ × List ℕ). Some (version_in row.2)) rows = cc e in (
      computed_next (version_in row.0) row.1 (version_in row.2) (numbers_of (version_in row.0)) refl
          first,
      next_rows_are rows rest,
    )

pub no_next_rows_are : (rows : List (List ℕ × ℕ))
    → list_all (λ row. has_none (version_in row.0) row.1 (numbers_of (version_in row.0))) rows
    ≡ true
    → HaveNoNext rows
no_next_rows_are [] e = tt
no_next_rows_are (row ∷ rows) e = (
  computed_none (version_in row.0) row.1 (numbers_of (version_in row.0)) refl (first_so _ _ e),
  no_next_rows_are rows (second_so _ _ e),
)

pub worked_rows : WorkedRows
unfolding place_in_tag body_front chunk_front_of dotted_front optional repeated run_front
    numbered_last mchunk_front variant_of further_front mess_front mess_of unsigned_front
    semver_front semver_of epoch_front version_front version_of digits version_in
worked_rows = record {
  tags_are = refl;
  prefixes_are = refl;
  stabilities_are = refl;
  next_are = next_rows_are next_rows refl;
  no_next_are = no_next_rows_are no_next_rows refl;
}
