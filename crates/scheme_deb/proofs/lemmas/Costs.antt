-- How long the key of a version of Debian may be.
use Rattle.std.proofs.Common.{[], ◌≡◌, ◌≤◌, ◌+◌, ◌*◌, ◌++◌, ◌∷◌, ℕ, List, IfSome, true, arith, length, refl}
use Rattle.std.proofs.lemmas.{Grind.common_steps, List.length-append}
use Rattle.std.specs.{Char.is_ascii_digit, List.list_all, Str.Parse.digits_value}
use Rattle.version_order.proofs.lemmas.Costs.{digits_cost, digits_room, ends_cost, epoch_costs, some_if, some_map, some_then, where_cut}
use Rattle.version_order.specs.{Facts.key_room, Keyed.AreWithin, keys.Codes.list_bytes, keys.Codes.number_bytes}
use Rattle.scheme_deb.specs.Order.{Part, PlainDeb, byte_code, deb_bytes, more_bytes, part_bytes}
use Rattle.scheme_deb.specs.Texts.{Cut, behind_epoch, cut_of, deb_of, is_revision, is_upstream, mores, of_cut, part_of, revision_of, upstream_of}
use Rattle.scheme_deb.specs.Deb.{deb_facts, deb_rules}

-- the bytes of a run, with its end where it is not empty
abbrev run_room : List ℕ → ℕ
run_room [] = 0
run_room (byte ∷ run) = length (byte ∷ run) + 1

-- the bytes of further runs and digits
abbrev more_room : List (ℕ × (List ℕ × List ℕ)) → ℕ
more_room more = length (list_bytes more_bytes (mores more))

run_length : (run : List ℕ) → length (list_bytes byte_code run) ≡ length run + 1
run_length [] = refl
run_length (byte ∷ run) = omega (arith, run_length run)

pair_length : (run digits rest : List ℕ) → list_all is_ascii_digit digits ≡ true
    → length ((list_bytes byte_code run ++ number_bytes (digits_value 10 digits)) ++ rest)
    ≤ length run + 1 + digits_room digits + length rest
pair_length run digits rest all = grind (arith, common_steps, run_length, digits_cost, length-append)

-- the bytes of a cut, but for the end of an empty run, are at most two for each byte of its text, and two
record Fits (text : List ℕ) (cut : Cut) : Type 0 where
  digits : list_all is_ascii_digit cut.digits ≡ true
  room : run_room cut.run + digits_room cut.digits + more_room cut.more ≤ 2 * length text + 2

next_room : (byte : ℕ) (run digits : List ℕ) → (length run ≤ run_room run)
    × (run_room (byte ∷ run) ≤ run_room run + 2) × (digits_room (byte ∷ digits) ≤ digits_room digits + 2)
next_room byte run digits = grind (arith, common_steps)

fits : (text : List ℕ) → Fits text (cut_of text)
fits [] = record { digits = refl; room = omega arith }
fits (byte ∷ text) = grind (arith, common_steps, fits text, next_room, pair_length)

part_cost : (text : List ℕ) → length (part_bytes (part_of text)) ≤ length text * 2 + 3
part_cost text = grind (arith, common_steps, fits, next_room, pair_length)

-- a version behind its epoch
behind_cost : (epoch : ℕ) (text : List ℕ)
    → IfSome (behind_epoch epoch text) (λ v. length (deb_bytes v) ≤ length (number_bytes epoch) + (length text * 2 + 6))
behind_cost epoch text =
    where_cut 45 text (λ cut. IfSome (of_cut epoch text cut) Fit)
    (some_map Fit _ (upstream_of text) (some_if _ (is_upstream text) _ (both (part_of text) (part_of (48 ∷ [])) (omega (arith, part_cost text)))))
    (λ cut whole. some_then Fit _ (upstream_of cut.0)
    (some_if _ (is_upstream cut.0) _ (some_map Fit _ (revision_of cut.1) (some_if _ (is_revision cut.1) _
    (both (part_of cut.0) (part_of cut.1) (omega (arith, part_cost cut.0, part_cost cut.1, whole)))))))
  where
    Fit : PlainDeb → Type 0
    Fit v = length (deb_bytes v) ≤ length (number_bytes epoch) + (length text * 2 + 6)

    both : (upstream revision : Part)
        → length (part_bytes upstream) + length (part_bytes revision) ≤ length text * 2 + 6
        → Fit (record { epoch = epoch; upstream = upstream; revision = revision })
    both upstream revision enough = omega (
      arith,
      enough,
      length-append (number_bytes epoch) (part_bytes upstream ++ part_bytes revision),
      length-append (part_bytes upstream) (part_bytes revision),
    )

pub deb_within : AreWithin deb_rules.read_as (key_room deb_facts)
deb_within = ends_cost deb_of deb_bytes deb_facts (epoch_costs behind_epoch deb_bytes 2147483647 2 6 (omega arith) behind_cost)
