use Rattle.std.proofs.Common.{◌∙◌, ◌&&◌, if◌then◌else◌, Bool, List, ℕ, ap, arith, length, suc, sym, rules}
use Rattle.std.specs.List.{list_all}
use Rattle.version_rules.specs.grammar.Versioning.{is_prerelease}
use Rattle.version_texts.specs.VersioningRef.{numeral_value, plain_versioning_ref}
use Rattle.version_order.specs.texts.Cuts.{further_pieces, is_dot}
use Rattle.version_texts.proofs.lemmas.versioning_ref.VersioningRef.{spells-is}
use Rattle.version_tasks.specs.NextText.{is_zero}
use Rattle.version_tasks.proofs.lemmas.Next.Read.{beyond, follows, has_number, left_within, other_parts, past}
use Rattle.version_tasks.proofs.next.next_of.Goals as goal

pub returns-then-not-are_numerals-clause-none : goal.returns-then-not-are_numerals-clause-none
returns-then-not-are_numerals-clause-none c =
    other_parts _ _ (spells-is _ _ c.args.version.now.read) _ _ c.in_ok-epoch.ensures c.args.place
    (sym c.if-not-are_numerals.ensures)

pub returns-in_err-left-clause-none : goal.returns-in_err-left-clause-none
returns-in_err-left-clause-none c =
    rw c.from_residual-in_err-left.ensures
    (beyond _ _ (spells-is _ _ c.args.version.now.read) _ _ c.in_ok-epoch.ensures c.args.place
    (sym c.if-not-are_numerals.ensures) c.in_err-left.ensures)

pub returns-in_err-numeral_value-clause-none : goal.returns-in_err-numeral_value-clause-none
returns-in_err-numeral_value-clause-none c =
    absurd
    (has_number _ _ (spells-is _ _ c.args.version.now.read) _ _ c.in_ok-epoch.ensures c.args.place
    (sym c.if-not-are_numerals.ensures) c.in_ok-left.left.now c.in_ok-left.ensures
    (c.in_err-numeral_value.ensures ∙ ap numeral_value c.split_piece.ensures.piece))

pub returns-in_err-number-clause-none : goal.returns-in_err-number-clause-none
returns-in_err-number-clause-none c =
    let v = plain_versioning_ref c.args.version.now in
    let n = c.in_ok-numeral_value.field-0 in
    let stays = c.may_stay.ensures ∙ ap (λ (l : List ℕ). is_prerelease v && list_all is_zero
    (further_pieces is_dot l)) c.split_piece.ensures.rest in
    rw c.from_residual-in_err-number.ensures
    (past _ _ (spells-is _ _ c.args.version.now.read) _ _ c.in_ok-epoch.ensures c.args.place
    (sym c.if-not-are_numerals.ensures) c.in_ok-left.left.now c.in_ok-left.ensures n
    (c.in_ok-numeral_value.ensures ∙ ap numeral_value c.split_piece.ensures.piece)
    (rw stays at c.in_err-number.ensures.none))

pub slice_bounds-result-count : goal.slice_bounds-result-count
slice_bounds-result-count c =
    left_within _ _ (spells-is _ _ c.args.version.now.read) _ _ c.in_ok-epoch.ensures c.args.place
    (sym c.if-not-are_numerals.ensures) c.in_ok-left.left.now c.in_ok-left.ensures

pub invariant_of-result : goal.invariant_of-result
invariant_of-result c =
    let v = plain_versioning_ref c.args.version.now in
    let n = c.in_ok-numeral_value.field-0 in
    let rest = c.split_piece.ensures.rest in
    let stays = c.may_stay.ensures ∙ ap (λ (l : List ℕ). is_prerelease v && list_all is_zero
    (further_pieces is_dot l)) rest in
    let next = c.in_ok-number.ensures.some ∙ ap (λ (b : Bool). if b then n else suc n) stays in
    let count = c.count_parts.ensures ∙ ap (λ (l : List ℕ). length (further_pieces is_dot l)) rest in
    let is = follows _ _ (spells-is _ _ c.args.version.now.read) _ _ c.in_ok-epoch.ensures
    c.args.place (sym c.if-not-are_numerals.ensures) c.in_ok-left.left.now c.in_ok-left.ensures n
    (c.in_ok-numeral_value.ensures ∙ ap numeral_value c.split_piece.ensures.piece)
    c.in_ok-number.number c.count_parts.result next (omega arith) count in
    record { read = is.0 }

pub returns : goal.returns
returns c =
    let v = plain_versioning_ref c.args.version.now in
    let n = c.in_ok-numeral_value.field-0 in
    let rest = c.split_piece.ensures.rest in
    let stays = c.may_stay.ensures ∙ ap (λ (l : List ℕ). is_prerelease v && list_all is_zero
    (further_pieces is_dot l)) rest in
    let next = c.in_ok-number.ensures.some ∙ ap (λ (b : Bool). if b then n else suc n) stays in
    let count = c.count_parts.ensures ∙ ap (λ (l : List ℕ). length (further_pieces is_dot l)) rest in
    let is = follows _ _ (spells-is _ _ c.args.version.now.read) _ _ c.in_ok-epoch.ensures
    c.args.place (sym c.if-not-are_numerals.ensures) c.in_ok-left.left.now c.in_ok-left.ensures n
    (c.in_ok-numeral_value.ensures ∙ ap numeral_value c.split_piece.ensures.piece)
    c.in_ok-number.number c.count_parts.result next (omega arith) count in
    record {
      some = is.2;
      none = search rules;
      read = is.1;
    }
