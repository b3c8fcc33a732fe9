use Rattle.std.proofs.Common.{arith, sym}
use Rattle.version_texts.proofs.lemmas.versioning_ref.VersioningRef.{spells-is}
use Rattle.version_tasks.proofs.lemmas.NextPre.Read.{found, own_valid, past, read_back, unnamed}
use Rattle.version_tasks.proofs.lemmas.NextPre.Text.{pre_read}
use Rattle.version_tasks.proofs.pre.next_pre.Goals as goal

pub chosen_word-requires : goal.chosen_word-requires
chosen_word-requires c =
    own_valid _ _ (spells-is _ _ c.args.version.now.read) (sym c.in-Ideal.ensures) _
    c.pre_release-own.ensures

pub returns-in_err-word-clause-none : goal.returns-in_err-word-clause-none
returns-in_err-word-clause-none c =
    rw c.from_residual.ensures
    (unnamed _ _ (spells-is _ _ c.args.version.now.read) (sym c.in-Ideal.ensures) _
    c.pre_release-own.ensures _ c.in_err-word.ensures.none)

pub place_after-requires-clause-own : goal.place_after-requires-clause-own
place_after-requires-clause-own c =
    own_valid _ _ (spells-is _ _ c.args.version.now.read) (sym c.in-Ideal.ensures) _
    c.pre_release-own.ensures

pub returns-in_err-patch-clause-none : goal.returns-in_err-patch-clause-none
returns-in_err-patch-clause-none c =
    rw c.from_residual-in_err-patch.ensures
    (past _ _ (spells-is _ _ c.args.version.now.read) (sym c.in-Ideal.ensures) _
    c.pre_release-own.ensures _ c.in_ok-word.word.now c.in_ok-word.ensures.some
    c.in_ok-nth.field-0 c.in_ok-nth.ensures c.in_err-patch.ensures.none)

pub invariant_of-result : goal.invariant_of-result
invariant_of-result c = record {
  read = pre_read c.in_ok-nth-2.field-0 c.in_ok-nth-3.field-0 c.in_ok-patch.patch
      c.in_ok-word.word.now c.in_ok-patch.number (omega arith) (omega arith) (omega arith)
      c.in_ok-word.ensures.word (omega arith);
}

pub returns-clause-some : goal.returns-clause-some
returns-clause-some c =
    found _ _ (spells-is _ _ c.args.version.now.read) (sym c.in-Ideal.ensures) _
    c.pre_release-own.ensures _ c.in_ok-word.word.now c.in_ok-word.ensures.some
    c.in_ok-nth-2.field-0 c.in_ok-nth-3.field-0 c.in_ok-nth.field-0 c.in_ok-nth-2.ensures
    c.in_ok-nth-3.ensures c.in_ok-nth.ensures (c.in_ok-patch.patch, c.in_ok-patch.number)
    c.in_ok-patch.ensures.some (omega arith) (omega arith)

pub returns-clause-read : goal.returns-clause-read
returns-clause-read c =
    read_back c.in_ok-nth-2.field-0 c.in_ok-nth-3.field-0 c.in_ok-patch.patch
    c.in_ok-word.word.now c.in_ok-patch.number
    (pre_read c.in_ok-nth-2.field-0 c.in_ok-nth-3.field-0 c.in_ok-patch.patch
    c.in_ok-word.word.now c.in_ok-patch.number (omega arith) (omega arith) (omega arith)
    c.in_ok-word.ensures.word (omega arith))
