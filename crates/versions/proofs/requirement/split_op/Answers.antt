use Rattle.std.proofs.Common.{◌≡◌, ◌<◌, ◌++◌, ◌∷◌, ℕ, List, length, arith, lit<, sym, Some}
use Rattle.std.proofs.lemmas.Str.{IsCharBoundary-after_ascii, IsUtf8-drop}
use Rattle.std.specs.Str.{IsUtf8}
use Rattle.version_rules.specs.declared.op.Op.TheVariants.{Exact, Greater, GreaterEq, Less, LessEq, Tilde, Caret, Wildcard}
use Rattle.version_rules.specs.{declared.op.Op.Op, requirement.Requirement.op_front, requirement.Requirement.op_text}
use Rattle.version_rules.proofs.lemmas.{Grammar.is_read, Numeral.op_front-Some}
use Rattle.versions.proofs.requirement.split_op.Goals as goal

-- what follows a byte of ASCII is a text
past_ascii : (b : ℕ) (text : List ℕ) → b < 128 → IsUtf8 (b ∷ text) → IsUtf8 text
past_ascii b text low utf8 =
    let some : 0 < length (b ∷ text) = omega arith in
    IsUtf8-drop (b ∷ text) 1 utf8 (IsCharBoundary-after_ascii (b ∷ text) 0 utf8 some low)

past_op : (op : Op) (rest : List ℕ) → IsUtf8 (op_text op ++ rest) → IsUtf8 rest
past_op Exact rest utf8 = past_ascii 61 rest (lit< tt) utf8
past_op Greater rest utf8 = past_ascii 62 rest (lit< tt) utf8
past_op GreaterEq rest utf8 =
    past_ascii 61 rest (lit< tt) (past_ascii 62 (61 ∷ rest) (lit< tt) utf8)
past_op Less rest utf8 = past_ascii 60 rest (lit< tt) utf8
past_op LessEq rest utf8 = past_ascii 61 rest (lit< tt) (past_ascii 60 (61 ∷ rest) (lit< tt) utf8)
past_op Tilde rest utf8 = past_ascii 126 rest (lit< tt) utf8
past_op Caret rest utf8 = past_ascii 94 rest (lit< tt) utf8
past_op Wildcard rest utf8 = past_ascii 42 rest (lit< tt) utf8

pub unwrap-requires : goal.unwrap-requires
unwrap-requires c =
    let front : op_front c.args.i.now ≡ Some (c.in_ok-op.op, c.in_ok-op.rest.now) =
    sym (rw (c.in_ok-op.was, c.as_bytes.ensures.value) at c.split.ensures) in
    let whole = op_front-Some c.args.i.now c.in_ok-op.op c.in_ok-op.rest.now front in
    let utf8 = past_op c.in_ok-op.op c.in_ok-op.rest.now (rw (sym whole) c.utf8.i) in
    is_read _ c.in_ok-op.rest.now c.from_utf8.result utf8 c.from_utf8.ensures.cases
