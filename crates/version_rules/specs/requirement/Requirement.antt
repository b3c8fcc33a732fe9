-- Requirements: an operator and a version.
use Rattle.std.specs.Prelude.{ℕ, List, [], ◌∷◌, Option, Some, None, codes, ◌≡◌, ◌++◌}
use Rattle.std.specs.Option.{option_map, option_or, IsSomeAnd, option_map_or}
use Rattle.version_order.specs.texts.Front.{◌>>=◌, Front, after_mark, map_value}
use Rattle.version_rules.specs.declared.op.Op.TheVariants.{Exact, Greater, GreaterEq, Less, LessEq, Tilde, Caret, Wildcard}
use Rattle.version_rules.specs.grammar.Versioning.{PlainVersioning, SpellsVersioning, VersioningOwns, versioning_front, versioning_of, versioning_text}
use Rattle.version_rules.specs.declared.op.Op.{Op}

-- ---- the operators of requirements

-- the printed text of an operator
abbrev pub op_text : Op → List ℕ
op_text Exact = codes "="
op_text Greater = codes ">"
op_text GreaterEq = codes ">="
op_text Less = codes "<"
op_text LessEq = codes "<="
op_text Tilde = codes "~"
op_text Caret = codes "^"
op_text Wildcard = codes "*"

-- the operators in the order in which they are tried: of two that begin alike, the longer first
abbrev pub tried_ops : List Op
tried_ops = Exact ∷ GreaterEq ∷ Greater ∷ LessEq ∷ Less ∷ Tilde ∷ Caret ∷ Wildcard ∷ []

-- what follows a word, if the text begins with it
abbrev pub after_word : List ℕ → List ℕ → Option (List ℕ)
after_word [] text = Some text
after_word (b ∷ word) text = after_mark b text >>= after_word word

-- the first of some operators that the text begins with
abbrev pub first_op : List Op → Front Op
first_op [] text = None
first_op (op ∷ ops) text =
    option_or (option_map (λ rest. (op, rest)) (after_word (op_text op) text)) (first_op ops text)

-- the operator that a text begins with, and the rest
unfoldable pub op_front : Front Op
op_front = first_op tried_ops

pub record PlainRequirement : Type 0 where
  pub op : Op
  pub version : Option PlainVersioning

-- what follows an operator: nothing after `*`, and after any other a text that spells a version
abbrev pub SpellsOperand : Op → List ℕ → Option PlainVersioning → Type 0
SpellsOperand op text None = (op ≡ Wildcard) × (text ≡ [])
SpellsOperand op text (Some v) = ¬ (op ≡ Wildcard) × SpellsVersioning text v

-- The text spells the requirement: its operator, and what follows it.
pub record SpellsRequirement (text : List ℕ) (r : PlainRequirement) : Type 0 where
  pub operand : List ℕ
  pub whole : text ≡ op_text r.op ++ operand
  pub operand_is : SpellsOperand r.op operand r.version

-- the printed text: the operator, then the version, if there is one
abbrev pub requirement_text : PlainRequirement → List ℕ
requirement_text r = op_text r.op ++ option_map_or versioning_text r.version []

-- what is parsed after an operator: nothing after `*`, else a prefix as a version
abbrev pub operand_front : Op → Front (Option PlainVersioning)
operand_front Wildcard text = Some (None, text)
operand_front op text = map_value Some (versioning_front text)

-- an operator, and what is parsed after it
abbrev pub requirement_front : Front PlainRequirement
requirement_front text = do
  op ← op_front text
  operand ← operand_front op.0 op.1
  Some (record { op = op.0; version = operand.0 }, operand.1)

-- what the whole text after an operator parses as
abbrev pub operand_of : Op → List ℕ → Option (Option PlainVersioning)
operand_of Wildcard [] = Some None
operand_of Wildcard (b ∷ text) = None
operand_of op text = option_map Some (versioning_of text)

-- the requirement that the whole text parses as, or None
abbrev pub requirement_of : List ℕ → Option PlainRequirement
requirement_of text = do
  op ← op_front text
  operand ← operand_of op.0 op.1
  Some (record { op = op.0; version = operand })

-- a requirement whose version owns memory
abbrev pub RequirementOwns : PlainRequirement → Type 0
RequirementOwns r = IsSomeAnd r.version VersioningOwns
