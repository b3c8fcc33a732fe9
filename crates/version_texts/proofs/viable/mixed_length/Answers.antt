use Rattle.std.proofs.Common.{arith}
use Rattle.std.specs.Option.{is_some}
use Rattle.version_rules.specs.grammar.Versioning.{versioning_of}
use Rattle.version_texts.specs.Scan.{is_general, is_messy}
use Rattle.version_texts.proofs.lemmas.Viable.{any_kind}
use Rattle.version_order.proofs.lemmas.Viable.Left.{further, further_other, longest}
use Rattle.version_texts.proofs.viable.mixed_length.Goals as goal

pub returns-then-general-messy : goal.returns-then-general-messy
returns-then-general-messy c =
    longest _ c.args.text.now _
    (further (λ begun. is_some (versioning_of begun)) is_general is_messy any_kind c.args.text.now _ _
    c.left_of_general-general.ensures c.left_of_messy-messy.ensures (omega (arith, c.if-general-messy.true)))

pub returns-else-general-messy : goal.returns-else-general-messy
returns-else-general-messy c =
    longest _ c.args.text.now _
    (further_other (λ begun. is_some (versioning_of begun)) is_general is_messy any_kind c.args.text.now _ _
    c.left_of_general-general.ensures c.left_of_messy-messy.ensures (omega (arith, c.if-general-messy.false)))
