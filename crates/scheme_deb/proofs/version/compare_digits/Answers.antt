use Rattle.std.proofs.Common.{◌∙◌, sym}
use Rattle.scheme_deb.proofs.lemmas.Front.{digits_decide}
use Rattle.scheme_deb.proofs.version.compare_digits.Goals as goal

pub returns : goal.returns
returns c =
    c.cmp.ensures
    ∙ digits_decide _ _ _ _ _ _ c.in_ok-digit.ensures.some (sym c.begins_with.ensures ∙ c.if-begins_with.false)
    c.in_ok-other.ensures.some (sym c.begins_with-else-begins_with.ensures ∙ c.if-begins_with-2.false) c.if-digit-other.false
