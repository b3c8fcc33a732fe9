use Rattle.std.proofs.Common.{◌∙◌, ap, sym}
use Rattle.std.specs.{Cmp.second_so, List.list_all}
use Rattle.version_order.proofs.lemmas.Sinks.{next_fits, owes_rest, owes_same}
use Rattle.scheme_deb.proofs.lemmas.Cut.{behind_byte, next_byte}
use Rattle.scheme_deb.specs.Texts.{is_of_upstream}
use Rattle.scheme_deb.proofs.version.put_run.Goals as goal

pub put-requires : goal.put-requires
put-requires g c =
    let some = c.in-Some.ensures.some in
    next_fits _ _
    (owes_same (next_byte _ _ _ _ some.0 some.1 c.rank.ensures) c.loop-byte.invariant.1)

pub loop-byte-preserved : goal.loop-byte-preserved
loop-byte-preserved g c =
    let some = c.in-Some.ensures.some in (
      second_so _ _ (sym (ap (list_all is_of_upstream) some.0) ∙ c.loop-byte.invariant.0),
      owes_rest _ _ (owes_same (next_byte _ _ _ _ some.0 some.1 c.rank.ensures) c.loop-byte.invariant.1)
          c.put.ensures,
      behind_byte _ _ _ some.0 some.1 ∙ c.loop-byte.invariant.2,
    )
