use Rattle.std.proofs.Common.{rules, ◌∙◌, map, sym}
use Rattle.std.proofs.lemmas.List.{map_push}
use Rattle.versions.specs.Mess.{plain_further}
use Rattle.version_rules.proofs.lemmas.Mess.{further_shrinks}
use Rattle.versions.proofs.lemmas.Mess.{read_last, read_next}
use Rattle.versions.proofs.mess.read_all_further.Goals as goal

pub loop-more-smaller : goal.loop-more-smaller
loop-more-smaller c =
    further_shrinks c.loop-more.rest.now (plain_further c.in-Some.further) c.in-Some.after.now
    (sym (rw c.in-Some.is at c.in_ok-further.ensures))

pub loop-more-preserved : goal.loop-more-preserved
loop-more-preserved c = record {
  text = search rules;
  read = rw (c.in_ok-push.ensures.items, map_push)
      (read_next (map plain_further c.loop-more.more.items) c.loop-more.rest.now _
      c.in-Some.after.now (sym (rw c.in-Some.is at c.in_ok-further.ensures))
      ∙ c.loop-more.invariant.read);
}

pub returns : goal.returns
returns c =
    let none = sym (rw c.in_default.is at c.in_ok-further.ensures) in
    sym (read_last (map plain_further c.loop-more.more.items) c.loop-more.rest.now none)
    ∙ c.loop-more.invariant.read
