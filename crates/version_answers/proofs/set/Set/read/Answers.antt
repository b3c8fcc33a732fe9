use Rattle.std.proofs.Common.{◌≡◌, ◌∙◌, Some, ap, arith, length, rules, sym}
use Rattle.version_answers.proofs.lemmas.One.{are_held, keys_are, written_back}
use Rattle.version_answers.specs.Sets.{reading_of}
use Rattle.version_schemes.specs.Scheme.{scheme_number}
use Rattle.version_sets.specs.Reading.{Right}
use Rattle.version_answers.proofs.set.Set.read.Goals as goal

pub invariant_of-result : goal.invariant_of-result
invariant_of-result c =
    let (first, others, is, written) = c.in-Ok.ensures.ok in
    let long : length c.read_by.new.room ≡ c.in_ok-bytes.bytes.len = search rules in
    let same = c.truncate.ensures.items ∙ written_back c.in-Ok.size c.in_ok-bytes.bytes.len c.read_by.new.room _ long in
    (are_held _ c.read_by.new.room (scheme_number c.args.scheme) c.in-Ok.size _ written same (search (rules, arith))).form

pub returns-in-Ok-clause-set : goal.returns-in-Ok-clause-set
returns-in-Ok-clause-set c =
    let (first, others, is, written) = c.in-Ok.ensures.ok in
    let long : length c.read_by.new.room ≡ c.in_ok-bytes.bytes.len = search rules in
    let same = c.truncate.ensures.items ∙ written_back c.in-Ok.size c.in_ok-bytes.bytes.len c.read_by.new.room _ long in
    let held = are_held _ c.read_by.new.room (scheme_number c.args.scheme) c.in-Ok.size _ written same (search (rules, arith)) in
    let read : reading_of c.args.scheme c.args.word.now ≡ Right first others = search (rules, is) in
    keys_are c.args.scheme c.args.word.now first others read ∙ ap Some (sym held.have)
