use Rattle.std.proofs.Common.{sym}
use Rattle.version_texts.specs.VersioningRef.{plain_versioning_ref}
use Rattle.versions_c.proofs.lemmas.Matching.{bit_fails, bit_holds}
use Rattle.versions_c.specs.Ranges.{is_in_or_not, range_with}
use Rattle.versions_c.proofs.ranges.code.Goals as goal

pub returns-then-is_in : goal.returns-then-is_in
returns-then-is_in c =
    let v = plain_versioning_ref c.args.version.now in
    let range = range_with c.args.low.now c.args.high.now c.args.flags in
    let told = rw (c.high_of.ensures, c.kinds_of.ensures) at (c.is_in.ensures.0 c.if-is_in.true) in
    sym (bit_holds (is_in_or_not range v) (record { between = told.0; of_kind = told.1 }))

pub returns-else-is_in : goal.returns-else-is_in
returns-else-is_in c =
    let v = plain_versioning_ref c.args.version.now in
    let range = range_with c.args.low.now c.args.high.now c.args.flags in
    let asked = rw (c.high_of.ensures, c.kinds_of.ensures) at c.is_in.ensures.1 in
    sym (bit_fails (is_in_or_not range v)
    (λ is_in. cc (asked (is_in.between, is_in.of_kind), c.if-is_in.false)))
