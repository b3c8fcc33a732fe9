use Rattle.std.proofs.Common.{◌≡◌, ◌<◌, ◌≤◌, ◌^◌, ℕ, List, Option, Some, arith, length}
use Rattle.std.proofs.lemmas.Bool.Decides.{nat_tests}
use Rattle.version_rules.specs.grammar.Versioning.{PlainVersioning}
use Rattle.version_order.specs.keys.Sinks.{put_at, saturated}
use Rattle.version_texts.specs.{VersioningRef.plain_versioning_ref}
use Rattle.version_requirements.specs.{Requirement.IsExcluded, Requirement.excluded_text, declared.why.Excluded.Excluded}
use Rattle.version_order.proofs.lemmas.Sinks.{put_fits}
use Rattle.versions_c.specs.{Matching.IsToldWhy, declared.status.TheConstants.OK}
use Rattle.versions_c.proofs.why.versions_why_text.Goals as goal

-- a sentence that fits is written
why_written : (spelled : Option PlainVersioning) (v : PlainVersioning) → Some v ≡ spelled
    → (list old : List ℕ) (excluded : Excluded) → IsExcluded list v excluded → (len : ℕ)
    → len ≡ saturated (length (excluded_text list v excluded)) → length old < 2 ^ 63
    → len ≤ length old → (new : List ℕ) → new ≡ put_at old 0 (excluded_text list v excluded)
    → IsToldWhy list spelled old new len OK
why_written spelled v is list old excluded first len counted small within new put =
    grind (arith, nat_tests, put_fits)

pub returns-clause-why : goal.returns-clause-why
returns-clause-why c =
    let small : length c.args.why.now < 2 ^ 63 = omega arith in
    let within : c.write.result ≤ length c.args.why.now = omega (arith, c.if-why_len-why.false) in
    let bytes = c.write.ensures.bytes.fitting
    (omega (arith, c.write.ensures.length, c.if-why_len-why.false)) in
    why_written _ (plain_versioning_ref c.in-Some.version) c.in-Some.ensures c.args.list.now
    c.args.why.now c.in-Some-found.excluded
    (rw c.in-Some-found.is at c.in-Some-why_not.ensures.why) _ c.write.ensures.length small within _
    bytes
