use Rattle.std.proofs.Common.{◌≡◌, arith, rules, sym}
use Rattle.std.proofs.lemmas.Bool.{eq-eqb, le-ltb, lt-ltb, ne_eqb}
use Rattle.version_texts.proofs.lemmas.versioning_ref.{Field.field_spans, Field.no_release_tail, VersioningRef.other_tail}
use Rattle.version_texts.specs.declared.scan.shape.TailKind.TheVariants as tail
use Rattle.version_texts.proofs.versioning_ref.VersioningRef.span.Goals as goal

pub returns-in-Epoch : goal.returns-in-Epoch
returns-in-Epoch c =
    rw c.in-Epoch.is
    (sym (rw (ne_eqb c.args.self.now.shape.body 0
    (omega (arith, c.if-body-gt0.true))) at (field_spans _ _ c.args.self.now.read).epoch))

pub returns-in_default : goal.returns-in_default
returns-in_default c =
    rw c.in-Epoch.is
    (sym (rw (eq-eqb c.args.self.now.shape.body 0
    (omega (arith, c.if-body-gt0.false))) at (field_spans _ _ c.args.self.now.read).epoch))

pub returns-in-PreRelease : goal.returns-in-PreRelease
returns-in-PreRelease c =
    let is : c.args.self.now.shape.tail ≡ tail.PreRelease = search rules in
    rw c.in-PreRelease.is (sym (rw is at (field_spans _ _ c.args.self.now.read).pre_release))

pub returns-in_default-2 : goal.returns-in_default-2
returns-in_default-2 c =
    let other : ¬ (c.args.self.now.shape.tail ≡ tail.PreRelease) = search rules in
    rw c.in-PreRelease.is (sym (rw (other_tail _ other)
    at (field_spans _ _ c.args.self.now.read).pre_release))

pub returns-in-Release : goal.returns-in-Release
returns-in-Release c =
    let is : c.args.self.now.shape.tail ≡ tail.Release = search rules in
    rw c.in-Release.is (sym (rw is at (field_spans _ _ c.args.self.now.read).release))

pub returns-in_default-3 : goal.returns-in_default-3
returns-in_default-3 c =
    let other : ¬ (c.args.self.now.shape.tail ≡ tail.Release) = search rules in
    rw c.in-Release.is (sym (rw (no_release_tail _ other)
    at (field_spans _ _ c.args.self.now.read).release))

pub returns-in-Metadata : goal.returns-in-Metadata
returns-in-Metadata c =
    rw c.in-Metadata.is (sym (rw (lt-ltb _ _ c.if-tail_end-self.true)
    at (field_spans _ _ c.args.self.now.read).metadata))

pub returns-in_default-4 : goal.returns-in_default-4
returns-in_default-4 c =
    rw c.in-Metadata.is (sym (rw (le-ltb _ _ c.if-tail_end-self.false)
    at (field_spans _ _ c.args.self.now.read).metadata))
