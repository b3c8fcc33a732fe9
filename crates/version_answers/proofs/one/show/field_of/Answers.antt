use Rattle.std.proofs.Common.{◌-◌, drop, subst, sym, take, arith}
use Rattle.std.proofs.lemmas.Str.{IsAscii-drop, IsAscii-take, IsUtf8-from_ascii}
use Rattle.std.specs.Str.{IsAscii}
use Rattle.version_rules.proofs.lemmas.{Grammar.is_read, Grammar.same_bytes, Versioning.versioning_ascii, Versioning.versioning_of-spells}
use Rattle.version_answers.proofs.lemmas.One.{field_taken}
use Rattle.version_texts.specs.VersioningRef.{plain_versioning_ref}
use Rattle.version_answers.proofs.one.show.field_of.Goals as goal

pub unwrap-requires : goal.unwrap-requires
unwrap-requires c =
    let text = c.text.result.now in
    let ascii =
    versioning_ascii text (plain_versioning_ref c.args.version.now)
    (versioning_of-spells text (plain_versioning_ref c.args.version.now) c.text.ensures.read) in
    let start = c.in_ok-start.start in
    let length = c.in_ok-start.end - start in
    is_read _ (take length (drop start c.as_bytes.result.now)) c.from_utf8.result
    (IsUtf8-from_ascii (take length (drop start c.as_bytes.result.now))
    (IsAscii-take (drop start c.as_bytes.result.now) length
    (IsAscii-drop c.as_bytes.result.now start
    (subst IsAscii (sym c.as_bytes.ensures.value) ascii))))
    c.from_utf8.ensures.cases

pub returns : goal.returns
returns c = grind (arith, same_bytes, field_taken)
