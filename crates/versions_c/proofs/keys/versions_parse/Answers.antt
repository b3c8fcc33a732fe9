use Rattle.std.proofs.Common.{ap, arith}
use Rattle.version_texts.specs.{Mixed.mixed, VersioningRef.plain_versioning_ref}
use Rattle.versions_c.specs.Keys.{spelled_key}
use Rattle.versions_c.proofs.lemmas.Keys.{key_of_read, fitting_key}
use Rattle.versions_c.proofs.keys.versions_parse.Goals as goal

pub returns-clause-key : goal.returns-clause-key
returns-clause-key c =
    let version = plain_versioning_ref c.in-Some.version in
    λ ok. fitting_key (spelled_key c.args.text.now) (mixed version).key c.args.key.now c.write_key.new.room
    (ap key_of_read c.in-Some.ensures)
    c.write_key.ensures.bytes
    (omega (arith, c.write_key.ensures.end, c.if-key_len-key.false))
