use Rattle.std.proofs.Common.{◌∙◌, refl}
use Rattle.version_order.proofs.lemmas.Codes.{writes_on}
use Rattle.version_rules.proofs.lemmas.Order.{key_writes}
use Rattle.version_rules.specs.key.Key.{key_of}
use Rattle.version_schemes.proofs.lemmas.Any.{by_code}
use Rattle.version_schemes.specs.any.AnyVersion.{plain_any}
use Rattle.version_texts.specs.VersioningRef.{plain_versioning_ref}
use Rattle.version_schemes.proofs.any.AnyVersion.precedence.Goals as goal

pub returns-in-Mixed-Mixed : goal.returns-in-Mixed-Mixed
returns-in-Mixed-Mixed c =
    let here = c.in-Mixed-Mixed.is-0 in
    let there = c.in-Mixed-Mixed.is-1 in
    c.precedence.ensures
    ∙ by_code (writes_on key_of key_writes) (plain_versioning_ref c.in-Mixed-Mixed.version) (plain_versioning_ref c.in-Mixed-Mixed.other)
    (plain_any c.args.self.now) (plain_any c.args.other.now) (rw (here, there) refl) (rw here refl) (rw there refl)
