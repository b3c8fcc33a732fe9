use Rattle.std.proofs.Common.{◌≡◌, ◌∙◌, ◌-◌, ap, drop, length, rules, subst, take}
use Rattle.std.specs.Int.{from_be_bytes, w64}
use Rattle.version_order.proofs.lemmas.Bytes.{AreBytes}
use Rattle.version_lines.proofs.lemmas.KeyedLines.{holds-last, key-part}
use Rattle.version_schemes.specs.any.AnyVersion.{plain_any}
use Rattle.version_lines.proofs.sort.entry.Entry.read.Goals as goal

pub returns-clause-key : goal.returns-clause-key
returns-clause-key c =
    let v = plain_any c.args.version.now in
    let key = v.key in
    let keys = c.args.keys.now.items in
    let kept = c.append_key.new.list.items in
    let added = c.in_ok-append_key.ensures.ok in
    let last : c.len-start.result ≡ length keys = search rules in
    let all = c.as_slice.result.now in
    let whole : take (length all - c.len-start.result) (drop c.len-start.result all) ≡ key =
    key-part keys all key c.len-start.result (c.as_slice.ensures.value ∙ added) last in
    holds-last keys kept v _ added last (c.mark_kind.ensures.number ∙ ap length whole)
    (c.mark_kind.ensures.kind ∙ c.kind.ensures)
    (subst AreBytes whole c.first_eight.ensures.bytes)
    (c.first_eight.ensures.value ∙ ap (from_be_bytes w64) whole)
    (c.first_eight-2.ensures.value ∙ ap (from_be_bytes w64) (c.after.ensures ∙ ap (drop 8) whole))
