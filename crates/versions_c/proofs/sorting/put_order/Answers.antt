use Rattle.std.proofs.Common.{rules as facts, ◌≡◌, ◌∙◌, ◌-◌, ◌≤◌, ◌++◌, Option, None, Some, IfSome, [], ap, arith, drop, length, subst, sym}
use Rattle.std.proofs.lemmas.Bool.Decides.{nat_tests}
use Rattle.std.specs.Option.{option_map}
use Rattle.version_schemes.proofs.lemmas.Table.{keys_some}
use Rattle.version_schemes.specs.{Scheme.rules as rules_of, declared.scheme.Scheme.TheVariants.Mixed}
use Rattle.version_order.specs.Keyed.{PlainKeyed}
use Rattle.versions_c.proofs.lemmas.Sorting.{are_key_offsets, key_lies, by_keys_alone, in_key_order}
use Rattle.versions_c.specs.{Keys.all_keys, Keys.keys_before, Keys.AreKeyOffsets, Schemes.key_by, Sorting.AreSorted, Written.AreOffsets, Written.room_status, declared.status.TheConstants.OK}
use Rattle.versions_c.proofs.sorting.put_order.Goals as goal

some_key : (read : Option PlainKeyed) → IfSome read (λ v. ¬ (v.key ≡ []))
    → IfSome (option_map (λ v. v.key) read) (λ key. ¬ (key ≡ []))
some_key None some = tt
some_key (Some v) some = some

pub invariant_of-keys : goal.invariant_of-keys
invariant_of-keys c =
    let key_of = key_by (rules_of c.args.scheme).read_as in
    let texts = c.args.texts.now in
    let offsets = c.args.offsets.now in
    let count = length c.args.order.now in
    let are : AreOffsets offsets (length texts) count = c.are_offsets.ensures.0 c.if-not-are_offsets.false in
    let last : length offsets - 1 ≡ count = omega (arith, are.one_more) in
    let key_offsets : AreKeyOffsets offsets (length texts) (length c.args.key_offsets.now) =
    record { of_texts = rw last are; as_many = c.if-key_offsets-offsets.false } in
    let told = c.put_keys_in-status.ensures.offsets key_offsets in
    let status = c.put_keys_in-status.ensures.status key_offsets in
    let done = c.if-status-ne-OK.false in
    let whole : length (all_keys key_of texts offsets) ≤ length c.args.keys.now = grind (arith, nat_tests) in
    let fits : length (keys_before key_of texts offsets count) ≤ length c.args.keys.now =
    omega (arith, whole, ap (λ n. length (keys_before key_of texts offsets n)) last) in
    record {
      fit = are_key_offsets key_of texts offsets c.put_keys_in-status.new.key_offsets
          (length c.put_keys_in-status.new.keys) count
          (omega (
            arith,
            c.put_keys_in-status.auto.key_offsets,
            c.if-key_offsets-offsets.false,
            are.one_more,
          ))
          (omega (arith, fits, c.put_keys_in-status.auto.keys))
          (λ i below. told i (omega (arith, below, are.one_more)));
    }

pub returns-clause-order : goal.returns-clause-order
returns-clause-order c = λ ok.
    let key_of = key_by (rules_of c.args.scheme).read_as in
    let texts = c.args.texts.now in
    let offsets = c.args.offsets.now in
    let count = length c.args.order.now in
    let are : AreOffsets offsets (length texts) count = c.are_offsets.ensures.0 c.if-not-are_offsets.false in
    let last : length offsets - 1 ≡ count = omega (arith, are.one_more) in
    let key_offsets : AreKeyOffsets offsets (length texts) (length c.args.key_offsets.now) =
    record { of_texts = rw last are; as_many = c.if-key_offsets-offsets.false } in
    let told = c.put_keys_in-status.ensures.offsets key_offsets in
    let status = c.put_keys_in-status.ensures.status key_offsets in
    let done = c.if-status-ne-OK.false in
    let whole : length (all_keys key_of texts offsets) ≤ length c.args.keys.now = grind (arith, nat_tests) in
    let same = ap (λ n. length (keys_before key_of texts offsets n)) last in
    let fit : room_status (all_keys key_of texts offsets) (length c.args.keys.now) ≡ OK = grind (arith, nat_tests) in
    let written = c.put_keys_in-status.ensures.keys (status ∙ fit)
    ∙ ap (λ n. keys_before key_of texts offsets n ++ drop (length (all_keys key_of texts offsets)) c.args.keys.now)
    last in
    let lies = key_lies key_of texts offsets c.put_keys_in-status.new.keys c.put_keys_in-status.new.key_offsets _ count
    written (omega (arith, whole, same)) (λ i below. told i (omega (arith, below, are.one_more))) in
    let by_keys = in_key_order key_of texts offsets c.put_keys_in-status.new.keys c.put_keys_in-status.new.key_offsets
    c.sort_places.new.order count lies
    (λ text. some_key ((rules_of c.args.scheme).read_as text) (keys_some c.args.scheme text))
    c.sort_places.ensures.places c.sort_places.ensures.sorted in
    let other : ¬ (c.args.scheme ≡ Mixed) = search facts in
    subst (λ cmp. AreSorted (cmp texts offsets) (length offsets - 1) c.sort_places.new.order)
    (sym (by_keys_alone c.args.scheme other)) (rw last by_keys)
