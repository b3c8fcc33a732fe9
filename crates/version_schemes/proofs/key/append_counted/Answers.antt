use Rattle.std.proofs.Common.{rules, ◌≡◌, ◌∙◌, ◌+◌, ◌-◌, ◌≤◌, ◌^◌, ◌++◌, ℕ, [], ap, append-nil, arith, drop, length, refl, replicate, sym, take}
use Rattle.std.proofs.lemmas.List.{length-take, take_all}
use Rattle.version_order.proofs.lemmas.Sinks.{appended}
use Rattle.version_order.specs.keys.Sinks.{put_at, saturated}
use Rattle.version_schemes.proofs.key.append_counted.Goals as goal

-- a count that is not the largest number is the count
unsaturated : (m n : ℕ) → n ≡ saturated m → ¬ (n ≡ 2 ^ 64 - 1) → n ≡ m
unsaturated m n is other = omega (arith, is, other)

pub write_whole-requires : goal.write_whole-requires
write_whole-requires g c κs =
    let old = c.args.list.now.items in
    let bytes = (g.V.SchemeVersion.plain c.args.version.now).key in
    let last : c.len-start.result ≡ length old = search rules in
    let whole : c.length-end.result ≡ length old + length bytes =
    unsaturated (length old + length bytes) c.length-end.result
    (c.length-end.ensures ∙ c.put_key.ensures []
    ∙ (λ i. saturated (last i + length (append-nil bytes i))))
    c.if-end.false in
    ((refl, tt), omega (arith, last, whole, c.as_mut_slice.ensures.len, c.in_ok-resize.ensures.len))

pub returns-clause-ok : goal.returns-clause-ok
returns-clause-ok g c =
    let old = c.args.list.now.items in
    let bytes = (g.V.SchemeVersion.plain c.args.version.now).key in
    let n = c.length-end.result in
    let last : c.len-start.result ≡ length old = search rules in
    let counted : c.args.list.now.len ≡ length old = search rules in
    let whole : n ≡ length old + length bytes =
    unsaturated (length old + length bytes) n
    (c.length-end.ensures ∙ c.put_key.ensures []
    ∙ (λ i. saturated (last i + length (append-nil bytes i))))
    c.if-end.false in
    let room = c.write_whole.new.room in
    let fits : length old + length bytes ≤ n = omega (arith, whole) in
    let long : c.resize.new.self.len ≡ n = search rules in
    let whole_room = room ++ drop (length room) c.resize.new.self.items in
    sym (take_all n _ (omega (arith, long, length-take c.resize.new.self.len whole_room)))
    ∙ appended old c.resize.new.self.items room bytes n c.resize.new.self.len n
    (c.in_ok-resize.ensures.items ∙ ap (λ k. take n old ++ replicate (n - k) 0) counted)
    long
    (c.write_whole.ensures.bytes
    ∙ (λ i. put_at (c.as_mut_slice.ensures.value i) (last i) bytes))
    fits whole
