use Rattle.std.proofs.Common.{rules, ◌≡◌, ◌∙◌, ◌+◌, ◌-◌, ◌≤◌, ◌++◌, List, ℕ, OnErr, OnOk, ap, arith, length, refl, replicate, subst, take}
use Rattle.version_order.proofs.lemmas.Sinks.{appended}
use Rattle.version_order.specs.keys.Sinks.{put_at}
use Rattle.version_schemes.proofs.lemmas.Front.{taken_back}
use Rattle.version_schemes.proofs.key.append_key.Goals as goal

pub write_front-requires : goal.write_front-requires
write_front-requires g c κs =
    let last : c.len-start.result ≡ length c.args.list.now.items = search rules in (
      (refl, tt),
      omega (
        arith,
        last,
        c.saturating_add-size.ensures,
        c.if-size.false,
        c.as_mut_slice.ensures.len,
        c.in_ok-resize.ensures.len,
      ),
    )

pub returns-in-Some-clause-ok : goal.returns-in-Some-clause-ok
returns-in-Some-clause-ok g c =
    let old = c.args.list.now.items in
    let bytes = (g.V.SchemeVersion.plain c.args.version.now).key in
    let n = c.saturating_add-size.result in
    let last : c.len-start.result ≡ length old = search rules in
    let counted : c.args.list.now.len ≡ length old = search rules in
    let end = c.in-Some.ensures.end in
    let fits : length old + length bytes ≤ n =
    omega (arith, last, end.0, end.1, c.as_mut_slice.ensures.len, c.in_ok-resize.ensures.len) in
    c.truncate.ensures.items
    ∙ appended old c.resize.new.self.items c.write_front.new.room bytes n c.resize.new.self.len c.in-Some.end
    (c.in_ok-resize.ensures.items ∙ ap (λ k. take n old ++ replicate (n - k) 0) counted)
    (search rules)
    (c.write_front.ensures.bytes ∙ (λ i. put_at (c.as_mut_slice.ensures.value i) (last i) bytes))
    fits (omega (arith, last, end.0))

pub returns-in-None : goal.returns-in-None
returns-in-None g c =
    let old = c.args.list.now.items in
    let bytes = (g.V.SchemeVersion.plain c.args.version.now).key in
    let n = c.saturating_add-size.result in
    let last : c.len-start.result ≡ length old = search rules in
    let counted : c.args.list.now.len ≡ length old = search rules in
    let back : c.truncate-in-None.new.self.items ≡ old =
    c.truncate-in-None.ensures.items
    ∙ taken_back old c.resize.new.self.items c.write_front.new.room bytes n c.resize.new.self.len c.len-start.result
    (c.in_ok-resize.ensures.items ∙ ap (λ k. take n old ++ replicate (n - k) 0) counted)
    (search rules)
    (c.write_front.ensures.bytes ∙ (λ i. put_at (c.as_mut_slice.ensures.value i) (last i) bytes))
    (omega (arith, last, c.saturating_add-size.ensures, c.if-size.false)) last in
    record {
      ok = subst (λ (l : List ℕ). OnOk c.append_counted-in-None.result (c.append_counted-in-None.new.list.items ≡ l ++ bytes))
          back c.append_counted-in-None.ensures.ok;
      err = subst (λ (l : List ℕ). OnErr c.append_counted-in-None.result (c.append_counted-in-None.new.list.items ≡ l)) back
          c.append_counted-in-None.ensures.err;
    }
