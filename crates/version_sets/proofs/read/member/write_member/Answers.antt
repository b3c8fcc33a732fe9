use Rattle.std.proofs.Common.{◌≡◌, ◌∙◌, ◌+◌, ◌*◌, ◌++◌, ◌∷◌, List, ap, arith, length, refl, sym, ℕ}
use Rattle.std.proofs.lemmas.List.{length-map}
use Rattle.std.specs.List.{concat}
use Rattle.version_order.specs.{Keyed.PlainKeyed, Keyed.end_of, declared.ends.End.End, keys.Sinks.put_at}
use Rattle.version_sets.specs.{Comparison.bytes_of, Form.form_bytes, Form.number}
use Rattle.version_sets.proofs.lemmas.{Form.form_length, Members.put_form}
use Rattle.version_sets.proofs.read.member.write_member.Goals as goal

-- how long a set is by its ends
member_length : (order : ℕ) (version : PlainKeyed) (ends wanted : List End) → ends ≡ wanted
    → length (form_bytes order (bytes_of version wanted))
    ≡ 9 + 8 * length ends + length (concat (bytes_of version ends))
member_length order version ends wanted is =
    ap (λ ends. length (form_bytes order (bytes_of version ends))) (sym is)
    ∙ form_length order (bytes_of version ends)
    ∙ ap (λ n. 9 + 8 * n + length (concat (bytes_of version ends)))
    (length-map ends (λ end. end_of end version))

pub split_at_mut-head-requires : goal.split_at_mut-head-requires
split_at_mut-head-requires g c =
    let version = g.V.SchemeVersion.plain c.args.member.1 in
    omega (
      arith,
      c.requires,
      member_length c.args.order version _ _ c.ends-ends.ensures,
      c.split_at_mut-rest.ensures.back_len,
    )

pub split_at_mut-numbers-requires : goal.split_at_mut-numbers-requires
split_at_mut-numbers-requires g c =
    let version = g.V.SchemeVersion.plain c.args.member.1 in
    omega (
      arith,
      c.requires,
      member_length c.args.order version _ _ c.ends-ends.ensures,
      c.split_at_mut-rest.ensures.back_len,
      c.split_at_mut-head.ensures.back_len,
    )

pub write_ends-requires : goal.write_ends-requires
write_ends-requires g c κs =
    let version = g.V.SchemeVersion.plain c.args.member.1 in (
      (refl, tt),
      (
        c.split_at_mut-numbers.ensures.front_len,
        omega (
          arith,
          c.requires,
          member_length c.args.order version _ _ c.ends-ends.ensures,
          c.split_at_mut-rest.ensures.back_len,
          c.split_at_mut-head.ensures.back_len,
          c.split_at_mut-numbers.ensures.back_len,
        ),
      ),
    )

pub overflow_add-result-3 : goal.overflow_add-result-3
overflow_add-result-3 g c =
    let version = g.V.SchemeVersion.plain c.args.member.1 in
    omega (
      arith,
      c.requires,
      member_length c.args.order version _ _ c.ends-ends.ensures,
      c.write_ends.ensures.length,
      c.well_formed.1.1.0,
    )

pub returns-clause-bytes : goal.returns-clause-bytes
returns-clause-bytes g c =
    let version = g.V.SchemeVersion.plain c.args.member.1 in
    let order = c.args.order in
    let ends = bytes_of version c.ends-ends.result.now in
    let many = length-map c.ends-ends.result.now (λ end. end_of end version) in
    let front = c.split_at_mut-rest.result.0.now in
    let head = c.split_at_mut-head.result.0.now in
    let numbers = c.split_at_mut-numbers.result.0.now in
    let rest = c.split_at_mut-numbers.result.1.now in
    let room_is = c.split_at_mut-rest.ensures.value
    ∙ ap (λ (l : List ℕ). front ++ l) (c.split_at_mut-head.ensures.value
    ∙ ap (λ (l : List ℕ). head ++ l) c.split_at_mut-numbers.ensures.value) in
    let head_is = c.write_head.ensures ∙ ap (λ n. order ∷ number n) (sym many) in
    (λ i. front ++ (head_is i ++ (c.write_ends.ensures.numbers i ++ c.write_ends.ensures.bytes i)))
    ∙ sym (put_form order ends front head numbers rest c.args.start c.split_at_mut-rest.ensures.front_len
    c.split_at_mut-head.ensures.front_len
    (c.split_at_mut-numbers.ensures.front_len ∙ ap (λ n. 8 * n) (sym many)))
    ∙ (λ i. put_at (sym room_is i) c.args.start (form_bytes order (bytes_of version (c.ends-ends.ensures i))))

pub returns-clause-end : goal.returns-clause-end
returns-clause-end g c =
    let version = g.V.SchemeVersion.plain c.args.member.1 in
    omega (
      arith,
      member_length c.args.order version _ _ c.ends-ends.ensures,
      c.write_ends.ensures.length,
    )
