use Rattle.std.proofs.Common.{◌≡◌, ◌∙◌, ◌+◌, ◌∷◌, ◌++◌, List, [], append-nil, append_assoc, ap, arith, false, get_or, length, length-append, sym, ℕ}
use Rattle.std.specs.Option.{IsSomeAnd}
use Rattle.version_sets.specs.{Form.form_bytes, Pile.merged, Pile.through, Set.by_rule, Set.ends_of}
use Rattle.version_sets.proofs.lemmas.Pile.{two_begin}
use Rattle.version_sets.proofs.read.pile.Pile.last_two.Goals as goal

pub returns-in_err-other-clause-two : goal.returns-in_err-other-clause-two
returns-in_err-other-clause-two c below last first before bytes begin =
    let pile = c.args.self.now in
    let order = pile.order in
    let sets = c.args.sets.now in
    let at = two_begin order below pile.starts pile.depth last first before begin in
    let second_is : c.start-second.result ≡ length (through order below (first ∷ before)) =
    c.start-second.ensures ∙ at.0 in
    let other : IsSomeAnd c.set_at-2.result (λ set. ends_of set ≡ last) =
    c.set_at-2.ensures.set order (through order below (first ∷ before)) [] last
    (bytes ∙ ap (λ (l : List ℕ). through order below (first ∷ before) ++ l) (sym (append-nil (form_bytes order last))))
    second_is
    (omega (
      arith,
      second_is,
      ap (λ (l : List ℕ). length l) bytes,
      length-append (through order below (first ∷ before)) (form_bytes order last),
    )) in
    absurd (rw c.in_err-other.was at other)

pub returns-clause-two : goal.returns-clause-two
returns-clause-two c below last first before bytes begin =
    let pile = c.args.self.now in
    let order = pile.order in
    let sets = c.args.sets.now in
    let at = two_begin order below pile.starts pile.depth last first before begin in
    let second_is : c.start-second.result ≡ length (through order below (first ∷ before)) =
    c.start-second.ensures ∙ at.0 in
    let first_is : c.start-first.result ≡ length (through order below before) =
    c.start-first.ensures ∙ ap (λ n. get_or pile.starts n 0) c.saturating_sub.ensures ∙ at.1 in
    let other : IsSomeAnd c.set_at-2.result (λ set. ends_of set ≡ last) =
    c.set_at-2.ensures.set order (through order below (first ∷ before)) [] last
    (bytes ∙ ap (λ (l : List ℕ). through order below (first ∷ before) ++ l) (sym (append-nil (form_bytes order last))))
    second_is
    (omega (
      arith,
      second_is,
      ap (λ (l : List ℕ). length l) bytes,
      length-append (through order below (first ∷ before)) (form_bytes order last),
    )) in
    let one : IsSomeAnd c.set_at.result (λ set. ends_of set ≡ first) =
    c.set_at.ensures.set order (through order below before) (form_bytes order last) first
    (bytes ∙ append_assoc (through order below before) (form_bytes order first) (form_bytes order last))
    first_is
    (omega (
      arith,
      first_is,
      second_is,
      length-append (through order below before) (form_bytes order first),
    )) in
    let one_is : ends_of c.in_ok-one.one ≡ first = rw c.in_ok-one.was at one in
    let other_is : ends_of c.in_ok-other.other ≡ last = rw c.in_ok-other.was at other in (
      first_is,
      c.of.ensures.left ∙ (λ i. merged (by_rule pile.rule) false false (one_is i) (other_is i)),
      c.of.ensures.ends ∙ (λ i. length (one_is i) + length (other_is i)),
    )
