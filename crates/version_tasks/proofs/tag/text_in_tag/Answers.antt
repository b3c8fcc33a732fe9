use Rattle.std.proofs.Common.{◌≡◌, ◌∙◌, Bor, List, ℕ, Option, Some, None, false, true, refl, sym, ap}
use Rattle.std.specs.Option.{is_some, option_map}
use Rattle.version_order.specs.texts.Front.{◌>>=◌}
use Rattle.version_tasks.specs.{Next.after_separator, Tag.text_at_beginning, Tag.text_in_tag}
use Rattle.version_tasks.proofs.lemmas.Tag.{after_separator_shorter, begun, missed}
use Rattle.version_tasks.proofs.tag.text_in_tag.Goals as goal

-- the bytes of a slice, if there is one
abbrev bytes_of : Option (Bor (List ℕ)) → Option (List ℕ)
bytes_of = option_map (λ text. text.now)

is_some-bytes_of : (o : Option (Bor (List ℕ))) → is_some (bytes_of o) ≡ is_some o
is_some-bytes_of None = refl
is_some-bytes_of (Some text) = refl

pub returns-then-is_some : goal.returns-then-is_some
returns-then-is_some c =
    let some : is_some (text_at_beginning c.words.left.now) ≡ true =
    ap is_some (sym c.text_at_beginning-text.ensures)
    ∙ is_some-bytes_of c.text_at_beginning-text.result ∙ sym c.is_some.ensures
    ∙ c.if-is_some.true in
    c.text_at_beginning-text.ensures ∙ sym (begun c.words.left.now some) ∙ c.words.invariant

-- what follows the next separator decides
next : (left : List ℕ) (text : Option (Bor (List ℕ))) → bytes_of text ≡ text_at_beginning left
    → is_some text ≡ false → (after : Option (List ℕ)) → after ≡ after_separator left
    → (after >>= text_in_tag) ≡ text_in_tag left
next left text at_beginning none after is =
    ap (λ o. o >>= text_in_tag) is
    ∙ sym (missed left (ap is_some (sym at_beginning) ∙ is_some-bytes_of text ∙ none))

pub returns-in_err-left : goal.returns-in_err-left
returns-in_err-left c =
    ap bytes_of c.from_residual.ensures
    ∙ next c.words.left.now c.text_at_beginning-text.result c.text_at_beginning-text.ensures
    (sym c.is_some.ensures ∙ c.if-is_some.false) None c.in_err-left.ensures
    ∙ c.words.invariant

pub words-smaller : goal.words-smaller
words-smaller c =
    after_separator_shorter c.words.left.now c.in_ok-left.left.now (sym c.in_ok-left.ensures)

pub words-preserved : goal.words-preserved
words-preserved c =
    next c.words.left.now c.text_at_beginning-text.result c.text_at_beginning-text.ensures
    (sym c.is_some.ensures ∙ c.if-is_some.false) (Some c.in_ok-left.left.now) c.in_ok-left.ensures
    ∙ c.words.invariant
