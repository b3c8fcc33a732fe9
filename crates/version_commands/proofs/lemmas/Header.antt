-- Columns of names, put in the place of those by number.
use Rattle.std.proofs.Common.{◌≡◌, ◌∙◌, ◌<◌, ◌+◌, ◌-◌, ℕ, suc, map, Bool, false, List, [], ◌∷◌, Option, None, Some, Result, IsSomeAnd, length, arith, refl, sym, ap, Bor}
use Rattle.std.specs.List.{slice_get}
use Rattle.version_commands.specs.lines.Ordered.{first_unnamed, last_of, body_of, head_of, name_missing, names_line, options_in, ordered_in, versions_in, IsArranged, IsArrangedIn}
use Rattle.version_commands.specs.{Cause.ComesOfArranged, Cause.ComesOfInput, Run.takes_no_more, Run.Finishes}
use Rattle.version_runs.specs.{declared.faults.TaskFault.TaskFault, declared.faults.TaskFault.TheVariants.NoColumn, declared.options.LineOptions.LineOptions}
use Rattle.version_runs.specs.Place.{line_text}
use Rattle.version_lines.specs.{Inputs.plain_line, Inputs.texts_of, Inputs.PlainLine, declared.inputs.Line.Line}
use Rattle.version_commands.proofs.lemmas.{Faults.ends-weaker}
use Rattle.version_commands.proofs.lemmas.Ordered.{held-texts}
use Rattle.std.proofs.lemmas.List.{length-drop, length-take}
use Rattle.version_schemes.specs.any.Order.{PlainAny}

-- the last of some texts is that of the last element
pub last-text : {X : Type 0} (f : X → List ℕ) (xs : List X) (first : List ℕ) (x : X)
    → slice_get xs (length xs - 1) ≡ Some x → last_of first (map f xs) ≡ f x
last-text f [] first x is = cc
last-text f (y ∷ []) first x is = cc
last-text f (y ∷ z ∷ zs) first x is =
    let place : length (y ∷ z ∷ zs) - 1 ≡ suc (length (z ∷ zs) - 1) = omega arith in
    last-text f (z ∷ zs) (f y) x (ap (slice_get (y ∷ z ∷ zs)) (sym place) ∙ is)

-- the same of lines as they are held
pub last-held : (lines : List Line) (line : Line) → slice_get lines (length lines - 1) ≡ Some line
    → last_of [] (texts_of (map plain_line lines)) ≡ line.text.now
last-held lines line is =
    ap (last_of []) (sym (held-texts lines)) ∙ last-text (λ (line : Line). line.text.now) lines [] line is

-- lines whose header lacks a name are some, and where both parts are empty there are none
pub missing-some : (options : LineOptions) (lines : List PlainLine)
    → 0 < length (head_of options lines) + length (body_of options lines)
    → name_missing options lines ≡ first_unnamed options.names (names_line options lines)
missing-some options [] some = grind (arith, length-take, length-drop)
missing-some options (line ∷ lines) some = refl

pub missing-none : (options : LineOptions) (lines : List PlainLine) → head_of options lines ≡ []
    → body_of options lines ≡ [] → name_missing options lines ≡ None
missing-none options [] head body = refl
missing-none options (line ∷ lines) head body =
    absurd (omega (
      arith,
      ap length head,
      ap length body,
      length-take options.header (line ∷ lines),
      length-drop options.header (line ∷ lines),
    ))

-- the same by the parts of an input
module _ (options : LineOptions) (whole head body : List PlainLine) (head_is : head ≡ head_of options whole)
    (body_is : body ≡ body_of options whole) where
  pub header-is : (header : List ℕ) → header ≡ line_text options.place.crlf (last_of [] (texts_of head))
      → header ≡ names_line options whole
  header-is header is = grind arith

  pub missing-is : (header : List ℕ) → header ≡ names_line options whole → 0 < length head + length body
      → name_missing options whole ≡ first_unnamed options.names header
  missing-is header is some = grind (arith, missing-some)

  pub missing-not : head ≡ [] → body ≡ [] → name_missing options whole ≡ None
  missing-not no_head no_body = missing-none options whole (sym head_is ∙ no_head) (sym body_is ∙ no_body)

-- how a run over the parts of an input ends with the columns of the names in it
module _ (options : LineOptions) (keeps : PlainAny → Bool) (whole : List PlainLine) (has : name_missing options whole ≡ None) where
  faults-in : (Refuses : List ℕ → Type 0) (fault : TaskFault)
      → ComesOfArranged (versions_in (options_in options whole)) (options_in options whole) (body_of options whole) Refuses fault
      → ComesOfInput options whole Refuses fault
  faults-in Refuses fault comes = grind arith

  module _ {F T : Type 0} {puts : F → F → List ℕ → List ℕ → Type 0} {refuses : F → List ℕ → Type 0}
      {alters : F → F → List ℕ → Type 0} {files left : F} {old new : Option (List ℕ)} {result : Result T TaskFault} where
    pub finishes-in : (made : LineOptions) (head body : List PlainLine) → made ≡ options_in options whole
        → head ≡ head_of options whole → body ≡ body_of options whole
        → Finishes puts refuses alters files left old new made
        (IsArranged (versions_in made) made head body (ordered_in keeps made body)) (ComesOfArranged (versions_in made) made body)
        result
        → Finishes puts refuses alters files left old new options (IsArrangedIn options keeps whole)
        (ComesOfInput options whole) result
    finishes-in made head body made_is head_is body_is writes = grind (arith, ends-weaker, faults-in)

-- a missing name is to blame, and nothing was written
pub unnamed-faults : (options : LineOptions) (Refuses : List ℕ → Type 0) (whole : List PlainLine) (found : Option (Bor (List ℕ))) (fault : TaskFault)
    → name_missing options whole ≡ found → IsSomeAnd found (λ name. fault ≡ NoColumn name)
    → (takes_no_more fault ≡ false) × ComesOfInput options whole Refuses fault
unnamed-faults options Refuses whole None fault missing is = absurd is
unnamed-faults options Refuses whole (Some name) fault missing is = grind arith
