-- What the version in a tag is, and where it makes another answer than the whole text.
use Rattle.version_order.specs.texts.Front.{◌>>=◌}
use Rattle.std.specs.Prelude.{◌≡◌, ◌==◌, ◌&&◌, ◌||◌, ℕ, Bool, true, false, List, [], ◌∷◌, Option, Some, None, not, if◌then◌else◌}
use Rattle.std.specs.{Char.is_ascii_digit, Option.option_map_or, Ordering.is_lt, Ordering.is_eq, Ordering.is_gt, declared.cmp.Ordering.Ordering}
use Rattle.std.specs.declared.cmp.Ordering.TheVariants.{Less, Equal, Greater}
use Rattle.version_answers.specs.{One.IsNextBy, One.NoNextBy, Spelling.spelled, Two.holds, declared.one.next.Step.Step, declared.spelling.Naming.Naming, declared.spelling.Naming.TheVariants.Bare, declared.spelling.Naming.TheVariants.Tag}
use Rattle.version_answers.specs.declared.two.compare.Operator.{Operator}
use Rattle.version_rules.specs.grammar.Versioning.{PlainVersioning, versioning_of}
use Rattle.version_schemes.specs.{any.Order.PlainAny, any.Order.any_of, any.Order.any_precedence, declared.scheme.Scheme.Scheme}
use Rattle.version_tasks.specs.Tag.{version_in_tag}

-- whether a text is to be a version as a whole
abbrev pub is_bare : Naming → Bool
is_bare Bare = true
is_bare other = false

-- whether a text begins with a `v` and a digit
abbrev pub begins_with_v : List ℕ → Bool
begins_with_v (letter ∷ next ∷ rest) = (letter == 118 || letter == 86) && is_ascii_digit next
begins_with_v other = false

-- whether a text begins with a number, perhaps behind a `v`
abbrev pub begins_with_number : List ℕ → Bool
begins_with_number [] = false
begins_with_number (byte ∷ rest) = is_ascii_digit byte || begins_with_v (byte ∷ rest)

-- the version in a tag
abbrev pub tagged : Scheme → List ℕ → Option PlainAny
tagged scheme text = spelled (record { naming = Tag; scheme = scheme }) text

-- whether two answers are different
abbrev pub differ : Bool → Bool → Bool
differ one other = if one then not other else other

-- how two texts compare by the versions in their tags, if one of them begins with a `v` and both have one
abbrev pub order_of_tags : Scheme → List ℕ → List ℕ → Option Ordering
order_of_tags scheme first second = if begins_with_v first || begins_with_v second
    then (do
      v ← tagged scheme first
      w ← tagged scheme second
      Some (any_precedence v w))
    else None

-- whether two texts, one of which begins with a `v`, are versions and compare otherwise by those in their tags
abbrev pub compare_otherwise : Scheme → List ℕ → List ℕ → Bool
compare_otherwise scheme first second = is_another (order_of_tags scheme first second) (do
  v ← any_of scheme first
  w ← any_of scheme second
  Some (any_precedence v w))
  where
    is_another : Option Ordering → Option Ordering → Bool
    is_another (Some Less) (Some order) = not (is_lt order)
    is_another (Some Equal) (Some order) = not (is_eq order)
    is_another (Some Greater) (Some order) = not (is_gt order)
    is_another tags whole = false

-- whether one of two texts begins with a `v`, and the answer about the versions in their tags is another
abbrev pub is_tested_otherwise : Scheme → List ℕ → Operator → List ℕ → Bool → Bool
is_tested_otherwise scheme first operator second answer =
    option_map_or (λ order. differ (holds operator order) answer) (order_of_tags scheme first second) false

-- a text begins with a `v`, and no version comes next to it and one does to the version in its tag
pub record HasNextInTag (step : Step) (text : List ℕ) : Type 0 where
  pub whole : PlainVersioning
  pub tag : PlainVersioning
  pub next : PlainVersioning
  pub begins : begins_with_v text ≡ true
  pub whole_is : versioning_of text ≡ Some whole
  pub tag_is : version_in_tag text ≡ Some tag
  pub none : NoNextBy step whole
  pub some : IsNextBy step tag next
