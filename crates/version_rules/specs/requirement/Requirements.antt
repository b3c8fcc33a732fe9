-- Lists of requirements.
use Rattle.std.specs.Prelude.{◌≡◌, ℕ, ◌<◌, eqb, List, [], ◌∷◌, length, map, Option, Some}
use Rattle.std.specs.{List.AllZip, List.join_with_byte, List.slice_split, Option.option_map, Option.IsSomeAnd}
use Rattle.version_order.specs.texts.Front.{◌>>=◌}
use Rattle.version_rules.specs.{grammar.Versioning.PlainVersioning, requirement.Matching.MatchesAll}
use Rattle.version_rules.specs.requirement.Requirement.{PlainRequirement, SpellsRequirement, requirement_of, requirement_text}

-- the byte between the members of a list
abbrev pub comma : ℕ
comma = 44

-- The text spells the list: one text or more with single commas between, each of which spells its
-- member.
pub record SpellsRequirements (text : List ℕ) (list : List PlainRequirement) : Type 0 where
  pub members : List (List ℕ)
  pub whole : text ≡ join_with_byte comma members
  pub members_are : AllZip SpellsRequirement members list
  pub some : 0 < length list

-- the printed text: the members joined by commas
abbrev pub requirements_text : List PlainRequirement → List ℕ
requirements_text list = join_with_byte comma (map requirement_text list)

-- the values of some options, or None if one of them is None
abbrev pub every : {X : Type 0} → List (Option X) → Option (List X)
every [] = Some []
every (reading ∷ readings) = reading >>= λ x. option_map (λ xs. x ∷ xs) (every readings)

-- the list that the whole text parses as, or None: it is cut at its commas, and each piece parses
-- as a member
abbrev pub requirements_of : List ℕ → Option (List PlainRequirement)
requirements_of text = every (map requirement_of (slice_split (λ b. eqb b comma) text))

-- ---- the members of a list of requirements, one before others, and whether they keep a version

-- a member before others, or None if either is None
abbrev pub before_others : Option PlainRequirement → Option (List PlainRequirement)
    → Option (List PlainRequirement)
before_others member others = member >>= λ r. option_map (λ list. r ∷ list) others

-- there is a version, and each member of the list matches it
abbrev pub Keeps : List PlainRequirement → Option PlainVersioning → Type 0
Keeps list spelled = IsSomeAnd spelled (MatchesAll list)
