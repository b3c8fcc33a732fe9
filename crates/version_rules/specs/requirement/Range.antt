-- The range of keys that a requirement, or a list of them, asks for.
use Rattle.std.specs.Prelude.{◌≡◌, ℕ, Bool, true, false, ◌&&◌, IsTrue, IfSome, List, [], ◌∷◌, ◌++◌, fold, if◌then◌else◌, Option, Some, None, not}
use Rattle.std.specs.{List.filter, Option.option_map_or, Option.option_map, Ordering.is_lt, declared.cmp.Ordering.TheVariants.Less}
use Rattle.version_order.specs.{Keyed.after, declared.ends.End.End, declared.ends.Kept.Kept}
use Rattle.version_order.specs.declared.ends.Kept.TheVariants.{All, ButLast, ButLastOrOnly, ThroughOther}
use Rattle.version_order.specs.keys.{Codes.items_bytes, Codes.number_bytes, Lists.bytes_cmp, Lists.split_last}
use Rattle.version_rules.specs.declared.op.Op.TheVariants.{Exact, Greater, GreaterEq, Less as LessThan, LessEq, Tilde, Caret, Wildcard}
use Rattle.version_rules.specs.{declared.ends.Ends.Ends, declared.kind.Kind.Kind, declared.kinds.Kinds.Kinds, declared.op.Op.Op, grammar.Versioning.versioning_kind, grammar.Versioning.PlainVersioning, grammar.Versioning.Complex}
use Rattle.version_rules.specs.{key.Key.key_of, key.Key.key_bytes, key.Key.Key, key.PartKey.PartKey, key.PartKey.part_bytes, requirement.Requirement.PlainRequirement, requirement.Requirements.requirements_text}
use Rattle.version_rules.specs.requirement.VersionMatch.{is_plain_zero}
use Rattle.version_rules.specs.declared.kind.Kind.TheVariants as kind
use Rattle.version_order.specs.declared.ends.End.TheVariants as end

-- keys from a low bound up to a high one, which may be missing, of versions of some kinds; if it is
-- exact, all these versions match
pub record PlainRange : Type 0 where
  pub low : List ℕ
  pub high : Option (List ℕ)
  pub kinds : Kinds
  pub is_exact : Bool

abbrev pub all_kinds : Kinds
all_kinds = record { ideal = true; general = true; complex = true }

abbrev pub no_kinds : Kinds
no_kinds = record { ideal = false; general = false; complex = false }

-- a kind alone
abbrev pub kind_alone : Kind → Kinds
kind_alone kind.Ideal = record { ideal = true; general = false; complex = false }
kind_alone kind.General = record { ideal = false; general = true; complex = false }
kind_alone kind.Complex = record { ideal = false; general = false; complex = true }

-- whether a kind is one of them
abbrev pub has_kind : Kinds → Kind → Bool
has_kind kinds kind.Ideal = kinds.ideal
has_kind kinds kind.General = kinds.general
has_kind kinds kind.Complex = kinds.complex

-- the kinds that are in both
abbrev pub common_kinds : Kinds → Kinds → Kinds
common_kinds a b =
    record {
      ideal =
          a.ideal && b.ideal;
      general = a.general && b.general;
      complex = a.complex && b.complex;
    }

-- bytes that are not below the low bound, and below the high one, if there is one
pub record AreBetween (low : List ℕ) (high : Option (List ℕ)) (bytes : List ℕ) : Type 0 where
  pub from_low : ¬ (bytes_cmp bytes low ≡ Less)
  pub below_high : IfSome high (λ bound. bytes_cmp bytes bound ≡ Less)

-- The version is in the range: its key lies between the bounds, and its kind is one of the kinds.
pub record IsIn (range : PlainRange) (v : PlainVersioning) : Type 0 where
  pub between : AreBetween range.low range.high (key_bytes (key_of v))
  pub of_kind : IsTrue (has_kind range.kinds (versioning_kind v))

-- the range of every version
abbrev pub everything : PlainRange
everything = record { low = []; high = None; kinds = all_kinds; is_exact = true }

-- a range of no version
abbrev pub nothing : PlainRange
nothing = record { low = 0 ∷ []; high = Some (0 ∷ []); kinds = no_kinds; is_exact = true }

-- the bytes of a version's key
abbrev pub bytes_of : PlainVersioning → List ℕ
bytes_of v = key_bytes (key_of v)

-- the bytes that the keys of an epoch begin with if their bodies begin with some parts
abbrev pub begun : ℕ → List PartKey → List ℕ
begun epoch parts = number_bytes epoch ++ items_bytes part_bytes parts

-- above every such key: after the parts a key has 1, 2 or 3
abbrev pub above_begun : ℕ → List PartKey → List ℕ
above_begun epoch parts = begun epoch parts ++ 4 ∷ []

-- the parts before the last one
abbrev pub but_last : List PartKey → List PartKey
but_last parts = option_map_or (λ split. split.0) (split_last parts) []

-- parts, or others where there are none
abbrev pub or_others : List PartKey → List PartKey → List PartKey
or_others [] others = others
or_others (part ∷ parts) others = part ∷ parts

-- the parts before the last one, or the only one
abbrev pub but_last_or_only : List PartKey → List PartKey
but_last_or_only parts = or_others (but_last parts) parts

-- the parts through the first one that is not a plain zero, or all if each is one
abbrev pub through_other : List PartKey → List PartKey
through_other [] = []
through_other (part ∷ parts) = part ∷ (if is_plain_zero part then through_other parts else [])

-- whether a kind is the strict one
abbrev pub is_strict : Kind → Bool
is_strict kind.Ideal = true
is_strict kind.General = false
is_strict kind.Complex = false

-- versions of a version's own kind whose epoch and kept parts are the same, and whose parts are not
-- below its own
abbrev pub alike_from : (List PartKey → List PartKey) → PlainVersioning → PlainRange
alike_from kept v = record {
  low = begun (key_of v).epoch (key_of v).body;
  high = Some (above_begun (key_of v).epoch (kept (key_of v).body));
  kinds = kind_alone (versioning_kind v);
  is_exact = is_strict (versioning_kind v);
}

-- what `~` or `^` asks for, by the parts that they keep: with a messy version they match nothing
abbrev pub series_range : (List PartKey → List PartKey) → PlainVersioning → PlainRange
series_range kept (Complex m) = nothing
series_range kept v = alike_from kept v

-- the range that an operator with a version asks for
abbrev pub op_range : Op → PlainVersioning → PlainRange
op_range Exact v =
    record {
      low =
          bytes_of v;
      high =
          Some (after (bytes_of v));
      kinds =
          kind_alone (versioning_kind v);
      is_exact = is_strict (versioning_kind v);
    }
op_range Greater v =
    record { low = after (bytes_of v); high = None; kinds = all_kinds; is_exact = true }
op_range GreaterEq v = record { low = bytes_of v; high = None; kinds = all_kinds; is_exact = true }
op_range LessThan v =
    record { low = []; high = Some (bytes_of v); kinds = all_kinds; is_exact = true }
op_range LessEq v =
    record { low = []; high = Some (after (bytes_of v)); kinds = all_kinds; is_exact = true }
op_range Tilde v = series_range but_last v
op_range Caret v = series_range through_other v
op_range Wildcard v = everything

-- the same without a version: `*` asks for every version, any other operator for none
abbrev pub range_without_version : Op → PlainRange
range_without_version Wildcard = everything
range_without_version op = nothing

-- the range that a requirement asks for
abbrev pub requirement_range : PlainRequirement → PlainRange
requirement_range r = option_map_or (op_range r.op) r.version (range_without_version r.op)

-- the later of two lists of bytes, and the earlier one
abbrev pub later : List ℕ → List ℕ → List ℕ
later a b = if is_lt (bytes_cmp a b) then b else a

abbrev pub earlier : List ℕ → List ℕ → List ℕ
earlier a b = if is_lt (bytes_cmp b a) then b else a

-- the earlier of two high bounds; a missing one is above all
abbrev pub earlier_high : Option (List ℕ) → Option (List ℕ) → Option (List ℕ)
earlier_high None b = b
earlier_high (Some a) None = Some a
earlier_high (Some a) (Some b) = Some (earlier a b)

-- what is in two ranges: from the later low, up to the earlier high, of the kinds in both; exact if
-- both are
abbrev pub common : PlainRange → PlainRange → PlainRange
common a b = record {
  low =
      later a.low b.low;
  high =
      earlier_high a.high b.high;
  kinds =
      common_kinds a.kinds b.kinds;
  is_exact = a.is_exact && b.is_exact;
}

-- the range that a list asks for: what is in the range of each member
abbrev pub range_of : List PlainRequirement → PlainRange
range_of list = fold (λ range r. common range (requirement_range r)) everything list

-- ---- the ends of ranges, by the key of a version

-- the parts that are kept of those of a body
abbrev pub kept_parts : Kept → List PartKey → List PartKey
kept_parts All parts = parts
kept_parts ButLast parts = but_last parts
kept_parts ButLastOrOnly parts = but_last_or_only parts
kept_parts ThroughOther parts = through_other parts

-- the bytes of an end, by the key of the version
abbrev pub end_bytes : End → Key → List ℕ
end_bytes end.Lowest k = []
end_bytes end.Zero k = 0 ∷ []
end_bytes end.Key k = key_bytes k
end_bytes end.AfterKey k = after (key_bytes k)
end_bytes (end.Begun kept) k = begun k.epoch (kept_parts kept k.body)
end_bytes (end.AboveBegun kept) k = above_begun k.epoch (kept_parts kept k.body)

-- whether an end needs none of the parts alone
abbrev pub is_whole : End → Bool
is_whole (end.Begun kept) = false
is_whole (end.AboveBegun kept) = false
is_whole _ = true

-- neither end needs the parts alone
abbrev pub AreWhole : Ends → Type 0
AreWhole ends = IsTrue (is_whole ends.low) × IfSome ends.high (λ high. IsTrue (is_whole high))

-- the range that has these ends, by the key of the version
abbrev pub range_from : Ends → Key → PlainRange
range_from ends k = record {
  low = end_bytes ends.low k;
  high = option_map (λ high. end_bytes high k) ends.high;
  kinds = ends.kinds;
  is_exact = ends.is_exact;
}

-- ---- the members of a list of requirements that the range of the list leaves open

-- the members that need not match each version in their range
abbrev pub inexact_members : List PlainRequirement → List PlainRequirement
inexact_members list = filter (λ r. not (requirement_range r).is_exact) list

-- their printed text, which is empty if there are none
abbrev pub inexact_text : List PlainRequirement → List ℕ
inexact_text list = requirements_text (inexact_members list)
