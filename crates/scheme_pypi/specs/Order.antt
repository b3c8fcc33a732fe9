-- Python's versions, and their order: PEP 440.
use Rattle.std.specs.Prelude.{ℕ, List, [], ◌∷◌, ◌++◌, Option, None, Some}
use Rattle.std.specs.{Option.option_cmp, Ordering.nat_cmp, Ordering.on, Ordering.then_cmp, declared.cmp.Ordering.Ordering}
use Rattle.version_order.specs.keys.{Codes.list_bytes, Codes.number_bytes, Codes.text_bytes, Lists.bytes_cmp, Lists.ended_cmp, Lists.none_last_cmp}

-- a number of a release, or its end, which comes before any
abbrev pub number_or_end_bytes : Option ℕ → List ℕ
number_or_end_bytes None = 1 ∷ []
number_or_end_bytes (Some n) = 2 ∷ number_bytes n

-- the phase of a version: a dev release of its own, a pre-release by its number, or none of these
pub data Phase : Type 0 where
  DevAlone : Phase
  Alpha : ℕ → Phase
  Beta : ℕ → Phase
  Candidate : ℕ → Phase
  Final : Phase

abbrev pub rank : Phase → ℕ
rank DevAlone = 1
rank (Alpha n) = 2
rank (Beta n) = 3
rank (Candidate n) = 4
rank Final = 5

abbrev pub phase_cmp : Phase → Phase → Ordering
phase_cmp (Alpha m) (Alpha n) = nat_cmp m n
phase_cmp (Beta m) (Beta n) = nat_cmp m n
phase_cmp (Candidate m) (Candidate n) = nat_cmp m n
phase_cmp a b = nat_cmp (rank a) (rank b)

abbrev pub phase_bytes : Phase → List ℕ
phase_bytes (Alpha n) = 2 ∷ number_bytes n
phase_bytes (Beta n) = 3 ∷ number_bytes n
phase_bytes (Candidate n) = 4 ∷ number_bytes n
phase_bytes other = rank other ∷ []

-- a dev release comes before its own
abbrev pub dev_bytes : Option ℕ → List ℕ
dev_bytes (Some n) = 1 ∷ number_bytes n
dev_bytes None = 2 ∷ []

-- a piece of a local version, in lower case, or its end: texts come before numbers
pub data Local : Type 0 where
  Number : ℕ → Local
  Text : List ℕ → Local

abbrev pub local_rank : Option Local → ℕ
local_rank None = 1
local_rank (Some (Text text)) = 2
local_rank (Some (Number n)) = 3

abbrev pub local_cmp : Option Local → Option Local → Ordering
local_cmp (Some (Number m)) (Some (Number n)) = nat_cmp m n
local_cmp (Some (Text s)) (Some (Text t)) = bytes_cmp s t
local_cmp a b = nat_cmp (local_rank a) (local_rank b)

abbrev pub local_bytes : Option Local → List ℕ
local_bytes (Some (Number n)) = 3 ∷ number_bytes n
local_bytes (Some (Text text)) = 2 ∷ text_bytes text
local_bytes None = 1 ∷ []

abbrev pub locals_bytes : Option (List Local) → List ℕ
locals_bytes None = 1 ∷ []
locals_bytes (Some pieces) = 2 ∷ list_bytes local_bytes pieces

-- a version, whose release has no zeros at its end
pub record PlainPypi : Type 0 where
  pub epoch : ℕ
  pub release : List ℕ
  pub phase : Phase
  pub post : Option ℕ
  pub dev : Option ℕ
  pub local : Option (List Local)

abbrev pub pypi_cmp : PlainPypi → PlainPypi → Ordering
pypi_cmp = then_cmp (on (λ v. v.epoch) nat_cmp) (then_cmp (on (λ v. v.release) (ended_cmp (option_cmp nat_cmp)))
    (then_cmp (on (λ v. v.phase) phase_cmp) (then_cmp (on (λ v. v.post) (option_cmp nat_cmp))
    (then_cmp (on (λ v. v.dev) (none_last_cmp nat_cmp)) (on (λ v. v.local) (option_cmp (ended_cmp local_cmp)))))))

abbrev pub pypi_bytes : PlainPypi → List ℕ
pypi_bytes v = number_bytes v.epoch ++ (list_bytes number_or_end_bytes v.release ++ (phase_bytes v.phase
    ++ (number_or_end_bytes v.post ++ (dev_bytes v.dev ++ locals_bytes v.local))))
