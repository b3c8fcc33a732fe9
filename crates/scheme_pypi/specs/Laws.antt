-- Laws of Python's versions: keys write their order, and none is empty.
use Rattle.std.proofs.Common.{◌≡◌, ◌++◌, ℕ, List, [], Option, None, Some, IfSome, ap, codes, refl}
use Rattle.std.specs.{FinMap.IsAntisymmetric, FinMap.nat_cmp-IsAntisymmetric, FinMap.slice_cmp-IsAntisymmetric, Option.option_cmp, Option.is_some, Ordering.nat_cmp, Ordering.ordering_then}
use Rattle.version_order.proofs.lemmas.Codes.{writes_list, writes_on, writes_then, compares_by_keys, some_key}
use Rattle.version_order.proofs.lemmas.NumberBytes.{number_writes, some_bytes, text_writes}
use Rattle.version_order.specs.{Keyed.by_key, Rules.ComparesByKeys, Viable.IsViable, keys.Codes.Writes, keys.Codes.list_bytes, keys.Codes.options_same, keys.Lists.bytes_cmp, keys.Lists.ended_cmp, keys.Lists.none_last_cmp}
use Rattle.version_order.specs.texts.Front.{optional, repeated, run_front}
use Rattle.scheme_pypi.specs.Order.{Alpha, Beta, Candidate, DevAlone, Final, Local, Number, Phase, PlainPypi, Text, dev_bytes, local_bytes, local_cmp, locals_bytes, number_or_end_bytes, phase_bytes, phase_cmp, pypi_bytes, pypi_cmp}
use Rattle.scheme_pypi.specs.Texts.{pypi_facts, pypi_rules, joined, pypi_of}

number_or_end_writes : Writes (option_cmp nat_cmp) number_or_end_bytes
number_or_end_writes = record { compares = go }
  where
    go : (a b : Option ℕ) (x y : List ℕ) → bytes_cmp (number_or_end_bytes a ++ x) (number_or_end_bytes b ++ y)
        ≡ ordering_then (option_cmp nat_cmp a b) (bytes_cmp x y)
    go None None x y = refl
    go None (Some n) x y = refl
    go (Some m) None x y = refl
    go (Some m) (Some n) x y = number_writes.compares m n x y

phase_writes : Writes phase_cmp phase_bytes
phase_writes = record { compares = go }
  where
    go : (a b : Phase) (x y : List ℕ)
        → bytes_cmp (phase_bytes a ++ x) (phase_bytes b ++ y) ≡ ordering_then (phase_cmp a b) (bytes_cmp x y)
    go DevAlone DevAlone x y = refl
    go DevAlone (Alpha n) x y = refl
    go DevAlone (Beta n) x y = refl
    go DevAlone (Candidate n) x y = refl
    go DevAlone Final x y = refl
    go (Alpha m) DevAlone x y = refl
    go (Alpha m) (Alpha n) x y = number_writes.compares m n x y
    go (Alpha m) (Beta n) x y = refl
    go (Alpha m) (Candidate n) x y = refl
    go (Alpha m) Final x y = refl
    go (Beta m) DevAlone x y = refl
    go (Beta m) (Alpha n) x y = refl
    go (Beta m) (Beta n) x y = number_writes.compares m n x y
    go (Beta m) (Candidate n) x y = refl
    go (Beta m) Final x y = refl
    go (Candidate m) DevAlone x y = refl
    go (Candidate m) (Alpha n) x y = refl
    go (Candidate m) (Beta n) x y = refl
    go (Candidate m) (Candidate n) x y = number_writes.compares m n x y
    go (Candidate m) Final x y = refl
    go Final DevAlone x y = refl
    go Final (Alpha n) x y = refl
    go Final (Beta n) x y = refl
    go Final (Candidate n) x y = refl
    go Final Final x y = refl

dev_writes : Writes (none_last_cmp nat_cmp) dev_bytes
dev_writes = record { compares = go }
  where
    go : (a b : Option ℕ) (x y : List ℕ) → bytes_cmp (dev_bytes a ++ x) (dev_bytes b ++ y)
        ≡ ordering_then (none_last_cmp nat_cmp a b) (bytes_cmp x y)
    go None None x y = refl
    go None (Some n) x y = refl
    go (Some m) None x y = refl
    go (Some m) (Some n) x y = number_writes.compares m n x y

local_writes : Writes local_cmp local_bytes
local_writes = record { compares = go }
  where
    go : (a b : Option Local) (x y : List ℕ)
        → bytes_cmp (local_bytes a ++ x) (local_bytes b ++ y) ≡ ordering_then (local_cmp a b) (bytes_cmp x y)
    go (Some (Number m)) (Some (Number n)) x y = number_writes.compares m n x y
    go (Some (Number m)) (Some (Text t)) x y = refl
    go (Some (Number m)) None x y = refl
    go (Some (Text s)) (Some (Number n)) x y = refl
    go (Some (Text s)) (Some (Text t)) x y = text_writes.compares s t x y
    go (Some (Text s)) None x y = refl
    go None (Some (Number n)) x y = refl
    go None (Some (Text t)) x y = refl
    go None None x y = refl

local_same : IsAntisymmetric local_cmp
local_same (Some (Number m)) (Some (Number n)) e = ap (λ (n : ℕ). Some (Number n)) (nat_cmp-IsAntisymmetric m n e)
local_same (Some (Number m)) (Some (Text t)) e = cc e
local_same (Some (Number m)) None e = cc e
local_same (Some (Text s)) (Some (Number n)) e = cc e
local_same (Some (Text s)) (Some (Text t)) e =
    ap (λ (text : List ℕ). Some (Text text)) (slice_cmp-IsAntisymmetric nat_cmp-IsAntisymmetric s t e)
local_same (Some (Text s)) None e = cc e
local_same None (Some (Number n)) e = cc e
local_same None (Some (Text t)) e = cc e
local_same None None e = refl

pieces_writes : Writes (ended_cmp local_cmp) (list_bytes local_bytes)
pieces_writes = writes_list local_same local_writes

locals_writes : Writes (option_cmp (ended_cmp local_cmp)) locals_bytes
locals_writes = record { compares = go }
  where
    go : (a b : Option (List Local)) (x y : List ℕ) → bytes_cmp (locals_bytes a ++ x) (locals_bytes b ++ y)
        ≡ ordering_then (option_cmp (ended_cmp local_cmp) a b) (bytes_cmp x y)
    go None None x y = refl
    go None (Some t) x y = refl
    go (Some s) None x y = refl
    go (Some s) (Some t) x y = pieces_writes.compares s t x y

pub pypi_writes : Writes pypi_cmp pypi_bytes
pypi_writes =
    writes_then (writes_on (λ (v : PlainPypi). v.epoch) number_writes)
    (writes_then (writes_on (λ (v : PlainPypi). v.release)
    (writes_list (options_same nat_cmp-IsAntisymmetric) number_or_end_writes))
    (writes_then (writes_on (λ (v : PlainPypi). v.phase) phase_writes)
    (writes_then (writes_on (λ (v : PlainPypi). v.post) number_or_end_writes)
    (writes_then (writes_on (λ (v : PlainPypi). v.dev) dev_writes)
    (writes_on (λ (v : PlainPypi). v.local) locals_writes)))))

-- no key is empty
pub pypi_some : (v : PlainPypi) → ¬ (pypi_bytes v ≡ [])
pypi_some v = some_bytes v.epoch (list_bytes number_or_end_bytes v.release ++ (phase_bytes v.phase
    ++ (number_or_end_bytes v.post ++ (dev_bytes v.dev ++ locals_bytes v.local))))

pub pypi_compares : ComparesByKeys pypi_rules
pypi_compares = compares_by_keys pypi_facts pypi_of (λ v. by_key (pypi_bytes v)) pypi_writes

-- a digit is a version
pub pypi_nothing : IsViable (λ begun. is_some (pypi_rules.read_as begun)) []
unfolding joined optional repeated run_front
pypi_nothing = record { rest = codes "0"; passes = refl }

pub pypi_some_key : (text : List ℕ) → IfSome (pypi_rules.read_as text) (λ v. ¬ (v.key ≡ []))
pypi_some_key text = some_key (λ v. by_key (pypi_bytes v)) (pypi_of text) pypi_some
