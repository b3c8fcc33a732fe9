-- The version of Python that is read from a text.
use Rattle.version_order.specs.texts.Front.{run_value}
use Rattle.scheme_pypi.specs.declared.read.Phase.TheVariants.{Alpha, Beta, Candidate, DevAlone, Final}
use Rattle.scheme_pypi.specs.{Order.PlainPypi, Texts.pieces_of, Texts.release_of, declared.read.Phase.Phase, declared.version.Pypi.Pypi}
use Rattle.std.specs.Option.{option_map}
use Rattle.scheme_pypi.specs.Order as order

-- the phase by the digits of its number
abbrev pub plain_phase : Phase → order.Phase
plain_phase DevAlone = order.DevAlone
plain_phase (Alpha digits) = order.Alpha (run_value digits.now)
plain_phase (Beta digits) = order.Beta (run_value digits.now)
plain_phase (Candidate digits) = order.Candidate (run_value digits.now)
plain_phase Final = order.Final

abbrev pub plain_pypi : Pypi → PlainPypi
plain_pypi v = record {
  epoch = run_value v.epoch.now;
  release = release_of v.release.now;
  phase = plain_phase v.phase;
  post = option_map (λ digits. run_value digits.now) v.post;
  dev = option_map (λ digits. run_value digits.now) v.dev;
  local = option_map (λ pieces. pieces_of pieces.now) v.local;
}
