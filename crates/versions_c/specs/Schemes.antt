-- Versions of a scheme, and why a text is none.
use Rattle.std.specs.Prelude.{ℕ, List, Option, ℤ, Bool, true, false}
use Rattle.std.specs.Option.{option_map}
use Rattle.version_order.specs.{Facts.key_room, Keyed.PlainKeyed, Rules.Rules, Viable.IsLongestViable}
use Rattle.version_sets.specs.Reading.{Reading, read_set, set_room}
use Rattle.version_schemes.specs.declared.flaw.Mark.TheVariants.{Colon, Dot, Exclamation, Hyphen, Plus, Tilde, Underscore}
use Rattle.version_schemes.specs.declared.flaw.Reason.TheVariants.{Blank, Control, Empty, EmptyPart, LateColon, LeadingZero, NotAscii, NothingAfter, Other, Unfinished}
use Rattle.version_schemes.specs.{Flaw.is_version, Flaw.reason_at, Flaw.reason_text, declared.flaw.Reason.Reason, declared.scheme.Scheme.Scheme}
use Rattle.versions_c.specs.{Written.IsWritten, declared.status.TheConstants.IS_VERSION, declared.status.TheConstants.OK}
use Rattle.versions_c.specs.declared.flaw.TheConstants as reason

-- the key of the version that a text is
abbrev pub key_by : (List ℕ → Option PlainKeyed) → List ℕ → Option (List ℕ)
key_by read_as text = option_map (λ v. v.key) (read_as text)

-- what a text is read as, where a set is asked for, and the size of a buffer that is enough for the set
unfoldable pub reading_by : Rules → List ℕ → Reading
reading_by rules = read_set rules.read_as rules.facts.operators

abbrev pub room_by : Rules → List ℕ → ℕ
room_by rules = set_room (key_room rules.facts)

-- ---- what is answered where a text is no version of a scheme

-- the status by whether the text is a version, when what is wrong is asked for
abbrev pub wrong_status : Bool → ℤ
wrong_status true = IS_VERSION
wrong_status false = OK

-- the number of a reason
abbrev pub reason_code : Reason → ℕ
reason_code Empty = reason.EMPTY
reason_code (NothingAfter Hyphen) = reason.AFTER_HYPHEN
reason_code (NothingAfter Plus) = reason.AFTER_PLUS
reason_code (NothingAfter Dot) = reason.AFTER_DOT
reason_code (NothingAfter Colon) = reason.AFTER_COLON
reason_code (NothingAfter Underscore) = reason.AFTER_UNDERSCORE
reason_code (NothingAfter Tilde) = reason.AFTER_TILDE
reason_code (NothingAfter Exclamation) = reason.AFTER_EXCLAMATION
reason_code Unfinished = reason.UNFINISHED
reason_code Blank = reason.BLANK
reason_code Control = reason.CONTROL
reason_code NotAscii = reason.NOT_ASCII
reason_code EmptyPart = reason.EMPTY_PART
reason_code LeadingZero = reason.LEADING_ZERO
reason_code Other = reason.OTHER
reason_code LateColon = reason.LATE_COLON

-- Why a text could not become a version past some place is written into a buffer if it fits.
pub record IsWhyWritten (scheme : Scheme) (text old new : List ℕ) (len : ℕ) (status : ℤ) : Type 0 where
  pub place : ℕ
  pub longest : IsLongestViable (is_version scheme) text place
  pub written : IsWritten (reason_text (reason_at scheme text place)) old new len status
