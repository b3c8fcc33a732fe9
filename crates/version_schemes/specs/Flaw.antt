-- Why a text is no version: what stands where it could become one no more.
use Rattle.std.specs.Prelude.{◌≡◌, ◌==◌, ◌&&◌, ◌||◌, ◌-◌, ℕ, Bool, true, false, List, [], ◌∷◌, codes, if◌then◌else◌, nat_le, nat_lt, not, take, Option, None}
use Rattle.std.specs.{Char.is_ascii_digit, List.list_any, List.slice_get, Option.is_some, Option.option_map_or}
use Rattle.version_order.specs.texts.Bytes.{colon, dot, hyphen, plus, tilde, underscore}
use Rattle.version_order.specs.{Facts.is_mark as is_mark_of, Viable.IsLongestViable, texts.Front.is_digits}
use Rattle.version_schemes.specs.declared.flaw.Mark.TheVariants.{Colon, Dot, Exclamation, Hyphen, Plus, Tilde, Underscore}
use Rattle.version_schemes.specs.declared.flaw.Reason.TheVariants.{Blank, Control, Empty, EmptyPart, LateColon, LeadingZero, NotAscii, NothingAfter, Other, Unfinished}
use Rattle.version_schemes.specs.{Scheme.rules, declared.flaw.Reason.Reason, declared.scheme.Scheme.Scheme}

-- whether a text is a version
abbrev pub is_version : Scheme → List ℕ → Bool
is_version scheme text = is_some ((rules scheme).read_as text)

-- ---- what stands there

-- a mark of a scheme: it stands between parts, and begins none
abbrev pub is_mark : Scheme → ℕ → Bool
is_mark scheme b = is_mark_of (rules scheme).facts b

-- a space or a tab
abbrev pub is_blank : ℕ → Bool
is_blank b = b == 32 || b == 9

abbrev pub is_control : ℕ → Bool
is_control b = nat_lt b 32 || b == 127

-- the digit 0
abbrev pub is_zero : ℕ → Bool
is_zero b = b == 48

-- a text ends in a number with a leading zero: a 0 that no digit stands before, and digits up to the end. The first
-- argument is whether a digit stands before the text
abbrev pub ends_in_zero_led : Bool → List ℕ → Bool
ends_in_zero_led digit_before [] = false
ends_in_zero_led digit_before (byte ∷ text) =
    (not digit_before && (is_zero byte && is_digits text)) || ends_in_zero_led (is_ascii_digit byte) text

-- a number at its end keeps a text from being a version: as 01 in 1.0.0-01, which letters may follow
abbrev pub has_wrong_number : Scheme → List ℕ → Bool
has_wrong_number scheme text = not (is_version scheme text) && ends_in_zero_led false text

-- a text has this byte
abbrev pub has_byte : ℕ → List ℕ → Bool
has_byte wanted = list_any (λ byte. byte == wanted)

-- it has a colon after a hyphen, as in 1:1-2:3: what follows a hyphen may be a revision, which has none
abbrev pub has_late_colon : List ℕ → Bool
has_late_colon [] = false
has_late_colon (byte ∷ text) = if byte == hyphen then has_byte colon text else has_late_colon text

-- by a mark that a text can't go on with after what it begins with, or another byte
abbrev pub reason_of_mark : Scheme → List ℕ → ℕ → Reason
reason_of_mark scheme begun byte =
    if has_wrong_number scheme begun then LeadingZero else
    (if byte == colon && has_byte hyphen begun then LateColon else Other)

-- by the byte that a text can't go on with, what it begins with, and the last byte of that, if there is one
abbrev pub reason_of_byte : Scheme → List ℕ → Option ℕ → ℕ → Reason
reason_of_byte scheme begun last byte =
    if is_blank byte then Blank else
    (if is_control byte then Control else
    (if nat_le 128 byte then NotAscii else
    (if is_mark scheme byte && option_map_or (is_mark scheme) last true then EmptyPart else
    (if is_ascii_digit byte && option_map_or is_zero last false then LeadingZero else
    (if is_mark scheme byte then reason_of_mark scheme begun byte else
    Other)))))

-- by a text that ends in no mark, and has to go on
abbrev pub reason_unfinished : Scheme → List ℕ → Reason
reason_unfinished scheme text =
    if has_wrong_number scheme text then LeadingZero else
    (if has_late_colon text then LateColon else Unfinished)

-- by a text that has to go on, and its last byte
abbrev pub reason_after : Scheme → List ℕ → ℕ → Reason
reason_after scheme text last =
    if last == hyphen then NothingAfter Hyphen else
    (if last == plus then NothingAfter Plus else
    (if last == dot then NothingAfter Dot else
    (if last == colon then NothingAfter Colon else
    (if last == underscore then NothingAfter Underscore else
    (if last == tilde then NothingAfter Tilde else
    (if last == 33 then NothingAfter Exclamation else
    reason_unfinished scheme text))))))

-- the byte before a place
abbrev pub byte_before : List ℕ → ℕ → Option ℕ
byte_before text place = if place == 0 then None else slice_get text (place - 1)

-- why a text that could become a version up to a place is none
abbrev pub reason_at : Scheme → List ℕ → ℕ → Reason
reason_at scheme text place =
    option_map_or (reason_of_byte scheme (take place text) (byte_before text place)) (slice_get text place)
    (option_map_or (reason_after scheme text) (byte_before text place) Empty)

-- what keeps a text from being a version: how far it could become one, and why no further
abbrev pub IsFlaw : Scheme → List ℕ → ℕ → Reason → Type 0
IsFlaw scheme text place reason =
    (is_version scheme text ≡ false) × (IsLongestViable (is_version scheme) text place)
    × (reason ≡ reason_at scheme text place)

-- ---- what is said of it

abbrev pub reason_text : Reason → List ℕ
reason_text Empty = codes "nothing"
reason_text (NothingAfter Hyphen) = codes "nothing after the hyphen"
reason_text (NothingAfter Plus) = codes "nothing after the plus"
reason_text (NothingAfter Dot) = codes "nothing after the dot"
reason_text (NothingAfter Colon) = codes "nothing after the colon"
reason_text (NothingAfter Underscore) = codes "nothing after the underscore"
reason_text (NothingAfter Tilde) = codes "nothing after the tilde"
reason_text (NothingAfter Exclamation) = codes "nothing after the exclamation mark"
reason_text Unfinished = codes "an end too early"
reason_text Blank = codes "a blank"
reason_text Control = codes "a control character"
reason_text NotAscii = codes "a character past ASCII"
reason_text EmptyPart = codes "an empty part"
reason_text LeadingZero = codes "a number with a leading zero"
reason_text LateColon = codes "a colon after the hyphen"
reason_text Other = codes "a character that can't stand there"
