-- The first line of some bytes, and the lines after it.
use Rattle.std.proofs.Common.{◌≡◌, ℕ, zero, suc, ◌<◌, ◌≤◌, true, false, List, [], ◌∷◌, ◌++◌, Option, None, Some, length, take, drop, get_or, append-nil, add-one, ◌+◌, ◌-◌, ap, ◌∙◌, arith, nat_eq, refl, sym, subst, take-append-drop, append_assoc, length-append}
use Rattle.std.proofs.lemmas.{Bool.cases_Bool, Bool.false_from_ne_true, List.take_all, List.take_rest}
use Rattle.std.proofs.{KnownBytes.Appends-trans, Math.ListN.drop_of_length-le}
use Rattle.std.specs.{Io.KnownBytes.Appends, Option.unwrap_or}
use Rattle.memchr.specs.Find.{is_byte, IsFirstByte}
use Rattle.version_lines.specs.Lines.{before_lines, ends_quoted, lines_from, lines_of, lines_output, plain_end, AppendsUpTo, AppendsProperBeginning}
use Rattle.version_lines.specs.{Csv.length_before, Csv.next, declared.csv.FieldState.FieldState, declared.csv.FieldState.TheVariants.Start, declared.lines.LineEnd.LineEnd}

-- ---- lines that each such byte ends

-- that is how lines end, if they are no CSV
pub plain-is : (end : LineEnd) → end.csv ≡ None → end ≡ plain_end end.byte
plain-is end none = ap (λ (csv : Option ℕ). let e : LineEnd = record { byte = end.byte; csv = csv } in e) none

-- the byte at a place ends a line
abbrev pub IsEndAt : ℕ → List ℕ → ℕ → Type 0
IsEndAt byte text k = nat_eq (get_or text k 0) byte ≡ true

-- this is the first line of a text, and what follows it
abbrev pub IsFirstLine : LineEnd → List ℕ → List ℕ → List ℕ → Type 0
IsFirstLine end text line rest = lines_of end text ≡ line ∷ lines_of end rest

module _ (end : ℕ) where
  -- a byte that ends no line goes before the first line
  lines_of-byte : (byte : ℕ) (bytes : List ℕ) → ¬ (nat_eq byte end ≡ true)
      → lines_of (plain_end end) (byte ∷ bytes) ≡ before_lines byte (lines_of (plain_end end) bytes)
  lines_of-byte byte bytes other = rw (false_from_ne_true _ other)

  -- the bytes before the first that ends a line are the first line
  pub lines_of-before : (text : List ℕ) (k : ℕ) → k < length text → IsEndAt end text k
      → ((j : ℕ) → 0 ≤ j → j < k → ¬ (IsEndAt end text j))
      → IsFirstLine (plain_end end) text (take k text) (drop (suc k) text)
  lines_of-before [] k inside here before = absurd (omega arith)
  lines_of-before (byte ∷ bytes) zero inside here before = rw here refl
  lines_of-before (byte ∷ bytes) (suc k) inside here before =
      let more = lines_of-before bytes k (omega arith) here (λ j least below. before (suc j) (omega arith) (omega arith)) in
      lines_of-byte byte bytes (before 0 (omega arith) (omega arith)) ∙ ap (before_lines byte) more

  -- bytes none of which ends a line are one line, if there are any
  pub lines_of-last : (text : List ℕ) → 0 < length text
      → ((j : ℕ) → 0 ≤ j → j < length text → ¬ (IsEndAt end text j))
      → IsFirstLine (plain_end end) text text []
  lines_of-last [] some none = absurd (omega arith)
  lines_of-last (byte ∷ []) some none =
      lines_of-byte byte [] (none 0 (omega arith) (omega arith))
  lines_of-last (byte ∷ next ∷ bytes) some none =
      let more = lines_of-last (next ∷ bytes) (omega arith) (λ j least below. none (suc j) (omega arith) (omega arith)) in
      lines_of-byte byte (next ∷ bytes) (none 0 (omega arith) (omega arith)) ∙ ap (before_lines byte) more

-- the first line goes to the first byte that ends lines, or to the end
pub plain-line : (end : LineEnd) (text : List ℕ) (place : Option ℕ) → end.csv ≡ None → 0 < length text
    → IsFirstByte (is_byte end.byte) text place
    → IsFirstLine end text (take (unwrap_or place (length text)) text) (drop (unwrap_or place (length text) + 1) text)
plain-line end text None plain some nowhere =
    rw (take_all (length text) text (omega arith)) (rw (drop_of_length-le text {i = length text + 1} (omega arith))
    (rw (plain-is end plain) (lines_of-last end.byte text some nowhere)))
plain-line end text (Some place) plain some (found, here) =
    rw (add-one place) (rw (plain-is end plain) (lines_of-before end.byte text place found.high here found.before))

-- in such lines nothing stands in quotes
never-quoted : (end : ℕ) (bytes : List ℕ) → ends_quoted (plain_end end) bytes ≡ false
never-quoted end [] = refl
never-quoted end (byte ∷ bytes) = grind (arith, cases_Bool, never-quoted end bytes)

pub plain-unquoted : (end : LineEnd) (bytes : List ℕ) → ((separator : ℕ) → end.csv ≡ Some separator → ⊥)
    → false ≡ ends_quoted end bytes
plain-unquoted end bytes other = by end.csv refl where
  by : (csv : Option ℕ) → end.csv ≡ csv → false ≡ ends_quoted end bytes
  by None plain = rw (plain-is end plain) (sym (never-quoted end.byte bytes))
  by (Some separator) is = absurd (other separator is)

-- ---- lines of CSV

-- the bytes before the first that ends a line outside quotes are the first line
abbrev pub IsFirstFrom : LineEnd → FieldState → List ℕ → List ℕ → List ℕ → Type 0
IsFirstFrom end state text line rest = lines_from end state text ≡ line ∷ lines_of end rest

abbrev csv_end : ℕ → ℕ → LineEnd
csv_end byte separator = record { byte = byte; csv = Some separator }

pub csv-is : (end : LineEnd) (separator : ℕ) → end.csv ≡ Some separator → end ≡ csv_end end.byte separator
csv-is end separator some = ap (λ (csv : Option ℕ). let e : LineEnd = record { byte = end.byte; csv = csv } in e) some

pub csv-first : (end separator : ℕ) (state : FieldState) (text : List ℕ) → 0 < length text
    → IsFirstFrom (csv_end end separator) state text (take (length_before end separator state text) text)
    (drop (suc (length_before end separator state text)) text)
csv-first end separator state [] some = absurd (omega (arith, some))
csv-first end separator state (byte ∷ []) some = grind (arith, cases_Bool)
csv-first end separator state (byte ∷ following ∷ bytes) some =
    grind (arith, cases_Bool, csv-first end separator (next separator state byte) (following ∷ bytes) (omega arith))

pub csv-line : (end : LineEnd) (separator k : ℕ) (text : List ℕ) → end.csv ≡ Some separator
    → 0 < length text → k ≡ length_before end.byte separator Start text
    → IsFirstFrom end Start text (take k text) (drop (k + 1) text)
csv-line end separator k text csv some is =
    rw (add-one k) (rw is (rw (csv-is end separator csv) (csv-first end.byte separator Start text some)))

pub length_before-within : (stop separator : ℕ) (state : FieldState) (text : List ℕ)
    → length_before stop separator state text ≤ length text
length_before-within stop separator state [] = omega arith
length_before-within stop separator state (byte ∷ bytes) =
    grind (arith, cases_Bool, length_before-within stop separator (next separator state byte) bytes)

-- ---- lines one after another

-- the output for some bytes is that for their first line, and then that for what follows it
pub lines_output-first : (end : LineEnd) (line_output : List ℕ → List ℕ) (text line after answer : List ℕ)
    → lines_of end text ≡ line ∷ lines_of end after → answer ≡ line_output line
    → lines_output line_output (lines_of end text)
    ≡ answer ++ lines_output line_output (lines_of end after)
lines_output-first end line_output text line after answer first answered = grind arith

-- nothing is written for nothing
pub lines_output-nil : (end : LineEnd) (line_output : List ℕ → List ℕ) (text waiting : List ℕ) → text ≡ []
    → waiting ++ lines_output line_output (lines_of end text) ≡ waiting
lines_output-nil end line_output text waiting nothing = grind (arith, append-nil)

-- ---- how successive writes add up to a prefix of the output

-- all of an output is written, and nothing is left
pub AppendsUpTo-all : (a b : Option (List ℕ)) (output : List ℕ) → Appends a b output
    → AppendsUpTo a b [] output
AppendsUpTo-all a b output all =
    record { written = output; whole = sym (append-nil output); appended = all }

-- two writes in a row leave what the second leaves
pub AppendsUpTo-trans : (a b c : Option (List ℕ)) (later left output : List ℕ)
    → AppendsUpTo a b left output → AppendsUpTo b c later left → AppendsUpTo a c later output
AppendsUpTo-trans a b c later left output first second = grind (arith, append_assoc, Appends-trans)

-- a write took the first n bytes of what was left
pub AppendsUpTo-taken : (a b c : Option (List ℕ)) (left output : List ℕ) (n : ℕ)
    → AppendsUpTo a b left output → Appends b c (take n left)
    → AppendsUpTo a c (take (length left - n) (drop n left)) output
AppendsUpTo-taken a b c left output n first taken =
    grind (arith, take-append-drop, take_rest, AppendsUpTo-trans)

-- more output leaves more
pub AppendsUpTo-more : (a b : Option (List ℕ)) (left output more : List ℕ)
    → AppendsUpTo a b left output → AppendsUpTo a b (left ++ more) (output ++ more)
AppendsUpTo-more a b left output more part = grind (arith, append_assoc)

-- a proper prefix of what was left
pub AppendsProperBeginning-after : (a b c : Option (List ℕ)) (left output : List ℕ)
    → AppendsUpTo a b left output → AppendsProperBeginning b c left
    → AppendsProperBeginning a c output
AppendsProperBeginning-after a b c left output first (later, missing, part) =
    (later, missing, AppendsUpTo-trans a b c later left output first part)

-- a proper prefix is also a proper prefix of every longer output
pub AppendsProperBeginning-more : (a b : Option (List ℕ)) (output more : List ℕ)
    → AppendsProperBeginning a b output → AppendsProperBeginning a b (output ++ more)
AppendsProperBeginning-more a b output more (left, missing, part) =
    let longer : 0 < length (left ++ more) = omega (arith, length-append left more) in
    (left ++ more, longer, AppendsUpTo-more a b left output more part)

-- the buffer and new bytes were written up to the buffer now, and more follows
pub AppendsUpTo-with_more : (a b : Option (List ℕ)) (waiting came now_waiting more : List ℕ)
    → AppendsUpTo a b now_waiting (waiting ++ came)
    → AppendsUpTo a b (now_waiting ++ more) (waiting ++ (came ++ more))
AppendsUpTo-with_more a b waiting came now_waiting more part =
    grind (arith, append_assoc, AppendsUpTo-more)

-- first bytes and then others were added
pub AppendsUpTo-then : (a b c : Option (List ℕ)) (waiting first between second left : List ℕ)
    → AppendsUpTo a b between (waiting ++ first) → AppendsUpTo b c left (between ++ second)
    → AppendsUpTo a c left (waiting ++ (first ++ second))
AppendsUpTo-then a b c waiting first between second left one two =
    AppendsUpTo-trans a b c left (between ++ second) (waiting ++ (first ++ second))
    (AppendsUpTo-with_more a b waiting first between second one) two

-- the same, if the others were not written whole
pub AppendsProperBeginning-then : (a b c : Option (List ℕ)) (waiting first between second : List ℕ)
    → AppendsUpTo a b between (waiting ++ first) → AppendsProperBeginning b c (between ++ second)
    → AppendsProperBeginning a c (waiting ++ (first ++ second))
AppendsProperBeginning-then a b c waiting first between second one part =
    AppendsProperBeginning-after a b c (between ++ second) (waiting ++ (first ++ second))
    (AppendsUpTo-with_more a b waiting first between second one) part

-- the same, if the first bytes were not written whole
pub AppendsProperBeginning-with_more : (a b : Option (List ℕ)) (waiting came more : List ℕ)
    → AppendsProperBeginning a b (waiting ++ came)
    → AppendsProperBeginning a b (waiting ++ (came ++ more))
AppendsProperBeginning-with_more a b waiting came more part =
    subst (AppendsProperBeginning a b) (append_assoc waiting came more)
    (AppendsProperBeginning-more a b (waiting ++ came) more part)

-- one output was written whole, and then another up to what is left of it
pub AppendsUpTo-append : (a b : Option (List ℕ)) (first second : List ℕ) → Appends a b first
    → AppendsUpTo a b second (first ++ second)
AppendsUpTo-append a b first second done =
    AppendsUpTo-more a b [] first second (AppendsUpTo-all a b first done)

-- two outputs were written whole, and the buffer is empty
pub AppendsUpTo-both : (a b c : Option (List ℕ)) (first second left : List ℕ) → Appends a b first
    → Appends b c second → left ≡ []
    → AppendsUpTo a c left (first ++ second)
AppendsUpTo-both a b c first second left one two nothing =
    subst (λ (l : List ℕ). AppendsUpTo a c l (first ++ second)) (sym nothing)
    (AppendsUpTo-trans a b c [] second (first ++ second) (AppendsUpTo-append a b first second one)
    (AppendsUpTo-all b c second two))

-- a first part of the output to come was added to the buffer
pub AppendsUpTo-step : (a b c : Option (List ℕ)) (waiting more came later left output : List ℕ)
    → AppendsUpTo a b (waiting ++ more) output → more ≡ came ++ later
    → AppendsUpTo b c left (waiting ++ came) → AppendsUpTo a c (left ++ later) output
AppendsUpTo-step a b c waiting more came later left output before parts next =
    grind (arith, AppendsUpTo-trans, AppendsUpTo-with_more)

-- the same, if that part was not written whole
pub AppendsProperBeginning-step : (a b c : Option (List ℕ))
    (waiting more came later output : List ℕ)
    → AppendsUpTo a b (waiting ++ more) output → more ≡ came ++ later
    → AppendsProperBeginning b c (waiting ++ came) → AppendsProperBeginning a c output
AppendsProperBeginning-step a b c waiting more came later output before parts next =
    AppendsProperBeginning-after a b c (waiting ++ more) output before
    (subst (λ (l : List ℕ). AppendsProperBeginning b c (waiting ++ l)) (sym parts)
    (AppendsProperBeginning-with_more b c waiting came later next))

-- ---- what the functions that find the first line are proved by

pub ruleset line_found = (csv-line, length_before-within, plain-line)

pub ruleset never_open = (plain-unquoted)
