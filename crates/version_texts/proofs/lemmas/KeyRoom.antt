-- The length of a version's key: at most three bytes for each byte of its text, and five more.
use Rattle.version_texts.proofs.lemmas.scan.Spelled.{chunk_some, digits_from, identifier_metadata, some_digits}
use Rattle.std.proofs.lemmas.List.Elements.{All-drop, All-take, All-append, All-cons, All-nil}
use Rattle.std.proofs.lemmas.{Bool.Decides.nat_tests, List.length-append, List.length-take, List.take-append-drop, List.map-append}
use Rattle.std.specs.{Char.is_ascii_digit, Char.is_ascii_alphanumeric, Cmp.first_so, Cmp.second_so, List.position_or_len, List.prefix_len, List.take_while, List.list_all, Option.option_map_or, Option.unwrap_or, Str.Parse.digits_value}
use Rattle.version_order.proofs.lemmas.{Front.list_all-take_while, Front.all_weaker, NumberBytes.IsHigh, NumberBytes.text_length, NumberBytes.number_length, NumberBytes.list_length}
use Rattle.version_order.specs.texts.Grammar.{SpellsDotted, SpellsEach, SpellsOptional, Colon, Hyphen, Plus, Underscore, Tilde}
use Rattle.version_order.specs.declared.ends.{End.End, End.TheVariants.AboveBegun, End.TheVariants.AfterKey, End.TheVariants.Begun, Kept.Kept}
use Rattle.version_order.specs.declared.ends.Kept.TheVariants.{All, ButLast, ButLastOrOnly, ThroughOther}
use Rattle.version_order.specs.{keys.Codes.number_bytes, keys.Codes.text_bytes, keys.Codes.items_bytes, texts.Bytes.dot, texts.Bytes.hyphen, texts.Bytes.is_identifier_byte, texts.Bytes.is_metadata_byte}
use Rattle.version_order.specs.texts.Front.{number_front, starts_with_digit, is_digits}
use Rattle.version_rules.specs.grammar.Chunk.{Numeric, Alphanum, PlainChunk, SpellsChunk, SpellsChunkOf, SpellsPart, chunk_text, SpellsNumeral}
use Rattle.version_rules.specs.grammar.MChunk.{Digits, Rev, Plain, PlainMChunk, SpellsMChunk, mchunk_text}
use Rattle.version_rules.specs.grammar.Mess.{Further, PlainMess, Section, SpellsFurther, SpellsMess, SpellsSection}
use Rattle.version_rules.specs.grammar.Versioning.{PlainVersioning, Ideal, General, Complex, SpellsVersioning, versioning_of}
use Rattle.version_rules.specs.key.Key.{key_behind_epoch, key_of, key_of_mess, key_of_sections, key_of_semver, key_of_version, plain, section_epoch, sections_tail, Key, key_bytes, Bare, Released, Tail, section_bytes, tail_bytes}
use Rattle.version_rules.specs.key.PartKey.{part_bytes, part_key, suffix_bytes, suffix_of, PartKey, chunk_parts, parts_bytes, section_parts, numbered_bytes, split_bytes, split_of}
use Rattle.version_rules.specs.requirement.Range.{end_bytes, kept_parts, begun, but_last, or_others, through_other}
use Rattle.version_rules.specs.grammar.{Body.PlainBody, Body.SpellsBody, Body.SpellsRelease, Last.last_text, SemVer.PlainSemVer, SemVer.SpellsSemVer, Version.PlainVersion, Version.SpellsEpoch, Version.SpellsVersion}
use Rattle.version_rules.specs.order.Parts.{chunk_bytes, release_bytes}
use Rattle.version_rules.proofs.lemmas.{Chunk.part_printed, Grammar.of_mchunk, Grammar.of_numeral, Last.last_printed, MChunk.mchunk_printed, Versioning.versioning_of-spells}
use Rattle.version_texts.specs.Key.{room_for}
use Rattle.std.proofs.Common.{◌≡◌, ◌∙◌, ◌+◌, ◌*◌, ◌<◌, ◌≤◌, ℕ, suc, Bool, true, false, List, [], ◌∷◌, length, take, drop, Some, None, refl, sym, ap, arith, if◌then◌else◌, ◌++◌, map, Option, rules}

-- ---- the length of a part's bytes: at most three for each byte of its text, and one more

-- ---- splits

-- a prefix and the rest are as long as the whole
parted : (n : ℕ) (text : List ℕ) → length (take n text) + length (drop n text) ≡ length text
parted n text =
    sym (length-append (take n text) (drop n text)) ∙ ap length (take-append-drop n text)

-- the digits that a text begins with, and the rest
abbrev digits_front : List ℕ → List ℕ
digits_front text = take_while is_ascii_digit text

abbrev digits_rest : List ℕ → List ℕ
digits_rest text = drop (prefix_len is_ascii_digit text) text

run_is_some : (text : List ℕ) → starts_with_digit text ≡ true
    → 0 < length (take_while is_ascii_digit text)
run_is_some [] e = cc e
run_is_some (b ∷ text) e = grind (arith, length-take)

run_ends : (text : List ℕ) → starts_with_digit (drop (prefix_len is_ascii_digit text) text) ≡ false
run_ends [] = refl
run_ends (b ∷ text) = by (is_ascii_digit b) refl (run_ends text)
  where
    by : (digit : Bool) → is_ascii_digit b ≡ digit
        → starts_with_digit (drop (prefix_len is_ascii_digit text) text) ≡ false
        → starts_with_digit (drop (prefix_len is_ascii_digit (b ∷ text)) (b ∷ text)) ≡ false
    by true e ends =
        let one_more : 1 + prefix_len is_ascii_digit text ≡ suc (prefix_len is_ascii_digit text) =
        omega arith in
        rw (e, one_more) ends
    by false e ends = rw e e

numbered_length : (text : List ℕ) → IsHigh text
    → length (numbered_bytes (number_front text)) ≤ 3 * length text + 1
numbered_length text high = by (starts_with_digit text) refl
  where
    by : (starts : Bool) → starts_with_digit text ≡ starts
        → length (numbered_bytes
        (if starts then Some (digits_value 10 (digits_front text), digits_rest text) else None))
        ≤ 3 * length text + 1
    by false e = omega arith
    by true e =
        let number = number_length (digits_front text) (list_all-take_while is_ascii_digit text)
        (run_is_some text e) in
        let behind = text_length (digits_rest text)
        (All-drop (λ b. 2 ≤ b) (prefix_len is_ascii_digit text) text high) in
        omega (
          arith,
          number,
          behind,
          run_is_some text e,
          parted (prefix_len is_ascii_digit text) text,
          length-append (number_bytes (digits_value 10 (digits_front text)))
              (text_bytes (digits_rest text)),
        )

first_stays : (text : List ℕ) → starts_with_digit text ≡ false → 0 < length text
    → 0 < length (take (position_or_len is_ascii_digit text) text)
first_stays [] e some = some
first_stays (b ∷ text) e some = grind (arith, length-take)

pub split_length : (text : List ℕ) → IsHigh text → starts_with_digit text ≡ false → 0 < length text
    → length (split_bytes (split_of text)) ≤ 3 * length text
split_length text high word some =
    let n = position_or_len is_ascii_digit text in
    let before = text_length (take n text) (All-take (λ b. 2 ≤ b) n text high) in
    let numbered = numbered_length (drop n text) (All-drop (λ b. 2 ≤ b) n text high) in
    omega (
      arith,
      before,
      numbered,
      first_stays text word some,
      parted n text,
      length-append (text_bytes (take n text)) (numbered_bytes (number_front (drop n text))),
    )

-- ---- parts

suffix_length : (text : List ℕ) → IsHigh text → starts_with_digit text ≡ false
    → length (suffix_bytes (suffix_of text)) ≤ 3 * length text + 1
suffix_length [] high word = omega arith
suffix_length (b ∷ text) high word = search (rules, split_length)

pub part_length : (text : List ℕ) → IsHigh text → 0 < length text
    → length (part_bytes (Some (part_key text))) ≤ 3 * length text + 1
part_length text high some = by (starts_with_digit text) refl
  where
    by : (starts : Bool) → starts_with_digit text ≡ starts
        → length (part_bytes (Some (part_key text))) ≤ 3 * length text + 1
    by false e =
        let split = split_length text high e some in
        rw e (omega (arith, split))
    by true e =
        let number = number_length (digits_front text) (list_all-take_while is_ascii_digit text)
        (run_is_some text e) in
        let suffix = suffix_length (digits_rest text)
        (All-drop (λ b. 2 ≤ b) (prefix_len is_ascii_digit text) text high) (run_ends text) in
        let whole = length-append (number_bytes (digits_value 10 (digits_front text)))
        (suffix_bytes (suffix_of (digits_rest text))) in
        rw e (omega (
          arith,
          number,
          suffix,
          whole,
          run_is_some text e,
          parted (prefix_len is_ascii_digit text) text,
        ))

-- ---- versions have no bytes below 2

high_byte : (b : ℕ) → is_metadata_byte b ≡ true → 2 ≤ b
high_byte b h = grind (arith, nat_tests)

high_run : (text : List ℕ) → list_all is_metadata_byte text ≡ true → IsHigh text
high_run [] all = All-nil (λ b. 2 ≤ b)
high_run (b ∷ text) all =
    All-cons (λ c. 2 ≤ c) b text (high_byte b (first_so _ _ all))
    (high_run text (second_so _ _ all))

high_together : (a b : List ℕ) → IsHigh a → IsHigh b → IsHigh (a ++ b)
high_together = All-append (λ b. 2 ≤ b)

alphanumeric_byte : (b : ℕ) → is_ascii_alphanumeric b ≡ true → is_metadata_byte b ≡ true
alphanumeric_byte b h = rw h refl

chunk_high : (test : ℕ → Bool) → ((b : ℕ) → test b ≡ true → is_metadata_byte b ≡ true)
    → (text : List ℕ) (chunk : PlainChunk) → SpellsChunkOf test text chunk → IsHigh text
chunk_high test passes text (Numeric n) s =
    of_numeral IsHigh (All-nil (λ b. 2 ≤ b)) high_together high_run text n s
chunk_high test passes text (Alphanum run) s =
    rw s.0 (high_run run (all_weaker test is_metadata_byte passes run s.1))

-- ---- pieces

numeral_some : (text : List ℕ) (n : ℕ) → SpellsNumeral text n → 0 < length text
numeral_some text n s = some_digits text (digits_from text n s)

numeral_length : (text : List ℕ) (n : ℕ) → SpellsNumeral text n
    → length (number_bytes n) ≤ 2 * length text
numeral_length text n s = rw (← s.value) (number_length text s.digits (numeral_some text n s))

part_spelled : (text : List ℕ) (part : PlainChunk) → SpellsPart text part
    → length (part_bytes (Some (part_key (chunk_text part)))) ≤ 3 * length text + 1
part_spelled text part s =
    grind (arith, chunk_high, alphanumeric_byte, part_printed, part_length, chunk_some)

mchunk_some : (text : List ℕ) (chunk : PlainMChunk) → SpellsMChunk text chunk → 0 < length text
mchunk_some text (Digits value kept) s = some_digits text s.1.digits
mchunk_some text (Rev value kept) s = rw s.1.1 (omega arith)
mchunk_some [] (Plain kept) s = absurd (s.1.some refl)
mchunk_some (b ∷ text) (Plain kept) s = omega arith

mchunk_spelled : (text : List ℕ) (chunk : PlainMChunk) → SpellsMChunk text chunk
    → length (part_bytes (Some (part_key (mchunk_text chunk)))) ≤ 3 * length text + 1
mchunk_spelled text chunk s =
    let high = of_mchunk IsHigh (All-nil (λ b. 2 ≤ b)) high_together high_run text chunk s in
    rw (mchunk_printed text chunk s) (part_length text high (mchunk_some text chunk s))

chunk_spelled : (text : List ℕ) (chunk : PlainChunk) → SpellsChunk text chunk
    → length (chunk_bytes (Some chunk)) ≤ 3 * length text + 1
chunk_spelled text (Numeric n) s = omega (arith, numeral_length text n s, numeral_some text n s)
chunk_spelled text (Alphanum run) s =
    let high = chunk_high is_identifier_byte identifier_metadata text (Alphanum run) s in
    let some = chunk_some is_identifier_byte text (Alphanum run) s in
    rw (← s.0) (omega (arith, text_length text high, some))

-- ---- lists

-- pieces between dots
items_length : {X K : Type 0} (code : Option K → List ℕ) (key : X → K)
    (Spells : List ℕ → X → Type 0)
    → ((text : List ℕ) (x : X) → Spells text x → length (code (Some (key x))) ≤ 3 * length text + 1)
    → (text : List ℕ) (xs : List X) → SpellsDotted Spells text xs
    → length (items_bytes code (map key xs)) ≤ 3 * length text + 1
unfolding SpellsDotted
items_length code key Spells each text [] s = absurd s
items_length code key Spells each text (x ∷ []) s =
    omega (arith, each text x s, length-append (code (Some (key x))) [])
items_length code key Spells each text (x ∷ y ∷ xs) s =
    let first = each s.0 x s.3 in
    let others = items_length code key Spells each s.1 (y ∷ xs) s.4 in
    let all = length-append (code (Some (key x))) (items_bytes code (map key (y ∷ xs))) in
    let long : length text ≡ length s.0 + length (dot ∷ s.1) =
    ap length s.2 ∙ length-append s.0 (dot ∷ s.1) in
    omega (arith, first, others, all, long)

section_length : (text : List ℕ) (section : Section) → SpellsSection text section
    → length (parts_bytes (section_parts section)) ≤ 3 * length text + 2
section_length text section s = grind (arith, items_length, mchunk_spelled, list_length)

release_length : (text : List ℕ) (chunks : List PlainChunk) → SpellsRelease text chunks
    → length (release_bytes chunks) ≤ 3 * length text + 2
release_length text chunks s =
    let items = items_length chunk_bytes (λ chunk. chunk) SpellsChunk chunk_spelled text chunks s in
    omega (arith, items, same_items chunks, list_length chunk_bytes chunks)
  where
    same_items : (chunks : List PlainChunk)
        → length (items_bytes chunk_bytes (map (λ chunk. chunk) chunks))
        ≡ length (items_bytes chunk_bytes chunks)
    same_items [] = refl
    same_items (chunk ∷ chunks) =
        let one = length-append (chunk_bytes (Some chunk))
        (items_bytes chunk_bytes (map (λ chunk. chunk) chunks)) in
        let other = length-append (chunk_bytes (Some chunk)) (items_bytes chunk_bytes chunks) in
        omega (arith, one, other, same_items chunks)

body_length : (text : List ℕ) (body : PlainBody) → SpellsBody text body
    → length (parts_bytes (chunk_parts body.0 ++ part_key (last_text body.1) ∷ []))
    ≤ 3 * length text + 2
body_length text body s =
    let key = λ (chunk : PlainChunk). part_key (chunk_text chunk) in
    let items = items_length part_bytes key SpellsPart part_spelled text
    (body.0 ++ s.part ∷ []) s.parts_are in
    let keys : map key (body.0 ++ s.part ∷ [])
    ≡ chunk_parts body.0 ++ part_key (last_text body.1) ∷ [] =
    map-append key body.0 (s.part ∷ [])
    ∙ ap (λ (l : List ℕ). chunk_parts body.0 ++ part_key l ∷ [])
    (sym (last_printed s.part body.1 s.last_is)) in
    let same = ap (λ (ks : List PartKey). length (items_bytes part_bytes ks)) keys in
    omega (
      arith,
      items,
      same,
      list_length part_bytes (chunk_parts body.0 ++ part_key (last_text body.1) ∷ []),
    )

-- ---- tails

tail_length : (Of : List PlainChunk → Tail)
    → ((chunks : List PlainChunk)
    → length (tail_bytes (Of chunks)) ≡ length (release_bytes chunks) + 1)
    → (text : List ℕ) (o : Option (List PlainChunk)) → SpellsOptional hyphen SpellsRelease text o
    → length (tail_bytes (option_map_or Of o Bare)) ≤ 3 * length text + 1
unfolding SpellsOptional
tail_length Of one_more text None s = omega arith
tail_length Of one_more text (Some chunks) s = grind (arith, release_length, one_more)

further_length : (text : List ℕ) (further : Further) → SpellsFurther text further
    → length (section_bytes (Some (section_parts further.1))) ≤ 3 * length text
further_length text further s = grind (arith, section_length)

all_further_length : (text : List ℕ) (more : List Further) → SpellsEach SpellsFurther text more
    → length (items_bytes section_bytes (map (λ (further : Further). section_parts further.1) more))
    ≤ 3 * length text
unfolding SpellsEach
all_further_length text [] s = omega arith
all_further_length text (further ∷ more) s =
    let first = further_length s.0 further s.3 in
    let others = all_further_length s.1 more s.4 in
    let all = length-append (section_bytes (Some (section_parts further.1)))
    (items_bytes section_bytes (map (λ (f : Further). section_parts f.1) more)) in
    let long : length text ≡ length s.0 + length s.1 = ap length s.2 ∙ length-append s.0 s.1 in
    omega (arith, first, others, all, long)

sections_length : (text : List ℕ) (more : List Further) → SpellsEach SpellsFurther text more
    → length (tail_bytes (sections_tail more)) ≤ 3 * length text + 2
sections_length text [] s = omega arith
sections_length text (further ∷ more) s =
    let items = all_further_length text (further ∷ more) s in
    omega (
      arith,
      items,
      list_length section_bytes (map (λ (f : Further). section_parts f.1) (further ∷ more)),
    )

-- ---- keys

pub key_length : (epoch : ℕ) (body : List PartKey) (tail : Tail)
    → length (key_bytes (record { epoch = epoch; body = body; tail = tail }))
    ≡ length (number_bytes epoch) + (length (parts_bytes body) + length (tail_bytes tail))
key_length epoch body tail = grind (arith, length-append)

plain_length : (text : List ℕ) (n : ℕ) → SpellsNumeral text n
    → length (part_bytes (Some (plain n))) ≤ 3 * length text + 1
plain_length text n s = grind (arith, numeral_length, numeral_some, length-append)

semver_length : (text : List ℕ) (v : PlainSemVer) → SpellsSemVer text v
    → length (key_bytes (key_of_semver v)) ≤ room_for (length text)
semver_length text v s = grind (arith, plain_length, tail_length, length-append, key_length)

epoch_length : (text : List ℕ) (o : Option ℕ) → SpellsEpoch text o
    → length (number_bytes (unwrap_or o 0)) ≤ 3 * length text + 1
unfolding SpellsEpoch
epoch_length text None s = omega arith
epoch_length text (Some n) s = grind (arith, length-append, numeral_length)

version_length : (text : List ℕ) (v : PlainVersion) → SpellsVersion text v
    → length (key_bytes (key_of_version v)) ≤ room_for (length text)
version_length text v s =
    let epoch = epoch_length s.epoch v.epoch s.epoch_is in
    let body = body_length s.body (v.chunks, v.last) s.body_is in
    let tail = tail_length Released (λ chunks. omega arith) s.release v.release s.release_is in
    let whole = key_length (unwrap_or v.epoch 0)
    (chunk_parts v.chunks ++ part_key (last_text v.last) ∷ [])
    (option_map_or Released v.release Bare) in
    let behind_body = length-append s.body (s.release ++ s.meta) in
    let behind_epoch =
    ap length s.whole ∙ length-append s.epoch (s.body ++ (s.release ++ s.meta)) in
    omega (
      arith,
      epoch,
      body,
      tail,
      whole,
      length-append s.release s.meta,
      behind_body,
      behind_epoch,
    )

-- a section that is an epoch
section_epoch_length : (text : List ℕ) (section : Section) (epoch : ℕ) → SpellsSection text section
    → section_epoch section ≡ Some epoch → length (number_bytes epoch) ≤ 2 * length text
unfolding SpellsDotted
section_epoch_length text [] epoch s e = absurd s
section_epoch_length text (chunk ∷ []) epoch s e = by (is_digits (mchunk_text chunk)) refl e
  where
    by : (digits : Bool) → is_digits (mchunk_text chunk) ≡ digits
        → (if digits then Some (digits_value 10 (mchunk_text chunk)) else None) ≡ Some epoch
        → length (number_bytes epoch) ≤ 2 * length text
    by false is known = cc known
    by true is known =
        let value : digits_value 10 (mchunk_text chunk) ≡ epoch = cc known in
        let number = number_length (mchunk_text chunk)
        (second_so (starts_with_digit (mchunk_text chunk)) _ is)
        (some_digits (mchunk_text chunk) is) in
        let long : length (mchunk_text chunk) ≡ length text =
        ap length (mchunk_printed text chunk s) in
        rw (← value) (omega (arith, number, long))
section_epoch_length text (chunk ∷ next ∷ section) epoch s e = cc e

-- sections, the first of which is the body
bare_length : (first_text more_text : List ℕ) (first : Section) (more : List Further)
    → SpellsSection first_text first → SpellsEach SpellsFurther more_text more
    → length (key_bytes (key_of_sections 0 first more))
    ≤ 3 * (length first_text + length more_text) + 5
bare_length first_text more_text first more s each =
    omega (
      arith,
      section_length first_text first s,
      sections_length more_text more each,
      key_length 0 (section_parts first) (sections_tail more),
    )

behind_length : (may_be_epoch : Option ℕ) (first_text more_text : List ℕ) (first : Section)
    (more : List Further) → section_epoch first ≡ may_be_epoch
    → SpellsSection first_text first → SpellsEach SpellsFurther more_text more
    → length (key_bytes (key_behind_epoch may_be_epoch first more))
    ≤ 3 * (length first_text + length more_text) + 5
unfolding SpellsEach
behind_length None first_text more_text first more e s each =
    bare_length first_text more_text first more s each
behind_length (Some epoch) first_text more_text first [] e s each =
    bare_length first_text more_text first [] s each
behind_length (Some epoch) first_text more_text first ((Colon, body) ∷ more) e s each =
    grind (arith, section_epoch_length, section_length, sections_length, length-append, key_length)
behind_length (Some epoch) first_text more_text first ((Hyphen, body) ∷ more) e s each =
    bare_length first_text more_text first ((Hyphen, body) ∷ more) s each
behind_length (Some epoch) first_text more_text first ((Plus, body) ∷ more) e s each =
    bare_length first_text more_text first ((Plus, body) ∷ more) s each
behind_length (Some epoch) first_text more_text first ((Underscore, body) ∷ more) e s each =
    bare_length first_text more_text first ((Underscore, body) ∷ more) s each
behind_length (Some epoch) first_text more_text first ((Tilde, body) ∷ more) e s each =
    bare_length first_text more_text first ((Tilde, body) ∷ more) s each

mess_length : (text : List ℕ) (m : PlainMess) → SpellsMess text m
    → length (key_bytes (key_of_mess m)) ≤ room_for (length text)
mess_length text m s = grind (arith, behind_length, length-append)

pub spelled_length : (text : List ℕ) (v : PlainVersioning) → SpellsVersioning text v
    → length (key_bytes (key_of v)) ≤ room_for (length text)
spelled_length text (Ideal v) s = semver_length text v s
spelled_length text (General v) s = version_length text v s.0
spelled_length text (Complex m) s = mess_length text m s.0

pub enough_room : (text : List ℕ) (v : PlainVersioning) → versioning_of text ≡ Some v
    → length (key_bytes (key_of v)) ≤ room_for (length text)
enough_room text v e = spelled_length text v (versioning_of-spells text v e)

-- ---- the lengths of the ends of ranges: at most one byte more than the key

-- ---- kept parts

abbrev pub length_of : List PartKey → ℕ
length_of parts = length (items_bytes part_bytes parts)

-- the bytes of one part more
pub one_more : (part : PartKey) (parts : List PartKey)
    → length_of (part ∷ parts) ≡ length (part_bytes (Some part)) + length_of parts
one_more part parts = length-append (part_bytes (Some part)) (items_bytes part_bytes parts)

-- kept parts have no more bytes than all parts
pub but_last_length : (parts : List PartKey) → length_of (but_last parts) ≤ length_of parts
but_last_length [] = omega arith
but_last_length (part ∷ parts) = grind (arith, one_more, but_last_length parts)

pub or_others_length : (kept parts : List PartKey) → length_of kept ≤ length_of parts
    → length_of (or_others kept parts) ≤ length_of parts
or_others_length [] parts fewer = omega arith
or_others_length (part ∷ kept) parts fewer = fewer

pub through_other_length : (parts : List PartKey) → length_of (through_other parts) ≤ length_of parts
through_other_length [] = omega arith
through_other_length (part ∷ parts) = grind (arith, one_more, through_other_length parts)

-- what the keys of an epoch and of some parts begin with
pub begun_length : (epoch : ℕ) (parts : List PartKey)
    → length (begun epoch parts) ≡ length (number_bytes epoch) + length_of parts
begun_length epoch parts = length-append (number_bytes epoch) (items_bytes part_bytes parts)

-- is shorter than each such key
pub below_key : (k : Key) → length (number_bytes k.epoch) + length_of k.body < length (key_bytes k)
below_key k = omega (arith, list_length part_bytes k.body, key_length k.epoch k.body k.tail)

-- ---- ends

kept_length : (kept : Kept) (parts : List PartKey)
    → length_of (kept_parts kept parts) ≤ length_of parts
kept_length All parts = omega arith
kept_length ButLast parts = but_last_length parts
kept_length ButLastOrOnly parts = or_others_length (but_last parts) parts (but_last_length parts)
kept_length ThroughOther parts = through_other_length parts

pub end_length : (end : End) (k : Key) → length (end_bytes end k) ≤ length (key_bytes k) + 1
end_length AfterKey k = omega (arith, length-append (key_bytes k) (0 ∷ []))
end_length (Begun kept) k = grind (arith, begun_length, kept_length, below_key)
end_length (AboveBegun kept) k = grind (arith, length-append, begun_length, kept_length, below_key)
end_length end k = omega arith
