-- What comes next, read off the text of a version.
use Rattle.std.proofs.Common.{◌≡◌, ◌==◌, ◌&&◌, ◌-◌, ◌+◌, ◌<◌, ◌≤◌, ◌^◌, ◌∙◌, if◌then◌else◌, ℕ, zero, suc, Bool, true, false, List, [], ◌∷◌, ◌++◌, drop, length, map, take, Some, None, refl, sym, ap, subst, arith, append_assoc, append-nil, length-append, inl, inr}
use Rattle.std.proofs.Math.Seq.{drop-nil}
use Rattle.std.proofs.lemmas.{Bool.and_from, Bool.cases_Bool, Bool.lt-ltb, List.length-map, List.map-append, List.take_all, List.take_at, List.Splits.join_with_byte-slice_split}
use Rattle.std.specs.{Cmp.first_so, Cmp.second_so, Fmt.decimal, List.join_with_byte, List.list_all, Option.option_map, Str.Parse.digits_value}
use Rattle.version_rules.specs.grammar.Versioning.{PlainVersioning, Ideal, General, Complex, SpellsVersioning, is_prerelease, versioning_of, versioning_text}
use Rattle.version_rules.specs.grammar.{Body.body_text, Chunk.PlainChunk, Chunk.SpellsPart, Chunk.number_of, Conversions.version_of_semver, Last.IsLastOf, Last.PlainLast, SemVer.semver_text, Version.PlainVersion, Version.SpellsVersion}
use Rattle.version_order.specs.texts.Cuts.{behind_piece, first_piece, further_pieces, is_dot, pieces}
use Rattle.version_order.specs.texts.Bytes.{dot}
use Rattle.version_rules.proofs.lemmas.{Body.body_printed, Chunk.digit_alphanumeric, Numeral.numeral_printed, Versioning.strict_is_general}
use Rattle.version_texts.specs.{Scan.is_numeral, VersioningRef.epoch_and_parts, VersioningRef.numbers_alone, VersioningRef.numeral_value, VersioningRef.version_in}
use Rattle.version_texts.proofs.lemmas.scan.Spelled.{NonePass, body_pieces, chunk_bytes, none_pass, numeral_passes, numeral_spells, no_numeral, pieces_give}
use Rattle.version_texts.proofs.lemmas.{scan.Section.digits_not}
use Rattle.version_pieces.proofs.lemmas.Pieces.{pieces_are}
use Rattle.version_order.proofs.lemmas.Bytes.{alphanumeric_no_dot}
use Rattle.version_tasks.specs.Next.{IsNext, NoNext, all_of, last_number, last_place, numbers_of}
use Rattle.version_tasks.specs.NextText.{is_zero, is_zero_number, next_text, zeros_text}
use Rattle.version_tasks.proofs.lemmas.Next.Order.{are_zeros, fit, is_next, next_at, none_beyond, none_past, none_without, number_at, raised, raised_count, raised_fit, raised_follows, raised_number}
use Rattle.version_tasks.proofs.lemmas.Next.Text.{both_same, joined, joined_at, numbered, numbered_form, numbered_spelled, pieces_before, printed, raised_joined}
use Rattle.version_rules.specs.grammar.Chunk as chunk
use Rattle.version_rules.specs.grammar.Last as last

-- ---- the numbers of a version are those of the pieces of its parts

part_no_dot : (text : List ℕ) (x : PlainChunk) → SpellsPart text x → NonePass is_dot text
part_no_dot text x s =
    none_pass _ is_dot alphanumeric_no_dot text (chunk_bytes _ digit_alphanumeric text x s)

part_number : (text : List ℕ) (x : PlainChunk) → SpellsPart text x
    → numeral_value text ≡ number_of x
part_number text (chunk.Numeric n) s = rw (numeral_passes text n s) (ap (λ k. Some k) s.value)
part_number text (chunk.Alphanum run) s = rw (s.0, no_numeral run (digits_not run s.2)) refl

last_part : (part : PlainChunk) (l : PlainLast) → IsLastOf part l → number_of part ≡ last_number l
last_part (chunk.Numeric n) (last.Numeric m) is = ap (λ k. Some k) is
last_part (chunk.Numeric n) (last.Rc a letters b) is = absurd is
last_part (chunk.Numeric n) (last.Post a letters) is = absurd is
last_part (chunk.Numeric n) (last.Alphanum text) is = absurd is
last_part (chunk.Alphanum run) (last.Numeric m) is = absurd is
last_part (chunk.Alphanum run) (last.Rc a letters b) is = refl
last_part (chunk.Alphanum run) (last.Post a letters) is = refl
last_part (chunk.Alphanum run) (last.Alphanum text) is = refl

general_numbers : (text : List ℕ) (v : PlainVersion) → SpellsVersion text v
    → all_of (map numeral_value (pieces (body_text (v.chunks, v.last)))) ≡ numbers_of (General v)
general_numbers text v s =
    let part = s.body_is.part in
    ap (λ (l : List ℕ). all_of (map numeral_value (pieces l)))
    (body_printed s.body (v.chunks, v.last) s.body_is)
    ∙ ap all_of
    (pieces_give SpellsPart numeral_value number_of part_no_dot part_number s.body
    (v.chunks ++ part ∷ []) s.body_is.parts_are
    ∙ map-append number_of v.chunks (part ∷ [])
    ∙ ap (λ n. map number_of v.chunks ++ n ∷ []) (last_part part v.last s.body_is.last_is))

-- the last place of its numbers is that of the pieces
general_count : (text : List ℕ) (v : PlainVersion) → SpellsVersion text v
    → length (pieces (body_text (v.chunks, v.last))) ≡ suc (length v.chunks)
general_count text v s =
    ap (λ (l : List ℕ). length (pieces l)) (body_printed s.body (v.chunks, v.last) s.body_is)
    ∙ ap (λ (l : List (List ℕ)). length l) (body_pieces s.body (v.chunks, v.last) s.body_is)
    ∙ length-map (v.chunks ++ s.body_is.part ∷ []) chunk.chunk_text
    ∙ length-append v.chunks (s.body_is.part ∷ []) ∙ omega arith

last_of : (parts : List ℕ) (place : ℕ) → length (pieces parts) ≡ suc place
    → length (further_pieces is_dot (behind_piece parts)) ≡ place
last_of parts place count =
    let whole = ap (λ (l : List (List ℕ)). length l) (pieces_are is_dot parts) in
    omega (arith, count, whole)

pub last_place_read : (text : List ℕ) (v : PlainVersioning) → SpellsVersioning text v
    → (epoch parts : List ℕ) → epoch_and_parts v ≡ Some (epoch, parts)
    → length (further_pieces is_dot (behind_piece parts)) ≡ last_place v
last_place_read text (Ideal v) s epoch parts texts =
    let printed : body_text ((version_of_semver v).chunks, (version_of_semver v).last)
    ≡ semver_text (numbers_alone v) = simp (append_assoc, append-nil) in
    let is : parts ≡ semver_text (numbers_alone v) = sym (both_same _ _ texts).1 in
    last_of parts 2 (ap (λ (l : List ℕ). length (pieces l)) (is ∙ sym printed)
    ∙ general_count text (version_of_semver v) (strict_is_general text v s))
last_place_read text (General v) s epoch parts texts =
    let is : parts ≡ body_text (v.chunks, v.last) = sym (both_same _ _ texts).1 in
    last_of parts (length v.chunks)
    (ap (λ (l : List ℕ). length (pieces l)) is ∙ general_count text v s.0)
last_place_read text (Complex m) s epoch parts texts = cc texts

numbers_read : (text : List ℕ) (v : PlainVersioning) → SpellsVersioning text v
    → (epoch parts : List ℕ) → epoch_and_parts v ≡ Some (epoch, parts)
    → all_of (map numeral_value (pieces parts)) ≡ numbers_of v
numbers_read text (Ideal v) s epoch parts texts =
    let printed : body_text ((version_of_semver v).chunks, (version_of_semver v).last)
    ≡ semver_text (numbers_alone v) = simp (append_assoc, append-nil) in
    let is : parts ≡ semver_text (numbers_alone v) = sym (both_same _ _ texts).1 in
    ap (λ (l : List ℕ). all_of (map numeral_value (pieces l))) (is ∙ sym printed)
    ∙ general_numbers text (version_of_semver v) (strict_is_general text v s)
numbers_read text (General v) s epoch parts texts =
    let is : parts ≡ body_text (v.chunks, v.last) = sym (both_same _ _ texts).1 in
    ap (λ (l : List ℕ). all_of (map numeral_value (pieces l))) is ∙ general_numbers text v s.0
numbers_read text (Complex m) s epoch parts texts = cc texts

-- ---- numerals

abbrev value : List ℕ → ℕ
value = digits_value 10

numeral_is : (text : List ℕ) → is_numeral text ≡ true → numeral_value text ≡ Some (value text)
numeral_is text h = rw h refl

values_are : (ps : List (List ℕ)) → list_all is_numeral ps ≡ true
    → all_of (map numeral_value ps) ≡ Some (map value ps)
values_are [] all = refl
values_are (p ∷ ps) all =
    let rest = values_are ps (second_so _ _ all) in
    (λ i. all_of (numeral_is p (first_so _ _ all) i ∷ map numeral_value ps))
    ∙ ap (option_map (λ ns. value p ∷ ns)) rest

values_missing : (ps : List (List ℕ)) → list_all is_numeral ps ≡ false
    → all_of (map numeral_value ps) ≡ None
values_missing [] all = cc all
values_missing (p ∷ ps) all = elim (cases_Bool (is_numeral p)) [
  | inl numeral ↦
      let rest : list_all is_numeral ps ≡ false = rw numeral at all in
      (λ i. all_of (numeral_is p numeral i ∷ map numeral_value ps))
      ∙ ap (option_map (λ ns. value p ∷ ns)) (values_missing ps rest)
  | inr other ↦ rw other refl
]

values_print : (ps : List (List ℕ)) → list_all is_numeral ps ≡ true
    → map decimal (map value ps) ≡ ps
values_print [] all = refl
values_print (p ∷ ps) all =
    let first = numeral_printed p (value p) (numeral_spells p (first_so _ _ all)) in
    let rest = values_print ps (second_so _ _ all) in
    λ i. first i ∷ rest i

values_fit : (ps : List (List ℕ)) → list_all is_numeral ps ≡ true → fit (map value ps) ≡ true
values_fit [] all = refl
values_fit (p ∷ ps) all =
    and_from _ _ (lt-ltb _ _ (numeral_spells p (first_so _ _ all)).fits)
    (values_fit ps (second_so _ _ all))

zeros_told : (ps : List (List ℕ)) → list_all is_numeral ps ≡ true
    → list_all is_zero ps ≡ are_zeros (map value ps)
zeros_told [] all = refl
zeros_told (p ∷ ps) all =
    let first : is_zero p ≡ (value p == 0) =
    ap is_zero_number (numeral_is p (first_so _ _ all)) in
    let rest = zeros_told ps (second_so _ _ all) in
    λ i. first i && rest i

-- ---- the piece at a place

-- the pieces after a first byte
pub further_are : (rest : List ℕ) → 1 ≤ length rest
    → pieces (take (length rest - 1) (drop 1 rest)) ≡ further_pieces is_dot rest
further_are [] some = absurd (omega (arith, some))
further_are (b ∷ more) some = ap pieces (take_all (length (b ∷ more) - 1) more (omega arith))

record IsAt (place : ℕ) (ps : List (List ℕ)) (p : List ℕ) (others : List (List ℕ)) : Type 0 where
  within : place < length (map value ps)
  number : number_at place (map value ps) ≡ value p
  after : drop (suc place) (map value ps) ≡ map value others
  numeral : is_numeral p ≡ true
  numerals : list_all is_numeral others ≡ true

count_values : (ps : List (List ℕ)) → length (map value ps) ≡ length ps
count_values [] = refl
count_values (p ∷ ps) = ap suc (count_values ps)

is_at : (place : ℕ) (ps : List (List ℕ)) (p : List ℕ) (others : List (List ℕ))
    → list_all is_numeral ps ≡ true → p ∷ others ≡ drop place ps → IsAt place ps p others
is_at place [] p others all here = cc (here ∙ drop-nil place)
is_at zero (q ∷ ps) p others all here =
    let first : q ≡ p = cc here in
    let rest : ps ≡ others = cc here in
    let numeral : is_numeral q ≡ true = first_so _ _ all in
    let numerals : list_all is_numeral ps ≡ true = second_so _ _ all in
    record {
      within = omega arith;
      number = ap value first;
      after = ap (map value) rest;
      numeral = rw first at numeral;
      numerals = rw rest at numerals;
    }
is_at (suc place) (q ∷ ps) p others all here =
    let rest = is_at place ps p others (second_so _ _ all) here in
    let within = rest.within in
    record {
      within = omega (arith, within);
      number = rest.number;
      after = rest.after;
      numeral = rest.numeral;
      numerals = rest.numerals;
    }

none_at : (place : ℕ) (ps : List (List ℕ)) → [] ≡ drop place ps → length ps ≤ place
none_at place [] none = omega arith
none_at zero (p ∷ ps) none = cc none
none_at (suc place) (p ∷ ps) none = let rest = none_at place ps none in omega (arith, rest)

-- ---- the version that comes next

module _ (text : List ℕ) (v : PlainVersioning) (s : SpellsVersioning text v)
    (epoch parts : List ℕ) (texts : Some (epoch, parts) ≡ epoch_and_parts v) (place : ℕ) where
  abbrev ps : List (List ℕ)
  ps = pieces parts

  abbrev numbers : List ℕ
  numbers = map value ps

  -- parts that are not all numerals
  pub other_parts : list_all is_numeral ps ≡ false → NoNext v place
  other_parts other =
      none_without v place
      (sym (numbers_read text v s epoch parts (sym texts)) ∙ values_missing ps other)

  module _ (all : list_all is_numeral ps ≡ true) where
    are : numbers_of v ≡ Some numbers
    are = sym (numbers_read text v s epoch parts (sym texts)) ∙ values_are ps all

    -- a place beyond the parts
    pub beyond : [] ≡ drop place ps → NoNext v place
    beyond none =
        let past = none_at place ps none in
        none_beyond v place numbers are (values_fit ps all)
        (omega (arith, past, count_values ps))

    module _ (left : List ℕ) (from : pieces left ≡ drop place ps) where
      abbrev others : List (List ℕ)
      others = further_pieces is_dot (behind_piece left)

      here : IsAt place ps (first_piece left) others
      here = is_at place ps (first_piece left) others all (sym (pieces_are is_dot left) ∙ from)

      -- the part is a number
      pub has_number : ¬ (None ≡ numeral_value (first_piece left))
      has_number none = cc (none ∙ numeral_is (first_piece left) here.numeral)

      -- the text before it
      whole : parts ≡ pieces_before place ps ++ left
      whole =
          let within = here.within in
          sym (join_with_byte-slice_split dot parts)
          ∙ joined_at place ps (omega (arith, within, count_values ps))
          ∙ ap (λ (l : List (List ℕ)). pieces_before place ps ++ join_with_byte dot l) (sym from)
          ∙ ap (λ (l : List ℕ). pieces_before place ps ++ l) (join_with_byte-slice_split dot left)

      pub left_within : length left ≤ length parts
      left_within =
          let count = ap (λ (l : List ℕ). length l) whole in
          omega (arith, count, length-append (pieces_before place ps) left)

      before : take (length parts - length left) parts ≡ pieces_before place ps
      before =
          let count : length parts ≡ length (pieces_before place ps) + length left =
          ap (λ (l : List ℕ). length l) whole ∙ length-append (pieces_before place ps) left in
          ap (take (length parts - length left)) whole
          ∙ take_at (pieces_before place ps) left (length parts - length left)
          (omega (arith, count))

      -- the number that comes next
      module _ (n : ℕ) (is : Some n ≡ numeral_value (first_piece left)) where
        number : number_at place numbers ≡ n
        number =
            let same : Some n ≡ Some (value (first_piece left)) =
            is ∙ numeral_is (first_piece left) here.numeral in
            here.number ∙ sym (cc same)

        abbrev stays : Bool
        stays = is_prerelease v && list_all is_zero others

        next_is : next_at v place numbers are (values_fit ps all) ≡ (if stays then n else suc n)
        next_is =
            let zeros : are_zeros (drop (suc place) numbers) ≡ list_all is_zero others =
            ap are_zeros here.after ∙ sym (zeros_told others here.numerals) in
            λ i. if is_prerelease v && zeros i then number i else suc (number i)

        pub past : 2 ^ 32 ≤ (if stays then n else suc n) → NoNext v place
        past large =
            none_past v place numbers are (values_fit ps all)
            (subst (λ (k : ℕ). 2 ^ 32 ≤ k) (sym next_is) large)

        module _ (k zeros : ℕ) (next : k ≡ (if stays then n else suc n)) (fits : k < 2 ^ 32)
            (count : zeros ≡ length others) where
          abbrev written : List ℕ
          written = next_text epoch (take (length parts - length left) parts) k zeros

          abbrev comes : List ℕ
          comes = raised place numbers k

          text_is : written ≡ epoch ++ joined comes
          text_is =
              let all_zeros : length (drop (suc place) numbers) ≡ zeros =
              ap (λ (l : List ℕ). length l) here.after ∙ count_values others ∙ sym count in
              ap (λ (l : List ℕ). epoch ++ l)
              ((λ i. before i ++ (decimal k ++ zeros_text (sym all_zeros i)))
              ∙ (λ i. pieces_before place (sym (values_print ps all) i)
              ++ (decimal k ++ zeros_text (length (drop (suc place) numbers))))
              ∙ sym (raised_joined place numbers k here.within))

          version_is : versioning_of written ≡ Some (numbered v comes)
          version_is =
              let within = here.within in
              let as_many = raised_count place numbers k in
              ap versioning_of text_is
              ∙ numbered_spelled text v s numbers comes are as_many (omega (arith, within, as_many))
              (raised_fit place numbers k (values_fit ps all) fits) epoch parts (sym texts)

          holds : version_in written ≡ numbered v comes
          unfolding version_in
          holds = rw version_is refl

          parses : versioning_of written ≡ Some (version_in written)
          parses = version_is ∙ ap (λ w. Some w) (sym holds)

          reads_back : versioning_of (versioning_text (version_in written))
              ≡ Some (version_in written)
          reads_back = ap versioning_of (printed _ _ parses) ∙ parses

          comes_next : IsNext v place (version_in written)
          comes_next =
              let form =
              numbered_form v place numbers comes are
              (raised_follows place numbers k here.within (values_fit ps all) fits) in
              let at_place : number_at place form.0.next ≡ k =
              ap (number_at place) form.1 ∙ raised_number place numbers k here.within in
              rw holds
              (is_next v place numbers are (values_fit ps all) (numbered v comes) form.0
              (next_is ∙ sym next ∙ sym at_place))

          pub follows : (versioning_of written ≡ Some (version_in written))
              × (versioning_of (versioning_text (version_in written)) ≡ Some (version_in written))
              × IsNext v place (version_in written)
          follows = (parses, reads_back, comes_next)
