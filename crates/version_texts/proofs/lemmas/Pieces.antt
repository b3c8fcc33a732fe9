-- The pieces of a text between marks, and the bytes of lists of them, piece by piece.
use Rattle.std.proofs.Common.{◌≡◌, ◌≢◌, ◌==◌, ◌∙◌, ℕ, Bool, true, false, List, [], ◌∷◌, ◌++◌, drop, map, Some, refl, sym, ap, inl, inr, arith, append-nil, append_assoc, ◌||◌}
use Rattle.std.proofs.lemmas.{Bool.cases_Bool, Bool.eqb-true, Bool.and_from, List.Concat.flat_map-cons}
use Rattle.std.specs.List.{list_all, prefix_len, take_while, list_any, slice_split}
use Rattle.std.specs.{Char.is_ascii_alphanumeric, Char.is_ascii_digit, Char.is_ascii_alphabetic, Cmp.first_so, Cmp.second_so}
use Rattle.version_order.specs.keys.{Codes.items_bytes, Codes.list_bytes, Codes.number_bytes, Codes.text_bytes}
use Rattle.version_order.specs.texts.{Bytes.dot, Bytes.is_section_byte, Cuts.behind_piece, Cuts.first_piece, Cuts.further_pieces, Cuts.is_dot, Cuts.pieces, Front.run_value, Front.is_digits, Front.begins, Grammar.is_sep}
use Rattle.version_rules.specs.key.PartKey.{part_bytes, part_key, PartKey, suffix_bytes, suffix_of, parts_bytes, split_bytes, split_of}
use Rattle.version_rules.specs.{key.Key.held_bytes, key.Key.section_bytes, key.Key.tail_rank}
use Rattle.version_order.proofs.lemmas.Runs.{last_piece, next_piece, run_cons, split_end, split_mark, all_behind, split_some, no_run, rest_within, begins_inner, begins_neither, digit_alphanumeric, letter_alphanumeric, run_and_more}
use Rattle.version_order.proofs.lemmas.{Bytes.alphanumeric_no_dot, Bytes.alphanumeric_section, Bytes.alphanumeric_identifier, Bytes.letter_other, Front.begins-drop, Front.list_all-take_while, Front.all_weaker}
use Rattle.version_order.proofs.lemmas.NumberBytes.{number_of_digit, text_of_run}
use Rattle.version_texts.specs.Key.{parts_of, sections_of, tail_of, tail_of_sections}
use Rattle.version_texts.specs.{Scan.is_tail_byte, declared.scan.shape.TailKind.TheVariants.Sections}
use Rattle.version_rules.proofs.lemmas.{Key.part_key-digits, Key.part_key-word, Numeral.split_of-digits, Numeral.split_of-no_digit}
use Rattle.version_texts.proofs.lemmas.scan.Complex.{section_no_sep}
use Rattle.version_pieces.proofs.lemmas.{Pieces.pieces_are, Pieces.last_item, Pieces.more_items}

-- ---- the classes

-- a byte of a section that is neither a letter nor a digit is a dot
other_dot : (b : ℕ) → is_ascii_alphanumeric b ≡ false → (b == dot) ≡ false
    → is_section_byte b ≡ false
other_dot b h k = rw (h, k) refl

-- ---- lists of parts

-- a part and a dot, and the parts after them
pub next_part : (text rest behind : List ℕ)
    → rest ≡ drop (prefix_len is_ascii_alphanumeric text) text → rest ≡ dot ∷ behind
    → pieces (take_while is_section_byte text)
    ≡ take_while is_ascii_alphanumeric text ∷ pieces (take_while is_section_byte behind)
next_part text rest behind r d =
    grind (arith, next_piece, alphanumeric_section, alphanumeric_no_dot)

pub part_and_more : (text rest behind : List ℕ)
    → rest ≡ drop (prefix_len is_ascii_alphanumeric text) text → rest ≡ dot ∷ behind
    → items_bytes part_bytes (parts_of (take_while is_section_byte text))
    ≡ part_bytes (Some (part_key (take_while is_ascii_alphanumeric text))) ++ items_bytes part_bytes
    (parts_of (take_while is_section_byte behind))
part_and_more text rest behind r d = grind (arith, next_part, flat_map-cons)

pub rest_and_more : (text rest behind : List ℕ)
    → rest ≡ drop (prefix_len is_ascii_alphanumeric text) text → rest ≡ dot ∷ behind
    → drop (prefix_len is_section_byte behind) behind ≡ drop (prefix_len is_section_byte text) text
rest_and_more text rest behind r d =
    sym (run_cons is_section_byte dot behind refl).1
    ∙ ap (λ (l : List ℕ). drop (prefix_len is_section_byte l) l) (sym d ∙ r)
    ∙ rest_within is_ascii_alphanumeric is_section_byte alphanumeric_section text

-- what follows a part is no byte of a section if it is no dot
nothing_more : (text rest : List ℕ) → rest ≡ drop (prefix_len is_ascii_alphanumeric text) text
    → begins (λ b. b == dot) rest ≡ false → begins is_section_byte rest ≡ false
nothing_more text rest r other =
    by rest (ap (begins is_ascii_alphanumeric) r ∙ begins-drop is_ascii_alphanumeric text) other
  where
    by : (l : List ℕ) → begins is_ascii_alphanumeric l ≡ false → begins (λ b. b == dot) l ≡ false
        → begins is_section_byte l ≡ false
    by [] h k = refl
    by (b ∷ l) h k = other_dot b h k

-- the last part
pub only_part : (text rest : List ℕ) → rest ≡ drop (prefix_len is_ascii_alphanumeric text) text
    → begins (λ b. b == dot) rest ≡ false
    → pieces (take_while is_section_byte text) ≡ take_while is_ascii_alphanumeric text ∷ []
only_part text rest r other =
    grind (arith, last_piece, alphanumeric_section, alphanumeric_no_dot, nothing_more)

pub last_part : (text rest : List ℕ) → rest ≡ drop (prefix_len is_ascii_alphanumeric text) text
    → begins (λ b. b == dot) rest ≡ false
    → items_bytes part_bytes (parts_of (take_while is_section_byte text))
    ≡ part_bytes (Some (part_key (take_while is_ascii_alphanumeric text)))
last_part text rest r other = grind (arith, only_part, flat_map-cons, append-nil)

pub rest_of_last : (text rest : List ℕ) → rest ≡ drop (prefix_len is_ascii_alphanumeric text) text
    → begins (λ b. b == dot) rest ≡ false
    → rest ≡ drop (prefix_len is_section_byte text) text
rest_of_last text rest r other =
    sym (no_run is_section_byte rest (nothing_more text rest r other)).1
    ∙ ap (λ (l : List ℕ). drop (prefix_len is_section_byte l) l) r
    ∙ rest_within is_ascii_alphanumeric is_section_byte alphanumeric_section text

-- a list begins with its first part, whatever follows
pub first_part : (text rest : List ℕ) → rest ≡ drop (prefix_len is_ascii_alphanumeric text) text
    → (more : List ℕ)
    × (items_bytes part_bytes (parts_of (take_while is_section_byte text))
    ≡ part_bytes (Some (part_key (take_while is_ascii_alphanumeric text))) ++ more)
first_part text [] r = ([], last_part text [] r refl ∙ sym (append-nil _))
first_part text (b ∷ behind) r = elim (cases_Bool (b == dot)) [
  | inl same ↦
      let is : b ∷ behind ≡ dot ∷ behind = ap (λ (n : ℕ). n ∷ behind) (eqb-true b dot same) in (
        items_bytes part_bytes (parts_of (take_while is_section_byte behind)),
        part_and_more text (b ∷ behind) behind r is,
      )
  | inr other ↦ ([], last_part text (b ∷ behind) r other ∙ sym (append-nil _))
]

-- ---- the bytes of parts whose texts are runs of letters and digits

-- ---- numbers

-- no digit follows a run of digits
no_digit : (text rest : List ℕ) → rest ≡ drop (prefix_len is_ascii_digit text) text
    → begins is_ascii_digit rest ≡ false
no_digit text rest r = ap (begins is_ascii_digit) r ∙ begins-drop is_ascii_digit text

-- a text that begins with a digit begins with a run of digits
run_is_digits : (text : List ℕ) → begins is_ascii_digit text ≡ true
    → is_digits (take_while is_ascii_digit text) ≡ true
run_is_digits text digit = grind (arith, and_from, begins_inner, list_all-take_while)

-- ---- texts

-- the same of letters and digits alone
plain_text : (run : List ℕ) → list_all is_ascii_alphanumeric run ≡ true
    → text_bytes run ≡ run ++ 0 ∷ []
plain_text run all = grind (arith, text_of_run, all_weaker, alphanumeric_identifier)

-- ---- splits

-- letters have no digit
pub no_digits : (letters : List ℕ) → list_all is_ascii_alphabetic letters ≡ true
    → list_any is_ascii_digit letters ≡ false
no_digits [] all = refl
no_digits (b ∷ letters) all =
    rw (letter_other b (first_so _ _ all)) (no_digits letters (second_so _ _ all))

-- the letters that a text begins with, and what follows them in its run of letters and digits
letters_first : (text letters rest : List ℕ) → letters ≡ take_while is_ascii_alphabetic text
    → rest ≡ drop (prefix_len is_ascii_alphabetic text) text
    → take_while is_ascii_alphanumeric text ≡ letters ++ take_while is_ascii_alphanumeric rest
letters_first text letters rest l r = grind (arith, run_and_more, letter_alphanumeric)

-- they have no digit, and are written as they are
letters_alone : (text letters : List ℕ) → letters ≡ take_while is_ascii_alphabetic text
    → (list_any is_ascii_digit letters ≡ false) × (text_bytes letters ≡ letters ++ 0 ∷ [])
letters_alone text letters l =
    let all : list_all is_ascii_alphabetic letters ≡ true =
    rw l (list_all-take_while is_ascii_alphabetic text) in (
      no_digits letters all,
      plain_text letters
          (all_weaker is_ascii_alphabetic is_ascii_alphanumeric letter_alphanumeric letters all),
    )

-- no letter or digit follows letters that no digit follows
nothing_after : (text rest : List ℕ) → rest ≡ drop (prefix_len is_ascii_alphabetic text) text
    → begins is_ascii_digit rest ≡ false → begins is_ascii_alphanumeric rest ≡ false
nothing_after text rest r other = grind (arith, begins_neither, begins-drop)

pub split_of_letters : (text rest : List ℕ) → rest ≡ drop (prefix_len is_ascii_alphabetic text) text
    → begins is_ascii_digit rest ≡ false
    → split_bytes (split_of (take_while is_ascii_alphanumeric text))
    ≡ take_while is_ascii_alphabetic text ++ (0 ∷ 0 ∷ [])
split_of_letters text rest r other =
    grind (arith, letters_alone, no_run, nothing_after, letters_first, append-nil, split_of-no_digit, append_assoc)

-- the rest after the run is what follows its letters
pub rest_of_letters : (text rest : List ℕ) → rest ≡ drop (prefix_len is_ascii_alphabetic text) text
    → begins is_ascii_digit rest ≡ false
    → drop (prefix_len is_ascii_alphanumeric rest) rest ≡ rest
rest_of_letters text rest r other =
    (no_run is_ascii_alphanumeric rest (nothing_after text rest r other)).1

pub split_of_number : (text rest behind : List ℕ)
    → rest ≡ drop (prefix_len is_ascii_alphabetic text) text
    → begins is_ascii_digit rest ≡ true → behind ≡ drop (prefix_len is_ascii_digit rest) rest
    → split_bytes (split_of (take_while is_ascii_alphanumeric text))
    ≡ take_while is_ascii_alphabetic text ++ (0 ∷ 1 ∷ (number_bytes (run_value rest)
    ++ (take_while is_ascii_alphanumeric behind ++ 0 ∷ [])))
split_of_number text rest behind r digit b =
    let letters = take_while is_ascii_alphabetic text in
    let digits = take_while is_ascii_digit rest in
    let run = take_while is_ascii_alphanumeric behind in
    let alone = letters_alone text letters refl in
    let whole : take_while is_ascii_alphanumeric text ≡ letters ++ (digits ++ run) =
    letters_first text letters rest refl r
    ∙ ap (λ (xs : List ℕ). letters ++ xs)
    (run_and_more is_ascii_digit is_ascii_alphanumeric digit_alphanumeric rest
    ∙ ap (λ (xs : List ℕ). digits ++ take_while is_ascii_alphanumeric xs) (sym b)) in
    let ends : begins is_ascii_digit run ≡ false =
    begins_inner is_ascii_digit is_ascii_alphanumeric digit_alphanumeric behind
    ∙ no_digit rest behind b in
    let written : text_bytes run ≡ run ++ 0 ∷ [] =
    plain_text run (list_all-take_while is_ascii_alphanumeric behind) in
    ap (λ (xs : List ℕ). split_bytes (split_of xs)) whole
    ∙ ap split_bytes (split_of-digits letters digits run alone.0 (run_is_digits rest digit) ends)
    ∙ (λ i. alone.1 i ++ (1 ∷ (number_bytes (run_value rest) ++ written i)))
    ∙ append_assoc letters (0 ∷ []) _

-- a split begins with its letters and their end, whatever follows
pub split_begun : (text rest : List ℕ) → rest ≡ drop (prefix_len is_ascii_alphabetic text) text
    → (more : List ℕ)
    × (split_bytes (split_of (take_while is_ascii_alphanumeric text))
    ≡ take_while is_ascii_alphabetic text ++ (0 ∷ more))
split_begun text rest r = elim (cases_Bool (begins is_ascii_digit rest)) [
  | inl digit ↦ (_, split_of_number text rest _ r digit refl)
  | inr other ↦ (_, split_of_letters text rest r other)
]

-- ---- parts

pub word_of_run : (text : List ℕ) → begins is_ascii_digit text ≡ false
    → part_bytes (Some (part_key (take_while is_ascii_alphanumeric text)))
    ≡ (1 ∷ []) ++ split_bytes (split_of (take_while is_ascii_alphanumeric text))
word_of_run text other = grind (arith, part_key-word, begins_inner, digit_alphanumeric)

-- a number, and the suffix after it
pub number_and_suffix : (text rest : List ℕ) → begins is_ascii_digit text ≡ true
    → rest ≡ drop (prefix_len is_ascii_digit text) text
    → part_bytes (Some (part_key (take_while is_ascii_alphanumeric text)))
    ≡ 3 ∷
    (number_bytes (run_value text) ++ suffix_bytes
    (suffix_of (take_while is_ascii_alphanumeric rest)))
number_and_suffix text rest digit r =
    let digits = take_while is_ascii_digit text in
    let more = take_while is_ascii_alphanumeric rest in
    let whole : take_while is_ascii_alphanumeric text ≡ digits ++ more =
    run_and_more is_ascii_digit is_ascii_alphanumeric digit_alphanumeric text
    ∙ ap (λ (xs : List ℕ). digits ++ take_while is_ascii_alphanumeric xs) (sym r) in
    let ends : begins is_ascii_digit more ≡ false =
    begins_inner is_ascii_digit is_ascii_alphanumeric digit_alphanumeric rest
    ∙ no_digit text rest r in
    ap (λ (xs : List ℕ). part_bytes (Some (part_key xs))) whole
    ∙ ap (λ (k : PartKey). part_bytes (Some k))
    (part_key-digits digits more (run_is_digits text digit) ends)

pub plain_of_run : (text rest : List ℕ) → begins is_ascii_digit text ≡ true
    → rest ≡ drop (prefix_len is_ascii_digit text) text → begins is_ascii_alphabetic rest ≡ false
    → part_bytes (Some (part_key (take_while is_ascii_alphanumeric text)))
    ≡ 3 ∷ (number_bytes (run_value text) ++ 2 ∷ [])
plain_of_run text rest digit r other =
    let none =
    (no_run is_ascii_alphanumeric rest (begins_neither rest other (no_digit text rest r))).0 in
    number_and_suffix text rest digit r
    ∙ ap (λ (xs : List ℕ). 3 ∷ (number_bytes (run_value text) ++ suffix_bytes (suffix_of xs))) none

-- a digit with neither a letter nor a digit behind it is a part
lone_digit : (text rest : List ℕ) (digit : ℕ) → text ≡ digit ∷ rest
    → is_ascii_digit digit ≡ true → begins is_ascii_alphanumeric rest ≡ false
    → take_while is_ascii_alphanumeric text ≡ digit ∷ []
lone_digit text rest digit t passes ends =
    ap (take_while is_ascii_alphanumeric) t
    ∙ (run_cons is_ascii_alphanumeric digit rest (digit_alphanumeric digit passes)).0
    ∙ ap (λ (l : List ℕ). digit ∷ l) (no_run is_ascii_alphanumeric rest ends).0

-- the bytes of the part 0
pub bytes_of_zero : (digit : ℕ) → digit ≡ 48
    → part_bytes (Some (part_key (digit ∷ []))) ≡ 3 ∷ 0 ∷ 2 ∷ []
bytes_of_zero digit zero = rw zero refl

-- the bytes of a part of one digit other than 0
pub bytes_of_digit : (digit : ℕ) → is_ascii_digit digit ≡ true → digit ≢ 48
    → part_bytes (Some (part_key (digit ∷ []))) ≡ 3 ∷ 1 ∷ digit ∷ 2 ∷ []
bytes_of_digit digit passes other =
    ap (λ (l : List ℕ). part_bytes (Some (part_key l)))
    (sym (lone_digit (digit ∷ []) [] digit refl passes refl))
    ∙ plain_of_run (digit ∷ []) [] passes (sym (run_cons is_ascii_digit digit [] passes).1) refl
    ∙ ap (λ (l : List ℕ). 3 ∷ (l ++ 2 ∷ []))
    (number_of_digit (digit ∷ []) [] digit refl passes other refl)

pub rest_of_plain : (text rest : List ℕ) → rest ≡ drop (prefix_len is_ascii_digit text) text
    → begins is_ascii_alphabetic rest ≡ false
    → drop (prefix_len is_ascii_alphanumeric rest) rest ≡ rest
rest_of_plain text rest r other =
    (no_run is_ascii_alphanumeric rest (begins_neither rest other (no_digit text rest r))).1

pub suffixed_of_run : (text rest : List ℕ) → begins is_ascii_digit text ≡ true
    → rest ≡ drop (prefix_len is_ascii_digit text) text → begins is_ascii_alphabetic rest ≡ true
    → part_bytes (Some (part_key (take_while is_ascii_alphanumeric text)))
    ≡ 3 ∷ (number_bytes (run_value text)
    ++ (1 ∷ split_bytes (split_of (take_while is_ascii_alphanumeric rest))))
suffixed_of_run text rest digit r letter =
    number_and_suffix text rest digit r
    ∙ ap (λ (xs : List ℕ). 3 ∷ (number_bytes (run_value text) ++ xs))
    (suffix (take_while is_ascii_alphanumeric rest) begun)
  where
    begun : begins is_ascii_alphabetic (take_while is_ascii_alphanumeric rest) ≡ true
    begun = begins_inner is_ascii_alphabetic is_ascii_alphanumeric letter_alphanumeric rest ∙ letter

    suffix : (run : List ℕ) → begins is_ascii_alphabetic run ≡ true
        → suffix_bytes (suffix_of run) ≡ 1 ∷ split_bytes (split_of run)
    suffix [] h = cc h
    suffix (b ∷ run) h = refl

-- ---- the sections of a text between its signs, and the bytes of tails

-- what follows a section and a sign has bytes of a tail
pub behind_all : (text rest behind : List ℕ) (b : ℕ) → list_all (is_tail_byte Sections) text ≡ true
    → rest ≡ drop (prefix_len is_section_byte text) text → rest ≡ b ∷ behind
    → list_all (is_tail_byte Sections) behind ≡ true
behind_all text rest behind b all r d =
    second_so _ _
    (ap (list_all (is_tail_byte Sections)) (sym d ∙ r)
    ∙ all_behind (is_tail_byte Sections) _ text all)

sign_there : (text rest behind : List ℕ) (b : ℕ) → list_all (is_tail_byte Sections) text ≡ true
    → rest ≡ drop (prefix_len is_section_byte text) text → rest ≡ b ∷ behind → is_sep b ≡ true
sign_there text rest behind b all r d =
    let here : (is_section_byte b || is_sep b) ≡ true =
    first_so _ _
    (ap (list_all (is_tail_byte Sections)) (sym d ∙ r)
    ∙ all_behind (is_tail_byte Sections) _ text all) in
    let ended : is_section_byte b ≡ false =
    ap (begins is_section_byte) (sym d ∙ r) ∙ begins-drop is_section_byte text in
    sym (ap (λ (t : Bool). t || is_sep b) ended) ∙ here

-- a section and a sign, and the sections after them
pub section_and_more : (text rest behind : List ℕ) (b : ℕ)
    → list_all (is_tail_byte Sections) text ≡ true
    → rest ≡ drop (prefix_len is_section_byte text) text → rest ≡ b ∷ behind
    → list_bytes section_bytes (sections_of text)
    ≡ ((2 ∷ []) ++ parts_bytes (parts_of (take_while is_section_byte text)))
    ++ list_bytes section_bytes (sections_of behind)
section_and_more text rest behind b all r d =
    let run = take_while is_section_byte text in
    let cut : slice_split is_sep text ≡ run ∷ slice_split is_sep behind =
    split_mark is_section_byte is_sep section_no_sep text b behind (sym r ∙ d)
    (sign_there text rest behind b all r d) in
    ap (λ (l : List (List ℕ)). list_bytes section_bytes (map parts_of l)) cut
    ∙ more_items section_bytes (parts_of run) (sections_of behind)

-- the last section
pub last_section : (text rest : List ℕ) → rest ≡ drop (prefix_len is_section_byte text) text
    → rest ≡ []
    → list_bytes section_bytes (sections_of text)
    ≡ ((2 ∷ []) ++ parts_bytes (parts_of (take_while is_section_byte text))) ++ 1 ∷ []
last_section text rest r none = grind (arith, split_end, section_no_sep, last_item)

-- sections begin with their first one, whatever follows
pub first_section : (text : List ℕ) → list_all (is_tail_byte Sections) text ≡ true
    → (more : List ℕ)
    × (list_bytes section_bytes (sections_of text)
    ≡ ((2 ∷ []) ++ parts_bytes (parts_of (take_while is_section_byte text))) ++ more)
first_section text all = by (drop (prefix_len is_section_byte text) text) refl
  where
    by : (rest : List ℕ) → rest ≡ drop (prefix_len is_section_byte text) text
        → (more : List ℕ)
        × (list_bytes section_bytes (sections_of text)
        ≡ ((2 ∷ []) ++ parts_bytes (parts_of (take_while is_section_byte text))) ++ more)
    by [] r = (1 ∷ [], last_section text [] r refl)
    by (b ∷ behind) r = (
      list_bytes section_bytes (sections_of behind),
      section_and_more text (b ∷ behind) behind b all r refl,
    )

-- ---- tails

pub sections_held : (text : List ℕ)
    → held_bytes (tail_of Sections text) ≡ list_bytes section_bytes (sections_of text)
sections_held text =
    let some = split_some is_section_byte is_sep section_no_sep text in
    let all : sections_of text ≡ parts_of some.0 ∷ map parts_of some.1 =
    ap (λ (l : List (List ℕ)). map parts_of l) some.2 in
    ap (λ (l : List (List PartKey)). held_bytes (tail_of_sections l)) all
    ∙ ap (λ (l : List (List PartKey)). list_bytes section_bytes l) (sym all)

-- the parts of a text are that of its first piece, and further ones
pub parts_begin : (text : List ℕ) → parts_of text
    ≡ part_key (first_piece text) ∷ map part_key (further_pieces is_dot (behind_piece text))
parts_begin text = ap (map part_key) (pieces_are is_dot text)

-- the rank of a tail that has sections
pub rank_of_sections : (text : List ℕ) → 4 ≡ tail_rank (tail_of_sections (sections_of text))
rank_of_sections text = grind (arith, pieces_are)
