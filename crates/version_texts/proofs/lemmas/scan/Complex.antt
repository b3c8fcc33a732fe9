-- The sections of a messy version are the pieces of its text between its signs.
use Rattle.std.proofs.Math.Bool.{and-false as and_false}
use Rattle.std.proofs.lemmas.Bool.{cases_Bool, ne_eqb, and_parts, eqb-true, or_cases}
use Rattle.std.proofs.lemmas.{Bool.Decides.nat_tests, List.take_rest, List.Folds.list_all-append, List.Splits.slice_split_at, List.Splits.slice_split_none}
use Rattle.std.specs.{Char.is_ascii_alphanumeric, Cmp.second_so, List.list_all, List.slice_split, Option.option_map, Option.is_some, Prelude.slice_range, Str.Parse.digits_value}
use Rattle.version_order.specs.texts.Grammar.{SpellsDotted, SpellsEach, EndsRun, PlainSep, Colon, is_sep, sep_byte}
use Rattle.version_order.specs.texts.{Bytes.dot, Bytes.is_section_byte, Bytes.colon, Class.is_mark, Front.is_digits, Front.begins, Front.run_front, Front.is_run}
use Rattle.version_rules.specs.grammar.Mess.{Further, Section, SpellsFurther, SpellsSection, PlainMess, SpellsMess, joined_section, mess_of}
use Rattle.version_rules.specs.key.Key.{section_epoch, key_behind_epoch, key_from_first, key_of_sections, mess_epoch, sections_tail}
use Rattle.version_rules.specs.{grammar.MChunk.PlainMChunk, grammar.MChunk.SpellsMChunk, grammar.MChunk.chunk_before, grammar.MChunk.mchunk_front, key.PartKey.section_parts}
use Rattle.version_rules.proofs.lemmas.MChunk.{mchunk_printed, section_printed, byte_of_sep, mchunk_sound, spelled_run, spelled_some}
use Rattle.version_rules.proofs.lemmas.Mess.{mess_of-Some, mess_of-spells}
use Rattle.version_order.proofs.lemmas.Front.{all_weaker, run_front-reads, cases_Option}
use Rattle.version_texts.specs.Scan.{is_tail_byte, Fits, TailFits, behind_body, body_end, shape_at, tail_kind, is_messy}
use Rattle.version_texts.specs.{Key.parts_of, Key.sections_of, Key.tail_of, Key.tail_of_sections, declared.scan.shape.TailKind.TheVariants.Sections}
use Rattle.version_texts.proofs.lemmas.scan.Shape.{IsCut, behind_body-is, cut_behind_epoch, cut_without_epoch, is_colon, IsCounted, IsEpoch, behind_taken, body_ordered, body_taken, epoch_taken, length_cut, no_epoch_taken, none_taken}
use Rattle.version_texts.proofs.lemmas.scan.Spelled.{NonePass, all_pass, none_pass, section_bytes, section_parts-is, run_from, run_some, told_by_test, JoinedBy, both_pass, dotted_more, dotted_one, dotted_pass, split_is_joined, split_run}
use Rattle.version_texts.proofs.lemmas.scan.Section.{no_mark_in_run}
use Rattle.std.proofs.Common.{◌≡◌, ◌∙◌, if◌then◌else◌, ℕ, true, false, List, [], ◌∷◌, ◌++◌, map, Some, None, refl, ap, append-nil, arith, ◌==◌, ◌&&◌, ◌+◌, ◌<◌, Bool, drop, length, Option, sym, inl, inr, subst, append_assoc}
use Rattle.version_rules.specs.declared.kind.Kind.TheVariants as kind

-- ---- signs

-- the byte of a sign is one, and so a byte of a tail and a mark, and no byte of a section
pub sign_bytes : (sign : PlainSep) → (is_sep (sep_byte sign) ≡ true)
    × (is_section_byte (sep_byte sign) ≡ false)
    × (is_tail_byte Sections (sep_byte sign) ≡ true) × (is_mark (sep_byte sign) ≡ true)
sign_bytes Colon = (refl, refl, refl, refl)
sign_bytes sign = (refl, refl, refl, refl)

pub section_no_sep : (b : ℕ) → is_section_byte b ≡ true → is_sep b ≡ false
section_no_sep b h = grind (arith, nat_tests)

section_tail : (b : ℕ) → is_section_byte b ≡ true → is_tail_byte Sections b ≡ true
section_tail b h = rw h refl

-- ---- further sections

-- a further section begins with its sign
pub further_text-is : (rest : List ℕ) (f : Further) (more : List Further)
    → SpellsEach SpellsFurther rest (f ∷ more)
    → (first others : List ℕ) × (rest ≡ sep_byte f.0 ∷ (first ++ others)) × SpellsSection first f.1
    × SpellsEach SpellsFurther others more
unfolding SpellsEach
further_text-is rest f more s = (s.3.0, s.1, s.2 ∙ ap (λ (l : List ℕ). l ++ s.1) s.3.1, s.3.2, s.4)

pub no_further : (rest : List ℕ) → SpellsEach SpellsFurther rest [] → rest ≡ []
unfolding SpellsEach
no_further rest s = s

-- further sections end a section
pub sections_end : (rest : List ℕ) (more : List Further) → SpellsEach SpellsFurther rest more
    → EndsRun is_section_byte rest
sections_end rest [] s = rw (no_further rest s) refl
sections_end rest (f ∷ more) s = rw (further_text-is rest f more s).2 (sign_bytes f.0).1

section_unsigned : (text : List ℕ) (chunks : Section) → SpellsSection text chunks
    → NonePass is_sep text
section_unsigned text chunks s =
    none_pass is_section_byte is_sep section_no_sep text (section_bytes text chunks s)

-- the parts of a section and of those after it
pub sections_are : (text rest : List ℕ) (chunks : Section) (more : List Further)
    → SpellsSection text chunks → SpellsEach SpellsFurther rest more
    → sections_of (text ++ rest)
    ≡ section_parts chunks ∷ map (λ further. section_parts further.1) more
sections_are text rest chunks [] s none =
    grind (arith, rest, no_further, append-nil, slice_split_none, section_unsigned, chunks, section_parts-is)
sections_are text rest chunks (f ∷ more) s others =
    let next = further_text-is rest f more others in
    ap (λ (l : List ℕ). sections_of (text ++ l)) next.2
    ∙ ap (map parts_of)
    (slice_split_at is_sep text (sep_byte f.0) (next.0 ++ next.1) (section_unsigned text chunks s)
    (sign_bytes f.0).0)
    ∙ λ i. section_parts-is text chunks s i ∷ sections_are next.0 next.1 f.1 more next.3 next.4 i

-- and their bytes
tail_bytes_of : (text : List ℕ) (chunks : Section) → SpellsSection text chunks
    → list_all (is_tail_byte Sections) text ≡ true
tail_bytes_of text chunks s = grind (arith, all_weaker, section_tail, section_bytes)

pub sections_bytes : (text rest : List ℕ) (chunks : Section) (more : List Further)
    → SpellsSection text chunks → SpellsEach SpellsFurther rest more
    → list_all (is_tail_byte Sections) (text ++ rest) ≡ true
sections_bytes text rest chunks [] s none =
    rw (no_further rest none, append-nil) (tail_bytes_of text chunks s)
sections_bytes text rest chunks (f ∷ more) s others =
    let next = further_text-is rest f more others in
    let behind : list_all (is_tail_byte Sections) rest ≡ true =
    rw next.2 (rw (sign_bytes f.0).2 (sections_bytes next.0 next.1 f.1 more next.3 next.4)) in
    all_pass (is_tail_byte Sections) text rest (tail_bytes_of text chunks s) behind

-- ---- the epoch

-- a text with a dot is not a run of digits
dot_no_digits : (first others : List ℕ) → is_digits (first ++ dot ∷ others) ≡ false
dot_no_digits first others = grind (arith, list_all-append, and_false)

-- a section may be the epoch if its text is a run of digits
pub section_epoch-is : (text : List ℕ) (chunks : Section) → SpellsSection text chunks
    → section_epoch chunks ≡ (if is_digits text then Some (digits_value 10 text) else None)
unfolding SpellsDotted
section_epoch-is text [] s = absurd s
section_epoch-is text (chunk ∷ []) s = rw (mchunk_printed text chunk s) refl
section_epoch-is text (chunk ∷ next ∷ more) s = rw (s.2, dot_no_digits s.0 s.1) refl

-- ---- the pieces of a messy version by its shape, and that its shape fits its text

-- ---- the epoch and the body

-- a text of sections is cut into an epoch, if it has one, the section that is the body, and those
-- after it
pub record IsMessCut (text : List ℕ) (first : Section) (others : List Further) : Type 0 where
  pub epoch : List ℕ
  pub body : List ℕ
  pub rest : List ℕ
  pub value : ℕ
  pub chunks : Section
  pub more : List Further
  pub cut : IsCut text epoch body rest
  pub epoch_is : IsEpoch text value
  pub counts : IsCounted epoch (option_map (λ n. joined_section first) (mess_epoch first others))
      (mess_epoch first others)
  pub body_is : SpellsSection body chunks
  pub more_is : SpellsEach SpellsFurther rest more
  pub key_is : key_from_first first others ≡ key_of_sections value chunks more

-- the first section is the body if it is not digits before a colon
without_epoch : (text first rest : List ℕ) (chunks : Section) (more : List Further)
    → text ≡ first ++ rest → SpellsSection first chunks → SpellsEach SpellsFurther rest more
    → (is_digits first && begins is_colon rest) ≡ false
    → key_from_first chunks more ≡ key_of_sections 0 chunks more → mess_epoch chunks more ≡ None
    → IsMessCut text chunks more
without_epoch text first rest chunks more whole s each none key uncounted =
    grind (arith, section_bytes, cut_without_epoch, sections_end, no_epoch_taken)

-- without a colon the first section is the body
pub alone : (epoch : Option ℕ) (first : Section)
    → key_behind_epoch epoch first [] ≡ key_of_sections 0 first []
alone None first = refl
alone (Some n) first = refl

pub apart : (epoch : Option ℕ) (first : Section) (sign : PlainSep) (section : Section)
    (more : List Further) → is_colon (sep_byte sign) ≡ false
    → key_behind_epoch epoch first ((sign, section) ∷ more)
    ≡ key_of_sections 0 first ((sign, section) ∷ more)
apart None first sign section more other = refl
apart (Some n) first Colon section more other = cc other
apart epoch first sign section more other = refl

pub uncounted : (first : Section) (sign : PlainSep) (section : Section) (more : List Further)
    → is_colon (sep_byte sign) ≡ false → mess_epoch first ((sign, section) ∷ more) ≡ None
uncounted first Colon section more other = cc other
uncounted first sign section more other = refl

no_epoch : (digits : Bool) (rest : List ℕ) → begins is_colon rest ≡ false
    → (digits && begins is_colon rest) ≡ false
no_epoch digits rest e = ap (λ t. digits && t) e ∙ and_false digits

-- a first section of digits before a colon is the epoch
behind_epoch : (text first rest : List ℕ) (chunks section : Section) (more : List Further)
    → text ≡ first ++ rest → SpellsSection first chunks
    → SpellsEach SpellsFurther rest ((Colon, section) ∷ more) → is_digits first ≡ true
    → IsMessCut text chunks ((Colon, section) ∷ more)
behind_epoch text first rest chunks section more whole s each digits =
    let next = further_text-is rest (Colon, section) more each in
    let in_pieces = whole ∙ ap (λ (l : List ℕ). first ++ l) next.2 in
    let bytes = section_bytes next.0 section next.3 in
    let ends = sections_end next.1 more next.4 in
    let cut = cut_behind_epoch text first next.0 next.1 in_pieces digits bytes ends in
    record {
      epoch = first ++ colon ∷ [];
      body = next.0;
      rest = next.1;
      value = digits_value 10 first;
      chunks = section;
      more = more;
      cut = cut;
      epoch_is = rw (epoch_taken text first next.0 next.1 cut) (second_so _ _ digits, refl);
      counts =
          rw (section_epoch-is first chunks s, digits) (
            ap (λ (l : List ℕ). l ++ colon ∷ []) (sym (section_printed first chunks s)),
            ap (digits_value 10) (section_printed first chunks s),
          );
      body_is = next.3;
      more_is = next.4;
      key_is = rw (section_epoch-is first chunks s, digits) refl;
    }

messy_cut : (text first rest : List ℕ) (chunks : Section) (more : List Further)
    → text ≡ first ++ rest → SpellsSection first chunks → SpellsEach SpellsFurther rest more
    → IsMessCut text chunks more
messy_cut text first rest chunks [] whole s each =
    grind (arith, without_epoch, rest, chunks, no_epoch, is_colon, no_further, alone)
messy_cut text first rest chunks ((Colon, section) ∷ more) whole s each =
    elim (cases_Bool (is_digits first)) [
      | inl digits ↦ behind_epoch text first rest chunks section more whole s each digits
      | inr other ↦
          without_epoch text first rest chunks ((Colon, section) ∷ more) whole s each
          (rw other refl) (rw (section_epoch-is first chunks s, other) refl)
          (rw (section_epoch-is first chunks s, other) refl)
    ]
messy_cut text first rest chunks ((sign, section) ∷ more) whole s each =
    grind (arith, further_text-is, rest, more, without_epoch, chunks, no_epoch, is_colon, apart, uncounted)

-- a messy version is cut into its sections
pub mess_cut : (text : List ℕ) (m : PlainMess) → SpellsMess text m → IsMessCut text m.first m.more
mess_cut text m s = messy_cut text s.first s.more m.first m.more s.whole_is s.first_is s.more_is

-- ---- what follows the body

-- the text behind the body and a sign, if there is any
abbrev behind_sign : List ℕ → List ℕ
behind_sign text = slice_range text (body_end text + 1) (length text)

-- nothing follows the body of a messy version, or further sections up to the end of its text
abbrev pub IsMessTail : List ℕ → List Further → Type 0
IsMessTail text more =
    (tail_of (tail_kind kind.Complex text) (behind_sign text) ≡ sections_tail more)
    × TailFits (tail_kind kind.Complex text) (body_end text) (length text)
    × (list_all (is_tail_byte (tail_kind kind.Complex text)) (behind_sign text) ≡ true)

-- what follows the body are the further sections
mess_tail : (text epoch body rest : List ℕ) (more : List Further) → IsCut text epoch body rest
    → SpellsEach SpellsFurther rest more → IsMessTail text more
mess_tail text epoch body rest [] cut each =
    grind (arith, rest, no_further, behind_body-is, epoch, body, cut, length_cut, none_taken)
mess_tail text epoch body rest (further ∷ more) cut each =
    let next = further_text-is rest further more each in
    let tail = next.0 ++ next.1 in
    let behind : behind_body text ≡ sep_byte further.0 ∷ tail =
    behind_body-is text epoch body rest cut ∙ next.2 in
    let taken : behind_sign text ≡ tail =
    take_rest text (body_end text + 1) ∙ behind_taken text epoch body rest cut
    ∙ ap (drop 1) next.2 in
    let some : (length (sep_byte further.0 ∷ tail) == 0) ≡ false =
    ne_eqb (length (sep_byte further.0 ∷ tail)) 0 (omega arith) in
    let less : body_end text < length text =
    omega (arith, length_cut text epoch body rest cut, ap (λ (l : List ℕ). length l) next.2) in
    let kind_is : tail_kind kind.Complex text ≡ Sections = rw (behind, some) refl in
    let sections =
    ap sections_of taken ∙ sections_are next.0 next.1 further.1 more next.3 next.4 in (
      rw kind_is (ap tail_of_sections sections),
      rw kind_is less,
      rw (kind_is, taken) (sections_bytes next.0 next.1 further.1 more next.3 next.4),
    )

module _ (text : List ℕ) (m : PlainMess) (s : SpellsMess text m) where
  pub mess_tail-is : IsMessTail text (mess_cut text m s).more
  mess_tail-is =
      let c = mess_cut text m s in
      mess_tail text c.epoch c.body c.rest c.more c.cut c.more_is

  -- the shape of a messy version fits its text
  pub mess_fits : Fits text (shape_at kind.Complex text)
  mess_fits =
      let c = mess_cut text m s in
      record {
        epoch_fits = body_ordered text c.epoch c.body c.rest c.cut;
        tail_fits = mess_tail-is.1;
        within = omega arith;
        epoch_is = c.epoch_is.0;
        body_is = rw (body_taken text c.epoch c.body c.rest c.cut) c.cut.bytes;
        tail_is = mess_tail-is.2;
      }

-- ---- A text spells a messy version exactly if it is runs of letters and digits with single dots and
-- signs between.

-- ---- what spells a messy version passes

chunk_passes : (text : List ℕ) (chunk : PlainMChunk) → SpellsMChunk text chunk
    → is_messy text ≡ true
chunk_passes text chunk s =
    grind (arith, spelled_run, split_run, no_mark_in_run, run_from, spelled_some)

section_passes : (text : List ℕ) (chunks : Section) → SpellsSection text chunks
    → is_messy text ≡ true
section_passes = dotted_pass SpellsMChunk is_mark (is_run is_ascii_alphanumeric) refl chunk_passes

-- sections behind a text that passes
behind_passes : (text more : List ℕ) (sections : List Further) → is_messy text ≡ true
    → SpellsEach SpellsFurther more sections → is_messy (text ++ more) ≡ true
unfolding SpellsEach
behind_passes text more [] passes s =
    ap (λ (l : List ℕ). is_messy (text ++ l)) s ∙ ap is_messy (append-nil text) ∙ passes
behind_passes text more (further ∷ sections) passes s =
    let mark = sep_byte further.0 in
    let section = s.3 in
    let joined : is_messy (text ++ mark ∷ section.0) ≡ true =
    both_pass is_mark (is_run is_ascii_alphanumeric) text mark section.0
    (sign_bytes further.0).3 passes
    (section_passes section.0 further.1 section.2) in
    let whole : text ++ more ≡ (text ++ mark ∷ section.0) ++ s.1 =
    ap (λ (l : List ℕ). text ++ l) (s.2 ∙ ap (λ (l : List ℕ). l ++ s.1) section.1)
    ∙ sym (append_assoc text (mark ∷ section.0) s.1) in
    ap is_messy whole ∙ behind_passes (text ++ mark ∷ section.0) s.1 sections joined s.4

pub spelled_is_messy : (text : List ℕ) (m : PlainMess) → SpellsMess text m → is_messy text ≡ true
spelled_is_messy text m s = grind (arith, behind_passes, section_passes)

-- ---- what passes spells a messy version

mchunk_reads : (text : List ℕ) → run_front is_ascii_alphanumeric text ≡ Some (text, [])
    → mchunk_front text ≡ Some (chunk_before (text, []), [])
unfolding mchunk_front
mchunk_reads text e = rw e refl

-- a run of letters and digits spells a chunk
run_spells : (text : List ℕ) → is_run is_ascii_alphanumeric text ≡ true
    → (chunk : PlainMChunk) × SpellsMChunk text chunk
run_spells text passes =
    let some = run_some is_ascii_alphanumeric text passes in
    let run =
    rw append-nil at
    (run_front-reads is_ascii_alphanumeric text [] (second_so _ _ passes) some refl) in
    let read = mchunk_sound text (chunk_before (text, [])) [] (mchunk_reads text run) refl in
    let chunk = chunk_before (text, []) in
    (chunk, subst (λ (l : List ℕ). SpellsMChunk l chunk) (sym (read.1 ∙ append-nil read.0)) read.2)

-- the sign of a byte that is one
sign_of : (b : ℕ) → is_sep b ≡ true → (sign : PlainSep) × (b ≡ sep_byte sign)
sign_of b h = grind (arith, cases_Option, byte_of_sep)

-- a version that the text spells
abbrev Spelled : List ℕ → Type 0
Spelled text = (m : PlainMess) × SpellsMess text m

nothing_further : SpellsEach SpellsFurther [] []
unfolding SpellsEach
nothing_further = refl

one_more : (sign : PlainSep) (text more : List ℕ) (section : Section) (sections : List Further)
    → SpellsSection text section → SpellsEach SpellsFurther more sections
    → SpellsEach SpellsFurther (sep_byte sign ∷ (text ++ more)) ((sign, section) ∷ sections)
unfolding SpellsEach
one_more sign text more section sections s others =
    (sep_byte sign ∷ text, more, refl, (text, refl, s), others)

-- a first section, and those after it
made : (text first more : List ℕ) (section : Section) (sections : List Further)
    → text ≡ first ++ more → SpellsSection first section → SpellsEach SpellsFurther more sections
    → Spelled text
made text first more section sections whole s each = (
  record { first = section; more = sections },
  record { first = first; more = more; whole_is = whole; first_is = s; more_is = each },
)

one_chunk : (text : List ℕ) (chunk : PlainMChunk) → SpellsMChunk text chunk → Spelled text
one_chunk text chunk s =
    made text text [] (chunk ∷ []) [] (sym (append-nil text)) (dotted_one SpellsMChunk text chunk s)
    nothing_further

-- a chunk before a version, with a dot between
before_dot : (first others : List ℕ) (chunk : PlainMChunk) → SpellsMChunk first chunk
    → Spelled others → Spelled (first ++ dot ∷ others)
before_dot first others chunk s m =
    made (first ++ dot ∷ others) (first ++ dot ∷ m.1.first) m.1.more (chunk ∷ m.0.first) m.0.more
    (ap (λ (l : List ℕ). first ++ dot ∷ l) m.1.whole_is
    ∙ sym (append_assoc first (dot ∷ m.1.first) m.1.more))
    (dotted_more SpellsMChunk first m.1.first chunk m.0.first s m.1.first_is) m.1.more_is

-- and with a sign between
before_sign : (first others : List ℕ) (chunk : PlainMChunk) (sign : PlainSep)
    → SpellsMChunk first chunk → Spelled others → Spelled (first ++ sep_byte sign ∷ others)
before_sign first others chunk sign s m =
    made (first ++ sep_byte sign ∷ others) first (sep_byte sign ∷ (m.1.first ++ m.1.more))
    (chunk ∷ []) ((sign, m.0.first) ∷ m.0.more)
    (ap (λ (l : List ℕ). first ++ sep_byte sign ∷ l) m.1.whole_is)
    (dotted_one SpellsMChunk first chunk s)
    (one_more sign m.1.first m.1.more m.0.first m.0.more m.1.first_is m.1.more_is)

before_mark : (first others : List ℕ) (chunk : PlainMChunk) (mark : ℕ) → is_mark mark ≡ true
    → SpellsMChunk first chunk → Spelled others → Spelled (first ++ mark ∷ others)
before_mark first others chunk mark h s m = elim (or_cases (mark == dot) (is_sep mark) h) [
  | inl at_dot ↦
      let same = sym (eqb-true mark dot at_dot) in
      subst (λ (b : ℕ). Spelled (first ++ b ∷ others)) same (before_dot first others chunk s m)
  | inr at_sign ↦
      let sign = sign_of mark at_sign in
      let spelled = before_sign first others chunk sign.0 s m in
      subst (λ (b : ℕ). Spelled (first ++ b ∷ others)) (sym sign.1) spelled
]

pieces_spell : (text : List ℕ) (parts : List (List ℕ)) → JoinedBy is_mark text parts
    → list_all (is_run is_ascii_alphanumeric) parts ≡ true → Spelled text
unfolding JoinedBy
pieces_spell text [] j passes = absurd j
pieces_spell text (first ∷ []) j passes = grind (arith, run_spells, and_parts, one_chunk)
pieces_spell text (first ∷ next ∷ more) j passes =
    let both =
    and_parts (is_run is_ascii_alphanumeric first)
    (list_all (is_run is_ascii_alphanumeric) (next ∷ more))
    passes in
    let chunk = run_spells first both.0 in
    let others = pieces_spell j.1 (next ∷ more) j.4 both.1 in
    subst Spelled (sym j.3) (before_mark first j.1 chunk.0 j.0 j.2 chunk.1 others)

pub messy_is_spelled : (text : List ℕ) → is_messy text ≡ true → (m : PlainMess) × SpellsMess text m
messy_is_spelled text passes =
    pieces_spell text (slice_split is_mark text) (split_is_joined is_mark text) passes

-- a text that spells no messy version does not pass
pub mess_kind : (text : List ℕ) → is_some (mess_of text) ≡ is_messy text
mess_kind text = told_by_test (mess_of text) (is_messy text)
    (λ m read. spelled_is_messy text m (mess_of-spells text m read))
    (λ passes. let s = messy_is_spelled text passes in (s.0, mess_of-Some text s.0 s.1))
