-- Messy chunks, sections of them, and signs: their fronts read what is spelled, and nothing else if
-- a dot, a sign or the end follows.
use Rattle.std.proofs.Common.{◌≡◌, ◌==◌, ◌^◌, ℕ, ◌<◌, true, List, [], ◌∷◌, ◌++◌, length, map, Option, Some, None, if◌then◌else◌, refl, sym, ap, ◌∙◌, arith, inl, inr, subst, rules}
use Rattle.std.proofs.lemmas.{Bool.cases_Bool, Bool.eqb-true, Bool.ltb-true, Bool.lt-ltb, Bool.Decides.nat_tests}
use Rattle.std.specs.{Char.is_ascii_alphanumeric, Cmp.second_so, List.join_with_byte, List.list_all}
use Rattle.version_order.specs.texts.Grammar.{SpellsDotted, EndsList, EndsRun, IsComplete, IsKept, IsPrinted, IsSoundBefore, PlainSep, Colon, Hyphen, Plus, Underscore, Tilde, sep_byte, sep_front, sep_of}
use Rattle.version_order.specs.texts.{Bytes.dot, Front.is_digits, Front.Consumes, Front.dotted_front, Front.run_front}
use Rattle.version_rules.specs.grammar.MChunk.{Digits, Rev, Plain, EndsChunk, PlainMChunk, SpellsDigits, SpellsMChunk, SpellsRevision, chunk_before, ends_chunk, mchunk_front, mchunk_text, value_of_digits, value_of_revision, variant_of}
use Rattle.version_rules.specs.laws.Front.{mchunk_consumes}
use Rattle.version_rules.proofs.lemmas.Chunk.{digit_alphanumeric, dotted_printed}
use Rattle.version_order.proofs.lemmas.Front.{dotted_complete, dotted_consumes, cases_Option, after_mark-Some, all_weaker, reads_run, run_front-reads}

-- ---- the value of a text of digits, and of a revision

digits-Some : (text : List ℕ) (value : ℕ) → SpellsDigits text value
    → value_of_digits text ≡ Some value
digits-Some text value s = rw (s.digits, s.value_is, lt-ltb value (2 ^ 32) s.fits) refl

digits_spelled : (text : List ℕ) (value : ℕ) → value_of_digits text ≡ Some value
    → SpellsDigits text value
digits_spelled text value e = grind (arith, cases_Bool, ltb-true)

revision-Some : (text : List ℕ) (value : ℕ) → SpellsRevision text value
    → value_of_revision text ≡ Some value
revision-Some text value s = rw s.1 (digits-Some s.0 value s.2)

revision_spelled : (text : List ℕ) (value : ℕ) → value_of_revision text ≡ Some value
    → SpellsRevision text value
revision_spelled text value e = grind (arith, cases_Option, after_mark-Some, digits_spelled)

-- nothing is read if nothing is spelled
none_read : (Spells : ℕ → Type 0) (o : Option ℕ) → ((value : ℕ) → o ≡ Some value → Spells value)
    → ((value : ℕ) → ¬ Spells value) → o ≡ None
none_read Spells None read none = refl
none_read Spells (Some value) read none = absurd (none value (read value refl))

nothing_spelled : (Spells : ℕ → Type 0) (o : Option ℕ) → o ≡ None
    → ((value : ℕ) → Spells value → o ≡ Some value) → (value : ℕ) → ¬ Spells value
nothing_spelled Spells o none spelled value s = cc (none, spelled value s)

-- ---- the chunk of a run

variant-Digits : (run : List ℕ) (value : ℕ) → value_of_digits run ≡ Some value
    → variant_of run ≡ Digits value run
unfolding variant_of
variant-Digits run value e = rw e refl

variant-Rev : (run : List ℕ) (value : ℕ) → value_of_digits run ≡ None
    → value_of_revision run ≡ Some value → variant_of run ≡ Rev value run
unfolding variant_of
variant-Rev run value none e = rw (none, e) refl

variant-Plain : (run : List ℕ) → value_of_digits run ≡ None → value_of_revision run ≡ None
    → variant_of run ≡ Plain run
unfolding variant_of
variant-Plain run none no_revision = rw (none, no_revision) refl

-- a revision begins with a letter
revision_no_digits : (text : List ℕ) (value : ℕ) → SpellsRevision text value
    → value_of_digits text ≡ None
revision_no_digits text value s = rw s.1 refl

pub spelled_variant : (run : List ℕ) (chunk : PlainMChunk) → SpellsMChunk run chunk
    → variant_of run ≡ chunk
spelled_variant run (Digits value kept) s =
    variant-Digits run value (digits-Some run value s.1) ∙ ap (Digits value) s.0
spelled_variant run (Rev value kept) s =
    variant-Rev run value (revision_no_digits run value s.1) (revision-Some run value s.1)
    ∙ ap (Rev value) s.0
spelled_variant run (Plain kept) s =
    variant-Plain run
    (none_read (SpellsDigits run) (value_of_digits run) (digits_spelled run) s.1.no_digits)
    (none_read (SpellsRevision run) (value_of_revision run) (revision_spelled run) s.1.no_revision)
    ∙ ap Plain s.0

variant_spelled : (run : List ℕ) → list_all is_ascii_alphanumeric run ≡ true → 0 < length run
    → SpellsMChunk run (variant_of run)
variant_spelled run all some =
    search (
      rules,
      cases_Option,
      variant-Digits,
      digits_spelled,
      variant-Rev,
      revision_spelled,
      variant-Plain,
      nothing_spelled,
      digits-Some,
      revision-Some,
    )

-- ---- what is spelled is a run of letters and digits

some_digits : (text : List ℕ) → is_digits text ≡ true → 0 < length text
some_digits [] e = cc e
some_digits (b ∷ text) e = omega arith

digits_run : (text : List ℕ) (value : ℕ) → SpellsDigits text value
    → list_all is_ascii_alphanumeric text ≡ true
digits_run text value s =
    all_weaker _ is_ascii_alphanumeric digit_alphanumeric text (second_so _ _ s.digits)

nonempty : (text : List ℕ) → ¬ (text ≡ []) → 0 < length text
nonempty [] some = absurd (some refl)
nonempty (b ∷ text) some = omega arith

pub spelled_run : (text : List ℕ) (chunk : PlainMChunk) → SpellsMChunk text chunk
    → list_all is_ascii_alphanumeric text ≡ true
spelled_run text (Digits value kept) s = digits_run text value s.1
spelled_run text (Rev value kept) s = rw s.1.1 (digits_run s.1.0 value s.1.2)
spelled_run text (Plain kept) s = s.1.run

pub spelled_some : (text : List ℕ) (chunk : PlainMChunk) → SpellsMChunk text chunk → 0 < length text
spelled_some text (Digits value kept) s = some_digits text s.1.digits
spelled_some text (Rev value kept) s = rw s.1.1 (omega arith)
spelled_some text (Plain kept) s = nonempty text s.1.some

-- ---- the front

ends_run : (rest : List ℕ) → EndsChunk rest → EndsRun is_ascii_alphanumeric rest
ends_run [] e = refl
ends_run (b ∷ rest) e = grind (arith, nat_tests)

pub mchunk_front-Some : (text run rest : List ℕ)
    → run_front is_ascii_alphanumeric text ≡ Some (run, rest)
    → mchunk_front text ≡ Some (chunk_before (run, rest), rest)
unfolding mchunk_front
mchunk_front-Some text run rest e = rw e refl

pub mchunk_front-None : (text : List ℕ) → run_front is_ascii_alphanumeric text ≡ None
    → mchunk_front text ≡ None
unfolding mchunk_front
mchunk_front-None text e = rw e refl

pub mchunk_complete : IsComplete SpellsMChunk EndsChunk mchunk_front
mchunk_complete piece chunk rest s ends =
    let read = run_front-reads is_ascii_alphanumeric piece rest (spelled_run piece chunk s)
    (spelled_some piece chunk s) (ends_run rest ends) in
    mchunk_front-Some (piece ++ rest) piece rest read
    ∙ rw (ends, spelled_variant piece chunk s) refl

pub mchunk_sound : IsSoundBefore EndsChunk SpellsMChunk mchunk_front
mchunk_sound text chunk rest e ends = elim (cases_Option (run_front is_ascii_alphanumeric text)) [
  | inl none ↦ cc (sym (mchunk_front-None text none) ∙ e)
  | inr one ↦
      let run = reads_run is_ascii_alphanumeric text one.0.0 one.0.1 one.1 in
      let same : (chunk_before one.0, one.0.1) ≡ (chunk, rest) =
      cc (sym (mchunk_front-Some text one.0.0 one.0.1 one.1) ∙ e) in
      let left : one.0.1 ≡ rest = ap (λ (p : PlainMChunk × List ℕ). p.1) same in
      let ended : ends_chunk one.0.1 ≡ true = rw left ends in
      let value : variant_of one.0.0 ≡ chunk =
      rw ended at (ap (λ (p : PlainMChunk × List ℕ). p.0) same) in (
        one.0.0,
        run.whole ∙ ap (λ (l : List ℕ). one.0.0 ++ l) left,
        subst (SpellsMChunk one.0.0) value (variant_spelled one.0.0 run.all run.some),
      )
]

variant_text : (run : List ℕ) → mchunk_text (variant_of run) ≡ run
variant_text run = search (rules, cases_Option, variant-Digits, variant-Rev, variant-Plain)

pub chunk_text : (run : List ℕ × List ℕ) → mchunk_text (chunk_before run) ≡ run.0
chunk_text run = grind (arith, cases_Bool, variant_text)

pub mchunk_kept : IsKept mchunk_text mchunk_front
mchunk_kept text chunk rest e = elim (cases_Option (run_front is_ascii_alphanumeric text)) [
  | inl none ↦ cc (sym (mchunk_front-None text none) ∙ e)
  | inr one ↦
      let run = reads_run is_ascii_alphanumeric text one.0.0 one.0.1 one.1 in
      let same : (chunk_before one.0, one.0.1) ≡ (chunk, rest) =
      cc (sym (mchunk_front-Some text one.0.0 one.0.1 one.1) ∙ e) in
      let kept : one.0.0 ≡ mchunk_text chunk =
      sym (chunk_text one.0) ∙ ap (λ (p : PlainMChunk × List ℕ). mchunk_text p.0) same in
      let left : one.0.1 ≡ rest = ap (λ (p : PlainMChunk × List ℕ). p.1) same in
      run.whole ∙ (λ i. kept i ++ left i)
]

pub mchunk_printed : IsPrinted SpellsMChunk mchunk_text
mchunk_printed text (Digits value kept) s = sym s.0
mchunk_printed text (Rev value kept) s = sym s.0
mchunk_printed text (Plain kept) s = sym s.0

-- ---- sections: messy chunks joined by dots

pub section_complete : IsComplete (SpellsDotted SpellsMChunk) (EndsList EndsChunk)
    (dotted_front mchunk_front)
section_complete =
    dotted_complete SpellsMChunk mchunk_front EndsChunk mchunk_complete (λ text. refl)

pub section_printed : IsPrinted (SpellsDotted SpellsMChunk)
    (λ chunks. join_with_byte dot (map mchunk_text chunks))
section_printed = dotted_printed SpellsMChunk mchunk_text mchunk_printed

pub section_consumes : Consumes (dotted_front mchunk_front)
section_consumes = dotted_consumes mchunk_front mchunk_consumes

-- ---- signs

pub sep_of_byte : (sign : PlainSep) → sep_of (sep_byte sign) ≡ Some sign
sep_of_byte Colon = refl
sep_of_byte Hyphen = refl
sep_of_byte Plus = refl
sep_of_byte Underscore = refl
sep_of_byte Tilde = refl

-- each mark is tried in turn
byte_tried : (mark b : ℕ) (here sign : PlainSep) (others : Option PlainSep) → sep_byte here ≡ mark
    → (others ≡ Some sign → b ≡ sep_byte sign)
    → (if b == mark then Some here else others) ≡ Some sign → b ≡ sep_byte sign
byte_tried mark b here sign others is further e = grind (arith, cases_Bool, eqb-true)

pub byte_of_sep : (b : ℕ) (sign : PlainSep) → sep_of b ≡ Some sign → b ≡ sep_byte sign
byte_of_sep b sign = grind (arith, byte_tried)

pub sep_front-Some : (text : List ℕ) (sign : PlainSep) (rest : List ℕ)
    → sep_front text ≡ Some (sign, rest) → text ≡ sep_byte sign ∷ rest
sep_front-Some [] sign rest e = cc e
sep_front-Some (b ∷ text) sign rest e = grind (arith, cases_Option, byte_of_sep)

-- a sign ends a chunk, and is not a dot
pub sign_ends : (sign : PlainSep) (text : List ℕ) → EndsList EndsChunk (sep_byte sign ∷ text)
sign_ends Colon text = (refl, refl)
sign_ends Hyphen text = (refl, refl)
sign_ends Plus text = (refl, refl)
sign_ends Underscore text = (refl, refl)
sign_ends Tilde text = (refl, refl)
