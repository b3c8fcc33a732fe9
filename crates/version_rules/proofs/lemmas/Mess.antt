-- Messy versions. A prefix spells the version that it parses as, if a dot, a sign or the end
-- follows. A text that spells a version parses as that version, which prints that text.
use Rattle.std.proofs.Common.{◌≡◌, ◌∙◌, ℕ, ◌<◌, List, [], ◌∷◌, ◌++◌, length, Some, None, refl, sym, ap, subst, arith, append-nil, append_assoc, inl, inr}
use Rattle.std.proofs.lemmas.Str.{IsAscii-append}
use Rattle.std.specs.Str.{IsAscii}
use Rattle.version_order.specs.texts.Grammar.{SpellsBehind, SpellsDotted, SpellsEach, EndsList, IsComplete, IsKept, IsPrinted, IsSoundBefore, PlainSep, sep_byte, sep_front}
use Rattle.version_order.specs.texts.{Bytes.dot, Front.repeated}
use Rattle.version_rules.specs.grammar.MChunk.{EndsChunk, PlainMChunk, SpellsMChunk, mchunk_front, mchunk_text}
use Rattle.version_rules.specs.grammar.Mess.{Further, PlainMess, Section, SpellsFurther, SpellsMess, further_front, further_text, joined_section, mess_front, mess_of, mess_text, section_front}
use Rattle.version_order.proofs.lemmas.Front.{dotted_sound_before, Shrinks, cases_Option, each_ends, each_printed, repeated-reads, repeated_follows, repeated_sound}
use Rattle.version_order.proofs.lemmas.Bytes.{IsAscii-nil, metadata_run_ascii, sign_ascii}
use Rattle.version_rules.proofs.lemmas.MChunk.{mchunk_kept, mchunk_sound, section_complete, section_consumes, section_printed, sep_front-Some, sep_of_byte, sign_ends}
use Rattle.version_rules.proofs.lemmas.{Chunk.dotted_printed, Grammar.of_mess, Grammar.whole-Some}

-- ---- a sign and the section after it

pub further_front-Some : (text : List ℕ) (sign : PlainSep) (behind : List ℕ) (section : Section)
    (rest : List ℕ) → sep_front text ≡ Some (sign, behind)
    → section_front behind ≡ Some (section, rest)
    → further_front text ≡ Some ((sign, section), rest)
unfolding further_front
further_front-Some text sign behind section rest e f = rw (e, f) refl

-- if `further_front` returns something, the text begins with a sign and a section
pub further_front-reads : (text : List ℕ) (further : Further) (rest : List ℕ)
    → further_front text ≡ Some (further, rest)
    → (behind : List ℕ) × (text ≡ sep_byte further.0 ∷ behind)
    × (section_front behind ≡ Some (further.1, rest))
unfolding further_front
further_front-reads text further rest e = grind (arith, cases_Option, sep_front-Some)

pub further_shrinks : Shrinks further_front
further_shrinks text further rest e = grind (arith, further_front-reads, section_consumes)

sep_front-reads : (sign : PlainSep) (rest : List ℕ)
    → sep_front (sep_byte sign ∷ rest) ≡ Some (sign, rest)
sep_front-reads sign rest = rw (sep_of_byte sign) refl

further_complete : IsComplete SpellsFurther (EndsList EndsChunk) further_front
further_complete piece further rest s ends =
    let section = section_complete s.0 further.1 rest s.2 ends in
    rw s.1 (further_front-Some (sep_byte further.0 ∷ (s.0 ++ rest)) further.0
    (s.0 ++ rest) further.1 rest (sep_front-reads further.0 (s.0 ++ rest)) section)

further_some : (piece : List ℕ) (further : Further) → SpellsFurther piece further → 0 < length piece
further_some piece further s = omega (arith, ap (λ (l : List ℕ). length l) s.1)

further_ends : (piece : List ℕ) (further : Further) (text : List ℕ) → SpellsFurther piece further
    → EndsList EndsChunk (piece ++ text)
further_ends piece further text s = rw s.1 (sign_ends further.0 (s.0 ++ text))

further_printed : IsPrinted SpellsFurther further_text
further_printed text further s =
    rw s.1 (ap (λ (l : List ℕ). sep_byte further.0 ∷ l) (section_printed s.0 further.1 s.2))

-- ---- all of a version

pub mess_front-Some : (text : List ℕ) (first : Section) (behind : List ℕ)
    → section_front text ≡ Some (first, behind)
    → mess_front text
    ≡ Some (
      record { first = first; more = (repeated further_front (length behind) behind).0 },
      (repeated further_front (length behind) behind).1,
    )
unfolding mess_front
mess_front-Some text first behind e = rw e refl

pub mess_front-None : (text : List ℕ) → section_front text ≡ None → mess_front text ≡ None
unfolding mess_front
mess_front-None text e = rw e refl

-- Prefixes that parse, if parsing chunks is sound before a dot, a sign, and what follows the
-- version.
module _ (Spells : List ℕ → PlainMChunk → Type 0) (Follows : List ℕ → Type 0)
    (sound : IsSoundBefore Follows Spells mchunk_front)
    (follows_at_dot : (text : List ℕ) → Follows (dot ∷ text))
    (follows_at_sign : (sign : PlainSep) (text : List ℕ) → Follows (sep_byte sign ∷ text)) where
  -- a sign, and a section after it
  abbrev SpellsFurtherOf : List ℕ → Further → Type 0
  SpellsFurtherOf text further =
      SpellsBehind (sep_byte further.0) (SpellsDotted Spells) text further.1

  sections : IsSoundBefore Follows (SpellsDotted Spells) section_front
  sections = dotted_sound_before Spells mchunk_front Follows sound follows_at_dot

  further_sound : IsSoundBefore Follows SpellsFurtherOf further_front
  further_sound text further rest e follows =
      let parts = further_front-reads text further rest e in
      let read = sections parts.0 further.1 rest parts.2 follows in
      let mark = sep_byte further.0 in
      (mark ∷ read.0, parts.1 ∙ ap (λ (l : List ℕ). mark ∷ l) read.1, (read.0, refl, read.2))

  further_follows : (text : List ℕ) (p : Further × List ℕ) → further_front text ≡ Some p
      → Follows text
  further_follows text p e =
      let parts = further_front-reads text p.0 p.1 e in
      rw parts.1 (follows_at_sign p.0.0 parts.0)

  -- the first section and the further ones that are parsed, and the texts that spell them
  mess_parts : (text : List ℕ) (m : PlainMess) (rest : List ℕ) → mess_front text ≡ Some (m, rest)
      → Follows rest
      → (first more : List ℕ) × (text ≡ (first ++ more) ++ rest) × SpellsDotted Spells first m.first
      × SpellsEach SpellsFurtherOf more m.more
  mess_parts text m rest e follows = elim (cases_Option (section_front text)) [
    | inl none ↦ cc (sym (mess_front-None text none) ∙ e)
    | inr one ↦
        let first = one.0.0 in
        let behind = one.0.1 in
        let more = repeated further_front (length behind) behind in
        let read : PlainMess = record { first = first; more = more.0 } in
        let same : (read, more.1) ≡ (m, rest) =
        cc (sym (mess_front-Some text first behind one.1) ∙ e) in
        let left : more.1 ≡ rest = ap (λ (p : PlainMess × List ℕ). p.1) same in
        let last : Follows more.1 = subst Follows (sym left) follows in
        let a = sections text first behind one.1
        (repeated_follows SpellsFurtherOf further_front Follows further_sound further_follows
        (length behind) behind last) in
        let b = repeated_sound SpellsFurtherOf further_front Follows further_sound further_follows
        (length behind) behind last in
        let in_pieces : text ≡ (a.0 ++ b.0) ++ more.1 =
        a.1 ∙ ap (λ (l : List ℕ). a.0 ++ l) b.1 ∙ sym (append_assoc a.0 b.0 more.1) in
        subst (λ (p : PlainMess × List ℕ). (x y : List ℕ) × (text ≡ (x ++ y) ++ p.1)
        × SpellsDotted Spells x p.0.first × SpellsEach SpellsFurtherOf y p.0.more) same
        (a.0, b.0, in_pieces, a.2, b.2)
  ]

pub mess_sound : IsSoundBefore EndsChunk SpellsMess mess_front
mess_sound text m rest e ends =
    let parts = mess_parts SpellsMChunk EndsChunk mchunk_sound (λ text. refl)
    (λ sign text. (sign_ends sign text).0) text m rest e ends in (
      parts.0 ++ parts.1,
      parts.2,
      record {
        first =
            parts.0;
        more = parts.1;
        whole_is = refl;
        first_is = parts.3;
        more_is = parts.4;
      },
    )

-- whatever follows, the version prints the prefix that was parsed
pub mess_kept : IsKept mess_text mess_front
mess_kept text m rest e =
    let Prints : List ℕ → PlainMChunk → Type 0 = λ piece chunk. mchunk_text chunk ≡ piece in
    let read : IsSoundBefore (λ rest. Unit {0}) Prints mchunk_front =
    λ text chunk rest e follows. (mchunk_text chunk, mchunk_kept text chunk rest e, refl) in
    let parts = mess_parts Prints (λ rest. Unit {0}) read (λ text. tt)
    (λ sign text. tt) text m rest e tt in
    let section : IsPrinted (SpellsDotted Prints) joined_section =
    dotted_printed Prints mchunk_text (λ piece chunk e. e) in
    let further : IsPrinted
    (λ piece (f : Further). SpellsBehind (sep_byte f.0) (SpellsDotted Prints) piece f.1)
    further_text =
    λ piece f s. rw s.1 (ap (λ (l : List ℕ). sep_byte f.0 ∷ l) (section s.0 f.1 s.2)) in
    let printed : mess_text m ≡ parts.0 ++ parts.1 =
    (λ i. section parts.0 m.first parts.3 i
    ++ each_printed _ further_text further parts.1 m.more parts.4 i) in
    parts.2 ∙ ap (λ (l : List ℕ). l ++ rest) (sym printed)

nothing_behind : further_front [] ≡ None
unfolding further_front
nothing_behind = refl

pub mess_complete : (text : List ℕ) (m : PlainMess) → SpellsMess text m
    → mess_front text ≡ Some (m, [])
mess_complete text m s =
    let end : EndsList EndsChunk [] = (refl, refl) in
    let ends = rw append-nil at
    (each_ends SpellsFurther further_front
    (EndsList EndsChunk) further_complete further_some further_ends s.more [] m.more s.more_is
    end) in
    let first : section_front text ≡ Some (m.first, s.more) =
    rw s.whole_is (section_complete s.first m.first s.more s.first_is ends) in
    let more : repeated further_front (length s.more) s.more ≡ (m.more, []) =
    rw append-nil at
    (repeated-reads SpellsFurther further_front
    (EndsList EndsChunk) further_complete further_some further_ends
    (length s.more) s.more [] m.more s.more_is
    end nothing_behind (omega arith)) in
    mess_front-Some text m.first s.more first ∙ rw more refl

-- a text spells at most one version
pub mess_unique : (text : List ℕ) (m n : PlainMess) → SpellsMess text m → SpellsMess text n → m ≡ n
mess_unique text m n s t =
    let same : (m, []) ≡ (n, []) = cc (sym (mess_complete text m s) ∙ mess_complete text n t) in
    ap (λ (p : PlainMess × List ℕ). p.0) same

-- if no rest is left, the whole text spells the version
pub mess_whole : (text : List ℕ) (m : PlainMess) → mess_front text ≡ Some (m, [])
    → SpellsMess text m
mess_whole text m e = grind (arith, mess_sound, append-nil)

pub mess_printed : IsPrinted SpellsMess mess_text
mess_printed text m s = grind (arith, section_printed, each_printed, further_printed)

pub mess_ascii : (text : List ℕ) (m : PlainMess) → SpellsMess text m → IsAscii text
mess_ascii = of_mess IsAscii IsAscii-nil IsAscii-append metadata_run_ascii sign_ascii

-- a text that spells a version parses as that version
pub mess_of-Some : (text : List ℕ) (m : PlainMess) → SpellsMess text m → mess_of text ≡ Some m
unfolding mess_of
mess_of-Some text m s = rw (mess_complete text m s) refl

pub mess_of-spells : (text : List ℕ) (m : PlainMess) → mess_of text ≡ Some m → SpellsMess text m
unfolding mess_of
mess_of-spells text m e = mess_whole text m (whole-Some _ m e)
