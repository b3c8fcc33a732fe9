-- General versions. A prefix spells the version that it parses as, a text that spells a version
-- parses as that version, and the version prints that text.
use Rattle.std.proofs.Common.{◌≡◌, ◌==◌, ◌∙◌, ℕ, Bool, true, not, List, [], ◌∷◌, ◌++◌, Option, Some, None, refl, sym, ap, subst, arith, inl, inr, append_assoc}
use Rattle.std.proofs.lemmas.{Bool.cases_Bool, Bool.eqb-true, Bool.Decides.nat_tests, Str.IsAscii-append}
use Rattle.std.specs.{Char.is_ascii_alphanumeric, Cmp.first_so, Cmp.second_so, List.list_all, Str.IsAscii}
use Rattle.version_rules.specs.grammar.Body.{PlainBody, SpellsBody, body_front, SpellsMetadata, meta_front, SpellsRelease, release_front, release_text}
use Rattle.version_rules.specs.grammar.Version.{PlainVersion, SpellsEpoch, SpellsVersion, epoch_front, epoch_text, version_front, version_of, version_text}
use Rattle.version_rules.specs.grammar.Chunk.{Numeric, chunk_front, SpellsNumeral, unsigned_front}
use Rattle.version_order.specs.texts.Bytes.{colon, dot, hyphen, is_metadata_byte, plus}
use Rattle.version_order.specs.texts.{Front.after_mark, Front.dotted_front, Front.optional, Front.run_front, Grammar.SpellsDotted, Grammar.IsPrinted, Grammar.IsSound}
use Rattle.version_order.proofs.lemmas.{Bytes.IsAscii-nil, Bytes.metadata_run_ascii, Bytes.sign_ascii, Front.cases_Option, Front.all_weaker}
use Rattle.version_rules.proofs.lemmas.Grammar.{of_body, of_metadata, of_optional, of_release, read_whole, spelled_once, whole_read, whole_spelled, of_version}
use Rattle.version_rules.proofs.lemmas.{Body.body_complete, Body.body_printed, Body.body_sound, Chunk.metadata_sound, Chunk.optional_sound, Chunk.release_printed, Chunk.release_sound}
use Rattle.version_rules.proofs.lemmas.{Numeral.numeral_printed, Numeral.unsigned_complete, Numeral.unsigned_sound, SemVer.ends_complete, SemVer.optional_printed}
use Rattle.version_rules.specs.grammar.Last as last

-- what `version_front` returns after a body
version_front-Some : (text : List ℕ) (epoch : Option ℕ × List ℕ) (body : PlainBody × List ℕ)
    → optional epoch_front text ≡ epoch → body_front epoch.1 ≡ Some body
    → version_front text ≡ Some (
      record {
        epoch = epoch.0;
        chunks = body.0.0;
        last = body.0.1;
        release = (optional release_front body.1).0;
        meta = (optional meta_front (optional release_front body.1).1).0;
      },
      (optional meta_front (optional release_front body.1).1).1,
    )
unfolding version_front
version_front-Some text epoch body e f = rw (e, f) refl

version_front-None : (text : List ℕ) → body_front (optional epoch_front text).1 ≡ None
    → version_front text ≡ None
unfolding version_front
version_front-None text e = rw e refl

-- ---- epochs

-- the byte mark, if a text begins with it
marked : (mark : ℕ) (text rest : List ℕ) → after_mark mark text ≡ Some rest → text ≡ mark ∷ rest
marked mark [] rest e = cc e
marked mark (b ∷ text) rest e = grind (arith, cases_Bool, eqb-true)

epoch_front-Some : (text : List ℕ) (number : ℕ × List ℕ) (rest : List ℕ)
    → unsigned_front text ≡ Some number → after_mark colon number.1 ≡ Some rest
    → epoch_front text ≡ Some (number.0, rest)
unfolding epoch_front
epoch_front-Some text number rest e f = rw (e, f) refl

epoch_front-None : (text : List ℕ) → unsigned_front text ≡ None → epoch_front text ≡ None
unfolding epoch_front
epoch_front-None text e = rw e refl

epoch_front-unmarked : (text : List ℕ) (number : ℕ × List ℕ) → unsigned_front text ≡ Some number
    → after_mark colon number.1 ≡ None → epoch_front text ≡ None
unfolding epoch_front
epoch_front-unmarked text number e f = rw (e, f) refl

optional-None : {X : Type 0} (front : List ℕ → Option (X × List ℕ)) (text : List ℕ)
    → front text ≡ None → optional front text ≡ (None, text)
unfolding optional
optional-None front text e = rw e refl

optional-Some : {X : Type 0} (front : List ℕ → Option (X × List ℕ)) (text : List ℕ) (p : X × List ℕ)
    → front text ≡ Some p → optional front text ≡ (Some p.0, p.1)
unfolding optional
optional-Some front text p e = rw e refl

epoch_sound : (text : List ℕ)
    → (piece : List ℕ) × (text ≡ piece ++ (optional epoch_front text).1)
    × SpellsEpoch piece (optional epoch_front text).0
unfolding SpellsEpoch
epoch_sound text = elim (cases_Option (unsigned_front text)) [
  | inl none ↦ rw (optional-None epoch_front text (epoch_front-None text none)) ([], refl, refl)
  | inr number ↦ elim (cases_Option (after_mark colon number.0.1)) [
    | inl none ↦ rw (optional-None epoch_front text
        (epoch_front-unmarked text number.0 number.1 none)) ([], refl, refl)
    | inr rest ↦
        let read = unsigned_sound text number.0.0 number.0.1 number.1 in
        let front = epoch_front-Some text number.0 rest.0 number.1 rest.1 in
        rw (optional-Some epoch_front text (number.0.0, rest.0) front) (
          read.0 ++ colon ∷ [],
          read.1 ∙ ap (λ (l : List ℕ). read.0 ++ l) (marked colon number.0.1 rest.0 rest.1)
              ∙ sym (append_assoc read.0 (colon ∷ []) rest.0),
          (read.0, refl, read.2),
        )
  ]
]

numeral_body : (text : List ℕ) (n : ℕ) → SpellsNumeral text n → SpellsBody text ([], last.Numeric n)
unfolding SpellsDotted
numeral_body text n s = record { part = Numeric n; parts_are = s; last_is = refl }

-- an epoch is a body that a colon follows
epoch_body : (text : List ℕ) (epoch : ℕ × List ℕ) → epoch_front text ≡ Some epoch
    → body_front text ≡ Some (([], last.Numeric epoch.0), colon ∷ epoch.1)
epoch_body text epoch e = elim (cases_Option (unsigned_front text)) [
  | inl none ↦ cc (epoch_front-None text none, e)
  | inr number ↦ elim (cases_Option (after_mark colon number.0.1)) [
    | inl none ↦ cc (epoch_front-unmarked text number.0 number.1 none, e)
    | inr rest ↦
        let read = unsigned_sound text number.0.0 number.0.1 number.1 in
        let mark : number.0.1 ≡ colon ∷ rest.0 = marked colon number.0.1 rest.0 rest.1 in
        let same : (number.0.0, rest.0) ≡ epoch =
        cc (sym (epoch_front-Some text number.0 rest.0 number.1 rest.1) ∙ e) in
        let spelled = numeral_body read.0 number.0.0 read.2 in
        let in_pieces : text ≡ read.0 ++ colon ∷ rest.0 =
        read.1 ∙ ap (λ (l : List ℕ). read.0 ++ l) mark in
        let body = ap body_front in_pieces
        ∙ body_complete read.0 ([], last.Numeric number.0.0) (colon ∷ rest.0) spelled
        (refl, refl) in
        subst (λ (p : ℕ × List ℕ). body_front text ≡ Some (([], last.Numeric p.0), colon ∷ p.1))
        same body
  ]
]

no_epoch : (text : List ℕ) (body : PlainBody × List ℕ) → body_front text ≡ Some body
    → after_mark colon body.1 ≡ None → optional epoch_front text ≡ (None, text)
no_epoch text body e ends = grind (arith, cases_Option, optional-None, epoch_body)

pub epoch_unread : (text : List ℕ) (body : PlainBody × List ℕ) → Some body ≡ body_front text
    → None ≡ after_mark colon body.1 → None ≡ (optional epoch_front text).0
epoch_unread text body e ends = rw (no_epoch text body (sym e) (sym ends)) refl

pub body_alone : (text : List ℕ) (body : PlainBody × List ℕ) → Some body ≡ body_front text
    → None ≡ after_mark colon body.1 → Some body ≡ body_front (optional epoch_front text).1
body_alone text body e ends = rw (no_epoch text body (sym e) (sym ends)) e

-- if a text begins with no body, no body follows its epoch
pub body_unread : (text : List ℕ) → None ≡ body_front text
    → None ≡ body_front (optional epoch_front text).1
body_unread text e = grind (arith, cases_Option, optional-None, epoch_body)

-- a text without a colon
abbrev HasNoColon : List ℕ → Type 0
HasNoColon text = list_all (λ b. not (b == colon)) text ≡ true

right_part : (test : ℕ → Bool) (a b : List ℕ) → list_all test (a ++ b) ≡ true
    → list_all test b ≡ true
right_part test [] b h = h
right_part test (x ∷ a) b h = right_part test a b (second_so _ _ h)

both_parts : (test : ℕ → Bool) (a b : List ℕ) → list_all test a ≡ true → list_all test b ≡ true
    → list_all test (a ++ b) ≡ true
both_parts test [] b g h = h
both_parts test (x ∷ a) b g h =
    let first : test x ≡ true = first_so _ _ g in
    rw first (both_parts test a b (second_so _ _ g) h)

no_mark : (text : List ℕ) → HasNoColon text → after_mark colon text ≡ None
no_mark text h = grind (arith, cases_Option, marked)

-- without a colon no epoch parses
epoch_absent : (text : List ℕ) → HasNoColon text → epoch_front text ≡ None
epoch_absent text h = elim (cases_Option (unsigned_front text)) [
  | inl none ↦ epoch_front-None text none
  | inr number ↦
      let read = unsigned_sound text number.0.0 number.0.1 number.1 in
      epoch_front-unmarked text number.0 number.1
      (no_mark number.0.1 (right_part _ read.0 number.0.1 (rw read.1 at h)))
]

not_colon : (b : ℕ) → is_metadata_byte b ≡ true → not (b == colon) ≡ true
not_colon b h = grind (arith, nat_tests)

run_without_colon : (text : List ℕ) → list_all is_metadata_byte text ≡ true → HasNoColon text
run_without_colon = all_weaker is_metadata_byte (λ b. not (b == colon)) not_colon

-- no colon follows the epoch
tail_without_colon : (text : List ℕ) (v : PlainVersion) (s : SpellsVersion text v)
    → HasNoColon (s.body ++ (s.release ++ s.meta))
tail_without_colon text v s =
    let together = both_parts (λ b. not (b == colon)) in
    let release =
    of_optional HasNoColon refl together run_without_colon hyphen SpellsRelease refl
    (of_release HasNoColon refl together run_without_colon) s.release v.release s.release_is in
    let meta = of_optional HasNoColon refl together run_without_colon plus SpellsMetadata refl
    (of_metadata HasNoColon refl together run_without_colon) s.meta v.meta s.meta_is in
    let body = of_body HasNoColon refl together run_without_colon s.body
    (v.chunks, v.last) s.body_is in
    together s.body (s.release ++ s.meta) body (together s.release s.meta release meta)

epoch_complete : (piece : List ℕ) (o : Option ℕ) (rest : List ℕ) → SpellsEpoch piece o
    → HasNoColon rest → optional epoch_front (piece ++ rest) ≡ (o, rest)
unfolding SpellsEpoch
epoch_complete piece None rest s h = rw s (optional-None epoch_front rest (epoch_absent rest h))
epoch_complete piece (Some n) rest s h =
    let number : unsigned_front (s.0 ++ colon ∷ rest) ≡ Some (n, colon ∷ rest) =
    unsigned_complete s.0 n (colon ∷ rest) s.2 refl in
    let again : piece ++ rest ≡ s.0 ++ colon ∷ rest =
    ap (λ (l : List ℕ). l ++ rest) s.1 ∙ append_assoc s.0 (colon ∷ []) rest in
    rw again (optional-Some epoch_front _ (n, rest)
    (epoch_front-Some _ (n, colon ∷ rest) rest number refl))

-- ---- versions

regroup : (a b c d rest : List ℕ) → a ++ (b ++ (c ++ (d ++ rest))) ≡ (a ++ (b ++ (c ++ d))) ++ rest
regroup a b c d rest = simp append_assoc

pub version_sound : IsSound SpellsVersion version_front
version_sound text v rest e = elim (cases_Option (body_front (optional epoch_front text).1)) [
  | inl none ↦ cc (version_front-None text none, e)
  | inr body ↦
      let epoch = optional epoch_front text in
      let release = optional release_front body.0.1 in
      let meta = optional meta_front release.1 in
      let a = epoch_sound text in
      let b = body_sound epoch.1 body.0.0 body.0.1 body.1 in
      let c = optional_sound hyphen SpellsRelease
      (dotted_front chunk_front) release_sound body.0.1 in
      let d = optional_sound plus SpellsMetadata
      (run_front is_metadata_byte) metadata_sound release.1 in
      let read : PlainVersion =
      record {
        epoch =
            epoch.0;
        chunks = body.0.0.0;
        last = body.0.0.1;
        release = release.0;
        meta = meta.0;
      } in
      let same : (read, meta.1) ≡ (v, rest) =
      cc (sym (version_front-Some text epoch body.0 refl body.1) ∙ e) in
      let piece = a.0 ++ (b.0 ++ (c.0 ++ d.0)) in
      let in_pieces : text ≡ piece ++ meta.1 =
      a.1 ∙ ap (λ (l : List ℕ). a.0 ++ l)
      (b.1 ∙ ap (λ (l : List ℕ). b.0 ++ l) (c.1 ∙ ap (λ (l : List ℕ). c.0 ++ l) d.1))
      ∙ regroup a.0 b.0 c.0 d.0 meta.1 in
      let spelled : SpellsVersion piece read = record {
        epoch = a.0;
        body = b.0;
        release = c.0;
        meta = d.0;
        whole = refl;
        epoch_is = a.2;
        body_is = b.2;
        release_is = c.2;
        meta_is = d.2;
      } in
      subst (λ (p : PlainVersion × List ℕ). (x : List ℕ) × (text ≡ x ++ p.1) × SpellsVersion x p.0)
      same (piece, in_pieces, spelled)
]

pub version_complete : (text : List ℕ) (v : PlainVersion) → SpellsVersion text v
    → version_front text ≡ Some (v, [])
version_complete text v s =
    let tail = s.release ++ s.meta in
    let read = ends_complete s.release s.meta v.release v.meta s.release_is s.meta_is in
    let epoch : optional epoch_front (s.epoch ++ (s.body ++ tail)) ≡ (v.epoch, s.body ++ tail) =
    epoch_complete s.epoch v.epoch (s.body ++ tail) s.epoch_is (tail_without_colon text v s) in
    let body : body_front (s.body ++ tail) ≡ Some ((v.chunks, v.last), tail) =
    body_complete s.body (v.chunks, v.last) tail s.body_is
    (read.ends is_ascii_alphanumeric refl refl, read.ends (λ b. b == dot) refl refl) in
    rw s.whole (version_front-Some _ (v.epoch, s.body ++ tail) ((v.chunks, v.last), tail) epoch body
    ∙ rw (read.release_is, read.meta_is) refl)

-- a text spells at most one version
pub version_unique : (text : List ℕ) (v w : PlainVersion) → SpellsVersion text v
    → SpellsVersion text w → v ≡ w
version_unique = spelled_once SpellsVersion version_front version_sound version_complete

-- if no rest is left, the whole text spells the version
pub version_whole : (text : List ℕ) (v : PlainVersion) → version_front text ≡ Some (v, [])
    → SpellsVersion text v
version_whole = whole_spelled SpellsVersion version_front version_sound version_complete

-- a text that spells a version parses as that version
pub version_of-Some : (text : List ℕ) (v : PlainVersion) → SpellsVersion text v
    → version_of text ≡ Some v
unfolding version_of
version_of-Some = whole_read SpellsVersion version_front version_sound version_complete

pub version_of-spells : (text : List ℕ) (v : PlainVersion) → version_of text ≡ Some v
    → SpellsVersion text v
unfolding version_of
version_of-spells = read_whole SpellsVersion version_front version_sound version_complete

epoch_printed : (text : List ℕ) (o : Option ℕ) → SpellsEpoch text o → epoch_text o ≡ text
unfolding SpellsEpoch
epoch_printed text None s = sym s
epoch_printed text (Some n) s = rw (numeral_printed s.0 n s.2) (sym s.1)

pub version_printed : IsPrinted SpellsVersion version_text
version_printed text v s =
    let release =
    optional_printed hyphen SpellsRelease release_text release_printed s.release v.release
    s.release_is in
    let meta = optional_printed plus SpellsMetadata (λ t. t)
    (λ t x h. sym h.0) s.meta v.meta s.meta_is in
    rw (
      epoch_printed s.epoch v.epoch s.epoch_is,
      body_printed s.body (v.chunks, v.last) s.body_is,
      release,
      meta,
    ) (sym s.whole)

pub version_ascii : (text : List ℕ) (v : PlainVersion) → SpellsVersion text v → IsAscii text
version_ascii = of_version IsAscii IsAscii-nil IsAscii-append metadata_run_ascii sign_ascii
