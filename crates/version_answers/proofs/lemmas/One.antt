-- What is written for one version: its pieces, its fields, and sets that words are.
use Rattle.std.proofs.Common.{◌≡◌, ◌+◌, ◌<◌, ◌∙◌, ap, ℕ, Bor, List, [], ◌∷◌, ◌++◌, append_assoc, append-nil, get_or, length, map, sym, take, arith, ◌-◌, drop, Option, Some, None, refl, ◌^◌, Bool, codes, false, nat_lt, subst, true, unwrap_or}
use Rattle.std.proofs.lemmas.{Bool.lt-ltb, List.flat_map_more, List.map-append, List.take_more, List.take_at}
use Rattle.std.specs.{Fmt.decimal, List.flat_map, Option.option_map}
use Rattle.std.proofs.Math.Seq.{drop-append_seam, take-append_seam}
use Rattle.version_order.specs.texts.Bytes.{colon, hyphen, plus}
use Rattle.version_rules.specs.grammar.Versioning.{PlainVersioning, Ideal, General, Complex, versioning_text}
use Rattle.version_rules.specs.grammar.{Body.release_text, Mess.joined_section, SemVer.PlainSemVer, SemVer.optional_text, SemVer.semver_text, Version.PlainVersion, Version.epoch_text, Version.version_text}
use Rattle.version_rules.specs.key.Key.{mess_epoch}
use Rattle.version_texts.specs.VersioningRef.{bare_semver, bare_version, body_alone, field_span, field_text, numbers_alone, span_behind}
use Rattle.version_texts.specs.declared.versioning_ref.field.{Field.Field, Field.TheVariants.Epoch, Field.TheVariants.PreRelease, Field.TheVariants.Release, Field.TheVariants.Metadata}
use Rattle.version_answers.specs.{One.members_text, One.why_text, Sets.HasAny, Sets.keys_of, Sets.reading_of, Sets.set_of}
use Rattle.version_schemes.specs.{Scheme.rules, any.Order.PlainAny, declared.scheme.Scheme.Scheme}
use Rattle.version_sets.proofs.lemmas.{Ends.at_first, Form.holds_ends}
use Rattle.version_sets.specs.Reading.{Member, Reading, Right, Wrong, set_has}
use Rattle.version_sets.specs.{Excluding.AreLeft, Excluding.leave_out, Form.Rise, Form.has, Form.form_bytes, Form.form_ends, Reader.IsWrittenSet, declared.read.pieces.Pieces.Pieces}

-- ---- texts that are added to others, one after another

-- a text added to a list, and then more
pub then : (old : List ℕ) {between new text same : List ℕ} (more : List ℕ) → between ≡ old ++ text → text ≡ same
    → new ≡ between ++ more → new ≡ old ++ (same ++ more)
then old {between} {new} {text} {same} more first is second = grind (arith, append_assoc)

-- the last one
pub last : (old : List ℕ) {new text same : List ℕ} → new ≡ old ++ text → text ≡ same
    → new ≡ old ++ (same ++ [])
last old {new} {text} {same} first is =
    first ∙ ap (λ (l : List ℕ). old ++ l) (is ∙ sym (append-nil same))

-- one piece more of those that are added
pub one_more : (old : List ℕ) {between new : List ℕ} (pieces : List (Bor (List ℕ))) (place : ℕ)
    (d : Bor (List ℕ)) → place < length pieces
    → between ≡ old ++ flat_map (λ piece. piece.now) (take place pieces)
    → new ≡ between ++ (get_or pieces place d).now
    → new ≡ old ++ flat_map (λ piece. piece.now) (take (place + 1) pieces)
one_more old {between} {new} pieces place d within so_far is =
    is ∙ ap (λ (l : List ℕ). l ++ (get_or pieces place d).now) so_far
    ∙ flat_map_more (λ (piece : Bor (List ℕ)). piece.now) old (take place pieces) (get_or pieces place d)
    ∙ ap (λ (some : List (Bor (List ℕ))). old ++ flat_map (λ piece. piece.now) some)
    (sym (take_more pieces place d within))

-- the texts of what comes before a place, and the one there
pub texts-next : {X : Type 0} (text_of : X → List ℕ) (xs : List X) (i : ℕ) (d : X)
    → i < length xs
    → map text_of (take (i + 1) xs) ≡ map text_of (take i xs) ++ text_of (get_or xs i d) ∷ []
texts-next text_of xs i d inside =
    ap (map text_of) (take_more xs i d inside)
    ∙ map-append text_of (take i xs) (get_or xs i d ∷ [])

-- ---- a field of a version lies in its text where its place says

-- a text between others lies where its place says
between : (before text after : List ℕ) (start end : ℕ) → span_behind before text ≡ (start, end)
    → take (end - start) (drop start (before ++ (text ++ after))) ≡ text
between before text after start end place = grind (arith, drop-append_seam, take_at)

-- ---- a field after its mark

-- a mark and a field, or nothing
abbrev marked : ℕ → Option (List ℕ) → List ℕ
marked mark = optional_text mark (λ text. text)

marked_text : {X : Type 0} (mark : ℕ) (text_of : X → List ℕ) (o : Option X)
    → optional_text mark text_of o ≡ marked mark (option_map text_of o)
marked_text mark text_of None = refl
marked_text mark text_of (Some x) = refl

marked_taken : (whole front : List ℕ) (mark : ℕ) (field : Option (List ℕ)) (after : List ℕ)
    (start end : ℕ) → whole ≡ front ++ (marked mark field ++ after)
    → option_map (span_behind (front ++ mark ∷ [])) field ≡ Some (start, end)
    → Some (take (end - start) (drop start whole)) ≡ field
marked_taken whole front mark None after start end is e = cc
marked_taken whole front mark (Some text) after start end is e =
    let place : span_behind (front ++ mark ∷ []) text ≡ (start, end) = cc in
    let cut : whole ≡ (front ++ mark ∷ []) ++ (text ++ after) =
    is ∙ sym (append_assoc front (mark ∷ []) (text ++ after)) in
    ap Some
    (ap (λ (l : List ℕ). take (end - start) (drop start l)) cut
    ∙ between (front ++ mark ∷ []) text after start end place)

-- ---- an epoch

epoch_taken : (epoch : Option ℕ) (rest : List ℕ) (start end : ℕ)
    → option_map (span_behind []) (option_map decimal epoch) ≡ Some (start, end)
    → Some (take (end - start) (drop start (epoch_text epoch ++ rest))) ≡ option_map decimal epoch
epoch_taken None rest start end e = cc
epoch_taken (Some n) rest start end e =
    let place : span_behind [] (decimal n) ≡ (start, end) = cc in
    ap Some
    (ap (λ (l : List ℕ). take (end - start) (drop start l))
    (append_assoc (decimal n) (colon ∷ []) rest)
    ∙ between [] (decimal n) (colon ∷ rest) start end place)

section_taken : (epoch : Option ℕ) (section rest : List ℕ) (start end : ℕ)
    → option_map (span_behind []) (option_map (λ n. section) epoch) ≡ Some (start, end)
    → Some (take (end - start) (drop start (section ++ rest))) ≡ option_map (λ n. section) epoch
section_taken None section rest start end e = cc
section_taken (Some n) section rest start end e =
    let place : span_behind [] section ≡ (start, end) = cc in
    ap Some (between [] section rest start end place)

-- ---- the texts of versions around their fields

semver_around_release : (v : PlainSemVer)
    → semver_text v
    ≡ semver_text (numbers_alone v)
    ++ (optional_text hyphen release_text v.pre_rel ++ marked plus v.meta)
semver_around_release v = simp (append_assoc, append-nil)

semver_around_meta : (v : PlainSemVer)
    → semver_text v ≡ semver_text (bare_semver v) ++ (marked plus v.meta ++ [])
semver_around_meta v = simp (append_assoc, append-nil)

version_around_release : (v : PlainVersion)
    → version_text v
    ≡ version_text (body_alone v)
    ++ (optional_text hyphen release_text v.release ++ marked plus v.meta)
version_around_release v = simp (append_assoc, append-nil)

version_around_meta : (v : PlainVersion)
    → version_text v ≡ version_text (bare_version v) ++ (marked plus v.meta ++ [])
version_around_meta v = simp (append_assoc, append-nil)

-- what lies at a field's place is the field
pub field_taken : (f : Field) (v : PlainVersioning) (start end : ℕ)
    → field_span f v ≡ Some (start, end)
    → Some (take (end - start) (drop start (versioning_text v))) ≡ field_text f v
field_taken Epoch (Ideal v) start end e = cc
field_taken Epoch (General v) start end e = grind (arith, epoch_taken)
field_taken Epoch (Complex m) start end e =
    section_taken (mess_epoch m.first m.more) (joined_section m.first) _ start end e
field_taken PreRelease (Ideal v) start end e = grind (arith, marked_taken, semver_around_release, marked_text)
field_taken PreRelease (General v) start end e = cc
field_taken PreRelease (Complex m) start end e = cc
field_taken Release (Ideal v) start end e = cc
field_taken Release (General v) start end e = grind (arith, marked_taken, version_around_release, marked_text)
field_taken Release (Complex m) start end e = cc
field_taken Metadata (Ideal v) start end e = grind (arith, marked_taken, semver_around_meta)
field_taken Metadata (General v) start end e = grind (arith, marked_taken, version_around_meta)
field_taken Metadata (Complex m) start end e = cc

-- ---- sets that words are: their bytes, and what is read off them

-- bytes are a form, whose ends have just what is to be held
pub record AreHeld (bytes : List ℕ) (holds : List ℕ → Bool) : Type 0 where
  pub form : (bytes ≡ form_bytes (get_or bytes 0 0) (form_ends bytes)) × Rise (form_ends bytes)
  pub have : has (form_ends bytes) ≡ holds

pub are_held : (bytes room : List ℕ) (order size : ℕ) (holds : List ℕ → Bool) → IsWrittenSet room order size holds
    → bytes ≡ take size room → size < 2 ^ 64 → AreHeld bytes holds
unfolding form_bytes
are_held bytes room order size holds written is small =
    let are = is ∙ written.bytes in
    let ends = ap form_ends are ∙ holds_ends order written.ends (omega (arith, written.size_is, small)) in
    record {
      form = (
        are ∙ (λ i. form_bytes (sym (ap (λ (l : List ℕ). get_or l 0 0) are) i) (sym ends i)),
        subst Rise (sym ends) written.rise,
      );
      have = ap has ends ∙ (λ i key. written.have key i);
    }

-- what begins a buffer that was written back
pub written_back : (size len : ℕ) (new rest : List ℕ) → length new ≡ len
    → take size (take len (new ++ rest)) ≡ take size new
written_back size len new rest is =
    ap (λ n. take size (take n (new ++ rest))) (sym is) ∙ ap (take size) (take-append_seam new rest)

-- a set with an end has the key at that end
pub has_one : (ends : List (List ℕ)) → Rise ends → HasAny (nat_lt 0 (length ends)) (has ends)
has_one [] rise = λ key. refl
has_one (end ∷ ends) rise = rw (lt-ltb 0 (length (end ∷ ends)) (omega arith)) (end, at_first end ends rise)

-- ---- words

pub keys_are : (scheme : Scheme) (word : List ℕ) (first : List Member) (others : List (List Member))
    → reading_of scheme word ≡ Right first others → keys_of scheme word ≡ Some (set_has (first ∷ others))
keys_are scheme word first others is = rw is refl

-- all alternatives of a word are left at first
pub all_left : (scheme : Scheme) (word : List ℕ) (left : Option Pieces)
    → ((first : List Member) (others : List (List Member)) → reading_of scheme word ≡ Right first others
    → AreLeft (rules scheme).read_as (rules scheme).facts.operators left (first ∷ others))
    → (all : List (List Member)) → set_of scheme word ≡ Some all → AreLeft (rules scheme).read_as (rules scheme).facts.operators left all
all_left scheme word left are all is = by (reading_of scheme word) refl
  where
    by : (reading : Reading) → reading_of scheme word ≡ reading → AreLeft (rules scheme).read_as (rules scheme).facts.operators left all
    by (Wrong place reason) read = cc (rw read at is)
    by (Right first others) read = subst (AreLeft (rules scheme).read_as (rules scheme).facts.operators left) (cc (rw read at is)) (are first others read)

-- the keys of a word are those of its alternatives
pub same_keys : (scheme : Scheme) (word : List ℕ) (all : List (List Member)) (keys : List ℕ → Bool) → set_of scheme word ≡ Some all
    → keys_of scheme word ≡ Some keys → (key : List ℕ) → set_has all key ≡ keys key
same_keys scheme word all keys is are key = grind (arith, unwrap_or)

-- a word that is a set has alternatives
pub has_alternatives : (scheme : Scheme) (word : List ℕ) (keys : List ℕ → Bool) → keys_of scheme word ≡ Some keys
    → (all : List (List Member)) × (set_of scheme word ≡ Some all)
has_alternatives scheme word keys are = by (set_of scheme word) refl
  where
    by : (found : Option (List (List Member))) → set_of scheme word ≡ found
        → (all : List (List Member)) × (set_of scheme word ≡ Some all)
    by None is = cc (rw is at are)
    by (Some all) is = (all, is)

-- what is said of a version that is in the set, and of another
pub said_within : (set : List ℕ) (all : List (List Member)) (v : PlainAny)
    → set_has all v.key ≡ true → why_text set all v ≡ codes " matches"
said_within set all v is = rw is refl

pub said_outside : (set : List ℕ) (all : List (List Member)) (v : PlainAny)
    → set_has all v.key ≡ false
    → why_text set all v ≡ members_text (codes " is left out by ") set (leave_out v.key all)
said_outside set all v is = rw is refl

-- a line of three pieces
pub in_turn : (old text said : List ℕ) (end : ℕ) (first second third : List ℕ) → first ≡ old ++ text
    → second ≡ first ++ said → third ≡ second ++ end ∷ [] → third ≡ old ++ (text ++ (said ++ end ∷ []))
in_turn old text said end first second third first_is second_is third_is = grind (arith, append_assoc)
