-- Where the fields of a version lie in its text, by its shape.
use Rattle.std.proofs.Common.{◌≡◌, ◌==◌, ◌+◌, ◌-◌, ◌≤◌, ◌∙◌, if◌then◌else◌, ℕ, Bool, true, false, List, [], ◌∷◌, ◌++◌, drop, length, take, Option, Some, None, refl, sym, ap, arith, append-nil, length-append, ◌&&◌, append_assoc}
use Rattle.std.proofs.lemmas.{Bool.ne_eqb, Bool.Decides.nat_tests, List.length-drop, List.length-take-le, List.drop_at, List.take_at}
use Rattle.std.specs.{Fmt.decimal, List.list_all, List.prefix_len, Option.option_map, Option.is_none, Prelude.nat_lt, Str.Parse.digits_value}
use Rattle.version_order.specs.texts.{Bytes.hyphen, Bytes.plus, Front.begins, Grammar.SpellsOptional}
use Rattle.version_rules.specs.grammar.Version.{PlainVersion, SpellsEpoch, SpellsVersion, version_text, epoch_text}
use Rattle.version_rules.specs.grammar.Versioning.{versioning_kind, PlainVersioning, Ideal, General, Complex, SpellsVersioning}
use Rattle.version_rules.specs.grammar.{Body.SpellsMetadata, Body.SpellsRelease, Body.release_text, Body.body_text, Chunk.PlainChunk, Conversions.version_of_semver, Mess.PlainMess, Mess.SpellsMess, SemVer.PlainSemVer, SemVer.SpellsSemVer}
use Rattle.version_rules.specs.key.Key.{versioning_epoch}
use Rattle.version_rules.proofs.lemmas.{Body.body_printed, Chunk.release_printed, Numeral.numeral_printed, Version.version_printed, Versioning.version_of_semver_printed, Versioning.strict_is_general}
use Rattle.version_order.proofs.lemmas.Front.{prefix_len-append}
use Rattle.version_texts.specs.Scan.{behind_body, body_end, body_start, shape_at, shape_of, TailFits, is_not_plus}
use Rattle.version_texts.specs.VersioningRef.{bare_semver, bare_version, body_alone, field_span, numbers_alone, span_behind, epoch_and_parts, version_in}
use Rattle.version_texts.specs.{Mixed.is_bare, declared.scan.shape.Shape.Shape, declared.scan.shape.TailKind.TailKind}
use Rattle.version_texts.proofs.lemmas.scan.Shape.{IsCut, behind_body-is, body_end-is, IsCounted, IsDashed, dashed_end, dashed_within, epoch_taken, is_hyphen, length_cut, no_meta, release_not_plus, version_cut, version_dashed, printed_epoch}
use Rattle.version_texts.proofs.lemmas.versioning_ref.VersioningRef.{is_prerelease_tail, spelled, spells-is, kind-is, shape_fits}
use Rattle.version_texts.proofs.lemmas.scan.Complex.{mess_cut}
use Rattle.version_rules.specs.declared.kind.Kind.TheVariants as kind
use Rattle.version_texts.specs.declared.versioning_ref.field.Field.TheVariants as field
use Rattle.version_texts.specs.declared.scan.shape.TailKind.TheVariants as tail

-- whether a tail is a release
abbrev pub is_release_tail : TailKind → Bool
is_release_tail tail.Release = true
is_release_tail _ = false

-- a tail of another kind is none
pub no_release_tail : (t : TailKind) → ¬ (t ≡ tail.Release) → is_release_tail t ≡ false
no_release_tail tail.Release other = absurd (other refl)
no_release_tail t other = refl

-- ---- the epoch

-- where the epoch of a text lies, and its value, by where the body begins
abbrev pub epoch_place : List ℕ → Option (ℕ × ℕ)
epoch_place text = if body_start text == 0 then None else Some (0, body_start text - 1)

abbrev pub epoch_value : List ℕ → Option ℕ
epoch_value text =
    if body_start text == 0 then None else Some (digits_value 10 (take (body_start text - 1) text))

module _ (text epoch body rest : List ℕ) (cut : IsCut text epoch body rest) where
  pub counted : (digits : Option (List ℕ)) (n : Option ℕ) → IsCounted epoch digits n
      → (option_map (span_behind []) digits ≡ epoch_place text) × (n ≡ epoch_value text)
  counted None None s = rw (cut.starts, s) (refl, refl)
  counted (Some digits) (Some n) s = grind (arith, length-append, ne_eqb, epoch_taken, cut)
  counted digits n s = absurd s

-- a spelled epoch counts
pub spelled_counts : (epoch : List ℕ) (o : Option ℕ) → SpellsEpoch epoch o
    → IsCounted epoch (option_map decimal o) o
unfolding SpellsEpoch
spelled_counts epoch None s = s
spelled_counts epoch (Some n) s =
    rw (numeral_printed s.0 n s.2) (s.1, s.2.value)

-- ---- what follows the body

-- a release of bytes other than a plus
release_passes : (release : List ℕ) (o : Option (List PlainChunk))
    → SpellsOptional hyphen SpellsRelease release o → list_all is_not_plus release ≡ true
unfolding SpellsOptional
release_passes release None s = rw s refl
release_passes release (Some chunks) s = rw s.1 (release_not_plus s.0 chunks s.2)

-- where a release lies, by the text behind the body
abbrev pub dashed_place : List ℕ → Option (ℕ × ℕ)
dashed_place text =
    if begins is_hyphen (behind_body text) then Some (body_end text + 1, dashed_end text) else None

placed : (text before : List ℕ) (o : Option (List PlainChunk)) → IsDashed text o
    → length before ≡ body_end text + 1 → dashed_end text ≤ length text
    → option_map (span_behind before) (option_map release_text o) ≡ dashed_place text
placed text before None d starts within = rw d.0 refl
placed text before (Some chunks) d starts within =
    grind (arith, release_printed, length-take-le, dashed_end, within, length-drop)

-- where metadata lies, by where the tail ends
abbrev pub metadata_place : List ℕ → Option (ℕ × ℕ)
metadata_place text =
    if nat_lt (dashed_end text) (length text) then Some (dashed_end text + 1, length text) else None

metadata_placed : (text before meta : List ℕ) (o : Option (List ℕ))
    → SpellsOptional plus SpellsMetadata meta o → length before ≡ dashed_end text + 1
    → length text ≡ dashed_end text + length meta
    → option_map (span_behind before) o ≡ metadata_place text
unfolding SpellsOptional
metadata_placed text before meta None s starts whole = grind (arith, dashed_end, nat_tests)
metadata_placed text before meta (Some m) s starts whole = grind (arith, dashed_end, nat_tests)

module _ (text : List ℕ) (v : PlainVersion) (s : SpellsVersion text v) where
  -- the text up to the body's end, and up to the tail's, spells what is left without the rest
  alone_spelled : SpellsVersion (s.epoch ++ s.body) (body_alone v)
  unfolding SpellsOptional
  alone_spelled = record {
    epoch = s.epoch;
    body = s.body;
    release = [];
    meta = [];
    whole = ap (λ (l : List ℕ). s.epoch ++ l) (sym (append-nil s.body));
    epoch_is = s.epoch_is;
    body_is = s.body_is;
    release_is = refl;
    meta_is = refl;
  }

  bare_spelled : SpellsVersion (s.epoch ++ (s.body ++ s.release)) (bare_version v)
  unfolding SpellsOptional
  bare_spelled = record {
    epoch = s.epoch;
    body = s.body;
    release = s.release;
    meta = [];
    whole = ap (λ (l : List ℕ). s.epoch ++ (s.body ++ l)) (sym (append-nil s.release));
    epoch_is = s.epoch_is;
    body_is = s.body_is;
    release_is = s.release_is;
    meta_is = refl;
  }

  cut : IsCut text s.epoch s.body (s.release ++ s.meta)
  cut = version_cut text v s

  body_length : body_end text ≡ length s.epoch + length s.body
  body_length = body_end-is text s.epoch s.body (s.release ++ s.meta) cut

  tail_length : dashed_end text ≡ body_end text + length s.release
  tail_length =
      let behind : behind_body text ≡ s.release ++ s.meta =
      behind_body-is text s.epoch s.body (s.release ++ s.meta) cut in
      let count = prefix_len-append is_not_plus s.release s.meta
      (release_passes s.release v.release s.release_is) (no_meta text v s is_not_plus refl) in
      ap (λ n. body_end text + n) (ap (prefix_len is_not_plus) behind ∙ count)

  alone_length : length (version_text (body_alone v) ++ hyphen ∷ []) ≡ body_end text + 1
  alone_length =
      rw (version_printed _ _ alone_spelled)
      (omega (
        arith,
        body_length,
        length-append (s.epoch ++ s.body) (hyphen ∷ []),
        length-append s.epoch s.body,
      ))

  bare_length : length (version_text (bare_version v) ++ plus ∷ []) ≡ dashed_end text + 1
  bare_length =
      rw (version_printed _ _ bare_spelled)
      (omega (
        arith,
        body_length,
        tail_length,
        length-append (s.epoch ++ (s.body ++ s.release)) (plus ∷ []),
        length-append s.epoch (s.body ++ s.release),
        length-append s.body s.release,
      ))

  within : dashed_end text ≤ length text
  within = dashed_within text s.epoch s.body (s.release ++ s.meta) cut

  pub release_placed : option_map (span_behind (version_text (body_alone v) ++ hyphen ∷ []))
      (option_map release_text v.release) ≡ dashed_place text
  release_placed = placed text _ v.release (version_dashed text v s) alone_length within

  pub meta_placed : option_map (span_behind (version_text (bare_version v) ++ plus ∷ [])) v.meta
      ≡ metadata_place text
  meta_placed =
      grind (arith, metadata_placed, bare_length, length_cut, cut, length-append, tail_length)

-- ---- versions of any kind

-- where the fields of a version lie, by the shape of its text
pub record ArePlaced (text : List ℕ) (s : Shape) (v : PlainVersioning) : Type 0 where
  pub epoch : field_span field.Epoch v ≡ (if s.body == 0 then None else Some (0, s.body - 1))
  pub value : versioning_epoch v
      ≡ (if s.body == 0 then None else Some (digits_value 10 (take (s.body - 1) text)))
  pub pre_release : field_span field.PreRelease v
      ≡ (if is_prerelease_tail s.tail then Some (s.end + 1, s.tail_end) else None)
  pub release : field_span field.Release v
      ≡ (if is_release_tail s.tail then Some (s.end + 1, s.tail_end) else None)
  pub metadata : field_span field.Metadata v
      ≡ (if nat_lt s.tail_end (length text) then Some (s.tail_end + 1, length text) else None)

-- what stands behind a hyphen, or nothing, has a place by its tail
with_hyphen : {X : Type 0} (b : Bool) (x : X)
    → (if b then Some x else None)
    ≡ (if is_prerelease_tail (if b then tail.PreRelease else tail.Nothing) then Some x
    else None)
with_hyphen true x = refl
with_hyphen false x = refl

with_release : {X : Type 0} (b : Bool) (x : X)
    → (if b then Some x else None)
    ≡ (if is_release_tail (if b then tail.Release else tail.Nothing) then Some x else None)
with_release true x = refl
with_release false x = refl

-- and other tails have none
without : {X : Type 0} (is_one : TailKind → Bool) (b : Bool) (t u : TailKind) (x : X)
    → is_one t ≡ false → is_one u ≡ false
    → None ≡ (if is_one (if b then t else u) then Some x else None)
without is_one true t u x e f = rw e refl
without is_one false t u x e f = rw f refl

-- no metadata follows the end of a text
behind_end : (n : ℕ)
    → ◌≡◌ {A = Option (ℕ × ℕ)} None (if nat_lt n n then Some (n + 1, n) else None)
behind_end n = grind (arith, nat_tests)

strict_placed : (text : List ℕ) (v : PlainSemVer) → SpellsSemVer text v
    → ArePlaced text (shape_at kind.Ideal text) (Ideal v)
strict_placed text v s =
    let w = version_of_semver v in
    let g = strict_is_general text v s in
    let at_epoch =
    counted text g.epoch g.body (g.release ++ g.meta) (version_cut text w g) None None
    (spelled_counts g.epoch None g.epoch_is) in
    let numbers = version_of_semver_printed (numbers_alone v) in
    let bare = version_of_semver_printed (bare_semver v) in
    record {
      epoch = at_epoch.0;
      value = at_epoch.1;
      pre_release =
          rw numbers at (release_placed text w g)
          ∙ with_hyphen (begins is_hyphen (behind_body text)) _;
      release = without is_release_tail (begins is_hyphen (behind_body text)) _ _ _ refl refl;
      metadata = rw bare at (meta_placed text w g);
    }

general_placed : (text : List ℕ) (v : PlainVersion) → SpellsVersion text v
    → ArePlaced text (shape_at kind.General text) (General v)
general_placed text v s =
    let at_epoch =
    counted text s.epoch s.body (s.release ++ s.meta) (version_cut text v s)
    (option_map decimal v.epoch) v.epoch (spelled_counts s.epoch v.epoch s.epoch_is) in
    record {
      epoch = at_epoch.0;
      value = at_epoch.1;
      pre_release =
          without is_prerelease_tail (begins is_hyphen (behind_body text)) _ _ _ refl refl;
      release = release_placed text v s ∙ with_release (begins is_hyphen (behind_body text)) _;
      metadata = meta_placed text v s;
    }

messy_placed : (text : List ℕ) (m : PlainMess) → SpellsMess text m
    → ArePlaced text (shape_at kind.Complex text) (Complex m)
messy_placed text m s =
    let c = mess_cut text m s in
    let at_epoch = counted text c.epoch c.body c.rest c.cut _ _ c.counts in
    record {
      epoch = at_epoch.0;
      value = at_epoch.1;
      pre_release = without is_prerelease_tail (length (behind_body text) == 0) _ _ _ refl refl;
      release = without is_release_tail (length (behind_body text) == 0) _ _ _ refl refl;
      metadata = behind_end (length text);
    }

placed_by_kind : (text : List ℕ) (v : PlainVersioning) → SpellsVersioning text v
    → ArePlaced text (shape_at (versioning_kind v) text) v
placed_by_kind text (Ideal v) s = strict_placed text v s
placed_by_kind text (General v) s = general_placed text v s.0
placed_by_kind text (Complex m) s = messy_placed text m s.0

-- the fields lie where the shape says
pub field_spans : (text : List ℕ) (s : Shape) → shape_of text ≡ Some s
    → ArePlaced text s (version_in text)
field_spans text s e =
    rw (spelled text s e).1 (placed_by_kind text (version_in text) (spells-is text s e))

-- ---- whether a version has parts alone

none_mapped : {A B : Type 0} (f : A → B) (o : Option A) → is_none (option_map f o) ≡ is_none o
none_mapped f None = refl
none_mapped f (Some a) = refl

-- no place of two fields that are missing
neither : (before other_before : List ℕ) (one other : Option (List ℕ))
    → (is_none (option_map (span_behind before) one) && is_none (option_map (span_behind other_before) other))
    ≡ (is_none one && is_none other)
neither before other_before one other =
    λ i. none_mapped (span_behind before) one i && none_mapped (span_behind other_before) other i

pub bare_strict : (v : PlainVersioning) → versioning_kind v ≡ kind.Ideal
    → (is_none (field_span field.PreRelease v) && is_none (field_span field.Metadata v)) ≡ is_bare v
bare_strict (Ideal v) is = grind (arith, neither, none_mapped)
bare_strict v is = cc is

pub bare_general : (v : PlainVersioning) → versioning_kind v ≡ kind.General
    → (is_none (field_span field.Release v) && is_none (field_span field.Metadata v)) ≡ is_bare v
bare_general (General v) is = grind (arith, neither, none_mapped)
bare_general v is = cc is

pub messy_not_bare : (v : PlainVersioning) → versioning_kind v ≡ kind.Complex → false ≡ is_bare v
messy_not_bare (Complex m) is = refl
messy_not_bare v is = cc is

-- ---- the texts of the epoch and of the parts of a version, by the shape of its text

-- the text before the end of the body, cut where the body begins
abbrev cut_texts : List ℕ → List ℕ × List ℕ
cut_texts text = (
  take (body_start text) (take (body_end text) text),
  drop (body_start text) (take (body_end text) text),
)

cut_at_body : (text epoch body rest : List ℕ) → IsCut text epoch body rest
    → cut_texts text ≡ (epoch, body)
cut_at_body text epoch body rest cut =
    let whole : text ≡ (epoch ++ body) ++ rest = cut.whole ∙ sym (append_assoc epoch body rest) in
    let front : take (body_end text) text ≡ epoch ++ body =
    ap (take (body_end text)) whole
    ∙ take_at (epoch ++ body) rest (body_end text)
    (length-append epoch body ∙ sym (body_end-is text epoch body rest cut)) in
    λ i. (
      (ap (take (body_start text)) front ∙ take_at epoch body (body_start text) (sym cut.starts)) i,
      (ap (drop (body_start text)) front ∙ drop_at epoch body (body_start text) (sym cut.starts)) i,
    )

general_texts : (text : List ℕ) (v : PlainVersion) → SpellsVersion text v
    → cut_texts text ≡ (epoch_text v.epoch, body_text (v.chunks, v.last))
general_texts text v s =
    cut_at_body text s.epoch s.body (s.release ++ s.meta) (version_cut text v s)
    ∙ λ i. (
      printed_epoch s.epoch v.epoch s.epoch_is i,
      sym (body_printed s.body (v.chunks, v.last) s.body_is) i,
    )

texts_by_kind : (text : List ℕ) (v : PlainVersioning) → SpellsVersioning text v
    → ¬ (versioning_kind v ≡ kind.Complex) → Some (cut_texts text) ≡ epoch_and_parts v
texts_by_kind text (Ideal v) s other =
    ap Some (general_texts text (version_of_semver v) (strict_is_general text v s))
    ∙ ap (λ (l : List ℕ). Some ([], l)) (simp (append_assoc, append-nil))
texts_by_kind text (General v) s other = ap Some (general_texts text v s.0)
texts_by_kind text (Complex m) s other = absurd (other refl)

no_texts_by_kind : (v : PlainVersioning) → versioning_kind v ≡ kind.Complex
    → epoch_and_parts v ≡ None
no_texts_by_kind (Complex m) is = refl
no_texts_by_kind v is = cc is

module _ (text : List ℕ) (s : Shape) (e : shape_of text ≡ Some s) where
  -- the two texts of a strict or general version, and none of a messy one
  pub texts_are : ¬ (s.kind ≡ kind.Complex)
      → Some (take s.body (take s.end text), drop s.body (take s.end text))
      ≡ epoch_and_parts (version_in text)
  texts_are other = grind (arith, spelled, texts_by_kind, spells-is, kind-is)

  -- the body ends within the text
  pub body_within : s.end ≤ length text
  body_within =
      let fits = shape_fits text s e in
      within s.tail s.end s.tail_end fits.tail_fits fits.within
    where
      within : (tail : TailKind) (end tail_end : ℕ) → TailFits tail end tail_end
          → tail_end ≤ length text → end ≤ length text
      within tail.PreRelease end tail_end fits below = omega (arith, fits)
      within t end tail_end fits below = omega (arith, fits)

  pub no_texts : s.kind ≡ kind.Complex → None ≡ epoch_and_parts (version_in text)
  no_texts is = sym (no_texts_by_kind (version_in text) (sym (kind-is text s e) ∙ is))
