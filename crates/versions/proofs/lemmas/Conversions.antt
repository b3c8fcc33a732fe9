-- Values made of other values.
use Rattle.std.proofs.Common.{◌≡◌, ℕ, ◌<◌, ◌^◌, List, [], ◌∷◌, ◌++◌, Option, Some, None, IfSome, if◌then◌else◌, ◌||◌, refl, sym, ap, ◌∙◌, arith, map, append_assoc, append-nil}
use Rattle.std.proofs.lemmas.Fmt.{decimal_is_IsNumeral}
use Rattle.std.specs.{Cmp.nat_cmp_total, Cmp.tied_itself, Fmt.decimal, List.flat_map, Option.is_some, Option.option_map_or, Option.unwrap_or, declared.cmp.Ordering.TheVariants.Less, declared.cmp.Ordering.TheVariants.Equal}
use Rattle.version_rules.proofs.lemmas.{Key.plain_number, Numeral.decimal-digits, Versioning.version_of_semver_printed}
use Rattle.version_rules.specs.grammar.Conversions.{behind_epoch, body_section, mchunk_of, mchunk_of_last, mess_of_semver, mess_of_version, meta_section, release_section, version_of_semver}
use Rattle.version_rules.specs.key.Key.{key_behind_epoch, key_of_mess, key_of_sections, key_of_semver, key_of_version, plain, precedence, section_epoch, sections_tail, Tail, PreReleased, Bare, Released, tail_cmp}
use Rattle.version_rules.specs.grammar.{Body.body_text, Body.release_text, Chunk.PlainChunk, Chunk.chunk_text, Last.PlainLast, Last.last_text, MChunk.mchunk_text, Mess.Section, Mess.further_text, Mess.joined_section, Mess.mess_text}
use Rattle.version_rules.specs.grammar.{SemVer.PlainSemVer, SemVer.optional_text, SemVer.semver_text, Version.PlainVersion, Version.epoch_text, Version.version_text}
use Rattle.version_rules.specs.{key.PartKey.PartKey, key.PartKey.chunk_parts, key.PartKey.part_key, key.PartKey.section_parts, laws.Part.list_total}
use Rattle.version_order.specs.texts.Bytes.{colon, dot, hyphen, plus}
use Rattle.version_rules.specs.grammar.Chunk as chunk
use Rattle.version_rules.specs.grammar.Last as last

-- ---- A version and its conversion have the same key, except for a tail of a higher rank

-- ---- parts stay the same

chunk_stays : (c : PlainChunk) → mchunk_text (mchunk_of c) ≡ chunk_text c
chunk_stays (chunk.Numeric n) = refl
chunk_stays (chunk.Alphanum text) = refl

last_stays : (l : PlainLast) → mchunk_text (mchunk_of_last l) ≡ last_text l
last_stays (last.Numeric n) = refl
last_stays (last.Rc a text b) = refl
last_stays (last.Post a text) = refl
last_stays (last.Alphanum text) = refl

body_stays : (chunks : List PlainChunk) (l : PlainLast)
    → section_parts (body_section chunks l) ≡ chunk_parts chunks ++ part_key (last_text l) ∷ []
body_stays [] l = ap (λ text. part_key text ∷ []) (last_stays l)
body_stays (c ∷ chunks) l = λ i. part_key (chunk_stays c i) ∷ body_stays chunks l i

three_parts : (major minor patch : ℕ) → major < 2 ^ 32 → minor < 2 ^ 32 → patch < 2 ^ 32
    → plain major ∷ plain minor ∷ plain patch ∷ []
    ≡ part_key (decimal major) ∷ part_key (decimal minor) ∷ part_key (decimal patch) ∷ []
three_parts major minor patch a b c =
    λ i. sym (plain_number major a) i ∷ sym (plain_number minor b) i ∷ sym
    (plain_number patch c) i ∷ []

-- ---- the epoch stays the same

-- no colon follows a body without an epoch
no_colon : (may_be_epoch : Option ℕ) (first : Section) (release : Option (List PlainChunk))
    (meta : Option (List ℕ))
    → key_behind_epoch may_be_epoch first (release_section release ++ meta_section meta)
    ≡ key_of_sections 0 first (release_section release ++ meta_section meta)
no_colon None first release meta = refl
no_colon (Some n) first None None = refl
no_colon (Some n) first None (Some text) = refl
no_colon (Some n) first (Some chunks) meta = refl

messy_key : (epoch : Option ℕ) (body : Section) (release : Option (List PlainChunk))
    (meta : Option (List ℕ)) → IfSome epoch (λ n. n < 2 ^ 32)
    → key_of_mess (behind_epoch epoch body (release_section release ++ meta_section meta))
    ≡ key_of_sections (unwrap_or epoch 0) body (release_section release ++ meta_section meta)
messy_key None body release meta small = no_colon (section_epoch body) body release meta
messy_key (Some n) body release meta small =
    let fits : n < 2 ^ 64 = omega arith in
    rw (decimal-digits n fits, (decimal_is_IsNumeral n fits).1) refl

-- ---- only the tail decides

tails_decide : (epoch : ℕ) (body other : List PartKey) (s t : Tail) → body ≡ other
    → precedence (record { epoch = epoch; body = body; tail = s })
    (record { epoch = epoch; body = other; tail = t }) ≡ tail_cmp s t
tails_decide epoch body other s t e =
    rw (e, tied_itself nat_cmp_total epoch, tied_itself list_total other) refl

released : (release : Option (List PlainChunk))
    → tail_cmp (option_map_or PreReleased release Bare) (option_map_or Released release Bare)
    ≡ (if is_some release then Less else Equal)
released None = refl
released (Some chunks) = refl

sections_behind_pre_release : (pre_rel : Option (List PlainChunk)) (meta : Option (List ℕ))
    → tail_cmp (option_map_or PreReleased pre_rel Bare)
    (sections_tail (release_section pre_rel ++ meta_section meta))
    ≡ (if is_some pre_rel || is_some meta then Less else Equal)
sections_behind_pre_release None None = refl
sections_behind_pre_release None (Some text) = refl
sections_behind_pre_release (Some chunks) meta = refl

sections_behind_release : (release : Option (List PlainChunk)) (meta : Option (List ℕ))
    → tail_cmp (option_map_or Released release Bare)
    (sections_tail (release_section release ++ meta_section meta))
    ≡ (if is_some release || is_some meta then Less else Equal)
sections_behind_release None None = refl
sections_behind_release None (Some text) = refl
sections_behind_release (Some chunks) meta = refl

-- ---- the conversions

pub strict_as_general : (v : PlainSemVer) → v.major < 2 ^ 32 → v.minor < 2 ^ 32 → v.patch < 2 ^ 32
    → precedence (key_of_semver v) (key_of_version (version_of_semver v))
    ≡ (if is_some v.pre_rel then Less else Equal)
strict_as_general v a b c =
    tails_decide 0 _ _ (option_map_or PreReleased v.pre_rel Bare)
    (option_map_or Released v.pre_rel Bare) (three_parts v.major v.minor v.patch a b c)
    ∙ released v.pre_rel

pub general_as_messy : (v : PlainVersion) → IfSome v.epoch (λ n. n < 2 ^ 32)
    → precedence (key_of_version v) (key_of_mess (mess_of_version v))
    ≡ (if is_some v.release || is_some v.meta then Less else Equal)
general_as_messy v small =
    ap (precedence (key_of_version v))
    (messy_key v.epoch (body_section v.chunks v.last) v.release v.meta small)
    ∙ tails_decide (unwrap_or v.epoch 0) _ _ (option_map_or Released v.release Bare)
    (sections_tail (release_section v.release ++ meta_section v.meta))
    (sym (body_stays v.chunks v.last))
    ∙ sections_behind_release v.release v.meta

pub strict_as_messy : (v : PlainSemVer) → v.major < 2 ^ 32 → v.minor < 2 ^ 32 → v.patch < 2 ^ 32
    → precedence (key_of_semver v) (key_of_mess (mess_of_semver v))
    ≡ (if is_some v.pre_rel || is_some v.meta then Less else Equal)
strict_as_messy v a b c =
    let body = body_section (chunk.Numeric v.major ∷ chunk.Numeric v.minor ∷ [])
    (last.Numeric v.patch) in
    ap (precedence (key_of_semver v)) (messy_key None body v.pre_rel v.meta tt)
    ∙ tails_decide 0 _ _ (option_map_or PreReleased v.pre_rel Bare)
    (sections_tail (release_section v.pre_rel ++ meta_section v.meta))
    (three_parts v.major v.minor v.patch a b c)
    ∙ sections_behind_pre_release v.pre_rel v.meta

-- ---- A conversion to a messy version prints as the version does

chunks_printed : (chunks : List PlainChunk)
    → joined_section (map mchunk_of chunks) ≡ release_text chunks
chunks_printed [] = refl
chunks_printed (c ∷ []) = chunk_stays c
chunks_printed (c ∷ d ∷ chunks) =
    rw (chunk_stays c)
    (ap (λ (l : List ℕ). chunk_text c ++ dot ∷ l) (chunks_printed (d ∷ chunks)))

body_printed : (chunks : List PlainChunk) (part : PlainLast)
    → joined_section (body_section chunks part) ≡ body_text (chunks, part)
body_printed [] part = last_stays part
body_printed (c ∷ []) part =
    rw (chunk_stays c, last_stays part)
    (sym (append_assoc (chunk_text c) (dot ∷ []) (last_text part)))
body_printed (c ∷ d ∷ chunks) part =
    ap (λ (l : List ℕ). l ++ dot ∷ joined_section (body_section (d ∷ chunks) part))
    (chunk_stays c)
    ∙ ap (λ (l : List ℕ). chunk_text c ++ dot ∷ l)
    (body_printed (d ∷ chunks) part
    ∙ append_assoc (release_text (d ∷ chunks)) (dot ∷ []) (last_text part))
    ∙ sym (append_assoc (release_text (c ∷ d ∷ chunks)) (dot ∷ []) (last_text part)
    ∙ append_assoc (chunk_text c) (dot ∷ release_text (d ∷ chunks)) (dot ∷ last_text part))

tail_printed : (release : Option (List PlainChunk)) (meta : Option (List ℕ))
    → flat_map further_text (release_section release ++ meta_section meta)
    ≡ optional_text hyphen release_text release ++ optional_text plus (λ text. text) meta
tail_printed None None = refl
tail_printed None (Some text) = append-nil _
tail_printed (Some chunks) None = ap (λ (l : List ℕ). (hyphen ∷ l) ++ []) (chunks_printed chunks)
tail_printed (Some chunks) (Some text) =
    ap (λ (l : List ℕ). (hyphen ∷ joined_section (map mchunk_of chunks)) ++ l)
    (append-nil (plus ∷ text))
    ∙ ap (λ (l : List ℕ). (hyphen ∷ l) ++ plus ∷ text) (chunks_printed chunks)

pub mess_of_version_printed : (v : PlainVersion) → mess_text (mess_of_version v) ≡ version_text v
mess_of_version_printed v = by v.epoch
  where
    by : (epoch : Option ℕ)
        → mess_text (behind_epoch epoch (body_section v.chunks v.last)
        (release_section v.release ++ meta_section v.meta))
        ≡ epoch_text epoch
        ++ (body_text (v.chunks, v.last)
        ++ (optional_text hyphen release_text v.release ++ optional_text plus
        (λ text. text) v.meta))
    by None = rw (body_printed v.chunks v.last, tail_printed v.release v.meta) refl
    by (Some n) =
        rw (body_printed v.chunks v.last, tail_printed v.release v.meta)
        (sym (append_assoc (decimal n) (colon ∷ []) _))

pub mess_of_semver_printed : (v : PlainSemVer) → mess_text (mess_of_semver v) ≡ semver_text v
mess_of_semver_printed v =
    mess_of_version_printed (version_of_semver v) ∙ version_of_semver_printed v
