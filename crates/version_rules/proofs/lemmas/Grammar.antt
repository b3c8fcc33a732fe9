-- What holds of each text that is spelled: whatever holds of the empty text, of runs of letters,
-- digits, hyphens and dots, and of two texts joined if it holds of both.
use Rattle.std.proofs.Common.{◌≡◌, ℕ, Bool, true, List, [], ◌∷◌, ◌++◌, Option, Some, None, refl, arith, append-nil, Bor, Result, Ok, Err}
use Rattle.std.specs.{Char.is_ascii_alphanumeric, Char.is_ascii_digit, List.list_all, Prelude.MatchResult, Result.IsOk, Str.IsUtf8}
use Rattle.version_rules.specs.grammar.Chunk.{Numeric, Alphanum, PlainChunk, SpellsChunk, SpellsChunkOf, SpellsNumeral}
use Rattle.version_rules.specs.grammar.Versioning.{PlainVersioning, Ideal, General, Complex, SpellsVersioning}
use Rattle.version_rules.specs.grammar.{Body.PlainBody, Body.SpellsBody, Body.SpellsMetadata, Body.SpellsRelease, MChunk.PlainMChunk, MChunk.SpellsMChunk, Mess.Further, Mess.PlainMess, Mess.SpellsFurther, Mess.SpellsMess}
use Rattle.version_rules.specs.grammar.{SemVer.PlainSemVer, SemVer.SpellsSemVer, Version.PlainVersion, Version.SpellsEpoch, Version.SpellsVersion}
use Rattle.version_order.specs.texts.Bytes.{dot, is_identifier_byte, is_metadata_byte, hyphen, plus}
use Rattle.version_order.specs.texts.Grammar.{SpellsDotted, SpellsEach, SpellsOptional, PlainSep, Colon, Hyphen, Plus, sep_byte, IsSound}
use Rattle.version_order.specs.{keys.Lists.split_last, texts.Front.Front, texts.Front.whole}
use Rattle.version_rules.proofs.lemmas.MChunk.{spelled_run}
use Rattle.version_order.proofs.lemmas.Front.{all_weaker}
use Rattle.std.proofs.lemmas.{Bool.cases_Bool, Bool.eqb-true, List.nil_from_length}

digit_byte : (b : ℕ) → is_ascii_digit b ≡ true → is_metadata_byte b ≡ true
digit_byte b h = rw h refl

alphanumeric_byte : (b : ℕ) → is_ascii_alphanumeric b ≡ true → is_metadata_byte b ≡ true
alphanumeric_byte b h = rw h refl

identifier_byte : (b : ℕ) → is_identifier_byte b ≡ true → is_metadata_byte b ≡ true
identifier_byte b h = rw h refl

module _ (Holds : List ℕ → Type 0) (nothing : Holds [])
    (together : (a b : List ℕ) → Holds a → Holds b → Holds (a ++ b))
    (run : (text : List ℕ) → list_all is_metadata_byte text ≡ true → Holds text) where
  pub of_numeral : (text : List ℕ) (n : ℕ) → SpellsNumeral text n → Holds text
  of_numeral text n s =
      run text (all_weaker is_ascii_digit is_metadata_byte digit_byte text s.digits)

  of_chunk : (test : ℕ → Bool) → ((b : ℕ) → test b ≡ true → is_metadata_byte b ≡ true)
      → (text : List ℕ) (x : PlainChunk) → SpellsChunkOf test text x → Holds text
  of_chunk test passes text (Numeric n) s = of_numeral text n s
  of_chunk test passes text (Alphanum same) s =
      rw s.0 (run same (all_weaker test is_metadata_byte passes same s.1))

  pub of_list : {X : Type 0} (Spells : List ℕ → X → Type 0)
      → ((text : List ℕ) (x : X) → Spells text x → Holds text)
      → (text : List ℕ) (xs : List X) → SpellsDotted Spells text xs → Holds text
  unfolding SpellsDotted
  of_list Spells each text [] s = absurd s
  of_list Spells each text (x ∷ []) s = each text x s
  of_list Spells each text (x ∷ y ∷ xs) s =
      rw s.2 (together s.0 (dot ∷ s.1) (each s.0 x s.3)
      (together (dot ∷ []) s.1 (run (dot ∷ []) refl) (of_list Spells each s.1 (y ∷ xs) s.4)))

  pub of_release : (text : List ℕ) (xs : List PlainChunk) → SpellsRelease text xs → Holds text
  of_release = of_list SpellsChunk (of_chunk is_identifier_byte identifier_byte)

  pub of_body : (text : List ℕ) (body : PlainBody) → SpellsBody text body → Holds text
  of_body text body s = grind (arith, of_list, of_chunk, alphanumeric_byte)

  pub of_metadata : (text meta : List ℕ) → SpellsMetadata text meta → Holds text
  of_metadata text meta s = rw s.0 (run meta s.1)

  pub of_optional : {X : Type 0} (mark : ℕ) (Spells : List ℕ → X → Type 0) → Holds (mark ∷ [])
      → ((text : List ℕ) (x : X) → Spells text x → Holds text)
      → (text : List ℕ) (o : Option X) → SpellsOptional mark Spells text o → Holds text
  unfolding SpellsOptional
  of_optional mark Spells marked each text None s = rw s nothing
  of_optional mark Spells marked each text (Some x) s =
      rw s.1 (together (mark ∷ []) s.0 marked (each s.0 x s.2))

  pub of_each : {X : Type 0} (Spells : List ℕ → X → Type 0)
      → ((text : List ℕ) (x : X) → Spells text x → Holds text)
      → (text : List ℕ) (xs : List X) → SpellsEach Spells text xs → Holds text
  unfolding SpellsEach
  of_each Spells each text [] s = rw s nothing
  of_each Spells each text (x ∷ xs) s =
      rw s.2 (together s.0 s.1 (each s.0 x s.3) (of_each Spells each s.1 xs s.4))

  pub of_mchunk : (text : List ℕ) (x : PlainMChunk) → SpellsMChunk text x → Holds text
  of_mchunk text x s = grind (arith, all_weaker, alphanumeric_byte, spelled_run)

-- ---- what holds of each text that spells a version: whatever holds of runs of letters, digits, hyphens
-- and dots, of signs, and of such texts joined.

module _ (Holds : List ℕ → Type 0) (nothing : Holds [])
    (together : (a b : List ℕ) → Holds a → Holds b → Holds (a ++ b))
    (run : (text : List ℕ) → list_all is_metadata_byte text ≡ true → Holds text)
    (sign_holds : (sign : PlainSep) → Holds (sep_byte sign ∷ [])) where
  release : (text : List ℕ) (o : Option _) → SpellsOptional hyphen SpellsRelease text o → Holds text
  release = of_optional Holds nothing together run hyphen SpellsRelease (sign_holds Hyphen)
      (of_release Holds nothing together run)

  metadata : (text : List ℕ) (o : Option _) → SpellsOptional plus SpellsMetadata text o → Holds text
  metadata = of_optional Holds nothing together run plus SpellsMetadata (sign_holds Plus)
      (of_metadata Holds nothing together run)

  dotted : (text : List ℕ) → Holds text → Holds (dot ∷ text)
  dotted text h = together (dot ∷ []) text (run (dot ∷ []) refl) h

  pub of_semver : (text : List ℕ) (v : PlainSemVer) → SpellsSemVer text v → Holds text
  of_semver text v s =
      let number = of_numeral Holds nothing together run in
      let tail = together s.pre_rel s.meta (release s.pre_rel v.pre_rel s.pre_rel_is)
      (metadata s.meta v.meta s.meta_is) in
      let patch = dotted _ (together s.patch _ (number s.patch v.patch s.patch_is) tail) in
      let minor = dotted _ (together s.minor _ (number s.minor v.minor s.minor_is) patch) in
      rw s.whole (together s.major _ (number s.major v.major s.major_is) minor)

  epoch : (text : List ℕ) (o : Option ℕ) → SpellsEpoch text o → Holds text
  unfolding SpellsEpoch
  epoch text None s = rw s nothing
  epoch text (Some n) s =
      rw s.1 (together s.0 _ (of_numeral Holds nothing together run s.0 n s.2) (sign_holds Colon))

  pub of_version : (text : List ℕ) (v : PlainVersion) → SpellsVersion text v → Holds text
  of_version text v s =
      let tail = together s.release s.meta (release s.release v.release s.release_is)
      (metadata s.meta v.meta s.meta_is) in
      let body = together s.body _
      (of_body Holds nothing together run s.body (v.chunks, v.last) s.body_is) tail in
      rw s.whole (together s.epoch _ (epoch s.epoch v.epoch s.epoch_is) body)

  further : (text : List ℕ) (f : Further) → SpellsFurther text f → Holds text
  further text f s =
      rw s.1 (together (sep_byte f.0 ∷ []) s.0 (sign_holds f.0)
      (of_list Holds nothing together run SpellsMChunk
      (of_mchunk Holds nothing together run) s.0 f.1 s.2))

  pub of_mess : (text : List ℕ) (m : PlainMess) → SpellsMess text m → Holds text
  of_mess text m s =
      rw s.whole_is
      (together s.first s.more
      (of_list Holds nothing together run SpellsMChunk
      (of_mchunk Holds nothing together run) s.first m.first s.first_is)
      (of_each Holds nothing together run SpellsFurther further s.more m.more s.more_is))

  pub of_versioning : (text : List ℕ) (v : PlainVersioning) → SpellsVersioning text v → Holds text
  of_versioning text (Ideal v) s = of_semver text v s
  of_versioning text (General v) s = of_version text v s.0
  of_versioning text (Complex m) s = of_mess text m s.0

-- ---- whole texts: what follows if a front reads what is spelled and nothing else

-- a value is read from the whole text if the front leaves no rest
pub whole-Some : {X : Type 0} (read : Option (X × List ℕ)) (x : X) → whole read ≡ Some x
    → read ≡ Some (x, [])
whole-Some None x e = cc e
whole-Some {X} (Some p) x e = grind (arith, cases_Bool, nil_from_length, eqb-true)

module _ {X : Type 0} (Spells : List ℕ → X → Type 0) (front : Front X)
    (sound : IsSound Spells front)
    (complete : (text : List ℕ) (x : X) → Spells text x → front text ≡ Some (x, [])) where
  -- a text spells one value at most
  pub spelled_once : (text : List ℕ) (x y : X) → Spells text x → Spells text y → x ≡ y
  spelled_once text x y s t = grind arith

  -- the whole text spells a value that the front reads without a rest
  pub whole_spelled : (text : List ℕ) (x : X) → front text ≡ Some (x, []) → Spells text x
  whole_spelled text x e = grind (arith, append-nil)

  -- what the whole text spells is what is read from all of it
  pub whole_read : (text : List ℕ) (x : X) → Spells text x → whole (front text) ≡ Some x
  whole_read text x s = rw (complete text x s) refl

  pub read_whole : (text : List ℕ) (x : X) → whole (front text) ≡ Some x → Spells text x
  read_whole text x e = whole_spelled text x (whole-Some (front text) x e)

-- ---- where a list is split

-- a list that ends with an item is split there
pub split_last-append : {X : Type 0} (xs : List X) (x : X)
    → split_last (xs ++ x ∷ []) ≡ Some (xs, x)
split_last-append [] x = refl
split_last-append (y ∷ xs) x = rw (split_last-append xs x) refl

-- ---- what `from_utf8` returns for bytes that are UTF-8

module _ {E : Type 0} (Fault : E → Type 0) (text : List ℕ) where
  -- they are read
  pub is_read : (r : Result (Bor (List ℕ)) E) → IsUtf8 text
      → MatchResult r (λ s. (s.now ≡ text) × IsUtf8 text) (λ e. (¬ (IsUtf8 text)) × Fault e)
      → IsOk r
  is_read (Ok s) utf8 read = refl
  is_read (Err e) utf8 read = absurd (read.0 utf8)

  -- and read as themselves
  pub same_bytes : (r : Result (Bor (List ℕ)) E) (s : Bor (List ℕ))
      → MatchResult r (λ s. (s.now ≡ text) × IsUtf8 text) (λ e. (¬ (IsUtf8 text)) × Fault e)
      → r ≡ Ok s → s.now ≡ text
  same_bytes r s read e = (rw e at read).0
