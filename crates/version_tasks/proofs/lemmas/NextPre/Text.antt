-- The text of a pre-release of a word, which parses as that version.
use Rattle.std.proofs.Common.{◌≡◌, ◌∙◌, ◌<◌, ◌^◌, ℕ, true, List, [], ◌∷◌, ◌++◌, map, Option, Some, None, refl, sym, ap, subst, append_assoc, append-nil}
use Rattle.std.proofs.lemmas.{List.map-append, Str.IsUtf8-from_ascii}
use Rattle.std.specs.{Fmt.decimal, Option.option_map, Str.IsAscii, Str.IsUtf8}
use Rattle.version_rules.proofs.lemmas.{Chunk.release_printed, Versioning.versioning_ascii, Versioning.versioning_of-Some, Versioning.versioning_of-spells}
use Rattle.version_order.specs.texts.{Bytes.dot, Bytes.hyphen, Bytes.is_identifier_byte, Cuts.is_dot, Grammar.SpellsOptional}
use Rattle.version_rules.specs.grammar.{Body.SpellsRelease, Body.release_text, Chunk.PlainChunk, Chunk.Numeric, Chunk.SpellsChunk, SemVer.PlainSemVer, SemVer.SpellsSemVer}
use Rattle.version_rules.specs.grammar.Versioning.{PlainVersioning, Ideal, versioning_of}
use Rattle.version_tasks.proofs.lemmas.Next.Text.{ascii_left, ascii_right, decimal_spells}
use Rattle.version_tasks.specs.NextPreText.{is_own, is_release, is_word, numbers_text, own_chunks, pre_text, pre_version, word_chunks, word_text}
use Rattle.version_texts.proofs.lemmas.scan.Spelled.{release_chunks, both_pass, dotted_one, split-append, dotted_passes, dotted_spells}
use Rattle.version_order.proofs.lemmas.Bytes.{digit_identifier, identifier_no_dot}
use Rattle.version_texts.specs.{Scan.is_chunk}
use Rattle.version_pieces.specs.Pieces.{chunk_of, chunks_of}

-- a text passes the test exactly if it spells its chunks
pub release_spelled : (text : List ℕ) → is_release text ≡ true → SpellsRelease text (chunks_of text)
release_spelled text passes =
    let some = dotted_spells is_identifier_byte digit_identifier identifier_no_dot text passes in
    subst (SpellsRelease text) (sym (release_chunks text some.0 some.1)) some.1

pub release_passes : (text : List ℕ) (chunks : List PlainChunk) → SpellsRelease text chunks
    → is_release text ≡ true
release_passes = dotted_passes is_identifier_byte digit_identifier identifier_no_dot

-- the chunks of two texts with a dot between
pub chunks_joined : (a b : List ℕ) → chunks_of (a ++ dot ∷ b) ≡ chunks_of a ++ chunks_of b
chunks_joined a b =
    ap (map chunk_of) (split-append is_dot a dot b refl)
    ∙ map-append chunk_of _ _

-- a text, a dot, and what follows
pub dotted : (text rest : List ℕ) → (text ++ dot ∷ []) ++ rest ≡ text ++ dot ∷ rest
dotted text rest = append_assoc text (dot ∷ []) rest

-- a word and a number spell its chunks and the number
one_number : (n : ℕ) → n < 2 ^ 32 → SpellsRelease (decimal n) (Numeric n ∷ [])
one_number n fits = dotted_one SpellsChunk (decimal n) (Numeric n) (decimal_spells n fits)

pub word_spelled : (word : List ℕ) (n : ℕ) → is_word word ≡ true → n < 2 ^ 32
    → SpellsRelease (word_text word ++ decimal n) (word_chunks word ++ Numeric n ∷ [])
word_spelled [] n passes fits = one_number n fits
word_spelled (b ∷ word) n passes fits =
    let one = one_number n fits in
    let whole : is_release ((b ∷ word) ++ dot ∷ decimal n) ≡ true =
    both_pass is_dot (is_chunk is_identifier_byte) (b ∷ word) dot (decimal n) refl passes
    (release_passes (decimal n) (Numeric n ∷ []) one) in
    let chunks : chunks_of ((b ∷ word) ++ dot ∷ decimal n)
    ≡ chunks_of (b ∷ word) ++ Numeric n ∷ [] =
    chunks_joined (b ∷ word) (decimal n)
    ∙ ap (λ (l : List PlainChunk). chunks_of (b ∷ word) ++ l)
    (release_chunks (decimal n) (Numeric n ∷ []) one) in
    subst (λ (l : List ℕ). SpellsRelease l (chunks_of (b ∷ word) ++ Numeric n ∷ []))
    (sym (dotted (b ∷ word) (decimal n)))
    (subst (SpellsRelease ((b ∷ word) ++ dot ∷ decimal n)) chunks
    (release_spelled ((b ∷ word) ++ dot ∷ decimal n) whole))

regroup : (a b c d : List ℕ)
    → (a ++ dot ∷ (b ++ dot ∷ c)) ++ hyphen ∷ d
    ≡ a ++ dot ∷ (b ++ dot ∷ (c ++ ((hyphen ∷ d) ++ [])))
regroup a b c d = simp (append_assoc, append-nil)

pub pre_read : (major minor patch : ℕ) (word : List ℕ) (number : ℕ) → major < 2 ^ 32
    → minor < 2 ^ 32 → patch < 2 ^ 32 → is_word word ≡ true → number < 2 ^ 32
    → versioning_of (pre_text major minor patch word number)
    ≡ Some (Ideal (pre_version major minor patch word number))
unfolding SpellsOptional
pre_read major minor patch word number a b c passes fits =
    versioning_of-Some (pre_text major minor patch word number)
    (Ideal (pre_version major minor patch word number)) (record {
      major = decimal major;
      minor = decimal minor;
      patch = decimal patch;
      pre_rel = hyphen ∷ (word_text word ++ decimal number);
      meta = [];
      whole = regroup (decimal major) (decimal minor) (decimal patch)
          (word_text word ++ decimal number);
      major_is = decimal_spells major a;
      minor_is = decimal_spells minor b;
      patch_is = decimal_spells patch c;
      pre_rel_is = (word_text word ++ decimal number, refl, word_spelled word number passes fits);
      meta_is = refl;
    })

-- the pre-release of a strict version, as a text
pub own_read : (text : List ℕ) (v : PlainSemVer) → SpellsSemVer text v → (own : Option (List ℕ))
    → own ≡ option_map release_text v.pre_rel
    → (own_chunks own ≡ v.pre_rel) × (is_own own ≡ true)
unfolding SpellsOptional
own_read text v s own is = by s.pre_rel v.pre_rel s.pre_rel_is is
  where
    by : (piece : List ℕ) (pre_rel : Option (List PlainChunk))
        → SpellsOptional hyphen SpellsRelease piece pre_rel
        → own ≡ option_map release_text pre_rel
        → (own_chunks own ≡ pre_rel) × (is_own own ≡ true)
    by piece None spelled is = rw is (refl, refl)
    by piece (Some chunks) spelled is =
        let printed : own ≡ Some spelled.0 =
        is ∙ ap Some (release_printed spelled.0 chunks spelled.2) in
        rw printed (
          ap Some (release_chunks spelled.0 chunks spelled.2),
          release_passes spelled.0 chunks spelled.2,
        )

-- the word is UTF-8
pub word_utf8 : (major minor patch : ℕ) (word : List ℕ) (number : ℕ) (v : PlainVersioning)
    → versioning_of (pre_text major minor patch word number) ≡ Some v → IsUtf8 word
word_utf8 major minor patch word number v read =
    let all = versioning_ascii _ v
    (versioning_of-spells (pre_text major minor patch word number) v read) in
    let after : IsAscii (word_text word ++ decimal number) =
    ascii_right (hyphen ∷ []) (word_text word ++ decimal number)
    (ascii_right (numbers_text major minor patch)
    (hyphen ∷ (word_text word ++ decimal number)) all) in
    IsUtf8-from_ascii word (of_word word (ascii_left (word_text word) (decimal number) after))
  where
    of_word : (word : List ℕ) → IsAscii (word_text word) → IsAscii word
    of_word [] ascii = ascii
    of_word (b ∷ word) ascii = ascii_left (b ∷ word) (dot ∷ []) ascii

-- all is written at once
written_at : (a b c d : List ℕ)
    → a ++ dot ∷ (b ++ dot ∷ (c ++ hyphen ∷ d)) ≡ (a ++ dot ∷ (b ++ dot ∷ c)) ++ hyphen ∷ d
written_at a b c d = simp append_assoc

pub in_one : (a b c word mark n same : List ℕ) → same ≡ word → word ++ mark ≡ word_text word
    → a ++ dot ∷ (b ++ dot ∷ (c ++ hyphen ∷ (same ++ (mark ++ n))))
    ≡ (a ++ dot ∷ (b ++ dot ∷ c)) ++ hyphen ∷ (word_text word ++ n)
in_one a b c word mark n same is marked =
    ap (λ (l : List ℕ). a ++ dot ∷ (b ++ dot ∷ (c ++ hyphen ∷ l)))
    (sym (append_assoc same mark n)
    ∙ ap (λ (l : List ℕ). l ++ n) (ap (λ (l : List ℕ). l ++ mark) is ∙ marked))
    ∙ written_at a b c (word_text word ++ n)
