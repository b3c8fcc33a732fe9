-- A version that comes next among pre-releases, and its text.
use Rattle.std.specs.Prelude.{◌≡◌, ◌<◌, ◌≤◌, ◌^◌, ◌⊎◌, ℕ, suc, Bool, true, List, [], ◌∷◌, ◌++◌, Option, Some, None}
use Rattle.std.specs.{Fmt.decimal, List.list_all, Option.option_map, Option.option_map_or, declared.cmp.Ordering.TheVariants.Greater}
use Rattle.version_order.specs.texts.{Bytes.dot, Bytes.hyphen, Bytes.is_identifier_byte, Cuts.pieces}
use Rattle.version_rules.specs.{grammar.Chunk.PlainChunk, grammar.Chunk.Numeric, grammar.SemVer.PlainSemVer, order.Parts.release_cmp}
use Rattle.version_texts.specs.{Scan.is_chunk}
use Rattle.version_pieces.specs.Pieces.{chunks_of}

-- whether a text is the chunks of a release
abbrev pub is_release : List ℕ → Bool
is_release text = list_all (is_chunk is_identifier_byte) (pieces text)

-- whether a text is a word: the chunks of a release, or none
abbrev pub is_word : List ℕ → Bool
is_word [] = true
is_word (b ∷ text) = is_release (b ∷ text)

-- the chunks of a word, and its text before a number: with a dot after it, unless it is empty
abbrev pub word_chunks : List ℕ → List PlainChunk
word_chunks [] = []
word_chunks (b ∷ text) = chunks_of (b ∷ text)

abbrev pub word_text : List ℕ → List ℕ
word_text [] = []
word_text (b ∷ text) = (b ∷ text) ++ dot ∷ []

-- three numbers, a word and a number, as a version and as its text
abbrev pub pre_version : ℕ → ℕ → ℕ → List ℕ → ℕ → PlainSemVer
pre_version major minor patch word number = record {
  major = major;
  minor = minor;
  patch = patch;
  pre_rel = Some (word_chunks word ++ Numeric number ∷ []);
  meta = None;
}

abbrev pub numbers_text : ℕ → ℕ → ℕ → List ℕ
numbers_text major minor patch = decimal major ++ dot ∷ (decimal minor ++ dot ∷ decimal patch)

abbrev pub pre_text : ℕ → ℕ → ℕ → List ℕ → ℕ → List ℕ
pre_text major minor patch word number =
    numbers_text major minor patch ++ hyphen ∷ (word_text word ++ decimal number)

-- Whether a pre-release of a word's chunks and a number comes after another pre-release, as a text.
-- None comes after a version without one.
abbrev pub Passes : List ℕ → Option (List ℕ) → ℕ → Type 0
Passes word None n = ⊥
Passes word (Some own) n =
    release_cmp (word_chunks word ++ Numeric n ∷ []) (chunks_of own) ≡ Greater

-- the least number from 1 on with which one does, and that none does
pub record IsLeastNumber (word : List ℕ) (own : Option (List ℕ)) (n : ℕ) : Type 0 where
  pub from_one : 1 ≤ n
  pub passes : Passes word own n
  pub least : (m : ℕ) → 1 ≤ m → Passes word own m → n ≤ m

abbrev pub NonePass : List ℕ → Option (List ℕ) → Type 0
NonePass word own = (n : ℕ) → n < 2 ^ 32 → ¬ (Passes word own n)

-- the patch and the number of what comes next: the least number at the same patch, else 1 at the
-- next patch
abbrev pub IsPlace : List ℕ → Option (List ℕ) → ℕ → ℕ × ℕ → Type 0
IsPlace word own patch place =
    ((place.0 ≡ patch) × IsLeastNumber word own place.1)
    ⊎ ((place.0 ≡ suc patch) × (place.1 ≡ 1) × NonePass word own)

-- the chunks that a text spells, if there is a text
abbrev pub own_chunks : Option (List ℕ) → Option (List PlainChunk)
own_chunks = option_map chunks_of

abbrev pub is_own : Option (List ℕ) → Bool
is_own own = option_map_or is_release own true
