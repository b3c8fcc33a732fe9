-- The number that comes next after the chunks of a word, read off texts.
use Rattle.std.proofs.Common.{◌≡◌, ◌∙◌, ℕ, List, [], ◌∷◌, ◌++◌, Option, Some, None, refl, sym, ap, arith, length-append, length, ◌==◌, true, false, drop, take, IfNone, IfSome, MatchOption, ◌<◌, ◌≤◌, ◌^◌, ◌⊎◌, suc, map, not, append_assoc, inl, inr}
use Rattle.std.specs.{Borrow.Bor, Cmp.tied_itself, Cmp.nat_cmp_is, List.list_all, Ordering.nat_cmp, Ordering.ordering_then, Str.bytes_eq, Str.Parse.digits_value, declared.cmp.Ordering.Ordering}
use Rattle.std.specs.declared.cmp.Ordering.TheVariants.{Less, Equal, Greater}
use Rattle.version_rules.specs.{grammar.Body.SpellsRelease, grammar.Body.release_text, grammar.Chunk.PlainChunk, grammar.Chunk.Numeric, grammar.Chunk.Alphanum, grammar.Chunk.chunk_text, laws.Part.chunk_total, laws.Part.chunks_same}
use Rattle.version_rules.specs.order.Parts.{chunk_cmp, release_cmp}
use Rattle.version_order.specs.texts.Cuts.{is_dot, pieces, behind_piece, first_piece, further_pieces}
use Rattle.version_order.specs.{keys.Codes.then_equal, texts.Bytes.dot, texts.Bytes.is_identifier_byte, texts.Front.begins, texts.Front.is_run, texts.Grammar.SpellsDotted}
use Rattle.version_tasks.specs.NextPreText.{word_text, IsLeastNumber, NonePass, Passes, is_release, is_word, word_chunks}
use Rattle.version_tasks.specs.NextPre.{AreNamed}
use Rattle.version_texts.proofs.lemmas.{scan.Spelled.release_chunks, scan.Spelled.split-append, scan.Spelled.split_run, scan.Spelled.numeral_spells}
use Rattle.version_pieces.proofs.lemmas.Pieces.{pieces_are}
use Rattle.std.proofs.lemmas.{Bool.and_parts, Bool.cases_Bool, Bool.not-true, List.drop_at, List.take-append-drop, List.take_at, List.Folds.list_all-append, Slice.Eq.bytes_eq-Decides}
use Rattle.version_tasks.proofs.lemmas.{Next.Order.three_ways, NextPre.Text.dotted, NextPre.Text.chunks_joined, NextPre.Text.release_spelled}
use Rattle.version_rules.proofs.lemmas.Chunk.{release_printed}
use Rattle.version_order.proofs.lemmas.NumberBytes.{above, below}
use Rattle.version_texts.specs.{Scan.is_chunk, Scan.is_numeral, VersioningRef.numeral_value}
use Rattle.version_pieces.specs.Pieces.{chunk_of, chunks_of}

-- ---- chunks and a number after them, compared with the chunks of a pre-release

-- a number after chunks, and a chunk after the same ones
pub behind_word : (word : List PlainChunk) (n : ℕ) (c : PlainChunk) (more : List PlainChunk)
    → release_cmp (word ++ Numeric n ∷ []) (word ++ c ∷ more)
    ≡ ordering_then (chunk_cmp (Numeric n) c) (release_cmp [] more)
behind_word [] n c more = refl
behind_word (d ∷ word) n c more =
    ap (λ o. ordering_then o (release_cmp (word ++ Numeric n ∷ []) (word ++ c ∷ more)))
    (tied_itself chunk_total d)
    ∙ behind_word word n c more

pub numbers_cmp : (word : List PlainChunk) (m n : ℕ)
    → release_cmp (word ++ Numeric m ∷ []) (word ++ Numeric n ∷ []) ≡ nat_cmp m n
numbers_cmp word m n = behind_word word m (Numeric n) [] ∙ then_equal (nat_cmp m n)

-- chunks that are not before others come after them with any number
pub not_below : (word own : List PlainChunk) (n : ℕ) → ¬ (release_cmp word own ≡ Less)
    → release_cmp (word ++ Numeric n ∷ []) own ≡ Greater
not_below [] [] n other = refl
not_below [] (d ∷ own) n other = absurd (other refl)
not_below (c ∷ word) [] n other = refl
not_below (c ∷ word) (d ∷ own) n other = by (chunk_cmp c d) (not_below word own n) other
  where
    by : (o : Ordering)
        → (¬ (release_cmp word own ≡ Less)
        → release_cmp (word ++ Numeric n ∷ []) own ≡ Greater)
        → ¬ (ordering_then o (release_cmp word own) ≡ Less)
        → ordering_then o (release_cmp (word ++ Numeric n ∷ []) own) ≡ Greater
    by Less more other = absurd (other refl)
    by Equal more other = more other
    by Greater more other = refl

-- chunks that are before others come after them with a number only if these begin with them
pub begun : (word own : List PlainChunk) (n : ℕ) → release_cmp word own ≡ Less
    → release_cmp (word ++ Numeric n ∷ []) own ≡ Greater
    → (c : PlainChunk) × (more : List PlainChunk) × (own ≡ word ++ c ∷ more)
begun [] [] n less after = cc less
begun [] (d ∷ own) n less after = (d, own, refl)
begun (c ∷ word) [] n less after = cc less
begun (c ∷ word) (d ∷ own) n less after =
    by (chunk_cmp c d) (begun word own n) refl less after
  where
    by : (o : Ordering)
        → (release_cmp word own ≡ Less
        → release_cmp (word ++ Numeric n ∷ []) own ≡ Greater
        → (e : PlainChunk) × (more : List PlainChunk) × (own ≡ word ++ e ∷ more))
        → chunk_cmp c d ≡ o → ordering_then o (release_cmp word own) ≡ Less
        → ordering_then o (release_cmp (word ++ Numeric n ∷ []) own) ≡ Greater
        → (e : PlainChunk) × (more : List PlainChunk) × (d ∷ own ≡ (c ∷ word) ++ e ∷ more)
    by Less further tied less after = cc after
    by Greater further tied less after = cc less
    by Equal further tied less after =
        let rest = further less after in
        let first : d ≡ c = sym (chunks_same c d tied) in
        (rest.0, rest.1, λ i. first i ∷ rest.2 i)

-- two lists with one more chunk each
pub before_same : (a b : List PlainChunk) (x y : PlainChunk) → a ++ x ∷ [] ≡ b ++ y ∷ []
    → (a ≡ b) × (x ≡ y)
before_same [] [] x y e = (refl, cc e)
before_same [] (c ∷ b) x y e =
    absurd (omega (arith, ap (λ (l : List PlainChunk). length l) e, length-append b (y ∷ [])))
before_same (c ∷ a) [] x y e =
    absurd (omega (arith, ap (λ (l : List PlainChunk). length l) e, length-append a (x ∷ [])))
before_same (c ∷ a) (d ∷ b) x y e =
    let first : c ≡ d = cc e in
    let rest : a ++ x ∷ [] ≡ b ++ y ∷ [] = cc e in
    let both = before_same a b x y rest in
    (λ i. first i ∷ both.0 i, both.1)

-- one list of chunks is named
pub one_named : (given : Option (List ℕ)) (pre_rel : Option (List PlainChunk))
    (a b : List PlainChunk) → AreNamed given pre_rel a → AreNamed given pre_rel b → a ≡ b
one_named (Some word) pre_rel a b first second =
    sym (release_chunks word a first) ∙ release_chunks word b second
one_named None pre_rel a b first second =
    let all : a ++ Numeric first.0 ∷ [] ≡ b ++ Numeric second.0 ∷ [] =
    cc (sym first.1 ∙ second.1) in
    (before_same a b (Numeric first.0) (Numeric second.0) all).0

-- ---- A word at the beginning of a text

-- the text of a word begins with it
pub dot_fits : (word : List ℕ) → (mark : List ℕ) × (word ++ mark ≡ word_text word)
dot_fits [] = ([], refl)
dot_fits (b ∷ word) = (dot ∷ [], refl)

-- a word that is not empty has a dot after it
word_text_is : (word : List ℕ) → (length word == 0) ≡ false → word_text word ≡ word ++ dot ∷ []
word_text_is [] some = cc some
word_text_is (b ∷ word) some = refl

word_and_rest : (word rest : List ℕ) → (length word == 0) ≡ false
    → word_text word ++ rest ≡ word ++ dot ∷ rest
word_and_rest word rest some =
    ap (λ (l : List ℕ). l ++ rest) (word_text_is word some) ∙ dotted word rest

-- a text that does not begin with a word
pub no_word : (word text : List ℕ) → bytes_eq (take (length word) text) word ≡ false
    → (rest : List ℕ) → ¬ (text ≡ word_text word ++ rest)
no_word [] text other rest is = cc other
no_word (b ∷ word) text other rest is =
    let front : take (length (b ∷ word)) text ≡ b ∷ word =
    ap (take (length (b ∷ word))) (is ∙ dotted (b ∷ word) rest)
    ∙ take_at (b ∷ word) (dot ∷ rest) (length (b ∷ word)) refl in
    cc (sym other ∙ (bytes_eq-Decides (take (length (b ∷ word)) text) (b ∷ word)).1 front)

-- a text that begins with a word, and what follows it
module _ (word text after : List ℕ) (some : (length word == 0) ≡ false) where
  pub with_word : bytes_eq (take (length word) text) word ≡ true → after ≡ drop (length word) text
      → (found : Option (Bor (List ℕ)))
      → MatchOption found (begins is_dot after ≡ false) (λ rest. after ≡ dot ∷ rest.now)
      → IfSome found (λ rest. text ≡ word_text word ++ rest.now)
  with_word same left None found = tt
  with_word same left (Some rest) found =
      sym (take-append-drop (length word) text)
      ∙ (λ i. (bytes_eq-Decides (take (length word) text) word).0 same i
      ++ (sym left ∙ found) i)
      ∙ sym (word_and_rest word rest.now some)

  pub no_dot_after : after ≡ drop (length word) text → (found : Option (Bor (List ℕ)))
      → MatchOption found (begins is_dot after ≡ false) (λ rest. after ≡ dot ∷ rest.now)
      → IfNone found ((rest : List ℕ) → ¬ (text ≡ word_text word ++ rest))
  no_dot_after left None found = λ rest is.
      let behind : after ≡ dot ∷ rest =
      left ∙ ap (drop (length word)) (is ∙ word_and_rest word rest some)
      ∙ drop_at word (dot ∷ rest) (length word) refl in
      cc (rw behind at found)
  no_dot_after left (Some rest) found = tt

-- ---- a chunk is a number exactly if it is a numeral

number_chunk : (text : List ℕ) → is_numeral text ≡ true
    → chunk_of text ≡ Numeric (digits_value 10 text)
number_chunk text e = rw (numeral_spells text e).digits refl

text_chunk : (text : List ℕ) → is_chunk is_identifier_byte text ≡ true → is_numeral text ≡ false
    → chunk_of text ≡ Alphanum text
text_chunk text passes other =
    let told = (and_parts (is_run is_identifier_byte text) _ passes).1 in
    let not_digits = rw other at told in
    rw (not-true _ not_digits) refl

-- ---- what follows a word

-- its chunk, and the further ones
abbrev further_chunks : List ℕ → List PlainChunk
further_chunks rest = map chunk_of (further_pieces is_dot (behind_piece rest))

rest_chunks : (rest : List ℕ)
    → chunks_of rest ≡ chunk_of (first_piece rest) ∷ further_chunks rest
rest_chunks rest = ap (map chunk_of) (pieces_are is_dot rest)

behind_chunks : (word own rest : List ℕ) → own ≡ word_text word ++ rest
    → chunks_of own ≡ word_chunks word ++ chunk_of (first_piece rest) ∷ further_chunks rest
behind_chunks [] own rest e = ap chunks_of e ∙ rest_chunks rest
behind_chunks (b ∷ word) own rest e =
    ap chunks_of (e ∙ dotted (b ∷ word) rest) ∙ chunks_joined (b ∷ word) rest
    ∙ ap (λ (l : List PlainChunk). chunks_of (b ∷ word) ++ l) (rest_chunks rest)

-- the pieces of a text, and those of one that it ends with
behind_passes : (word own rest : List ℕ) → own ≡ word_text word ++ rest → is_release own ≡ true
    → is_release rest ≡ true
behind_passes [] own rest e passes = ap is_release (sym e) ∙ passes
behind_passes (b ∷ word) own rest e passes =
    let whole : list_all (is_chunk is_identifier_byte) (pieces (b ∷ word) ++ pieces rest) ≡ true =
    ap (list_all (is_chunk is_identifier_byte))
    (sym (split-append is_dot (b ∷ word) dot rest refl))
    ∙ ap is_release (sym (e ∙ dotted (b ∷ word) rest)) ∙ passes in
    (and_parts _ (is_release rest)
    (sym (list_all-append (is_chunk is_identifier_byte) (pieces (b ∷ word)) (pieces rest))
    ∙ whole)).1

first_passes : (rest : List ℕ) → is_release rest ≡ true
    → is_chunk is_identifier_byte (first_piece rest) ≡ true
first_passes rest passes =
    (and_parts (is_chunk is_identifier_byte (first_piece rest)) _
    (ap (list_all (is_chunk is_identifier_byte)) (sym (pieces_are is_dot rest)) ∙ passes)).0

never_after : (more : List PlainChunk) → ¬ (release_cmp [] more ≡ Greater)
never_after [] e = cc e
never_after (c ∷ more) e = cc e

module _ (word own rest : List ℕ) (is : own ≡ word_text word ++ rest) where
  passes_is : (n : ℕ) → release_cmp (word_chunks word ++ Numeric n ∷ []) (chunks_of own)
      ≡ ordering_then (chunk_cmp (Numeric n) (chunk_of (first_piece rest)))
      (release_cmp [] (further_chunks rest))
  passes_is n =
      ap (release_cmp (word_chunks word ++ Numeric n ∷ [])) (behind_chunks word own rest is)
      ∙ behind_word (word_chunks word) n (chunk_of (first_piece rest)) (further_chunks rest)

  module _ (q : ℕ) (value : numeral_value (first_piece rest) ≡ Some q) where
    first_is : chunk_of (first_piece rest) ≡ Numeric q
    first_is = elim (cases_Bool (is_numeral (first_piece rest))) [
      | inl numeral ↦
          number_chunk (first_piece rest) numeral ∙ ap Numeric (cc (rw numeral at value))
      | inr other ↦ cc (rw other at value)
    ]

    number_is : (n : ℕ) → release_cmp (word_chunks word ++ Numeric n ∷ []) (chunks_of own)
        ≡ ordering_then (nat_cmp n q) (release_cmp [] (further_chunks rest))
    number_is n =
        passes_is n
        ∙ ap (λ c. ordering_then (chunk_cmp (Numeric n) c) (release_cmp [] (further_chunks rest)))
        first_is

    is_above : (n : ℕ) → Passes word (Some own) n → q < n
    is_above n passes =
        let order = sym (number_is n) ∙ passes in
        elim (three_ways n q) [
          | inl less ↦ cc (rw (below n q less) at order)
          | inr (inl same) ↦
              absurd (never_after (further_chunks rest)
              (rw (sym (nat_cmp_is n q Equal same)) at order))
          | inr (inr more) ↦ more
        ]

    next_number : IsLeastNumber word (Some own) (suc q)
    next_number = record {
      from_one = omega arith;
      passes = number_is (suc q)
          ∙ ap (λ o. ordering_then o (release_cmp [] (further_chunks rest)))
          (above (suc q) q (omega arith));
      least = λ m from passes. omega (arith, is_above m passes);
    }

    none_larger : 2 ^ 32 ≤ suc q → NonePass word (Some own)
    none_larger large n fits passes = absurd (omega (arith, large, fits, is_above n passes))

    pub next_given : (found : Option ℕ) → IfSome found (λ next. next ≡ suc q)
        → IfSome found (λ number. IsLeastNumber word (Some own) number)
    next_given None found = tt
    next_given (Some next) found = rw found next_number

    pub next_none : (found : Option ℕ) → IfNone found (2 ^ 32 ≤ suc q)
        → IfNone found (NonePass word (Some own))
    next_none None found = none_larger found
    next_none (Some next) found = tt

  -- a text comes after each number
  pub none_before_text : is_release own ≡ true → numeral_value (first_piece rest) ≡ None
      → NonePass word (Some own)
  none_before_text valid none n fits passes =
      elim (cases_Bool (is_numeral (first_piece rest))) [
        | inl numeral ↦ cc (rw numeral at none)
        | inr other ↦
            let chunk =
            text_chunk (first_piece rest)
            (first_passes rest (behind_passes word own rest is valid)) other in
            cc (rw chunk at (sym (passes_is n) ∙ passes))
      ]

-- ---- where a text does not begin with a word

release_joined : (c : PlainChunk) (chunks : List PlainChunk) (d : PlainChunk)
    (more : List PlainChunk)
    → release_text ((c ∷ chunks) ++ d ∷ more)
    ≡ release_text (c ∷ chunks) ++ dot ∷ release_text (d ∷ more)
release_joined c [] d more = refl
release_joined c (e ∷ chunks) d more =
    ap (λ (l : List ℕ). chunk_text c ++ dot ∷ l) (release_joined e chunks d more)
    ∙ sym (append_assoc (chunk_text c) (dot ∷ release_text (e ∷ chunks))
    (dot ∷ release_text (d ∷ more)))

-- a release whose chunks begin with those of a word begins with the word
begins_with : (word own : List ℕ) → is_release word ≡ true → is_release own ≡ true
    → (d : PlainChunk) (more : List PlainChunk) → chunks_of own ≡ chunks_of word ++ d ∷ more
    → own ≡ word ++ dot ∷ release_text (d ∷ more)
unfolding SpellsDotted
begins_with word own good valid d more e =
    sym (release_printed own (chunks_of own) (release_spelled own valid))
    ∙ ap release_text e
    ∙ by (chunks_of word) (release_spelled word good)
    ∙ ap (λ (l : List ℕ). l ++ dot ∷ release_text (d ∷ more))
    (release_printed word (chunks_of word) (release_spelled word good))
  where
    by : (chunks : List PlainChunk) → SpellsRelease word chunks
        → release_text (chunks ++ d ∷ more)
        ≡ release_text chunks ++ dot ∷ release_text (d ∷ more)
    by [] s = absurd s
    by (c ∷ chunks) s = release_joined c chunks d more

module _ (word own : List ℕ) (other : (rest : List ℕ) → ¬ (own ≡ word_text word ++ rest)) where
  -- the word is not empty, since each text begins with an empty one
  word_is : word_chunks word ≡ chunks_of word
  word_is = by word other
    where
      by : (word : List ℕ) → ((rest : List ℕ) → ¬ (own ≡ word_text word ++ rest))
          → word_chunks word ≡ chunks_of word
      by [] other = absurd (other own refl)
      by (b ∷ word) other = refl

  first_number : ¬ (release_cmp (chunks_of word) (chunks_of own) ≡ Less)
      → IsLeastNumber word (Some own) 1
  first_number not_less = record {
    from_one = omega arith;
    passes = not_below (word_chunks word) (chunks_of own) 1
        (λ less. not_less (sym (ap (λ (l : List PlainChunk). release_cmp l (chunks_of own)) word_is)
        ∙ less));
    least = λ m from passes. from;
  }

  pub first_given : (found : Option ℕ)
      → IfSome found (λ number. (number ≡ 1)
      × ¬ (release_cmp (chunks_of word) (chunks_of own) ≡ Less))
      → IfSome found (λ number. IsLeastNumber word (Some own) number)
  first_given None found = tt
  first_given (Some number) found = rw found.0 (first_number found.1)

none_below : (word own : List ℕ) → is_word word ≡ true
    → ((rest : List ℕ) → ¬ (own ≡ word_text word ++ rest)) → is_release own ≡ true
    → release_cmp (chunks_of word) (chunks_of own) ≡ Less → NonePass word (Some own)
none_below [] own good other valid less n fits passes = absurd (other own refl)
none_below (b ∷ word) own good other valid less n fits passes =
    let starts = begun (chunks_of (b ∷ word)) (chunks_of own) n less passes in
    other (release_text (starts.0 ∷ starts.1))
    (begins_with (b ∷ word) own good valid starts.0 starts.1 starts.2
    ∙ sym (dotted (b ∷ word) (release_text (starts.0 ∷ starts.1))))

pub first_none : (word own : List ℕ) → is_word word ≡ true
    → ((rest : List ℕ) → ¬ (own ≡ word_text word ++ rest)) → is_release own ≡ true
    → (found : Option ℕ)
    → IfNone found (release_cmp (chunks_of word) (chunks_of own) ≡ Less)
    → IfNone found (NonePass word (Some own))
first_none word own good other valid None found = none_below word own good other valid found
first_none word own good other valid (Some number) found = tt

-- ---- what stands before the last chunk

module _ (own word last : List ℕ) (valid : is_release own ≡ true)
    (cut : ((own ≡ last) × (word ≡ [])) ⊎ (own ≡ word ++ dot ∷ last))
    (no_dot : list_all (λ b. not (is_dot b)) last ≡ true) where
  last_alone : pieces last ≡ last ∷ []
  last_alone = split_run (λ b. not (is_dot b)) is_dot (λ b h. not-true _ h) last no_dot

  abbrev Ended : List ℕ → Type 0
  Ended word =
      (is_word word ≡ true)
      × (chunks_of own ≡ word_chunks word ++ chunk_of last ∷ [])
      × (is_chunk is_identifier_byte last ≡ true)

  ended : Ended word
  ended = by word cut
    where
      joined : (word : List ℕ) → own ≡ word ++ dot ∷ last
          → (is_release word ≡ true) × (is_release last ≡ true)
      joined word e =
          and_parts (is_release word) (is_release last)
          (sym (list_all-append (is_chunk is_identifier_byte) (pieces word) (pieces last))
          ∙ ap (list_all (is_chunk is_identifier_byte))
          (sym (split-append is_dot word dot last refl))
          ∙ ap is_release (sym e) ∙ valid)

      one_chunk : is_release last ≡ true → is_chunk is_identifier_byte last ≡ true
      one_chunk passes =
          (and_parts (is_chunk is_identifier_byte last) true
          (ap (list_all (is_chunk is_identifier_byte)) (sym last_alone) ∙ passes)).0

      by : (word : List ℕ) → ((own ≡ last) × (word ≡ [])) ⊎ (own ≡ word ++ dot ∷ last)
          → Ended word
      by word (inl alone) =
          rw alone.1 (
            refl,
            ap chunks_of alone.0 ∙ ap (map chunk_of) last_alone,
            one_chunk (ap is_release (sym alone.0) ∙ valid),
          )
      by [] (inr e) = cc (joined [] e).0
      by (b ∷ word) (inr e) = (
        (joined (b ∷ word) e).0,
        ap chunks_of e ∙ chunks_joined (b ∷ word) last
            ∙ ap (λ (l : List (List ℕ)). chunks_of (b ∷ word) ++ map chunk_of l) last_alone,
        one_chunk (joined (b ∷ word) e).1,
      )

  pub word_before : is_word word ≡ true
  word_before = ended.0

  pub number_last : is_numeral last ≡ true
      → (n : ℕ) × (chunks_of own ≡ word_chunks word ++ Numeric n ∷ [])
  number_last numeral = (
    digits_value 10 last,
    ended.1 ∙ ap (λ c. word_chunks word ++ c ∷ []) (number_chunk last numeral),
  )

  pub no_number_last : is_numeral last ≡ false
      → (chunks : List PlainChunk) (n : ℕ) → ¬ (chunks_of own ≡ chunks ++ Numeric n ∷ [])
  no_number_last other chunks n e =
      let same = before_same chunks (word_chunks word) (Numeric n) (chunk_of last)
      (sym e ∙ ended.1) in
      let text = text_chunk last ended.2 other in
      cc (same.1 ∙ text)
