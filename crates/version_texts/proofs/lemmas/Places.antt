-- The texts of messy versions compare by the places of their bytes as their chunks and signs do.
use Rattle.version_order.proofs.lemmas.{Bytes.alphanumeric_no_dot, Orders.then_assoc}
use Rattle.std.proofs.lemmas.Bool.Decides.{nat_tests}
use Rattle.std.specs.{Char.is_ascii_alphanumeric, Cmp.first_so, Cmp.nat_cmp_is, Cmp.second_so, Cmp.Lexicographic.slice_cmp, List.flat_map, List.list_all, Option.is_some}
use Rattle.std.specs.{Ordering.nat_cmp, Ordering.on, Ordering.ordering_then, Ordering.then_cmp, declared.cmp.Ordering.Ordering, declared.cmp.Ordering.TheVariants.Less, declared.cmp.Ordering.TheVariants.Greater}
use Rattle.version_order.specs.texts.Grammar.{SpellsDotted, SpellsEach, PlainSep, Colon, is_sep, sep_byte, sep_plain_cmp, sep_rank}
use Rattle.version_order.specs.{keys.Lists.bytes_cmp, texts.Bytes.dot}
use Rattle.version_rules.specs.grammar.Mess.{Further, PlainMess, Section, SpellsFurther, SpellsMess, SpellsSection, further_text, joined_section, mess_text}
use Rattle.version_rules.specs.grammar.MChunk.{PlainMChunk, SpellsMChunk, mchunk_text}
use Rattle.version_rules.proofs.lemmas.MChunk.{mchunk_printed, spelled_run}
use Rattle.version_texts.specs.Order.{byte_place, messy_tie}
use Rattle.version_texts.proofs.lemmas.scan.Complex.{further_text-is}
use Rattle.std.proofs.Common.{◌≡◌, ◌∙◌, ◌<◌, ◌≤◌, ℕ, false, true, List, [], ◌∷◌, ◌++◌, Option, Some, None, refl, sym, ap, subst, arith, append-nil, append_assoc}

-- ---- places

alphanumeric_no_sep : (b : ℕ) → is_ascii_alphanumeric b ≡ true → is_sep b ≡ false
alphanumeric_no_sep b h = grind (arith, nat_tests)

no_sign : (o : Option PlainSep) → is_some o ≡ false → o ≡ None
no_sign None e = refl
no_sign (Some sign) e = cc e

-- a letter or a digit has its own place, above those of signs and dots
own_place : (b : ℕ) → is_ascii_alphanumeric b ≡ true → byte_place b ≡ b
own_place b h = grind (arith, no_sign, alphanumeric_no_sep, alphanumeric_no_dot)

above : (b : ℕ) → is_ascii_alphanumeric b ≡ true → 48 ≤ b
above b h = grind (arith, nat_tests)

sign_place : (sign : PlainSep) → byte_place (sep_byte sign) ≡ sep_rank sign
sign_place Colon = refl
sign_place sign = refl

sign_below : (sign : PlainSep) → sep_rank sign < 5
sign_below Colon = omega arith
sign_below sign = omega arith

-- a text that is empty or begins with a byte of a place below
abbrev BeginsBelow : ℕ → List ℕ → Type 0
BeginsBelow n [] = Unit {0}
BeginsBelow n (b ∷ text) = byte_place b < n

lower : (m n : ℕ) (text : List ℕ) → m ≤ n → BeginsBelow m text → BeginsBelow n text
lower m n [] h below = tt
lower m n (b ∷ text) h below = omega arith

less : (m n : ℕ) → m < n → nat_cmp m n ≡ Less
less m n h = sym (nat_cmp_is m n Less h)

greater : (m n : ℕ) → n < m → nat_cmp m n ≡ Greater
greater m n h = sym (nat_cmp_is m n Greater h)

ends_first : (n : ℕ) (x : List ℕ) (b : ℕ) (y : List ℕ) → BeginsBelow n x → n ≤ byte_place b
    → messy_tie x (b ∷ y) ≡ Less
ends_first n [] b y below h = refl
ends_first n (a ∷ x) b y below h =
    let first : byte_place a < byte_place b = omega arith in
    ap (λ o. ordering_then o (messy_tie x y)) (less (byte_place a) (byte_place b) first)

ends_last : (n : ℕ) (b : ℕ) (x y : List ℕ) → BeginsBelow n y → n ≤ byte_place b
    → messy_tie (b ∷ x) y ≡ Greater
ends_last n b x [] below h = refl
ends_last n b x (a ∷ y) below h =
    let first : byte_place a < byte_place b = omega arith in
    ap (λ o. ordering_then o (messy_tie x y)) (greater (byte_place b) (byte_place a) first)

-- ---- runs of letters and digits

abbrev IsRun : List ℕ → Type 0
IsRun text = list_all is_ascii_alphanumeric text ≡ true

run_above : (b : ℕ) (text : List ℕ) → IsRun (b ∷ text) → 48 ≤ byte_place b
run_above b text all = grind (arith, own_place, above)

-- two runs compare by their bytes, and then what follows them
runs_first : (a b x y : List ℕ) → IsRun a → IsRun b → BeginsBelow 48 x → BeginsBelow 48 y
    → messy_tie (a ++ x) (b ++ y) ≡ ordering_then (bytes_cmp a b) (messy_tie x y)
runs_first [] [] x y all_a all_b below_x below_y = refl
runs_first [] (d ∷ b) x y all_a all_b below_x below_y =
    ends_first 48 x d (b ++ y) below_x (run_above d b all_b)
runs_first (c ∷ a) [] x y all_a all_b below_x below_y =
    ends_last 48 c (a ++ x) y below_y (run_above c a all_a)
runs_first (c ∷ a) (d ∷ b) x y all_a all_b below_x below_y =
    let first : nat_cmp (byte_place c) (byte_place d) ≡ nat_cmp c d =
    λ i. nat_cmp (own_place c (first_so _ _ all_a) i) (own_place d (first_so _ _ all_b) i) in
    let more =
    runs_first a b x y (second_so _ _ all_a) (second_so _ _ all_b) below_x below_y in
    (λ i. ordering_then (first i) (more i))
    ∙ sym (then_assoc (nat_cmp c d) (bytes_cmp a b) (messy_tie x y))

-- ---- sections

-- the chunks of a section, which their texts spell; of a section, one or more
abbrev pub AreChunks : List PlainMChunk → Type 0
AreChunks [] = Unit {0}
AreChunks (c ∷ cs) = SpellsMChunk (mchunk_text c) c × AreChunks cs

abbrev pub IsSection : List PlainMChunk → Type 0
IsSection [] = ⊥
IsSection (c ∷ cs) = AreChunks (c ∷ cs)

-- the order of sections by the texts of their chunks
abbrev pub texts_cmp : List PlainMChunk → List PlainMChunk → Ordering
texts_cmp = slice_cmp (on mchunk_text bytes_cmp)

-- chunks after the first one, each after its dot
abbrev dotted : List PlainMChunk → List ℕ
dotted = flat_map (λ c. dot ∷ mchunk_text c)

joined : (c : PlainMChunk) (cs : List PlainMChunk)
    → joined_section (c ∷ cs) ≡ mchunk_text c ++ dotted cs
joined c [] = sym (append-nil (mchunk_text c))
joined c (d ∷ cs) = ap (λ (l : List ℕ). mchunk_text c ++ (dot ∷ l)) (joined d cs)

dotted_below : (cs : List PlainMChunk) (x : List ℕ) → BeginsBelow 5 x
    → BeginsBelow 48 (dotted cs ++ x)
dotted_below [] x below = lower 5 48 x (omega arith) below
dotted_below (c ∷ cs) x below = omega arith

chunk_run : (c : PlainMChunk) → SpellsMChunk (mchunk_text c) c → IsRun (mchunk_text c)
chunk_run c s = spelled_run (mchunk_text c) c s

-- two lists of chunks compare by their first ones, and then what follows these
chunks_first : (c d : PlainMChunk) (cs ds : List PlainMChunk) (x y : List ℕ)
    → SpellsMChunk (mchunk_text c) c → SpellsMChunk (mchunk_text d) d
    → BeginsBelow 5 x → BeginsBelow 5 y
    → messy_tie (dotted cs ++ x) (dotted ds ++ y)
    ≡ ordering_then (texts_cmp cs ds) (messy_tie x y)
    → messy_tie ((mchunk_text c ++ dotted cs) ++ x) ((mchunk_text d ++ dotted ds) ++ y)
    ≡ ordering_then (texts_cmp (c ∷ cs) (d ∷ ds)) (messy_tie x y)
chunks_first c d cs ds x y s t below_x below_y more =
    grind (arith, append_assoc, runs_first, chunk_run, dotted_below, then_assoc)

chunks_compare : (cs ds : List PlainMChunk) (x y : List ℕ) → AreChunks cs → AreChunks ds
    → BeginsBelow 5 x → BeginsBelow 5 y
    → messy_tie (dotted cs ++ x) (dotted ds ++ y)
    ≡ ordering_then (texts_cmp cs ds) (messy_tie x y)
chunks_compare [] [] x y s t below_x below_y = refl
chunks_compare [] (d ∷ ds) x y s t below_x below_y =
    ends_first 5 x dot ((mchunk_text d ++ dotted ds) ++ y) below_x (omega arith)
chunks_compare (c ∷ cs) [] x y s t below_x below_y =
    ends_last 5 dot ((mchunk_text c ++ dotted cs) ++ x) y below_y (omega arith)
chunks_compare (c ∷ cs) (d ∷ ds) x y s t below_x below_y =
    chunks_first c d cs ds x y s.0 t.0 below_x below_y
    (chunks_compare cs ds x y s.1 t.1 below_x below_y)

-- two sections compare by the texts of their chunks, and then what follows them
sections_compare : (cs ds : List PlainMChunk) (x y : List ℕ) → IsSection cs → IsSection ds
    → BeginsBelow 5 x → BeginsBelow 5 y
    → messy_tie (joined_section cs ++ x) (joined_section ds ++ y)
    ≡ ordering_then (texts_cmp cs ds) (messy_tie x y)
sections_compare [] ds x y s t below_x below_y = absurd s
sections_compare (c ∷ cs) [] x y s t below_x below_y = absurd t
sections_compare (c ∷ cs) (d ∷ ds) x y s t below_x below_y =
    (λ i. messy_tie (joined c cs i ++ x) (joined d ds i ++ y))
    ∙ chunks_first c d cs ds x y s.0 t.0 below_x below_y
    (chunks_compare cs ds x y s.1 t.1 below_x below_y)

-- ---- versions

abbrev pub AreSections : List Further → Type 0
AreSections [] = Unit {0}
AreSections (f ∷ more) = IsSection f.1 × AreSections more

-- the order of further sections by their signs and the texts of their chunks
abbrev pub further_texts_cmp : Further → Further → Ordering
further_texts_cmp =
    then_cmp (on (λ (f : Further). f.0) sep_plain_cmp) (on (λ (f : Further). f.1) texts_cmp)

further_below : (more : List Further) → BeginsBelow 5 (flat_map further_text more)
further_below [] = tt
further_below (f ∷ more) = rw (sign_place f.0) (sign_below f.0)

further_compare : (xs ys : List Further) → AreSections xs → AreSections ys
    → messy_tie (flat_map further_text xs) (flat_map further_text ys)
    ≡ slice_cmp further_texts_cmp xs ys
further_compare [] [] s t = refl
further_compare (f ∷ xs) (g ∷ ys) s t =
    let signs = sep_plain_cmp f.0 g.0 in
    let more = slice_cmp further_texts_cmp xs ys in
    (λ i. ordering_then (nat_cmp (sign_place f.0 i) (sign_place g.0 i))
    (messy_tie (joined_section f.1 ++ flat_map further_text xs)
    (joined_section g.1 ++ flat_map further_text ys)))
    ∙ ap (ordering_then signs)
    (sections_compare f.1 g.1 (flat_map further_text xs) (flat_map further_text ys) s.0 t.0
    (further_below xs) (further_below ys)
    ∙ ap (ordering_then (texts_cmp f.1 g.1)) (further_compare xs ys s.1 t.1))
    ∙ sym (then_assoc signs (texts_cmp f.1 g.1) more)
further_compare xs ys s t = refl

-- the sections of a version, of chunks that their texts spell
pub record HasSections (m : PlainMess) : Type 0 where
  pub first_is : IsSection m.first
  pub more_is : AreSections m.more

-- the order of versions by the texts of their chunks and by their signs
abbrev pub mess_texts_cmp : PlainMess → PlainMess → Ordering
mess_texts_cmp =
    then_cmp (on (λ (m : PlainMess). m.first) texts_cmp)
    (on (λ (m : PlainMess). m.more) (slice_cmp further_texts_cmp))

-- two printed versions compare by the texts of their chunks and by their signs
pub texts_compare : (a b : PlainMess) → HasSections a → HasSections b
    → messy_tie (mess_text a) (mess_text b) ≡ mess_texts_cmp a b
texts_compare a b s t = grind (arith, sections_compare, further_below, further_compare)

-- ---- what is spelled has such sections

kept_chunk : (text : List ℕ) (c : PlainMChunk) → SpellsMChunk text c
    → SpellsMChunk (mchunk_text c) c
kept_chunk text c s =
    subst (λ (l : List ℕ). SpellsMChunk l c) (sym (mchunk_printed text c s)) s

spelled_section : (text : List ℕ) (cs : Section) → SpellsSection text cs → IsSection cs
unfolding SpellsDotted
spelled_section text [] s = absurd s
spelled_section text (c ∷ []) s = (kept_chunk text c s, tt)
spelled_section text (c ∷ d ∷ cs) s =
    (kept_chunk s.0 c s.3, spelled_section s.1 (d ∷ cs) s.4)

spelled_further : (text : List ℕ) (more : List Further) → SpellsEach SpellsFurther text more
    → AreSections more
spelled_further text [] s = tt
spelled_further text (f ∷ more) s =
    let next = further_text-is text f more s in
    (spelled_section next.0 f.1 next.3, spelled_further next.1 more next.4)

pub spelled_sections : (text : List ℕ) (m : PlainMess) → SpellsMess text m → HasSections m
spelled_sections text m s = grind (arith, spelled_section, spelled_further)
