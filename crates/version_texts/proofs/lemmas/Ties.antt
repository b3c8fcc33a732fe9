-- Two versions of one key compare field by field as their texts do by their shapes.
use Rattle.std.proofs.Common.{◌≡◌, if◌then◌else◌, ℕ, List, Option, Some, None, inl, inr, refl, sym, subst, arith, ◌∙◌, ◌<◌, [], ◌∷◌, ◌++◌, drop, length, map, ap, length-append}
use Rattle.std.proofs.lemmas.Cmp.{lists_total, nat_cmp_total, nat_list_cmp_total, on_total, then_total}
use Rattle.std.proofs.lemmas.Bool.{cases_Bool}
use Rattle.std.specs.{Cmp.IsTotalOrder, Cmp.tied_itself, Cmp.nat_cmp_is, Cmp.Lexicographic.options_total, Fmt.decimal, List.prefix_len, List.take_while, Option.option_cmp, Option.option_map_or, Option.unwrap_or}
use Rattle.std.specs.{Ordering.nat_cmp, Ordering.ordering_then, Ordering.on, Ordering.then_cmp, declared.cmp.Ordering.Ordering}
use Rattle.std.specs.declared.cmp.Ordering.TheVariants.{Equal, Less, Greater}
use Rattle.version_order.specs.{keys.Codes.then_equal, keys.Lists.bytes_cmp, keys.Lists.split_last, texts.Bytes.colon, texts.Bytes.hyphen, texts.Bytes.plus, texts.Bytes.is_section_byte, texts.Cuts.pieces}
use Rattle.version_order.specs.texts.Grammar.{SpellsDotted, SpellsOptional}
use Rattle.version_texts.specs.Order.{bodies_tie, general_tie, is_numbered, last_tie, parts_tie, messy_tie, byte_place, kind_place, texts_tie}
use Rattle.version_texts.specs.{Key.parts_of, Scan.body_start, Scan.from_body}
use Rattle.version_rules.specs.grammar.Body.{PlainBody, SpellsBody, SpellsMetadata, SpellsRelease, release_text}
use Rattle.version_rules.specs.grammar.Chunk.{Alphanum, Numeric, PlainChunk, SpellsPart, chunk_text}
use Rattle.version_rules.specs.grammar.Versioning.{versioning_kind, PlainVersioning, Ideal, General, Complex, versioning_of}
use Rattle.version_rules.specs.key.Key.{Key, key_of_version, key_of, precedence, key_tie_cmp}
use Rattle.version_rules.specs.{declared.kind.Kind.Kind, grammar.Last.IsLastOf, grammar.Last.PlainLast, grammar.SemVer.optional_text, grammar.Version.PlainVersion, grammar.Version.SpellsVersion, grammar.Version.epoch_text}
use Rattle.version_rules.specs.{key.PartKey.PartKey, key.PartKey.part_key, laws.Part.release_total, order.Kinds.version_plain_cmp, order.Orders.versioning_cmp, order.Parts.last_plain_cmp, order.Parts.chunk_cmp, order.Parts.release_cmp}
use Rattle.version_rules.proofs.lemmas.{Chunk.part_printed, Chunk.release_printed, Key.ties_alike, Order.keys_same, SemVer.optional_printed, Versioning.versioning_of-spells}
use Rattle.version_order.proofs.lemmas.Orders.{then_assoc}
use Rattle.version_texts.proofs.lemmas.Lasts.{number_apart, numbers_same, run_cut, tied_lasts, IsNonempty, parts_then}
use Rattle.version_texts.proofs.lemmas.{scan.Shape.version_cut, scan.Shape.IsCut, scan.Shape.from_body-is, scan.Shape.printed_epoch, scan.Spelled.body_parts, scan.Spelled.body_pieces}
use Rattle.version_texts.proofs.lemmas.Variants.{messy_decides}
use Rattle.version_rules.specs.key.Key as tail
use Rattle.version_rules.specs.declared.kind.Kind.TheVariants as kind

-- ---- the orders of general versions of one key are total

-- a last part, if it is not decomposed
whole_part : List ℕ → Option (List ℕ)
whole_part text = if is_numbered text then None else Some text

as_whole : (a b : List ℕ) → option_cmp bytes_cmp (whole_part a) (whole_part b) ≡ last_tie a b
unfolding whole_part
as_whole a b = elim (cases_Bool (is_numbered a)) [
  | inl here ↦ elim (cases_Bool (is_numbered b)) [
    | inl there ↦ rw (here, there) refl
    | inr there ↦ rw (here, there) refl
  ]
  | inr here ↦ elim (cases_Bool (is_numbered b)) [
    | inl there ↦ rw (here, there) refl
    | inr there ↦ rw (here, there) refl
  ]
]

last_total : IsTotalOrder last_tie
last_total =
    subst IsTotalOrder (λ i a b. as_whole a b i)
    (on_total whole_part (options_total nat_list_cmp_total))

parts_total : IsTotalOrder parts_tie
parts_total =
    on_total split_last
    (options_total
    (then_total
    (on_total (λ (split : List (List ℕ) × List ℕ). split.0) (lists_total nat_list_cmp_total))
    (on_total (λ (split : List (List ℕ) × List ℕ). split.1) last_total)))

bodies_total : IsTotalOrder bodies_tie
bodies_total = grind (arith, then_total, on_total, parts_total, nat_list_cmp_total)

pub general_total : IsTotalOrder general_tie
general_total = then_total (on_total body_start nat_cmp_total) (on_total from_body bodies_total)

-- identical texts tie
pub same_lasts : (a b : List ℕ) → a ≡ b → Equal ≡ last_tie a b
same_lasts a b same = rw same (sym (tied_itself last_total b))

pub same_generals : (a b : List ℕ) → a ≡ b → Equal ≡ general_tie a b
same_generals a b same = rw same (sym (tied_itself general_total b))

-- ---- general versions of one key compare field by field as the pieces of their texts do

-- ---- parts

-- chunks of one key compare by their texts
tied_parts : (c d : PlainChunk) → SpellsPart (chunk_text c) c → SpellsPart (chunk_text d) d
    → part_key (chunk_text c) ≡ part_key (chunk_text d)
    → bytes_cmp (chunk_text c) (chunk_text d) ≡ chunk_cmp c d
tied_parts (Numeric m) (Numeric n) s t e =
    let same : m ≡ n = numbers_same m n s t e in
    ap (λ k. bytes_cmp (decimal k) (decimal n)) same
    ∙ tied_itself nat_list_cmp_total (decimal n)
    ∙ sym (ap (λ k. nat_cmp k n) same ∙ tied_itself nat_cmp_total n)
tied_parts (Numeric n) (Alphanum text) s t e = absurd (number_apart n text s t e)
tied_parts (Alphanum text) (Numeric n) s t e = absurd (number_apart n text t s (sym e))
tied_parts (Alphanum text) (Alphanum other) s t e = refl

-- chunks that their texts spell
abbrev AreParts : List PlainChunk → Type 0
AreParts [] = Unit {0}
AreParts (c ∷ cs) = SpellsPart (chunk_text c) c × AreParts cs

kept_part : (text : List ℕ) (c : PlainChunk) → SpellsPart text c → SpellsPart (chunk_text c) c
kept_part text c s = subst (λ (l : List ℕ). SpellsPart l c) (sym (part_printed text c s)) s

spelled_parts : (text : List ℕ) (cs : List PlainChunk) → SpellsDotted SpellsPart text cs
    → AreParts cs
unfolding SpellsDotted
spelled_parts text [] s = absurd s
spelled_parts text (c ∷ []) s = (kept_part text c s, tt)
spelled_parts text (c ∷ d ∷ cs) s = (kept_part s.0 c s.3, spelled_parts s.1 (d ∷ cs) s.4)

-- their texts, and the keys of these
abbrev texts : List PlainChunk → List (List ℕ)
texts = map chunk_text

abbrev keys : List PlainChunk → List PartKey
keys cs = map part_key (texts cs)

one_more : (cs : List PlainChunk) (p : PlainChunk) → IsNonempty (texts (cs ++ p ∷ []))
one_more [] p = tt
one_more (c ∷ cs) p = tt

no_key : (cs : List PlainChunk) (p : PlainChunk) → ¬ ([] ≡ keys (cs ++ p ∷ []))
no_key [] p e = cc e
no_key (c ∷ cs) p e = cc e

-- two bodies of one key compare by the texts of their parts
parts_decide : (cs ds : List PlainChunk) (p q : PlainChunk) (l m : PlainLast)
    → AreParts (cs ++ p ∷ []) → AreParts (ds ++ q ∷ []) → IsLastOf p l → IsLastOf q m
    → keys (cs ++ p ∷ []) ≡ keys (ds ++ q ∷ [])
    → parts_tie (texts (cs ++ p ∷ [])) (texts (ds ++ q ∷ []))
    ≡ ordering_then (release_cmp cs ds) (last_plain_cmp l m)
parts_decide [] [] p q l m s t here there e =
    let key : part_key (chunk_text p) ≡ part_key (chunk_text q) = cc e in
    sym (tied_lasts p q l m s.0 t.0 here there key)
parts_decide [] (d ∷ ds) p q l m s t here there e =
    let none : [] ≡ keys (ds ++ q ∷ []) = cc e in
    absurd (no_key ds q none)
parts_decide (c ∷ cs) [] p q l m s t here there e =
    let none : keys (cs ++ p ∷ []) ≡ [] = cc e in
    absurd (no_key cs p (sym none))
parts_decide (c ∷ cs) (d ∷ ds) p q l m s t here there e =
    let key : part_key (chunk_text c) ≡ part_key (chunk_text d) = cc e in
    let more : keys (cs ++ p ∷ []) ≡ keys (ds ++ q ∷ []) = cc e in
    parts_then (chunk_text c) (chunk_text d) (texts (cs ++ p ∷ [])) (texts (ds ++ q ∷ []))
    (one_more cs p) (one_more ds q)
    ∙ (λ i. ordering_then (tied_parts c d s.0 t.0 key i)
    (parts_decide cs ds p q l m s.1 t.1 here there more i))
    ∙ sym (then_assoc (chunk_cmp c d) (release_cmp cs ds) (last_plain_cmp l m))

bodies_decide : (text other : List ℕ) (a b : PlainBody) → SpellsBody text a → SpellsBody other b
    → parts_of text ≡ parts_of other
    → parts_tie (pieces text) (pieces other)
    ≡ ordering_then (release_cmp a.0 b.0) (last_plain_cmp a.1 b.1)
bodies_decide text other a b s t e = grind (arith, body_pieces, parts_decide, spelled_parts)

-- ---- epochs

some_epoch : (n : ℕ) → 0 < length (epoch_text (Some n))
some_epoch n = omega (arith, length-append (decimal n) (colon ∷ []))

epochs_decide : (o p : Option ℕ) → unwrap_or o 0 ≡ unwrap_or p 0
    → nat_cmp (length (epoch_text o)) (length (epoch_text p)) ≡ option_cmp nat_cmp o p
epochs_decide None None e = refl
epochs_decide None (Some n) e =
    sym (nat_cmp_is 0 (length (epoch_text (Some n))) Less (some_epoch n))
epochs_decide (Some n) None e =
    sym (nat_cmp_is (length (epoch_text (Some n))) 0 Greater (some_epoch n))
epochs_decide (Some m) (Some n) e =
    ap (λ k. nat_cmp (length (epoch_text (Some k))) (length (epoch_text (Some n)))) e
    ∙ tied_itself nat_cmp_total (length (epoch_text (Some n)))
    ∙ sym (ap (λ k. nat_cmp k n) e ∙ tied_itself nat_cmp_total n)

-- ---- releases and metadata

releases_tied : (o p : Option (List PlainChunk))
    → option_map_or tail.Released o tail.Bare ≡ option_map_or tail.Released p tail.Bare → o ≡ p
releases_tied None None e = refl
releases_tied (Some x) None e = cc e
releases_tied o p e = cc e

metas_decide : (text other : List ℕ) (o p : Option (List ℕ))
    → SpellsOptional plus SpellsMetadata text o → SpellsOptional plus SpellsMetadata other p
    → bytes_cmp text other ≡ option_cmp bytes_cmp o p
unfolding SpellsOptional
metas_decide text other None None s t = rw (s, t) refl
metas_decide text other None (Some y) s t = rw (s, t.1) refl
metas_decide text other (Some x) None s t = rw (s.1, t) refl
metas_decide text other (Some x) (Some y) s t = rw (s.1, t.1) (λ i. bytes_cmp (s.2.0 i) (t.2.0 i))

-- texts that begin alike compare as what follows
bytes_behind : (text a b : List ℕ) → bytes_cmp (text ++ a) (text ++ b) ≡ bytes_cmp a b
bytes_behind [] a b = refl
bytes_behind (x ∷ text) a b =
    ap (λ o. ordering_then o (bytes_cmp (text ++ a) (text ++ b))) (tied_itself nat_cmp_total x)
    ∙ bytes_behind text a b

-- ---- versions

-- the body of a text that is cut, and what follows it
module _ (text epoch body rest : List ℕ) (cut : IsCut text epoch body rest) where
  body_cut : (take_while is_section_byte (from_body text) ≡ body)
      × (drop (prefix_len is_section_byte (from_body text)) (from_body text) ≡ rest)
  body_cut =
      let at_body = from_body-is text epoch body rest cut in
      let run = run_cut is_section_byte body rest cut.bytes cut.ends in (
        ap (take_while is_section_byte) at_body ∙ run.0,
        ap (λ (l : List ℕ). drop (prefix_len is_section_byte l) l) at_body ∙ run.1,
      )

module _ (text other : List ℕ) (a b : PlainVersion) (s : SpellsVersion text a)
    (t : SpellsVersion other b) (e : key_of_version a ≡ key_of_version b) where
  starts : nat_cmp (body_start text) (body_start other) ≡ option_cmp nat_cmp a.epoch b.epoch
  starts =
      let here : body_start text ≡ length (epoch_text a.epoch) =
      (version_cut text a s).starts
      ∙ ap (λ (l : List ℕ). length l) (printed_epoch s.epoch a.epoch s.epoch_is) in
      let there : body_start other ≡ length (epoch_text b.epoch) =
      (version_cut other b t).starts
      ∙ ap (λ (l : List ℕ). length l) (printed_epoch t.epoch b.epoch t.epoch_is) in
      (λ i. nat_cmp (here i) (there i))
      ∙ epochs_decide a.epoch b.epoch (ap (λ (k : Key). k.epoch) e)

  bodies : parts_tie (pieces s.body) (pieces t.body)
      ≡ ordering_then (release_cmp a.chunks b.chunks) (last_plain_cmp a.last b.last)
  bodies =
      let parts : parts_of s.body ≡ parts_of t.body =
      body_parts s.body (a.chunks, a.last) s.body_is ∙ ap (λ (k : Key). k.body) e
      ∙ sym (body_parts t.body (b.chunks, b.last) t.body_is) in
      bodies_decide s.body t.body (a.chunks, a.last) (b.chunks, b.last) s.body_is t.body_is parts

  same_releases : a.release ≡ b.release
  same_releases = releases_tied a.release b.release (ap (λ (k : Key). k.tail) e)

  -- releases of one key have the same text
  afters : bytes_cmp (s.release ++ s.meta) (t.release ++ t.meta)
      ≡ option_cmp bytes_cmp a.meta b.meta
  afters =
      let printed = optional_printed hyphen SpellsRelease release_text release_printed in
      let same : s.release ≡ t.release =
      sym (printed s.release a.release s.release_is)
      ∙ ap (optional_text hyphen release_text) same_releases
      ∙ printed t.release b.release t.release_is in
      ap (λ (l : List ℕ). bytes_cmp (l ++ s.meta) (t.release ++ t.meta)) same
      ∙ bytes_behind t.release s.meta t.meta
      ∙ metas_decide s.meta t.meta a.meta b.meta s.meta_is t.meta_is

  releases : option_cmp release_cmp a.release b.release ≡ Equal
  releases =
      ap (λ o. option_cmp release_cmp o b.release) same_releases
      ∙ tied_itself (options_total release_total) b.release

  -- texts of general versions of one key compare as the versions do
  pub general_decides : general_tie text other ≡ version_plain_cmp a b
  general_decides =
      let chunks = release_cmp a.chunks b.chunks in
      let last = last_plain_cmp a.last b.last in
      let meta = option_cmp bytes_cmp a.meta b.meta in
      let here = body_cut text s.epoch s.body (s.release ++ s.meta) (version_cut text a s) in
      let there = body_cut other t.epoch t.body (t.release ++ t.meta) (version_cut other b t) in
      (λ i. ordering_then (starts i)
      (ordering_then (parts_tie (pieces (here.0 i)) (pieces (there.0 i)))
      (bytes_cmp (here.1 i) (there.1 i))))
      ∙ (λ i. ordering_then (option_cmp nat_cmp a.epoch b.epoch)
      (ordering_then (bodies i) (afters i)))
      ∙ ap (ordering_then (option_cmp nat_cmp a.epoch b.epoch))
      (then_assoc chunks last meta
      ∙ ap (λ (o : Ordering). ordering_then chunks (ordering_then last (ordering_then o meta)))
      (sym releases))

-- ---- texts of known kinds have a total order, and compare as their versions do where their keys tie

-- ---- the order of texts of known kinds is total

messy_total : IsTotalOrder messy_tie
messy_total = lists_total (on_total byte_place nat_cmp_total)

-- the text, if it is of the kind
general_part : Kind × List ℕ → Option (List ℕ)
general_part (kind.General, text) = Some text
general_part _ = None

messy_part : Kind × List ℕ → Option (List ℕ)
messy_part (kind.Complex, text) = Some text
messy_part _ = None

in_turn : (x y : Kind × List ℕ)
    → then_cmp (on (λ (t : Kind × List ℕ). kind_place t.0) nat_cmp)
    (then_cmp (on general_part (option_cmp general_tie))
    (on messy_part (option_cmp messy_tie))) x y ≡ texts_tie x y
unfolding general_part messy_part
in_turn (kind.Ideal, a) (kind.Ideal, b) = refl
in_turn (kind.General, a) (kind.General, b) = then_equal (general_tie a b)
in_turn (kind.Complex, a) (kind.Ideal, b) = refl
in_turn x y = refl

pub texts_tie_total : IsTotalOrder texts_tie
texts_tie_total = subst IsTotalOrder (λ i x y. in_turn x y i)
    (then_total (on_total (λ (t : Kind × List ℕ). kind_place t.0) nat_cmp_total)
    (then_total (on_total general_part (options_total general_total))
    (on_total messy_part (options_total messy_total))))

-- ---- it is that of their versions, if the keys of these tie

module _ (a b : List ℕ) where
  pub texts_tied : (v w : PlainVersioning) → versioning_of a ≡ Some v → versioning_of b ≡ Some w
      → precedence (key_of v) (key_of w) ≡ Equal
      → texts_tie (versioning_kind v, a) (versioning_kind w, b) ≡ key_tie_cmp v w
  texts_tied (Ideal v) (Ideal w) here there tied = refl
  texts_tied (General v) (General w) here there tied =
      general_decides a b v w (versioning_of-spells a (General v) here).0
      (versioning_of-spells b (General w) there).0 (keys_same _ _ tied)
  texts_tied (Complex v) (Complex w) here there tied =
      messy_decides a b v w (versioning_of-spells a (Complex v) here).0
      (versioning_of-spells b (Complex w) there).0 tied
  texts_tied v w here there tied = refl

  behind_equal : (first x y : Ordering) → (first ≡ Equal → x ≡ y)
      → ordering_then first x ≡ ordering_then first y
  behind_equal Equal x y same = same refl
  behind_equal first x y same = refl

  pub texts_alike : (v w : PlainVersioning) → versioning_of a ≡ Some v → versioning_of b ≡ Some w
      → ordering_then (precedence (key_of v) (key_of w))
      (texts_tie (versioning_kind v, a) (versioning_kind w, b)) ≡ versioning_cmp v w
  texts_alike v w here there =
      behind_equal (precedence (key_of v) (key_of w)) _ _ (texts_tied v w here there)
      ∙ ties_alike v w

  pub tied_as : (o : Ordering) (k l : Kind) → o ≡ texts_tie (k, a) (l, b)
      → (v w : PlainVersioning) → versioning_of a ≡ Some v → versioning_of b ≡ Some w
      → versioning_kind v ≡ k → versioning_kind w ≡ l → precedence (key_of v) (key_of w) ≡ Equal
      → o ≡ key_tie_cmp v w
  tied_as o k l e v w here there of_v of_w tied =
      e ∙ (λ i. texts_tie (sym of_v i, a) (sym of_w i, b)) ∙ texts_tied v w here there tied
