-- The text of a version of numbers, which parses as that version.
use Rattle.std.proofs.Common.{◌≡◌, ◌∙◌, ◌<◌, ◌^◌, ◌+◌, ◌-◌, ℕ, zero, suc, true, List, [], ◌∷◌, ◌++◌, drop, get_or, length, map, Option, Some, None, refl, sym, ap, subst, arith, append_assoc, append-nil, zero-add}
use Rattle.std.proofs.lemmas.{Bool.ltb-true, Bool.ne_eqb, Fmt.decimal_digit, Fmt.decimal_is_IsNumeral, Fmt.first_decimal, Str.IsUtf8-from_ascii, Str.Ascii.IsAscii-nil}
use Rattle.std.specs.{Cmp.first_so, Cmp.second_so, Fmt.decimal, List.join_with_byte, Str.IsAscii, Str.IsUtf8}
use Rattle.version_rules.specs.grammar.Versioning.{PlainVersioning, Ideal, General, Complex, SpellsVersioning, versioning_of, versioning_text}
use Rattle.version_rules.specs.grammar.{Body.PlainBody, Body.SpellsBody, Chunk.PlainChunk, Chunk.SpellsPart, Chunk.HasNoLeadingZero, Chunk.SpellsNumeral, Conversions.version_of_semver, Last.IsLastOf, SemVer.PlainSemVer, SemVer.SpellsSemVer}
use Rattle.version_rules.specs.grammar.Version.{PlainVersion, SpellsEpoch, SpellsVersion, epoch_text}
use Rattle.version_order.specs.texts.{Bytes.dot, Grammar.SpellsDotted, Grammar.SpellsOptional}
use Rattle.version_rules.proofs.lemmas.Versioning.{strict_is_general, versioning_ascii, versioning_of-Some, versioning_of-spells, versioning_printed}
use Rattle.version_rules.proofs.lemmas.{Numeral.decimal-digits, Numeral.numeral_printed, Version.version_unique}
use Rattle.version_texts.specs.VersioningRef.{epoch_and_parts}
use Rattle.version_texts.proofs.lemmas.scan.Spelled.{dotted_more, dotted_one}
use Rattle.version_tasks.specs.{Next.IsOfForm, Next.MayFollow, Next.numbers_of, NextText.next_text, NextText.zeros_text}
use Rattle.version_tasks.proofs.lemmas.Next.Order.{body_is, body_numbers, body_of, fit, number_at, raised}
use Rattle.version_rules.specs.grammar.Chunk as chunk
use Rattle.version_rules.specs.grammar.Last as last

-- a version prints the text that it parses from
pub printed : (text : List ℕ) (v : PlainVersioning) → versioning_of text ≡ Some v
    → versioning_text v ≡ text
printed text v read = versioning_printed text v (versioning_of-spells text v read)

-- the pieces of the text, one after another
pub in_pieces : (epoch front digits zeros e f z : List ℕ) → e ≡ epoch → f ≡ front → z ≡ zeros
    → (e ++ (f ++ digits)) ++ z ≡ epoch ++ (front ++ (digits ++ zeros))
in_pieces epoch front digits zeros e f z first next last = grind (arith, append_assoc)

-- the pieces of an ASCII text are ASCII, so they are UTF-8
pub ascii_left : (xs ys : List ℕ) → IsAscii (xs ++ ys) → IsAscii xs
ascii_left [] ys h i = IsAscii-nil i
ascii_left (x ∷ xs) ys h zero = h zero
ascii_left (x ∷ xs) ys h (suc i) = ascii_left xs ys (λ j. h (suc j)) i

pub ascii_right : (xs ys : List ℕ) → IsAscii (xs ++ ys) → IsAscii ys
ascii_right [] ys h = h
ascii_right (x ∷ xs) ys h = ascii_right xs ys (λ j. h (suc j))

module _ (epoch front : List ℕ) (number zeros : ℕ) (v : PlainVersioning)
    (read : versioning_of (next_text epoch front number zeros) ≡ Some v) where
  ascii : IsAscii (next_text epoch front number zeros)
  ascii =
      versioning_ascii _ v (versioning_of-spells (next_text epoch front number zeros) v read)

  pub epoch_utf8 : IsUtf8 epoch
  epoch_utf8 = IsUtf8-from_ascii epoch (ascii_left epoch _ ascii)

  pub front_utf8 : IsUtf8 front
  front_utf8 = IsUtf8-from_ascii front (ascii_left front _ (ascii_right epoch _ ascii))

-- ---- numerals

-- digits of which the first is not 0
no_leading_zero : (digits : List ℕ) → 48 < get_or digits 0 0 → HasNoLeadingZero digits
no_leading_zero [] first = absurd (omega (arith, first))
no_leading_zero (d ∷ []) first = tt
no_leading_zero (d ∷ e ∷ digits) first = ne_eqb d 48 (omega (arith, first))

zero_decimal : decimal 0 ≡ 48 ∷ []
zero_decimal = decimal_digit 0 (omega arith)

canonical : (n : ℕ) → n < 2 ^ 32 → HasNoLeadingZero (decimal n)
canonical zero fits = subst HasNoLeadingZero (sym zero_decimal) tt
canonical (suc n) fits =
    no_leading_zero (decimal (suc n)) (first_decimal (suc n) (omega arith) (omega (arith, fits)))

pub decimal_spells : (n : ℕ) → n < 2 ^ 32 → SpellsNumeral (decimal n) n
decimal_spells n fits = record {
  digits = second_so _ _ (decimal-digits n (omega (arith, fits)));
  canonical = canonical n fits;
  value = (decimal_is_IsNumeral n (omega (arith, fits))).1;
  fits = fits;
}

-- ---- numbers with dots between

abbrev pub joined : List ℕ → List ℕ
joined ns = join_with_byte dot (map decimal ns)

join_more : (piece : List ℕ) (pieces : List (List ℕ)) → 0 < length pieces
    → join_with_byte dot (piece ∷ pieces) ≡ piece ++ dot ∷ join_with_byte dot pieces
join_more piece [] some = absurd (omega (arith, some))
join_more piece (next ∷ pieces) some = refl

-- the first pieces, each with a dot after it
abbrev pub pieces_before : ℕ → List (List ℕ) → List ℕ
pieces_before place [] = []
pieces_before zero (piece ∷ pieces) = []
pieces_before (suc place) (piece ∷ pieces) = piece ++ dot ∷ pieces_before place pieces

pub joined_at : (place : ℕ) (pieces : List (List ℕ)) → place < length pieces
    → join_with_byte dot pieces
    ≡ pieces_before place pieces ++ join_with_byte dot (drop place pieces)
joined_at place [] within = absurd (omega (arith, within))
joined_at zero (piece ∷ pieces) within = refl
joined_at (suc place) (piece ∷ pieces) within =
    let some : 0 < length pieces = omega (arith, within) in
    let rest = joined_at place pieces (omega (arith, within)) in
    join_more piece pieces some ∙ ap (λ (l : List ℕ). piece ++ dot ∷ l) rest
    ∙ sym (append_assoc piece (dot ∷ pieces_before place pieces)
    (join_with_byte dot (drop place pieces)))

zeros_joined : (k : ℕ) (ns : List ℕ)
    → joined (k ∷ map (λ n. 0) ns) ≡ decimal k ++ zeros_text (length ns)
zeros_joined k [] = sym (append-nil (decimal k))
zeros_joined k (n ∷ ns) =
    let rest = zeros_joined 0 ns ∙ ap (λ (l : List ℕ). l ++ zeros_text (length ns)) zero_decimal in
    ap (λ (l : List ℕ). decimal k ++ dot ∷ l) rest

another_zero : (zeros : ℕ) → zeros_text zeros ++ dot ∷ 48 ∷ [] ≡ zeros_text (suc zeros)
another_zero zero = refl
another_zero (suc zeros) = ap (λ (l : List ℕ). dot ∷ 48 ∷ l) (another_zero zeros)

pub one_more_zero : (zeros : ℕ) → zeros_text zeros ++ dot ∷ 48 ∷ [] ≡ zeros_text (zeros + 1)
one_more_zero zeros = grind (arith, another_zero)

-- zeros one after another
zeros_both : (m n : ℕ) → zeros_text (m + n) ≡ zeros_text m ++ zeros_text n
zeros_both zero n = ap zeros_text (zero-add n)
zeros_both (suc m) n =
    let next : suc m + n ≡ suc (m + n) = omega arith in
    ap zeros_text next ∙ ap (λ (l : List ℕ). dot ∷ 48 ∷ l) (zeros_both m n)

-- zeros begin with some of them, and one more
pub zeros_begun : (some all : ℕ) → some < all
    → zeros_text all ≡ zeros_text some ++ ((dot ∷ 48 ∷ []) ++ zeros_text (all - some - 1))
zeros_begun some all fewer =
    let parts : all ≡ some + suc (all - some - 1) = omega (arith, fewer) in
    ap zeros_text parts ∙ zeros_both some (suc (all - some - 1))

raised_some : (place : ℕ) (ns : List ℕ) (k : ℕ) → place < length ns
    → 0 < length (map decimal (raised place ns k))
raised_some place [] k within = absurd (omega (arith, within))
raised_some zero (n ∷ ns) k within = omega arith
raised_some (suc place) (n ∷ ns) k within = omega arith

pub raised_joined : (place : ℕ) (ns : List ℕ) (k : ℕ) → place < length ns
    → joined (raised place ns k)
    ≡ pieces_before place (map decimal ns)
    ++ (decimal k ++ zeros_text (length (drop (suc place) ns)))
raised_joined place [] k within = absurd (omega (arith, within))
raised_joined zero (n ∷ ns) k within = zeros_joined k ns
raised_joined (suc place) (n ∷ ns) k within =
    let some = raised_some place ns k (omega (arith, within)) in
    let rest = raised_joined place ns k (omega (arith, within)) in
    join_more (decimal n) (map decimal (raised place ns k)) some
    ∙ ap (λ (l : List ℕ). decimal n ++ dot ∷ l) rest
    ∙ sym (append_assoc (decimal n) (dot ∷ pieces_before place (map decimal ns))
    (decimal k ++ zeros_text (length (drop (suc place) ns))))

-- ---- versions of numbers

-- the bare version of the same kind and epoch with these numbers
abbrev pub numbered : PlainVersioning → List ℕ → PlainVersioning
numbered (Ideal v) ns =
    Ideal (record {
      major = number_at 0 ns;
      minor = number_at 1 ns;
      patch = number_at 2 ns;
      pre_rel = None;
      meta = None;
    })
numbered (General v) ns =
    General (record {
      epoch = v.epoch;
      chunks = (body_of ns).0;
      last = (body_of ns).1;
      release = None;
      meta = None;
    })
numbered (Complex m) ns = Complex m

-- it is of the form
three_are : (ns : List ℕ) → length ns ≡ 3
    → Some (number_at 0 ns ∷ number_at 1 ns ∷ number_at 2 ns ∷ []) ≡ Some ns
three_are [] count = absurd (omega (arith, count))
three_are (a ∷ []) count = absurd (omega (arith, count))
three_are (a ∷ b ∷ []) count = absurd (omega (arith, count))
three_are (a ∷ b ∷ c ∷ []) count = refl
three_are (a ∷ b ∷ c ∷ d ∷ ns) count = absurd (omega (arith, count))

pub numbered_form : (v : PlainVersioning) (place : ℕ) (numbers ns : List ℕ)
    → numbers_of v ≡ Some numbers → MayFollow numbers place ns
    → (f : IsOfForm v place (numbered v ns)) × (f.next ≡ ns)
numbered_form (Ideal v) place numbers ns are follow =
    let same : v.major ∷ v.minor ∷ v.patch ∷ [] ≡ numbers = cc are in
    let three : length numbers ≡ 3 = sym (ap (λ (l : List ℕ). length l) same) in (
      record {
        kind_is = refl;
        epoch_is = refl;
        numbers = numbers;
        next = ns;
        numbers_are = are;
        next_are = three_are ns (follow.count ∙ three);
        follow = follow;
        bare = (refl, refl);
      },
      refl,
    )
numbered_form (General v) place numbers ns are follow =
    let within = follow.within in
    let count = follow.count in (
      record {
        kind_is = refl;
        epoch_is = refl;
        numbers = numbers;
        next = ns;
        numbers_are = are;
        next_are = body_numbers ns (omega (arith, within, count));
        follow = follow;
        bare = (refl, refl);
      },
      refl,
    )
numbered_form (Complex m) place numbers ns are follow = cc are

-- ---- the text parses as it

spelled_body : (ns : List ℕ) → 0 < length ns → fit ns ≡ true → SpellsBody (joined ns) (body_of ns)
spelled_body [] some fits = absurd (omega (arith, some))
spelled_body (n ∷ []) some fits = record {
  part = chunk.Numeric n;
  parts_are = dotted_one SpellsPart (decimal n) (chunk.Numeric n)
      (decimal_spells n (ltb-true _ _ (first_so _ _ fits)));
  last_is = refl;
}
spelled_body (n ∷ m ∷ ns) some fits =
    let rest = spelled_body (m ∷ ns) (omega arith) (second_so _ _ fits) in
    record {
      part = rest.part;
      parts_are = dotted_more SpellsPart (decimal n) (joined (m ∷ ns)) (chunk.Numeric n) _
          (decimal_spells n (ltb-true _ _ (first_so _ _ fits))) rest.parts_are;
      last_is = rest.last_is;
    }

spelled_epoch : (text : List ℕ) (o : Option ℕ) → SpellsEpoch text o → SpellsEpoch (epoch_text o) o
unfolding SpellsEpoch
spelled_epoch text None s = refl
spelled_epoch text (Some n) s = rw (numeral_printed s.0 n s.2) (s.0, refl, s.2)

spelled_general : (text : List ℕ) (v : PlainVersion) → SpellsVersion text v → (ns : List ℕ)
    → 0 < length ns → fit ns ≡ true
    → SpellsVersion (epoch_text v.epoch ++ joined ns) (record {
      epoch = v.epoch;
      chunks = (body_of ns).0;
      last = (body_of ns).1;
      release = None;
      meta = None;
    })
unfolding SpellsOptional
spelled_general text v s ns some fits = record {
  epoch = epoch_text v.epoch;
  body = joined ns;
  release = [];
  meta = [];
  whole = ap (λ (l : List ℕ). epoch_text v.epoch ++ l) (sym (append-nil (joined ns)));
  epoch_is = spelled_epoch s.epoch v.epoch s.epoch_is;
  body_is = spelled_body ns some fits;
  release_is = refl;
  meta_is = refl;
}

spelled_strict : (a b c : ℕ) → fit (a ∷ b ∷ c ∷ []) ≡ true
    → SpellsSemVer (joined (a ∷ b ∷ c ∷ []))
    (record { major = a; minor = b; patch = c; pre_rel = None; meta = None })
unfolding SpellsOptional
spelled_strict a b c fits =
    let further = second_so _ _ fits in
    record {
      major = decimal a;
      minor = decimal b;
      patch = decimal c;
      pre_rel = [];
      meta = [];
      whole = ap (λ (l : List ℕ). decimal a ++ dot ∷ (decimal b ++ dot ∷ l))
          (sym (append-nil (decimal c)));
      major_is = decimal_spells a (ltb-true _ _ (first_so _ _ fits));
      minor_is = decimal_spells b (ltb-true _ _ (first_so _ _ further));
      patch_is = decimal_spells c (ltb-true _ _ (first_so _ _ (second_so _ _ further)));
      pre_rel_is = refl;
      meta_is = refl;
    }

-- a general version without an epoch and with three numbers spells a strict one
strict_of_three : (text : List ℕ) (v : PlainVersion) → SpellsVersion text v → v.epoch ≡ None
    → (a b c : ℕ) → (v.chunks, v.last) ≡ body_of (a ∷ b ∷ c ∷ [])
    → (w : PlainSemVer) × SpellsSemVer text w
unfolding SpellsEpoch SpellsDotted
strict_of_three text v s none a b c is =
    let no_epoch : s.epoch ≡ [] = rw none at s.epoch_is in
    let body : SpellsBody s.body (body_of (a ∷ b ∷ c ∷ [])) =
    subst (λ (b : PlainBody). SpellsBody s.body b) is s.body_is in
    by body.part no_epoch body.parts_are body.last_is
  where
    regroup : (a b c d : List ℕ)
        → (a ++ dot ∷ (b ++ dot ∷ c)) ++ d ≡ a ++ dot ∷ (b ++ dot ∷ (c ++ d))
    regroup a b c d = simp append_assoc

    by : (part : PlainChunk) → s.epoch ≡ []
        → SpellsDotted SpellsPart s.body (chunk.Numeric a ∷ chunk.Numeric b ∷ part ∷ [])
        → IsLastOf part (last.Numeric c) → (w : PlainSemVer) × SpellsSemVer text w
    by (chunk.Alphanum run) no_epoch p l = absurd l
    by (chunk.Numeric n) no_epoch p l =
        let q = p.4 in
        let numbers : s.body ≡ p.0 ++ dot ∷ (q.0 ++ dot ∷ q.1) =
        p.2 ∙ ap (λ (l : List ℕ). p.0 ++ dot ∷ l) q.2 in (
          record { major = a; minor = b; patch = n; pre_rel = v.release; meta = v.meta },
          record {
            major = p.0;
            minor = q.0;
            patch = q.1;
            pre_rel = s.release;
            meta = s.meta;
            whole = s.whole
                ∙ ap (λ (l : List ℕ). l ++ (s.body ++ (s.release ++ s.meta))) no_epoch
                ∙ ap (λ (l : List ℕ). l ++ (s.release ++ s.meta)) numbers
                ∙ regroup p.0 q.0 q.1 (s.release ++ s.meta);
            major_is = p.3;
            minor_is = q.3;
            patch_is = q.4;
            pre_rel_is = s.release_is;
            meta_is = s.meta_is;
          },
        )

body_count : (ns : List ℕ) → 0 < length ns → length (body_of ns).0 + 1 ≡ length ns
body_count [] some = absurd (omega (arith, some))
body_count (n ∷ []) some = refl
body_count (n ∷ m ∷ ns) some =
    let rest = body_count (m ∷ ns) (omega arith) in omega (arith, rest)

-- so one that is not strict stays so
still_general : (text other : List ℕ) (v w : PlainVersion) → SpellsVersion text v
    → ((u : PlainSemVer) → ¬ (SpellsSemVer text u)) → (numbers ns : List ℕ)
    → numbers_of (General v) ≡ Some numbers → length ns ≡ length numbers → 0 < length ns
    → SpellsVersion other w → w.epoch ≡ v.epoch → w.chunks ≡ (body_of ns).0
    → (u : PlainSemVer) → ¬ (SpellsSemVer other u)
still_general text other v w s not_strict numbers ns are count some spelled epoch chunks u strict =
    let converted : w ≡ version_of_semver u =
    version_unique other w (version_of_semver u) spelled (strict_is_general other u strict) in
    let none : v.epoch ≡ None = sym epoch ∙ ap (λ (v : PlainVersion). v.epoch) converted in
    let two : length (body_of ns).0 ≡ 2 =
    ap (λ (l : List PlainChunk). length l)
    (sym chunks ∙ ap (λ (v : PlainVersion). v.chunks) converted) in
    let three : length numbers ≡ 3 = omega (arith, two, count, body_count ns some) in
    by numbers three (body_is v.chunks v.last numbers are) none
  where
    by : (numbers : List ℕ) → length numbers ≡ 3 → (v.chunks, v.last) ≡ body_of numbers
        → v.epoch ≡ None → ⊥
    by [] three is none = absurd (omega (arith, three))
    by (a ∷ []) three is none = absurd (omega (arith, three))
    by (a ∷ b ∷ []) three is none = absurd (omega (arith, three))
    by (a ∷ b ∷ c ∷ []) three is none =
        let strict = strict_of_three text v s none a b c is in not_strict strict.0 strict.1
    by (a ∷ b ∷ c ∷ d ∷ more) three is none = absurd (omega (arith, three))

-- two texts that are the same two
pub both_same : (p q : List ℕ × List ℕ) → Some p ≡ Some q → (p.0 ≡ q.0) × (p.1 ≡ q.1)
both_same p q e = grind arith

pub numbered_spelled : (text : List ℕ) (v : PlainVersioning) → SpellsVersioning text v
    → (numbers ns : List ℕ) → numbers_of v ≡ Some numbers → length ns ≡ length numbers
    → 0 < length ns → fit ns ≡ true
    → (epoch parts : List ℕ) → epoch_and_parts v ≡ Some (epoch, parts)
    → versioning_of (epoch ++ joined ns) ≡ Some (numbered v ns)
numbered_spelled text (Ideal v) s numbers ns are count some fits epoch parts texts =
    let same : v.major ∷ v.minor ∷ v.patch ∷ [] ≡ numbers = cc are in
    let three : length ns ≡ 3 = count ∙ sym (ap (λ (l : List ℕ). length l) same) in
    ap (λ (l : List ℕ). versioning_of (l ++ joined ns)) (sym (both_same _ _ texts).0)
    ∙ by ns three fits
  where
    by : (ns : List ℕ) → length ns ≡ 3 → fit ns ≡ true
        → versioning_of (joined ns) ≡ Some (numbered (Ideal v) ns)
    by [] three fits = absurd (omega (arith, three))
    by (a ∷ []) three fits = absurd (omega (arith, three))
    by (a ∷ b ∷ []) three fits = absurd (omega (arith, three))
    by (a ∷ b ∷ c ∷ []) three fits =
        versioning_of-Some (joined (a ∷ b ∷ c ∷ [])) (numbered (Ideal v) (a ∷ b ∷ c ∷ []))
        (spelled_strict a b c fits)
    by (a ∷ b ∷ c ∷ d ∷ more) three fits = absurd (omega (arith, three))
numbered_spelled text (General v) s numbers ns are count some fits epoch parts texts =
    let spelled = spelled_general text v s.0 ns some fits in
    ap (λ (l : List ℕ). versioning_of (l ++ joined ns)) (sym (both_same _ _ texts).0)
    ∙ versioning_of-Some (epoch_text v.epoch ++ joined ns) (numbered (General v) ns) (
      spelled,
      still_general text (epoch_text v.epoch ++ joined ns) v _ s.0 s.1 numbers ns are count some
          spelled refl refl,
    )
numbered_spelled text (Complex m) s numbers ns are count some fits epoch parts texts = cc are
