-- What `compare --explain` shows of a version is what its key holds, and decides between two.
use Rattle.std.proofs.Common.{◌≡◌, ◌↔◌, ◌∙◌, ◌==◌, ◌-◌, if◌then◌else◌, ℕ, zero, suc, true, List, [], ◌∷◌, ◌++◌, Option, None, Some, IfSome, codes, drop, length, take, refl, sym, ap, arith, length-append}
use Rattle.std.proofs.Math.Dec.{eqb-suc-zero}
use Rattle.std.proofs.lemmas.{Cmp.nat_cmp_total, Cmp.tied_itself, List.drop_at, List.take_at, Option.slice_get-map}
use Rattle.std.specs.{Char.is_ascii_digit, Cmp.first_so, Cmp.second_so, FinMap.nat_cmp-IsAntisymmetric, List.list_all, List.prefix_len, List.slice_get, Option.option_map, Option.option_map_or, Ordering.nat_cmp, Ordering.ordering_then}
use Rattle.std.specs.{Str.Parse.digits_value, declared.cmp.Ordering.Ordering, declared.cmp.Ordering.TheVariants.Less, declared.cmp.Ordering.TheVariants.Equal, declared.cmp.Ordering.TheVariants.Greater}
use Rattle.version_answers.specs.Two.{behind_epoch, behind_parts, part_at, parts_text, tail_of}
use Rattle.version_rules.proofs.lemmas.{Key.lists_same, SemVer.optional_begins, Versioning.strict_is_general, Versioning.versioning_of-Some, Versioning.versioning_printed}
use Rattle.version_order.proofs.lemmas.Front.{all_weaker, prefix_len-append}
use Rattle.version_order.specs.{declared.class.Class.TheVariants.NotSign, texts.Bytes.colon, texts.Bytes.hyphen, texts.Bytes.is_section_byte, texts.Class.contains, texts.Front.is_digits, texts.Grammar.SpellsEach, texts.Grammar.EndsRun}
use Rattle.version_rules.specs.grammar.Versioning.{PlainVersioning, Ideal, General, Complex, SpellsVersioning}
use Rattle.version_rules.specs.key.Key.{Key, key_of, key_of_mess, precedence, sections_tail, versioning_epoch, Tail, PreReleased, Bare, Released, tail_cmp}
use Rattle.version_rules.specs.grammar.{Body.SpellsRelease, Body.release_text, Conversions.version_of_semver, Mess.Further, Mess.PlainMess, Mess.SpellsFurther, Version.PlainVersion, Version.SpellsVersion}
use Rattle.version_rules.specs.{key.PartKey.PartKey, key.PartKey.list_cmp, key.PartKey.part_cmp, key.PartKey.part_key, laws.Part.parts_same, laws.Part.part_total}
use Rattle.version_texts.proofs.lemmas.scan.Complex.{further_text-is, no_further, section_no_sep, sections_are, sign_bytes, mess_cut}
use Rattle.version_texts.proofs.lemmas.scan.Shape.{IsCounted, body_taken, epoch_taken, no_epoch_taken, no_meta, version_cut, IsCut}
use Rattle.version_texts.proofs.lemmas.{versioning_ref.Field.spelled_counts, versioning_ref.VersioningRef.versioning_fits, versioning_ref.VersioningRef.versioning_key}
use Rattle.version_texts.proofs.lemmas.Difference.{epoch_law, part_law}
use Rattle.version_texts.specs.{Key.parts_of, Key.sections_of, Key.tail_of_sections, Order.difference_of, Scan.body_start, VersioningRef.field_text}
use Rattle.version_texts.specs.declared.order.difference.Difference.TheVariants.{Epoch, Part}
use Rattle.version_texts.specs.declared.versioning_ref.field.Field.TheVariants as field

-- ---- where the texts of versions are cut

-- a text is cut into the epoch that is shown of its version, the parts, and a rest that begins with
-- a sign or is empty
record IsCutAtSign (text : List ℕ) (v : PlainVersioning) : Type 0 where
  epoch : List ℕ
  body : List ℕ
  rest : List ℕ
  cut : IsCut text epoch body rest
  counts : IsCounted epoch (field_text field.Epoch v) (versioning_epoch v)
  ends : EndsRun (contains NotSign) rest

-- what follows the body of a general version begins with a sign
version_ends : (text : List ℕ) (v : PlainVersion) (s : SpellsVersion text v)
    → EndsRun (contains NotSign) (s.release ++ s.meta)
version_ends text v s =
    optional_begins hyphen SpellsRelease (contains NotSign) s.release v.release s.meta s.release_is
    refl (no_meta text v s (contains NotSign) refl)

-- and so do further sections
sections_end : (rest : List ℕ) (more : List Further) → SpellsEach SpellsFurther rest more
    → EndsRun (contains NotSign) rest
sections_end rest [] s = rw (no_further rest s) refl
sections_end rest (f ∷ more) s = rw (further_text-is rest f more s).2 (rw (sign_bytes f.0).0 refl)

version_cut_at_sign : (text : List ℕ) (v : PlainVersion) (s : SpellsVersion text v)
    (shown : PlainVersioning)
    → IsCounted s.epoch (field_text field.Epoch shown) (versioning_epoch shown)
    → IsCutAtSign text shown
version_cut_at_sign text v s shown counts = record {
  epoch = s.epoch;
  body = s.body;
  rest = s.release ++ s.meta;
  cut = version_cut text v s;
  counts = counts;
  ends = version_ends text v s;
}

cut_at_sign : (text : List ℕ) (v : PlainVersioning) → SpellsVersioning text v → IsCutAtSign text v
cut_at_sign text (Ideal v) s =
    let g = strict_is_general text v s in
    version_cut_at_sign text (version_of_semver v) g (Ideal v)
    (spelled_counts g.epoch None g.epoch_is)
cut_at_sign text (General v) s =
    version_cut_at_sign text v s.0 (General v) (spelled_counts s.0.epoch v.epoch s.0.epoch_is)
cut_at_sign text (Complex m) s =
    let c = mess_cut text m s.0 in
    record {
      epoch = c.epoch;
      body = c.body;
      rest = c.rest;
      cut = c.cut;
      counts = c.counts;
      ends = sections_end c.rest c.more c.more_is;
    }

-- ---- the parts

-- the length of an epoch with its colon
epoch_length : (epoch : List ℕ) (digits : Option (List ℕ)) (n : Option ℕ)
    → IsCounted epoch digits n
    → option_map_or (λ text. suc (length text)) digits 0 ≡ length epoch
epoch_length epoch None None s = rw s refl
epoch_length epoch None (Some n) s = absurd s
epoch_length epoch (Some digits) None s = absurd s
epoch_length epoch (Some digits) (Some n) s =
    rw (s.0, length-append digits (colon ∷ [])) (omega arith)

-- a body has no sign
body_unsigned : (body : List ℕ) → list_all is_section_byte body ≡ true
    → list_all (contains NotSign) body ≡ true
body_unsigned =
    all_weaker is_section_byte (contains NotSign) (λ b h. rw (section_no_sep b h) refl)

module _ (text : List ℕ) (v : PlainVersioning) (s : SpellsVersioning text v) where
  c : IsCutAtSign text v
  c = cut_at_sign text v s

  -- the text after the epoch is the parts and the rest
  behind_epoch-is : behind_epoch v ≡ c.body ++ c.rest
  behind_epoch-is =
      let whole = versioning_printed text v s ∙ c.cut.whole in
      (λ i. drop (epoch_length c.epoch _ _ c.counts i) (whole i))
      ∙ drop_at c.epoch (c.body ++ c.rest) (length c.epoch) refl

  unsigned_length : prefix_len (contains NotSign) (behind_epoch v) ≡ length c.body
  unsigned_length =
      ap (prefix_len (contains NotSign)) behind_epoch-is
      ∙ prefix_len-append (contains NotSign) c.body c.rest (body_unsigned c.body c.cut.bytes) c.ends

  -- the parts are the body of the text
  parts_text-is : parts_text v ≡ c.body
  parts_text-is = grind (arith, unsigned_length, behind_epoch-is, take_at)

  -- and what follows them the rest
  behind_parts-is : behind_parts v ≡ c.rest
  behind_parts-is = grind (arith, unsigned_length, behind_epoch-is, drop_at)

  -- the parts of the key are those of the body
  key_body : (key_of v).body ≡ parts_of c.body
  key_body =
      ap (λ k. k.body) (versioning_key text v (versioning_of-Some text v s))
      ∙ ap parts_of (body_taken text c.epoch c.body c.rest c.cut)

  -- the part that is shown at a place is that of the key
  pub shown_part : (place : ℕ)
      → option_map part_key (part_at v place) ≡ slice_get (key_of v).body place
  shown_part place = grind (arith, parts_text-is, slice_get-map, key_body)

-- ---- the epoch

module _ (text body rest : List ℕ) where
  -- an epoch has a digit
  some_digits : (digits : List ℕ) → IsCut text (digits ++ colon ∷ []) body rest
      → list_all is_ascii_digit digits ≡ true → is_digits digits ≡ true
  unfolding body_start
  some_digits [] cut all =
      let none : 1 ≡ 0 = sym cut.starts ∙ ap body_start cut.whole in cc none
  some_digits (d ∷ digits) cut all = grind (arith, first_so, second_so)

  -- the epoch that is shown is digits, and has the value of the epoch of the text, or that is 0
  epoch_shown : (epoch : List ℕ) → IsCut text epoch body rest
      → list_all is_ascii_digit (take (body_start text - 1) text) ≡ true
      → (digits : Option (List ℕ)) (n : Option ℕ) → IsCounted epoch digits n
      → (option_map_or (digits_value 10) digits 0
      ≡ digits_value 10 (take (body_start text - 1) text))
      × IfSome digits (λ shown. is_digits shown ≡ true)
  epoch_shown epoch cut all None None s = grind (arith, body, rest, cut, no_epoch_taken)
  epoch_shown epoch cut all None (Some n) s = absurd s
  epoch_shown epoch cut all (Some digits) None s = absurd s
  epoch_shown epoch cut all (Some digits) (Some n) s = grind (arith, body, rest, cut, epoch_taken, some_digits)

-- the epoch that is shown is digits, and has the value of that of the key, which is 0 if none is
-- shown
pub shown_epoch : (text : List ℕ) (v : PlainVersioning) → SpellsVersioning text v
    → (option_map_or (digits_value 10) (field_text field.Epoch v) 0 ≡ (key_of v).epoch)
    × IfSome (field_text field.Epoch v) (λ shown. is_digits shown ≡ true)
shown_epoch text v s =
    let c = cut_at_sign text v s in
    let e = versioning_of-Some text v s in
    let shown =
    epoch_shown text c.body c.rest c.epoch c.cut (versioning_fits text v e).epoch_is _ _ c.counts in
    (shown.0 ∙ sym (ap (λ k. k.epoch) (versioning_key text v e)), shown.1)

-- ---- what follows the parts

-- nothing is shown of a tail that is bare, and something of another
tail_is_shown : {X : Type 0} (make : X → Tail) → ((x : X) → ¬ (make x ≡ Bare)) → (o : Option X)
    (text_of : X → List ℕ) (noun : List ℕ)
    → (option_map (λ text. noun ++ text) (option_map text_of o) ≡ None)
    ↔ (option_map_or make o Bare ≡ Bare)
tail_is_shown make other None text_of noun = (λ e. refl, λ e. refl)
tail_is_shown make other (Some x) text_of noun = (λ e. cc e, λ e. absurd (other x e))

-- the text of further sections, unless it is empty
abbrev some_text : List ℕ → Option (List ℕ)
some_text rest = if length rest == 0 then None else Some rest

-- the sections of a text after its first sign
abbrev after_sign : List ℕ → Tail
after_sign text = tail_of_sections (sections_of (drop 1 text))

-- further sections are shown as the tail that they are, and nothing is shown without them
sections_shown : (rest : List ℕ) (more : List Further) → SpellsEach SpellsFurther rest more
    → (option_map_or after_sign (some_text rest) Bare ≡ sections_tail more)
    × ((some_text rest ≡ None) ↔ (sections_tail more ≡ Bare))
sections_shown rest [] s = rw (no_further rest s) (refl, (λ e. refl, λ e. refl))
sections_shown rest (f ∷ more) s = grind (arith, further_text-is, rest, eqb-suc-zero, sections_are)

-- what is shown of the tail of a messy version, and the tail of its key
messy_tail : (text : List ℕ) (m : PlainMess) (s : SpellsVersioning text (Complex m))
    → (tail_of (Complex m) ≡ some_text (mess_cut text m s.0).rest)
    × ((key_of_mess m).tail ≡ sections_tail (mess_cut text m s.0).more)
unfolding c cut_at_sign
messy_tail text m s = (
  ap some_text (behind_parts-is text (Complex m) s),
  ap (λ k. k.tail) (mess_cut text m s.0).key_is,
)

-- nothing is shown of a tail exactly if it is bare
pub shown_tail : (text : List ℕ) (v : PlainVersioning) → SpellsVersioning text v
    → (tail_of v ≡ None) ↔ ((key_of v).tail ≡ Bare)
shown_tail text (Ideal v) s =
    tail_is_shown PreReleased (λ chunks e. cc e) v.pre_rel release_text (codes "the pre-release ")
shown_tail text (General v) s =
    tail_is_shown Released (λ chunks e. cc e) v.release release_text (codes "the release ")
shown_tail text (Complex m) s =
    let c = mess_cut text m s.0 in
    let is = messy_tail text m s in
    rw (is.0, is.1) (sections_shown c.rest c.more c.more_is).1

-- the sections that are shown after a sign are those of the key
pub shown_sections : (text : List ℕ) (m : PlainMess) → SpellsVersioning text (Complex m)
    → option_map_or (λ shown. tail_of_sections (sections_of (drop 1 shown)))
    (tail_of (Complex m)) Bare ≡ (key_of_mess m).tail
shown_sections text m s =
    let c = mess_cut text m s.0 in
    let is = messy_tail text m s in
    rw (is.0, is.1) (sections_shown c.rest c.more c.more_is).0

-- ---- the order of what is shown

-- the first of two orders, if it isn't Equal
first_decides : (first later : Ordering) → ¬ (first ≡ Equal) → ordering_then first later ≡ first
first_decides Less later other = refl
first_decides Equal later other = absurd (other refl)
first_decides Greater later other = refl

-- the first parts that differ decide between two lists
part_decides : (ps qs : List PartKey) (n : ℕ) → take n ps ≡ take n qs
    → ¬ (take (suc n) ps ≡ take (suc n) qs)
    → list_cmp ps qs ≡ part_cmp (slice_get ps n) (slice_get qs n)
part_decides [] [] n same differ = absurd (differ refl)
part_decides [] (q ∷ qs) zero same differ =
    first_decides (part_cmp None (Some q)) _ (λ e. cc (parts_same None (Some q) e))
part_decides [] (q ∷ qs) (suc n) same differ = cc same
part_decides (p ∷ ps) [] zero same differ =
    first_decides (part_cmp (Some p) None) _ (λ e. cc (parts_same (Some p) None e))
part_decides (p ∷ ps) [] (suc n) same differ = cc same
part_decides (p ∷ ps) (q ∷ qs) zero same differ =
    first_decides (part_cmp (Some p) (Some q)) _ (λ e.
    let first : p ≡ q = cc (parts_same (Some p) (Some q) e) in differ (λ i. first i ∷ []))
part_decides (p ∷ ps) (q ∷ qs) (suc n) same differ =
    let first : p ≡ q = cc same in
    let later : take n ps ≡ take n qs = cc same in
    rw (first, tied_itself part_total (Some q))
    (part_decides ps qs n later (λ e. differ (λ i. first i ∷ e i)))

module _ (text other : List ℕ) (v w : PlainVersioning) (s : SpellsVersioning text v)
    (t : SpellsVersioning other w) where
  abbrev k : Key
  k = key_of v

  abbrev l : Key
  l = key_of w

  -- the epochs that are shown compare as the versions, if these differ in them
  pub shown_epoch_decides : difference_of v w ≡ Epoch
      → nat_cmp (option_map_or (digits_value 10) (field_text field.Epoch v) 0)
      (option_map_or (digits_value 10) (field_text field.Epoch w) 0)
      ≡ precedence k l
  shown_epoch_decides e =
      (λ i. nat_cmp ((shown_epoch text v s).0 i) ((shown_epoch other w t).0 i))
      ∙ sym (first_decides (nat_cmp k.epoch l.epoch) _ (λ tied.
      (epoch_law v w).0 e (nat_cmp-IsAntisymmetric k.epoch l.epoch tied)))

  -- and so do the parts
  pub shown_part_decides : (place : ℕ) → difference_of v w ≡ Part place
      → part_cmp (option_map part_key (part_at v place)) (option_map part_key (part_at w place))
      ≡ precedence k l
  shown_part_decides place e =
      let law = (part_law v w place).0 e in
      let behind = ordering_then (list_cmp k.body l.body) (tail_cmp k.tail l.tail) in
      let epochs : nat_cmp k.epoch l.epoch ≡ Equal =
      ap (λ n. nat_cmp n l.epoch) law.0 ∙ tied_itself nat_cmp_total l.epoch in
      let bodies : behind ≡ list_cmp k.body l.body =
      first_decides (list_cmp k.body l.body) (tail_cmp k.tail l.tail) (λ tied.
      law.2 (ap (take (suc place)) (lists_same k.body l.body tied))) in
      (λ i. part_cmp (shown_part text v s place i) (shown_part other w t place i))
      ∙ sym (ap (λ o. ordering_then o behind) epochs ∙ bodies
      ∙ part_decides k.body l.body place law.1 law.2)
