-- Versions of any scheme: what is read of a text, and their orders.
use Rattle.std.proofs.Common.{◌≡◌, ◌∙◌, ℕ, List, [], Option, None, Some, ap, refl, sym}
use Rattle.std.proofs.lemmas.Cmp.{nat_cmp_total, nat_list_cmp_total, on_total, then_total, tied_itself}
use Rattle.std.specs.{Cmp.IsTotalOrder, Option.option_cmp, Option.option_map, Option.option_map_or, Ordering.nat_cmp, Ordering.ordering_then, Prelude.option_and_then, declared.cmp.Ordering.Ordering}
use Rattle.version_rules.proofs.lemmas.{Order.key_bytes_alone, Versioning.versioning_of-spells, Versioning.versioning_printed}
use Rattle.version_rules.specs.{declared.kind.Kind.TheVariants.Ideal, grammar.Versioning.versioning_kind, grammar.Versioning.PlainVersioning, grammar.Versioning.versioning_of, grammar.Versioning.versioning_text}
use Rattle.version_rules.specs.{key.Key.key_of, key.Key.precedence, order.Orders.versioning_cmp}
use Rattle.version_order.specs.{Keyed.PlainKeyed, Rules.compared, keys.Codes.Writes, keys.Lists.bytes_cmp}
use Rattle.version_texts.proofs.lemmas.Ties.{texts_alike, texts_tie_total}
use Rattle.version_texts.specs.{Mixed.mixed, Order.texts_tie}
use Rattle.version_order.proofs.lemmas.Codes.{order_by_keys}
use Rattle.version_schemes.proofs.lemmas.Table.{compare_by_keys, keys_some}
use Rattle.version_schemes.specs.any.Order.{PlainAny, any_cmp, any_of, any_precedence, with_key}
use Rattle.version_schemes.specs.{Scheme.rules, Scheme.scheme_number, declared.scheme.Scheme.Scheme, declared.scheme.Scheme.TheVariants.Mixed}

-- what is read of a text

-- the version of a scheme that a text is has the scheme and the text, and a key that isn't empty
pub record IsOf (scheme : Scheme) (text : List ℕ) (version : PlainAny) : Type 0 where
  pub scheme_is : version.scheme ≡ scheme
  pub text_is : version.text ≡ text
  pub some : ¬ (version.key ≡ [])

pub is_of : (scheme : Scheme) (text : List ℕ) (version : PlainAny) → any_of scheme text ≡ Some version
    → IsOf scheme text version
is_of scheme text version is = by_read ((rules scheme).read_as text) refl
  where
    by_read : (read : Option PlainKeyed) → (rules scheme).read_as text ≡ read → IsOf scheme text version
    by_read None none = let no : None ≡ Some version = rw none at is in cc no
    by_read (Some v) some =
        let same : with_key scheme text v ≡ version = cc (rw some at is) in
        record {
          scheme_is = ap (λ (w : PlainAny). w.scheme) (sym same);
          text_is = ap (λ (w : PlainAny). w.text) (sym same);
          some = λ empty. (rw some at (keys_some scheme text)) (ap (λ (w : PlainAny). w.key) same ∙ empty);
        }

-- the version of the scheme mixed that a text is, by itself
pub mixed_is : (text : List ℕ) (v : PlainVersioning) → versioning_of text ≡ Some v → any_of Mixed text
    ≡ Some (record { scheme = Mixed; text = versioning_text v; key = (mixed v).key; kind = versioning_kind v })
mixed_is text v is =
    ap (λ (read : Option PlainVersioning). option_map (λ (k : PlainKeyed). record {
      scheme = Mixed;
      text = text;
      key = k.key;
      kind = option_map_or versioning_kind read Ideal;
    })
    (option_map mixed read)) is
    ∙ ap (λ t. Some (record { scheme = Mixed; text = t; key = (mixed v).key; kind = versioning_kind v }))
    (sym (versioning_printed text v (versioning_of-spells text v is)))

-- orders

pub any_precedence_total : IsTotalOrder any_precedence
any_precedence_total =
    then_total (on_total (λ (v : PlainAny). scheme_number v.scheme) nat_cmp_total)
    (on_total (λ (v : PlainAny). v.key) nat_list_cmp_total)

pub any_total : IsTotalOrder any_cmp
any_total = then_total any_precedence_total (on_total (λ (v : PlainAny). (v.kind, v.text)) texts_tie_total)

-- in one scheme, by the keys
pub in_one_scheme : (v w : PlainAny) → v.scheme ≡ w.scheme → any_precedence v w ≡ bytes_cmp v.key w.key
in_one_scheme v w same =
    ap (λ o. ordering_then o (bytes_cmp v.key w.key))
    (ap (λ (s : Scheme). nat_cmp (scheme_number s) (scheme_number w.scheme)) same
    ∙ tied_itself nat_cmp_total (scheme_number w.scheme))

-- versions whose keys are written by an order compare by it
pub by_code : {A : Type 0} {cmp : A → A → Ordering} {code : A → List ℕ} → Writes cmp code → (a b : A) (v w : PlainAny)
    → v.scheme ≡ w.scheme → v.key ≡ code a → w.key ≡ code b → cmp a b ≡ any_precedence v w
by_code writes a b v w same here there =
    order_by_keys writes a b ∙ (λ i. bytes_cmp (sym here i) (sym there i)) ∙ sym (in_one_scheme v w same)

-- texts of a scheme compare by its words
pub texts_by_words : (scheme : Scheme) (one other : List ℕ)
    → compared (any_of scheme) any_precedence one other ≡ (rules scheme).texts_cmp one other
texts_by_words scheme one other =
    by_reads ((rules scheme).read_as one) ((rules scheme).read_as other) ∙ sym (compare_by_keys scheme one other)
  where
    by_reads : (v w : Option PlainKeyed)
        → option_and_then (λ a. option_map (λ b. any_precedence a b) (option_map (with_key scheme other) w))
        (option_map (with_key scheme one) v)
        ≡ option_and_then (λ a. option_map (λ b. bytes_cmp a.key b.key) w) v
    by_reads None w = refl
    by_reads (Some v) None = refl
    by_reads (Some v) (Some w) = ap Some (in_one_scheme (with_key scheme one v) (with_key scheme other w) refl)

-- the scheme mixed has the order of all versions

mixed_precedence : (one other : List ℕ) (v w : PlainVersioning)
    → any_precedence (with_key Mixed one (mixed v)) (with_key Mixed other (mixed w)) ≡ precedence (key_of v) (key_of w)
mixed_precedence one other v w =
    in_one_scheme (with_key Mixed one (mixed v)) (with_key Mixed other (mixed w)) refl
    ∙ key_bytes_alone (key_of v) (key_of w)

pub mixed_orders : (one other : List ℕ)
    → option_cmp any_cmp (any_of Mixed one) (any_of Mixed other)
    ≡ option_cmp versioning_cmp (versioning_of one) (versioning_of other)
mixed_orders one other = by_reads (versioning_of one) (versioning_of other) refl refl
  where
    by_reads : (v w : Option PlainVersioning) → versioning_of one ≡ v → versioning_of other ≡ w
        → option_cmp any_cmp (option_map (with_key Mixed one) (option_map mixed v))
        (option_map (with_key Mixed other) (option_map mixed w)) ≡ option_cmp versioning_cmp v w
    by_reads None None here there = refl
    by_reads None (Some w) here there = refl
    by_reads (Some v) None here there = refl
    by_reads (Some v) (Some w) here there =
        rw (here, there)
        ((λ i. ordering_then (mixed_precedence one other v w i)
        (texts_tie (versioning_kind v, one) (versioning_kind w, other)))
        ∙ texts_alike one other v w here there)
