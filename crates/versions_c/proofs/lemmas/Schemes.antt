-- Texts of a scheme: how they compare, and their keys, written into a buffer.
use Rattle.std.proofs.Common.{◌≡◌, ◌∙◌, ◌+◌, ◌<◌, ◌≤◌, ◌^◌, ◌++◌, ◌∷◌, [], ℕ, List, Option, None, Some, IfSome, ap, arith, drop, length, length-append, refl, subst, sym}
use Rattle.std.specs.{Option.option_map, Option.unwrap_or, Prelude.option_and_then, declared.cmp.Ordering.Ordering}
use Rattle.version_order.specs.{Keyed.AreWithin, Keyed.PlainKeyed, declared.ends.End.TheVariants.AfterKey, keys.Lists.bytes_cmp, keys.Sinks.saturated, keys.Sinks.IsWritten}
use Rattle.version_rules.specs.{grammar.Versioning.PlainVersioning, grammar.Versioning.versioning_of, key.Key.key_of, key.Key.key_bytes}
use Rattle.version_schemes.proofs.lemmas.Table.{compare_by_keys}
use Rattle.version_schemes.specs.{Scheme.rules, declared.scheme.Scheme.Scheme}
use Rattle.version_order.proofs.lemmas.Sinks.{put_fits}
use Rattle.version_texts.specs.Mixed.{mixed}
use Rattle.versions_c.proofs.lemmas.Keys.{ArePut, no_more_key, one_more_key}
use Rattle.versions_c.specs.{Keys.keys_before, Keys.spelled_key, Schemes.key_by, Written.text_at}

-- a key that fits begins the buffer
pub fitting_read : (read : Option PlainKeyed) (room new : List ℕ) (end : ℕ)
    → Some end ≡ option_map (λ v. saturated (0 + length v.key)) read → IfSome read (λ v. IsWritten room 0 v.key new)
    → end ≤ length room → length room < 2 ^ 63
    → IfSome (option_map (λ v. v.key) read) (λ bytes. new ≡ bytes ++ drop (length bytes) room)
fitting_read None room new end e put fits small = cc e
fitting_read (Some v) room new end e put fits small =
    let same : end ≡ saturated (0 + length v.key) = cc e in
    let within : length v.key ≤ length room = omega (arith, same, fits, small) in
    put.fitting (omega (arith, within)) ∙ put_fits room v.key within

-- the keys so far, and that of one text more, or none
pub read_put : (read_as : List ℕ → Option PlainKeyed) (texts offsets room : List ℕ) (i : ℕ) (text keys new_keys : List ℕ)
    (end : ℕ) (found : Option ℕ) → length room < 2 ^ 63 → text ≡ text_at texts offsets i
    → found ≡ option_map (λ v. saturated (end + length v.key)) (read_as text)
    → IfSome (read_as text) (λ v. IsWritten keys end v.key new_keys) → (read_as text ≡ None → new_keys ≡ keys)
    → ArePut room (keys_before (key_by read_as) texts offsets i) end keys → length keys ≡ length room
    → ArePut room (keys_before (key_by read_as) texts offsets (i + 1)) (unwrap_or found end) new_keys
read_put read_as texts offsets room i text keys new_keys end found small is ends written kept put long =
    by (read_as text) refl
  where
    by : (read : Option PlainKeyed) → read_as text ≡ read
        → ArePut room (keys_before (key_by read_as) texts offsets (i + 1)) (unwrap_or found end) new_keys
    by None e =
        let none : found ≡ None = ends ∙ ap (option_map (λ v. saturated (end + length v.key))) e in
        let spells : None ≡ key_by read_as text = sym (ap (option_map (λ v. v.key)) e) in
        rw (none, kept e) (no_more_key (key_by read_as) texts offsets room i text keys end is spells put)
    by (Some v) e =
        let some : found ≡ Some (saturated (end + length v.key)) =
        ends ∙ ap (option_map (λ v. saturated (end + length v.key))) e in
        let spells : Some v.key ≡ key_by read_as text = sym (ap (option_map (λ v. v.key)) e) in
        rw some (one_more_key (key_by read_as) texts offsets room i text v.key keys new_keys end
        (saturated (end + length v.key)) small is spells put refl (rw e at written) long)

-- no key is longer than a key of a text of this length may be
pub key_fits : (read_as : List ℕ → Option PlainKeyed) (most : ℕ → ℕ) → AreWithin read_as most → (text : List ℕ) (n : ℕ)
    → length text ≤ n → IfSome (key_by read_as text) (λ bytes. length bytes ≤ most n)
key_fits read_as most within text n short = by (read_as text) refl
  where
    by : (read : Option PlainKeyed) → read_as text ≡ read
        → IfSome (option_map (λ v. v.key) read) (λ bytes. length bytes ≤ most n)
    by None e = tt
    by (Some v) e = omega (arith, within text v AfterKey n e short, length-append v.key (0 ∷ []))

-- the key in mixed is that of the version which a text spells
pub key_is_spelled : (text : List ℕ) → option_map (λ v. key_bytes (key_of v)) (versioning_of text) ≡ spelled_key text
key_is_spelled text = by (versioning_of text)
  where
    by : (read : Option PlainVersioning)
        → option_map (λ v. key_bytes (key_of v)) read ≡ option_map (λ (v : PlainKeyed). v.key) (option_map mixed read)
    by None = refl
    by (Some v) = refl

-- what holds of how two keys compare holds of how their texts do, by the words of the scheme
pub by_words : (scheme : Scheme) (one other : List ℕ) (P : Ordering → Type 0)
    → IfSome ((rules scheme).read_as one)
    (λ v. IfSome ((rules scheme).read_as other) (λ w. P (bytes_cmp v.key w.key)))
    → IfSome ((rules scheme).texts_cmp one other) P
by_words scheme one other P holds =
    subst (λ found. IfSome found P) (sym (compare_by_keys scheme one other))
    (by ((rules scheme).read_as one) ((rules scheme).read_as other) holds)
  where
    by : (a b : Option PlainKeyed) → IfSome a (λ v. IfSome b (λ w. P (bytes_cmp v.key w.key)))
        → IfSome (option_and_then (λ v. option_map (λ w. bytes_cmp v.key w.key) b) a) P
    by None b holds = tt
    by (Some v) None holds = tt
    by (Some v) (Some w) holds = holds
