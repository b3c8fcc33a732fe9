-- Versions of any scheme.
use Rattle.std.specs.{Option.option_map, Option.option_map_or, Ordering.nat_cmp, Ordering.on, Ordering.then_cmp, Prelude.ℕ, Prelude.List, Prelude.Option, Prelude.if◌then◌else◌, declared.cmp.Ordering.Ordering}
use Rattle.version_rules.specs.{declared.kind.Kind.Kind, declared.kind.Kind.TheVariants.Ideal, grammar.Versioning.versioning_kind, grammar.Versioning.versioning_of}
use Rattle.version_order.specs.{Keyed.PlainKeyed, keys.Lists.bytes_cmp}
use Rattle.version_schemes.specs.{Scheme.is_mixed, Scheme.rules, Scheme.scheme_number, declared.scheme.Scheme.Scheme}
use Rattle.version_texts.specs.Order.{texts_tie}

-- a version: its scheme, its text, its key, and the kind that breaks ties of keys with the text. Where a scheme
-- has no kinds, nothing breaks these: all are strict.
pub record PlainAny : Type 0 where
  pub scheme : Scheme
  pub text : List ℕ
  pub key : List ℕ
  pub kind : Kind

-- the kind of the version that a text is
abbrev pub kind_in : Scheme → List ℕ → Kind
kind_in scheme text = if is_mixed scheme then option_map_or versioning_kind (versioning_of text) Ideal else Ideal

abbrev pub with_key : Scheme → List ℕ → PlainKeyed → PlainAny
with_key scheme text version =
    record { scheme = scheme; text = text; key = version.key; kind = kind_in scheme text }

-- the version of a scheme that a text is
abbrev pub any_of : Scheme → List ℕ → Option PlainAny
any_of scheme text = option_map (with_key scheme text) ((rules scheme).read_as text)

-- by the schemes' numbers, and in each scheme by the keys
abbrev pub any_precedence : PlainAny → PlainAny → Ordering
any_precedence = then_cmp (on (λ v. scheme_number v.scheme) nat_cmp) (on (λ v. v.key) bytes_cmp)

-- and then by what breaks the ties of keys
abbrev pub any_cmp : PlainAny → PlainAny → Ordering
any_cmp = then_cmp any_precedence (on (λ v. (v.kind, v.text)) texts_tie)
