-- How a text spells a version.
use Rattle.std.specs.Prelude.{ℕ, ◌-◌, List, [], Option, Some, length, take}
use Rattle.std.specs.Option.{unwrap_or}
use Rattle.version_answers.specs.declared.spelling.{Naming.Naming, Naming.TheVariants.Bare, Naming.TheVariants.Tag, Naming.TheVariants.Prefix, Spelling.Spelling}
use Rattle.version_rules.specs.grammar.Versioning.{PlainVersioning, versioning_of}
use Rattle.version_schemes.specs.{any.Order.PlainAny, any.Order.any_of, declared.scheme.Scheme.TheVariants.Mixed}
use Rattle.version_tasks.specs.Tag.{text_after_prefix, text_in_tag}

-- the text of the version in a text: all of it, or the rest of a tag from where its version begins; none where none
-- begins
abbrev pub found_text : Naming → List ℕ → Option (List ℕ)
found_text Bare text = Some text
found_text Tag text = text_in_tag text
found_text (Prefix prefix) text = text_after_prefix prefix.now text

-- the same as a text, which is empty where none begins
abbrev pub named_text : Naming → List ℕ → List ℕ
named_text naming text = unwrap_or (found_text naming text) []

-- what stands before it
abbrev pub before_named : Naming → List ℕ → List ℕ
before_named naming text = take (length text - length (named_text naming text)) text

-- the version that a text spells
abbrev pub spelled : Spelling → List ℕ → Option PlainAny
spelled spelling text = any_of spelling.scheme (named_text spelling.naming text)

-- how a text spells a version of the scheme mixed
abbrev pub mixed_spelling : Naming → Spelling
mixed_spelling naming = record { naming = naming; scheme = Mixed }

-- the version that a text spells, by the scheme mixed
abbrev pub spelled_mixed : Naming → List ℕ → Option PlainVersioning
spelled_mixed naming text = versioning_of (named_text naming text)
