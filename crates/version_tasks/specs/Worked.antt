-- Tags, stabilities and what comes next, worked out by hand.
use Rattle.std.specs.Prelude.{◌≡◌, ℕ, List, [], ◌∷◌, map, Option, Some, None, codes}
use Rattle.std.specs.Option.{option_map}
use Rattle.version_rules.specs.grammar.Versioning.{versioning_of, versioning_text}
use Rattle.version_tasks.specs.declared.stability.Stability.TheVariants.{Dev, Alpha, Beta, Rc, Stable}
use Rattle.version_tasks.specs.{Next.IsNext, Next.NoNext, Stability.stability_of, Tag.version_after_prefix, Tag.version_in_tag, declared.stability.Stability.Stability}
use Rattle.version_texts.specs.VersioningRef.{version_in}

-- tags, and the texts of the versions in them
abbrev pub tags : List (List ℕ × Option (List ℕ))
tags =
    (codes "v1.2.3", Some (codes "1.2.3"))
    ∷ (codes "V1.2.3", Some (codes "1.2.3"))
    ∷ (codes "1.2.3", Some (codes "1.2.3"))
    ∷ (codes "release-1.2.3", Some (codes "1.2.3"))
    ∷ (codes "refs/tags/v1.2.3", Some (codes "1.2.3"))
    ∷ (codes "pkg@1.2.3", Some (codes "1.2.3"))
    ∷ (codes "@a/b@1.2.3", Some (codes "1.2.3"))
    ∷ (codes "log4j-2.17.1", Some (codes "2.17.1"))
    ∷ (codes "k8s-v1.25", Some (codes "1.25"))
    ∷ (codes "OpenSSL_1_1_1k", Some (codes "1_1_1k"))
    ∷ (codes "wine-8.0-rc1", Some (codes "8.0-rc1"))
    ∷ (codes "jdk-17.0.2+8", Some (codes "17.0.2+8"))
    ∷ (codes "1:2.0-3", Some (codes "1:2.0-3"))
    ∷ (codes "v01.2.3", Some (codes "01.2.3"))
    ∷ (codes "release/2023.01.02", Some (codes "2023.01.02"))
    ∷ (0xE7 ∷ 0x89 ∷ 0x88 ∷ codes "1.2", Some (codes "1.2"))
    ∷ (codes "go1.20.3", None)
    ∷ (codes "n6.0", None)
    ∷ (codes "x1.0-2", None)
    ∷ (codes "vv1.0", None)
    ∷ (codes "v.1.2", None)
    ∷ (codes "latest", None)
    ∷ (codes "v", None)
    ∷ (codes "name-v1..2", None)
    ∷ (codes "jdk8u292-b10", None)
    ∷ []

abbrev pub WorkedTags : Type 0
WorkedTags =
    map (λ row. option_map versioning_text (version_in_tag row.0)) tags ≡ map (λ row. row.1) tags

-- prefixes, tags, and the texts of the versions after the prefixes
abbrev pub prefixed_tags : List (List ℕ × List ℕ × Option (List ℕ))
prefixed_tags =
    (codes "go", codes "go1.20.3", Some (codes "1.20.3"))
    ∷ (codes "go-", codes "go-v1.2", Some (codes "1.2"))
    ∷ (codes "2ping-", codes "2ping-4.5", Some (codes "4.5"))
    ∷ (codes "go", codes "go-1.2", None)
    ∷ (codes "go", codes "Go1.20", None)
    ∷ []

abbrev pub WorkedPrefixes : Type 0
WorkedPrefixes =
    map (λ row. option_map versioning_text (version_after_prefix row.0 row.1)) prefixed_tags
    ≡ map (λ row. row.2) prefixed_tags

-- stabilities, and versions of each
abbrev pub stabilities : List (Stability × List ℕ)
stabilities =
    (Stable, codes "1.0")
    ∷ (Stable, codes "1.1.1k")
    ∷ (Stable, codes "1.0.Final")
    ∷ (Stable, codes "1.0.post1")
    ∷ (Stable, codes "1.2.3-5")
    ∷ (Stable, codes "1.2.3-r0")
    ∷ (Stable, codes "1.5.0-1ubuntu1")
    ∷ (Stable, codes "1.2.3+rc1")
    ∷ (Stable, codes "1.2-3+b1")
    ∷ (Dev, codes "1.0-SNAPSHOT")
    ∷ (Dev, codes "1.0.dev3")
    ∷ (Dev, codes "v1.0-nightly")
    ∷ (Dev, codes "1.0-beta-dev")
    ∷ (Dev, codes "1.2.0~DEVEL+20220331-1")
    ∷ (Rc, codes "1.0rc1")
    ∷ (Rc, codes "1.0.0-rc.1")
    ∷ (Rc, codes "1.0c1")
    ∷ (Rc, codes "1.0CR2")
    ∷ (Rc, codes "1_0rc1+b1")
    ∷ (Beta, codes "2.0.0-beta.1")
    ∷ (Beta, codes "1.0b2")
    ∷ (Beta, codes "3.0~beta1-2")
    ∷ (Alpha, codes "1.0a1")
    ∷ (Alpha, codes "2.0-M1")
    ∷ (Alpha, codes "1.0preview3")
    ∷ (Alpha, codes "1.0.0-alpha.beta")
    ∷ (Alpha, codes "1.2.3-x.y")
    ∷ (Alpha, codes "1.0.0--x")
    ∷ (Alpha, codes "22-ea")
    ∷ (Alpha, codes "1.0~EA-1")
    ∷ (Stable, codes "0.0~git20171103.1ea1667-1")
    ∷ (Stable, codes "1.0ea")
    ∷ (Stable, codes "1.0-ea1")
    ∷ (Stable, codes "0.0~git20170716.74609b8-1.1")
    ∷ (Stable, codes "0.1.1+git1-1")
    ∷ []

abbrev pub WorkedStabilities : Type 0
WorkedStabilities =
    map (λ row. option_map stability_of (versioning_of row.1)) stabilities
    ≡ map (λ row. Some row.0) stabilities

-- versions, places, and what comes next there
abbrev pub next_rows : List (List ℕ × ℕ × List ℕ)
next_rows =
    (codes "1.2.3", 2, codes "1.2.4")
    ∷ (codes "1.2.3", 1, codes "1.3.0")
    ∷ (codes "1.2.3", 0, codes "2.0.0")
    ∷ (codes "1.2.3-rc.1", 2, codes "1.2.3")
    ∷ (codes "1.2.3-rc.1", 1, codes "1.3.0")
    ∷ (codes "1.2.0-rc.1", 1, codes "1.2.0")
    ∷ (codes "1.2.3+x", 2, codes "1.2.4")
    ∷ (codes "1:1.9", 1, codes "1:1.10")
    ∷ (codes "0:1.0", 0, codes "0:2.0")
    ∷ (codes "1.2-3", 1, codes "1.3")
    ∷ (codes "1.2.4294967295", 1, codes "1.3.0")
    ∷ (codes "1.2.3.4", 1, codes "1.3.0.0")
    ∷ (codes "5", 0, codes "6")
    ∷ (codes "2-1", 0, codes "3")
    ∷ []

abbrev pub AreNext : List (List ℕ × ℕ × List ℕ) → Type 0
AreNext [] = Unit {0}
AreNext (row ∷ rows) = IsNext (version_in row.0) row.1 (version_in row.2) × AreNext rows

-- versions and places where none comes next
abbrev pub no_next_rows : List (List ℕ × ℕ)
no_next_rows =
    (codes "1.2.4294967295", 2)
    ∷ (codes "1.2.3", 3)
    ∷ (codes "2023.01.02", 0)
    ∷ (codes "1.0rc1", 0)
    ∷ (codes "1_2", 0)
    ∷ []

abbrev pub HaveNoNext : List (List ℕ × ℕ) → Type 0
HaveNoNext [] = Unit {0}
HaveNoNext (row ∷ rows) = NoNext (version_in row.0) row.1 × HaveNoNext rows

-- all of these rows
pub record WorkedRows : Type 0 where
  pub tags_are : WorkedTags
  pub prefixes_are : WorkedPrefixes
  pub stabilities_are : WorkedStabilities
  pub next_are : AreNext next_rows
  pub no_next_are : HaveNoNext no_next_rows
