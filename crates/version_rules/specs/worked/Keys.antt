-- Keys worked out by hand, byte by byte.
use Rattle.std.specs.Prelude.{◌≡◌, ℕ, List, [], ◌∷◌, map, Option, Some, None, codes}
use Rattle.std.specs.declared.cmp.Ordering.TheVariants.{Less}
use Rattle.version_rules.specs.grammar.{Chunk.PlainChunk, Last.PlainLast, MChunk.Digits, MChunk.Rev, MChunk.Plain, SemVer.PlainSemVer, Versioning.PlainVersioning, Versioning.Ideal, Versioning.General, Versioning.Complex}
use Rattle.version_rules.specs.key.{Key.key_of, Key.key_bytes, PartKey.PartKey, PartKey.list_cmp, PartKey.part_cmp, PartKey.part_key}
use Rattle.version_order.specs.texts.Grammar.{PlainSep, Colon, Hyphen, Plus, Underscore}
use Rattle.version_order.specs.keys.Codes.{length_bytes, text_bytes}
use Rattle.version_rules.specs.grammar.Chunk as chunk
use Rattle.version_rules.specs.grammar.Last as last

-- the strict version 1.2.3 with this pre-release and metadata
abbrev pub strict_version : Option (List PlainChunk) → Option (List ℕ) → PlainSemVer
strict_version pre_rel meta =
    record { major = 1; minor = 2; patch = 3; pre_rel = pre_rel; meta = meta }

-- a general version with only a last part
abbrev pub last_alone : PlainLast → PlainVersioning
last_alone part =
    General (record { epoch = None; chunks = []; last = part; release = None; meta = None })

-- a messy version by the texts of its chunks
abbrev pub mess_of : List (List ℕ) → List (PlainSep × List (List ℕ)) → PlainVersioning
mess_of first more =
    Complex (record {
      first =
          map Plain first;
      more = map (λ section. (section.0, map Plain section.1)) more;
    })

-- each version, and the bytes of its key
pub record WorkedKeys : Type 0 where
  -- strict `1.2.3`
  pub strict : key_bytes (key_of (Ideal (strict_version None None)))
      ≡ 0x00 ∷ 0x03 ∷ 0x01 ∷ 0x31 ∷ 0x02 ∷ 0x03 ∷ 0x01 ∷ 0x32 ∷ 0x02 ∷ 0x03 ∷ 0x01 ∷ 0x33 ∷ 0x02
      ∷ 0x02 ∷ 0x02 ∷ []
  -- strict `1.2.3-r1+git`
  pub strict_pre_release : key_bytes
      (key_of (Ideal
      (strict_version (Some (chunk.Alphanum (codes "r1") ∷ [])) (Some (codes "git")))))
      ≡ 0x00 ∷ 0x03 ∷ 0x01 ∷ 0x31 ∷ 0x02 ∷ 0x03 ∷ 0x01 ∷ 0x32 ∷ 0x02 ∷ 0x03 ∷ 0x01 ∷ 0x33 ∷ 0x02
      ∷ 0x02 ∷ 0x01 ∷ 0x03 ∷ 0x72 ∷ 0x31 ∷ 0x00 ∷ 0x01 ∷ []
  -- strict 1.2.3 with a pre-release of no chunks
  pub strict_empty_pre_release : key_bytes (key_of (Ideal (strict_version (Some []) None)))
      ≡ 0x00 ∷ 0x03 ∷ 0x01 ∷ 0x31 ∷ 0x02 ∷ 0x03 ∷ 0x01 ∷ 0x32 ∷ 0x02 ∷ 0x03 ∷ 0x01 ∷ 0x33 ∷ 0x02
      ∷ 0x02 ∷ 0x01 ∷ 0x01 ∷ []
  -- general `1:2.0-3`
  pub general_release : key_bytes
      (key_of (General
      (record {
        epoch =
            Some 1;
        chunks =
            chunk.Numeric 2 ∷ [];
        last =
            last.Numeric 0;
        release = Some (chunk.Numeric 3 ∷ []);
        meta = None;
      })))
      ≡ 0x01 ∷ 0x31 ∷ 0x03 ∷ 0x01 ∷ 0x32 ∷ 0x02 ∷ 0x03 ∷ 0x00 ∷ 0x02 ∷ 0x02 ∷ 0x03 ∷ 0x02 ∷ 0x01
      ∷ 0x33 ∷ 0x01 ∷ []
  -- general `1.0rc1`
  pub general_rc : key_bytes
      (key_of (General
      (record {
        epoch =
            None;
        chunks =
            chunk.Numeric 1 ∷ [];
        last = last.Rc 0 (codes "rc") 1;
        release = None;
        meta = None;
      })))
      ≡ 0x00 ∷ 0x03 ∷ 0x01 ∷ 0x31 ∷ 0x02 ∷ 0x03 ∷ 0x00 ∷ 0x01 ∷ 0x72 ∷ 0x63 ∷ 0x00 ∷ 0x01 ∷ 0x01
      ∷ 0x31 ∷ 0x00 ∷ 0x02 ∷ 0x02 ∷ []
  -- general `2.a1.0`
  pub general_chunks : key_bytes
      (key_of (General
      (record {
        epoch =
            None;
        chunks =
            chunk.Numeric 2 ∷ chunk.Alphanum (codes "a1") ∷ [];
        last =
            last.Numeric 0;
        release = None;
        meta = None;
      })))
      ≡ 0x00 ∷ 0x03 ∷ 0x01 ∷ 0x32 ∷ 0x02 ∷ 0x01 ∷ 0x61 ∷ 0x00 ∷ 0x01 ∷ 0x01 ∷ 0x31 ∷ 0x00 ∷ 0x03
      ∷ 0x00 ∷ 0x02 ∷ 0x02 ∷ 0x02 ∷ []
  -- a general version with only the last part `Numeric(0)`
  pub number_zero : key_bytes (key_of (last_alone (last.Numeric 0)))
      ≡ 0x00 ∷ 0x03 ∷ 0x00 ∷ 0x02 ∷ 0x02 ∷ 0x02 ∷ []
  -- the same with `Alphanum` of the bytes 00 61
  pub byte_zero : key_bytes (key_of (last_alone (last.Alphanum (0x00 ∷ 0x61 ∷ []))))
      ≡ 0x00 ∷ 0x01 ∷ 0x01 ∷ 0x01 ∷ 0x61 ∷ 0x00 ∷ 0x00 ∷ 0x02 ∷ 0x02 ∷ []
  -- with `Rc(1, "0", 2)`
  pub digits_in_rc : key_bytes (key_of (last_alone (last.Rc 1 (codes "0") 2)))
      ≡ 0x00 ∷ 0x03 ∷ 0x03 ∷ 0x31 ∷ 0x30 ∷ 0x32 ∷ 0x02 ∷ 0x02 ∷ 0x02 ∷ []
  -- with `Numeric(102)`
  pub digits_in_number : key_bytes (key_of (last_alone (last.Numeric 102)))
      ≡ 0x00 ∷ 0x03 ∷ 0x03 ∷ 0x31 ∷ 0x30 ∷ 0x32 ∷ 0x02 ∷ 0x02 ∷ 0x02 ∷ []
  -- with `Alphanum("102")`
  pub digits_in_text : key_bytes (key_of (last_alone (last.Alphanum (codes "102"))))
      ≡ 0x00 ∷ 0x03 ∷ 0x03 ∷ 0x31 ∷ 0x30 ∷ 0x32 ∷ 0x02 ∷ 0x02 ∷ 0x02 ∷ []
  -- with `Alphanum("")`
  pub empty_word : key_bytes (key_of (last_alone (last.Alphanum [])))
      ≡ 0x00 ∷ 0x01 ∷ 0x00 ∷ 0x00 ∷ 0x02 ∷ 0x02 ∷ []
  -- with `Rc(0, "0x", 1)`
  pub digits_then_word : key_bytes (key_of (last_alone (last.Rc 0 (codes "0x") 1)))
      ≡ 0x00 ∷ 0x03 ∷ 0x00 ∷ 0x01 ∷ 0x78 ∷ 0x00 ∷ 0x01 ∷ 0x01 ∷ 0x31 ∷ 0x00 ∷ 0x02 ∷ 0x02 ∷ []
  -- with `Post(3, "p2")`
  pub post : key_bytes (key_of (last_alone (last.Post 3 (codes "p2"))))
      ≡ 0x00 ∷ 0x03 ∷ 0x01 ∷ 0x33 ∷ 0x01 ∷ 0x70 ∷ 0x00 ∷ 0x01 ∷ 0x01 ∷ 0x32 ∷ 0x00 ∷ 0x02 ∷ 0x02
      ∷ []
  -- messy `1.0_2`
  pub messy : key_bytes
      (key_of (mess_of (codes "1" ∷ codes "0" ∷ []) ((Underscore, codes "2" ∷ []) ∷ [])))
      ≡ 0x00 ∷ 0x03 ∷ 0x01 ∷ 0x31 ∷ 0x02 ∷ 0x03 ∷ 0x00 ∷ 0x02 ∷ 0x02 ∷ 0x04 ∷ 0x02 ∷ 0x03 ∷ 0x01
      ∷ 0x32 ∷ 0x02 ∷ 0x02 ∷ 0x01 ∷ []
  -- messy `0:1.0_2`
  pub messy_epoch_zero : key_bytes
      (key_of (mess_of (codes "0" ∷ [])
      ((Colon, codes "1" ∷ codes "0" ∷ []) ∷ (Underscore, codes "2" ∷ []) ∷ [])))
      ≡ 0x00 ∷ 0x03 ∷ 0x01 ∷ 0x31 ∷ 0x02 ∷ 0x03 ∷ 0x00 ∷ 0x02 ∷ 0x02 ∷ 0x04 ∷ 0x02 ∷ 0x03 ∷ 0x01
      ∷ 0x32 ∷ 0x02 ∷ 0x02 ∷ 0x01 ∷ []
  -- messy, without chunks
  pub messy_empty : key_bytes (key_of (mess_of [] []))
      ≡ 0x00 ∷ 0x02 ∷ 0x02 ∷ []
  -- messy `1:2:3`
  pub messy_two_colons : key_bytes
      (key_of (mess_of (codes "1" ∷ []) ((Colon, codes "2" ∷ []) ∷ (Colon, codes "3" ∷ []) ∷ [])))
      ≡ 0x01 ∷ 0x31 ∷ 0x03 ∷ 0x01 ∷ 0x32 ∷ 0x02 ∷ 0x02 ∷ 0x04 ∷ 0x02 ∷ 0x03 ∷ 0x01 ∷ 0x33 ∷ 0x02
      ∷ 0x02 ∷ 0x01 ∷ []
  -- messy `1-2+3`
  pub messy_sections : key_bytes
      (key_of (mess_of (codes "1" ∷ []) ((Hyphen, codes "2" ∷ []) ∷ (Plus, codes "3" ∷ []) ∷ [])))
      ≡ 0x00 ∷ 0x03 ∷ 0x01 ∷ 0x31 ∷ 0x02 ∷ 0x02 ∷ 0x04 ∷ 0x02 ∷ 0x03 ∷ 0x01 ∷ 0x32 ∷ 0x02 ∷ 0x02
      ∷ 0x02 ∷ 0x03 ∷ 0x01 ∷ 0x33 ∷ 0x02 ∷ 0x02 ∷ 0x01 ∷ []
  -- messy, by the texts of its chunks: `Digits(7, "1")`, a colon, `Rev(8, "r2")`, `Digits(9, "3")`
  pub messy_texts : key_bytes
      (key_of (Complex
      (record {
        first =
            Digits 7 (codes "1") ∷ [];
        more =
            (Colon, Rev 8 (codes "r2") ∷ Digits 9 (codes "3") ∷ []) ∷ [];
      })))
      ≡ 0x01 ∷ 0x31 ∷ 0x01 ∷ 0x72 ∷ 0x00 ∷ 0x01 ∷ 0x01 ∷ 0x32 ∷ 0x00 ∷ 0x03 ∷ 0x01 ∷ 0x33 ∷ 0x02
      ∷ 0x02 ∷ 0x02 ∷ []
  -- messy `1_2`: no epoch without a colon
  pub messy_no_colon : key_bytes
      (key_of (mess_of (codes "1" ∷ []) ((Underscore, codes "2" ∷ []) ∷ [])))
      ≡ 0x00 ∷ 0x03 ∷ 0x01 ∷ 0x31 ∷ 0x02 ∷ 0x02 ∷ 0x04 ∷ 0x02 ∷ 0x03 ∷ 0x01 ∷ 0x32 ∷ 0x02 ∷ 0x02
      ∷ 0x01 ∷ []
  -- messy `1.2:3`: no epoch of two chunks
  pub messy_two_chunks : key_bytes
      (key_of (mess_of (codes "1" ∷ codes "2" ∷ []) ((Colon, codes "3" ∷ []) ∷ [])))
      ≡ 0x00 ∷ 0x03 ∷ 0x01 ∷ 0x31 ∷ 0x02 ∷ 0x03 ∷ 0x01 ∷ 0x32 ∷ 0x02 ∷ 0x02 ∷ 0x04 ∷ 0x02 ∷ 0x03
      ∷ 0x01 ∷ 0x33 ∷ 0x02 ∷ 0x02 ∷ 0x01 ∷ []
  -- messy `r1:2`: no epoch of a chunk that is not all digits
  pub messy_word : key_bytes (key_of (mess_of (codes "r1" ∷ []) ((Colon, codes "2" ∷ []) ∷ [])))
      ≡ 0x00 ∷ 0x01 ∷ 0x72 ∷ 0x00 ∷ 0x01 ∷ 0x01 ∷ 0x31 ∷ 0x00 ∷ 0x02 ∷ 0x04 ∷ 0x02 ∷ 0x03 ∷ 0x01
      ∷ 0x32 ∷ 0x02 ∷ 0x02 ∷ 0x01 ∷ []
  -- messy `:2`, its first chunk empty: no epoch without digits
  pub messy_no_text : key_bytes (key_of (mess_of ([] ∷ []) ((Colon, codes "2" ∷ []) ∷ [])))
      ≡ 0x00 ∷ 0x01 ∷ 0x00 ∷ 0x00 ∷ 0x02 ∷ 0x04 ∷ 0x02 ∷ 0x03 ∷ 0x01 ∷ 0x32 ∷ 0x02 ∷ 0x02 ∷ 0x01
      ∷ []

-- ---- bytes and orders of parts worked out by hand

-- the bytes of four lengths, and of the text of the bytes 00 01 02 FF
pub record WorkedBytes : Type 0 where
  pub length_254 : length_bytes 254 ≡ 0xFE ∷ []
  pub length_255 : length_bytes 255 ≡ 0xFF ∷ 0x00 ∷ []
  pub length_256 : length_bytes 256 ≡ 0xFF ∷ 0x01 ∷ []
  pub length_510 : length_bytes 510 ≡ 0xFF ∷ 0xFF ∷ 0x00 ∷ []
  pub text : text_bytes (0x00 ∷ 0x01 ∷ 0x02 ∷ 0xFF ∷ [])
      ≡ 0x01 ∷ 0x01 ∷ 0x01 ∷ 0x02 ∷ 0x02 ∷ 0xFF ∷ 0x00 ∷ []

-- a part by its printed text, among the parts of a list and its end
abbrev pub part : List ℕ → Option PartKey
part text = Some (part_key text)

-- a list of parts by their printed texts
abbrev pub parts : List (List ℕ) → List PartKey
parts texts = map part_key texts

-- parts and lists of parts, each below the next
pub record WorkedOrder : Type 0 where
  -- `abc`, the end of a list, `0`
  pub word_end : part_cmp (part (codes "abc")) None ≡ Less
  pub end_number : part_cmp None (part (codes "0")) ≡ Less
  -- `abc.0`, `0.0`, `1a.0`
  pub word_number : list_cmp (parts (codes "abc" ∷ codes "0" ∷ []))
      (parts (codes "0" ∷ codes "0" ∷ [])) ≡ Less
  pub number_suffixed : list_cmp (parts (codes "0" ∷ codes "0" ∷ []))
      (parts (codes "1a" ∷ codes "0" ∷ [])) ≡ Less
  -- `1.2.git`, `1.2`
  pub word_behind : list_cmp (parts (codes "1" ∷ codes "2" ∷ codes "git" ∷ []))
      (parts (codes "1" ∷ codes "2" ∷ [])) ≡ Less
  -- `2.14.r8`, `2.14.r23`, `2.14.8`
  pub revisions : list_cmp (parts (codes "2" ∷ codes "14" ∷ codes "r8" ∷ []))
      (parts (codes "2" ∷ codes "14" ∷ codes "r23" ∷ [])) ≡ Less
  pub revision_number : list_cmp (parts (codes "2" ∷ codes "14" ∷ codes "r23" ∷ []))
      (parts (codes "2" ∷ codes "14" ∷ codes "8" ∷ [])) ≡ Less
  -- the words `a`, and `a` with a byte 0 after it; the words of one byte 0, and of one byte 1
  pub longer_word : part_cmp (part (97 ∷ [])) (part (97 ∷ 0 ∷ [])) ≡ Less
  pub byte_zero_one : part_cmp (part (0 ∷ [])) (part (1 ∷ [])) ≡ Less
  -- a number with a suffix below the plain one: `3rc1`, `3`; and suffixes by their splits: `3rc9`,
  -- `3rc10`
  pub suffixed_plain : part_cmp (part (codes "3rc1")) (part (codes "3")) ≡ Less
  pub suffixes : part_cmp (part (codes "3rc9")) (part (codes "3rc10")) ≡ Less
