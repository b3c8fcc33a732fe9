-- Keys in the caller's buffer, and a room that is enough for the keys of any texts with some offsets.
use Rattle.std.proofs.Common.{ℕ, List, Option, ◌≡◌, ◌+◌, ◌-◌, ◌*◌, ◌≤◌, zero, suc, [], length, drop, get_or, Some, None, refl, ap, arith, length-append, ◌∙◌, ◌<◌, ◌^◌, Bool, true, false, ◌∷◌, ◌++◌, nat_eq, set, IfSome, sym}
use Rattle.std.specs.Option.{option_map, unwrap_or}
use Rattle.version_rules.specs.grammar.Versioning.{PlainVersioning, versioning_of}
use Rattle.version_texts.specs.{Key.room_for, Mixed.mixed}
use Rattle.std.proofs.lemmas.{Bool.Decides.nat_tests, List.length-take, List.append-nil, List.get_or-set_other, List.get_or-set_same}
use Rattle.versions_c.specs.{Keys.keys_before, Keys.spelled_key, Keys.saturated_signed, Sorting.IsMarked, Written.AreOffsets, Written.text_at}
use Rattle.version_texts.proofs.lemmas.KeyRoom.{enough_room}
use Rattle.version_order.proofs.lemmas.Sinks.{put_fits}
use Rattle.version_order.specs.keys.Sinks.{put_at, put_both, saturated, IsWritten}

-- the key of what a text is read as in mixed
abbrev pub key_of_read : Option PlainVersioning → Option (List ℕ)
key_of_read read = option_map (λ v. v.key) (option_map mixed read)

key_within : (text : List ℕ) → length (unwrap_or (spelled_key text) []) ≤ room_for (length text)
key_within text = by (versioning_of text) refl
  where
    by : (spelled : Option PlainVersioning) → versioning_of text ≡ spelled
        → length (unwrap_or (key_of_read spelled) []) ≤ room_for (length text)
    by None e = omega arith
    by (Some v) e = enough_room text v e

-- 3 bytes for each byte of the texts, and 5 for each text
pub all_within : (texts offsets : List ℕ) (count : ℕ) → AreOffsets offsets (length texts) count
    → (i : ℕ) → i ≤ count
    → length (keys_before spelled_key texts offsets i) + 3 * get_or offsets 0 0 ≤ 3 * get_or offsets i 0 + 5 * i
all_within texts offsets count are zero low = omega arith
all_within texts offsets count are (suc i) low =
    let start = get_or offsets i 0 in
    let text = text_at texts offsets i in
    let next : get_or offsets (i + 1) 0 ≡ get_or offsets (suc i) 0 =
    let one_more : i + 1 ≡ suc i = omega arith in ap (λ n. get_or offsets n 0) one_more in
    let up : start ≤ get_or offsets (i + 1) 0 =
    are.ascending i (i + 1) 0 (omega arith) (omega (arith, are.one_more, low)) in
    omega (
      arith,
      all_within texts offsets count are i (omega (arith, low)),
      next,
      up,
      length-take (get_or offsets (i + 1) 0 - start) (drop start texts),
      key_within text,
      length-append (keys_before spelled_key texts offsets i) (unwrap_or (spelled_key text) []),
    )

-- ---- keys written into a buffer, one after another

-- ---- one key

pub fitting_key : (spelled : Option (List ℕ)) (bytes room new : List ℕ) → Some bytes ≡ spelled
    → IsWritten room 0 bytes new → length bytes ≤ length room
    → IfSome spelled (λ b. new ≡ b ++ drop (length b) room)
fitting_key None bytes room new e put fits = cc e
fitting_key (Some b) bytes room new e put fits =
    let same : bytes ≡ b = cc e in
    put.fitting (omega (arith, fits)) ∙ put_fits room bytes fits
    ∙ ap (λ (l : List ℕ). l ++ drop (length l) room) same

-- ---- keys one after another

-- the place after one more key
pub behind_key : (before key : List ℕ)
    → saturated (saturated (length before) + length key) ≡ saturated (length (before ++ key))
behind_key before key = omega (arith, length-append before key)

-- the keys so far, if they fit, and the place after them
pub record ArePut (room before : List ℕ) (end : ℕ) (keys : List ℕ) : Type 0 where
  pub ended : end ≡ saturated (length before)
  pub written : length before ≤ length room → keys ≡ put_at room 0 before

module _ (key_of : List ℕ → Option (List ℕ)) where
  keys_step : (texts offsets : List ℕ) (i : ℕ)
      → keys_before key_of texts offsets (i + 1)
      ≡ keys_before key_of texts offsets i ++ unwrap_or (key_of (text_at texts offsets i)) []
  keys_step texts offsets i = grind arith

  pub keys_with : (texts offsets : List ℕ) (i : ℕ) (key : List ℕ)
      → Some key ≡ key_of (text_at texts offsets i)
      → keys_before key_of texts offsets (i + 1) ≡ keys_before key_of texts offsets i ++ key
  keys_with texts offsets i key e = grind (arith, keys_step)

  pub keys_without : (texts offsets : List ℕ) (i : ℕ) → None ≡ key_of (text_at texts offsets i)
      → keys_before key_of texts offsets (i + 1) ≡ keys_before key_of texts offsets i
  keys_without texts offsets i e = grind (arith, keys_step, append-nil)

  -- with one more key
  pub one_more_key : (texts offsets room : List ℕ) (i : ℕ) (text key keys new_keys : List ℕ)
      (end new_end : ℕ) → length room < 2 ^ 63 → text ≡ text_at texts offsets i
      → Some key ≡ key_of text → ArePut room (keys_before key_of texts offsets i) end keys
      → new_end ≡ saturated (end + length key) → IsWritten keys end key new_keys
      → length keys ≡ length room → ArePut room (keys_before key_of texts offsets (i + 1)) new_end new_keys
  one_more_key texts offsets room i text key keys new_keys end new_end small is spells put
      new_ended new_written long =
      let before = keys_before key_of texts offsets i in
      let all = keys_with texts offsets i key (spells ∙ ap key_of is) in
      let both = length-append before key in
      record {
        ended =
            new_ended ∙ ap (λ n. saturated (n + length key)) put.ended ∙ behind_key before key
            ∙ ap (λ (l : List ℕ). saturated (length l)) (sym all);
        written =
            λ fits.
            let within : length before + length key ≤ length room =
            omega (arith, fits, both, ap length all) in
            let place : end ≡ 0 + length before = omega (arith, put.ended, within, small) in
            new_written.fitting (omega (arith, long, within, place))
            ∙ (λ j. put_at (put.written (omega (arith, within)) j) (place j) key)
            ∙ put_both room 0 before key ∙ ap (put_at room 0) (sym all);
      }

  -- and with a text without a key
  pub no_more_key : (texts offsets room : List ℕ) (i : ℕ) (text keys : List ℕ) (end : ℕ)
      → text ≡ text_at texts offsets i → None ≡ key_of text
      → ArePut room (keys_before key_of texts offsets i) end keys
      → ArePut room (keys_before key_of texts offsets (i + 1)) end keys
  no_more_key texts offsets room i text keys end is spells put = grind (arith, keys_without)

  -- ---- where keys begin and end

  pub first_told : (texts offsets told : List ℕ) → 0 < length told → (i : ℕ) → i ≤ 0
      → get_or (set told 0 0) i 0 ≡ saturated_signed (length (keys_before key_of texts offsets i))
  first_told texts offsets [] some i low = absurd (omega (arith, some))
  first_told texts offsets (x ∷ told) some zero low = refl
  first_told texts offsets (x ∷ told) some (suc i) low = absurd (omega (arith, low))

  pub next_told : (texts offsets told : List ℕ) (place end : ℕ) → place + 1 < length told
      → ((i : ℕ) → i ≤ place
      → get_or told i 0 ≡ saturated_signed (length (keys_before key_of texts offsets i)))
      → end ≡ saturated_signed (length (keys_before key_of texts offsets (place + 1)))
      → (i : ℕ) → i ≤ place + 1
      → get_or (set told (place + 1) end) i 0
      ≡ saturated_signed (length (keys_before key_of texts offsets i))
  next_told texts offsets told place end fits known new i low = by (nat_eq i (place + 1)) refl
    where
      by : (last : Bool) → nat_eq i (place + 1) ≡ last
          → get_or (set told (place + 1) end) i 0
          ≡ saturated_signed (length (keys_before key_of texts offsets i))
      by true is =
          let here : i ≡ place + 1 = grind (arith, nat_tests) in
          rw here (get_or-set_same told (place + 1) end 0 fits ∙ new)
      by false is =
          let before : i < place + 1 = grind (arith, nat_tests) in
          get_or-set_other told (place + 1) i end 0 (λ e. omega (arith, before, e))
          ∙ known i (omega (arith, before))

-- ---- marked places

pub next_marked : (texts offsets places : List ℕ) (place marked : ℕ) → place < length places
    → ((i : ℕ) → i < place → i < length places → IsMarked texts offsets i (get_or places i 0))
    → IsMarked texts offsets place marked → (i : ℕ) → i < place + 1
    → IsMarked texts offsets i (get_or (set places place marked) i 0)
next_marked texts offsets places place marked inside known new i low = by (nat_eq i place) refl
  where
    by : (last : Bool) → nat_eq i place ≡ last
        → IsMarked texts offsets i (get_or (set places place marked) i 0)
    by true is =
        let here : i ≡ place = grind (arith, nat_tests) in
        rw (here, get_or-set_same places place marked 0 inside) new
    by false is =
        let before : i < place = grind (arith, nat_tests) in
        rw (get_or-set_other places place i marked 0 (λ e. omega (arith, before, e)))
        (known i before (omega (arith, before, inside)))
