-- The ends of ranges, compared by their epochs, their parts and what follows these.
use Rattle.version_texts.proofs.lemmas.KeyRoom.{enough_room, end_length}
use Rattle.version_pieces.proofs.lemmas.Pieces.{pieces_are, decided, further_of_more, further_of_none}
use Rattle.version_texts.specs.Asked.{Begins, IsOfPart, after_key, behind_parts, fixed_bytes, is_key, kept_of, mark_of}
use Rattle.version_texts.specs.{Key.parts_behind, Key.parts_of, Key.room_for, Mixed.mixed}
use Rattle.version_order.specs.{Keyed.AreWithin, Keyed.end_of, declared.ends.End.End, keys.Codes.number_bytes, keys.Codes.items_bytes, keys.Lists.bytes_cmp}
use Rattle.version_order.specs.texts.Cuts.{first_piece, behind_piece, further_pieces, is_dot}
use Rattle.version_rules.specs.key.Key.{tail_bytes, Key, precedence, key_of, key_bytes}
use Rattle.version_rules.specs.key.PartKey.{PartKey, part_bytes, part_cmp, part_key, parts_bytes}
use Rattle.version_rules.specs.{grammar.Versioning.PlainVersioning, grammar.Versioning.versioning_of, requirement.Range.end_bytes, requirement.Range.kept_parts}
use Rattle.version_order.proofs.lemmas.{Codes.ended, Front.cases_Option, NumberBytes.above, NumberBytes.below, NumberBytes.number_writes}
use Rattle.version_rules.proofs.lemmas.{Key.part_writes, Order.key_writes}
use Rattle.std.specs.{Borrow.Bor, Cmp.ranks, List.position_or_len, Option.option_map_or, Option.option_map, Ordering.ordering_index, Ordering.ordering_then, declared.cmp.Ordering.Ordering, declared.cmp.Ordering.TheVariants.Equal}
use Rattle.std.proofs.lemmas.Cmp.{nat_list_cmp_total, tied_itself}
use Rattle.std.proofs.Common.{◌≡◌, ◌∙◌, ◌<◌, ℕ, true, List, [], ◌∷◌, ◌++◌, Option, Some, None, IsTrue, IfNone, IfSome, IsSome, suc, length, length-drop, ap, append_assoc, append-nil, arith, map, nat_cmp, refl, subst, sym, not, ◌==◌, inl, inr}
use Rattle.version_order.specs.declared.ends.End.TheVariants as end

-- the bytes of some parts, and those after them
abbrev pub front : List PartKey → List ℕ → List ℕ
front parts behind = items_bytes part_bytes parts ++ behind

-- the parts after the first one
abbrev pub further : List ℕ → List PartKey
further rest = map part_key (further_pieces is_dot rest)

-- two lists of parts with bytes after them compare by their first parts, then by what follows
pub first_parts : (p q : PartKey) (ps qs : List PartKey) (x y : List ℕ)
    → bytes_cmp (front (p ∷ ps) x) (front (q ∷ qs) y)
    ≡ ordering_then (part_cmp (Some p) (Some q)) (bytes_cmp (front ps x) (front qs y))
first_parts p q ps qs x y =
    rw (
      append_assoc (part_bytes (Some p)) (items_bytes part_bytes ps) x,
      append_assoc (part_bytes (Some q)) (items_bytes part_bytes qs) y,
    )
    (part_writes.compares (Some p) (Some q) (front ps x) (front qs y))

-- lists that begin with two marks compare by these, if they are the same where the marks are
pub by_marks : (m n : ℕ) (x y : List ℕ) → Begins m x → Begins n y → (m ≡ n → x ≡ y)
    → nat_cmp m n ≡ bytes_cmp x y
by_marks m n [] [] begin begin_too same = rw (begin, begin_too) refl
by_marks m n [] (b ∷ y) begin begin_too same = below m n (omega (arith, begin, begin_too.1))
by_marks m n (a ∷ x) [] begin begin_too same = above m n (omega (arith, begin.1, begin_too))
by_marks m n (a ∷ x) (b ∷ y) begin begin_too same = grind (arith, nat_cmp, ranks, tied_itself, nat_list_cmp_total)

-- bytes after an ended list, beside a list that may go on: if the marks are the same, so are they
pub one_ended : (m n mark : ℕ) (behind other : List ℕ) (more : Option (Bor (List ℕ)))
    → ¬ (IsOfPart m) → (IsSome more → IsOfPart n) → IfNone more (n ≡ mark)
    → (m ≡ mark → behind ≡ other) → m ≡ n → behind ≡ front (parts_behind more) other
one_ended m n mark behind other None no_part some none same e = same (e ∙ none)
one_ended m n mark behind other (Some text) no_part some none same e =
    absurd (no_part (subst IsOfPart (sym e) (some refl)))

-- a text of parts is its first part, and those that follow it
pub parts_are : (text rest : List ℕ) → rest ≡ behind_piece text
    → parts_of text ≡ part_key (first_piece text) ∷ further rest
parts_are text rest e = grind (arith, pieces_are)

-- what decides two first parts decides their lists; if they are equal, what follows does
pub fronts_compare : (a b rest other x y : List ℕ) (o : Ordering)
    → o ≡ part_cmp (Some (part_key (first_piece a))) (Some (part_key (first_piece b)))
    → rest ≡ behind_piece a → other ≡ behind_piece b
    → bytes_cmp (front (parts_of a) x) (front (parts_of b) y)
    ≡ ordering_then o (bytes_cmp (front (further rest) x) (front (further other) y))
fronts_compare a b rest other x y o e left left_too = grind (arith, parts_are, first_parts)

-- what follows a part, by the text after the dot
pub further_is : (more : Option (Bor (List ℕ))) (rest : List ℕ)
    → IfSome more (λ text. (b : ℕ) × (rest ≡ b ∷ text.now)) → IfNone more (rest ≡ [])
    → further rest ≡ parts_behind more
further_is None rest some none = ap (map part_key) (further_of_none is_dot rest none)
further_is (Some text) rest some none =
    ap (map part_key) (further_of_more is_dot rest text.now some)

-- the text after a part is shorter
pub left_is_shorter : (text rest : List ℕ) (more : Option (Bor (List ℕ))) → rest ≡ behind_piece text
    → IfSome more (λ text. (b : ℕ) × (rest ≡ b ∷ text.now))
    → option_map_or (λ left. suc (length left.now)) more 0 < suc (length text)
left_is_shorter text rest None e some = omega arith
left_is_shorter text rest (Some left) e some =
    omega (arith, ap length e, ap length some.1, length-drop (position_or_len is_dot text) text)

-- ---- the epoch and what follows it

key_front : (k : Key) (x : List ℕ) → parts_bytes k.body ++ x ≡ front k.body (2 ∷ x)
key_front k x =
    ap (λ (l : List ℕ). l ++ x) (sym (ended part_bytes k.body))
    ∙ append_assoc (items_bytes part_bytes k.body) (2 ∷ []) x

-- an end that a version counts for is its epoch, the parts that it keeps, and what follows them
pub end_parts : (end : End) (k : Key) → fixed_bytes end ≡ None
    → end_bytes end k
    ≡ number_bytes k.epoch ++ front (kept_parts (kept_of end) k.body) (behind_parts end k)
end_parts end.Key k e =
    ap (λ (l : List ℕ). number_bytes k.epoch ++ l) (key_front k (tail_bytes k.tail))
end_parts end.AfterKey k e = grind (arith, append_assoc, key_front)
end_parts (end.Begun kept) k e = grind (arith, append-nil)
end_parts (end.AboveBegun kept) k e =
    append_assoc (number_bytes k.epoch) (items_bytes part_bytes (kept_parts kept k.body)) (4 ∷ [])
end_parts end k e = cc e

-- two such ends compare by their epochs, then by what follows these
by_epochs : (a b : End) (k l : Key) → fixed_bytes a ≡ None → fixed_bytes b ≡ None
    → bytes_cmp (end_bytes a k) (end_bytes b l)
    ≡ ordering_then (nat_cmp k.epoch l.epoch)
    (bytes_cmp (front (kept_parts (kept_of a) k.body) (behind_parts a k))
    (front (kept_parts (kept_of b) l.body) (behind_parts b l)))
by_epochs a b k l of_version of_version_too = grind (arith, end_parts, number_writes)

-- epochs that differ decide; after equal ones what follows does
pub epochs_decide : (a b : End) (k l : Key) (o : Ordering) → fixed_bytes a ≡ None
    → fixed_bytes b ≡ None → o ≡ nat_cmp k.epoch l.epoch → true ≡ not (ordering_index o == 1)
    → o ≡ bytes_cmp (end_bytes a k) (end_bytes b l)
epochs_decide a b k l o of_version of_version_too e differ =
    rw (by_epochs a b k l of_version of_version_too, ← e) (sym (decided o _ differ))

pub fronts_decide : (a b : End) (k l : Key) (o : Ordering) → fixed_bytes a ≡ None
    → fixed_bytes b ≡ None → o ≡ nat_cmp k.epoch l.epoch → o ≡ Equal
    → bytes_cmp (front (kept_parts (kept_of a) k.body) (behind_parts a k))
    (front (kept_parts (kept_of b) l.body) (behind_parts b l))
    ≡ bytes_cmp (end_bytes a k) (end_bytes b l)
fronts_decide a b k l o of_version of_version_too e same =
    rw (by_epochs a b k l of_version of_version_too, sym e ∙ same) refl

key_end : (end : End) (k : Key) → is_key end ≡ true → end_bytes end k ≡ key_bytes k ++ after_key end
key_end end.Key k whole = sym (append-nil (key_bytes k))
key_end end.AfterKey k whole = refl
key_end _ k whole = cc whole

-- whole keys compare by precedence, then by whether a byte follows
pub by_keys : (a b : End) (k l : Key) → is_key a ≡ true → is_key b ≡ true
    → bytes_cmp (end_bytes a k) (end_bytes b l)
    ≡ ordering_then (precedence k l) (bytes_cmp (after_key a) (after_key b))
by_keys a b k l whole whole_too = grind (arith, key_end, key_writes)

-- what follows the parts of an end begins with its mark, which no part begins with
pub begins_with_mark : (end : End) (k : Key) → Begins (mark_of end) (behind_parts end k)
begins_with_mark (end.Begun kept) k = refl
begins_with_mark end k = (refl, λ e. cc e)

-- the marks of two ends are the same only if the same bytes follow, unless both are whole keys
pub same_marks : (a b : End) (k l : Key) → fixed_bytes a ≡ None → fixed_bytes b ≡ None
    → ¬ (IsTrue (is_key a) × IsTrue (is_key b)) → mark_of a ≡ mark_of b
    → behind_parts a k ≡ behind_parts b l
same_marks end.Lowest b k l e f keys same = cc e
same_marks end.Zero b k l e f keys same = cc e
same_marks (end.Begun kept) (end.Begun other) k l e f keys same = refl
same_marks (end.AboveBegun kept) (end.AboveBegun other) k l e f keys same = refl
same_marks end.Key end.Key k l e f keys same = absurd (keys (refl, refl))
same_marks end.Key end.AfterKey k l e f keys same = absurd (keys (refl, refl))
same_marks end.AfterKey end.Key k l e f keys same = absurd (keys (refl, refl))
same_marks end.AfterKey end.AfterKey k l e f keys same = absurd (keys (refl, refl))
same_marks a b k l e f keys same = cc (e, f, same)

-- ---- how long the ends of ranges may be

end-is : (end : End) (v : PlainVersioning) → end_of end (mixed v) ≡ end_bytes end (key_of v)
end-is end.Lowest v = refl
end-is end v = refl

pub mixed_within : AreWithin (λ text. option_map mixed (versioning_of text)) room_for
mixed_within text version end n read short = elim (cases_Option (versioning_of text)) [
  | inl none ↦ cc (ap (option_map mixed) none, read)
  | inr some ↦
      let is : mixed some.0 ≡ version = cc (ap (option_map mixed) some.1, read) in
      omega (
        arith,
        short,
        ap (λ v. length (end_of end v)) is,
        ap (λ (l : List ℕ). length l) (end-is end some.0),
        end_length end (key_of some.0),
        enough_room text some.0 some.1,
      )
]
