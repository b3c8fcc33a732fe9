-- Where a walk over a text stops, piece by piece.
use Rattle.std.proofs.Common.{◌≡◌, ◌==◌, ◌&&◌, ◌||◌, ◌-◌, ◌∙◌, ℕ, Bool, true, false, List, [], ◌∷◌, ◌++◌, ap, append_assoc, arith, drop, length, length-append, refl, subst, sym, take, if◌then◌else◌, append-nil}
use Rattle.std.specs.List.{prefix_len, take_while}
use Rattle.version_order.proofs.lemmas.Viable.Left.{behind, empty_run, is_nothing, next, next_tail}
use Rattle.version_order.proofs.lemmas.Front.{begins-drop, list_all-take_while, prefix_len-append}
use Rattle.std.proofs.lemmas.List.{drop_at, take-append-drop, take_at}
use Rattle.version_order.specs.{Viable.IsLeft, Viable.IsCut, Viable.Stops, texts.Front.begins}

-- a beginning of a text begins with no byte with which the text doesn't begin
begun_apart : (bad : ℕ → Bool) (begun rest : List ℕ) → begins bad (begun ++ rest) ≡ false → begins bad begun ≡ false
begun_apart bad [] rest apart = refl
begun_apart bad (byte ∷ begun) rest apart = apart

-- nor with another one where more follows it
next_apart : (bad : ℕ → Bool) (begun : List ℕ) (byte : ℕ) (behind more : List ℕ)
    → begins bad (begun ++ byte ∷ behind) ≡ false → begins bad (begun ++ byte ∷ more) ≡ false
next_apart bad [] byte behind more apart = apart
next_apart bad (b ∷ begun) byte behind more apart = apart

-- what follows a front decides, by another test, as long as it begins with no byte of a class
pub stops_after : (bad : ℕ → Bool) (test other : List ℕ → Bool) (front : List ℕ)
    → ((text : List ℕ) → begins bad text ≡ false → test (front ++ text) ≡ other text)
    → ((text : List ℕ) → other text ≡ true → begins bad text ≡ false)
    → (text rest : List ℕ) (passes : Bool) → begins bad text ≡ false
    → Stops other text rest passes → Stops test (front ++ text) rest passes
stops_after bad test other front alike closed text rest passes apart stops =
    let begun = stops.left.begun in
    let whole : text ≡ begun ++ rest = stops.left.whole in
    let here : begins bad (begun ++ rest) ≡ false = ap (begins bad) (sym whole) ∙ apart in
    record {
      left = record {
        begun = front ++ begun;
        whole = ap (λ (l : List ℕ). front ++ l) whole ∙ sym (append_assoc front begun rest);
        viable = record {
          rest = stops.left.viable.rest;
          passes = ap test (append_assoc front begun stops.left.viable.rest)
              ∙ alike _ (closed _ stops.left.viable.passes) ∙ stops.left.viable.passes;
        };
        stuck = λ byte behind e more.
            ap test (append_assoc front begun (byte ∷ more))
            ∙ alike _ (next_apart bad begun byte behind more
            (ap (λ (l : List ℕ). begins bad (begun ++ l)) (sym e) ∙ here))
            ∙ stops.left.stuck byte behind e more;
      };
      is = alike begun (begun_apart bad begun rest here) ∙ stops.is;
    }

abbrev none : ℕ → Bool
none byte = false

none_begins : (text : List ℕ) → begins none text ≡ false
none_begins [] = refl
none_begins (byte ∷ text) = refl

-- what follows a front decides
pub stops_behind : (test other : List ℕ → Bool) (front : List ℕ)
    → ((text : List ℕ) → test (front ++ text) ≡ other text) → (text rest : List ℕ) (passes : Bool)
    → Stops other text rest passes → Stops test (front ++ text) rest passes
stops_behind test other front alike text rest passes stops =
    stops_after none test other front (λ t e. alike t) (λ t e. none_begins t) text rest passes (none_begins text) stops

-- the text may be nothing, and no byte may come first
pub stops_here : (test : List ℕ → Bool) (text : List ℕ) → test [] ≡ true
    → ((byte : ℕ) (behind : List ℕ) → text ≡ byte ∷ behind → (more : List ℕ) → test (byte ∷ more) ≡ false)
    → Stops test text text true
stops_here test text nothing stuck = record {
  left = record {
    begun = [];
    whole = refl;
    viable = record { rest = []; passes = nothing };
    stuck = stuck;
  };
  is = nothing;
}

pub stops_nothing : (text : List ℕ) → Stops is_nothing text text true
stops_nothing text = stops_here is_nothing text refl (λ byte behind e more. refl)

-- ---- by the run that a text begins with, what follows it, and what follows a mark after it

-- a good piece of a class, and then a tail, or a mark and what it leads to
pub record IsSplit (class mark : ℕ → Bool) (good test inner tail : List ℕ → Bool) : Type 0 where
  pub split : (text : List ℕ) → test text
      ≡ (good (take_while class text) && next mark inner tail (drop (prefix_len class text) text))
  pub mark_apart : (byte : ℕ) → mark byte ≡ true → class byte ≡ false
  pub tail_apart : (text : List ℕ) → tail text ≡ true → (begins class text ≡ false) × (begins mark text ≡ false)

module _ {class mark : ℕ → Bool} {good test inner tail : List ℕ → Bool}
    (by : IsSplit class mark good test inner tail)
    (text run rest : List ℕ) (run_is : run ≡ take_while class text)
    (rest_is : rest ≡ drop (prefix_len class text) text) where
  joined_run : text ≡ run ++ rest
  joined_run = sym (take-append-drop (prefix_len class text) text) ∙ (λ i. sym run_is i ++ sym rest_is i)

  run_ends : begins class rest ≡ false
  run_ends = ap (begins class) rest_is ∙ begins-drop class text

  at_piece : (after : List ℕ) → begins class after ≡ false → test (run ++ after) ≡ (good run && next mark inner tail after)
  at_piece after apart = grind (arith, list_all-take_while, prefix_len-append, take_at, drop_at, next)

  -- a piece that is none, but may become one
  pub stops_at_piece : good run ≡ false → (more : List ℕ) → test (run ++ more) ≡ true → Stops test text rest false
  stops_at_piece fails more passes = record {
    left = record {
      begun = run;
      whole = joined_run;
      viable = record { rest = more; passes = passes };
      stuck = λ byte behind e after.
          at_piece (byte ∷ after) (ap (begins class) (sym e) ∙ run_ends)
          ∙ ap (λ (b : Bool). b && next mark inner tail (byte ∷ after)) fails;
    };
    is = ap test (sym (append-nil run)) ∙ at_piece [] refl ∙ ap (λ (b : Bool). b && next mark inner tail []) fails;
  }

  module _ (is : good run ≡ true) where
    abbrev either : ℕ → Bool
    either byte = class byte || mark byte

    neither_begins : (l : List ℕ) → begins class l ≡ false → begins mark l ≡ false → begins either l ≡ false
    neither_begins [] e f = refl
    neither_begins (byte ∷ l) e f = rw (e, f) refl

    class_apart : (l : List ℕ) → begins either l ≡ false → begins class l ≡ false
    class_apart [] e = refl
    class_apart (byte ∷ l) e = grind arith

    mark_no : (l : List ℕ) → begins either l ≡ false → begins mark l ≡ false
    mark_no [] e = refl
    mark_no (byte ∷ l) e = grind arith

    -- a tail follows the piece
    pub stops_in_tail : begins mark rest ≡ false → (left : List ℕ) (passes : Bool) → Stops tail rest left passes
        → Stops test text left passes
    stops_in_tail unmarked left passes stops =
        subst (λ (l : List ℕ). Stops test l left passes) (sym joined_run)
        (stops_after either test tail run
        (λ t e. at_piece t (class_apart t e) ∙ ap (λ (b : Bool). b && next mark inner tail t) is
        ∙ next_tail mark inner tail t (mark_no t e))
        (λ t e. neither_begins t (by.tail_apart t e).0 (by.tail_apart t e).1) rest left passes (neither_begins rest run_ends unmarked) stops)

    -- a mark follows it, and then what is walked over next
    pub stops_in_next : (byte : ℕ) (more : List ℕ) → rest ≡ byte ∷ more → mark byte ≡ true
        → (left : List ℕ) (passes : Bool) → Stops inner more left passes → Stops test text left passes
    stops_in_next byte more cut marked left passes stops =
        subst (λ (l : List ℕ). Stops test l left passes)
        (append_assoc run (byte ∷ []) more ∙ ap (λ (l : List ℕ). run ++ l) (sym cut) ∙ sym joined_run)
        (stops_behind test inner (run ++ byte ∷ [])
        (λ t. ap test (append_assoc run (byte ∷ []) t) ∙ at_piece (byte ∷ t) (by.mark_apart byte marked)
        ∙ ap (λ (b : Bool). b && next mark inner tail (byte ∷ t)) is
        ∙ ap (λ (b : Bool). if b then inner t else tail (byte ∷ t)) marked) more left passes stops)

-- ---- texts that fail

-- a text with more than its longest viable beginning
pub cut_at : (test : List ℕ → Bool) (text left : List ℕ) (byte : ℕ) (behind : List ℕ) → left ≡ byte ∷ behind
    → IsLeft test text left → IsCut test text left
cut_at test text left byte behind e is = grind (arith, behind)

-- what follows a front decides
pub cut_behind : (test other : List ℕ → Bool) (front : List ℕ)
    → ((text : List ℕ) → test (front ++ text) ≡ other text) → (text left : List ℕ) → IsCut other text left
    → IsCut test (front ++ text) left
cut_behind test other front alike text left cut = grind (arith, behind)

module _ (test : List ℕ → Bool) (text rest : List ℕ) (passes : Bool) (stops : Stops test text rest passes) where
  -- a walk that stops at the end of what is whole has read it
  pub stops_passes : passes ≡ true → (length rest == 0) ≡ true → test text ≡ true
  stops_passes is none = grind (arith, empty_run, append-nil)

  pub stops_cut : passes ≡ false → IsCut test text rest
  stops_cut is = by rest refl
    where
      by : (l : List ℕ) → rest ≡ l → IsCut test text rest
      by [] e = record {
        fails = ap test (stops.left.whole ∙ ap (λ (l : List ℕ). stops.left.begun ++ l) e ∙ append-nil stops.left.begun)
            ∙ stops.is ∙ is;
        is = stops.left;
      }
      by (byte ∷ after) e = cut_at test text rest byte after e stops.left

  pub stops_before : (length rest == 0) ≡ false → IsCut test text rest
  stops_before some = by rest refl
    where
      by : (l : List ℕ) → rest ≡ l → IsCut test text rest
      by [] e = absurd (cc (sym (ap (λ (l : List ℕ). length l == 0) e) ∙ some))
      by (byte ∷ after) e = cut_at test text rest byte after e stops.left

-- what stands before the rest
pub stops_begun : (test : List ℕ → Bool) (text rest : List ℕ) (passes : Bool) (stops : Stops test text rest passes)
    → take (length text - length rest) text ≡ stops.left.begun
stops_begun test text rest passes stops = grind (arith, length-append, take_at)
