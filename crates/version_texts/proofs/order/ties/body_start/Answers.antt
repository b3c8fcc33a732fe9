use Rattle.std.proofs.Common.{◌≡◌, ◌==◌, ◌&&◌, ◌+◌, ℕ, Bool, List, drop, arith}
use Rattle.std.proofs.lemmas.Bool.{eq-eqb, ne_eqb}
use Rattle.std.specs.{Char.is_ascii_digit, List.prefix_len}
use Rattle.version_order.specs.texts.{Class.first_rank, Front.starts_with_digit}
use Rattle.version_texts.specs.Scan.{digits_len, has_epoch}
use Rattle.version_texts.proofs.lemmas.scan.{Scanned.behind_colon, Scanned.no_epoch, Section.next_colon}
use Rattle.version_texts.proofs.order.ties.body_start.Goals.{else-begins_with-via-then-begins_with+else-rank_at-eq-COLON, else-begins_with-via-else-begins_with}
use Rattle.version_texts.proofs.order.ties.body_start.Goals as goal

-- the digits that a text begins with, and whether a colon follows them
digits_end : (text : List ℕ) (end : ℕ) → end ≡ 0 + prefix_len is_ascii_digit (drop 0 text)
    → digits_len text ≡ end
digits_end text end end_is = omega (arith, end_is)

epoch_told : (text : List ℕ) (end rank : ℕ) (digit : Bool)
    → end ≡ 0 + prefix_len is_ascii_digit (drop 0 text) → rank ≡ first_rank (drop end text)
    → digit ≡ starts_with_digit text → has_epoch text ≡ (digit && (rank == 5))
epoch_told text end rank digit end_is rank_is digit_is = grind (arith, digits_end, next_colon)

pub returns-then-rank_at-eq-COLON-clause-start : goal.returns-then-rank_at-eq-COLON-clause-start
returns-then-rank_at-eq-COLON-clause-start c = grind (arith, epoch_told, eq-eqb, behind_colon, digits_end)

pub returns-else-begins_with-clause-start : goal.returns-else-begins_with-clause-start
returns-else-begins_with-clause-start c =
    grind (
      arith,
      else-begins_with-via-then-begins_with+else-rank_at-eq-COLON,
      epoch_told,
      ne_eqb,
      else-begins_with-via-else-begins_with,
      no_epoch,
    )
