use Rattle.std.proofs.Common.{◌≡◌, ◌==◌, ◌&&◌, ◌+◌, ◌∙◌, ℕ, Bool, List, true, drop, length, refl, sym, ap, arith}
use Rattle.std.proofs.lemmas.Grind.{common_steps}
use Rattle.std.specs.{Char.is_ascii_alphanumeric, List.list_all}
use Rattle.version_order.specs.texts.{Class.first_rank, Front.is_digits, Front.is_run}
use Rattle.version_texts.specs.Scan.{body_start, has_epoch, is_chunk, section_end, section_pieces}
use Rattle.version_texts.proofs.lemmas.scan.Scanned.{bad_first, behind_colon, body_end-section, epoch_chunk, epoch_end, first_chunks, first_end, first_numbers, first_runs, no_epoch, not_three, numeral_epoch, one_by_dots, section_is_epoch, three_by_dots}
use Rattle.version_texts.proofs.lemmas.scan.Section.{next_colon}
use Rattle.version_texts.proofs.scan.scan_body.Goals as goal

-- whether a text has an epoch, as its first section tells
epoch_told : (text : List ℕ) (dots : ℕ) {next end : ℕ} {digits told : Bool}
    → dots + 1 ≡ length (section_pieces text 0)
    → digits ≡ list_all is_digits (section_pieces text 0)
    → end ≡ section_end text 0 → next ≡ first_rank (drop end text)
    → (((dots == 0) && digits) && (next == 5)) ≡ told → has_epoch text ≡ told
epoch_told text dots dots_are digits_are end_is next_is told = grind (arith, section_is_epoch, one_by_dots, next_colon)

abbrev all_runs : List ℕ → ℕ → Bool
all_runs text place = list_all (is_run is_ascii_alphanumeric) (section_pieces text place)

-- the body begins behind the colon of an epoch
begins_behind : (text : List ℕ) (end : ℕ) → end ≡ section_end text 0 → has_epoch text ≡ true
    → end + 1 ≡ body_start text
begins_behind text end end_is epoch =
    ap (λ (n : ℕ). n + 1) (end_is ∙ epoch_end text epoch) ∙ sym (behind_colon text epoch)

pub returns-in_err-first-clause-runs : goal.returns-in_err-first-clause-runs
returns-in_err-first-clause-runs c =
    rw c.from_residual.ensures (sym (bad_first c.args.text.now (sym c.in_err-first.ensures.runs)))

pub returns-in_err-section-clause-runs : goal.returns-in_err-section-clause-runs
returns-in_err-section-clause-runs c = grind (arith, epoch_told, begins_behind)

pub returns-then-epoch : goal.returns-then-epoch
returns-then-epoch c =
    let text = c.args.text.now in
    let first = c.in_ok-first.ensures in
    let section = c.in_ok-section.ensures in
    let epoch = epoch_told text _ first.dots first.digits first.end first.next c.if-epoch.true in
    let begins_at = begins_behind text _ first.end epoch in
    let numeral = first.chunks ∙ epoch_chunk text epoch ∙ numeral_epoch text epoch in
    let rest = section.chunks
    ∙ ap (λ (place : ℕ). list_all (is_chunk is_ascii_alphanumeric) (section_pieces text place))
    begins_at in
    record {
      start = begins_at;
      end = section.end ∙ ap (section_end text) begins_at ∙ body_end-section text;
      within = grind (arith, common_steps);
      next = section.next;
      chunks = rw (numeral, rest) refl;
      three_numbers = not_three text epoch;
      runs = section.runs ∙ ap (all_runs text) begins_at;
    }

pub returns : goal.returns
returns c =
    let text = c.args.text.now in
    let first = c.in_ok-first.ensures in
    let epoch = epoch_told text _ first.dots first.digits first.end first.next c.if-epoch.false in
    let three = three_by_dots c.in_ok-first.first.dots _ first.dots in
    record {
      start = no_epoch text epoch;
      end = first.end ∙ first_end text epoch;
      within = grind (arith, common_steps);
      next = first.next;
      chunks = first.chunks ∙ first_chunks text epoch;
      three_numbers = rw (three, first.digits) (first_numbers text epoch);
      runs = sym (first_runs text epoch (sym first.runs));
    }
