use Rattle.std.proofs.Common.{◌≡◌, ◌++◌, List, [], map, drop, rules, sym, ap, ◌∙◌, arith, append-nil, Bor, ℕ}
use Rattle.std.proofs.Math.ListN.{drop_of_length-le}
use Rattle.version_commands.specs.lines.{Arranged.arranged, Arranged.arranged_as, Picked.group_text}
use Rattle.version_runs.specs.Place.{reads_of}
use Rattle.version_lines.specs.Entry.{lines_in}
use Rattle.version_commands.proofs.lines.by_schemes.add_scheme.Goals as goal

pub returns : goal.returns
returns c =
    let (end, so_far) = c.loop-number.invariant in
    let place = c.args.place.now in
    let by = c.in_ok-of_scheme.ensures.by in
    let kept = c.in_ok-of_scheme.ensures.lines in
    let lines = map (λ (l : Bor (List ℕ)). l.now) c.args.lines.now in
    let are : lines_in c.arrange.new.lines ≡ arranged_as place c.args.column c.args.arrangement lines c.args.scheme =
    c.in_ok-arrange.ensures
    ∙ (λ i. arranged (reads_of (by i).place) (group_text place.crlf) c.args.arrangement (kept i)) in
    let none : drop c.loop-number.number (lines_in c.arrange.new.lines) ≡ [] =
    drop_of_length-le (lines_in c.arrange.new.lines) (search (rules, arith, end)) in
    sym (append-nil (map (λ (l : Bor (List ℕ)). l.now) c.loop-number.arranged.items))
    ∙ ap (λ (l : List (List ℕ)). map (λ (l : Bor (List ℕ)). l.now) c.loop-number.arranged.items ++ l) (sym none)
    ∙ so_far ∙ ap (λ (l : List (List ℕ)). map (λ (l : Bor (List ℕ)). l.now) c.args.arranged.now.items ++ l) are
