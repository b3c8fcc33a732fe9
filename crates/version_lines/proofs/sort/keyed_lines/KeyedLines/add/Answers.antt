use Rattle.std.proofs.Common.{◌≡◌, ◌++◌, ◌∷◌, [], ℕ, List, refl, Some, ap, sym, subst, ◌∙◌}
use Rattle.std.specs.List.{All}
use Rattle.std.proofs.lemmas.List.Elements.{All-push, All-same, All-weaker}
use Rattle.version_lines.specs.{Entry.entry_line, Entry.IsRead, Sort.version_in, declared.sort.entry.Entry.Entry}
use Rattle.version_lines.proofs.lemmas.KeyedLines.{stay_read, in_turn-added, read-more}
use Rattle.version_schemes.specs.any.AnyVersion.{plain_any}
use Rattle.version_lines.proofs.sort.keyed_lines.KeyedLines.add.Goals as goal

pub returns-in_err-reserve-clause-read : goal.returns-in_err-reserve-clause-read
returns-in_err-reserve-clause-read g c =
    stay_read g.B.SortBy.reads c.args.self.now _ refl refl c.reserve.ensures.items
    c.requires.read

pub returns-in_err-entry-clause-read : goal.returns-in_err-entry-clause-read
returns-in_err-entry-clause-read g c =
    stay_read g.B.SortBy.reads c.args.self.now _ refl c.in_err-entry.ensures.err
    c.reserve.ensures.items c.requires.read

pub returns-clause-read : goal.returns-clause-read
returns-clause-read g c =
    let lines = c.args.self.now in
    let reads = g.B.SortBy.reads lines.by in
    let v = plain_any c.args.version.now in
    let keys = lines.keys.items in
    let after = c.read.new.keys.items in
    let entries = lines.entries.items in
    let entry = c.in_ok-entry.entry in
    let spells : version_in reads (entry_line entry) ≡ Some v =
    ap (λ (l : List ℕ). version_in reads l) c.in_ok-entry.ensures.line
    ∙ c.requires.version in
    let pushed : c.push_reserved.new.self.items ≡ entries ++ entry ∷ [] =
    c.push_reserved.ensures.items
    ∙ ap (λ (l : List Entry). l ++ entry ∷ []) c.reserve.ensures.items in
    let it : IsRead reads after entry = (v, spells, c.in_ok-entry.ensures.key) in
    let kept : All (IsRead reads after) entries =
    subst (λ (ks : List ℕ). All (IsRead reads ks) entries) (sym c.in_ok-entry.ensures.keys)
    (All-weaker (IsRead reads keys) (IsRead reads (keys ++ v.key))
    (read-more reads keys v.key) entries c.requires.read.read) in
    record {
      read = All-same (IsRead reads after) _ _ pushed
          (All-push (IsRead reads after) entries entry kept it);
      in_turn = in_turn-added reads _ entries entry keys c.requires.read.in_turn
          c.requires.read.read c.in_ok-entry.ensures.last pushed;
    }
