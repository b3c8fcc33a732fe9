use Rattle.std.proofs.Common.{◌≡◌, false, rules, string_bytes, sym}
use Rattle.version_runs.proofs.faults.BlamedDisplay.fmt.Goals as goal

pub returns-clause-writes : goal.returns-clause-writes
returns-clause-writes g c =
    let bad = c.args.self.now in
    let stays : bad.ends_in_return ≡ false = search rules in
    let text : c.as_str.result.now ≡ string_bytes bad.text = search rules in
    rw (stays, sym text) c.write-2.ensures.writes
