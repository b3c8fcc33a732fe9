use Rattle.std.proofs.Common.{◌∙◌, ◌≡◌}
use Rattle.std.specs.{Hash.fed_along, List.fold}
use Rattle.version_parts.specs.{MChunk.mchunk_fed, MChunk.plain_mchunk, Sep.plain_sep}
use Rattle.version_parts.proofs.lemmas.Lists.{fed_plain}
use Rattle.versions.specs.{Mess.plain_mess, Mess.section_fed, declared.mess.Mess.TheViews.out-Mess}
use Rattle.versions.proofs.lemmas.Mess.{ends, first_is, goes_on, fed_behind, fed_further, fed_next}
use Rattle.std.specs.Hash as fed
use Rattle.versions.proofs.mess.MessHash.hash.Goals as goal

pub loop-current-init : goal.loop-current-init
loop-current-init g c =
    let write = g.H.Hasher.write in
    let m = c.args.self.now in
    let first : c.hash.new.state ≡ fold write c.args.state.now (section_fed (plain_mess m).first) =
    rw (first_is m)
    (fed_along write c.args.state.now c.hash.new.state
    (fed_plain plain_mchunk mchunk_fed (out-Mess m).chunks.items) c.hash.ensures) in
    fed_behind write c.args.state.now c.hash.new.state (section_fed (plain_mess m).first) _ first

pub loop-current-preserved : goal.loop-current-preserved
loop-current-preserved g c =
    let write = g.H.Hasher.write in
    let section = c.in-Some.section.value in
    let here : c.deref.result.now ≡ section = c.deref.ensures in
    let next : c.deref-current.result.now ≡ section = c.deref-current.ensures in
    let chunks : c.hash-in-Some-2.new.state
    ≡ fold write c.hash-in-Some.new.state (section_fed (plain_mess section).first) =
    rw (← here) (rw (first_is c.deref.result.now)
    (fed_along write c.hash-in-Some.new.state c.hash-in-Some-2.new.state
    (fed_plain plain_mchunk mchunk_fed (out-Mess c.deref.result.now).chunks.items)
    c.hash-in-Some-2.ensures)) in
    let one = fed_further write c.loop-current.state c.write_u8.new.self c.hash-in-Some.new.state
    c.hash-in-Some-2.new.state (plain_sep c.in-Some.sign) (plain_mess section).first
    c.write_u8.ensures c.hash-in-Some.ensures chunks in
    let left = rw (goes_on c.loop-current.current.now c.in-Some.sign c.in-Some.section
    c.in-Some.is) at c.loop-current.invariant in
    rw next (fed_next write c.loop-current.state c.hash-in-Some-2.new.state
    (plain_sep c.in-Some.sign, (plain_mess section).first) (plain_mess section).more
    (fed.u8 0) one ∙ left)

pub returns : goal.returns
returns g c =
    c.write_u8-2.ensures
    ∙ rw (ends c.loop-current.current.now c.in_default.is) at c.loop-current.invariant
