-- The worked keys, by computation.
use Rattle.std.proofs.Common.{arith}
use Rattle.std.specs.Fmt.{digits}
use Rattle.version_rules.specs.grammar.{Body.body_front, Chunk.chunk_front_of, Chunk.unsigned_front, Last.numbered_last, MChunk.mchunk_front, MChunk.variant_of, Mess.further_front, Mess.mess_front, Mess.mess_of}
use Rattle.version_rules.specs.{grammar.SemVer.semver_front, grammar.SemVer.semver_of, grammar.Version.epoch_front, grammar.Version.version_front, grammar.Version.version_of, requirement.Requirement.op_front}
use Rattle.version_rules.specs.worked.{Keys.WorkedKeys, Keys.WorkedBytes, Keys.WorkedOrder, Ranges.WorkedRanges}
use Rattle.version_order.specs.texts.Front.{dotted_front, optional, repeated, run_front}

pub worked_keys : WorkedKeys
unfolding digits
worked_keys = grind arith

-- ---- the worked bytes and orders, by computation

pub worked_bytes : WorkedBytes
worked_bytes = grind arith

pub worked_order : WorkedOrder
worked_order = grind arith

-- ---- the worked ranges, by computation

pub worked_ranges : WorkedRanges
unfolding digits body_front chunk_front_of dotted_front optional repeated run_front numbered_last
    mchunk_front variant_of unsigned_front further_front mess_front mess_of op_front semver_front
    semver_of epoch_front version_front version_of
worked_ranges = grind arith
