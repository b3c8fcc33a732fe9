-- The messy version that an owned or a scanned value holds, and what a hash is fed of it.
use Rattle.std.specs.Prelude.{◌++◌, List, [], ◌∷◌, Vec, map}
use Rattle.std.specs.{Hash.HashWrites, List.flat_map, Option.option_map_or, declared.alloc.Global.Global}
use Rattle.version_parts.specs.{MChunk.mchunk_fed, MChunk.plain_mchunk, Sep.plain_sep, Sep.sep_fed, declared.mchunk.MChunk.MChunk, declared.sep.Sep.Sep}
use Rattle.versions.specs.declared.mess.{Mess.Mess, Mess.TheFolds.fold-Mess, Mess.TheOpen.Mess-F, MessRef.MessRef}
use Rattle.version_rules.specs.grammar.Mess.{Section, Further, PlainMess, further_in}
use Rattle.std.specs.Hash as fed

-- the section of a list of chunks
abbrev pub plain_section : Vec MChunk Global → Section
plain_section chunks = map plain_mchunk chunks.items

-- the further section of a sign and a list of chunks
abbrev pub plain_further : Sep × Vec MChunk Global → Further
plain_further further = (plain_sep further.0, plain_section further.1)

-- the further sections of a sign and the version after it
abbrev pub behind_sign : Sep → PlainMess → List Further
behind_sign sign m = (plain_sep sign, m.first) ∷ m.more

-- a flat version, from its chunks and from what follows them, flat too
abbrev pub flat_layer : Mess-F PlainMess → PlainMess
flat_layer m =
    record {
      first =
          plain_section m.chunks;
      more =
          option_map_or (λ next. behind_sign next.0 next.1.value) m.next [];
    }

-- the version that a value holds
abbrev pub plain_mess : Mess → PlainMess
plain_mess = fold-Mess PlainMess flat_layer

-- the version that a scanned value holds: its first section, and the further ones that its other
-- text begins with
abbrev pub plain_mess_ref : MessRef → PlainMess
plain_mess_ref p = record { first = p.first; more = further_in p.rest.now }

-- what a hash is fed with for a section: the number of chunks, and each chunk
abbrev pub section_fed : Section → HashWrites
section_fed = fed.slice mchunk_fed

-- for a further section: that it follows, its sign, and its chunks
abbrev pub further_fed : Further → HashWrites
further_fed further = fed.u8 1 ++ (sep_fed further.0 ++ section_fed further.1)

-- for a version: the first section, each further one, and that none follows
abbrev pub mess_fed : PlainMess → HashWrites
mess_fed m = section_fed m.first ++ (flat_map further_fed m.more ++ fed.u8 0)
