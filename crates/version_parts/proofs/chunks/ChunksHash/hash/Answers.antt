use Rattle.std.specs.Hash.{fed_along}
use Rattle.version_parts.specs.Chunk.{chunk_fed, plain_chunk}
use Rattle.version_parts.proofs.lemmas.Lists.{fed_plain}
use Rattle.version_parts.proofs.chunks.ChunksHash.hash.Goals as goal

pub returns : goal.returns
returns g c =
    fed_along _ _ _ (fed_plain plain_chunk chunk_fed c.args.self.now.0.items) c.hash.ensures
