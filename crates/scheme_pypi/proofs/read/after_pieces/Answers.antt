use Rattle.std.proofs.Common.{◌∙◌, sym}
use Rattle.std.specs.Char.{is_ascii_alphanumeric}
use Rattle.scheme_pypi.proofs.lemmas.{Items.by_rest, Items.next_goes, Items.rest-last, Items.rest-more, Pieces.piece_read, Pieces.pieces_read}
use Rattle.scheme_pypi.specs.Texts.{is_separator, piece_front}
use Rattle.scheme_pypi.proofs.read.after_pieces.Goals as goal

pub returns-then-is_empty : goal.returns-then-is_empty
returns-then-is_empty c =
    let so_far = c.pieces.invariant in
    let read = piece_read c.pieces.left.now _ so_far.begins c.split_run.ensures.rest in
    by_rest is_separator is_ascii_alphanumeric piece_front pieces_read c.args.text.now _
    (rest-last is_separator is_ascii_alphanumeric piece_front pieces_read c.pieces.left.now _ _ _ read
    c.next_piece-left.ensures (sym c.if-is_empty.ensures) ∙ so_far.rest)

pub pieces-preserved : goal.pieces-preserved
pieces-preserved c =
    let so_far = c.pieces.invariant in
    let next = c.next_piece-left.ensures in
    let goes = sym c.if-is_empty.ensures in
    let read = piece_read c.pieces.left.now c.split_run.result.1.now so_far.begins c.split_run.ensures.rest in
    record {
      begins = next_goes is_separator is_ascii_alphanumeric c.split_run.result.1.now _ next goes;
      rest = rest-more is_separator is_ascii_alphanumeric piece_front pieces_read c.pieces.left.now _ _ _ read next goes
          ∙ so_far.rest;
    }
