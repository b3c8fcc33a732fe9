use Rattle.std.proofs.Common.{ℕ, List, ◌≡◌, ◌++◌, arith}
use Rattle.std.specs.{List.take_while, Str.Parse.digits_value}
use Rattle.version_order.specs.{keys.Codes.number_bytes, texts.Bytes.is_section_byte}
use Rattle.version_rules.specs.key.PartKey.{parts_bytes}
use Rattle.version_order.proofs.lemmas.{Front.take_while-all, Sinks.next_fits, Sinks.owes_all, Sinks.owes_rest}
use Rattle.version_texts.specs.{Key.front_bytes, Key.parts_of, Key.text_key, Scan.Fits, Scan.body_in, Scan.epoch_in, declared.scan.shape.Shape.Shape}
use Rattle.version_texts.proofs.key.put_front.Goals as goal

-- the bytes before the tail, from the pieces of the text
in_pieces : (text epoch body : List ℕ) (s : Shape) → Fits text s → epoch ≡ epoch_in text s
    → body ≡ body_in text s
    → front_bytes (text_key text s)
    ≡ number_bytes (digits_value 10 epoch) ++ parts_bytes
    (parts_of (take_while is_section_byte body))
in_pieces text epoch body s fits e b = grind (arith, take_while-all)

pub put_epoch-requires-clause-fits : goal.put_epoch-requires-clause-fits
put_epoch-requires-clause-fits g c = grind (arith, next_fits, owes_all)

pub put_list-requires : goal.put_list-requires
put_list-requires g c = grind (arith, in_pieces, owes_rest, owes_all)

pub returns-clause-bytes : goal.returns-clause-bytes
returns-clause-bytes g c = grind (arith, in_pieces, owes_rest, owes_all)
