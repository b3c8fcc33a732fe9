use Rattle.version_schemes.proofs.lemmas.Table.{compare_by_keys, found, keys_some, keys_within, nothing_viable}
use Rattle.version_schemes.proofs.lemmas.Any.{any_total, mixed_orders, texts_by_words}
use Rattle.version_schemes.proofs.laws.schemes.Goals as goal

pub returns : goal.returns
returns c = record {
  orders = compare_by_keys;
  names = found;
  keys = keys_some;
  bounds = keys_within;
  nothing = nothing_viable;
  total = any_total;
  words = texts_by_words;
  mixed = mixed_orders;
}
