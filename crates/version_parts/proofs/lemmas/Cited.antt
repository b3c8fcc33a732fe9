-- What functions cite, where a name can't stand in an attribute.
use Rattle.std.proofs.lemmas.List.Sums.{prefix_len-le-length}
use Rattle.version_order.proofs.lemmas.Front.{list_all-take_while, run_front-empty, run_front-some}

pub ruleset take_run_cites = (prefix_len-le-length, list_all-take_while)

pub ruleset numeral_of_run_cites = (list_all-take_while, run_front-empty, run_front-some)
