-- Lemmas of other crates by names that an attribute can write.
use Rattle.version_order.proofs.lemmas.Front.{take_while-all, list_all-take_while}
use Rattle.std.proofs.lemmas.{Bool.eq-eqb, Bool.lt-ltb, List.length-take-le}
use Rattle.std.proofs.Common.{append-nil, length-append}

pub ruleset all_taken = (take_while-all)

pub ruleset taken_pass = (list_all-take_while)

pub ruleset append_nil = (append-nil)

pub ruleset length_append = (length-append)

pub ruleset length_taken = (length-take-le)

pub ruleset same_told = (eq-eqb)

pub ruleset less_told = (lt-ltb)
