use Rattle.std.proofs.Common.{◌≡◌, length, map}
use Rattle.std.specs.{List.list_any, Str.str_eq_ignore_ascii_case}
use Rattle.version_schemes.specs.Scheme.{rules}
use Rattle.version_schemes.proofs.scheme.Scheme.is_named.Given as goal

abbrev pub invariant-loop-left : goal.invariant-loop-left
invariant-loop-left l =
    list_any (λ name. str_eq_ignore_ascii_case name l.text) (map (λ alias. alias.now) l.left)
    ≡ list_any (λ name. str_eq_ignore_ascii_case name l.text) (rules l.fn.self).facts.aliases

abbrev pub decreases-loop-left : goal.decreases-loop-left
decreases-loop-left l = length l.left
