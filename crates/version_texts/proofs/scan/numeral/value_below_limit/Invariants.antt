use Rattle.std.proofs.Common.{◌≡◌, ◌<◌, ◌^◌, take}
use Rattle.std.specs.Str.Parse.{digits_value}
use Rattle.version_texts.proofs.scan.numeral.value_below_limit.Given as goal

-- the value of the digits so far, which fits
abbrev pub invariant-loop-digit : goal.invariant-loop-digit
invariant-loop-digit l = record {
  value_is : l.value ≡ digits_value 10 (take l.digit-index l.digits);
  fits : l.value < 2 ^ 32;
}
