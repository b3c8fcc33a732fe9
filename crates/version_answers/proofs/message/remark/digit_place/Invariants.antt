use Rattle.std.proofs.Common.{◌≡◌, ◌+◌, ◌-◌, ◌≤◌, drop, length}
use Rattle.version_answers.specs.Message.{digit_place}
use Rattle.version_answers.proofs.message.remark.digit_place.Given as goal

-- no byte so far is a digit
abbrev pub invariant-loop-place : goal.invariant-loop-place
invariant-loop-place l = record {
  same_place : l.place + digit_place (drop l.place l.text) ≡ digit_place l.text;
  within : l.place ≤ length l.text;
}

abbrev pub decreases-loop-place : goal.decreases-loop-place
decreases-loop-place l = length l.text - l.place
