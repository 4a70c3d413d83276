use Rattle.std.proofs.Common.{◌-◌, ◌≡◌, ◌≤◌, length, take, true}
use Rattle.std.specs.Str.{all_ascii_digits}
use Rattle.std.specs.Str.Parse.{digits_value}
use Rattle.xb_rows.proofs.plain.leading_number.Given as goal

abbrev pub invariant-loop-count : goal.invariant-loop-count
invariant-loop-count l = record {
  few : l.count ≤ l.most;
  within : l.count ≤ length l.text;
  digits : all_ascii_digits (take l.count l.text) ≡ true;
  value : l.number ≡ digits_value 10 (take l.count l.text);
}

abbrev pub decreases-loop-count : goal.decreases-loop-count
decreases-loop-count l = l.most - l.count
