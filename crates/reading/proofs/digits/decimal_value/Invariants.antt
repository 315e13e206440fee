use Rattle.std.proofs.Common.{◌≡◌, ◌^◌, ◌<◌, drop}
use Rattle.reading.specs.Forms.{all, is_digit, decimal, value_of}
use Rattle.reading.proofs.digits.decimal_value.Given as goal

abbrev pub invariant-loop-b : goal.invariant-loop-b
invariant-loop-b l = record {
  whole : decimal l.value (drop l.b-index l.digits) ≡ value_of l.digits;
  digits : all is_digit (drop l.b-index l.digits) ≡ all is_digit l.digits;
  fits : l.value < 2 ^ 32;
}
