-- The worked figures, by computation. Assumes nothing.
use Rattle.std.proofs.Common.{refl}
use Rattle.kinds.specs.Bytes.{byte_product, multiplied, reduced}
use Rattle.std.specs.Fmt.{digits}
use Rattle.figures.specs.Worked.{WorkedFigures}

pub worked : WorkedFigures
unfolding byte_product multiplied reduced digits
worked = record {
  shares = refl;
  weights_of_three = refl;
  weights_of_five = refl;
  letters = refl;
  product = refl;
  total = refl;
  paired = refl;
  first_shares = refl;
  second_shares = refl;
  first_letters = refl;
  second_letters = refl;
  second_product = refl;
  written = refl;
  byte_product = refl;
  byte_inverse = refl;
  byte_shares = refl;
  wide_square = refl;
  wide_reciprocal = refl;
  rebuilds = refl;
  no_fit = refl;
  no_fit_number = refl;
  set_stands = (refl, refl);
  set_refused = (refl, refl, refl);
  figure_bound = (refl, refl, refl);
  line_bound = (refl, refl, refl);
}
