use Rattle.std.proofs.Common.{refl}
use Rattle.stream_model.specs.Numbers.{number_frame, number_in}
use Rattle.stream_model.proofs.examples.examples_hold.Goals as goal

pub returns : goal.returns
unfolding number_frame number_in
returns c = record {
  lost = (refl, refl);
  acked = (refl, refl, refl);
  returned = (refl, refl, refl, refl, refl, refl, refl, refl);
  dropped = (refl, refl);
  spoilt = (refl, refl, refl, refl);
}
