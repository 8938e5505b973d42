use Rattle.std.proofs.Common.{refl}
use Rattle.traffic_plan.specs.Load.{state_past, load_word_at}
use Rattle.traffic_plan.proofs.examples.examples_hold.Goals as goal

pub returns : goal.returns
unfolding load_word_at state_past
returns c = record {
  words_of_seed_one = (refl, refl, refl, refl, refl, refl);
  frames_of_words = (refl, refl, refl, refl);
  places_of_words = (refl, refl, refl);
  steps_of_a_frame = (refl, refl);
}
