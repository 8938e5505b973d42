use Rattle.std.proofs.Common.{◌<◌, [], ◌∷◌, refl, lit<}
use Rattle.std.specs.Fmt.{digits}
use Rattle.std.proofs.lemmas.List.Elements.{All-cons, All-nil}
use Rattle.ledger_model.specs.Examples.{letter}
use Rattle.step_kinds.specs.declared.names.Side.TheVariants.{A}
use Rattle.step_kinds.specs.declared.steps.Step.TheVariants.{Begin, Post, ShowQueue}
use Rattle.explore_model.specs.Examples.{NoOtherLands, in_flight, landed, landing, plan, script}
use Rattle.explore_model.specs.Outcomes.{IsOutcome}
use Rattle.ledger_model.specs.NetworkLog.{answer_after}
use Rattle.explore_model.specs.Schedules.{begun, lands, goes_on, landing_step}
use Rattle.explore_model.specs.declared.outcome.Landing.{Landing}
use Rattle.explore_model.proofs.examples.examples_hold.Goals as goal

abbrev is_before : Landing → Type 0
is_before landing = landing.at < 3

landed_is : IsOutcome plan script landed
unfolding answer_after digits
landed_is =
    record {
      made = Begin 0 A 0 letter ∷ Post 0 A 0 ∷ landing_step landing ∷ ShowQueue 0 A 0 ∷ [];
      run = goes_on (ShowQueue 0 A 0) (lands landing (goes_on (Post 0 A 0) (goes_on (Begin 0 A 0 letter) begun)) refl (record { pair = lit< tt; place = lit< tt }) refl);
      before = All-cons is_before landing [] (lit< {m = 2} {n = 3} tt) (All-nil is_before);
    }

in_flight_is : IsOutcome plan script in_flight
unfolding answer_after digits
in_flight_is =
    record {
      made = script;
      run = goes_on (ShowQueue 0 A 0) (goes_on (Post 0 A 0) (goes_on (Begin 0 A 0 letter) begun));
      before = All-nil _;
    }

no_other : NoOtherLands
unfolding answer_after digits
no_other = record { early = refl; late = refl }

pub returns : goal.returns
unfolding digits
returns c = (record { landed_first = landed_is; in_flight_then = in_flight_is; order = refl }, no_other, refl, refl)
