use Rattle.std.proofs.Common.{◌∙◌, ap}
use Rattle.std.specs.List.{position_from}
use Rattle.std.specs.Str.{bytes_eq}
use Rattle.script_words.specs.Before.{number_named}
use Rattle.script_plan.proofs.NameNumbers.{position_from-named, position-named}
use Rattle.script_plan.proofs.names.Names.place.Goals as goal

pub returns-then-len-le-MOST_IN_TURN-clause-value :
    goal.returns-then-len-le-MOST_IN_TURN-clause-value
returns-then-len-le-MOST_IN_TURN-clause-value c =
    let found = c.place_in_turn.ensures.value ∙ ap (position_from (λ k. bytes_eq c.args.name.now k.items) 0) c.as_slice.ensures.keys in
    found ∙ (position_from-named (λ k. k.items) c.args.name.now c.self.inside.names.keys ∙ ap (λ names. number_named names c.args.name.now) c.self.view_is)

pub returns-else-len-le-MOST_IN_TURN-clause-value :
    goal.returns-else-len-le-MOST_IN_TURN-clause-value
returns-else-len-le-MOST_IN_TURN-clause-value c =
    c.get_index_of.ensures.index ∙ (position-named (λ k. k.items) c.args.name.now c.self.inside.names.keys ∙ ap (λ names. number_named names c.args.name.now) c.self.view_is)
