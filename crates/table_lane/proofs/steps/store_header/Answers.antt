use Rattle.std.proofs.Common.{arith, ◌≡◌, ℕ, ◌+◌, ◌-◌, ◌%◌, ◌<◌, sym, ap, ◌∙◌}
use Rattle.table_lane.specs.declared.parts.MovePart.{MovePart}
use Rattle.table_lane.specs.ShownLane.{number_at}
use Rattle.table_lane.specs.Words.{spacing}
use Rattle.table_lane.specs.Rule.{Sitter}
use Rattle.table_lane.specs.Views.{the_move, with_move}
use Rattle.table_lane.specs.Knowledge.{header_stored}
use Rattle.table_lane.proofs.Facade.{number_is, stores_header_allowed}
use Rattle.table_lane.proofs.WordsInTable.{header_stands}
use Rattle.table_lane.proofs.steps.store_header.Goals as goal

pub store-requires : goal.store-requires
store-requires c =
    let word = header_stands _ c.requires.table.1 c.requires.part.2 c.header_word.ensures in
    let held = c.requires.held in (
      c.requires.table.0,
      word.0,
      stores_header_allowed _ _ _ _ _ _ c.args.n word.1 c.header_of.ensures c.requires.part.0 (c.requires.part.1 ∙ sym c.requires.table.1.key) held.0 held.1 held.3,
    )

pub returns-clause-knows : goal.returns-clause-knows
returns-clause-knows c =
    let part : MovePart = the_move c.args.seat.now.me.0 in
    let N : ℕ = c.args.entries in
    let held = c.requires.held in
    let known : part.entries ≡ N = c.requires.part.1 in
    let near : c.args.n < part.flagged + N = omega (arith, held.1, held.2) in
    let word = c.header_word.ensures in
    let at = c.requires.part.2 in
    let position : c.header_word.result - (part.entries + spacing) ≡ c.args.n % N = omega arith in
    c.store.ensures.2
    ∙ ap (λ (n : ℕ). (let me : Sitter = (with_move c.args.seat.now.me.0 (header_stored part n), c.args.seat.now.me.1) in me)) ((λ i. number_at (known i) part.flagged (position i)) ∙ number_is N part.flagged c.args.n held.0 near)
