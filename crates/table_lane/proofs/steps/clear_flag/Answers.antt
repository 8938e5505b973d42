use Rattle.std.proofs.Common.{length, ◌≡◌, ℕ, ◌%◌, sym, ap, ◌∙◌, subst}
use Rattle.table_lane.specs.Rule.{Sitter}
use Rattle.table_lane.specs.declared.parts.LaneView.{LaneView}
use Rattle.table_lane.specs.Views.{HasRecv, the_recv}
use Rattle.atomic_table.specs.Table.{rest}
use Rattle.table_lane.proofs.Facade.{clears_flag_allowed}
use Rattle.table_lane.proofs.WordsInTable.{flag_stands}
use Rattle.table_lane.proofs.steps.clear_flag.Goals as goal

pub store-requires : goal.store-requires
store-requires c =
    let t = c.requires.table.1 in
    let at = c.requires.position in
    let word = flag_stands _ t at.2 c.flag_word.ensures in
    let swapped = c.exchange-frame.ensures in
    let view : c.exchange-frame.new.seat.me.0 ≡ c.args.seat.now.me.0 = ap (λ (m : Sitter). m.0) swapped.3 in (
      swapped.0 ∙ c.requires.table.0,
      word.0,
      clears_flag_allowed _ _ _ _ _ at.0 _ (rest c.args.seat.now.me.1) word.1 (at.1 ∙ ap (λ (v : LaneView). length (the_recv v).got) (sym view)) (ap (λ (m : Sitter). m.1) swapped.3)
          (c.posted_word.ensures ∙ at.2 ∙ ap (λ (N : ℕ). at.0 % N) (sym t.key)) (subst (λ (v : LaneView). HasRecv v) (sym view) c.requires.part.0) (ap (λ (v : LaneView). (the_recv v).phase) view ∙ c.requires.part.1),
    )
