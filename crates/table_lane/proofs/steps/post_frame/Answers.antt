use Rattle.std.proofs.Common.{length, ◌^◌, ◌≡◌, ℕ, ◌<◌, sym, ap, ◌∙◌, subst}
use Rattle.table_lane.specs.Words.{posted_word, table_header_of}
use Rattle.table_lane.specs.Rule.{Sitter}
use Rattle.table_lane.specs.declared.parts.LaneView.{LaneView}
use Rattle.table_lane.specs.Views.{HasSend, the_send}
use Rattle.atomic_table.specs.Table.{rest}
use Rattle.table_lane.proofs.Facade.{stores_posted_allowed}
use Rattle.table_lane.proofs.WordsInTable.{posted_stands}
use Rattle.table_lane.proofs.steps.post_frame.Goals as goal

pub store-requires : goal.store-requires
store-requires c =
    let t = c.requires.table.1 in
    let swapped = c.exchange-empty.ensures in
    let view : c.exchange-empty.new.seat.me.0 ≡ c.args.seat.now.me.0 = ap (λ (m : Sitter). m.0) swapped.3 in
    let n : c.args.n ≡ length (the_send c.exchange-empty.new.seat.me.0).sent = c.requires.part.2 ∙ ap (λ (v : LaneView). length (the_send v).sent) (sym view) in
    let word = posted_stands _ t c.requires.slot.0 c.posted_word-slot.ensures in
    let at = word.1 ∙ ap (posted_word c.args.table.now.key) n in (
      swapped.0 ∙ c.requires.table.0,
      word.0,
      stores_posted_allowed _ _ _ _ _ _ c.args.frame _ (rest c.args.seat.now.me.1) at (c.header_of.ensures ∙ ap table_header_of n) (ap (λ (m : Sitter). m.1) swapped.3)
          at c.requires.frame (subst (λ (k : ℕ). k < 2 ^ 62) n c.requires.part.3)
          (subst (λ (v : LaneView). HasSend v) (sym view) c.requires.part.0) (ap (λ (v : LaneView). (the_send v).claims) view ∙ c.requires.part.1),
    )
