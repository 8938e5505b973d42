use Rattle.std.proofs.Common.{◌≡◌, ℕ, ◌%◌, List, ◌∷◌, length, eqb, eq-eqb, true, sym, ap, ◌∙◌, Some}
use Rattle.atomic_table.specs.Table.{rest}
use Rattle.table_lane.specs.Rule.{Sitter, Content}
use Rattle.table_lane.specs.Views.{the_recv}
use Rattle.table_lane.proofs.recv.receive.Goals as goal

pub clear_flag-requires-clause-slot : goal.clear_flag-requires-clause-slot
clear_flag-requires-clause-slot c =
    let hit : eqb c.load_flag.result 1 ≡ true = eq-eqb c.load_flag.result 1 c.if-load_flag-ne-DONE.false in
    let found = rw hit at c.load_flag.ensures.tells.0 in
    let ready = c.requires.part.1 in
    let others : List (ℕ × Content) = c.args.seat.now.me.1 in
    let hand : c.load_header-header.new.seat.me.1 ≡ (c.args.position, Some found.0) ∷ others =
    ap (λ (m : Sitter). m.1) c.load_header-header.ensures.tells.0 ∙ ap (λ (m : Sitter). m.1) found.1 ∙ ap (λ (k : ℕ). (let slots : List (ℕ × Content) = (k, Some found.0) ∷ others in slots)) (ap (λ (N : ℕ). length (the_recv c.args.seat.now.me.0).got % N) ready.of ∙ sym c.requires.position) in
    (Some found.0, hand ∙ ap (λ (slots : List (ℕ × Content)). (c.args.position, Some found.0) ∷ slots) (sym (ap rest hand)))
