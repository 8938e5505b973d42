-- The words of an entry, by its position, are words of its lane's table.
use Rattle.std.proofs.Common.{◌≡◌, ℕ, ◌+◌, ◌*◌, ◌%◌, ◌<◌, sym, ap, ◌∙◌, arith}
use Rattle.atomic_table.specs.Seated.{TableId}
use Rattle.table_lane.specs.Words.{spacing, posted_word, header_word, flag_word}
use Rattle.table_lane.specs.Table.{IsTableOf}
use Rattle.table_lane.proofs.Positions.{position_below}

module _ {N about i position : ℕ} {id : TableId} (n : ℕ) (table : IsTableOf N id about) (at : position ≡ n % N) where
  pub posted_stands : i ≡ position → (i < id.words) × (i ≡ posted_word about n)
  posted_stands is = (omega (arith, table.words, position_below N n position table.two at), is ∙ at ∙ ap (λ j. posted_word j n) (sym table.key))

  pub header_stands : i ≡ N + spacing + position → (i < id.words) × (i ≡ header_word about n)
  header_stands is = (omega (arith, table.words, position_below N n position table.two at), is ∙ ap (λ p. N + spacing + p) at ∙ ap (λ j. header_word j n) (sym table.key))

  pub flag_stands : i ≡ 2 * (N + spacing) + position → (i < id.words) × (i ≡ flag_word about n)
  flag_stands is = (omega (arith, table.words, position_below N n position table.two at), is ∙ ap (λ p. 2 * (N + spacing) + p) at ∙ ap (λ j. flag_word j n) (sym table.key))
