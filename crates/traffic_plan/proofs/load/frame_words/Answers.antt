use Rattle.std.proofs.Common.{◌∙◌, ap}
use Rattle.traffic_plan.specs.Load.{state_past, load_word_at}
use Rattle.traffic_plan.proofs.load.frame_words.Goals as goal

pub returns-clause-first : goal.returns-clause-first
unfolding load_word_at
returns-clause-first c = ap (λ p. p.0) c.next_word-word.ensures

pub returns-clause-second : goal.returns-clause-second
unfolding load_word_at state_past
returns-clause-second c = ap (λ p. p.0) c.next_word.ensures ∙ ap load_word_at (ap (λ p. p.1) c.next_word-word.ensures)

pub returns-clause-state : goal.returns-clause-state
unfolding state_past
returns-clause-state c = ap (λ p. p.1) c.next_word.ensures ∙ ap state_past (ap (λ p. p.1) c.next_word-word.ensures)
