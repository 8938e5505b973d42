-- Doorbells, scratchpads and what is shown.
use Rattle.std.proofs.Common.{ℕ, List, refl}
use Rattle.step_kinds.specs.declared.names.Side.{Side}
use Rattle.step_kinds.specs.declared.names.Side.TheVariants.{A, B}
use Rattle.step_kinds.specs.declared.plan.DevPlan.{DevPlan}
use Rattle.step_kinds.specs.declared.plan.PairPlan.{PairPlan}
use Rattle.step_kinds.specs.declared.steps.Step.TheVariants.{Irq, Mask, Unmask, ShowPad}
use Rattle.pair_model.specs.Both.{Both}
use Rattle.ledger_model.specs.Registers.{irq_step, mask_step, unmask_step, show_pad_step}
use Rattle.ledger_model.specs.Memory.{Site}
use Rattle.fabric_rule.specs.InPlace.{LinkInPlace}
use Rattle.fabric_rule.specs.Parts.{QueuePart}
use Rattle.fabric_rule.proofs.Follows.{AllSides, Follows, by_side, state_for}
use Rattle.fabric_rule.specs.Moves.{move_of}

module _ (devs : List DevPlan) (plan : PairPlan) (k : ℕ) (site : Site) (pages : Both (List ℕ)) (spare : Both ℕ) (queues : Both (List QueuePart))
    (link : LinkInPlace site.pair.link) (sides : AllSides devs plan k site.pair queues) where
  pub irq_follows : (p : ℕ) (side : Side) → Follows devs plan k site (Irq p side) (irq_step site.pair side) (move_of devs (state_for plan site pages spare queues) (Irq p side))
  irq_follows p A = (refl, record { bridge = refl; link = link; sides = by_side _ (sides A) (sides B) })
  irq_follows p B = (refl, record { bridge = refl; link = link; sides = by_side _ (sides A) (sides B) })

  pub mask_follows : (p : ℕ) (side : Side) (bits : ℕ) → Follows devs plan k site (Mask p side bits) (mask_step site.pair side bits) (move_of devs (state_for plan site pages spare queues) (Mask p side bits))
  mask_follows p A bits = (refl, record { bridge = refl; link = link; sides = by_side _ (sides A) (sides B) })
  mask_follows p B bits = (refl, record { bridge = refl; link = link; sides = by_side _ (sides A) (sides B) })

  pub unmask_follows : (p : ℕ) (side : Side) (bits : ℕ) → Follows devs plan k site (Unmask p side bits) (unmask_step site.pair side bits) (move_of devs (state_for plan site pages spare queues) (Unmask p side bits))
  unmask_follows p A bits = (refl, record { bridge = refl; link = link; sides = by_side _ (sides A) (sides B) })
  unmask_follows p B bits = (refl, record { bridge = refl; link = link; sides = by_side _ (sides A) (sides B) })

  pub show_pad_follows : (p : ℕ) (side : Side) (i : ℕ) → Follows devs plan k site (ShowPad p side i) (show_pad_step site.pair side i) (move_of devs (state_for plan site pages spare queues) (ShowPad p side i))
  show_pad_follows p A i = (refl, record { bridge = refl; link = link; sides = by_side _ (sides A) (sides B) })
  show_pad_follows p B i = (refl, record { bridge = refl; link = link; sides = by_side _ (sides A) (sides B) })
