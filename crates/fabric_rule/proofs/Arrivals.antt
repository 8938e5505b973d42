-- What comes to a side of a pair that stands: bytes into its memory, a bit of its doorbell, a scratchpad's value, and
-- what neither end of a lane sees.
use Rattle.std.proofs.Common.{◌≡◌, ℕ, refl, List, [], ◌∷◌, ◌++◌, sym, ap, ◌∙◌}
use Rattle.std.specs.Prelude.{if◌then◌else◌, slice_set}
use Rattle.step_kinds.specs.Sides.{same_side}
use Rattle.step_kinds.specs.Bits.{with_bit}
use Rattle.step_kinds.specs.declared.names.Side.{Side}
use Rattle.step_kinds.specs.declared.names.Side.TheVariants.{A, B}
use Rattle.step_kinds.specs.declared.plan.DevPlan.{DevPlan}
use Rattle.step_kinds.specs.declared.plan.PairPlan.{PairPlan}
use Rattle.lane_model.specs.Lane.{Entry}
use Rattle.pair_model.specs.Both.{Both, at_side}
use Rattle.pair_model.specs.Stores.{Store, bytes_in}
use Rattle.ledger_model.specs.Ledger.{LanePart, lane_of, side_of, with_lane, with_side_part}
use Rattle.ledger_model.specs.Memory.{Site}
use Rattle.plan_numbers.specs.Memories.{memory_size}
use Rattle.bridge_pair.specs.Bridge.{Bridge, bells_of, bridge_bytes_of, pads_of, with_bells, with_bytes, with_memory, with_pads}
use Rattle.bridge_regs.specs.Doorbell.{with_pending}
use Rattle.host_memory.specs.Memory.{written}
use Rattle.fabric_rule.specs.InPlace.{SendingEnd, fabric_receiver_of, fabric_sender_of}
use Rattle.fabric_rule.specs.Parts.{PairState, plain_bridge, queues_of, with_bridge}
use Rattle.fabric_rule.specs.StandsFor.{PairStands, SideStandsIn, bridge_for, bridge_with, sent_of, view_of}
use Rattle.fabric_rule.proofs.Follows.{by_side, updated_same}
use Rattle.fabric_rule.proofs.Queues.{sent_kept, side_same}
use Rattle.fabric_rule.proofs.StoredBytes.{IsInside, one_stored}

module _ {devs : List DevPlan} {plan : PairPlan} {k : ℕ} {site : Site} {state : PairState} (stands : PairStands devs plan k site state) where
  -- the stores with these before a side's
  abbrev stores_with : Side → List Store → Both (List Store)
  stores_with side stores = record { a = (if same_side A side then stores else []) ++ site.stores.a; b = (if same_side B side then stores else []) ++ site.stores.b }

  -- the bridge with other bytes in a side's memory
  abbrev filled : Bridge → Side → List ℕ → Bridge
  filled bridge side bytes = with_memory bridge side (record { bytes = bytes; promised = [] })

  bridge_filled : (side : Side) (store : Store) → bridge_bytes_of (bridge_for plan site) side ≡ bytes_in (at_side site.stores side) 0 (memory_size plan side) → IsInside (memory_size plan side) store
      → filled (plain_bridge state.bridge) side (written store.at store.bytes (bridge_bytes_of (plain_bridge state.bridge) side)) ≡ filled (bridge_for plan site) side (bytes_in (store ∷ at_side site.stores side) 0 (memory_size plan side))
  bridge_filled side store same inside =
      ap (λ (bridge : Bridge). filled bridge side (written store.at store.bytes (bridge_bytes_of bridge side))) stands.bridge
      ∙ ap (filled (bridge_for plan site) side) (ap (written store.at store.bytes) same ∙ sym (one_stored store (at_side site.stores side) (memory_size plan side) inside))

  pub bytes_come : (side : Side) (store : Store) → IsInside (memory_size plan side) store
      → PairStands devs plan k (record site { stores = stores_with side (store ∷ []) }) (with_bridge state (with_bytes state.bridge side (written store.at store.bytes (bridge_bytes_of state.bridge side))))
  bytes_come A store inside = record { bridge = bridge_filled A store refl inside; link = stands.link; sides = stands.sides }
  bytes_come B store inside = record { bridge = bridge_filled B store refl inside; link = stands.link; sides = stands.sides }

  -- a doorbell and a scratchpad store nothing
  abbrev rung : Bridge → Side → ℕ → Bridge
  rung bridge side bit = with_bells bridge side (with_pending (bells_of bridge side) (with_bit (bells_of bridge side).pending bit))

  pub bell_comes : (side : Side) (bit : ℕ)
      → PairStands devs plan k (record site { pair = with_side_part site.pair side (record (side_of site.pair side) { pending = with_bit (side_of site.pair side).pending bit }); stores = stores_with side [] }) (with_bridge state (rung state.bridge side bit))
  bell_comes A bit = record { bridge = ap (λ (bridge : Bridge). rung bridge A bit) stands.bridge; link = stands.link; sides = by_side _ (stands.sides A) (stands.sides B) }
  bell_comes B bit = record { bridge = ap (λ (bridge : Bridge). rung bridge B bit) stands.bridge; link = stands.link; sides = by_side _ (stands.sides A) (stands.sides B) }

  abbrev padded : Bridge → Side → ℕ → ℕ → Bridge
  padded bridge side i value = with_pads bridge side (slice_set (pads_of bridge side) i value)

  pub pad_comes : (side : Side) (i value : ℕ)
      → PairStands devs plan k (record site { pair = with_side_part site.pair side (record (side_of site.pair side) { pads = slice_set (side_of site.pair side).pads i value }); stores = stores_with side [] }) (with_bridge state (padded state.bridge side i value))
  pad_comes A i value = record { bridge = ap (λ (bridge : Bridge). padded bridge A i value) stands.bridge; link = stands.link; sides = by_side _ (stands.sides A) (stands.sides B) }
  pad_comes B i value = record { bridge = ap (λ (bridge : Bridge). padded bridge B i value) stands.bridge; link = stands.link; sides = by_side _ (stands.sides A) (stands.sides B) }

  -- a lane that a side sees as it was
  sees : (side from : Side) (queue : ℕ) (lane : LanePart) → ((other : ℕ) → view_of (with_lane site.pair from queue lane) side other ≡ view_of site.pair side other) → SideStandsIn devs plan k (with_lane site.pair from queue lane) side (queues_of state side)
  sees side from queue lane same = side_same devs plan k side _ _ _ _ _ (view_of site.pair side) _ (queues_of state side) same (stands.sides side)

  -- one that both its ends see so
  pub unseen : (from : Side) (queue : ℕ) (lane : LanePart) → fabric_sender_of lane ≡ fabric_sender_of (lane_of site.pair from queue) → fabric_receiver_of lane ≡ fabric_receiver_of (lane_of site.pair from queue)
      → PairStands devs plan k (record site { pair = with_lane site.pair from queue lane }) state
  unseen A queue lane sends receives =
      record {
        bridge = stands.bridge ∙ ap (λ (sent : ℕ → List Entry). bridge_with plan site.pair.link site.pair.sides (record { a = sent; b = sent_of site.pair.lanes.b }) site.stores) (sym (sent_kept site.pair.lanes.a queue lane (ap (λ (s : SendingEnd). s.sent) sends)));
        link = stands.link;
        sides = by_side _ (sees A A queue lane (λ other. ap (λ s. record (view_of site.pair A other) { sends = s }) (updated_same fabric_sender_of site.pair.lanes.a queue lane sends other)))
            (sees B A queue lane (λ other. ap (λ r. record (view_of site.pair B other) { receives = r }) (updated_same fabric_receiver_of site.pair.lanes.a queue lane receives other)));
      }
  unseen B queue lane sends receives =
      record {
        bridge = stands.bridge ∙ ap (λ (sent : ℕ → List Entry). bridge_with plan site.pair.link site.pair.sides (record { a = sent_of site.pair.lanes.a; b = sent }) site.stores) (sym (sent_kept site.pair.lanes.b queue lane (ap (λ (s : SendingEnd). s.sent) sends)));
        link = stands.link;
        sides = by_side _ (sees A B queue lane (λ other. ap (λ r. record (view_of site.pair A other) { receives = r }) (updated_same fabric_receiver_of site.pair.lanes.b queue lane receives other)))
            (sees B B queue lane (λ other. ap (λ s. record (view_of site.pair B other) { sends = s }) (updated_same fabric_sender_of site.pair.lanes.b queue lane sends other)));
      }
