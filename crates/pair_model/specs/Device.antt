-- A network device on one queue, after the way in which `ntb_netdev` works. It has Ethernet frames in a ring, and a
-- queue that is stopped where the ring runs full and started again where there is room.
use Rattle.std.specs.Prelude.{ℕ, ◌+◌, Bool, ◌&&◌, ◌||◌, nat_lt, if◌then◌else◌}
use Rattle.step_kinds.specs.declared.plan.Counters.{Counters}
use Rattle.pair_model.specs.Ethernet.{ethernet_header}

-- when a device stops and when it goes on, in free entries of its ring
pub record Flow : Type 0 where
  pub stop : ℕ
  pub start : ℕ
  pub stopped : Bool

-- whether it is stopped after a frame was accepted that left this many entries free
abbrev pub stopped_after_send : Flow → ℕ → Bool
stopped_after_send flow free = flow.stopped || nat_lt free flow.stop

-- whether a try to go on is refused where this many entries are free
abbrev pub stays_stopped : Flow → ℕ → Bool
stays_stopped flow free = flow.stopped && nat_lt free flow.start

abbrev pub no_counts : Counters
no_counts = record { tx = 0; tx_bytes = 0; refused = 0; rx = 0; rx_bytes = 0; short = 0 }

-- a frame of this many bytes was accepted
abbrev pub count_accepted : Counters → ℕ → Counters
count_accepted c len = record { tx = c.tx + 1; tx_bytes = c.tx_bytes + len; refused = c.refused; rx = c.rx; rx_bytes = c.rx_bytes; short = c.short }

-- a frame was refused
abbrev pub count_refused : Counters → Counters
count_refused c = record { tx = c.tx; tx_bytes = c.tx_bytes; refused = c.refused + 1; rx = c.rx; rx_bytes = c.rx_bytes; short = c.short }

-- a frame of this many bytes was delivered
abbrev pub count_delivered : Counters → ℕ → Counters
count_delivered c len =
    if nat_lt len ethernet_header
    then record { tx = c.tx; tx_bytes = c.tx_bytes; refused = c.refused; rx = c.rx; rx_bytes = c.rx_bytes; short = c.short + 1 }
    else record { tx = c.tx; tx_bytes = c.tx_bytes; refused = c.refused; rx = c.rx + 1; rx_bytes = c.rx_bytes + len; short = c.short }
