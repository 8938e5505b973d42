-- What a `Geometry` keeps beside its six numbers.
use Rattle.std.specs.Prelude.{◌≡◌, ℕ}
use Rattle.std.proofs.Common.{sym}
use Rattle.ring_geometry.specs.Geometry.{Layout, layout_with, IsPlaced, area, area_start, frame_size, entries_of}
use Rattle.ring_geometry.specs.declared.Geometry.TheInside.{Inside}

-- the layout whose places the numbers say
abbrev pub geometry_layout_of : Inside → Layout
geometry_layout_of g = layout_with g.window g.windows g.queues g.queue g.mtu g.header

-- the layout is one that a `Geometry` places, and the kept places are the layout's
pub record IsKept (g : Inside) : Type 0 where
  pub placed : IsPlaced (geometry_layout_of g)
  pub area_is : g.area_bytes ≡ area (geometry_layout_of g)
  pub begin_is : g.area_begin ≡ area_start (geometry_layout_of g)
  pub frame_is : g.frame_bytes ≡ frame_size (geometry_layout_of g)
  pub entries_are : g.entries ≡ entries_of (geometry_layout_of g)

-- the kept numbers, from the layout
abbrev pub inside_of : Layout → Inside
inside_of l = record {
  window = l.window;
  windows = l.windows;
  queues = l.queues;
  queue = l.queue;
  mtu = l.mtu;
  header = l.header;
  area_bytes = area l;
  area_begin = area_start l;
  frame_bytes = frame_size l;
  entries = entries_of l;
}

four_the_same : {X : Type 0} (f : ℕ → ℕ → ℕ → ℕ → X) {a b c d a' b' c' d' : ℕ} → a ≡ a' → b ≡ b' → c ≡ c' → d ≡ d' → f a b c d ≡ f a' b' c' d'
four_the_same f p q r s = cc

-- they are the same where they are kept
pub inside_of-layout_of : (g : Inside) → IsKept g → inside_of (geometry_layout_of g) ≡ g
inside_of-layout_of g h =
    four_the_same
    (λ a b c d. record g { area_bytes = a; area_begin = b; frame_bytes = c; entries = d })
    (sym h.area_is) (sym h.begin_is) (sym h.frame_is) (sym h.entries_are)
