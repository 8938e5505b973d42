-- What holds of every Ethernet frame.
use Rattle.std.specs.Prelude.{◌≡◌, ℕ, ◌^◌, ◌<◌, List, length}
use Rattle.pair_model.specs.Ethernet.{ethernet_frame}

-- a frame's addresses have six bytes each, and its kind fits in two
abbrev pub FitsHeader : List ℕ → List ℕ → ℕ → Type 0
FitsHeader dst src kind = (length dst ≡ 6) × (length src ≡ 6) × (kind < 2 ^ 16)

-- a frame says its parts: two frames with the same bytes have the same parts, which fit a header
abbrev pub FrameSaysItsParts : Type 0
FrameSaysItsParts = (dst dst' src src' : List ℕ) (kind kind' : ℕ) (payload payload' : List ℕ) → FitsHeader dst src kind → FitsHeader dst' src' kind' → ethernet_frame dst src kind payload ≡ ethernet_frame dst' src' kind' payload' → (dst ≡ dst') × (src ≡ src') × (kind ≡ kind') × (payload ≡ payload')
