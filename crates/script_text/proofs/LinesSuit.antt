-- What a line gives suits the lines so far.
use Rattle.std.proofs.Common.{◌≡◌, ℕ, zero, suc, ◌<◌, ◌≤◌, ◌==◌, true, [], ◌∷◌, length, map, count_by, refl, ◌∙◌, arith}
use Rattle.std.proofs.lemmas.Bool.{eq-eqb}
use Rattle.std.proofs.lemmas.List.Elements.{All-head}
use Rattle.std.specs.List.{All}
use Rattle.step_kinds.specs.Limits.{most_breaks}
use Rattle.step_kinds.specs.declared.names.LaneName.{LaneName}
use Rattle.step_kinds.specs.declared.plan.Traffic.TheVariants.{Send, Break as LinkLoss}
use Rattle.lane_model.specs.Lane.{count_from}
use Rattle.pair_model.specs.Plans.{pair_plan}
use Rattle.pair_model.specs.Sizes.{sizes_of}
use Rattle.pair_model.specs.TrafficPlans.{is_break_of, IsTraffic}
use Rattle.script_words.specs.Before.{Before}
use Rattle.script_words.specs.Compact.{given_of, flood_of}
use Rattle.script_words.specs.TrafficLines.{flood_frame}
use Rattle.script_words.specs.declared.line_gives.Given.{Given}
use Rattle.script_words.specs.declared.line_gives.Given.TheVariants.{Nothing, Host, Pair, Device, Class, Switch, StepsBegin, TrafficBegins, Frame, Flood, Break}
use Rattle.script_plan.specs.Sound.{Suits}
use Rattle.script_plan.proofs.Facade.{flood_frames, flood_bytes, length_flood_frame}
use Rattle.script_text.specs.SoundLines.{Held}
use Rattle.script_text.proofs.Fits.{Fits, AddsTraffic}
use Rattle.script_text.proofs.TrafficFits.{one_break}

-- a flood's frames are as short as an entry
short_flood : (before : Before) (lane : LaneName) (count len : ℕ) → Held before → All (IsTraffic before.plan) (flood_of lane count len) → 0 < count → len ≤ 65536
short_flood before lane zero len held all some = absurd (omega arith)
short_flood before lane (suc n) len held all some =
    let first : IsTraffic before.plan (Send lane (flood_frame len 0)) =
    All-head (IsTraffic before.plan) (Send lane (flood_frame len 0)) (map (λ i. Send lane (flood_frame len i)) (count_from 1 n)) all in
    let long = length_flood_frame len 0 in
    let short : length (flood_frame len 0) ≤ (sizes_of (pair_plan before.plan lane.pair) lane.from lane.queue).largest = first.2 in
    let unit : (pair_plan before.plan lane.pair).mtu ≤ 65536 = (held.whole.declared.pairs lane.pair first.0.declared).mtu.1 in
    omega arith

break_suits : (before : Before) (pair : ℕ) → Held before → AddsTraffic before (LinkLoss pair ∷ []) → (pair < 16) × (count_by (is_break_of pair) before.plan.traffic < most_breaks)
break_suits before pair held fits =
    let first : IsTraffic before.plan (LinkLoss pair) = All-head (IsTraffic before.plan) (LinkLoss pair) [] fits.items in
    let declared : pair < length before.plan.pairs = first.0 in
    let few_pairs = held.whole.declared.few_pairs in
    let few = fits.few_breaks pair in
    let same : (pair == pair) ≡ true = eq-eqb pair pair refl in
    let here : count_by (is_break_of pair) (LinkLoss pair ∷ []) ≡ 1 = one_break pair pair ∙ rw same refl in
    (omega arith, omega arith)

-- A value in compact form suits the lines before it, which declare a whole plan, if its full form fits there.
pub suits : (before : Before) (given : Given) → Held before → Fits before (given_of given) → Suits before given
suits before Nothing held fits = tt
suits before (Host name) held fits = (fits.is_new, fits.few)
suits before (Pair pair hosts) held fits = (fits.is_new, fits.few, fits.fits)
suits before (Device dev) held fits = (fits.is_new, fits.few, fits.fits)
suits before (Class name class) held fits = (fits.queue, fits.small)
suits before (Switch switch) held fits = (fits.is_new, fits.few, fits.fits)
suits before StepsBegin held fits = tt
suits before TrafficBegins held fits = tt
suits before (Frame lane frame) held fits = let frames = fits.few_frames in let bytes = fits.few_bytes in (omega arith, omega arith)
suits before (Flood lane count len) held fits =
    let frames = fits.few_frames in
    let bytes = fits.few_bytes in
    let all_frames = flood_frames lane count len in
    let all_bytes = flood_bytes lane count len in
    (short_flood before lane count len held fits.items, omega arith, omega arith)
suits before (Break pair) held fits = break_suits before pair held fits
