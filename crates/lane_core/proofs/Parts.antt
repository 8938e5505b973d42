-- What a lane keeps beside what contracts see of it.
use Rattle.std.proofs.Common.{Result, Ok, Err, ◌≡◌, ℕ, suc, Bool, true, false, if◌then◌else◌, List, [], ◌∷◌, ◌++◌, map, take, drop, refl, sym, ap, ◌∙◌, All}
use Rattle.std.specs.List.{remove}
use Rattle.std.specs.Prelude.{OnErr}
use Rattle.std.proofs.lemmas.List.{map_push, map-append, take-map, drop-map}
use Rattle.std.proofs.lemmas.List.Elements.{All-append, All-drop, All-push, All-same, All-take}
use Rattle.lane_model.specs.declared.Phase.{Phase}
use Rattle.lane_model.specs.declared.Phase.TheVariants.{Copying}
use Rattle.lane_model.specs.declared.Write.{Write}
use Rattle.lane_core.specs.LaneView.{Buffers}
use Rattle.lane_core.specs.declared.write.PostedWrite.{PostedWrite}

-- where nothing is copied, nothing is asked of the buffer
pub not_copying : (phase : Phase) (part : ℕ) (bytes copied : List ℕ) (capacity : ℕ) → (phase ≡ Copying → ⊥) → Buffers phase part bytes copied capacity
not_copying phase part bytes copied capacity other = record { items = λ e. absurd (other e); room = λ e. absurd (other e) }

-- what is seen of the writes after one was posted, or lost
pub map-posted : {W X : Type 0} (f : W → X) (up : Bool) (writes : List W) (write : W)
    → map f (if up then writes ++ write ∷ [] else writes) ≡ (if up then map f writes ++ f write ∷ [] else map f writes)
map-posted f true writes write = map_push f writes write
map-posted f false writes write = refl

-- each write keeps its order when one more is posted, or lost
pub All-posted : (strict up : Bool) (writes : List PostedWrite) (mark : Write) (posted : List PostedWrite)
    → posted ≡ (if up then writes ++ record { mark = mark; strict = strict } ∷ [] else writes) → All (λ (w : PostedWrite). w.strict ≡ strict) writes → All (λ (w : PostedWrite). w.strict ≡ strict) posted
All-posted strict true writes mark posted e h = All-same (λ (w : PostedWrite). w.strict ≡ strict) posted _ e (All-push (λ (w : PostedWrite). w.strict ≡ strict) writes (record { mark = mark; strict = strict }) h refl)
All-posted strict false writes mark posted e h = All-same (λ (w : PostedWrite). w.strict ≡ strict) posted writes e h

-- and when one is taken out
pub All-remove : {X : Type 0} (P : X → Type 0) (xs : List X) (i : ℕ) → All P xs → All P (remove xs i)
All-remove P xs i h = All-append P (take i xs) (drop (suc i) xs) (All-take P i xs h) (All-drop P (suc i) xs h)

-- Mapping a list from which one element was taken out is taking that element out of the mapped list.
pub map-remove : {X Y : Type 0} (f : X → Y) (xs : List X) (i : ℕ) → map f (remove xs i) ≡ remove (map f xs) i
map-remove f xs i =
    map-append f (take i xs) (drop (suc i) xs)
    ∙ ap (λ front. front ++ map f (drop (suc i) xs)) (sym (take-map f i xs))
    ∙ ap (λ behind. take i (map f xs) ++ behind) (sym (drop-map f (suc i) xs))

-- what holds in any case holds at an error
pub on_err : {T E P : Type 0} (r : Result T E) → P → OnErr r P
on_err (Ok x) h = tt
on_err (Err e) h = h
