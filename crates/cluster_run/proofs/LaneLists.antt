-- Lists of works at lanes, and records that come to their keys.
use Rattle.std.proofs.Common.{◌≡◌, ℕ, suc, ◌<◌, Result, Ok, Err, OnOk, is_ok, if◌then◌else◌, List, [], ◌∷◌, ◌++◌, length, map, slice_index_or, refl, sym, ◌∙◌, ap, subst, arith, append-nil, append_assoc}
use Rattle.std.proofs.lemmas.List.{map-append}
use Rattle.table_lane.specs.EndOfLane.{Shown}
use Rattle.cluster_run.specs.LaneKeys.{LaneKey, LaneState, ComeTo, keys_of}

-- what is kept place by place is kept as a list
pub keys_kept : {W : Type 0} (key : W → LaneKey) (before after : List W) → length after ≡ length before → ((i : ℕ) (work : W) → i < length before → key (slice_index_or after i work) ≡ key (slice_index_or before i work)) → map key after ≡ map key before
keys_kept key [] [] many keep = refl
keys_kept key [] (y ∷ ys) many keep = absurd (omega (arith, many))
keys_kept key (x ∷ xs) [] many keep = absurd (omega (arith, many))
keys_kept key (x ∷ xs) (y ∷ ys) many keep =
    let first : key y ≡ key x = keep 0 x (omega arith) in
    let rest : map key ys ≡ map key xs = keys_kept key xs ys (omega (arith, many)) (λ i work below. keep (suc i) work (omega arith)) in
    ap (λ k. k ∷ map key ys) first ∙ ap (λ keys. key x ∷ keys) rest

-- one record more
come_to-push : {L : Type 0} (Comes : LaneKey → L → List Shown → Type 0) (keys : List LaneKey) (lanes : List L) (proofs : List Shown) (key : LaneKey) (lane : L) (more : List Shown)
    → ComeTo Comes keys lanes proofs → Comes key lane more → ComeTo Comes (keys ++ key ∷ []) (lanes ++ lane ∷ []) (proofs ++ more)
come_to-push Comes [] [] proofs key lane more none one = (more, [], ap (λ proofs. proofs ++ more) none ∙ sym (append-nil more), one, refl)
come_to-push Comes [] (l ∷ lanes) proofs key lane more none one = absurd none
come_to-push Comes (k ∷ keys) [] proofs key lane more none one = absurd none
come_to-push Comes (k ∷ keys) (l ∷ lanes) proofs key lane more come one =
    (come.0, come.1 ++ more, ap (λ proofs. proofs ++ more) come.2 ∙ append_assoc come.0 come.1 more, come.3, come_to-push Comes keys lanes come.1 key lane more come.4 one)

-- Records that come to their keys still do with one more, which comes to its own key.
lane_added : {L S : Type 0} (Comes : LaneKey → S → List Shown → Type 0) (shown : L → S) (keys : List LaneKey) (lanes runs : List L) (proofs all more : List Shown) (key : LaneKey) (lane : L)
    → runs ≡ lanes ++ lane ∷ [] → all ≡ proofs ++ more → Comes key (shown lane) more → ComeTo Comes keys (map shown lanes) proofs
    → ComeTo Comes (keys ++ key ∷ []) (map shown runs) all
lane_added {L} {S} Comes shown keys lanes runs proofs all more key lane runs_are all_are one come =
    let are : map shown lanes ++ shown lane ∷ [] ≡ map shown runs = sym (ap (map shown) runs_are ∙ map-append shown lanes (lane ∷ [])) in
    subst (λ (shown : List S). ComeTo Comes (keys ++ key ∷ []) shown all) are
    (subst (λ (all : List Shown). ComeTo Comes (keys ++ key ∷ []) (map shown lanes ++ shown lane ∷ []) all) (sym all_are)
    (come_to-push Comes keys (map shown lanes) proofs key (shown lane) more come one))

-- A call that succeeds and adds a record, come to its key, leaves records that all come to their keys.
pub added_on_ok : {L S T E : Type 0} (Comes : LaneKey → S → List Shown → Type 0) (shown : L → S) (result : Result T E) (lanes runs : List L) (proofs all more : List Shown) (key : LaneKey) (lane : L)
    → runs ≡ lanes ++ lane ∷ [] → all ≡ (if is_ok result then proofs ++ more else proofs) → Comes key (shown lane) more
    → OnOk result ((keys : List LaneKey) → ComeTo Comes keys (map shown lanes) proofs → ComeTo Comes (keys ++ key ∷ []) (map shown runs) all)
added_on_ok Comes shown (Ok x) lanes runs proofs all more key lane runs_are all_are one = λ keys come. lane_added Comes shown keys lanes runs proofs all more key lane runs_are all_are one come
added_on_ok Comes shown (Err e) lanes runs proofs all more key lane runs_are all_are one = tt

-- Records of works that are added one after another are added together.
pub added_together : {L : Type 0} (Comes : LaneKey → L → List Shown → Type 0) (keys : List LaneKey) (works : List LaneState) (work : LaneState) (lanes : List L) (proofs : List Shown)
    → ComeTo Comes (keys ++ keys_of works ++ work.key ∷ []) lanes proofs → ComeTo Comes (keys ++ keys_of (works ++ work ∷ [])) lanes proofs
added_together Comes keys works work lanes proofs come =
    subst (λ (all : List LaneKey). ComeTo Comes all lanes proofs)
    (append_assoc keys (keys_of works) (work.key ∷ []) ∙ ap (λ more. keys ++ more) (sym (map-append (λ (work : LaneState). work.key) works (work ∷ [])))) come
