-- What a run has come to so far: lanes that are over, with their records, and lanes that wait, by the plan.
use Rattle.std.proofs.Common.{◌≡◌, ℕ, ◌+◌, List, [], ◌∷◌, ◌++◌, map, refl, sym, ◌∙◌, ap, subst, append-nil, append_assoc}
use Rattle.step_kinds.specs.declared.names.LaneName.{LaneName}
use Rattle.step_kinds.specs.declared.plan.Plan.{Plan}
use Rattle.table_lane.specs.EndOfLane.{Shown}
use Rattle.cluster_run.specs.Lanes.{traffic_lanes}
use Rattle.cluster_run.specs.LaneKeys.{LaneKey, key_of, keys_from, ComeTo}

-- the whole traffic
abbrev pub all_keys : Plan → List LaneKey
all_keys plan = keys_from plan 0 (traffic_lanes plan)

-- Records that come to the keys of these lanes are named as they are, if one that comes to a key has the key's name.
pub names_of : {L : Type 0} (Comes : LaneKey → L → List Shown → Type 0) (name_of : L → LaneName) → ((key : LaneKey) (lane : L) (proofs : List Shown) → Comes key lane proofs → name_of lane ≡ key.name)
    → (plan : Plan) (number : ℕ) (names : List LaneName) (run : List L) (proofs : List Shown) → ComeTo Comes (keys_from plan number names) run proofs → map name_of run ≡ names
names_of Comes name_of named plan number [] [] proofs come = refl
names_of Comes name_of named plan number [] (lane ∷ run) proofs come = absurd come
names_of Comes name_of named plan number (name ∷ names) [] proofs come = absurd come
names_of Comes name_of named plan number (name ∷ names) (lane ∷ run) proofs come =
    ap (λ (n : LaneName). n ∷ map name_of run) (named (key_of plan number name) lane come.0 come.3)
    ∙ ap (λ (rest : List LaneName). name ∷ rest) (names_of Comes name_of named plan (number + 1) names run come.1 come.4)

-- what a run has come to so far: some lanes are over, and the others wait
pub record HasCome {L : Type 0} (Comes : LaneKey → L → List Shown → Type 0) (plan : Plan) (waiting : List LaneKey) (run : List L) (proofs : List Shown) : Type 0 where
  pub keys : List LaneKey
  pub all : keys ++ waiting ≡ all_keys plan
  pub come : ComeTo Comes keys run proofs

-- Once a group of the waiting lanes came to their keys, these too are over and only the others wait.
pub group_over : {L : Type 0} (Comes : LaneKey → L → List Shown → Type 0) (plan : Plan) (first : LaneKey) (before group after : List LaneKey) (old new : List L) (proofs all : List Shown)
    → HasCome Comes plan (first ∷ before) old proofs → group ++ after ≡ first ∷ before
    → ((keys : List LaneKey) → ComeTo Comes keys old proofs → ComeTo Comes (keys ++ group) new all) → HasCome Comes plan after new all
group_over Comes plan first before group after old new proofs all come parts adds =
    record { keys = come.keys ++ group; all = append_assoc come.keys group after ∙ (ap (λ rest. come.keys ++ rest) parts ∙ come.all); come = adds come.keys come.come }

-- If no lane waits any more, the records come to the keys of all lanes with traffic.
pub all_over : {L : Type 0} (Comes : LaneKey → L → List Shown → Type 0) (plan : Plan) {waiting : List LaneKey} {run : List L} {proofs : List Shown} → waiting ≡ [] → HasCome Comes plan waiting run proofs → ComeTo Comes (all_keys plan) run proofs
all_over Comes plan {run = run} {proofs = proofs} none come =
    let all = ap (λ waiting. come.keys ++ waiting) none in
    subst (λ (keys : List LaneKey). ComeTo Comes keys run proofs) (sym (append-nil come.keys) ∙ (sym all ∙ come.all)) come.come
