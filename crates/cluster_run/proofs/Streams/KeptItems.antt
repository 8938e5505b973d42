-- What is true of a sink after its turns.
use Rattle.std.proofs.Common.{◌≡◌, ℕ, ◌+◌, ◌≤◌, ◌<◌, ◌^◌, false, List, [], ◌∷◌, ◌++◌, length, take, fold, refl, sym, ◌∙◌, ap, subst, arith}
use Rattle.std.specs.List.{All}
use Rattle.std.proofs.Math.Seq.{take-length}
use Rattle.std.proofs.lemmas.List.{length_push, take-take}
use Rattle.std.proofs.lemmas.List.Elements.{All-nil, All-push, All-weaker}
use Rattle.stream_model.specs.Numbers.{SaysAtMost}
use Rattle.stream_model.specs.Receiver.{Receiver, ack_frame, taken}
use Rattle.stream_model.specs.declared.Session.{Session}
use Rattle.stream_model.specs.declared.Session.TheVariants.{Fresh}
use Rattle.table_lane.specs.Ends.{TableSender, TableReceiver as Getter}
use Rattle.cluster_run.specs.stream.Ends.{Grows}
use Rattle.cluster_run.specs.stream.WorkerFields.{IsSink}
use Rattle.cluster_run.specs.declared.stream.sink.Sink.TheInside.{Inside}

-- a front of what was kept is that front of what is kept
same_front : (n most : ℕ) (before after : List (List ℕ)) → n ≤ length before → Grows most before after → take n before ≡ take n after
same_front n most before after within grows = ap (take n) (sym grows.front) ∙ take-take n (length before) after within

-- what the receiver took in turns, if there was memory for all
abbrev pub Took : Inside → Inside → Type 0
Took w w' = (start : Receiver) → w.receiver ≡ fold taken start w.end.part.got → w'.receiver ≡ fold taken start w'.end.part.got

-- A sink in which further items joined is still a right one, if they are of what came and below 2^32 in all.
pub kept_more : (w w' : Inside) (most : ℕ) → IsSink w → w'.begun ≡ w.begun → w'.told ≡ w.told → w'.acks ≡ w.acks → Grows most w.receiver.items w'.receiver.items → length w.receiver.items + most < 2 ^ 32
    → (w'.is_wanting ≡ false → (w.is_wanting ≡ false) × Took w w') → IsSink w'
kept_more w w' most holds begun told acks grows few takes =
    let more = grows.no_fewer in
    let at_most = grows.few in
    let within = holds.begun in
    let counted = holds.told in
    let sent : length w'.acks.part.sent ≡ length w.acks.part.sent = ap (λ (a : TableSender). length a.part.sent) acks in
    let front : take w.begun w.receiver.items ≡ take w'.begun w'.receiver.items =
    same_front w.begun most w.receiver.items w'.receiver.items within grows ∙ ap (λ (n : ℕ). take n w'.receiver.items) (sym begun) in
    record {
      begun = omega arith;
      few = omega arith;
      taken = λ calm.
          let both = takes calm in
          both.1 (record { items = take w'.begun w'.receiver.items; session = Fresh })
          (holds.taken both.0 ∙ ap (λ (items : List (List ℕ)). fold taken (record { items = items; session = Fresh }) w.end.part.got) front);
      acks = subst (λ (a : TableSender). All (SaysAtMost (length w'.receiver.items)) a.part.sent) (sym acks)
          (All-weaker (SaysAtMost (length w.receiver.items)) (SaysAtMost (length w'.receiver.items)) (λ frame says. (says.0, (let s = says.1 in omega arith), says.2)) w.acks.part.sent holds.acks);
      told = (let c = counted.0 in omega arith, let c = counted.1 in omega arith);
    }

-- a turn that acknowledges leaves what was taken
taken_same : (w w' : Inside) → IsSink w → w'.begun ≡ w.begun → w'.receiver ≡ w.receiver → w'.end ≡ w.end → w.is_wanting ≡ false
    → w'.receiver ≡ fold taken (record { items = take w'.begun w'.receiver.items; session = Fresh }) w'.end.part.got
taken_same w w' holds begun receiver end calm =
    receiver ∙ (holds.taken calm
    ∙ (ap (λ (n : ℕ). fold taken (record { items = take n w.receiver.items; session = Fresh }) w.end.part.got) (sym begun)
    ∙ (ap (λ (r : Receiver). fold taken (record { items = take w'.begun r.items; session = Fresh }) w.end.part.got) (sym receiver)
    ∙ ap (λ (e : Getter). fold taken (record { items = take w'.begun w'.receiver.items; session = Fresh }) e.part.got) (sym end))))

-- an acknowledgement more
pub told_more : (w w' : Inside) → IsSink w → w'.begun ≡ w.begun → w'.receiver ≡ w.receiver → w'.end ≡ w.end → (w'.is_wanting ≡ false → w.is_wanting ≡ false)
    → w'.acks.part.sent ≡ w.acks.part.sent ++ ack_frame w.receiver ∷ [] → w.told < length w.receiver.items → w'.told ≡ length w.receiver.items → IsSink w'
told_more w w' holds begun receiver end calms sent newer told =
    let more = length_push w.acks.part.sent (ack_frame w.receiver) in
    let many = ap length sent in
    let kept = ap (λ (r : Receiver). length r.items) receiver in
    let within = holds.begun in
    let few = holds.few in
    let counted = holds.told.0 in
    let acks : All (SaysAtMost (length w.receiver.items)) w'.acks.part.sent =
    subst (λ (sent : List (List ℕ)). All (SaysAtMost (length w.receiver.items)) sent) (sym sent)
    (All-push (SaysAtMost (length w.receiver.items)) w.acks.part.sent (ack_frame w.receiver) holds.acks (length w.receiver.items, (omega arith), refl)) in
    record {
      begun = omega arith;
      few = omega arith;
      taken = λ calm. taken_same w w' holds begun receiver end (calms calm);
      acks = subst (λ (r : Receiver). All (SaysAtMost (length r.items)) w'.acks.part.sent) (sym receiver) acks;
      told = (omega arith, omega arith);
    }

-- none
pub told_same : (w w' : Inside) → IsSink w → w'.begun ≡ w.begun → w'.receiver ≡ w.receiver → w'.end ≡ w.end → (w'.is_wanting ≡ false → w.is_wanting ≡ false)
    → w'.acks.part.sent ≡ w.acks.part.sent → w'.told ≡ w.told → IsSink w'
told_same w w' holds begun receiver end calms sent told =
    let many = ap length sent in
    let kept = ap (λ (r : Receiver). length r.items) receiver in
    let within = holds.begun in
    let few = holds.few in
    let counted = holds.told.0 in
    let reached = holds.told.1 in
    record {
      begun = omega arith;
      few = omega arith;
      taken = λ calm. taken_same w w' holds begun receiver end (calms calm);
      acks =
          subst (λ (r : Receiver). All (SaysAtMost (length r.items)) w'.acks.part.sent) (sym receiver)
          (subst (λ (sent : List (List ℕ)). All (SaysAtMost (length w.receiver.items)) sent) (sym sent) holds.acks);
      told = (omega arith, omega arith);
    }

-- a stream may keep an item of each turn
pub few_with : (frames items : List (List ℕ)) (len turns : ℕ) → frames ≡ items → len ≡ length frames → length items < 2 ^ 32 → (len < 2 ^ 32 → len + turns < 2 ^ 32) → length items + turns < 2 ^ 32
few_with frames items len turns same counted few fits = let many = ap length same in let all = fits (omega arith) in omega arith

-- a sink at the start of a session
pub new_sink : (w : Inside) → w.begun ≡ length w.receiver.items → w.told ≡ 0 → w.receiver.session ≡ Fresh → w.end.part.got ≡ [] → w.acks.part.sent ≡ [] → length w.receiver.items < 2 ^ 32 → IsSink w
new_sink w begun told fresh got sent few =
    let none = ap length sent in
    let items : take w.begun w.receiver.items ≡ w.receiver.items = ap (λ (n : ℕ). take n w.receiver.items) begun ∙ take-length w.receiver.items in
    record {
      begun = omega arith;
      few = few;
      taken = λ calm.
          ap (λ (s : Session). record { items = w.receiver.items; session = s }) fresh
          ∙ (ap (λ (items : List (List ℕ)). record { items = items; session = Fresh }) (sym items)
          ∙ ap (fold taken (record { items = take w.begun w.receiver.items; session = Fresh })) (sym got));
      acks = subst (λ (sent : List (List ℕ)). All (SaysAtMost (length w.receiver.items)) sent) (sym sent) (All-nil (SaysAtMost (length w.receiver.items)));
      told = (omega arith, omega arith);
    }
