-- The ring law holds of a lane at the start of its session.
use Rattle.std.proofs.Common.{◌≡◌, ℕ, ◌+◌, ◌-◌, ◌%◌, ◌<◌, ◌≤◌, replicate, refl, sym, ◌∙◌, arith, mod-eq_of_lt, List, [], map, subst}
use Rattle.std.proofs.lemmas.List.{length-replicate}
use Rattle.lane_model.specs.Lane.{Slot}
use Rattle.lane_model.specs.Law.{HoldsRingLaw}
use Rattle.lane_laws.proofs.Facade.{new_holds}
use Rattle.lane_model.specs.declared.Write.{Write}
use Rattle.posted_queue.specs.Flight.{Flight, nothing_in_flight}
use Rattle.lane_core.specs.Parts.{entry_seen, place_seen}
use Rattle.lane_core.specs.declared.entry.Entry.{Entry}
use Rattle.lane_core.specs.declared.slot.Slot.{Slot as Position}
use Rattle.lane_core.specs.declared.write.PostedWrite.{PostedWrite}
use Rattle.lane_core.specs.declared.write.IndexWrite.{IndexWrite}
use Rattle.lane_core.specs.Fresh.{core_fresh_lane, zeroed_slot}

-- The law of the ring holds of a lane at the start of its session, with a zeroed ring of at least two slots.
pub fresh_law : (entries largest : ℕ) → 2 ≤ entries → HoldsRingLaw (core_fresh_lane entries largest)
fresh_law entries largest two = new_holds entries largest (entries - 1) (zeroed_slot largest) two (length-replicate largest 0) refl (last_free entries two)
  where
    last_free : (n : ℕ) → 2 ≤ n → n - 1 ≡ (0 + n - 1) % n
    last_free n two_or_more =
        let same : n - 1 ≡ 0 + n - 1 = omega arith in
        let below : 0 + n - 1 < n = omega arith in
        same ∙ sym (mod-eq_of_lt below)

-- the law holds of the parts that a lane starts with
pub started : (entries largest : ℕ) (sent : List Entry) (todo : List Write) (flight : Flight PostedWrite) (returning : Flight IndexWrite) (ring : List Position) → 2 ≤ entries
    → sent ≡ [] → todo ≡ [] → flight ≡ nothing_in_flight → returning ≡ nothing_in_flight → map place_seen ring ≡ replicate entries (zeroed_slot largest)
    → HoldsRingLaw (record (core_fresh_lane entries largest) {
      sent = map entry_seen sent;
      todo = todo;
      flight = map (λ (w : PostedWrite). w.mark) flight.writes;
      returning = map (λ (w : IndexWrite). w.number) returning.writes;
      ring = map place_seen ring;
    })
started entries largest sent todo flight returning ring two no_sent no_todo no_flight no_returning zeroed =
    let at_ring = subst (λ (places : List Slot). HoldsRingLaw (record (core_fresh_lane entries largest) { ring = places })) (sym zeroed) (fresh_law entries largest two) in
    let at_returning = subst (λ (f : Flight IndexWrite). HoldsRingLaw (record (core_fresh_lane entries largest) { ring = map place_seen ring; returning = map (λ (w : IndexWrite). w.number) f.writes })) (sym no_returning) at_ring in
    let at_flight =
    subst
    (λ (f : Flight PostedWrite). HoldsRingLaw (record (core_fresh_lane entries largest) { ring = map place_seen ring; returning = map (λ (w : IndexWrite). w.number) returning.writes; flight = map (λ (w : PostedWrite). w.mark) f.writes }))
    (sym no_flight) at_returning in
    let at_todo =
    subst
    (λ (marks : List Write). HoldsRingLaw (record (core_fresh_lane entries largest) { ring = map place_seen ring; returning = map (λ (w : IndexWrite). w.number) returning.writes; flight = map (λ (w : PostedWrite). w.mark) flight.writes; todo = marks }))
    (sym no_todo) at_flight in
    subst
    (λ (es : List Entry). HoldsRingLaw (record (core_fresh_lane entries largest) { ring = map place_seen ring; returning = map (λ (w : IndexWrite). w.number) returning.writes; flight = map (λ (w : PostedWrite). w.mark) flight.writes; todo = todo; sent = map entry_seen es }))
    (sym no_sent) at_todo
