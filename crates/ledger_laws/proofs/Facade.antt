-- What crates above may cite of the proofs of this crate: laws of every log, one name for each. Beside them stand how a
-- log grows by a step, what the walk over its steps says of them, and what sites have of steps.
pub use Rattle.ledger_laws.proofs.AgainWhereNoRoom.{again_where_no_room}
pub use Rattle.ledger_laws.proofs.AllTogether.{answers_are_right, are_ordinary, has_sides, laws_hold}
pub use Rattle.ledger_laws.proofs.CopiedInParts.{copied_in_parts}
pub use Rattle.ledger_laws.proofs.CountersAreCounts.{counters_are_counts}
pub use Rattle.ledger_laws.proofs.FramesInOrder.{every_log_is_in_order, every_frame_comes_once}
pub use Rattle.ledger_laws.proofs.Tallies.{tallies_are_counts, sessions_are_counts}
pub use Rattle.ledger_laws.proofs.LandingsRefused.{landing_refused}
pub use Rattle.ledger_laws.proofs.LanePart.{lane_part_lands}
pub use Rattle.ledger_laws.proofs.LinkDownWhereNotUp.{link_down_where_not_up, up_known}
pub use Rattle.ledger_laws.proofs.PairsAreSeparate.{pairs_are_separate}
pub use Rattle.ledger_laws.proofs.PostedAreWrites.{posted_are_writes}
pub use Rattle.ledger_laws.proofs.QuietMeansDone.{quiet_means_done}
pub use Rattle.ledger_laws.proofs.RefusalsChangeNothing.{refusals_change_nothing}
pub use Rattle.ledger_laws.proofs.RingLawHolds.{ring_law_of_receiver, index_word_is_tail, ring_law_holds, two_entries}
pub use Rattle.ledger_laws.proofs.StepsOfLane.{each_step_is_of_the_lane, own_todos}
pub use Rattle.ledger_laws.proofs.LanesBegin.{each_lane_begins_fresh}
pub use Rattle.ledger_laws.proofs.LogGrowth.{answer_of, log_of-last, ledger_of-last}
pub use Rattle.ledger_laws.proofs.UpMeansAgreement.{up_means_agreement}
pub use Rattle.ledger_laws.proofs.EntriesFit.{entries_fit_the_ring}
pub use Rattle.ledger_laws.proofs.FlightOfLog.{in_flight_is_posted}
pub use Rattle.ledger_laws.proofs.InFlight.{count_by-last, get-map}
pub use Rattle.ledger_laws.proofs.LogReaders.{up_after-last, up_step}
pub use Rattle.ledger_laws.proofs.Offers.{offer-is_pad}
pub use Rattle.ledger_laws.proofs.FreshLanes.{no_entry_before_both_up}
pub use Rattle.ledger_laws.proofs.JoinedMeansAgreement.{up_side_agrees, joined_means_agreement}
pub use Rattle.ledger_laws.proofs.LabelsOfEntries.{labels_are_of_entries, all_get}
pub use Rattle.ledger_laws.proofs.LabelsPostable.{labels_are_postable}
pub use Rattle.ledger_laws.proofs.NothingWhileDown.{nothing_in_flight_while_down}
pub use Rattle.ledger_laws.proofs.JoinedOnSides.{some_todo, some_wait, copying-not_idle, cleared-not_idle, joined_side_is_up, stopped_device_is_joined, busy_sender_is_joined, busy_receiver_is_joined}
pub use Rattle.ledger_laws.proofs.FramesWithinMost.{freed_were_begun, receiver_knows_its_frame}
pub use Rattle.ledger_laws.proofs.NeitherDiffersNorLong.{no_ordinary_ver_differs_or_long}
pub use Rattle.ledger_laws.proofs.walk.SendingTurns.{on_queue-labels}
pub use Rattle.ledger_laws.proofs.walk.Turn.{is_pad, on_queue}
pub use Rattle.ledger_laws.proofs.walk.Cases.{acking, drop_cases, land_cases, post_cases, refuses}
pub use Rattle.ledger_laws.proofs.walk.Logs.{OwnTodos}
pub use Rattle.ledger_laws.proofs.walk.Sight.{same_side-refl}
pub use Rattle.ledger_laws.proofs.RingOfLane.{phase_idle, phase_copying}
pub use Rattle.ledger_laws.proofs.FollowersFew.{IsOfFrame, entries_are_of_frames}
pub use Rattle.ledger_laws.proofs.BytesSayTheLedger.{bytes_say_the_ledger}
pub use Rattle.ledger_laws.proofs.MemoriesApart.{memories_keep_pairs_apart, stored_pairs_are_separate}
pub use Rattle.ledger_laws.proofs.RingsStand.{rings_stand_in_memory}
pub use Rattle.ledger_laws.proofs.Sites.{same_outcome, site_of-elsewhere, site_of-here, site_outcome, sites_are_the_ledger, steps_of_log}
pub use Rattle.ledger_laws.proofs.Bridges.{bridges_have_a_log, log_grows_by_items}
pub use Rattle.ledger_laws.proofs.ErasedOrigins.{origins_change_nothing}
pub use Rattle.ledger_laws.proofs.Headline.{frames_come_in_order, frames_come_once, items_again_where_no_room, items_link_down_where_not_up, paths_keep_order}
pub use Rattle.ledger_laws.proofs.Readings.{log_reads_as_bridges}
pub use Rattle.ledger_laws.proofs.SeparatePairs.{pairs_without_ports_are_separate}
pub use Rattle.ledger_laws.proofs.WaitingHeaders.{headers_stay, waiting_have_headers}
