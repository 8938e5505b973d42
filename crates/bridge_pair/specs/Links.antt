-- What the steps of a link do to a bridge. Each refusal changes nothing.
use Rattle.std.specs.Prelude.{false, Option, Some, None, replicate}
use Rattle.step_kinds.specs.declared.names.Side.{Side}
use Rattle.bridge_regs.specs.Doorbell.{with_pending}
use Rattle.pair_model.specs.Link.{enable_refusal, enabled_link, train_refusal, trained_link, cut_refusal, cut_link, drop_refusal, dropped_link, clean_refusal, cleaned_link}
use Rattle.pair_model.specs.declared.LinkRefusal.{LinkRefusal}
use Rattle.posted_queue.specs.Flight.{discarded}
use Rattle.bridge_pair.specs.Bridge.{Bridge, bells_of, with_link, with_book, with_pads, with_bells}
use Rattle.bridge_pair.specs.declared.book.SideBook.{SideBook}

-- the bridge after a step that may be refused
abbrev pub after_step : Option LinkRefusal → Bridge → Bridge → Bridge
after_step None old new = new
after_step (Some refusal) old new = old

abbrev pub after_enable : Bridge → Side → Bridge
after_enable bridge side = after_step (enable_refusal bridge.link side) bridge (with_link bridge (enabled_link bridge.link side))

abbrev pub after_train : Bridge → Bridge
after_train bridge = after_step (train_refusal bridge.link) bridge (with_link bridge (trained_link bridge.link))

abbrev pub bridge_after_cut : Bridge → Bridge
bridge_after_cut bridge = after_step (cut_refusal bridge.link) bridge (with_link bridge (cut_link bridge.link))

-- all that is in flight is dropped, and what was promised stays so
abbrev pub dropped : Bridge → Bridge
dropped bridge = record bridge { link = dropped_link bridge.link; flights = record { a = discarded bridge.flights.a; b = discarded bridge.flights.b } }

abbrev pub bridge_after_drop : Bridge → Bridge
bridge_after_drop bridge = after_step (drop_refusal bridge.link) bridge (dropped bridge)

-- a side that has reached nothing
abbrev pub no_book : SideBook
no_book = record { up = false; ready = 0; joined = 0; offered = 0 }

-- a side forgets the session: its scratchpads, pending bits and book, but neither its mask nor a byte of its memory
abbrev pub cleaned : Bridge → Side → Bridge
cleaned bridge side =
    with_book (with_bells (with_pads (with_link bridge (cleaned_link bridge.link side)) side (replicate 16 0)) side (with_pending (bells_of bridge side) 0)) side no_book

abbrev pub after_clean : Bridge → Side → Bridge
after_clean bridge side = after_step (clean_refusal bridge.link) bridge (cleaned bridge side)
