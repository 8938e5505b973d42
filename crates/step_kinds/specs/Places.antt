-- Which part of its pair a step touches, and what it does there.
use Rattle.std.specs.Borrow.{Bor}
use Rattle.step_kinds.specs.declared.places.BridgeStep.TheVariants as on_bridge
use Rattle.step_kinds.specs.declared.places.QueueStep.TheVariants as on_queue
use Rattle.step_kinds.specs.declared.places.SideStep.TheVariants as on_side
use Rattle.step_kinds.specs.declared.places.StepPlace.{StepPlace}
use Rattle.step_kinds.specs.declared.places.StepPlace.TheVariants.{OnQueue, OnSide, OnBridge, OnSwitch}
use Rattle.step_kinds.specs.declared.places.SwitchStep.TheVariants as on_switch
use Rattle.step_kinds.specs.declared.steps.Step.{Step}
use Rattle.step_kinds.specs.declared.steps.Step.TheVariants.{Enable, Train, Break, DropDone, Clean, Offer, Check, Ready, Join, Begin, QpDown, Xbegin, Post, Land, Look, Copy, Clear, Ack, Wake, Irq, Mask, Unmask, Spad, Poke, ShowMem, ShowPad, ShowQueue, Relay, Xnext}

-- a value that a step lends to its place: where it stands in memory doesn't matter
abbrev pub lent : {X : Type 0} → X → Bor X
lent x = record { ref_ptr = (0, 0); now = x }

abbrev pub step_place : Step → StepPlace
step_place (Begin p side queue frame) = OnQueue side queue (on_queue.Begin (lent frame))
step_place (QpDown p side queue) = OnQueue side queue on_queue.QpDown
step_place (Xbegin p side queue dev dst kind payload) = OnQueue side queue (on_queue.Xbegin dev (lent dst) kind (lent payload))
step_place (Post p side queue) = OnQueue side queue on_queue.Post
step_place (Look p side queue) = OnQueue side queue on_queue.Look
step_place (Copy p side queue) = OnQueue side queue on_queue.Copy
step_place (Clear p side queue) = OnQueue side queue on_queue.Clear
step_place (Ack p side queue) = OnQueue side queue on_queue.Ack
step_place (Wake p side queue dev) = OnQueue side queue (on_queue.Wake dev)
step_place (Clean p side) = OnSide side on_side.Clean
step_place (Enable p side) = OnBridge (on_bridge.Enable side)
step_place (Train p) = OnBridge on_bridge.Train
step_place (Break p) = OnBridge on_bridge.Break
step_place (DropDone p) = OnBridge on_bridge.DropDone
step_place (Offer p side) = OnBridge (on_bridge.Offer side)
step_place (Check p side) = OnBridge (on_bridge.Check side)
step_place (Ready p side queue) = OnBridge (on_bridge.Ready side queue)
step_place (Join p side queue) = OnBridge (on_bridge.Join side queue)
step_place (Land p side place) = OnBridge (on_bridge.Land side place)
step_place (Irq p side) = OnBridge (on_bridge.Irq side)
step_place (Mask p side bits) = OnBridge (on_bridge.Mask side bits)
step_place (Unmask p side bits) = OnBridge (on_bridge.Unmask side bits)
step_place (Spad p side index value) = OnBridge (on_bridge.Spad side index value)
step_place (Poke p side window offset bytes) = OnBridge (on_bridge.Poke side window offset (lent bytes))
step_place (ShowMem p side at len) = OnBridge (on_bridge.ShowMem side at len)
step_place (ShowPad p side index) = OnBridge (on_bridge.ShowPad side index)
step_place (ShowQueue p side place) = OnBridge (on_bridge.ShowQueue side place)
step_place (Relay p side queue switch port) = OnSwitch (on_switch.Relay side queue switch port)
step_place (Xnext p side queue dev) = OnSwitch (on_switch.Xnext side queue dev)

-- a place with what it was lent, from wherever
abbrev pub by_value : StepPlace → StepPlace
by_value (OnQueue side queue (on_queue.Begin frame)) = OnQueue side queue (on_queue.Begin (lent frame.now))
by_value (OnQueue side queue (on_queue.Xbegin dev dst kind payload)) = OnQueue side queue (on_queue.Xbegin dev (lent dst.now) kind (lent payload.now))
by_value (OnBridge (on_bridge.Poke side window offset bytes)) = OnBridge (on_bridge.Poke side window offset (lent bytes.now))
by_value place = place
