use Rattle.std.specs.Prelude.{ℕ}
use Rattle.step_kinds.specs.declared.steps.Step.{Step}
use Rattle.step_kinds.specs.declared.steps.Step.TheVariants.{Enable, Train, Break, DropDone, Clean, Offer, Check, Ready, Join, Begin, QpDown, Xbegin, Post, Land, Look, Copy, Clear, Ack, Wake, Irq, Mask, Unmask, Spad, Poke, ShowMem, ShowPad, ShowQueue, Relay, Xnext}

-- the number of the pair that a step is made on
abbrev pub subject_of : Step → ℕ
subject_of (Enable pair side) = pair
subject_of (Train pair) = pair
subject_of (Break pair) = pair
subject_of (DropDone pair) = pair
subject_of (Clean pair side) = pair
subject_of (Offer pair side) = pair
subject_of (Check pair side) = pair
subject_of (Ready pair side queue) = pair
subject_of (Join pair side queue) = pair
subject_of (Begin pair side queue frame) = pair
subject_of (QpDown pair side queue) = pair
subject_of (Xbegin pair side queue dev dst kind payload) = pair
subject_of (Post pair side queue) = pair
subject_of (Land pair side place) = pair
subject_of (Look pair side queue) = pair
subject_of (Copy pair side queue) = pair
subject_of (Clear pair side queue) = pair
subject_of (Ack pair side queue) = pair
subject_of (Wake pair side queue dev) = pair
subject_of (Irq pair side) = pair
subject_of (Mask pair side bits) = pair
subject_of (Unmask pair side bits) = pair
subject_of (Spad pair side index value) = pair
subject_of (Poke pair side window offset bytes) = pair
subject_of (ShowMem pair side at len) = pair
subject_of (ShowPad pair side index) = pair
subject_of (ShowQueue pair side place) = pair
subject_of (Relay pair side queue switch port) = pair
subject_of (Xnext pair side queue dev) = pair
