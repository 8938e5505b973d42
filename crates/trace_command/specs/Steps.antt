-- Steps and answers as JSON objects: a name, which is the word of the script or of the report, and a member for each of
-- its numbers, names and bytes.
use Rattle.std.specs.Prelude.{ℕ, List, [], ◌++◌, codes}
use Rattle.step_kinds.specs.Shapes.{answer_bytes, answer_shape}
use Rattle.step_kinds.specs.declared.names.Side.{Side}
use Rattle.step_kinds.specs.declared.plan.Plan.{Plan}
use Rattle.step_kinds.specs.declared.shapes.ShapeEnd.{ShapeEnd}
use Rattle.step_kinds.specs.declared.shapes.ShapeEnd.TheVariants as ends
use Rattle.step_kinds.specs.declared.steps.Answer.{Answer}
use Rattle.step_kinds.specs.declared.steps.Step.{Step}
use Rattle.step_kinds.specs.declared.steps.Step.TheVariants.{Enable, Train, Break, DropDone, Clean, Offer, Check, Ready, Join, Begin, QpDown, Xbegin, Post, Land, Look, Copy, Clear, Ack, Wake, Irq, Mask, Unmask, Spad, Poke, ShowMem, ShowPad, ShowQueue, Relay, Xnext}
use Rattle.pair_model.specs.Plans.{dev_plan, switch_plan}
use Rattle.report_text.specs.Report.{pair_name, side_text}
use Rattle.trace_command.specs.Words.{bytes_member, label_object, named_members, named_object, number_member, text_member}

-- Where a step is made

abbrev pub on_pair : Plan → ℕ → List ℕ
on_pair plan pair = text_member (codes ",\"pair\":") (pair_name plan.pairs pair)

abbrev pub on_side : Plan → ℕ → Side → List ℕ
on_side plan pair side = on_pair plan pair ++ text_member (codes ",\"side\":") (side_text side)

abbrev pub on_queue : Plan → ℕ → Side → ℕ → List ℕ
on_queue plan pair side queue = on_side plan pair side ++ number_member (codes ",\"queue\":") queue

abbrev pub of_device : Plan → ℕ → List ℕ
of_device plan dev = text_member (codes ",\"device\":") (dev_plan plan.devs dev).name

-- the Ethernet frame that a device begins to send, but for its own address
unfoldable pub ethernet_members : List ℕ → ℕ → List ℕ → List ℕ
ethernet_members dst kind payload =
    bytes_member (codes ",\"address\":") dst ++ number_member (codes ",\"kind\":") kind ++ bytes_member (codes ",\"payload\":") payload

-- Steps

abbrev pub step_name : Step → List ℕ
step_name (Enable pair side) = codes "enable"
step_name (Train pair) = codes "train"
step_name (Break pair) = codes "break"
step_name (DropDone pair) = codes "drop"
step_name (Clean pair side) = codes "clean"
step_name (Offer pair side) = codes "offer"
step_name (Check pair side) = codes "check"
step_name (Ready pair side queue) = codes "ready"
step_name (Join pair side queue) = codes "join"
step_name (Begin pair side queue frame) = codes "begin"
step_name (QpDown pair side queue) = codes "qpdown"
step_name (Xbegin pair side queue dev dst kind payload) = codes "xbegin"
step_name (Post pair side queue) = codes "post"
step_name (Land pair side place) = codes "land"
step_name (Look pair side queue) = codes "look"
step_name (Copy pair side queue) = codes "copy"
step_name (Clear pair side queue) = codes "clear"
step_name (Ack pair side queue) = codes "ack"
step_name (Wake pair side queue dev) = codes "wake"
step_name (Irq pair side) = codes "irq"
step_name (Mask pair side bits) = codes "mask"
step_name (Unmask pair side bits) = codes "unmask"
step_name (Spad pair side index value) = codes "spad"
step_name (Poke pair side window offset bytes) = codes "poke"
step_name (ShowMem pair side at len) = codes "showmem"
step_name (ShowPad pair side index) = codes "showspad"
step_name (ShowQueue pair side place) = codes "showq"
step_name (Relay pair side queue switch port) = codes "relay"
step_name (Xnext pair side queue dev) = codes "xnext"

abbrev pub step_members : Plan → Step → List ℕ
step_members plan (Enable pair side) = on_side plan pair side
step_members plan (Train pair) = on_pair plan pair
step_members plan (Break pair) = on_pair plan pair
step_members plan (DropDone pair) = on_pair plan pair
step_members plan (Clean pair side) = on_side plan pair side
step_members plan (Offer pair side) = on_side plan pair side
step_members plan (Check pair side) = on_side plan pair side
step_members plan (Ready pair side queue) = on_queue plan pair side queue
step_members plan (Join pair side queue) = on_queue plan pair side queue
step_members plan (Begin pair side queue frame) = on_queue plan pair side queue ++ bytes_member (codes ",\"frame\":") frame
step_members plan (QpDown pair side queue) = on_queue plan pair side queue
step_members plan (Xbegin pair side queue dev dst kind payload) =
    on_queue plan pair side queue ++ of_device plan dev ++ ethernet_members dst kind payload
step_members plan (Post pair side queue) = on_queue plan pair side queue
step_members plan (Land pair side place) = on_side plan pair side ++ number_member (codes ",\"place\":") place
step_members plan (Look pair side queue) = on_queue plan pair side queue
step_members plan (Copy pair side queue) = on_queue plan pair side queue
step_members plan (Clear pair side queue) = on_queue plan pair side queue
step_members plan (Ack pair side queue) = on_queue plan pair side queue
step_members plan (Wake pair side queue dev) = on_queue plan pair side queue ++ of_device plan dev
step_members plan (Irq pair side) = on_side plan pair side
step_members plan (Mask pair side bits) = on_side plan pair side ++ number_member (codes ",\"bits\":") bits
step_members plan (Unmask pair side bits) = on_side plan pair side ++ number_member (codes ",\"bits\":") bits
step_members plan (Spad pair side index value) =
    on_side plan pair side ++ number_member (codes ",\"index\":") index ++ number_member (codes ",\"value\":") value
step_members plan (Poke pair side window offset bytes) =
    on_side plan pair side ++ number_member (codes ",\"window\":") window ++ number_member (codes ",\"offset\":") offset ++ bytes_member (codes ",\"bytes\":") bytes
step_members plan (ShowMem pair side at len) = on_side plan pair side ++ number_member (codes ",\"at\":") at ++ number_member (codes ",\"len\":") len
step_members plan (ShowPad pair side index) = on_side plan pair side ++ number_member (codes ",\"index\":") index
step_members plan (ShowQueue pair side place) = on_side plan pair side ++ number_member (codes ",\"place\":") place
step_members plan (Relay pair side queue switch port) =
    on_queue plan pair side queue ++ text_member (codes ",\"switch\":") (switch_plan plan switch).name ++ number_member (codes ",\"port\":") port
step_members plan (Xnext pair side queue dev) = on_queue plan pair side queue ++ of_device plan dev

abbrev pub step_object : Plan → Step → List ℕ
step_object plan step = named_object (step_name step) (step_members plan step)

-- Answers

-- what stands behind the numbers
abbrev pub end_member : ShapeEnd → List ℕ → List ℕ
end_member ends.Nothing bytes = []
end_member (ends.Label label) bytes = codes ",\"label\":" ++ label_object label
end_member ends.NoLabel bytes = codes ",\"label\":null"
end_member ends.Frame bytes = bytes_member (codes ",\"frame\":") bytes
end_member ends.Bytes bytes = bytes_member (codes ",\"bytes\":") bytes

abbrev pub answer_members : Answer → List ℕ
answer_members answer = named_members (answer_shape answer).numbers ++ end_member (answer_shape answer).end (answer_bytes answer)

abbrev pub answer_object : Answer → List ℕ
answer_object answer = named_object (answer_shape answer).word (answer_members answer)
