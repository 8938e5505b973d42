use Rattle.std.specs.Prelude.{Bool, true, false}
use Rattle.step_kinds.specs.declared.steps.Answer.{Answer}
use Rattle.step_kinds.specs.declared.steps.Answer.TheVariants.{Ok as Done, OkSession, OkNumber, Offered, Up, Joined, Posted, Landed, PeerDown, ReadyFrame, Copied, Delivered, Cleared, Acked, Awake, Irq as IrqBits, Mem, PadValue, QueueShown, Short, Filtered, To, Flood}

-- whether a step was made, by its answer: any other answer is a refusal
abbrev pub is_made : Answer → Bool
is_made Done = true
is_made (OkSession session) = true
is_made (OkNumber number) = true
is_made (Offered index) = true
is_made Up = true
is_made Joined = true
is_made (Posted label) = true
is_made (Landed label) = true
is_made PeerDown = true
is_made (ReadyFrame number len) = true
is_made (Copied number part) = true
is_made (Delivered number frame) = true
is_made (Cleared number) = true
is_made (Acked number) = true
is_made Awake = true
is_made (IrqBits bits) = true
is_made (Mem bytes) = true
is_made (PadValue value) = true
is_made (QueueShown count label) = true
is_made (Short len) = true
is_made Filtered = true
is_made (To port) = true
is_made (Flood count) = true
is_made answer = false
