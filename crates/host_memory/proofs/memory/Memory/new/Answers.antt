use Rattle.std.proofs.Common.{◌≡◌, ℕ, List}
use Rattle.host_memory.specs.Memory.{Contents}
use Rattle.host_memory.specs.Pages.{page_at}
use Rattle.host_memory.proofs.MemoryPages.{bytes_in-none}
use Rattle.host_memory.proofs.memory.Memory.new.Goals as goal

made : (bytes bytes' promised promised' : List ℕ) → bytes ≡ bytes' → promised ≡ promised'
    → let one : Contents = record { bytes = bytes; promised = promised } in let other : Contents = record { bytes = bytes'; promised = promised' } in one ≡ other
made bytes bytes' promised promised' e f = cc

pub returns-clause-zeros : goal.returns-clause-zeros
returns-clause-zeros c =
    made _ _ _ _ (bytes_in-none (page_at c.new.result.groups.items) c.args.len c.new.ensures) c.new-2.ensures.items
