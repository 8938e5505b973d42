-- A memory as the crate keeps it.
use Rattle.std.specs.Prelude.{◌<◌, ◌^◌, ℕ, IsSome, Contains}
use Rattle.host_memory.specs.Memory.{Contents, NoRepeats}
use Rattle.host_memory.specs.Pages.{memory_bytes_in, page_at}
use Rattle.host_memory.specs.declared.memory.Memory.TheInside.{Inside}

abbrev pub contents_seen : Inside → Contents
contents_seen memory = record { bytes = memory_bytes_in (page_at memory.pages.groups.items) memory.len; promised = memory.promised.items }

-- the pages that are there are just those that were promised, each once
pub record IsMemory (memory : Inside) : Type 0 where
  pub len : memory.len < 2 ^ 63
  pub distinct : NoRepeats memory.promised.items
  pub there : (page : ℕ) → Contains memory.promised.items page → IsSome (page_at memory.pages.groups.items page)
  pub among : (page : ℕ) → IsSome (page_at memory.pages.groups.items page) → Contains memory.promised.items page
