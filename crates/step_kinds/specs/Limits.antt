-- The limits of the surface.
use Rattle.std.specs.Prelude.{◌≡◌, ℕ, ◌<◌, ◌≤◌, ◌%◌, ◌^◌}

-- hosts, pairs of hosts, network devices and switches of a script
abbrev pub most_hosts : ℕ
most_hosts = 16

abbrev pub most_pairs : ℕ
most_pairs = 16

abbrev pub most_devices : ℕ
most_devices = 64

abbrev pub most_switches : ℕ
most_switches = 16

-- ports of a switch
abbrev pub least_ports : ℕ
least_ports = 2

abbrev pub most_ports : ℕ
most_ports = 16

-- queues of a side
abbrev pub most_queues : ℕ
most_queues = 16

-- translation windows of a side
abbrev pub most_windows : ℕ
most_windows = 4

-- the bytes of a window, and their steps
abbrev pub least_size : ℕ
least_size = 4096

abbrev pub most_size : ℕ
most_size = 268435456

abbrev pub size_step : ℕ
size_step = 4096

-- the bytes of the largest transfer unit
abbrev pub least_mtu : ℕ
least_mtu = 16

abbrev pub most_mtu : ℕ
most_mtu = 65536

-- the bytes of a script, and its steps with macros replaced by theirs
abbrev pub most_script_bytes : ℕ
most_script_bytes = 16777216

abbrev pub most_steps : ℕ
most_steps = 1000000

-- the bytes of a frame
abbrev pub most_frame_bytes : ℕ
most_frame_bytes = 65536

-- the bytes of one write in flight
abbrev pub most_write_bytes : ℕ
most_write_bytes = 128

-- a threshold of a device
abbrev pub most_threshold : ℕ
most_threshold = 65535

-- the bytes that a step writes past the transport
abbrev pub most_poke_bytes : ℕ
most_poke_bytes = 128

-- the link sessions of a pair
abbrev pub most_sessions : ℕ
most_sessions = 65535

-- the frames of the traffic and their bytes, the link losses of one pair, and the entries of a ring with traffic
abbrev pub most_traffic_frames : ℕ
most_traffic_frames = 100000

abbrev pub most_traffic_bytes : ℕ
most_traffic_bytes = 67108864

abbrev pub most_breaks : ℕ
most_breaks = 100

abbrev pub most_traffic_entries : ℕ
most_traffic_entries = 65535

-- how many traffic classes there are
abbrev pub traffic_classes : ℕ
traffic_classes = 8

-- how far anything is counted that no other limit holds down: frames and entries of a ring, and bytes of a device
abbrev pub most_count : ℕ
most_count = 2 ^ 62

-- a number of ports of a switch
abbrev pub IsPorts : ℕ → Type 0
IsPorts ports = (least_ports ≤ ports) × (ports ≤ most_ports)

-- a number of queues of a side
abbrev pub IsQueues : ℕ → Type 0
IsQueues queues = (1 ≤ queues) × (queues ≤ most_queues)

-- a number of windows of a side
abbrev pub IsWindows : ℕ → Type 0
IsWindows windows = (1 ≤ windows) × (windows ≤ most_windows)

-- the bytes of a window
abbrev pub IsSize : ℕ → Type 0
IsSize bytes = (least_size ≤ bytes) × (bytes ≤ most_size) × (bytes % size_step ≡ 0)

-- a largest transfer unit
abbrev pub IsMtu : ℕ → Type 0
IsMtu bytes = (least_mtu ≤ bytes) × (bytes ≤ most_mtu)

-- a traffic class
abbrev pub IsClass : ℕ → Type 0
IsClass number = number < traffic_classes
