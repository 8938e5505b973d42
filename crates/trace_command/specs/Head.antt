-- The head of a trace: its version, and each pair of the plan once its options and their defaults are known.
use Rattle.std.specs.Prelude.{ℕ, ◌==◌, List, [], ◌++◌, codes, slice_index_or, if◌then◌else◌}
use Rattle.std.specs.List.{flat_map, range_with_len}
use Rattle.step_kinds.specs.declared.names.Side.{Side}
use Rattle.step_kinds.specs.declared.names.Side.TheVariants.{A, B}
use Rattle.step_kinds.specs.declared.plan.PairPlan.{PairPlan}
use Rattle.pair_model.specs.Orders.{classes_of}
use Rattle.pair_model.specs.Plans.{side_plan}
use Rattle.pair_model.specs.Sizes.{agreed_version, sizes_of}
use Rattle.report_text.specs.Report.{line_of}
use Rattle.trace_command.specs.Lines.{first_line}
use Rattle.trace_command.specs.Words.{number_member, text_member, truth_text}

-- the ring that a side sends to on a queue: its entries, the most bytes of an entry's payload, and the traffic class of
-- its writes
abbrev pub ring_object : PairPlan → Side → ℕ → List ℕ
ring_object pair side queue =
    number_member (codes "{\"entries\":") (sizes_of pair side queue).entries ++ number_member (codes ",\"largest\":") (sizes_of pair side queue).largest
    ++ number_member (codes ",\"class\":") (slice_index_or (classes_of pair side) queue 0) ++ codes "}"

-- objects of a list, each but the first after a comma
abbrev pub ring_after : PairPlan → Side → ℕ → List ℕ
ring_after pair side queue = (if queue == 0 then [] else codes ",") ++ ring_object pair side queue

-- a side: its own numbers, and the rings that it sends to
abbrev pub side_object : PairPlan → Side → List ℕ
side_object pair side =
    let own = side_plan pair side in
    number_member (codes "{\"version\":") own.version ++ number_member (codes ",\"queues\":") own.queues ++ number_member (codes ",\"windows\":") own.windows
    ++ number_member (codes ",\"size\":") own.size ++ number_member (codes ",\"cap\":") own.cap ++ codes ",\"rings\":["
    ++ flat_map (ring_after pair side) (range_with_len 0 own.queues) ++ codes "]}"

-- a pair: its name, its options, the version that both sides speak, and its sides
abbrev pub trace_pair_line : PairPlan → List ℕ
trace_pair_line pair =
    line_of
    (text_member (codes "{\"pair\":") pair.name ++ codes ",\"up\":" ++ truth_text pair.up ++ codes ",\"strict\":" ++ truth_text pair.strict
    ++ codes ",\"raw\":" ++ truth_text pair.raw ++ number_member (codes ",\"version\":") (agreed_version pair) ++ number_member (codes ",\"mtu\":") pair.mtu
    ++ codes ",\"A\":" ++ side_object pair A ++ codes ",\"B\":" ++ side_object pair B ++ codes "}")

abbrev pub trace_head : List PairPlan → List ℕ
trace_head pairs = first_line ++ flat_map trace_pair_line pairs
