use Rattle.std.proofs.Common.{◌∙◌}
use Rattle.std.proofs.lemmas.List.{append-nil}
use Rattle.byteorder.specs.Endian.{little_bytes}
use Rattle.stream_model.specs.Numbers.{number_frame}
use Rattle.resume_stream.proofs.numbers.number_frame.Goals as goal

pub returns : goal.returns
unfolding number_frame
returns c = c.of_vec.ensures ∙ (c.in_ok-from_slice.ensures.items ∙ (c.write_u32.ensures ∙ append-nil (little_bytes 4 c.args.number)))
