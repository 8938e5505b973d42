use Rattle.net_dev.proofs.Parts.{frame_says_its_parts}
use Rattle.net_dev.proofs.laws.frame_says_its_parts.Goals as goal

pub returns : goal.returns
returns c = frame_says_its_parts
