use Rattle.ledger_laws.proofs.laws.every_frame_comes_once.Goals as goal
use Rattle.ledger_laws.proofs.FramesInOrder.{every_frame_comes_once}

pub returns : goal.returns
returns c = every_frame_comes_once
