use Rattle.frames.proofs.LayoutLaws.{frames_carry, only_frames_carry}
use Rattle.frames.proofs.laws.layouts.Goals as goal

pub returns : goal.returns
returns c = record { carry = frames_carry; only = only_frames_carry }
