-- The number of frames of a group, frame by frame.
use Rattle.layout.proofs.PassedFrames.{group_begins, no_group_begins, one_frame_nearer, opens_one, at_the_end, no_frame_left}

-- What a walk to the end of a group needs, frame by frame.
pub ruleset group_steps = (group_begins, no_group_begins, one_frame_nearer, opens_one, at_the_end, no_frame_left)
