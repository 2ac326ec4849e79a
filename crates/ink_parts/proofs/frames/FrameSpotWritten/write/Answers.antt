use Rattle.ink_parts.proofs.Common.{map_frame, place_of, story_tree}
use Rattle.ink_parts.proofs.Arrays.{object_made}
use Rattle.ink_parts.specs.Written.{frame_members}
use Rattle.ink_parts.proofs.frames.FrameSpotWritten.write.Goals as goal

pub returns : goal.returns
returns c = object_made (frame_members (map_frame (place_of (story_tree c.args.tree.now)) c.args.self.now)) _ _ c.new-members.ensures.empty c.in_ok-add_frame.ensures
