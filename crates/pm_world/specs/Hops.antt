-- the links of a world by their names

use Rattle.std.specs.Prelude.{List, [], Option, Some, None, slice_get}
use Rattle.fis_view.specs.Frames.{Stamped}
use Rattle.pm_world.specs.{Places.{Place, Places}, declared.hop.Hop.{Hop, TheVariants.{HostToPm, PmToHost, DeviceToPm, PmToDevice}}}

-- the frames on their way from a device, oldest first; none if there is no such port
abbrev pub frames_from : Option Place → List Stamped
frames_from None = []
frames_from (Some place) = place.up.frames

-- the frames on their way to a device
abbrev pub frames_to : Option Place → List Stamped
frames_to None = []
frames_to (Some place) = place.down.frames

-- the frames on a link, oldest first
abbrev pub frames_on : Hop → Places → List Stamped
frames_on HostToPm w = w.downward.frames
frames_on PmToHost w = w.upward.frames
frames_on (DeviceToPm n) w = frames_from (slice_get w.devices n)
frames_on (PmToDevice n) w = frames_to (slice_get w.devices n)
