-- What a framer answers at a bad header.
use Rattle.mqtt_frame.specs.declared.refused.BadHeader.{BadHeader}
use Rattle.mqtt_frame.specs.declared.refused.BadHeader.TheVariants.{Length, Size}
use Rattle.mqtt_frame.specs.declared.refused.FrameRefused.{FrameRefused}
use Rattle.mqtt_frame.specs.declared.refused.FrameRefused.TheVariants.{TooLarge, BadLength}

abbrev pub refusal_of : BadHeader → FrameRefused
refusal_of Length = BadLength
refusal_of Size = TooLarge
