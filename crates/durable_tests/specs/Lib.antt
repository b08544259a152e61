pub mod PlainHeld
