use Rattle.std.proofs.Common.{◌≡◌, drop}
use Rattle.session_state.specs.SoundTest.{rise, version_numbers}
use Rattle.session_state.proofs.sound.version_numbers_rise.Given as goal

-- those that are left tell
abbrev pub invariant-loop-version : goal.invariant-loop-version
invariant-loop-version l = rise 0 l.next (version_numbers l.versions) ≡ rise l.low l.next (version_numbers (drop l.version-index l.versions))
