use Rattle.std.proofs.Common.{◌≡◌, drop}
use Rattle.session_state.specs.SoundTest.{rise, sub_numbers}
use Rattle.session_state.proofs.sound.sub_numbers_rise.Given as goal

-- those that are left tell
abbrev pub invariant-loop-sub : goal.invariant-loop-sub
invariant-loop-sub l = rise 0 l.next (sub_numbers l.subs) ≡ rise l.low l.next (sub_numbers (drop l.sub-index l.subs))
