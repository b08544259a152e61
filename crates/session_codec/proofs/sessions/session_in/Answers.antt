use Rattle.std.proofs.Common.{◌≡◌, Bool, true, false, if◌then◌else◌, List, ℕ, Option, Some, None, drop, refl, ap, ◌∙◌}
use Rattle.session_state.specs.KeptSession.{KeptSession}
use Rattle.session_state.specs.SoundTest.{is_sound}
use Rattle.session_codec.specs.Parts.{session_with}
use Rattle.session_codec.proofs.sessions.session_in.Goals as goal

-- what passed is what was given
found_with : List ℕ → Option KeptSession → Option (KeptSession × List ℕ)
found_with rest None = None
found_with rest (Some m) = Some (m, rest)

passed : (m : KeptSession) (rest : List ℕ) (b : Bool) → if◌then◌else◌ {A = Option (KeptSession × List ℕ)} b (Some (m, rest)) None ≡ found_with rest (if b then Some m else None)
unfolding found_with
passed m rest true = refl
passed m rest false = refl

pub returns : goal.returns
unfolding found_with
returns c =
    let m = session_with c.in_ok-holder.holder c.in_ok-kept.kept in
    record {
      exact = rw (c.in_ok-holder.ensures.exact, c.in_ok-kept.ensures.exact)
          (passed m (drop c.kept_in.new.at c.args.bytes.now) (is_sound m) ∙ ap (found_with (drop c.kept_in.new.at c.args.bytes.now)) c.in_ok-session.ensures.exact);
    }
