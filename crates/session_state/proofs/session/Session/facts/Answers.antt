use Rattle.std.proofs.Common.{subst}
use Rattle.session_state.specs.Sound.{IsSound}
use Rattle.session_state.specs.CountLaws.{few_versions}
use Rattle.session_state.specs.SoundLaws.{few_batches, test_from_sound}
use Rattle.session_state.proofs.session.Session.facts.Goals as goal

pub returns : goal.returns
returns c =
    let sound = subst IsSound c.self.view_is c.self.invariant in
    let test = test_from_sound c.args.self.now sound in
    record { sound = test; within = sound.within; batches = few_batches c.args.self.now test; versions = few_versions c.args.self.now test }
