-- What holds of every session that is held.
use Rattle.std.specs.Prelude.{◌≡◌, ℕ, List, true}
use Rattle.topic_model.specs.Profile.{whole}
use Rattle.session_state.specs.KeptSession.{KeptSession, AreKeyed, sessions_in}
use Rattle.session_state.specs.KeptActing.{kept_batches, kept_versions, kept_subs}
use Rattle.session_state.specs.KeptFits.{kept_within, kept_are_within}
use Rattle.session_state.specs.SoundTest.{has_facts}

-- it has nothing that isn't needed: each batch has an unfinished number, each version is named, and each ended subscription has a version
pub record IsTidy (m : KeptSession) : Type 0 where
  pub batches : kept_batches m.tracks m.batches ≡ m.batches
  pub versions : kept_versions m.subs m.batches m.versions ≡ m.versions
  pub subs : kept_subs m.versions m.subs ≡ m.subs

-- and it is within the limits, and has the facts that the test asks for
pub record IsSound (m : KeptSession) : Type 0 where
  pub tidy : IsTidy m
  pub within : kept_within whole m ≡ true
  pub facts : has_facts m ≡ true

-- of the sessions of a worker, as entries of a map by client, with the number of the next one
pub record AreSound (entries : List (List ℕ × KeptSession)) (next : ℕ) : Type 0 where
  pub keyed : AreKeyed entries
  pub within : kept_are_within whole (record { list = sessions_in entries; next = next }) ≡ true
