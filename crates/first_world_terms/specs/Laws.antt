-- What holds at the end of every run of a script's lines.
use Rattle.std.specs.Prelude.{ℕ, ◌≡◌, List, slice_get, Some}
use Rattle.std.specs.List.{Contains}
use Rattle.first_session_terms.specs.PlainSession.{PlainSession, Subscription}
use Rattle.first_session_terms.specs.IssuedPrefix.{IsIssuedPrefix}
use Rattle.first_world_terms.specs.World.{World, Worker, Shard, sessions_of}

-- Of each topic in each shard, every subscription of every session of a worker has been issued a prefix of the stored
-- messages that it wants.
abbrev pub IssuesPrefixes : World → Type 0
IssuesPrefixes world =
    (worker : Worker) (m : PlainSession) (sub : Subscription) (shard start : ℕ) (s : Shard) (topic : List (List ℕ))
    → Contains world.workers worker → Contains (sessions_of worker) m → Contains m.subscriptions sub
    → slice_get sub.starts shard ≡ Some start → slice_get world.shards shard ≡ Some s
    → IsIssuedPrefix m sub shard start s.stored topic
