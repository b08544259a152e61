-- What a pump of a connection issues, as a relation to what its session may be issued.
use Rattle.std.specs.Prelude.{ℕ, ◌≡◌, true, List, slice_get, Some}
use Rattle.topic_model.specs.Profile.{Profile}
use Rattle.topic_model.specs.StoredMessage.{StoredMessage}
use Rattle.shard_model.specs.ShardList.{ShardList}
use Rattle.shard_model.specs.SweepOrder.{is_in_order}
use Rattle.shard_model.specs.Lists.{IsList}
use Rattle.topic_model.specs.Places.{HasPlace}
use Rattle.session_model.specs.declared.entry.Version.{Version}
use Rattle.session_model.specs.PlainSession.{PlainSession, version_numbered}
use Rattle.session_model.specs.Change.{Issues}
use Rattle.turn_model.specs.PlainConnection.{PlainConnection}
use Rattle.turn_model.specs.Pump.{Pair, pairs_of}
use Rattle.turn_model.specs.MayIssue.{Issuing, MayIssue, wanted_by, was_issued}
use Rattle.turn_model.specs.Counting.{CountsIssued, issued_to}

-- a session and its connection at a moment, with a pair of a live subscription and a shard, and this list of the shard
abbrev pub issuing_pair : PlainSession → PlainConnection → ℕ → Pair → Version → ShardList → Issuing
issuing_pair m k now p v list =
    record {
      session = m;
      connection = k;
      now = now;
      subscription = p.subscription;
      version = v;
      shard =
          p.shard;
      start = p.start;
      list = list;
    }

-- the list of a pair's shard is in order, and the pair's sweep is in order and counts what was issued
pub record IsReady (profile : Profile) (i : Issuing) (p : Pair) : Type 0 where
  pub list : IsList i.list
  pub order : is_in_order profile i.list i.start p.sweep ≡ true
  pub counts : CountsIssued profile i p.sweep

-- each pair of a live subscription and a shard is
abbrev pub AreReady : Profile → ℕ → PlainSession → PlainConnection → List ShardList → Type 0
AreReady profile now m k lists =
    (p : Pair) (v : Version) (list : ShardList) → HasPlace (pairs_of m) p → slice_get lists p.shard ≡ Some list →
    version_numbered p.subscription.version m ≡ Some v →
    IsReady profile (issuing_pair m k now p v list) p

-- A batch of one of the pairs: it may be issued, and the sweep behind it is in order and counts what is issued then.
pub record IsPumped (profile : Profile) (now : ℕ) (m : PlainSession) (k : PlainConnection) (lists : List ShardList)
    (b : Issues) : Type 0 where
  pub pair : Pair
  pub version : Version
  pub list : ShardList
  pub messages : List StoredMessage
  pub has_pair : HasPlace (pairs_of m) pair
  pub has_list : slice_get lists pair.shard ≡ Some list
  pub has_version : version_numbered pair.subscription.version m ≡ Some version
  pub may_issue : MayIssue profile (issuing_pair m k now pair version list) b messages
  pub order : is_in_order profile list pair.start b.sweep ≡ true
  pub counts : CountsIssued profile (issued_to (issuing_pair m k now pair version list) b) b.sweep

-- each message that a pair wants was issued
abbrev pub AllIssued : ℕ → PlainSession → PlainConnection → List ShardList → Type 0
AllIssued now m k lists =
    (p : Pair) (v : Version) (list : ShardList) → HasPlace (pairs_of m) p → slice_get lists p.shard ≡ Some list →
    version_numbered p.subscription.version m ≡ Some v →
    (w : StoredMessage) → HasPlace (wanted_by (issuing_pair m k now p v list)) w →
    was_issued (issuing_pair m k now p v list) w.offset ≡ true
