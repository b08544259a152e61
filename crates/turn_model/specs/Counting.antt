-- When a sweep counts what a session was issued, and when a run comes next for it.
use Rattle.std.specs.Prelude.{◌≡◌, true, List, [], Some}
use Rattle.topic_model.specs.Profile.{Profile}
use Rattle.topic_model.specs.StoredMessage.{StoredMessage}
use Rattle.shard_model.specs.declared.sweep.Sweep.{Sweep}
use Rattle.shard_model.specs.ShardList.{ShardList}
use Rattle.shard_model.specs.SweepOrder.{Run, next_run, is_issued_by, is_in_order}
use Rattle.shard_model.specs.Lists.{IsList}
use Rattle.session_model.specs.Change.{Issues}
use Rattle.session_model.specs.Acting.{issued_session}
use Rattle.turn_model.specs.PlainConnection.{rest_of}
use Rattle.turn_model.specs.Batch.{pump_limit, cut_run, next1_of, next2_of}
use Rattle.turn_model.specs.Pump.{issues_of}
use Rattle.topic_model.specs.Places.{HasPlace}
use Rattle.turn_model.specs.MayIssue.{Issuing, reader_of, wanted_by, was_issued}

-- a wanted message was issued exactly where the sweep counts it as issued
abbrev pub CountsIssued : Profile → Issuing → Sweep → Type 0
CountsIssued profile i sweep = (w : StoredMessage) → HasPlace (wanted_by i) w →
    was_issued i w.offset ≡ is_issued_by profile i.list sweep w.offset

-- A run comes next: the list is in order, the subscription is live, and nothing is left to be sent again; the sweep is
-- in order and counts what was issued; and the run is the next one, of as many messages as may be issued.
pub record ComesNext (profile : Profile) (i : Issuing) (sweep : Sweep) (run : Run) : Type 0 where
  pub list : IsList i.list
  pub live : i.subscription.live ≡ true
  pub first : rest_of i.session i.connection ≡ []
  pub order : is_in_order profile i.list i.start sweep ≡ true
  pub counts : CountsIssued profile i sweep
  pub next : next_run profile i.subscription.filter i.start i.list sweep (pump_limit profile i.session i.connection)
      ≡ Some run

-- the messages that a pump takes of a run, and what it issues
abbrev pub taken_of : Profile → Issuing → Run → List StoredMessage
taken_of profile i run = cut_run profile i.now (reader_of i) (next1_of i.session) (next2_of i.session) run.messages

abbrev pub batch_of : Profile → Issuing → Run → Issues
batch_of profile i run = issues_of (reader_of i) i.session i.now (taken_of profile i run) run.sweep

-- after a batch
abbrev pub issued_to : Issuing → Issues → Issuing
issued_to i b = record i { session = issued_session b i.session }

-- over another list of the shard
abbrev pub seen_by : Issuing → ShardList → Issuing
seen_by i list = record i { list = list }
