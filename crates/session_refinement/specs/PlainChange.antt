-- The change of a plain session that a change of a kept one stands for.
use Rattle.std.specs.Prelude.{List}
use Rattle.session_model.specs.declared.entry.Entry.{Entry}
use Rattle.session_model.specs.Change as session
use Rattle.session_state.specs.declared.change.Change.{Change}
use Rattle.session_state.specs.declared.change.Effect.{Effect}
use Rattle.session_state.specs.declared.change.Effect.TheVariants.{Began, Ended, Bound, Parted, Subscribed, Replaced}
use Rattle.session_state.specs.declared.change.Effect.TheVariants.{Unsubscribed, Issued, Acked, Received, Done, Passed}

-- A batch stands for the entries that it was issued as; each other effect has its plain one.
abbrev pub plain_effect : List Entry → Effect → session.Effect
plain_effect entries (Began b) = session.Began
    (record { incarnation = b.incarnation; expiry = b.expiry; window = b.window })
plain_effect entries Ended = session.Ended
plain_effect entries (Bound expiry) = session.Bound expiry
plain_effect entries (Parted p) = session.Parted (record { expiry = p.expiry; moment = p.moment })
plain_effect entries (Subscribed s) = session.Subscribed s
plain_effect entries (Replaced r) =
    session.Replaced
    (record { subscription = r.subscription; version = r.version; options = r.options; identifier = r.identifier })
plain_effect entries (Unsubscribed number) = session.Unsubscribed number
plain_effect entries (Issued i) = session.Issued
    (record { subscription = i.subscription; shard = i.batch.shard; entries = entries; sweep = i.sweep })
plain_effect entries (Acked number) = session.Acked number
plain_effect entries (Received number) = session.Received number
plain_effect entries (Done number) = session.Done number
plain_effect entries (Passed p) = session.Passed (record { track = p.track; number = p.number })

abbrev pub plain_change : List Entry → Change → session.Change
plain_change entries c = record { client = c.client; effect = plain_effect entries c.effect }
