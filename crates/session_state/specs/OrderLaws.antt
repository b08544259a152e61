-- A change that fits leaves the tracks of a session in order.
use Rattle.std.proofs.Common.{◌≡◌, ℕ, ◌+◌, ◌≤◌, ◌<◌, true, ◌&&◌, ◌||◌, not, ◌==◌, nat_le, nat_lt}
use Rattle.std.proofs.lemmas.Bool.{and_parts, leb-true, ltb-true}
use Rattle.session_model.specs.FitsSession.{is_between}
use Rattle.seq_tracks.specs.PlainTracks.{PlainTracks, has_room_for, is_done, last_of, mark_of}
use Rattle.seq_tracks.specs.InOrder.{InOrder}
use Rattle.seq_tracks.specs.KeepLaws.{acked_in_order, received_in_order, done_in_order, passed_in_order, issued_in_order}
use Rattle.session_state.specs.declared.change.Effect.{Effect}
use Rattle.session_state.specs.declared.change.Effect.TheVariants.{Began, Ended, Bound, Parted, Subscribed, Replaced, Unsubscribed, Issued, Acked, Received, Done, Passed}
use Rattle.session_state.specs.declared.change.Issued.{Issued as Issuing}
use Rattle.session_state.specs.declared.change.Passed.{Passed as Passing}
use Rattle.session_state.specs.KeptSession.{KeptSession, sub_numbered}
use Rattle.session_state.specs.KeptActing.{kept_changed}
use Rattle.session_state.specs.KeptFits.{goes_on, is_issuing, issues, kept_suits, passes}

-- above a mark and not past the last
record Between (mark last number : ℕ) : Type 0 where
  above : mark < number
  to : number ≤ last

between : (mark last number : ℕ) → is_between mark last number ≡ true → Between mark last number
between mark last number is =
    let parts = and_parts (nat_lt mark number) (nat_le number last) is in
    record { above = ltb-true mark number parts.0; to = leb-true number last parts.1 }

has_room : (m : KeptSession) (i : Issuing) → issues m i ≡ true → has_room_for m.tracks i.batch.count1 i.batch.count2 ≡ true
has_room m i is =
    let b = i.batch in
    let room = has_room_for m.tracks b.count1 b.count2 in
    let second = b.first2 == m.tracks.issued2 + 1 in
    let p = and_parts (is_issuing b (sub_numbered i.subscription m)) (nat_lt b.from b.to && goes_on m.tracks b) is in
    let q = and_parts (nat_lt b.from b.to) (goes_on m.tracks b) p.1 in
    let r = and_parts (b.first1 == m.tracks.issued1 + 1) (second && room) q.1 in
    (and_parts second room r.1).1

passed : (t : PlainTracks) (p : Passing) → passes t p ≡ true → Between (mark_of t p.track) (last_of t p.track) p.number
passed t p is =
    between (mark_of t p.track) (last_of t p.track) p.number
    (and_parts ((p.track == 1) || (p.track == 2)) (is_between (mark_of t p.track) (last_of t p.track) p.number) is).1

pub order_changed : (m : KeptSession) (effect : Effect) → InOrder m.tracks → kept_suits m effect ≡ true → InOrder (kept_changed effect m).tracks
order_changed m (Began b) h is = h
order_changed m Ended h is = h
order_changed m (Bound expiry) h is = h
order_changed m (Parted p) h is = h
order_changed m (Subscribed s) h is = h
order_changed m (Replaced r) h is = h
order_changed m (Unsubscribed number) h is = h
order_changed m (Issued i) h is = issued_in_order m.tracks i.batch.count1 i.batch.count2 h (has_room m i is)
order_changed m (Acked number) h is =
    let b = between m.tracks.acked m.tracks.issued1 number is in acked_in_order m.tracks number h b.above b.to
order_changed m (Received number) h is =
    let b = between m.tracks.received m.tracks.issued2 number is in received_in_order m.tracks number h b.above b.to
order_changed m (Done number) h is =
    done_in_order m.tracks number h (leb-true number m.tracks.received (and_parts (nat_le number m.tracks.received) (not (is_done m.tracks number)) is).0)
order_changed m (Passed p) h is =
    let b = passed m.tracks p is in passed_in_order m.tracks p.track p.number h b.above b.to
