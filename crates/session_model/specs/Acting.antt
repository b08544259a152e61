-- How changes act on the sessions of a worker.
use Rattle.std.specs.Prelude.{ℕ, zero, suc, ◌+◌, ◌-◌, Bool, true, false, not, ◌==◌, if◌then◌else◌, List, [], ◌∷◌, ◌++◌}
use Rattle.std.specs.Prelude.{map, filter, slice_set, Some, None}
use Rattle.std.specs.Str.{bytes_eq}
use Rattle.shard_model.specs.declared.sweep.Sweep.{Sweep}
use Rattle.session_model.specs.PlainSession.{PlainSession, Subscription, Sessions, begun_session}
use Rattle.session_model.specs.Change.{Change, Effect, Began, Ended, Bound, Parted, Subscribed, Replaced, Unsubscribed}
use Rattle.session_model.specs.Change.{Issued, Acked, Received, Done, Passed, Subscribes, Replaces, Issues, Passes}

-- ---- one session

abbrev pub subscribed_session : Subscribes → PlainSession → PlainSession
subscribed_session s m =
    record m {
      subscriptions = m.subscriptions ++ record {
        number = s.subscription;
        live = true;
        version = s.version;
        filter = s.filter;
        starts = map (λ (w : Sweep). w.position) s.sweeps;
        sweeps = s.sweeps;
      } ∷ [];
      versions =
          m.versions
          ++ record {
            number = s.version;
            subscription = s.subscription;
            options = s.options;
            identifier =
                s.identifier;
          } ∷ [];
    }

-- one of them, if it is the one that is meant; for the others the change isn't computed
abbrev pub changed_if : {A : Type 0} → Bool → (A → A) → A → A
changed_if true f x = f x
changed_if false f x = x

abbrev pub on_subscription : ℕ → (Subscription → Subscription) → List Subscription → List Subscription
on_subscription number f [] = []
on_subscription number f (s ∷ ss) = changed_if (s.number == number) f s ∷ on_subscription number f ss

abbrev pub replaced_session : Replaces → PlainSession → PlainSession
replaced_session r m =
    record m {
      subscriptions = on_subscription r.subscription (λ s. record s { version = r.version }) m.subscriptions;
      versions =
          m.versions
          ++ record {
            number = r.version;
            subscription = r.subscription;
            options = r.options;
            identifier =
                r.identifier;
          } ∷ [];
    }

abbrev pub unsubscribed_session : ℕ → PlainSession → PlainSession
unsubscribed_session number m = record m
    { subscriptions = on_subscription number (λ s. record s { live = false }) m.subscriptions }

abbrev pub issued_session : Issues → PlainSession → PlainSession
issued_session i m =
    record m {
      subscriptions = on_subscription i.subscription
          (λ s. record s { sweeps = slice_set s.sweeps i.shard i.sweep }) m.subscriptions;
      issued = m.issued ++ i.entries;
    }

-- so many numbers from one on
abbrev pub numbers_from : ℕ → ℕ → List ℕ
numbers_from n zero = []
numbers_from n (suc more) = n ∷ numbers_from (n + 1) more

-- the numbers between the old mark and the new one were passed over, and are done
abbrev pub received_session : ℕ → PlainSession → PlainSession
received_session number m = record m
    { received = number; done = m.done ++ numbers_from (m.received + 1) (number - (m.received + 1)) }

abbrev pub done_session : ℕ → PlainSession → PlainSession
done_session number m = record m { done = m.done ++ number ∷ [] }

-- on track 2 what was passed over is received and done
abbrev pub passed_session : Passes → PlainSession → PlainSession
passed_session p m =
    if p.track == 1 then record m { acked = p.number }
    else record m { received = p.number; done = m.done ++ numbers_from (m.received + 1) (p.number - m.received) }

-- of a session that is held
abbrev pub changed_session : Effect → PlainSession → PlainSession
changed_session (Began b) m = m
changed_session Ended m = m
changed_session (Bound expiry) m = record m { expiry = expiry; parted = None }
changed_session (Parted p) m = record m { expiry = p.expiry; parted = Some p.moment }
changed_session (Subscribed s) m = subscribed_session s m
changed_session (Replaced r) m = replaced_session r m
changed_session (Unsubscribed number) m = unsubscribed_session number m
changed_session (Issued i) m = issued_session i m
changed_session (Acked number) m = record m { acked = number }
changed_session (Received number) m = received_session number m
changed_session (Done number) m = done_session number m
changed_session (Passed p) m = passed_session p m

-- ---- the sessions of a worker

abbrev pub on_session : List ℕ → (PlainSession → PlainSession) → List PlainSession → List PlainSession
on_session client f [] = []
on_session client f (m ∷ ms) = changed_if (bytes_eq m.client client) f m ∷ on_session client f ms

abbrev pub without_session : List ℕ → List PlainSession → List PlainSession
without_session client ms = filter (λ (m : PlainSession). not (bytes_eq m.client client)) ms

-- a session that begins is the newest; one that ends is gone; each other change is made to the session of its client
abbrev pub act_effect : List ℕ → Effect → Sessions → Sessions
act_effect client (Began b) s =
    record { list = s.list ++ begun_session client b.incarnation b.expiry b.window ∷ []; next = b.incarnation + 1 }
act_effect client Ended s = record s { list = without_session client s.list }
act_effect client effect s = record s { list = on_session client (changed_session effect) s.list }

abbrev pub act_one : Sessions → Change → Sessions
act_one sessions c = act_effect c.client c.effect sessions

-- after several changes, in order
abbrev pub act_all : Sessions → List Change → Sessions
act_all sessions [] = sessions
act_all sessions (c ∷ changes) = act_all (act_one sessions c) changes
