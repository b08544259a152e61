-- The kept sessions of a worker that stand for the plain ones go on to do so through each change that fits.
use Rattle.std.proofs.Common.{◌≡◌, ℕ, true, false, List, [], ◌∷◌, not, Option, Some, None, bytes_eq, true≢false, refl}
use Rattle.std.proofs.Common.{sym, subst, ◌∙◌}
use Rattle.std.proofs.lemmas.List.{map-append}
use Rattle.topic_model.specs.Profile.{Profile}
use Rattle.shard_model.specs.ShardList.{ShardList}
use Rattle.session_model.specs.declared.entry.Entry.{Entry}
use Rattle.session_model.specs.PlainSession as session
use Rattle.session_model.specs.PlainSession.{PlainSession, begun_session}
use Rattle.session_model.specs.Acting as acting
use Rattle.session_model.specs.Acting.{changed_session}
use Rattle.session_model.specs.laws.OtherLaws.{keeps_client}
use Rattle.session_model.specs.FitsSession as fits
use Rattle.session_model.specs.FitsSession.{suits}
use Rattle.session_state.specs.declared.change.Effect.{Effect}
use Rattle.session_state.specs.declared.change.Effect.TheVariants.{Began, Ended, Bound, Parted, Subscribed, Replaced}
use Rattle.session_state.specs.declared.change.Effect.TheVariants.{Unsubscribed, Issued, Acked, Received, Done, Passed}
use Rattle.session_state.specs.KeptSession.{KeptSession, KeptSessions, begun_kept}
use Rattle.session_state.specs.KeptActing.{on_session, kept_changed, acted_on}
use Rattle.session_refinement.specs.PlainChange.{plain_effect}
use Rattle.session_refinement.specs.StandFor.{KeepsSome, StandsFor, Pairwise, SessionsKeep, SessionsStandFor}
use Rattle.session_refinement.specs.StandFor.{HaveOwnClients, clients_of}
use Rattle.session_refinement.specs.Issuing.{AreLists, IsOver}
use Rattle.session_refinement.specs.laws.ListLaws.{filter_mapped}
use Rattle.session_refinement.specs.laws.SessionLaws.{none_found, distinct_pushed, distinct_filtered, clients_on}
use Rattle.session_refinement.specs.laws.SessionLaws.{on_one, pushed, without}
use Rattle.session_refinement.specs.laws.StandLaws.{begun_stands, changed_stands}
use Rattle.session_refinement.specs.laws.StandIssueLaws.{issued_stands}

-- each change, a batch too
pub effect_stands : (profile : Profile) (lists : List ShardList) (k : KeptSession) (m : PlainSession)
    (entries : List Entry) (effect : Effect) → AreLists lists → StandsFor profile lists k m →
    suits m (plain_effect entries effect) ≡ true → IsOver profile lists m effect entries →
    StandsFor profile lists (kept_changed effect k) (changed_session (plain_effect entries effect) m)
effect_stands profile lists k m entries (Began b) are h fit over =
    changed_stands profile lists k m entries (Began b) are h refl fit tt
effect_stands profile lists k m entries Ended are h fit over =
    changed_stands profile lists k m entries Ended are h refl fit tt
effect_stands profile lists k m entries (Bound e) are h fit over =
    changed_stands profile lists k m entries (Bound e) are h refl fit tt
effect_stands profile lists k m entries (Parted p) are h fit over =
    changed_stands profile lists k m entries (Parted p) are h refl fit tt
effect_stands profile lists k m entries (Subscribed s) are h fit over =
    changed_stands profile lists k m entries (Subscribed s) are h refl fit over
effect_stands profile lists k m entries (Replaced r) are h fit over =
    changed_stands profile lists k m entries (Replaced r) are h refl fit tt
effect_stands profile lists k m entries (Unsubscribed n) are h fit over =
    changed_stands profile lists k m entries (Unsubscribed n) are h refl fit tt
effect_stands profile lists k m entries (Issued i) are h fit over = issued_stands profile lists k m i entries h fit over
effect_stands profile lists k m entries (Acked n) are h fit over =
    changed_stands profile lists k m entries (Acked n) are h refl fit tt
effect_stands profile lists k m entries (Received n) are h fit over =
    changed_stands profile lists k m entries (Received n) are h refl fit tt
effect_stands profile lists k m entries (Done n) are h fit over =
    changed_stands profile lists k m entries (Done n) are h refl fit tt
effect_stands profile lists k m entries (Passed p) are h fit over =
    changed_stands profile lists k m entries (Passed p) are h refl fit tt

module _ (profile : Profile) (lists : List ShardList) where
  same_client : (k : KeptSession) (m : PlainSession) → StandsFor profile lists k m → k.client ≡ m.client
  same_client k m h = h.keeps.client

  keep_each : (ks : List KeptSession) (ms : List PlainSession) → Pairwise (StandsFor profile lists) ks ms →
      Pairwise KeepsSome ks ms
  keep_each [] [] h = tt
  keep_each [] (m ∷ ms) h = absurd h
  keep_each (k ∷ ks) [] h = absurd h
  keep_each (k ∷ ks) (m ∷ ms) h = ((h.0.groups, h.0.keeps), keep_each ks ms h.1)

  -- what stands for sessions keeps what it needs of them
  pub standing_keeps : (kept : KeptSessions) (plain : session.Sessions) → SessionsStandFor profile lists kept plain →
      SessionsKeep kept plain
  standing_keeps kept plain h =
      record { list = keep_each kept.list plain.list h.list; next = h.next; distinct = h.distinct }

  held : (kept : KeptSessions) (plain : session.Sessions) (entries : List Entry) (client : List ℕ) (effect : Effect) →
      AreLists lists → SessionsStandFor profile lists kept plain →
      (o : Option PlainSession) → session.session_of client plain ≡ o →
      fits.may_begin plain (plain_effect entries effect) ≡ false →
      fits.finds plain (plain_effect entries effect) o ≡ true →
      ((m : PlainSession) → session.session_of client plain ≡ Some m → IsOver profile lists m effect entries) →
      SessionsStandFor profile lists (record kept { list = on_session client (kept_changed effect) kept.list })
      (record plain { list = acting.on_session client (changed_session (plain_effect entries effect)) plain.list })
  held kept plain entries client effect are h None is no_begin found over = absurd (true≢false (sym found ∙ no_begin))
  held kept plain entries client effect are h (Some m) is no_begin found over =
      record {
        list =
            on_one (StandsFor profile lists) same_client client (kept_changed effect)
            (changed_session (plain_effect entries effect)) kept.list plain.list m h.list h.distinct is
            (λ k stands. effect_stands profile lists k m entries effect are stands found (over m is));
        next = h.next;
        distinct =
            subst HaveOwnClients
            (sym
            (clients_on client (changed_session (plain_effect entries effect))
            (keeps_client (plain_effect entries effect)) plain.list)) h.distinct;
      }

  pub acted_stands : (kept : KeptSessions) (plain : session.Sessions) (entries : List Entry) (client : List ℕ)
      (effect : Effect) → AreLists lists → SessionsStandFor profile lists kept plain →
      fits.finds plain (plain_effect entries effect) (session.session_of client plain) ≡ true →
      ((m : PlainSession) → session.session_of client plain ≡ Some m → IsOver profile lists m effect entries) →
      SessionsStandFor profile lists (acted_on client effect kept)
      (acting.act_effect client (plain_effect entries effect) plain)
  acted_stands kept plain entries client (Began b) are h found over = by (session.session_of client plain) refl found
    where
      by : (o : Option PlainSession) → session.session_of client plain ≡ o →
          fits.finds plain (plain_effect entries (Began b)) o ≡ true →
          SessionsStandFor profile lists (acted_on client (Began b) kept)
          (acting.act_effect client (plain_effect entries (Began b)) plain)
      by (Some m) is found = absurd (true≢false (sym found))
      by None is found =
          record {
            list =
                pushed (StandsFor profile lists) same_client kept.list plain.list
                (begun_kept client b.incarnation b.expiry b.window)
                (begun_session client b.incarnation b.expiry b.window) h.list
                (begun_stands profile lists client b.incarnation b.expiry b.window);
            next = refl;
            distinct =
                subst HaveOwnClients
                (sym
                (map-append (λ (m : PlainSession). m.client) plain.list
                (begun_session client b.incarnation b.expiry b.window ∷ [])))
                (distinct_pushed (clients_of plain.list) client (none_found client plain.list is) h.distinct);
          }
  acted_stands kept plain entries client Ended are h found over =
      record {
        list = without (StandsFor profile lists) same_client client kept.list plain.list h.list;
        next = h.next;
        distinct =
            subst HaveOwnClients
            (filter_mapped (λ (c : List ℕ). not (bytes_eq c client)) (λ (m : PlainSession). m.client) plain.list)
            (distinct_filtered (λ (c : List ℕ). not (bytes_eq c client)) (clients_of plain.list) h.distinct);
      }
  acted_stands kept plain entries client (Bound e) are h found over =
      held kept plain entries client (Bound e) are h (session.session_of client plain) refl refl found over
  acted_stands kept plain entries client (Parted p) are h found over =
      held kept plain entries client (Parted p) are h (session.session_of client plain) refl refl found over
  acted_stands kept plain entries client (Subscribed s) are h found over =
      held kept plain entries client (Subscribed s) are h (session.session_of client plain) refl refl found over
  acted_stands kept plain entries client (Replaced r) are h found over =
      held kept plain entries client (Replaced r) are h (session.session_of client plain) refl refl found over
  acted_stands kept plain entries client (Unsubscribed n) are h found over =
      held kept plain entries client (Unsubscribed n) are h (session.session_of client plain) refl refl found over
  acted_stands kept plain entries client (Issued i) are h found over =
      held kept plain entries client (Issued i) are h (session.session_of client plain) refl refl found over
  acted_stands kept plain entries client (Acked n) are h found over =
      held kept plain entries client (Acked n) are h (session.session_of client plain) refl refl found over
  acted_stands kept plain entries client (Received n) are h found over =
      held kept plain entries client (Received n) are h (session.session_of client plain) refl refl found over
  acted_stands kept plain entries client (Done n) are h found over =
      held kept plain entries client (Done n) are h (session.session_of client plain) refl refl found over
  acted_stands kept plain entries client (Passed p) are h found over =
      held kept plain entries client (Passed p) are h (session.session_of client plain) refl refl found over
