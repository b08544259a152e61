-- Behind every move of the world what was put out, or is due, is committed.
use Rattle.std.proofs.Common.{◌≡◌, ◌⊎◌, inl, inr, ℕ, ◌<◌, Bool, true, false, ◌&&◌, not, List, [], ◌∷◌, ◌++◌, filter}
use Rattle.std.proofs.Common.{find, map}
use Rattle.std.proofs.Common.{is_some, if◌then◌else◌, take, drop, ◌+◌, slice_get, replicate, Option, Some, None, refl}
use Rattle.std.proofs.Common.{sym, ap, subst, ◌∙◌}
use Rattle.std.specs.Prelude.{◌==◌, bytes_eq}
use Rattle.std.proofs.lemmas.Bool.{eqb-true, and_parts}
use Rattle.std.proofs.lemmas.List.{append-nil}
use Rattle.std.proofs.lemmas.Option.{none-some, same_Some}
use Rattle.topic_model.specs.Profile.{Profile, Config}
use Rattle.topic_model.specs.Places.{HasPlace}
use Rattle.shard_model.specs.ShardList.{ShardList, opening_list}
use Rattle.shard_model.specs.SweepOrder.{counted_from}
use Rattle.session_model.specs.declared.entry.Entry.{Entry}
use Rattle.session_model.specs.PlainSession.{PlainSession, Sessions}
use Rattle.session_model.specs.Unfinished.{is_finished, unfinished}
use Rattle.session_model.specs.Change.{Issues}
use Rattle.session_model.specs.Acting.{act_all}
use Rattle.session_model.specs.Ends.{is_over}
use Rattle.mqtt_packet.specs.Packet.{PlainPacket, ConnectFields}
use Rattle.turn_model.specs.PlainConnection.{PlainConnection, without_connection, on_connection, after_packets}
use Rattle.turn_model.specs.Resend.{resend_of, resent_connection, is_passed_at_bind, entries_with, issued_pairs}
use Rattle.turn_model.specs.Worker.{Worker, Item, Answer, Answers, Accepts, Delivers, PendingRecord, Note, note}
use Rattle.turn_model.specs.Worker.{Delivered}
use Rattle.turn_model.specs.Worker.{SentAgain, opening_worker, setting_of, sessions_of, connection_in, session_in}
use Rattle.turn_model.specs.Worker as Worker
use Rattle.turn_model.specs.Records.{Cause, OfPackets, OfConnect, OfPump, OfTick, OfOwed, record_of, partings_owed}
use Rattle.turn_model.specs.Records.{item, with_record, handed_on, moment_left, record_resolved, session_at}
use Rattle.turn_model.specs.WorkerMoves.{WorkerMove, stored_steps, stored_answer, aged_item, aged_pending, item_if}
use Rattle.turn_model.specs.WorkerMoves.{item_at, batch_pairs, after_answer}
use Rattle.turn_model.specs.WorkerMoves.{noted_answer, without_item, kept_item, kept_pending, without_items}
use Rattle.turn_model.specs.WorkerMoves.{without_bound}
use Rattle.turn_model.specs.WorkerMoves.{worker_step, restarted_worker, crashed_worker}
use Rattle.turn_model.specs.WorkerMoves as Workers
use Rattle.world_model.specs.World.{World, Move, opening_world, world_step}
use Rattle.world_laws.specs.Reached.{HasWorker}
use Rattle.world_laws.specs.SentAgain.{entries_noted}
use Rattle.world_laws.specs.Acknowledged.{AreCommitted, AllAreCommitted}
use Rattle.world_laws.specs.laws.PlaceLaws.{place_filtered, place_taken, place_dropped, place_mapped, place_found}
use Rattle.world_laws.specs.laws.PlaceLaws.{place_in_both, place_behind, place_cases, place_through, no_place}
use Rattle.world_laws.specs.laws.PlaceLaws.{place_first}
use Rattle.world_laws.specs.laws.GoesLaws.{WorkerGoes, KStays, KMoves, KViews, KIsHanded, KCrashes, WorkerGoesFrom}
use Rattle.world_laws.specs.laws.GoesLaws.{map_from, worker_goes}
use Rattle.world_laws.specs.laws.WorkerLaws.{StepGoes, SStays, SViews, SBegins, SCommits, SSettlesIn, SSettlesOut}
use Rattle.world_laws.specs.laws.WorkerLaws.{SStores, SItem, SPacket, SResends, SBinds, SIsTakenOver, SEnds, SLeaves}
use Rattle.world_laws.specs.laws.WorkerLaws.{SLeavesPending, binds_as, step_goes}
use Rattle.world_laws.specs.laws.SeenLaws.{OpensAs}
use Rattle.world_laws.specs.laws.OwedLaws.{OwesEnds}
use Rattle.world_laws.specs.laws.SessionsLaws.{differ_places, place_pushed}
use Rattle.world_laws.specs.laws.DistinctLaws.{WorkersAreDistinct, IsDistinct, is_home_at, sessions_apart, none_over}
use Rattle.world_laws.specs.laws.DistinctLaws.{ends_begin_none}
use Rattle.world_laws.specs.laws.IssuedLaws.{IsKept, fewer_kept}
use Rattle.world_laws.specs.laws.CommittedLaws.{AnswerIsIn, ItemIsIn, RecordIsIn, PendingIsIn, IsBoundWith, packets_in}
use Rattle.world_laws.specs.laws.CommittedLaws.{pump_in, connect_in, tick_in, owed_in}
use Rattle.world_laws.specs.laws.PutOutLaws.{LeavesNames, IsCommitted, ArePutOut, parts_of, of_parts, put_out_kept}
use Rattle.world_laws.specs.laws.PutOutLaws.{put_out_handed, put_out_fewer, put_out_noted, put_out_changed}
use Rattle.world_laws.specs.laws.PutOutLaws.{put_out_left}
use Rattle.world_laws.specs.laws.PutOutLaws.{changed_there, record_still, item_left, item_dropped, aged_in}
use Rattle.world_laws.specs.laws.PutOutLaws.{answer_still}
use Rattle.world_laws.specs.laws.CommitStepLaws.{resend_within, issued_kept}

module _ (config : Config) (worker : ℕ) (k : Worker) (owes : OwesEnds k) (distinct : IsDistinct config worker k)
    (is : IsCommitted k) where
  below : (m : PlainSession) → HasPlace (sessions_of k).list m → m.incarnation < (sessions_of k).next
  below m has =
      (sessions_apart (is_home_at config.workers worker) k owes.owed distinct.committed).below m.incarnation
      (place_through (λ (m : PlainSession). m.incarnation) (sessions_of k).list m has)

  -- of a number there is one connection
  pub one_of_number : (c d : PlainConnection) → HasPlace k.connections c → HasPlace k.connections d →
      c.number ≡ d.number → c ≡ d
  one_of_number c d at_c at_d same =
      let one = differ_places (λ (c : PlainConnection). c.number) k.connections distinct.connections.0 at_c.0 at_d.0 c d
      at_c.1 at_d.1 same in
      same_Some c d (sym at_c.1 ∙ ap (slice_get k.connections) one ∙ at_d.1)

  pub bound_there : (conn : ℕ) (c : PlainConnection) → connection_in k conn ≡ Some c →
      HasPlace k.connections c × (c.number ≡ conn)
  bound_there conn c found =
      let both = place_found (λ (c : PlainConnection). c.number == conn) k.connections c found in
      (both.0, eqb-true c.number conn both.1)

  -- ---- a record that is begun

  record_in : (profile : Profile) (now : ℕ) (cause : Cause) →
      PendingIsIn k (record_of (setting_of profile config now k) k cause)
  record_in profile now (OfPackets conn packets) =
      packets_in k (ends_begin_none k.owed owes.owed) (setting_of profile config now k) conn packets
      (connection_in k conn) (session_in k conn)
  record_in profile now (OfConnect conn c) =
      connect_in k (ends_begin_none k.owed owes.owed) config profile now conn c below
  record_in profile now (OfPump conn b) =
      pump_in k (ends_begin_none k.owed owes.owed) (setting_of profile config now k) conn b (connection_in k conn)
      (session_in k conn) refl refl below
  record_in profile now OfTick =
      tick_in k (ends_begin_none k.owed owes.owed) (setting_of profile config now k) _
      (none_over (filter (is_over now) (sessions_of k).list))
  record_in profile now OfOwed =
      owed_in k (ends_begin_none k.owed owes.owed) profile k.owed (ends_begin_none k.owed owes.owed)

  -- ---- a record that is in

  in_kept : (p : PendingRecord) → k.pending ≡ Some p →
      ArePutOut (act_all k.committed (p.owed ++ p.changes)) k.history k.connections k.due
  in_kept p pends =
      let record_is : RecordIsIn k p = subst (PendingIsIn k) pends is.pending in
      put_out_kept k.committed (act_all k.committed (p.owed ++ p.changes)) k.history k.connections k.due record_is.0
      (parts_of k is)

  in_owing : (left : Option ℕ) (p : PendingRecord) → k.pending ≡ Some p →
      IsCommitted (partings_owed left p (with_record p k))
  in_owing None p pends = of_parts (with_record p k) (in_kept p pends) tt
  in_owing (Some moment) p pends = of_parts (partings_owed (Some moment) p (with_record p k)) (in_kept p pends) tt

  in_handed : (left : Option ℕ) (p : PendingRecord) → k.pending ≡ Some p → (i : Option Item) → p.item ≡ i →
      IsCommitted (handed_on i (partings_owed left p (with_record p k)))
  in_handed left p pends None item_is = in_owing left p pends
  in_handed left p pends (Some i) item_is = by left
    where
      its : AnswerIsIn k.connections (act_all k.committed (p.owed ++ p.changes)) i.connection i.answer
      its =
          subst (ItemIsIn k.connections (act_all k.committed (p.owed ++ p.changes))) item_is
          (subst (PendingIsIn k) pends is.pending).1

      all : ArePutOut (act_all k.committed (p.owed ++ p.changes)) k.history k.connections (k.due ++ i ∷ [])
      all =
          put_out_handed (act_all k.committed (p.owed ++ p.changes)) k.history k.connections k.due i its
          (in_kept p pends)

      by : (left : Option ℕ) → IsCommitted (handed_on (Some i) (partings_owed left p (with_record p k)))
      by None = of_parts (handed_on (Some i) (with_record p k)) all tt
      by (Some moment) = of_parts (handed_on (Some i) (partings_owed (Some moment) p (with_record p k))) all tt

  -- ---- what pends while other things change

  pends_as : (l : Worker) (p : Option PendingRecord) → k.pending ≡ p → l.committed ≡ k.committed →
      ((p : PendingRecord) → k.pending ≡ Some p → RecordIsIn k p → RecordIsIn l p) → PendingIsIn l p
  pends_as l None none same keeps = tt
  pends_as l (Some p) pends same keeps = keeps p pends (subst (PendingIsIn k) pends is.pending)

  aged_is_in : (p : Option PendingRecord) → PendingIsIn k p → (l : Worker) → l.committed ≡ k.committed →
      l.connections ≡ k.connections → PendingIsIn l (aged_pending p)
  aged_is_in None are l same connections = tt
  aged_is_in (Some p) are l same connections = rw (same, connections) (are.0, by p.item are.1)
    where
      by : (i : Option Item) → ItemIsIn k.connections (act_all k.committed (p.owed ++ p.changes)) i →
          ItemIsIn k.connections (act_all k.committed (p.owed ++ p.changes))
          (elim i as (λ i. Option Item) [ None ↦ None | Some i ↦ Some (aged_item i) ])
      by None are = tt
      by (Some i) are =
          aged_in k.connections (act_all k.committed (p.owed ++ p.changes)) i.connection i.answer are

  changed_is_in : (p : Option PendingRecord) → PendingIsIn k p → (conn : ℕ) (f : PlainConnection → PlainConnection) →
      LeavesNames f → (l : Worker) → l.committed ≡ k.committed → l.connections ≡ on_connection conn f k.connections →
      PendingIsIn l p
  changed_is_in None are conn f leaves l same connections = tt
  changed_is_in (Some p) are conn f leaves l same connections =
      rw (same, connections) (
        are.0,
        record_still k (on_connection conn f k.connections) p
            (λ number c there of_it. changed_there conn f leaves k.connections c there) are,
      )

  left_is_in : (p : Option PendingRecord) → PendingIsIn k p → (conn now : ℕ) (l : Worker) →
      l.committed ≡ k.committed → l.connections ≡ without_connection conn k.connections →
      PendingIsIn l (kept_pending conn now p)
  left_is_in None are conn now l same connections = tt
  left_is_in (Some p) are conn now l same connections =
      rw (same, connections) (
        are.0,
        item_left k.connections (act_all k.committed (p.owed ++ p.changes)) conn p.item
            are.1,
      )

  dropped_is_in : (p : Option PendingRecord) → PendingIsIn k p → (conn now : ℕ) (l : Worker) →
      l.committed ≡ k.committed → l.connections ≡ k.connections → PendingIsIn l (kept_pending conn now p)
  dropped_is_in None are conn now l same connections = tt
  dropped_is_in (Some p) are conn now l same connections =
      rw (same, connections) (
        are.0,
        item_dropped k.connections (act_all k.committed (p.owed ++ p.changes)) conn p.item
            are.1,
      )

  ends_in : (conn now : ℕ) → IsCommitted (without_bound conn now k)
  ends_in conn now =
      of_parts (without_bound conn now k)
      (put_out_left k.committed k.history k.connections k.due conn (parts_of k is))
      (left_is_in k.pending is.pending conn now (without_bound conn now k) refl refl)

  drops_in : (conn now : ℕ) → IsCommitted (without_items conn now k)
  drops_in conn now =
      of_parts (without_items conn now k)
      (put_out_fewer k.committed k.history k.connections k.due
      (filter (λ (i : Item). not (i.connection == conn)) k.due)
      (λ i has. (place_filtered (λ (i : Item). not (i.connection == conn)) k.due i has).0) (parts_of k is))
      (dropped_is_in k.pending is.pending conn now (without_items conn now k) refl refl)

  -- ---- an item that is put out

  batch_within : (moment : ℕ) (m : PlainSession) (es : List Entry) (e : Entry) →
      HasPlace (entries_with (issued_pairs moment m k.seen es)) e → HasPlace es e
  batch_within moment m [] e has = absurd (no_place e has)
  batch_within moment m (x ∷ es) e has = by (place_cases x e (entries_with (issued_pairs moment m k.seen es)) has)
      (batch_within moment m es e)
    where
      by : ((e ≡ x) ⊎ HasPlace (entries_with (issued_pairs moment m k.seen es)) e) →
          (HasPlace (entries_with (issued_pairs moment m k.seen es)) e → HasPlace es e) → HasPlace (x ∷ es) e
      by (inl same) rest = (0, ap Some (sym same))
      by (inr later) rest = place_behind x e es (rest later)

  batch_of : (moment : ℕ) (b : Issues) (m : Option PlainSession) (e : Entry) →
      HasPlace (entries_with (batch_pairs moment k b m)) e → HasPlace b.entries e
  batch_of moment b None e has = absurd (no_place e has)
  batch_of moment b (Some m) e has = batch_within moment m b.entries e has

  item_noted : (i : Item) (c : PlainConnection) → HasPlace k.due i → connection_in k i.connection ≡ Some c →
      (answer : Answer) → i.answer ≡ answer → (n : Note) → HasPlace (noted_answer k c answer) n →
      IsKept k.committed n.client n.incarnation (entries_noted n.noted)
  item_noted i c has bound (Answers rs effects) answers n noted = absurd (no_place n noted)
  item_noted i c has bound (Accepts fields client number rs) answers n noted = absurd (no_place n noted)
  item_noted i c has bound (Delivers b moment fresh) answers n noted =
      by (subst (AnswerIsIn k.connections k.committed i.connection) answers (is.due i has))
      (place_cases (note c (Delivered (batch_pairs moment k b (session_in k c.number)))) n [] noted)
    where
      by : IsBoundWith k.connections k.committed i.connection b.entries →
          ((n ≡ note c (Delivered (batch_pairs moment k b (session_in k c.number)))) ⊎ HasPlace [] n) →
          IsKept k.committed n.client n.incarnation (entries_noted n.noted)
      by with_it (inr nowhere) = absurd (no_place n nowhere)
      by (d, (there, (number, kept))) (inl same) =
          let its = bound_there i.connection c bound in
          let one : d ≡ c = one_of_number d c there its.0 (number ∙ sym its.1) in
          subst (λ (x : Note). IsKept k.committed x.client x.incarnation (entries_noted x.noted)) (sym same)
          (fewer_kept k.committed c.client c.incarnation b.entries
          (entries_with (batch_pairs moment k b (session_in k c.number)))
          (batch_of moment b (session_in k c.number))
          (subst (λ (x : PlainConnection). IsKept k.committed x.client x.incarnation b.entries) one kept))

  names_after : (now : ℕ) (answer : Answer) → LeavesNames (after_answer now answer)
  names_after now (Answers rs effects) =
      record { number = λ c. refl; client = λ c. refl; incarnation = λ c. refl }
  names_after now (Accepts c client number rs) =
      record { number = λ c. refl; client = λ c. refl; incarnation = λ c. refl }
  names_after now (Delivers b moment fresh) =
      record { number = λ c. refl; client = λ c. refl; incarnation = λ c. refl }

  rest_after : (now : ℕ) (answer : Answer) (c : PlainConnection) → (after_answer now answer c).rest ≡ c.rest
  rest_after now (Answers rs effects) c = refl
  rest_after now (Accepts fields client number rs) c = refl
  rest_after now (Delivers b moment fresh) c = refl

  item_there : (place : ℕ) (i : Item) (found : Option Item) → slice_get k.due place ≡ found →
      item_if k found ≡ Some i → HasPlace k.due i
  item_there place i None at e = absurd (none-some i e)
  item_there place i (Some j) at e = (place, at ∙ ap Some (by _ e))
    where
      by : (b : Bool) → (if b then Some j else None) ≡ Some i → j ≡ i
      by true e = same_Some j i e
      by false e = absurd (none-some i e)

  -- ---- each move

  changed_in : (l : Worker) (conn : ℕ) (f : PlainConnection → PlainConnection) → LeavesNames f →
      ((c : PlainConnection) → HasPlace k.connections c → c.number ≡ conn →
      IsKept k.committed c.client c.incarnation (f c).rest) →
      (more : List Note) → ((n : Note) → HasPlace more n →
      IsKept k.committed n.client n.incarnation (entries_noted n.noted)) →
      (few : List Item) → ((i : Item) → HasPlace few i → HasPlace k.due i) →
      l ≡ record k { due = few; connections = on_connection conn f k.connections; history = k.history ++ more } →
      IsCommitted l
  changed_in l conn f leaves rests more new few within same =
      subst IsCommitted (sym same)
      (of_parts
      (record k { due = few; connections = on_connection conn f k.connections; history = k.history ++ more })
      (put_out_noted k.committed k.history more (on_connection conn f k.connections) few new
      (put_out_changed k.committed k.history k.connections few conn f leaves rests
      (put_out_fewer k.committed k.history k.connections k.due few within (parts_of k is))))
      (changed_is_in k.pending is.pending conn f leaves
      (record k {
        due = few;
        connections = on_connection conn f k.connections;
        history = k.history
            ++ more;
      }) refl refl))

  same_rest : (f : PlainConnection → PlainConnection) → ((c : PlainConnection) → (f c).rest ≡ c.rest) →
      (c : PlainConnection) → HasPlace k.connections c → IsKept k.committed c.client c.incarnation (f c).rest
  same_rest f keeps c has = subst (IsKept k.committed c.client c.incarnation) (sym (keeps c)) (is.rest c has)

  -- what is sent again, and what is left of it then, was to be sent again
  resent_in : (profile : Profile) (conn now : ℕ) (c : PlainConnection) (m : PlainSession) →
      connection_in k conn ≡ Some c → (l : Worker) →
      l ≡ record k {
        connections = on_connection conn (resent_connection (resend_of profile now m c k.seen)) k.connections;
        history = k.history ++ note c (SentAgain (resend_of profile now m c k.seen).taken) ∷ [];
      } → IsCommitted l
  resent_in profile conn now c m bound l same =
      changed_in l conn (resent_connection (resend_of profile now m c k.seen))
      (record { number = λ c. refl; client = λ c. refl; incarnation = λ c. refl })
      rests (note c (SentAgain (resend_of profile now m c k.seen).taken) ∷ []) noted k.due (λ i has. has) same
    where
      its : HasPlace k.connections c × (c.number ≡ conn)
      its = bound_there conn c bound

      left : IsKept k.committed c.client c.incarnation (resend_of profile now m c k.seen).rest
      left =
          fewer_kept k.committed c.client c.incarnation c.rest (resend_of profile now m c k.seen).rest
          (resend_within profile now m c k.seen).1 (is.rest c its.0)

      rests : (d : PlainConnection) → HasPlace k.connections d → d.number ≡ conn →
          IsKept k.committed d.client d.incarnation (resend_of profile now m c k.seen).rest
      rests d has number =
          subst (λ (x : PlainConnection). IsKept k.committed x.client x.incarnation
          (resend_of profile now m c k.seen).rest)
          (one_of_number c d its.0 has (its.1 ∙ sym number)) left

      taken : IsKept k.committed c.client c.incarnation (entries_with (resend_of profile now m c k.seen).taken)
      taken =
          fewer_kept k.committed c.client c.incarnation c.rest (entries_with (resend_of profile now m c k.seen).taken)
          (resend_within profile now m c k.seen).0 (is.rest c its.0)

      noted : (n : Note) → HasPlace (note c (SentAgain (resend_of profile now m c k.seen).taken) ∷ []) n →
          IsKept k.committed n.client n.incarnation (entries_noted n.noted)
      noted n has = by (place_cases (note c (SentAgain (resend_of profile now m c k.seen).taken)) n [] has)
        where
          by : ((n ≡ note c (SentAgain (resend_of profile now m c k.seen).taken)) ⊎ HasPlace [] n) →
              IsKept k.committed n.client n.incarnation (entries_noted n.noted)
          by (inr nowhere) = absurd (no_place n nowhere)
          by (inl one) =
              subst (λ (x : Note). IsKept k.committed x.client x.incarnation (entries_noted x.noted)) (sym one) taken

  -- what a bind has to send again is of what its session was issued
  bound_in : (conn now : ℕ) (c : ConnectFields) (client : List ℕ) (number : ℕ) (m : PlainSession) →
      k.pending ≡ None → session_at client number k ≡ Some m → (l : Worker) →
      l ≡ record k {
        connections = k.connections ++ binds_as conn c now m k ∷ [];
        history =
            k.history
            ++ note (binds_as conn c now m k)
            (Worker.Bound (binds_as conn c now m k).rest (binds_as conn c now m k).passed)
            ∷ [];
      } → IsCommitted l
  bound_in conn now c client number m none there l same = subst IsCommitted (sym same) (of_parts behind parts pends)
    where
      d : PlainConnection
      d = binds_as conn c now m k

      new : Note
      new = note d (Worker.Bound d.rest d.passed)

      behind : Worker
      behind = record k { connections = k.connections ++ d ∷ []; history = k.history ++ new ∷ [] }

      stands : HasPlace (sessions_of k).list m
      stands =
          (place_found (λ (m : PlainSession). bytes_eq m.client client && (m.incarnation == number))
          (sessions_of k).list m there).0

      issued : IsKept k.committed m.client m.incarnation m.issued
      issued =
          issued_kept (is_home_at config.workers worker) k.committed k.owed owes.owed distinct.committed m stands

      of_rest : (e : Entry) → HasPlace d.rest e → HasPlace m.issued e
      of_rest e has =
          (place_filtered (λ (e : Entry). not (is_finished m e)) m.issued e
          (place_filtered (λ (e : Entry). not (is_passed_at_bind m k.seen e)) (unfinished m) e has).0).0

      rest_in : IsKept k.committed d.client d.incarnation d.rest
      rest_in = fewer_kept k.committed m.client m.incarnation m.issued d.rest of_rest issued

      rests : (x : PlainConnection) → HasPlace k.connections x ⊎ (x ≡ d) →
          IsKept k.committed x.client x.incarnation x.rest
      rests x (inl old) = is.rest x old
      rests x (inr one) =
          subst (λ (x : PlainConnection). IsKept k.committed x.client x.incarnation x.rest) (sym one) rest_in

      notes : (n : Note) → HasPlace k.history n ⊎ (n ≡ new) →
          IsKept k.committed n.client n.incarnation (entries_noted n.noted)
      notes n (inl old) = is.sent n old
      notes n (inr one) =
          subst (λ (x : Note). IsKept k.committed x.client x.incarnation (entries_noted x.noted)) (sym one)
          (fewer_kept k.committed m.client m.incarnation m.issued [] (λ e has. absurd (no_place e has)) issued)

      parts : ArePutOut k.committed (k.history ++ new ∷ []) (k.connections ++ d ∷ []) k.due
      parts =
          record {
            sent = λ n has. notes n (place_pushed k.history new n has);
            rest = λ x has. rests x (place_pushed k.connections d x has);
            due = λ i has. answer_still k.connections (k.connections ++ d ∷ []) k.committed i.connection i.answer
                (λ x stood of_it. (x, (place_first k.connections (d ∷ []) x stood, (refl, (refl, refl)))))
                (is.due i has);
          }

      pends : PendingIsIn behind k.pending
      pends = subst (PendingIsIn behind) (sym none) tt

  viewed_in : (l : Worker) (few : List Item) → l.due ≡ map aged_item k.due → l.committed ≡ k.committed →
      l.history ≡ k.history → l.connections ≡ k.connections → l.pending ≡ aged_pending k.pending → IsCommitted l
  viewed_in l few due same history connections pending =
      of_parts l
      (rw (same, history, connections, due) (record { sent = is.sent; rest = is.rest; due = by }))
      (rw pending (aged_is_in k.pending is.pending l same connections))
    where
      by : (i : Item) → HasPlace (map aged_item k.due) i → AnswerIsIn k.connections k.committed i.connection i.answer
      by i has =
          let (j, (there, aged)) = place_mapped aged_item k.due i has in
          subst (λ (x : Item). AnswerIsIn k.connections k.committed x.connection x.answer) (sym aged)
          (aged_in k.connections k.committed j.connection j.answer (is.due j there))

  item_out : (place now : ℕ) (i : Item) (c : PlainConnection) → item_at k place ≡ Some i →
      connection_in k i.connection ≡ Some c → (l : Worker) →
      l ≡ record k {
        due = without_item place k.due;
        connections = on_connection c.number (after_answer now i.answer) k.connections;
        history = k.history ++ noted_answer k c i.answer;
      } → IsCommitted l
  item_out place now i c found bound l same =
      changed_in l c.number (after_answer now i.answer) (names_after now i.answer)
      (λ d has number. same_rest (after_answer now i.answer) (rest_after now i.answer) d has)
      (noted_answer k c i.answer)
      (item_noted i c (item_there place i (slice_get k.due place) refl found) bound i.answer refl)
      (without_item place k.due) within same
    where
      either : (x : Item) → HasPlace (take place k.due) x ⊎ HasPlace (drop (place + 1) k.due) x → HasPlace k.due x
      either x (inl front) = place_taken place k.due x front
      either x (inr behind) = place_dropped (place + 1) k.due x behind

      within : (x : Item) → HasPlace (without_item place k.due) x → HasPlace k.due x
      within x has = either x (place_in_both (take place k.due) (drop (place + 1) k.due) x has)

  step_in : (profile : Profile) (move : WorkerMove) (l : Worker) → StepGoes profile config k move l → IsCommitted l
  step_in profile move l (SStays same) = subst IsCommitted (sym same) is
  step_in profile move l (SViews shard list of_it same) =
      viewed_in l l.due (ap (λ (x : Worker). x.due) same) (ap (λ (x : Worker). x.committed) same)
      (ap (λ (x : Worker). x.history) same) (ap (λ (x : Worker). x.connections) same)
      (ap (λ (x : Worker). x.pending) same)
  step_in profile move l (SBegins cause now p of_it none begun same) =
      subst IsCommitted (sym same)
      (of_parts (record k { pending = Some p }) (parts_of k is)
      (subst (PendingIsIn k) begun (record_in profile now cause)))
  step_in profile move l (SCommits p of_it pends same) =
      subst IsCommitted (sym same) (in_handed p.left p pends p.item refl)
  step_in profile move l (SSettlesIn now p of_it pends may same) =
      subst IsCommitted (sym same) (in_owing (moment_left now p.left) p pends)
  step_in profile move l (SSettlesOut now p of_it pends may same) =
      subst IsCommitted (sym same) (of_parts (record k { pending = None }) (parts_of k is) tt)
  step_in profile move l (SStores shard a messages of_it asked same) =
      subst IsCommitted (sym same)
      (of_parts _ (put_out_handed k.committed k.history k.connections k.due
      (item a.connection (stored_answer (stored_steps shard a.packets messages))) tt (parts_of k is)) is.pending)
  step_in profile move l (SItem place now i c of_it found bound same) = item_out place now i c found bound l same
  step_in profile move l (SPacket conn now packet outcomes step of_it answered same) =
      changed_in l conn (after_packets step.effects now)
      (record { number = λ c. refl; client = λ c. refl; incarnation = λ c. refl })
      (λ c has number. is.rest c has) [] (λ n has. absurd (no_place n has)) k.due (λ i has. has)
      (same ∙ ap (λ (notes : List Note). record k
      { connections = on_connection conn (after_packets step.effects now) k.connections; history = notes })
      (sym (append-nil k.history)))
  step_in profile move l (SResends conn now c m of_it bound there some told same) =
      resent_in profile conn now c m bound l same
  step_in profile move l (SBinds conn now i c client number rs m of_it none found answer unbound alone there same) =
      bound_in conn now c client number m none there l same
  step_in profile move l (SIsTakenOver conn c of_it bound may same) = subst IsCommitted (sym same) (ends_in conn 0)
  step_in profile move l (SEnds conn now ending c of_it bound same) =
      subst IsCommitted (sym same) (of_parts _ (parts_of _ (ends_in conn now)) (ends_in conn now).pending)
  step_in profile move l (SLeaves conn now ending i c client number rs of_it unbound found answer same) =
      subst IsCommitted (sym same) (of_parts _ (parts_of _ (drops_in conn now)) (drops_in conn now).pending)
  step_in profile move l (SLeavesPending conn now ending of_it unbound has same) =
      subst IsCommitted (sym same) (drops_in conn now)

  -- a crash: what pended is in or not, and nothing is due
  resolved_kept : (goes_in : Bool) (now : ℕ) (p : Option PendingRecord) → k.pending ≡ p → (n : Note) →
      HasPlace (record_resolved goes_in now p k).history n →
      IsKept (record_resolved goes_in now p k).committed n.client n.incarnation (entries_noted n.noted)
  resolved_kept goes_in now None none n has = is.sent n has
  resolved_kept true now (Some p) pends n has = by (moment_left now p.left) has
    where
      by : (left : Option ℕ) → HasPlace (partings_owed left p (with_record p k)).history n →
          IsKept (partings_owed left p (with_record p k)).committed n.client n.incarnation (entries_noted n.noted)
      by None has = (in_kept p pends).sent n has
      by (Some moment) has = (in_kept p pends).sent n has
  resolved_kept false now (Some p) pends n has = is.sent n has

  crash_in : (lists : List ShardList) (now : ℕ) (goes_in : Bool) → IsCommitted (crashed_worker lists now goes_in k)
  crash_in lists now goes_in =
      record {
        sent = resolved_kept goes_in now k.pending refl;
        rest = λ c has. absurd (no_place c has);
        due = λ i has. absurd (no_place i has);
        pending = tt;
      }

  pub goes_in_world : (profile : Profile) (w next : World) (l : Worker) →
      WorkerGoes profile config w next worker k l → IsCommitted l
  goes_in_world profile w next l (KStays same) = subst IsCommitted (sym same) is
  goes_in_world profile w next l (KMoves move own same) =
      step_in profile move l (subst (StepGoes profile config k move) (sym same) (step_goes profile config k move))
  goes_in_world profile w next l (KViews shard s is_there shards same) =
      step_in profile (Workers.View shard s.shard.shown) l
      (subst (StepGoes profile config k (Workers.View shard s.shard.shown)) (sym same)
      (step_goes profile config k (Workers.View shard s.shard.shown)))
  goes_in_world profile w next l (KIsHanded shard s a is_there group who its after same) =
      step_in profile (Workers.Stored shard a _) l
      (subst (StepGoes profile config k (Workers.Stored shard a _)) (sym same)
      (step_goes profile config k (Workers.Stored shard a _)))
  goes_in_world profile w next l (KCrashes now goes_in same) =
      subst IsCommitted (sym same) (crash_in _ now goes_in)
