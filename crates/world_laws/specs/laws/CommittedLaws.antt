-- Nothing is put out before it is committed: each entry of which a packet was put out, or is due, is among those that
-- its session was issued, as it is committed.
use Rattle.std.proofs.Common.{◌≡◌, ◌⊎◌, inl, inr, ℕ, zero, suc, ◌+◌, ◌<◌, Bool, true, false, ◌&&◌, not, List, [], ◌∷◌}
use Rattle.std.proofs.Common.{◌++◌, filter, find, map, take, drop, slice_get, Option, Some, None, refl, sym, ap, subst}
use Rattle.std.proofs.Common.{◌∙◌}
use Rattle.std.proofs.Common.{arith}
use Rattle.std.specs.Prelude.{◌==◌, ◌-◌, if◌then◌else◌, is_some, length, bytes_eq}
use Rattle.std.proofs.lemmas.Bool.{eqb-true, and_parts, true≢false}
use Rattle.std.proofs.lemmas.Option.{none-some, same_Some}
use Rattle.topic_model.specs.Profile.{Profile, Config}
use Rattle.topic_model.specs.Places.{HasPlace}
use Rattle.session_model.specs.declared.entry.Entry.{Entry}
use Rattle.session_model.specs.PlainSession.{PlainSession, Sessions, session_of}
use Rattle.session_model.specs.Change.{Change, Issued, Issues, change}
use Rattle.session_model.specs.Acting.{act_effect, act_all}
use Rattle.session_model.specs.laws.ChangeLaws.{act_both}
use Rattle.session_model.specs.Ends.{is_over}
use Rattle.mqtt_packet.specs.Packet.{ConnectFields}
use Rattle.turn_model.specs.PlainConnection.{PlainConnection, bound_session}
use Rattle.turn_model.specs.Resend.{pass_changes}
use Rattle.turn_model.specs.Step.{Setting, Reply, Step}
use Rattle.turn_model.specs.ConnectStep.{connect_step, connect_changes, client_for, session_number, number_or}
use Rattle.turn_model.specs.ConnectStep.{is_resumed_if}
use Rattle.turn_model.specs.ConnectStep.{ended_if, began_change}
use Rattle.turn_model.specs.Worker.{Worker, Item, Answer, Answers, Accepts, Delivers, PendingRecord, sessions_of}
use Rattle.turn_model.specs.Worker.{setting_of, connection_in, session_in}
use Rattle.turn_model.specs.Records.{Cause, OfPackets, OfConnect, OfPump, OfTick, OfOwed, record_of, pending_if, item}
use Rattle.turn_model.specs.Records.{packets_record, stepped_all, not_stepped, connect_record, issued_change}
use Rattle.turn_model.specs.Records.{pump_record}
use Rattle.turn_model.specs.Records.{delivering, tick_record, owed_record}
use Rattle.world_laws.specs.laws.PlaceLaws.{place_found}
use Rattle.world_laws.specs.laws.OwedLaws.{AreEnds}
use Rattle.world_laws.specs.laws.SessionsLaws.{HaveNoBegan, AreApart, all_apart, none_both, none_stepped, none_passes}
use Rattle.world_laws.specs.laws.SessionsLaws.{none_issued, same_text}
use Rattle.world_laws.specs.laws.DistinctLaws.{none_taken}
use Rattle.world_laws.specs.laws.IssuedLaws.{IsKept, all_kept, connect_kept, batch_kept}

-- ---- a record that is begun

-- it keeps what was issued
abbrev pub Keeping : Worker → List Change → List Change → Type 0
Keeping k owed changes =
    (client : List ℕ) (number : ℕ) (es : List Entry) → IsKept k.committed client number es →
    IsKept (act_all k.committed (owed ++ changes)) client number es

-- a bound connection with this number, whose session was issued these entries
abbrev pub IsBoundWith : List PlainConnection → Sessions → ℕ → List Entry → Type 0
IsBoundWith ks s conn es =
    (c : PlainConnection) × (HasPlace ks c × ((c.number ≡ conn) × IsKept s c.client c.incarnation es))

-- what an item answers is in these sessions
abbrev pub AnswerIsIn : List PlainConnection → Sessions → ℕ → Answer → Type 0
AnswerIsIn ks s conn (Answers rs effects) = Unit {0}
AnswerIsIn ks s conn (Accepts c client number rs) = number < s.next
AnswerIsIn ks s conn (Delivers b moment fresh) = IsBoundWith ks s conn b.entries

abbrev pub ItemIsIn : List PlainConnection → Sessions → Option Item → Type 0
ItemIsIn ks s None = Unit {0}
ItemIsIn ks s (Some i) = AnswerIsIn ks s i.connection i.answer

abbrev pub RecordIsIn : Worker → PendingRecord → Type 0
RecordIsIn k p = Keeping k p.owed p.changes × ItemIsIn k.connections (act_all k.committed (p.owed ++ p.changes)) p.item

abbrev pub PendingIsIn : Worker → Option PendingRecord → Type 0
PendingIsIn k None = Unit {0}
PendingIsIn k (Some p) = RecordIsIn k p

-- the number of the session that a CONNECT began or bound is below the next one behind it
number_below_as : (s : Setting) (c : ConnectFields) (client : List ℕ) →
    ((m : PlainSession) → HasPlace s.sessions.list m → m.incarnation < s.sessions.next) →
    (found : Option PlainSession) → session_of client s.sessions ≡ found → (b : Bool) →
    is_resumed_if s c found ≡ b →
    (if b then number_or s.sessions.next found else s.sessions.next)
    < (act_all s.sessions (connect_changes s c client b)).next
number_below_as s c client below None none true is = absurd (true≢false (sym is))
number_below_as s c client below (Some m) some true is =
    below m (place_found (λ (m : PlainSession). bytes_eq m.client client) s.sessions.list m some).0
number_below_as s c client below found is_found false is = by (is_some (session_of client s.sessions))
  where
    by : (b : Bool) →
        s.sessions.next < (act_all s.sessions (ended_if b client ++ began_change s c client ∷ [])).next
    by true = omega arith
    by false = omega arith

module _ (k : Worker) (ends : HaveNoBegan k.owed) where
  -- the sessions that stand behind what is owed keep what was issued
  owed_kept : (client : List ℕ) (number : ℕ) (es : List Entry) → IsKept k.committed client number es →
      IsKept (sessions_of k) client number es
  owed_kept client number es kept = all_kept k.committed k.owed ends client number es kept

  none_keeping : (owed changes : List Change) → HaveNoBegan owed → HaveNoBegan changes → Keeping k owed changes
  none_keeping owed changes first second client number es kept =
      all_kept k.committed (owed ++ changes) (none_both owed changes first second) client number es kept

  if_in : (b : Bool) (changes : List Change) (i : Option Item) →
      (b ≡ true → RecordIsIn k (record { owed = k.owed; changes = changes; item = i; left = None })) →
      PendingIsIn k (pending_if b k changes i)
  if_in true changes i is = is refl
  if_in false changes i is = tt

  pub packets_in : (s : Setting) (conn : ℕ) (packets : _) (c : Option PlainConnection) (m : Option PlainSession) →
      PendingIsIn k (packets_record s k conn packets c m)
  packets_in s conn packets None m = tt
  packets_in s conn packets (Some c) None = tt
  packets_in s conn packets (Some c) (Some m) =
      if_in _ (stepped_all s c packets (not_stepped m)).changes _
      (λ made. (
        none_keeping k.owed (stepped_all s c packets (not_stepped m)).changes ends
            (none_stepped s c packets (not_stepped m) tt),
        tt,
      ))

  -- the batch of a pump, of the session that its connection is bound to
  pub pump_in : (s : Setting) (conn : ℕ) (b : Option Issues) (c : Option PlainConnection) (m : Option PlainSession) →
      connection_in k conn ≡ c → session_in k conn ≡ m →
      ((m : PlainSession) → HasPlace (sessions_of k).list m → m.incarnation < (sessions_of k).next) →
      PendingIsIn k (pump_record s k conn b c m)
  pump_in s conn b None m is_c is_m below = tt
  pump_in s conn b (Some c) None is_c is_m below = tt
  pump_in s conn None (Some c) (Some m) is_c is_m below =
      if_in _ (pass_changes m c) _
      (λ made. (none_keeping k.owed (pass_changes m c) ends (none_passes m c), tt))
  pump_in s conn (Some b) (Some c) (Some m) is_c is_m below =
      if_in _ (change m.client (Issued b) ∷ pass_changes m c) _
      (λ made. (
        none_keeping k.owed (change m.client (Issued b) ∷ pass_changes m c) ends
            (refl, none_passes m c),
        (c, (found.0, (number, delivered))),
      ))
    where
      found : HasPlace k.connections c × ((c.number == conn) ≡ true)
      found = place_found (λ (c : PlainConnection). c.number == conn) k.connections c is_c

      number : c.number ≡ conn
      number = eqb-true c.number conn found.1

      bound : HasPlace (sessions_of k).list m ×
          ((bytes_eq m.client c.client && (m.incarnation == c.incarnation)) ≡ true)
      bound =
          place_found (λ (m : PlainSession). bytes_eq m.client c.client && (m.incarnation == c.incarnation))
          (sessions_of k).list m
          (sym (ap (λ (x : Option PlainConnection). bound_session (sessions_of k) x) is_c) ∙ is_m)

      its : (bytes_eq m.client c.client ≡ true) × ((m.incarnation == c.incarnation) ≡ true)
      its = and_parts (bytes_eq m.client c.client) (m.incarnation == c.incarnation) bound.1

      its_client : m.client ≡ c.client
      its_client = same_text m.client c.client its.0

      its_number : m.incarnation ≡ c.incarnation
      its_number = eqb-true m.incarnation c.incarnation its.1

      behind : IsKept (act_all (sessions_of k) (change m.client (Issued b) ∷ pass_changes m c)) m.client m.incarnation
          b.entries
      behind =
          all_kept (act_effect m.client (Issued b) (sessions_of k)) (pass_changes m c) (none_passes m c) m.client
          m.incarnation b.entries (batch_kept (sessions_of k) m.client b m.incarnation (below m bound.0))

      delivered : IsKept (act_all k.committed (k.owed ++ change m.client (Issued b) ∷ pass_changes m c)) c.client
          c.incarnation b.entries
      delivered =
          subst (λ (s : Sessions). IsKept s c.client c.incarnation b.entries)
          (sym (act_both k.committed k.owed (change m.client (Issued b) ∷ pass_changes m c)))
          (subst (λ (n : ℕ). IsKept (act_all (sessions_of k) (change m.client (Issued b) ∷ pass_changes m c)) c.client n
          b.entries) its_number
          (subst (λ (client : List ℕ). IsKept
          (act_all (sessions_of k) (change m.client (Issued b) ∷ pass_changes m c)) client m.incarnation b.entries)
          its_client behind))

  -- that of a CONNECT, of the session that it began or bound
  pub connect_in : (config : Config) (profile : Profile) (now conn : ℕ) (c : ConnectFields) →
      ((m : PlainSession) → HasPlace (sessions_of k).list m → m.incarnation < (sessions_of k).next) →
      PendingIsIn k
      (connect_record (setting_of profile config now k) k conn c (connect_step (setting_of profile config now k) c))
  connect_in config profile now conn c below =
      if_in _ (connect_step s c).changes _ (λ made. (keeping, accepted))
    where
      s : Setting
      s = setting_of profile config now k

      keeping : Keeping k k.owed (connect_step s c).changes
      keeping client number es kept =
          subst (λ (x : Sessions). IsKept x client number es)
          (sym (act_both k.committed k.owed (connect_step s c).changes))
          (connect_kept s c (client_for s c) _ client number es (owed_kept client number es kept))

      accepted : session_number s c < (act_all k.committed (k.owed ++ (connect_step s c).changes)).next
      accepted =
          subst (λ (x : Sessions). session_number s c < x.next)
          (sym (act_both k.committed k.owed (connect_step s c).changes))
          (number_below_as s c (client_for s c) below (session_of (client_for s c) s.sessions) refl
          (is_resumed_if s c (session_of (client_for s c) s.sessions)) refl)

  pub tick_in : (s : Setting) (changes : List Change) → HaveNoBegan changes → PendingIsIn k (tick_record s k changes)
  tick_in s [] none = tt
  tick_in s (c ∷ changes) none = (
    none_keeping (take s.profile.changes k.owed) (take (s.profile.changes - length k.owed) (c ∷ changes))
        (none_taken s.profile.changes k.owed ends)
        (none_taken (s.profile.changes - length k.owed) (c ∷ changes) none),
    tt,
  )

  pub owed_in : (profile : Profile) (changes : List Change) → HaveNoBegan changes → PendingIsIn k
      (owed_record profile k changes)
  owed_in profile [] none = tt
  owed_in profile (c ∷ changes) none =
      (none_keeping (take profile.changes (c ∷ changes)) [] (none_taken profile.changes (c ∷ changes) none) tt, tt)
