-- Each move of a worker, and a crash, keeps that what was put out, or is due, is committed.
use Rattle.std.proofs.Common.{◌≡◌, ◌⊎◌, inl, inr, ℕ, zero, suc, ◌+◌, ◌<◌, Bool, true, false, ◌&&◌, not, List, [], ◌∷◌}
use Rattle.std.proofs.Common.{◌++◌, filter, find, map, take, drop, slice_get, Option, Some, None, refl, sym, ap, subst}
use Rattle.std.proofs.Common.{◌∙◌}
use Rattle.std.proofs.Common.{is_some, if◌then◌else◌}
use Rattle.std.specs.Prelude.{◌==◌, bytes_eq}
use Rattle.std.proofs.lemmas.Bool.{eqb-true, and_parts, true≢false}
use Rattle.std.proofs.lemmas.Option.{none-some, same_Some}
use Rattle.topic_model.specs.Profile.{Profile, Config}
use Rattle.topic_model.specs.Places.{HasPlace}
use Rattle.shard_model.specs.ShardList.{ShardList}
use Rattle.session_model.specs.declared.entry.Entry.{Entry}
use Rattle.session_model.specs.PlainSession.{PlainSession, Sessions}
use Rattle.session_model.specs.Unfinished.{is_finished, unfinished}
use Rattle.session_model.specs.Change.{Parts, Parted, Ended, Change, Effect}
use Rattle.session_model.specs.Acting.{act_all, act_one, act_effect, changed_session}
use Rattle.mqtt_packet.specs.Packet.{PlainPacket}
use Rattle.turn_model.specs.PlainConnection.{PlainConnection, rest_of, on_connection, after_packets}
use Rattle.turn_model.specs.Resend.{Again, Releases, Publishes, Passes, Resent, again, entry_taken_as, entry_taken_if}
use Rattle.turn_model.specs.Resend.{may_take, entry_taken, entries_taken, resend_of, is_passed_at_bind, entries_with}
use Rattle.turn_model.specs.Worker.{Worker, Item, Answer, Answers, Accepts, Delivers, PendingRecord, Note, note}
use Rattle.turn_model.specs.Worker.{sessions_of}
use Rattle.world_laws.specs.laws.PlaceLaws.{place_behind, place_cases, place_filtered, place_first, place_second}
use Rattle.world_laws.specs.laws.PlaceLaws.{no_place}
use Rattle.world_laws.specs.laws.PlaceLaws.{place_in_both, place_mapped, place_through}
use Rattle.world_laws.specs.laws.SessionsLaws.{AreApart, differ_places, place_pushed}
use Rattle.world_laws.specs.laws.OwedLaws.{is_end, AreEnds}
use Rattle.world_laws.specs.laws.IssuedLaws.{IsKept, WasIssued, fewer_kept, on_session_from}

-- ---- what a pump sends again is of what is left

module _ (from : List Entry) where
  abbrev Within : Resent → Type 0
  Within r =
      ((e : Entry) → HasPlace (entries_with r.taken) e → HasPlace from e)
      × ((e : Entry) → HasPlace r.rest e → HasPlace from e)

  one_more : (taken : List (Entry × Option PlainPacket)) (e : Entry) (packet : Option PlainPacket) → HasPlace from e →
      ((x : Entry) → HasPlace (entries_with taken) x → HasPlace from x) → (x : Entry) →
      HasPlace (entries_with (taken ++ (e, packet) ∷ [])) x → HasPlace from x
  one_more taken e packet there within x has =
      by (place_mapped (λ (y : Entry × Option PlainPacket). y.0) (taken ++ (e, packet) ∷ []) x has)
    where
      at : (y : Entry × Option PlainPacket) → (x ≡ y.0) → HasPlace taken y ⊎ (y ≡ (e, packet)) → HasPlace from x
      at y same (inl old) =
          within x (subst (HasPlace (entries_with taken)) (sym same)
          (place_through (λ (y : Entry × Option PlainPacket). y.0) taken y old))
      at y same (inr new) =
          subst (HasPlace from) (sym (same ∙ ap (λ (z : Entry × Option PlainPacket). z.0) new)) there

      by : ((y : Entry × Option PlainPacket) × (HasPlace (taken ++ (e, packet) ∷ []) y × (x ≡ y.0))) → HasPlace from x
      by (y, (is, same)) = at y same (place_pushed taken (e, packet) y is)

  taken_as_within : (a : Again) (e : Entry) (r : Resent) → HasPlace from e → Within r → Within (entry_taken_as a e r)
  taken_as_within (Releases packet) e r there within = (one_more r.taken e (Some packet) there within.0, within.1)
  taken_as_within (Publishes packet) e r there within = (one_more r.taken e (Some packet) there within.0, within.1)
  taken_as_within Passes e r there within = (one_more r.taken e None there within.0, within.1)

  taken_if_within : (b : Bool) (a : Again) (e : Entry) (r : Resent) → HasPlace from e → Within r →
      Within (entry_taken_if b a e r)
  taken_if_within true a e r there within = taken_as_within a e r there within
  taken_if_within false a e r there within = (within.0, λ x has. by x (place_pushed r.rest e x has))
    where
      by : (x : Entry) → HasPlace r.rest x ⊎ (x ≡ e) → HasPlace from x
      by x (inl old) = within.1 x old
      by x (inr new) = subst (HasPlace from) (sym new) there

  all_within : (m : PlainSession) (limit now : ℕ) (lists : List ShardList) (es : List Entry) (r : Resent) →
      ((e : Entry) → HasPlace es e → HasPlace from e) → Within r → Within (entries_taken m limit now lists es r)
  all_within m limit now lists [] r are within = within
  all_within m limit now lists (e ∷ es) r are within =
      all_within m limit now lists es (entry_taken m limit now lists e r) (λ x has. are x (place_behind e x es has))
      (taken_if_within (may_take (again m limit now lists e) r) (again m limit now lists e) e r
      (are e (0, refl)) within)

-- what is taken and what is left were to be sent again
pub resend_within : (profile : Profile) (now : ℕ) (m : PlainSession) (c : PlainConnection) (lists : List ShardList) →
    ((e : Entry) → HasPlace (entries_with (resend_of profile now m c lists).taken) e → HasPlace c.rest e)
    × ((e : Entry) → HasPlace (resend_of profile now m c lists).rest e → HasPlace c.rest e)
resend_within profile now m c lists =
    all_within c.rest m c.packet_limit now lists (rest_of m c) _
    (λ e has. (place_filtered (λ (e : Entry). not (is_finished m e)) c.rest e has).0)
    (λ e has. absurd (no_place e has), λ e has. absurd (no_place e has))

-- ---- a session that is there was issued what it was issued

-- ends leave a session what it was issued
parted_from : (client : List ℕ) (p : Parts) (s : Sessions) (m : PlainSession) →
    HasPlace (act_effect client (Parted p) s).list m →
    (n : PlainSession)
    × (HasPlace s.list n × ((n.client ≡ m.client) × ((n.incarnation ≡ m.incarnation) × (n.issued ≡ m.issued))))
parted_from client p s m has = by (on_session_from client (changed_session (Parted p)) s.list m has)
  where
    by : ((n : PlainSession)
        × (HasPlace s.list n × (((bytes_eq n.client client ≡ false) × (m ≡ n)) ⊎ (m ≡ changed_session (Parted p) n)))) →
        (n : PlainSession)
        × (HasPlace s.list n × ((n.client ≡ m.client) × ((n.incarnation ≡ m.incarnation) × (n.issued ≡ m.issued))))
    by (n, (stood, inl same)) = (
      n,
      (
        stood,
        (
          ap (λ (x : PlainSession). x.client) (sym same.1),
          (ap (λ (x : PlainSession). x.incarnation) (sym same.1), ap (λ (x : PlainSession). x.issued) (sym same.1)),
        ),
      ),
    )
    by (n, (stood, inr changed)) = (
      n,
      (
        stood,
        (
          ap (λ (x : PlainSession). x.client) (sym changed),
          (ap (λ (x : PlainSession). x.incarnation) (sym changed), ap (λ (x : PlainSession). x.issued) (sym changed)),
        ),
      ),
    )

end_from : (client : List ℕ) (effect : Effect) → is_end effect ≡ true → (s : Sessions) (m : PlainSession) →
    HasPlace (act_effect client effect s).list m →
    (n : PlainSession)
    × (HasPlace s.list n × ((n.client ≡ m.client) × ((n.incarnation ≡ m.incarnation) × (n.issued ≡ m.issued))))
end_from client (Parted p) is s m has = parted_from client p s m has
end_from client Ended is s m has =
    (m, ((place_filtered (λ (n : PlainSession). not (bytes_eq n.client client)) s.list m has).0, (refl, (refl, refl))))
end_from client other is s m has = absurd (true≢false (sym is))

ends_from : (s : Sessions) (ends : List Change) → AreEnds ends → (m : PlainSession) → HasPlace (act_all s ends).list m →
    (n : PlainSession)
    × (HasPlace s.list n × ((n.client ≡ m.client) × ((n.incarnation ≡ m.incarnation) × (n.issued ≡ m.issued))))
ends_from s [] are m has = (m, (has, (refl, (refl, refl))))
ends_from s (c ∷ ends) are m has =
    let (later, (there, (client, (number, issued)))) = ends_from (act_one s c) ends are.1 m has in
    let (n, (stood, (client_n, (number_n, issued_n)))) = end_from c.client c.effect are.0 s later there in
    (n, (stood, (client_n ∙ client, (number_n ∙ number, issued_n ∙ issued))))

-- what a session of a worker was issued is committed
pub issued_kept : (is_home : List ℕ → Bool) (s : Sessions) (ends : List Change) → AreEnds ends → AreApart is_home s →
    (m : PlainSession) → HasPlace (act_all s ends).list m → IsKept s m.client m.incarnation m.issued
issued_kept is_home s ends are apart m has = by (ends_from s ends are m has)
  where
    by : ((n : PlainSession)
        × (HasPlace s.list n × ((n.client ≡ m.client) × ((n.incarnation ≡ m.incarnation) × (n.issued ≡ m.issued))))) →
        IsKept s m.client m.incarnation m.issued
    by (n, (stood, (client, (number, issued)))) = (was, below)
      where
        below : m.incarnation < s.next
        below =
            subst (λ (x : ℕ). x < s.next) number
            (apart.below n.incarnation (place_through (λ (m : PlainSession). m.incarnation) s.list n stood))

        was : WasIssued s m.client m.incarnation m.issued
        was o is_there its_client its_number e there =
            let one = differ_places (λ (m : PlainSession). m.incarnation) s.list apart.numbers is_there.0 stood.0 o n
            is_there.1 stood.1 (its_number ∙ sym number) in
            let same : n ≡ o = same_Some n o (sym stood.1 ∙ ap (slice_get s.list) (sym one) ∙ is_there.1) in
            subst (λ (x : PlainSession). HasPlace x.issued e) same
            (subst (λ (es : List Entry). HasPlace es e) (sym issued) there)
