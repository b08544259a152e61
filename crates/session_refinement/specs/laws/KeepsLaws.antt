-- A session that begins keeps what it needs, and goes on to do so through each change that fits.
use Rattle.std.proofs.Common.{◌≡◌, ℕ, ◌+◌, ◌-◌, ◌==◌, Bool, true, false, if◌then◌else◌, List, [], ◌∷◌, ◌++◌, Some, None}
use Rattle.std.proofs.Common.{true≢false, refl, sym, ◌∙◌}
use Rattle.session_model.specs.declared.entry.Entry.{Entry}
use Rattle.session_model.specs.PlainSession.{PlainSession, begun_session}
use Rattle.session_model.specs.Change as session
use Rattle.session_model.specs.Acting.{changed_session, numbers_from}
use Rattle.session_model.specs.FitsSession.{suits}
use Rattle.session_model.specs.laws.OrderLaws.{begun_in_order, acting_in_order}
use Rattle.seq_tracks.specs.StandLaws.{stands_begun, stands_changed}
use Rattle.session_state.specs.declared.change.Effect.{Effect}
use Rattle.session_state.specs.declared.change.Effect.TheVariants.{Began, Ended, Bound, Parted, Subscribed, Replaced}
use Rattle.session_state.specs.declared.change.Effect.TheVariants.{Unsubscribed, Issued, Acked, Received, Done, Passed}
use Rattle.session_state.specs.KeptSession.{KeptSession, begun_kept}
use Rattle.session_state.specs.KeptActing.{with_effect, kept_changed}
use Rattle.session_refinement.specs.PlainChange.{plain_effect}
use Rattle.session_refinement.specs.StandFor.{Keeps, Group}
use Rattle.session_refinement.specs.Issuing.{IsIssuedAs, is_no_batch, new_groups}
use Rattle.session_refinement.specs.laws.ChangeLaws.{IsChange, change_keeps}
use Rattle.session_refinement.specs.laws.EffectLaws.{rests_change, rests_elsewhere, rests_acked_fit, rests_received}
use Rattle.session_refinement.specs.laws.EffectLaws.{rests_done, rests_passed, subscribed_change}
use Rattle.session_refinement.specs.laws.OneSubLaws.{unsubscribed_change, replaced_change}
use Rattle.session_refinement.specs.laws.IssueLaws.{issued_change}

pub begun_keeps : (client : List ℕ) (incarnation expiry window : ℕ) →
    Keeps (begun_kept client incarnation expiry window) (begun_session client incarnation expiry window) []
begun_keeps client incarnation expiry window =
    record {
      client = refl;
      incarnation = refl;
      window = refl;
      expiry = refl;
      parted = refl;
      next_sub = refl;
      next_version = refl;
      tracks = stands_begun client incarnation expiry window;
      subs = refl;
      versions = refl;
      issued = refl;
      are_groups = tt;
      batches = refl;
      numbers = begun_in_order client incarnation expiry window;
      numbered = record { subscriptions = refl; versions = refl };
    }

-- what each change does
pub effect_change : (k : KeptSession) (m : PlainSession) (groups : List Group) (entries : List Entry)
    (effect : Effect) → Keeps k m groups →
    suits m (plain_effect entries effect) ≡ true → IsIssuedAs m effect entries →
    IsChange k (with_effect effect k) m (changed_session (plain_effect entries effect) m) (new_groups effect entries)
effect_change k m groups entries (Began b) h fit is = absurd (true≢false (sym fit))
effect_change k m groups entries Ended h fit is =
    rests_change k m m groups h (rests_elsewhere m m.expiry m.parted) k.expiry k.parted k.tracks h.expiry h.parted
    h.tracks h.numbers
effect_change k m groups entries (Bound expiry) h fit is =
    let later = changed_session (session.Bound expiry) m in
    rests_change k m later groups h (rests_elsewhere m expiry None) expiry None k.tracks refl refl
    (stands_changed k.tracks m (session.Bound expiry) h.tracks h.numbers fit)
    (acting_in_order m (session.Bound expiry) fit h.numbers)
effect_change k m groups entries (Parted p) h fit is =
    let e = plain_effect entries (Parted p) in
    rests_change k m (changed_session e m) groups h (rests_elsewhere m p.expiry (Some p.moment)) p.expiry
    (Some p.moment) k.tracks refl refl (stands_changed k.tracks m e h.tracks h.numbers fit)
    (acting_in_order m e fit h.numbers)
effect_change k m groups entries (Subscribed s) h fit is = subscribed_change k m groups s h fit
effect_change k m groups entries (Replaced r) h fit is = replaced_change k m groups r h fit
effect_change k m groups entries (Unsubscribed number) h fit is = unsubscribed_change k m groups number h fit
effect_change k m groups entries (Issued i) h fit is = issued_change k m groups i entries h fit is
effect_change k m groups entries (Acked number) h fit is =
    let e = session.Acked number in
    rests_change k m (changed_session e m) groups h (rests_acked_fit m number fit) k.expiry k.parted
    (with_effect (Acked number) k).tracks h.expiry h.parted (stands_changed k.tracks m e h.tracks h.numbers fit)
    (acting_in_order m e fit h.numbers)
effect_change k m groups entries (Received number) h fit is =
    let e = session.Received number in
    rests_change k m (changed_session e m) groups h (rests_received m number) k.expiry k.parted
    (with_effect (Received number) k).tracks h.expiry h.parted (stands_changed k.tracks m e h.tracks h.numbers fit)
    (acting_in_order m e fit h.numbers)
effect_change k m groups entries (Done number) h fit is =
    let e = session.Done number in
    rests_change k m (changed_session e m) groups h (rests_done m m.received (number ∷ [])) k.expiry k.parted
    (with_effect (Done number) k).tracks h.expiry h.parted (stands_changed k.tracks m e h.tracks h.numbers fit)
    (acting_in_order m e fit h.numbers)
effect_change k m groups entries (Passed p) h fit is =
    let e = plain_effect entries (Passed p) in
    rests_change k m (changed_session e m) groups h
    (rests_passed m (record { track = p.track; number = p.number }) fit) k.expiry k.parted
    (with_effect (Passed p) k).tracks
    (h.expiry ∙ same (λ l. l.expiry) (p.track == 1) refl refl)
    (h.parted ∙ same (λ l. l.parted) (p.track == 1) refl refl) (stands_changed k.tracks m e h.tracks h.numbers fit)
    (acting_in_order m e fit h.numbers)
  where
    same : {A : Type 0} (of : PlainSession → A) (b : Bool) → of (record m { acked = p.number }) ≡ of m →
        of (record m { received = p.number; done = m.done ++ numbers_from (m.received + 1) (p.number - m.received) })
        ≡ of m →
        of m ≡ of
        (if b then record m { acked = p.number }
        else record m
        { received = p.number; done = m.done ++ numbers_from (m.received + 1) (p.number - m.received) })
    same of true one two = sym one
    same of false one two = sym two

-- a change that fits leaves a kept session that keeps what the plain one does
pub changed_keeps : (k : KeptSession) (m : PlainSession) (groups : List Group) (entries : List Entry)
    (effect : Effect) → Keeps k m groups →
    suits m (plain_effect entries effect) ≡ true → IsIssuedAs m effect entries →
    Keeps (kept_changed effect k) (changed_session (plain_effect entries effect) m)
    (groups ++ new_groups effect entries)
changed_keeps k m groups entries effect h fit is =
    change_keeps k (with_effect effect k) m (changed_session (plain_effect entries effect) m) groups
    (new_groups effect entries) h (effect_change k m groups entries effect h fit is)

-- a change but a batch needs no entries
pub no_entries : (m : PlainSession) (effect : Effect) (entries : List Entry) → is_no_batch effect ≡ true →
    IsIssuedAs m effect entries
no_entries m (Began b) entries single = tt
no_entries m Ended entries single = tt
no_entries m (Bound e) entries single = tt
no_entries m (Parted p) entries single = tt
no_entries m (Subscribed s) entries single = tt
no_entries m (Replaced r) entries single = tt
no_entries m (Unsubscribed n) entries single = tt
no_entries m (Issued i) entries single = absurd (true≢false (sym single))
no_entries m (Acked n) entries single = tt
no_entries m (Received n) entries single = tt
no_entries m (Done n) entries single = tt
no_entries m (Passed p) entries single = tt
