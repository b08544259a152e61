-- What a change leaves of a session holds of every session.
use Rattle.std.proofs.Common.{◌≡◌, ℕ, true, ◌+◌, List, [], ◌∷◌, ◌++◌, length, take, drop, append-nil, sym, ap, subst, ◌∙◌, arith}
use Rattle.std.proofs.lemmas.List.{drop_all, take_all}
use Rattle.topic_model.specs.Profile.{whole}
use Rattle.session_model.specs.Change.{Subscribes}
use Rattle.session_model.specs.declared.entry.Version.{Version}
use Rattle.seq_tracks.specs.PlainTracks.{PlainTracks}
use Rattle.seq_tracks.specs.InOrder.{InOrder}
use Rattle.session_state.specs.declared.batch.Batch.{Batch}
use Rattle.session_state.specs.declared.change.Effect.{Effect}
use Rattle.session_state.specs.KeptSub.{KeptSub}
use Rattle.session_state.specs.KeptSession.{KeptSession}
use Rattle.session_state.specs.KeptActing.{kept_batches, kept_changed, kept_subs, kept_versions, new_sub, subscribed_kept, tidied, version_of}
use Rattle.session_state.specs.KeptFits.{session_fits}
use Rattle.session_state.specs.Sound.{IsSound}
use Rattle.session_state.specs.TidyLaws.{tidied_by}
use Rattle.session_state.specs.SoundLaws.{sound_changed}

pub sound_by : (m old : KeptSession) (effect : Effect) (new : KeptSession) → m ≡ old → session_fits whole old effect ≡ true → IsSound m → InOrder m.tracks →
    new ≡ kept_changed effect m → IsSound new
sound_by m old effect new same fits sound order is =
    let fits_it = subst (λ s. session_fits whole s effect ≡ true) (sym same) fits in
    subst IsSound (sym is) (sound_changed m effect sound order fits_it)

-- with other tracks, and what is then needed
pub tidied_with : (m : KeptSession) (tracks moved : PlainTracks) (batches : List Batch) (versions : List Version) (subs : List KeptSub) → tracks ≡ moved →
    batches ≡ kept_batches tracks m.batches → versions ≡ kept_versions m.subs batches m.versions → subs ≡ kept_subs versions m.subs →
    record m { tracks = tracks; batches = batches; versions = versions; subs = subs } ≡ tidied (record m { tracks = moved })
tidied_with m tracks moved batches versions subs is are_batches are_versions are_subs =
    tidied_by (record m { tracks = tracks }) batches versions subs are_batches are_versions are_subs ∙ ap (λ t. tidied (record m { tracks = t })) is

-- from what was needed of other tracks, batches, versions and subscriptions
pub tidied_of : (n : KeptSession) (tracks : PlainTracks) (given_batches : List Batch) (given_versions : List Version) (given_subs : List KeptSub)
    (batches : List Batch) (versions : List Version) (subs : List KeptSub) →
    tracks ≡ n.tracks → given_batches ≡ n.batches → given_versions ≡ n.versions → given_subs ≡ n.subs →
    batches ≡ kept_batches tracks given_batches → versions ≡ kept_versions given_subs batches given_versions → subs ≡ kept_subs versions given_subs →
    record n { tracks = tracks; batches = batches; versions = versions; subs = subs } ≡ tidied n
tidied_of n tracks given_batches given_versions given_subs batches versions subs same_tracks same_batches same_versions same_subs are_batches are_versions are_subs =
    tidied_by (record n { tracks = tracks; batches = given_batches; versions = given_versions; subs = given_subs }) batches versions subs are_batches are_versions are_subs
    ∙ ap (λ t. tidied (record n { tracks = t; batches = given_batches; versions = given_versions; subs = given_subs })) same_tracks
    ∙ ap (λ b. tidied (record n { batches = b; versions = given_versions; subs = given_subs })) same_batches
    ∙ ap (λ v. tidied (record n { versions = v; subs = given_subs })) same_versions
    ∙ ap (λ s. tidied (record n { subs = s })) same_subs

-- a vector whose elements were lent as a slice
pub lent_back : {X : Type 0} (items lent new : List X) (len : ℕ) → lent ≡ items → length lent ≡ len → length new ≡ length lent →
    take len (new ++ drop (length new) items) ≡ new
lent_back items lent new len same long kept =
    let whole : drop (length new) items ≡ [] = no_more in
    ap (λ l. take len (new ++ l)) whole ∙ ap (take len) (append-nil new) ∙ all
  where
    no_more : drop (length new) items ≡ []
    no_more = let e = ap length same in drop_all (length new) items (omega arith)

    all : take len new ≡ new
    all = take_all len new (omega arith)

-- a new subscription and its version at the ends; the change that was read is the one that is seen
pub with_both : (m : KeptSession) (subs : List KeptSub) (versions : List Version) (read seen : Subscribes) → read ≡ seen →
    subs ≡ m.subs ++ new_sub seen ∷ [] → versions ≡ m.versions ++ version_of read ∷ [] →
    record m { next_sub = read.subscription + 1; next_version = read.version + 1; subs = subs; versions = versions } ≡ subscribed_kept seen m
with_both m subs versions read seen same are_subs are_versions =
    ap (λ l. record m { next_sub = read.subscription + 1; next_version = read.version + 1; subs = l; versions = versions }) are_subs
    ∙ ap (λ l. record m { next_sub = read.subscription + 1; next_version = read.version + 1; subs = m.subs ++ new_sub seen ∷ []; versions = l }) are_versions
    ∙ ap (λ (s : Subscribes). record m { next_sub = s.subscription + 1; next_version = s.version + 1; subs = m.subs ++ new_sub seen ∷ []; versions = m.versions ++ version_of s ∷ [] }) same
