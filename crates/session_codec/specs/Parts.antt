-- The parts of which a session is read.
use Rattle.std.specs.Prelude.{ℕ, Bool, if◌then◌else◌, List, Option, Some, None}
use Rattle.session_model.specs.declared.entry.Version.{Version}
use Rattle.seq_tracks.specs.PlainTracks.{PlainTracks}
use Rattle.session_state.specs.declared.batch.Batch.{Batch}
use Rattle.session_state.specs.KeptSub.{KeptSub}
use Rattle.session_state.specs.KeptSession.{KeptSession, KeptSessions}
use Rattle.session_codec.specs.Soundness.{sessions_with, are_sound}
use Rattle.session_codec.specs.declared.session_parts.Holder.{Holder}
use Rattle.session_codec.specs.declared.session_parts.Kept.{Kept}

abbrev pub told_holder : Holder → List ℕ × (ℕ × (ℕ × (ℕ × Option ℕ)))
told_holder h = (h.client, (h.incarnation, (h.expiry, (h.window, h.parted))))

abbrev pub told_kept : Kept → ℕ × (ℕ × (PlainTracks × (List KeptSub × (List Version × List Batch))))
told_kept k = (k.next_sub, (k.next_version, (k.tracks, (k.subs.items, (k.versions.items, k.batches.items)))))

-- the session with these
abbrev pub session_with : Holder → Kept → KeptSession
session_with h k =
    record {
      client = h.client;
      incarnation = h.incarnation;
      window = h.window;
      expiry = h.expiry;
      parted = h.parted;
      next_sub = k.next_sub;
      next_version = k.next_version;
      tracks = k.tracks;
      subs = k.subs.items;
      versions = k.versions.items;
      batches = k.batches.items;
    }

-- the sessions that were read, where they may be the sessions of a worker
abbrev pub sessions_from : ℕ → Option (List KeptSession × List ℕ) → Option (KeptSessions × List ℕ)
sessions_from next None = None
sessions_from next (Some x) = if are_sound (sessions_with next x.0) then Some (sessions_with next x.0, x.1) else None

-- a value, if it passes a test
abbrev pub tested : {A : Type 0} → (A → Bool) → A → Option A
tested test x = if test x then Some x else None
