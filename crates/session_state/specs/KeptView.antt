-- What a session's fields are seen as.
use Rattle.session_state.specs.declared.session.Session.TheInside.{Inside}
use Rattle.session_state.specs.KeptSession.{KeptSession}

abbrev pub kept_of : Inside → KeptSession
kept_of s =
    record {
      client = s.client;
      incarnation = s.incarnation;
      window = s.window;
      expiry = s.expiry;
      parted = s.parted;
      next_sub = s.next_sub;
      next_version = s.next_version;
      tracks = s.tracks;
      subs = s.subs.items;
      versions = s.versions.items;
      batches = s.batches.items;
    }
