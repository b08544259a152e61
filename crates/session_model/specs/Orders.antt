-- When the numbers of a session are in order.
use Rattle.std.specs.Prelude.{ℕ, ◌≤◌, ◌<◌, ◌≡◌, true}
use Rattle.session_model.specs.Entry.{numbers1, numbers2}
use Rattle.session_model.specs.PlainSession.{PlainSession, issued1_of, issued2_of, is_done}
use Rattle.session_model.specs.Acting.{numbers_from}

-- Each track numbers its entries from 1 on without a gap, its mark is at or below the last number, and what is done was
-- received.
pub record HasNumbers (m : PlainSession) : Type 0 where
  pub track1 : numbers1 m.issued ≡ numbers_from 1 (issued1_of m)
  pub track2 : numbers2 m.issued ≡ numbers_from 1 (issued2_of m)
  pub acked : m.acked ≤ issued1_of m
  pub received : m.received ≤ issued2_of m
  pub done : (number : ℕ) → is_done m number ≡ true → (0 < number) × (number ≤ m.received)
