-- Wide windows: which sessions get one, how long their batches are, and that a window is kept.
use Rattle.std.specs.Prelude.{ℕ, ◌+◌, ◌*◌, ◌≡◌, refl, List, [], ◌∷◌, ◌++◌, replicate, codes}
use Rattle.topic_model.specs.Profile.{Profile, whole}
use Rattle.world_model.specs.Computing.{running}
use Rattle.world_model.specs.Running.{text_of_script}
use Rattle.world_examples.specs.RowWords.{lines, each, send_m, k0, k1, granted_one, acknowledged, ponged}
use Rattle.world_examples.specs.RowWords.{delivered_numbered}
use Rattle.world_examples.specs.RowWords.{a_connects, p_connects, both_there, pump_and_ping}

-- `a` connects with a Receive Maximum of 2,048 and subscribes to `a/b`, and `p` connects
abbrev wide_connects : List (List ℕ)
wide_connects = codes "open 1" ∷ codes "send 1 101600044D5154540500003C081100000E10210800000161" ∷ []

abbrev wide_there : List (List ℕ)
wide_there = wide_connects ++ codes "send 1 82090001000003612F6201" ∷ p_connects

abbrev there_text : List (List ℕ)
there_text = k0 (codes "1") ∷ granted_one (codes "1") ∷ k0 (codes "2") ∷ []

-- `p` publishes so many times
abbrev publishes : ℕ → List (List ℕ)
publishes n = replicate n (send_m (codes "2"))

abbrev publishes_text : ℕ → List (List ℕ)
publishes_text n = replicate n (acknowledged (codes "2") (codes "07"))

-- so many deliveries on track 1, from a number on, the first being 0
abbrev deliveries : ℕ → ℕ → List (List ℕ)
deliveries from n = each (λ (k : ℕ). delivered_numbered (codes "1") (2 * k + 1) ∷ []) from n

-- 300 messages: a pump gives 256 with the identifiers 1 to 511, the next one 44 with 513 to 599
wide_batches : text_of_script whole (lines (wide_there ++ publishes 300 ++ codes "pump 1" ∷ codes "pump 1" ∷ [])) []
    ≡ lines (there_text ++ publishes_text 300 ++ deliveries 0 256 ++ deliveries 256 44)
unfolding running
wide_batches = refl

-- and that is where the first pump ends
wide_batches_by_pumps : text_of_script whole (lines (wide_there ++ publishes 300 ++ pump_and_ping ++ pump_and_ping)) []
    ≡ lines
    (there_text ++ publishes_text 300 ++ deliveries 0 256 ++ ponged (codes "1") ∷ deliveries 256 44
    ++ ponged (codes "1") ∷ [])
unfolding running
wide_batches_by_pumps = refl

-- ---- the same with small numbers

-- windows of 4 and 8 and not 512 and 2,048, batches of 2 and 4 and not 64 and 256, and so many wide windows in place of
-- 256
abbrev small : ℕ → Profile
small wide = record whole { window = 4; batch = 2; wide_window = 8; wide_batch = 4; wide_sessions = wide }

-- 9 messages: two batches of 4 fill the wide window, and an acknowledgement makes room for the last
wide_window_fills : text_of_script (small 1)
    (lines
    (wide_there ++ publishes 9 ++ pump_and_ping ++ pump_and_ping ++ pump_and_ping
    ++ codes "send 1 40020001" ∷ pump_and_ping)) []
    ≡ lines
    (there_text ++ publishes_text 9 ++ deliveries 0 4 ++ ponged (codes "1") ∷ deliveries 4 4 ++ ponged (codes "1")
    ∷ ponged (codes "1") ∷ deliveries 8 1 ++ ponged (codes "1") ∷ [])
unfolding running
wide_window_fills = refl

-- a client that names no Receive Maximum has a narrow window
no_receive_maximum : text_of_script (small 1)
    (lines (both_there ++ publishes 5 ++ pump_and_ping ++ pump_and_ping ++ pump_and_ping)) []
    ≡ lines
    (there_text ++ publishes_text 5 ++ deliveries 0 2 ++ ponged (codes "1") ∷ deliveries 2 2 ++ ponged (codes "1")
    ∷ ponged (codes "1") ∷ [])
unfolding running
no_receive_maximum = refl

-- `b` on connection 3 asks for a wide window as `a` does, and subscribes likewise
abbrev b_asks_too : List (List ℕ)
b_asks_too =
    codes "open 3" ∷ codes "send 3 101600044D5154540500003C081100000E10210800000162"
    ∷ codes "send 3 82090001000003612F6201" ∷ []

-- where as many sessions as may have one have a wide window, the next one gets a narrow one
no_more_wide_ones : text_of_script (small 1)
    (lines
    (wide_there ++ b_asks_too ++ publishes 4
    ++ codes "pump 1" ∷ codes "pump 3" ∷ codes "send 3 C000" ∷ codes "pump 3" ∷ [])) []
    ≡ lines (there_text ++ k0 (codes "3") ∷ granted_one (codes "3") ∷ publishes_text 4 ++ deliveries 0 4
    ++ delivered_numbered (codes "3") 1 ∷ delivered_numbered (codes "3") 3 ∷ ponged (codes "3")
    ∷ delivered_numbered (codes "3") 5 ∷ delivered_numbered (codes "3") 7 ∷ [])
unfolding running
no_more_wide_ones = refl

-- a session keeps the window that it began with, whatever its client says when it comes back
wide_window_stays : text_of_script (small 1)
    (lines (wide_there ++ codes "close 1" ∷ a_connects ++ publishes 5 ++ pump_and_ping ++ pump_and_ping)) []
    ≡ lines (there_text ++ k1 (codes "1") ∷ publishes_text 5 ++ deliveries 0 4 ++ ponged (codes "1") ∷ deliveries 4 1
    ++ ponged (codes "1") ∷ [])
unfolding running
wide_window_stays = refl

-- a narrow one stays narrow too
narrow_window_stays : text_of_script (small 1)
    (lines (both_there ++ codes "close 1" ∷ wide_connects ++ publishes 3 ++ pump_and_ping ++ pump_and_ping)) []
    ≡ lines (there_text ++ k1 (codes "1") ∷ publishes_text 3 ++ deliveries 0 2 ++ ponged (codes "1") ∷ deliveries 2 1
    ++ ponged (codes "1") ∷ [])
unfolding running
narrow_window_stays = refl
