-- Acknowledgements by subscribers: their order, their spellings, Receive Maximum, batches and the window.
use Rattle.std.specs.Prelude.{ℕ, ◌+◌, ◌*◌, ◌≡◌, refl, List, [], ◌∷◌, ◌++◌, replicate, codes}
use Rattle.topic_model.specs.Profile.{whole}
use Rattle.world_model.specs.Computing.{running}
use Rattle.world_model.specs.Running.{text_of_script}
use Rattle.world_examples.specs.RowWords.{lines, each, send_m, closed, k0, k1, acknowledged, ponged, delivered, resent}
use Rattle.world_examples.specs.RowWords.{delivered_numbered, p_connects, both_there, both_there_text, pump_and_ping}

-- `a` has subscribed and `p` publishes so many times
abbrev waiting : ℕ → List (List ℕ)
waiting n = both_there ++ replicate n (send_m (codes "2"))

abbrev waiting_text : ℕ → List (List ℕ)
waiting_text n = both_there_text ++ replicate n (acknowledged (codes "2") (codes "07"))

-- so many deliveries on track 1, from a number on, the first being 0
abbrev deliveries : ℕ → ℕ → List (List ℕ)
deliveries from n = each (λ (k : ℕ). delivered_numbered (codes "1") (2 * k + 1) ∷ []) from n

-- ---- the order of acknowledgements

-- a PUBACK of an identifier that nothing was sent with is passed over; one that isn't the next closes
acknowledged_out_of_order : text_of_script whole
    (lines (waiting 2 ++ codes "pump 1" ∷ codes "pump 1" ∷ codes "send 1 40020009" ∷ codes "send 1 40020003" ∷ [])) []
    ≡ lines (waiting_text 2 ++ delivered (codes "1") (codes "01") ∷ delivered (codes "1") (codes "03")
    ∷ codes "1< E00182" ∷ closed (codes "1") ∷ [])
unfolding running
acknowledged_out_of_order = refl

-- the three spellings of a PUBACK are one packet: all that was sent is acknowledged, and nothing comes again
three_spellings : text_of_script whole
    (lines
    (waiting 3 ++ codes "pump 1" ∷ codes "send 1 40020001" ∷ codes "send 1 4003000300" ∷ codes "send 1 400400050000"
    ∷ codes "pump 1" ∷ codes "look" ∷ [])) []
    ≡ lines (waiting_text 3 ++ deliveries 0 3 ++ codes "shard 0 floor 0 next 3 awaiting 0"
    ∷ codes " generation 0 first 0 next 3 streams 1"
    ∷ codes "  stream 0 a/b count 3"
    ∷ codes "worker 0"
    ∷ codes " session a subs 1 unfinished 0"
    ∷ codes " session p subs 0 unfinished 0" ∷ [])
unfolding running
three_spellings = refl

-- before that they are unfinished
three_unfinished : text_of_script whole
    (lines (waiting 3 ++ codes "pump 1" ∷ codes "send 1 40020001" ∷ codes "look" ∷ [])) []
    ≡ lines (waiting_text 3 ++ deliveries 0 3 ++ codes "shard 0 floor 0 next 3 awaiting 0"
    ∷ codes " generation 0 first 0 next 3 streams 1"
    ∷ codes "  stream 0 a/b count 3"
    ∷ codes "worker 0"
    ∷ codes " session a subs 1 unfinished 2"
    ∷ codes " session p subs 0 unfinished 0" ∷ [])
unfolding running
three_unfinished = refl

-- ---- Receive Maximum

-- With a Receive Maximum of 1 one packet is out at a time: what is sent again comes one by one, each when the last was
-- acknowledged.
receive_maximum_one : text_of_script whole
    (lines (waiting 3 ++ codes "pump 1" ∷ codes "close 1" ∷ codes "open 1"
    ∷ codes "send 1 101600044D5154540500003C081100000E10210001000161"
    ∷ codes "pump 1" ∷ codes "pump 1" ∷ codes "send 1 40020001" ∷ codes "pump 1" ∷ [])) []
    ≡ lines
    (waiting_text 3 ++ deliveries 0 3
    ++ k1 (codes "1") ∷ resent (codes "1") (codes "01") ∷ resent (codes "1") (codes "03") ∷ [])
unfolding running
receive_maximum_one = refl

-- the second of those pumps gave nothing: a PINGRESP stands behind each pump's packets
receive_maximum_one_by_pumps : text_of_script whole
    (lines (waiting 3 ++ codes "pump 1" ∷ codes "close 1" ∷ codes "open 1"
    ∷ codes "send 1 101600044D5154540500003C081100000E10210001000161"
    ∷ pump_and_ping ++ pump_and_ping ++ codes "send 1 40020001" ∷ pump_and_ping)) []
    ≡ lines (waiting_text 3 ++ deliveries 0 3 ++ k1 (codes "1") ∷ resent (codes "1") (codes "01") ∷ ponged (codes "1")
    ∷ ponged (codes "1") ∷ resent (codes "1") (codes "03") ∷ ponged (codes "1") ∷ [])
unfolding running
receive_maximum_one_by_pumps = refl

-- ---- batches and the window

-- a pump gives at most 64 messages
sixty_six : text_of_script whole (lines (waiting 66 ++ pump_and_ping ++ pump_and_ping)) []
    ≡ lines (waiting_text 66 ++ deliveries 0 64 ++ ponged (codes "1") ∷ deliveries 64 2 ++ ponged (codes "1") ∷ [])
unfolding running
sixty_six = refl

-- A window that is full gives nothing until a PUBACK makes room: here 4 deliveries and not 512, in batches of 2 and not
-- 64.
full_window : text_of_script (record whole { window = 4; batch = 2 })
    (lines (waiting 5 ++ pump_and_ping ++ pump_and_ping ++ pump_and_ping ++ codes "send 1 40020001" ∷ pump_and_ping)) []
    ≡ lines (waiting_text 5 ++ deliveries 0 2 ++ ponged (codes "1") ∷ deliveries 2 2 ++ ponged (codes "1")
    ∷ ponged (codes "1") ∷ deliveries 4 1 ++ ponged (codes "1") ∷ [])
unfolding running
full_window = refl

-- a window of QoS 2 deliveries: PUBREC makes no room, PUBCOMP does (2 deliveries and not 512)
full_window_of_qos2 : text_of_script (record whole { window = 2; batch = 2 })
    (lines
    (codes "open 1" ∷ codes "send 1 101300044D5154540500003C051100000E10000161"
    ∷ codes "send 1 82090001000003612F6202"
    ∷ p_connects
    ++ codes "send 2 340A0003612F620005006869" ∷ codes "send 2 340A0003612F620006006869"
    ∷ codes "send 2 340A0003612F620007006869"
    ∷ pump_and_ping ++ codes "send 1 50020002" ∷ pump_and_ping ++ codes "send 1 70020002" ∷ pump_and_ping)) []
    ≡ lines
    (k0 (codes "1") ∷ codes "1< 900400010002" ∷ k0 (codes "2") ∷ codes "2< 50020005" ∷ codes "2< 50020006"
    ∷ codes "2< 50020007"
    ∷ codes "1< 340A0003612F620002006869" ∷ codes "1< 340A0003612F620004006869" ∷ ponged (codes "1")
    ∷ codes "1< 62020002" ∷ ponged (codes "1") ∷ codes "1< 340A0003612F620006006869" ∷ ponged (codes "1") ∷ [])
unfolding running
full_window_of_qos2 = refl
