-- Subscribing: filters that are granted and refused, equal filters, limits, and packets over a client's limit.
use Rattle.std.specs.Prelude.{ℕ, ◌≡◌, refl, List, [], ◌∷◌, ◌++◌, codes}
use Rattle.std.specs.Fmt.{decimal}
use Rattle.hex.specs.Hex.{encode_upper}
use Rattle.topic_model.specs.Profile.{whole}
use Rattle.world_model.specs.Computing.{running}
use Rattle.world_model.specs.Running.{text_of_script}
use Rattle.world_examples.specs.RowWords.{lines, each, send, send_m, says, closed, k0, k1, granted_one, acknowledged}
use Rattle.world_examples.specs.RowWords.{delivered, resent}
use Rattle.world_examples.specs.RowWords.{a_connects, p_connects, comes_back, first_publish_lines, first_publish_text}

-- a filter with a wildcard, which is granted QoS 1
subscribes_with_wildcard : text_of_script whole (lines (a_connects ++ codes "send 1 82090001000003612F2B01" ∷ [])) []
    ≡ lines (k0 (codes "1") ∷ granted_one (codes "1") ∷ [])
unfolding running
subscribes_with_wildcard = refl

-- a filter that was unsubscribed once is gone the second time
unsubscribes_twice : text_of_script whole
    (lines (a_connects ++ codes "send 1 82090001000003612F2B01" ∷ codes "send 1 A2080003000003612F2B"
    ∷ codes "send 1 A2080003000003612F2B" ∷ [])) []
    ≡ lines (k0 (codes "1") ∷ granted_one (codes "1") ∷ codes "1< B00400030000" ∷ codes "1< B00400030011" ∷ [])
unfolding running
unsubscribes_twice = refl

-- An equal filter with QoS 0: what was issued before keeps its QoS 1 and is sent again; the place among the messages
-- stays.
equal_filter_keeps_its_place : text_of_script whole
    (lines
    (first_publish_lines ++ codes "send 2 320A0003612F62000800686A" ∷ codes "send 1 82090002000003612F6200"
    ∷ codes "pump 1"
    ∷ codes "close 1" ∷ comes_back)) []
    ≡ lines
    (first_publish_text ++ acknowledged (codes "2") (codes "08") ∷ codes "1< 900400020000"
    ∷ codes "1< 30080003612F6200686A"
    ∷ k1 (codes "1") ∷ resent (codes "1") (codes "01") ∷ [])
unfolding running
equal_filter_keeps_its_place = refl

-- ---- refused filters

-- the empty text is no filter
empty_filter : text_of_script whole (lines (a_connects ++ codes "send 1 8206000100000001" ∷ [])) []
    ≡ lines (k0 (codes "1") ∷ codes "1< 90040001008F" ∷ [])
unfolding running
empty_filter = refl

-- QoS 3 is a broken rule
qos_three : text_of_script whole (lines (a_connects ++ codes "send 1 820700010000016103" ∷ [])) []
    ≡ lines (k0 (codes "1") ∷ codes "1< E00182" ∷ closed (codes "1") ∷ [])
unfolding running
qos_three = refl

-- shared subscriptions aren't taken yet
shared_filter : text_of_script whole
    (lines (a_connects ++ codes "send 1 8212000100000C2473686172652F672F612F6201" ∷ [])) []
    ≡ lines (k0 (codes "1") ∷ codes "1< 90040001009E" ∷ [])
unfolding running
shared_filter = refl

-- ---- limits

-- the filters `10`, `11` and so on, each with QoS 1, as many as are asked for
abbrev wishes : ℕ → List ℕ
wishes n = each (λ (k : ℕ). encode_upper (0 ∷ 2 ∷ decimal k) ++ codes "01") 10 n

abbrev grants : ℕ → List ℕ
grants n = each (λ (k : ℕ). codes "01") 0 n

-- 64 filters are held; the next one, `74`, isn't granted, while `10` is held and gets another QoS
sixty_fifth_filter : text_of_script whole
    (lines
    (a_connects ++ send (codes "1") (codes "82C302000100" ++ wishes 64)
    ∷ codes "send 1 820D00020000023734010002313002" ∷ [])) []
    ≡ lines (k0 (codes "1") ∷ says (codes "1") (codes "9043000100" ++ grants 64) ∷ codes "1< 90050002009702" ∷ [])
unfolding running
sixty_fifth_filter = refl

-- the same where 2 may be held: `a` and `b` are, `c` isn't granted
third_filter : text_of_script (record whole { subscriptions = 2 })
    (lines (a_connects ++ codes "send 1 820B0001000001610100016201" ∷ codes "send 1 820B0002000001630100016102" ∷ []))
    []
    ≡ lines (k0 (codes "1") ∷ codes "1< 90050001000101" ∷ codes "1< 90050002009702" ∷ [])
unfolding running
third_filter = refl

-- of one SUBSCRIBE only so many places are granted, here 2 and not 256
places_of_one_packet : text_of_script (record whole { granted = 2 })
    (lines (a_connects ++ codes "send 1 820F000100000161010001620100016301" ∷ [])) []
    ≡ lines (k0 (codes "1") ∷ codes "1< 9006000100010197" ∷ [])
unfolding running
places_of_one_packet = refl

-- the texts of all filters that a session keeps have a limit, here 4 bytes and not 65,536: `a/b` fits, and `c` behind
-- it, `d` doesn't
filter_texts_are_full : text_of_script (record whole { filter_texts = 4 })
    (lines (a_connects ++ codes "send 1 82090001000003612F6201" ∷ codes "send 1 820B0002000001630100016401" ∷ [])) []
    ≡ lines (k0 (codes "1") ∷ granted_one (codes "1") ∷ codes "1< 90050002000197" ∷ [])
unfolding running
filter_texts_are_full = refl

-- ---- a client's own limit

-- A packet that is longer than the subscriber takes, here 21 bytes where 20 are taken, is passed by in silence; the
-- next one is given.
over_the_client_limit : text_of_script whole
    (lines
    (codes "open 1" ∷ codes "send 1 101800044D5154540500003C0A1100000E102700000014000161"
    ∷ codes "send 1 82090001000003612F6201"
    ∷ p_connects ++ codes "send 2 32130003612F6200060068656C6C6F20776F726C64" ∷ send_m (codes "2")
    ∷ codes "pump 1" ∷ codes "pump 1" ∷ [])) []
    ≡ lines (k0 (codes "1") ∷ granted_one (codes "1") ∷ k0 (codes "2") ∷ acknowledged (codes "2") (codes "06")
    ∷ acknowledged (codes "2") (codes "07") ∷ delivered (codes "1") (codes "01") ∷ [])
unfolding running
over_the_client_limit = refl
