-- Crashes and failing device calls: what comes again, what is stored once, and what an outcome in doubt leaves. The
-- choices say what each append, rotation, commit and cold read did, and where something pends whether it goes in.
use Rattle.std.specs.Prelude.{ℕ, ◌≡◌, refl, List, [], ◌∷◌, ◌++◌, codes}
use Rattle.topic_model.specs.Profile.{whole}
use Rattle.shard_model.specs.Choices.{Choice, Works, Fails, GoesIn, GoesOut}
use Rattle.world_model.specs.Computing.{running}
use Rattle.world_model.specs.Running.{text_of_script}
use Rattle.world_examples.specs.RowWords.{lines, send, send_m, publish, publish_m, closed, k0, k1, acknowledged}
use Rattle.world_examples.specs.RowWords.{delivered, resent}
use Rattle.world_examples.specs.RowWords.{a_connects, p_connects, both_there, both_there_text, published}
use Rattle.world_examples.specs.RowWords.{published_text, comes_back}
use Rattle.world_examples.specs.RowWords.{first_publish_lines, first_publish_text}

-- so many calls that work come before some choices
abbrev after_three : List Choice → List Choice
after_three later = Works ∷ Works ∷ Works ∷ later

abbrev after_six : List Choice → List Choice
after_six later = after_three (after_three later)

abbrev after_nine : List Choice → List Choice
after_nine later = after_three (after_six later)

-- ---- crashes alone

-- what was delivered and not acknowledged comes again after a crash, with DUP
resent_after_crash : text_of_script whole (lines (first_publish_lines ++ codes "crash 1" ∷ comes_back)) []
    ≡ lines (first_publish_text ++ codes "crashed" ∷ k1 (codes "1") ∷ resent (codes "1") (codes "01") ∷ [])
unfolding running
resent_after_crash = refl

-- A delivery with QoS 2 that was received before a crash is released after it, and ends with PUBCOMP.
qos2_delivery_survives : text_of_script whole
    (lines
    (a_connects ++ codes "send 1 82090001000003612F6202" ∷ p_connects
    ++ send (codes "2") (publish (codes "34") (codes "05"))
    ∷ codes "send 2 62020005" ∷ codes "pump 1" ∷ codes "send 1 50020002" ∷ codes "crash 1"
    ∷ comes_back ++ codes "send 1 70020002" ∷ codes "pump 1" ∷ [])) []
    ≡ lines (k0 (codes "1") ∷ codes "1< 900400010002" ∷ k0 (codes "2") ∷ codes "2< 50020005" ∷ codes "2< 70020005"
    ∷ codes "1< 340A0003612F620002006869" ∷ codes "1< 62020002" ∷ codes "crashed" ∷ k1 (codes "1") ∷ codes "1< 62020002"
    ∷ [])
unfolding running
qos2_delivery_survives = refl

-- `p` publishes with QoS 2 before a crash and sends the same again, before it and after it
abbrev published_thrice : List (List ℕ)
published_thrice =
    p_connects ++ send (codes "2") (publish (codes "34") (codes "05"))
    ∷ send (codes "2") (publish (codes "3C") (codes "05"))
    ∷ codes "crash 0" ∷ p_connects ++ send (codes "2") (publish (codes "3C") (codes "05"))
    ∷ codes "send 2 62020005" ∷ codes "send 2 62020005" ∷ []

abbrev published_thrice_text : List (List ℕ)
published_thrice_text =
    k0 (codes "2") ∷ codes "2< 50020005" ∷ codes "2< 50020005" ∷ codes "crashed" ∷ k1 (codes "2") ∷ codes "2< 50020005"
    ∷ codes "2< 70020005" ∷ codes "2< 7003000592" ∷ []

-- all three are answered, the message is stored once, and its identifier is released once
qos2_publish_once : text_of_script whole (lines published_thrice) [] ≡ lines published_thrice_text
unfolding running
qos2_publish_once = refl

-- and the shard holds one message
qos2_stored_once : text_of_script whole (lines (published_thrice ++ codes "look" ∷ [])) []
    ≡ lines (published_thrice_text
    ++ codes "shard 0 floor 0 next 1 awaiting 0"
    ∷ codes " generation 0 first 0 next 1 streams 1"
    ∷ codes "  stream 0 a/b count 1"
    ∷ codes "worker 0"
    ∷ codes " session p subs 0 unfinished 0" ∷ [])
unfolding running
qos2_stored_once = refl

-- ---- a pump whose commit fails

-- The journal fails at a call K of the commit, and then there is a crash that leaves image N.
abbrev stopped_issue : List ℕ → List ℕ → List (List ℕ)
stopped_issue k n = published ++ (codes "fail 10 " ++ k) ∷ codes "pump 1" ∷ (codes "crash " ++ n) ∷ comes_back

abbrev stopped_issue_text : List (List ℕ)
stopped_issue_text = published_text ++ codes "1< E00183" ∷ closed (codes "1") ∷ codes "crashed" ∷ k1 (codes "1") ∷ []

-- the connection is closed; where the record is in after the crash the packet comes as one sent before
every_stop_of_an_issue_in : text_of_script whole (lines (stopped_issue (codes "4") (codes "1")))
    (after_three (Works ∷ Fails ∷ GoesIn ∷ []))
    ≡ lines (stopped_issue_text ++ resent (codes "1") (codes "01") ∷ [])
unfolding running
every_stop_of_an_issue_in = refl

-- the same where another call failed and another image is left
every_stop_of_an_issue_in_too : text_of_script whole (lines (stopped_issue (codes "3") (codes "4")))
    (after_three (Works ∷ Fails ∷ GoesIn ∷ []))
    ≡ lines (stopped_issue_text ++ resent (codes "1") (codes "01") ∷ [])
unfolding running
every_stop_of_an_issue_in_too = refl

-- and where it isn't in the packet comes as a new one
every_stop_of_an_issue_out : text_of_script whole (lines (stopped_issue (codes "1") (codes "1")))
    (after_three (Works ∷ Fails ∷ GoesOut ∷ []))
    ≡ lines (stopped_issue_text ++ delivered (codes "1") (codes "01") ∷ [])
unfolding running
every_stop_of_an_issue_out = refl

-- the same where the last call failed and the image holds the old bytes
every_stop_of_an_issue_out_too : text_of_script whole (lines (stopped_issue (codes "4") (codes "0")))
    (after_three (Works ∷ Fails ∷ GoesOut ∷ []))
    ≡ lines (stopped_issue_text ++ delivered (codes "1") (codes "01") ∷ [])
unfolding running
every_stop_of_an_issue_out_too = refl

-- ---- an append that fails

-- A publish in doubt isn't acknowledged and closes; the next append settles it first.
abbrev append_fails : List ℕ → List (List ℕ)
append_fails k =
    both_there ++ (codes "fail 2 " ++ k) ∷ send_m (codes "2") ∷ p_connects
    ++ send (codes "2") (publish (codes "3A") (codes "07")) ∷ codes "pump 1" ∷ []

abbrev append_fails_text : List (List ℕ)
append_fails_text = both_there_text
    ++ codes "2< E00183" ∷ closed (codes "2") ∷ k1 (codes "2") ∷ acknowledged (codes "2") (codes "07") ∷ []

-- the first one was in, so there are two
append_in_doubt : text_of_script whole (lines (append_fails (codes "4"))) (after_three (Fails ∷ Works ∷ GoesIn ∷ []))
    ≡ lines (append_fails_text ++ delivered (codes "1") (codes "01") ∷ delivered (codes "1") (codes "03") ∷ [])
unfolding running
append_in_doubt = refl

-- it wasn't, so there is one
append_not_in : text_of_script whole (lines (append_fails (codes "1"))) (after_three (Fails ∷ Works ∷ GoesOut ∷ []))
    ≡ lines (append_fails_text ++ delivered (codes "1") (codes "01") ∷ [])
unfolding running
append_not_in = refl

-- the same stop with a crash behind it, with a call K of the append and an image N
abbrev stopped_append : List ℕ → List ℕ → List (List ℕ)
stopped_append k n = both_there ++ (codes "fail 2 " ++ k) ∷ send_m (codes "2") ∷ (codes "crash " ++ n) ∷ comes_back

abbrev stopped_append_text : List (List ℕ)
stopped_append_text = both_there_text ++ codes "2< E00183" ∷ closed (codes "2") ∷ codes "crashed" ∷ k1 (codes "1") ∷ []

-- a publish in doubt that is in after the crash is given
every_stop_of_an_append_in : text_of_script whole (lines (stopped_append (codes "3") (codes "1")))
    (after_three (Fails ∷ GoesIn ∷ []))
    ≡ lines (stopped_append_text ++ delivered (codes "1") (codes "01") ∷ [])
unfolding running
every_stop_of_an_append_in = refl

-- one that isn't in is not
every_stop_of_an_append_out : text_of_script whole (lines (stopped_append (codes "2") (codes "3")))
    (after_three (Fails ∷ GoesOut ∷ []))
    ≡ lines stopped_append_text
unfolding running
every_stop_of_an_append_out = refl

-- ---- cold bodies

-- The first message's generation is sealed when the second is published. A resend reads its body from the disk; a line
-- may come before the pump, and lines behind it.
abbrev read_cold : List (List ℕ) → List (List ℕ)
read_cold more =
    codes "set messages 1" ∷ codes "set retention 1000" ∷ first_publish_lines
    ++ send_m (codes "2") ∷ codes "pump 1" ∷ codes "close 1"
    ∷ a_connects ++ more

abbrev read_cold_text : List (List ℕ)
read_cold_text =
    first_publish_text ++ acknowledged (codes "2") (codes "07") ∷ delivered (codes "1") (codes "03") ∷ k1 (codes "1")
    ∷ resent (codes "1") (codes "01") ∷ resent (codes "1") (codes "03") ∷ []

-- both unfinished packets come again, the first with its body read from the disk
cold_body : text_of_script whole (lines (read_cold (codes "pump 1" ∷ []))) [] ≡ lines read_cold_text
unfolding running
cold_body = refl

-- A pump whose cold read fails gives nothing and leaves the connection open. Before it work three commits, an append, a
-- pump's commit, a rotation, an append, a pump's commit and that of the CONNECT.
cold_read_fails : text_of_script whole (lines (read_cold (codes "fail 2 1" ∷ codes "pump 1" ∷ [])))
    (after_nine (Fails ∷ []))
    ≡ lines
    (first_publish_text ++ acknowledged (codes "2") (codes "07") ∷ delivered (codes "1") (codes "03")
    ∷ k1 (codes "1") ∷ [])
unfolding running
cold_read_fails = refl

-- the next pump reads it
cold_read_fails_once : text_of_script whole
    (lines (read_cold (codes "fail 2 1" ∷ codes "pump 1" ∷ codes "pump 1" ∷ [])))
    (after_nine (Fails ∷ []))
    ≡ lines read_cold_text
unfolding running
cold_read_fails_once = refl

-- ---- groups and records of one piece

-- The publishes of one piece are one append: the fifth call is the pump's commit, whose disk doesn't fail.
one_append_a_piece : text_of_script whole
    (lines (both_there ++ codes "fail 2 4" ∷ send (codes "2") (publish_m ++ publish_m) ∷ codes "pump 1" ∷ []))
    (after_three (Works ∷ Fails ∷ []))
    ≡ lines (both_there_text ++ acknowledged (codes "2") (codes "07") ∷ acknowledged (codes "2") (codes "07")
    ∷ delivered (codes "1") (codes "01") ∷ delivered (codes "1") (codes "03") ∷ [])
unfolding running
one_append_a_piece = refl

-- They fail together, and are in or out together. Behind them `p` publishes once more.
abbrev group_fails : List (List ℕ)
group_fails =
    both_there ++ codes "fail 2 4" ∷ send (codes "2") (publish_m ++ publish_m) ∷ p_connects
    ++ send (codes "2") (publish (codes "3A") (codes "07")) ∷ codes "pump 1" ∷ []

-- the group is in: its two messages and the later one
group_in_doubt : text_of_script whole (lines group_fails) (after_three (Fails ∷ Works ∷ GoesIn ∷ []))
    ≡ lines (append_fails_text ++ delivered (codes "1") (codes "01") ∷ delivered (codes "1") (codes "03")
    ∷ delivered (codes "1") (codes "05") ∷ [])
unfolding running
group_in_doubt = refl

-- it isn't: the later one alone
group_not_in : text_of_script whole (lines group_fails) (after_three (Fails ∷ Works ∷ GoesOut ∷ []))
    ≡ lines (append_fails_text ++ delivered (codes "1") (codes "01") ∷ [])
unfolding running
group_not_in = refl

-- The acknowledgements of one piece are one record. Two deliveries are acknowledged; the record fails, and then there
-- is a crash.
abbrev record_fails : List (List ℕ)
record_fails =
    published ++ send_m (codes "2") ∷ codes "pump 1" ∷ codes "fail 10 4" ∷ codes "send 1 4002000140020003"
    ∷ codes "crash 1" ∷ comes_back

abbrev record_fails_text : List (List ℕ)
record_fails_text =
    published_text ++ acknowledged (codes "2") (codes "07") ∷ delivered (codes "1") (codes "01")
    ∷ delivered (codes "1") (codes "03")
    ∷ codes "1< E00183" ∷ closed (codes "1") ∷ codes "crashed" ∷ k1 (codes "1") ∷ []

-- the record is in: nothing comes again
record_in : text_of_script whole (lines record_fails) (after_six (Fails ∷ GoesIn ∷ [])) ≡ lines record_fails_text
unfolding running
record_in = refl

-- it isn't: both come again
record_not_in : text_of_script whole (lines record_fails) (after_six (Fails ∷ GoesOut ∷ []))
    ≡ lines (record_fails_text ++ resent (codes "1") (codes "01") ∷ resent (codes "1") (codes "03") ∷ [])
unfolding running
record_not_in = refl
