-- Messages that expire: what is left of their interval when they are delivered, and that none is given once it is over.
use Rattle.std.specs.Prelude.{ℕ, ◌≡◌, refl, List, [], ◌∷◌, ◌++◌, codes}
use Rattle.topic_model.specs.Profile.{whole}
use Rattle.world_model.specs.Computing.{running}
use Rattle.world_model.specs.Running.{text_of_script}
use Rattle.world_examples.specs.RowWords.{lines, send_m, says, k1, acknowledged, delivered, both_there, both_there_text}
use Rattle.world_examples.specs.RowWords.{comes_back}

-- `p` publishes `hi` to `a/b`, which expires after ten seconds
abbrev expiring : List (List ℕ)
expiring = both_there ++ codes "send 2 320F0003612F62000705020000000A6869" ∷ []

abbrev expiring_text : List (List ℕ)
expiring_text = both_there_text ++ acknowledged (codes "2") (codes "07") ∷ []

-- a delivery of it, with its first byte, its identifier and the seconds that are left
abbrev given : List ℕ → List ℕ → List ℕ → List ℕ
given first identifier left = says (codes "1")
    (first ++ codes "0F0003612F6200" ++ identifier ++ codes "0502000000" ++ left ++ codes "6869")

-- whole seconds that it has waited are taken off; sent again, more are
counts_down : text_of_script whole
    (lines (expiring ++ codes "tick 3999" ∷ codes "pump 1" ∷ codes "tick 2000" ∷ codes "crash 1" ∷ comes_back)) []
    ≡ lines (expiring_text ++ given (codes "32") (codes "01") (codes "07") ∷ codes "crashed" ∷ k1 (codes "1")
    ∷ given (codes "3A") (codes "01") (codes "05") ∷ [])
unfolding running
counts_down = refl

-- one that has expired isn't given, and takes no identifier; the next message is the first to be given
expires_unsent : text_of_script whole
    (lines (expiring ++ codes "tick 10000" ∷ codes "pump 1" ∷ send_m (codes "2") ∷ codes "pump 1" ∷ [])) []
    ≡ lines (expiring_text ++ acknowledged (codes "2") (codes "07") ∷ delivered (codes "1") (codes "01") ∷ [])
unfolding running
expires_unsent = refl

-- a millisecond before it is given with a second left
not_expired_yet : text_of_script whole (lines (expiring ++ codes "tick 9999" ∷ codes "pump 1" ∷ [])) []
    ≡ lines (expiring_text ++ given (codes "32") (codes "01") (codes "01") ∷ [])
unfolding running
not_expired_yet = refl

-- one that was given in time is sent again when its interval is over, with nothing left
resent_with_nothing_left : text_of_script whole
    (lines (expiring ++ codes "pump 1" ∷ codes "tick 20000" ∷ codes "crash 1" ∷ comes_back)) []
    ≡ lines (expiring_text ++ given (codes "32") (codes "01") (codes "0A") ∷ codes "crashed" ∷ k1 (codes "1")
    ∷ given (codes "3A") (codes "01") (codes "00") ∷ [])
unfolding running
resent_with_nothing_left = refl

-- A batch is cut where expired and unexpired messages meet: the first pump passes over the expired one, the second
-- gives the other.
cut_at_the_expired : text_of_script whole
    (lines
    (expiring ++ send_m (codes "2") ∷ codes "tick 10000" ∷ codes "pump 1" ∷ codes "send 1 C000" ∷ codes "pump 1"
    ∷ [])) []
    ≡ lines
    (expiring_text ++ acknowledged (codes "2") (codes "07") ∷ codes "1< D000" ∷ delivered (codes "1") (codes "01")
    ∷ [])
unfolding running
cut_at_the_expired = refl
