-- Laws of writing part by part.
use Rattle.std.proofs.Common.{◌≡◌, ℕ, List, [], ◌++◌, length, take, refl, sym, ap, ◌∙◌, append_assoc}
use Rattle.std.proofs.lemmas.List.{append-nil, take_at}
use Rattle.mqtt_packet.specs.Putting.{Begins}

-- nothing was put
pub begins_itself : (old new : List ℕ) → new ≡ old → Begins old new
unfolding Begins
begins_itself old new is = ([], is ∙ sym (append-nil old))

-- a part was put, and no more
pub begins_behind_part : (old part between new : List ℕ) → between ≡ old ++ part → new ≡ between → Begins old new
unfolding Begins
begins_behind_part old part between new is same = (part, same ∙ is)

-- a part was put, and a part of the next
pub begins_further : (old part between new : List ℕ) → between ≡ old ++ part → Begins between new → Begins old new
unfolding Begins
begins_further old part between new is further =
    (part ++ further.0, further.1 ∙ ap (λ (l : List ℕ). l ++ further.0) is ∙ append_assoc old part further.0)

-- two parts were put, and no more
pub begins_behind_two : (old one two first second new : List ℕ) → first ≡ old ++ one → second ≡ first ++ two → new ≡ second → Begins old new
begins_behind_two old one two first second new is more same = begins_further old one first new is (begins_behind_part first two second new more same)

-- what was put is taken back
pub taken_back : (old new : List ℕ) → Begins old new → take (length old) new ≡ old
unfolding Begins
taken_back old new b = ap (take (length old)) b.1 ∙ take_at old b.0 (length old) refl

-- what a call that writes several parts may cite
pub ruleset parts_begin = (begins_itself, begins_behind_part, begins_behind_two, begins_further)
