-- Cutting a stream: by its first packet, and by two parts of it one after the other.
use Rattle.std.proofs.Common.{◌≡◌, ℕ, zero, suc, ◌-◌, ◌≤◌, List, [], ◌∷◌, ◌++◌, length, take, drop, Option, Some, None, refl, sym, ap, subst, ◌∙◌, append_assoc, arith}
use Rattle.std.proofs.lemmas.List.{length-drop, take-append-le, drop-append-le}
use Rattle.mqtt_frame.specs.declared.front.Front.{Front}
use Rattle.mqtt_frame.specs.declared.front.Front.TheVariants.{Whole, Begun, Refused}
use Rattle.mqtt_frame.specs.declared.refused.BadHeader.{BadHeader}
use Rattle.mqtt_frame.specs.Framing.{Framed, and_front, behind, front_of, framed, framed_within}
use Rattle.mqtt_frame.proofs.FrontLemmas.{front_none, front_there, front_whole, front_refused}

-- packets that stand in front of those of a stream
abbrev pub prefixed : List (List ℕ) → Framed → Framed
prefixed packets cut = record { packets = packets ++ cut.packets; rest = cut.rest; bad = cut.bad }

abbrev pub none_whole : List ℕ → Option BadHeader → Framed
none_whole stream bad = record { packets = []; rest = stream; bad = bad }

-- ---- enough steps are enough

agree : (front : Front) (stream : List ℕ) (a b : Framed) → ((size : ℕ) → front ≡ Whole size → a ≡ b) → and_front front stream a ≡ and_front front stream b
agree (Whole size) stream a b h = ap (λ (later : Framed). and_front (Whole size) stream later) (h size refl)
agree Begun stream a b h = refl
agree (Refused header) stream a b h = refl

behind_less : (limit size most : ℕ) (stream : List ℕ) → front_of limit stream ≡ Whole size → length stream ≤ suc most → length (behind (front_of limit stream) stream) ≤ most
behind_less limit size most stream e h =
    let there = front_there limit size stream e in
    let rest : length (behind (front_of limit stream) stream) ≡ length stream - size = ap (λ (f : Front). length (behind f stream)) e ∙ length-drop size stream in
    omega arith

within_none : (limit n : ℕ) → framed_within limit n [] ≡ none_whole [] None
within_none limit zero = refl
within_none limit (suc n) = ap (λ (f : Front). and_front f [] (framed_within limit n (behind f []))) (front_none limit)

enough : (limit m n : ℕ) (stream : List ℕ) → length stream ≤ m → length stream ≤ n → framed_within limit m stream ≡ framed_within limit n stream
enough limit zero n [] h k = sym (within_none limit n)
enough limit zero n (x ∷ stream) h k = absurd (omega arith)
enough limit (suc m) zero [] h k = within_none limit (suc m)
enough limit (suc m) zero (x ∷ stream) h k = absurd (omega arith)
enough limit (suc m) (suc n) stream h k =
    agree (front_of limit stream) stream
    (framed_within limit m (behind (front_of limit stream) stream))
    (framed_within limit n (behind (front_of limit stream) stream))
    (λ size e. enough limit m n (behind (front_of limit stream) stream) (behind_less limit size m stream e h) (behind_less limit size n stream e k))

-- ---- by what stands at the front

framed_front : (limit : ℕ) (stream : List ℕ) → framed limit stream ≡ and_front (front_of limit stream) stream (framed limit (behind (front_of limit stream) stream))
unfolding framed
framed_front limit [] = sym (ap (λ (f : Front). and_front f [] (framed limit (behind f []))) (front_none limit))
framed_front limit (x ∷ stream) =
    agree (front_of limit (x ∷ stream)) (x ∷ stream)
    (framed_within limit (length stream) (behind (front_of limit (x ∷ stream)) (x ∷ stream)))
    (framed limit (behind (front_of limit (x ∷ stream)) (x ∷ stream)))
    (λ size e. let rest = behind (front_of limit (x ∷ stream)) (x ∷ stream) in
    enough limit (length stream) (length rest) rest (behind_less limit size (length stream) (x ∷ stream) e (omega arith)) (omega arith))

by_front : (limit : ℕ) (stream : List ℕ) (front : Front) → front_of limit stream ≡ front → framed limit stream ≡ and_front front stream (framed limit (behind front stream))
by_front limit stream front e = framed_front limit stream ∙ ap (λ (f : Front). and_front f stream (framed limit (behind f stream))) e

pub framed_whole : (limit size : ℕ) (stream : List ℕ) → front_of limit stream ≡ Whole size → framed limit stream ≡ prefixed (take size stream ∷ []) (framed limit (drop size stream))
framed_whole limit size stream e = by_front limit stream (Whole size) e

pub framed_begun : (limit : ℕ) (stream : List ℕ) → front_of limit stream ≡ Begun → framed limit stream ≡ none_whole stream None
framed_begun limit stream e = by_front limit stream Begun e

pub framed_refused : (limit : ℕ) (header : BadHeader) (stream : List ℕ) → front_of limit stream ≡ Refused header → framed limit stream ≡ none_whole stream (Some header)
framed_refused limit header stream e = by_front limit stream (Refused header) e

pub framed_none : (limit : ℕ) → framed limit [] ≡ none_whole [] None
framed_none limit = framed_begun limit [] (front_none limit)

-- ---- two parts

-- what a stream is cut into, of which a part was cut and another follows
abbrev pub more_of : Option BadHeader → ℕ → List (List ℕ) → List ℕ → List ℕ → Framed
more_of None limit packets rest more = prefixed packets (framed limit (rest ++ more))
more_of (Some header) limit packets rest more = record { packets = packets; rest = rest ++ more; bad = Some header }

abbrev pub with_more : ℕ → Framed → List ℕ → Framed
with_more limit cut more = more_of cut.bad limit cut.packets cut.rest more

prefixed_more : (limit : ℕ) (packets given : List (List ℕ)) (rest more : List ℕ) (bad : Option BadHeader) → more_of bad limit (packets ++ given) rest more ≡ prefixed packets (more_of bad limit given rest more)
prefixed_more limit packets given rest more None =
    ap (λ (all : List (List ℕ)). record { packets = all; rest = (framed limit (rest ++ more)).rest; bad = (framed limit (rest ++ more)).bad }) (append_assoc packets given (framed limit (rest ++ more)).packets)
prefixed_more limit packets given rest more (Some header) = refl

abbrev IsJoint : ℕ → List ℕ → List ℕ → Type 0
IsJoint limit stream more = framed limit (stream ++ more) ≡ with_more limit (framed limit stream) more

joint_whole : (limit size : ℕ) (stream more : List ℕ) → front_of limit stream ≡ Whole size → IsJoint limit (drop size stream) more → IsJoint limit stream more
joint_whole limit size stream more e later =
    let there = front_there limit size stream e in
    let within : size ≤ length stream = there.1 in
    let cut : Framed = framed limit (drop size stream) in
    let first : List (List ℕ) = take size stream ∷ [] in
    framed_whole limit size (stream ++ more) (front_whole limit size stream more e)
    ∙ ap (λ (packet : List ℕ). prefixed (packet ∷ []) (framed limit (drop size (stream ++ more)))) (take-append-le size stream more within)
    ∙ ap (λ (rest : List ℕ). prefixed first (framed limit rest)) (drop-append-le size stream more within)
    ∙ ap (λ (f : Framed). prefixed first f) later
    ∙ sym (prefixed_more limit first cut.packets cut.rest more cut.bad)
    ∙ ap (λ (f : Framed). with_more limit f more) (sym (framed_whole limit size stream e))

joint_by : (limit : ℕ) (stream more : List ℕ) (front : Front) → front_of limit stream ≡ front → ((size : ℕ) → front ≡ Whole size → IsJoint limit (drop size stream) more) → IsJoint limit stream more
joint_by limit stream more (Whole size) e later = joint_whole limit size stream more e (later size refl)
joint_by limit stream more Begun e later = ap (λ (f : Framed). with_more limit f more) (sym (framed_begun limit stream e))
joint_by limit stream more (Refused header) e later =
    framed_refused limit header (stream ++ more) (front_refused limit header stream more e)
    ∙ ap (λ (f : Framed). with_more limit f more) (sym (framed_refused limit header stream e))

joint_within : (n limit : ℕ) (stream more : List ℕ) → length stream ≤ n → IsJoint limit stream more
joint_within zero limit [] more h = joint_by limit [] more Begun (front_none limit) (λ size e. absurd cc)
joint_within zero limit (x ∷ stream) more h = absurd (omega arith)
joint_within (suc n) limit stream more h =
    joint_by limit stream more (front_of limit stream) refl
    (λ size e. let there = front_there limit size stream e in joint_within n limit (drop size stream) more (omega (arith, length-drop size stream)))

-- a stream and what follows it
pub framed_joint : (limit : ℕ) (stream more : List ℕ) → framed limit (stream ++ more) ≡ with_more limit (framed limit stream) more
framed_joint limit stream more = joint_within (length stream) limit stream more (omega arith)

-- ---- the rest has no whole packet

abbrev pub Rests : ℕ → Framed → Type 0
Rests limit cut = cut.bad ≡ None → framed limit cut.rest ≡ none_whole cut.rest None

rests_by : (limit : ℕ) (stream : List ℕ) (front : Front) → front_of limit stream ≡ front → ((size : ℕ) → front ≡ Whole size → Rests limit (framed limit (drop size stream))) → Rests limit (framed limit stream)
rests_by limit stream (Whole size) e later = subst (Rests limit) (sym (framed_whole limit size stream e)) (later size refl)
rests_by limit stream Begun e later = subst (Rests limit) (sym (framed_begun limit stream e)) (λ _. framed_begun limit stream e)
rests_by limit stream (Refused header) e later = subst (Rests limit) (sym (framed_refused limit header stream e)) (λ none. absurd cc)

rests_within : (n limit : ℕ) (stream : List ℕ) → length stream ≤ n → Rests limit (framed limit stream)
rests_within zero limit [] h = rests_by limit [] Begun (front_none limit) (λ size e. absurd cc)
rests_within zero limit (x ∷ stream) h = absurd (omega arith)
rests_within (suc n) limit stream h =
    rests_by limit stream (front_of limit stream) refl
    (λ size e. let there = front_there limit size stream e in rests_within n limit (drop size stream) (omega (arith, length-drop size stream)))

pub framed_rests : (limit : ℕ) (stream : List ℕ) → Rests limit (framed limit stream)
framed_rests limit stream = rests_within (length stream) limit stream (omega arith)
