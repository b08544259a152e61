-- Pieces: where they are cut makes no difference.
use Rattle.std.proofs.Common.{◌≡◌, ℕ, List, [], ◌∷◌, ◌++◌, Option, Some, None, refl, sym, ap, ◌∙◌, append_assoc}
use Rattle.std.proofs.lemmas.List.{append-nil}
use Rattle.mqtt_frame.specs.declared.refused.BadHeader.{BadHeader}
use Rattle.mqtt_frame.specs.Framing.{Framed, framed}
use Rattle.mqtt_frame.specs.PlainFramer.{PlainFramer, Fed, opening, fed, fed_all, fed_by, given_first, joined}
use Rattle.mqtt_frame.proofs.FramedLemmas.{more_of, Rests, framed_joint, framed_none, framed_rests}

abbrev made : ℕ → List (List ℕ) → List ℕ → Option BadHeader → Fed
made limit packets rest bad = fed_by limit (record { packets = packets; rest = rest; bad = bad })

cut_twice : (limit : ℕ) (packets : List (List ℕ)) (rest more : List ℕ) (bad : Option BadHeader) → fed_by limit (more_of bad limit packets rest more) ≡ given_first packets (fed (made limit packets rest bad).framer more)
cut_twice limit packets rest more None = refl
cut_twice limit packets rest more (Some header) = ap (λ (all : List (List ℕ)). made limit all [] (Some header)) (sym (append-nil packets))

twice_by : (limit : ℕ) (kept a b : List ℕ) (bad : Option BadHeader) →
    let framer : PlainFramer = record { limit = limit; kept = kept; bad = bad } in
    fed framer (a ++ b) ≡ given_first (fed framer a).packets (fed (fed framer a).framer b)
twice_by limit kept a b None =
    let cut : Framed = framed limit (kept ++ a) in
    ap (λ (stream : List ℕ). fed_by limit (framed limit stream)) (sym (append_assoc kept a b))
    ∙ ap (fed_by limit) (framed_joint limit (kept ++ a) b)
    ∙ cut_twice limit cut.packets cut.rest b cut.bad
twice_by limit kept a b (Some header) = refl

-- two pieces are fed as one
pub fed_twice : (framer : PlainFramer) (a b : List ℕ) → fed framer (a ++ b) ≡ given_first (fed framer a).packets (fed (fed framer a).framer b)
fed_twice framer a b = twice_by framer.limit framer.kept a b framer.bad

-- no packet is left whole in what a framer keeps
abbrev pub IsIdle : PlainFramer → Type 0
IsIdle framer = fed framer [] ≡ record { packets = []; framer = framer }

cut_idle : (limit : ℕ) (packets : List (List ℕ)) (rest : List ℕ) (bad : Option BadHeader) → Rests limit (record { packets = packets; rest = rest; bad = bad }) → IsIdle (made limit packets rest bad).framer
cut_idle limit packets rest None h = ap (λ (stream : List ℕ). fed_by limit (framed limit stream)) (append-nil rest) ∙ ap (fed_by limit) (h refl)
cut_idle limit packets rest (Some header) h = refl

idle_by : (limit : ℕ) (kept piece : List ℕ) (bad : Option BadHeader) → IsIdle (fed (record { limit = limit; kept = kept; bad = bad }) piece).framer
idle_by limit kept piece None =
    let cut : Framed = framed limit (kept ++ piece) in
    cut_idle limit cut.packets cut.rest cut.bad (framed_rests limit (kept ++ piece))
idle_by limit kept piece (Some header) = refl

pub fed_idle : (framer : PlainFramer) (piece : List ℕ) → IsIdle (fed framer piece).framer
fed_idle framer piece = idle_by framer.limit framer.kept piece framer.bad

pub all_as_one : (framer : PlainFramer) (pieces : List (List ℕ)) → IsIdle framer → fed_all framer pieces ≡ fed framer (joined pieces)
all_as_one framer [] idle = sym idle
all_as_one framer (piece ∷ pieces) idle =
    let later : fed_all (fed framer piece).framer pieces ≡ fed (fed framer piece).framer (joined pieces) = all_as_one (fed framer piece).framer pieces (fed_idle framer piece) in
    ap (given_first (fed framer piece).packets) later ∙ sym (fed_twice framer piece (joined pieces))

pub all_from_nothing : (limit : ℕ) (pieces : List (List ℕ)) → fed_all (opening limit) pieces ≡ fed_by limit (framed limit (joined pieces))
all_from_nothing limit pieces = all_as_one (opening limit) pieces (ap (fed_by limit) (framed_none limit))
