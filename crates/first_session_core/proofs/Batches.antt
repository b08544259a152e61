-- A batch that is made message by message.
use Rattle.std.proofs.Common.{◌≡◌, ℕ, suc, ◌+◌, ◌-◌, ◌<◌, ◌≤◌, true, false, cond, List, [], ◌∷◌, ◌++◌, length, take, drop, map, get_or, Some, None, refl, sym, ap, ◌∙◌, append_assoc, leb}
use Rattle.std.specs.List.{filter_map}
use Rattle.std.specs.Option.{option_to_list}
use Rattle.std.specs.Borrow.{Bor}
use Rattle.std.proofs.lemmas.List.{append-nil, drop-map, drop_more}
use Rattle.std.proofs.lemmas.Bool.{le-leb, lt-leb}
use Rattle.first_topic_name.specs.StoredMessage.{StoredMessage}
use Rattle.first_shard_terms.specs.declared.sweep.Sweep.{Sweep}
use Rattle.first_shard_terms.specs.SweepOrder.{sweep_after}
use Rattle.first_session_terms.specs.declared.entry.Entry.{Entry}
use Rattle.first_session_terms.specs.Entry.{count1, count2}
use Rattle.first_mqtt_packet.specs.declared.packet.Packet.{Packet}
use Rattle.first_session_core.specs.SessionView.{sweep_of}
use Rattle.first_session_core.specs.Pump.{Issue, Due, Reader, due_of, size_of, batch_within, batch_of}

-- the batch whose first message is issued so
within_with : Due → Reader → ℕ → ℕ → ℕ → List StoredMessage → List Due
within_with d r next1 next2 room ws =
    cond (leb (size_of d.packet) room) (d ∷ batch_within r (next1 + count1 d.entry.kind) (next2 + count2 d.entry.kind) (room - size_of d.packet) ws) []

within_is : (d : Due) (r : Reader) (next1 next2 room : ℕ) (w : StoredMessage) (ws : List StoredMessage) → d ≡ due_of r next1 next2 w → batch_within r next1 next2 room (w ∷ ws) ≡ within_with d r next1 next2 room ws
unfolding within_with
within_is d r next1 next2 room w ws e = ap (λ (x : Due). within_with x r next1 next2 room ws) (sym e)

-- a packet that doesn't fit ends the batch
pub stops : (d : Due) (r : Reader) (next1 next2 room size : ℕ) (w : StoredMessage) (ws : List StoredMessage) → d ≡ due_of r next1 next2 w → size ≡ size_of d.packet → room < size → batch_within r next1 next2 room (w ∷ ws) ≡ []
unfolding within_with
stops d r next1 next2 room size w ws e s lt =
    let test : leb (size_of d.packet) room ≡ false = lt-leb (size_of d.packet) room (rw (← s) lt) in
    within_is d r next1 next2 room w ws e ∙ ap (λ b. cond b (d ∷ batch_within r (next1 + count1 d.entry.kind) (next2 + count2 d.entry.kind) (room - size_of d.packet) ws) []) test

-- one that fits goes on
pub goes : (d : Due) (r : Reader) (next1 next2 room size : ℕ) (w : StoredMessage) (ws : List StoredMessage) → d ≡ due_of r next1 next2 w → size ≡ size_of d.packet → size ≤ room
    → batch_within r next1 next2 room (w ∷ ws) ≡ d ∷ batch_within r (next1 + count1 d.entry.kind) (next2 + count2 d.entry.kind) (room - size) ws
unfolding within_with
goes d r next1 next2 room size w ws e s le =
    let test : leb (size_of d.packet) room ≡ true = le-leb (size_of d.packet) room (rw (← s) le) in
    within_is d r next1 next2 room w ws e
    ∙ ap (λ b. cond b (d ∷ batch_within r (next1 + count1 d.entry.kind) (next2 + count2 d.entry.kind) (room - size_of d.packet) ws) []) test
    ∙ ap (λ n. d ∷ batch_within r (next1 + count1 d.entry.kind) (next2 + count2 d.entry.kind) (room - n) ws) (sym s)

-- what is issued so far with the next entry
pub more_entries : (old front : List Entry) (d : Due) (batch rest : List Due) → batch ≡ d ∷ rest → old ++ map (λ (x : Due). x.entry) batch ≡ front → (old ++ d.entry ∷ []) ++ map (λ (x : Due). x.entry) rest ≡ front
more_entries old front d batch rest e h = append_assoc old (d.entry ∷ []) (map (λ (x : Due). x.entry) rest) ∙ sym (ap (λ (b : List Due). old ++ map (λ (x : Due). x.entry) b) e) ∙ h

-- the packets of a batch, one after the other
packets-cons : (d : Due) (rest : List Due) → filter_map (λ (x : Due). x.packet) (d ∷ rest) ≡ option_to_list d.packet ++ filter_map (λ (x : Due). x.packet) rest
packets-cons d rest = elim d.packet as (λ p. filter_map (λ (x : Due). x.packet) (record { entry = d.entry; packet = p } ∷ rest) ≡ option_to_list p ++ filter_map (λ (x : Due). x.packet) rest) [ None ↦ refl | Some p ↦ refl ]

pub more_packets : (old front : List Packet) (d : Due) (batch rest : List Due) → batch ≡ d ∷ rest → old ++ filter_map (λ (x : Due). x.packet) batch ≡ front → (old ++ option_to_list d.packet) ++ filter_map (λ (x : Due). x.packet) rest ≡ front
more_packets old front d batch rest e h = append_assoc old (option_to_list d.packet) (filter_map (λ (x : Due). x.packet) rest) ∙ ap (λ (l : List Packet). old ++ l) (sym (packets-cons d rest)) ∙ sym (ap (λ (b : List Due). old ++ filter_map (λ (x : Due). x.packet) b) e) ∙ h

-- the position before the last message doesn't matter
after_same : (s t : Sweep) (w : StoredMessage) (ws : List StoredMessage) → s.generation ≡ t.generation → s.base ≡ t.base → s.target ≡ t.target → s.stream ≡ t.stream → sweep_after s (w ∷ ws) ≡ sweep_after t (w ∷ ws)
after_same s t w [] g b ta st = cc
after_same s t w (n ∷ ws) g b ta st = after_same s t n ws g b ta st

-- the sweep behind a message and then behind others is the sweep behind all
pub sweep_step : (s : Sweep) (w : StoredMessage) (ws : List StoredMessage) → sweep_after s (w ∷ ws) ≡ sweep_after (record s { position = w.offset + 1 }) ws
sweep_step s w [] = refl
sweep_step s w (n ∷ ws) = after_same s (record s { position = w.offset + 1 }) n ws refl refl refl refl

-- what a reference points to
abbrev pub now_of : Bor StoredMessage → StoredMessage
now_of x = x.now

-- the message at a place of a list of references, with those behind it
pub drop_run : (run : List (Bor StoredMessage)) (i : ℕ) (m : Bor StoredMessage) → i < length run → m ≡ get_or run i m → drop i (map (λ (x : Bor StoredMessage). x.now) run) ≡ m.now ∷ drop (i + 1) (map (λ (x : Bor StoredMessage). x.now) run)
drop_run run i m lt e =
    drop-map now_of i run ∙ ap (map now_of) (drop_more run i m lt ∙ ap (λ (x : Bor StoredMessage). x ∷ drop (i + 1) run) (sym e)) ∙ ap (λ (l : List StoredMessage). m.now ∷ l) (sym (drop-map now_of (i + 1) run))

-- the sweep behind what is issued so far and what is left
pub more_sweep : (s t whole : Sweep) (d : Due) (batch rest : List Due) (w : StoredMessage) (messages left : List StoredMessage)
    → batch ≡ d ∷ rest → messages ≡ w ∷ left → t ≡ record s { position = w.offset + 1 } → sweep_after s (take (length batch) messages) ≡ whole → sweep_after t (take (length rest) left) ≡ whole
more_sweep s t whole d batch rest w messages left b m e h =
    ap (λ (x : Sweep). sweep_after x (take (length rest) left)) e
    ∙ sym (sweep_step s w (take (length rest) left))
    ∙ ap (λ (l : List StoredMessage). sweep_after s (take (suc (length rest)) l)) (sym m)
    ∙ ap (λ (l : List Due). sweep_after s (take (length l) messages)) (sym b)
    ∙ h

-- a sweep of the one generation and stream, by its places
pub sweep_at : (base target position base' target' position' : ℕ) → base ≡ base' → target ≡ target' → position ≡ position' → sweep_of base target position ≡ sweep_of base' target' position'
sweep_at base target position base' target' position' b t p = cc

-- nothing more is issued
pub no_more_entries : (old front : List Entry) (batch : List Due) → batch ≡ [] → old ++ map (λ (x : Due). x.entry) batch ≡ front → old ≡ front
no_more_entries old front batch e h = sym (append-nil old) ∙ sym (ap (λ (b : List Due). old ++ map (λ (x : Due). x.entry) b) e) ∙ h

pub no_more_packets : (old front : List Packet) (batch : List Due) → batch ≡ [] → old ++ filter_map (λ (x : Due). x.packet) batch ≡ front → old ≡ front
no_more_packets old front batch e h = sym (append-nil old) ∙ sym (ap (λ (b : List Due). old ++ filter_map (λ (x : Due). x.packet) b) e) ∙ h

pub no_more_sweep : (s whole : Sweep) (batch : List Due) (left : List StoredMessage) → batch ≡ [] → sweep_after s (take (length batch) left) ≡ whole → s ≡ whole
no_more_sweep s whole batch left e h = sym (ap (λ (b : List Due). sweep_after s (take (length b) left)) e) ∙ h

batch_with : Due → Reader → ℕ → ℕ → List StoredMessage → List Due
batch_with d r next1 next2 ws = d ∷ batch_within r (next1 + count1 d.entry.kind) (next2 + count2 d.entry.kind) (2097152 - size_of d.packet) ws

-- the first message of a batch is always issued
pub first_of_batch : (d : Due) (r : Reader) (next1 next2 size : ℕ) (w : StoredMessage) (ws : List StoredMessage) → d ≡ due_of r next1 next2 w → size ≡ size_of d.packet
    → batch_of r next1 next2 (w ∷ ws) ≡ d ∷ batch_within r (next1 + count1 d.entry.kind) (next2 + count2 d.entry.kind) (2097152 - size) ws
unfolding batch_with
first_of_batch d r next1 next2 size w ws e s =
    ap (λ (x : Due). batch_with x r next1 next2 ws) (sym e)
    ∙ ap (λ n. d ∷ batch_within r (next1 + count1 d.entry.kind) (next2 + count2 d.entry.kind) (2097152 - n) ws) (sym s)

-- the entries of a first message and of those behind it
pub all_entries : (none one all : List Entry) (d : Due) (batch rest : List Due) → batch ≡ d ∷ rest → none ≡ [] → one ≡ none ++ d.entry ∷ [] → all ≡ one ++ map (λ (x : Due). x.entry) rest → all ≡ map (λ (x : Due). x.entry) batch
all_entries none one all d batch rest b n o a =
    a ∙ ap (λ (l : List Entry). l ++ map (λ (x : Due). x.entry) rest) (o ∙ ap (λ (l : List Entry). l ++ d.entry ∷ []) n) ∙ sym (ap (map (λ (x : Due). x.entry)) b)

pub all_packets : (none one all : List Packet) (d : Due) (batch rest : List Due) → batch ≡ d ∷ rest → none ≡ [] → one ≡ none ++ option_to_list d.packet → all ≡ one ++ filter_map (λ (x : Due). x.packet) rest → all ≡ filter_map (λ (x : Due). x.packet) batch
all_packets none one all d batch rest b n o a =
    a ∙ ap (λ (l : List Packet). l ++ filter_map (λ (x : Due). x.packet) rest) (o ∙ ap (λ (l : List Packet). l ++ option_to_list d.packet) n) ∙ sym (packets-cons d rest) ∙ sym (ap (filter_map (λ (x : Due). x.packet)) b)

pub all_sweep : (s t whole : Sweep) (d : Due) (batch rest : List Due) (w : StoredMessage) (messages left : List StoredMessage)
    → batch ≡ d ∷ rest → messages ≡ w ∷ left → t ≡ record s { position = w.offset + 1 } → whole ≡ sweep_after t (take (length rest) left) → whole ≡ sweep_after s (take (length batch) messages)
all_sweep s t whole d batch rest w messages left b m e h =
    h
    ∙ ap (λ (x : Sweep). sweep_after x (take (length rest) left)) e
    ∙ sym (sweep_step s w (take (length rest) left))
    ∙ ap (λ (l : List StoredMessage). sweep_after s (take (suc (length rest)) l)) (sym m)
    ∙ ap (λ (l : List Due). sweep_after s (take (length l) messages)) (sym b)

-- an issue by its parts
pub same_issue : (entries entries' : List Entry) (sweep sweep' : Sweep) (packets packets' : List Packet) → entries ≡ entries' → sweep ≡ sweep' → packets ≡ packets'
    → ◌≡◌ {A = Issue} (record { subscription = 1; shard = 0; entries = entries; sweep = sweep; packets = packets }) (record { subscription = 1; shard = 0; entries = entries'; sweep = sweep'; packets = packets' })
same_issue entries entries' sweep sweep' packets packets' e s p = cc
