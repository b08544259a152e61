-- What pending writes wrote over puts back what was there.
use Rattle.std.proofs.Common.{◌≡◌, ℕ, zero, suc, ◌+◌, ◌-◌, ◌<◌, ◌≤◌, List, [], ◌∷◌, ◌++◌, map, length, take, drop, get_or, refl, sym, ap, ◌∙◌, subst, arith, append_assoc, length-take, length-drop}
use Rattle.std.proofs.lemmas.List.{take-append-drop, drop-drop, length-take-le, map-append, take_more}
use Rattle.outside.specs.DiskModel.{Torn, written_at}
use Rattle.outside.specs.Torn.{length_written, torn_written}
use Rattle.disk_memory.specs.PlainDisk.{seen_after, seen_of}
use Rattle.disk_memory.specs.Kept.{KeptWrite, Keeps, AllKeep, IsLaid, plain, undone, unwound}
use Rattle.disk_memory.proofs.Moments.{laid_is, seen_of_push}

-- what a write that kept what it wrote over makes of the bytes
module _ (w : KeptWrite) (old : List ℕ) (keeps : Keeps w old) where
  pub laid_whole : seen_after old (plain w) ≡ written_at w.at (take w.taken w.bytes) old
  laid_whole = laid_is w.at (take w.taken w.bytes) old keeps.place

  length_piece : length (take w.taken w.bytes) ≡ w.taken
  length_piece = length-take-le w.taken w.bytes keeps.taken

  torn : Torn w.at w.taken old (seen_after old (plain w))
  torn = rw laid_whole (torn_written w.at w.taken (take w.taken w.bytes) old (omega (arith, length_piece)) keeps.place)

  pub length_after : length (seen_after old (plain w)) ≡ w.at + w.taken + (length old - (w.at + w.taken))
  length_after = ap length laid_whole ∙ omega (arith, keeps.place, length_written w.at (take w.taken w.bytes) old keeps.place, length_piece)

  pub length_over : length w.over ≡ length (take w.taken (drop w.at old))
  length_over = ap length keeps.over

  pub undone_is : undone w (seen_after old (plain w)) ≡ old
  undone_is =
      let after = seen_after old (plain w) in
      ap (λ (l : List ℕ). l ++ w.over ++ drop (w.at + w.taken) after) torn.before
      ∙ ap (λ (l : List ℕ). take w.at old ++ l ++ drop (w.at + w.taken) after) keeps.over
      ∙ ap (λ (l : List ℕ). take w.at old ++ take w.taken (drop w.at old) ++ l) torn.after
      ∙ append_assoc (take w.at old) (take w.taken (drop w.at old)) (drop (w.at + w.taken) old)
      ∙ ap (λ (l : List ℕ). take w.at old ++ (take w.taken (drop w.at old) ++ l)) (sym (drop-drop w.taken w.at old))
      ∙ ap (λ (l : List ℕ). take w.at old ++ l) (take-append-drop w.taken (drop w.at old))
      ∙ take-append-drop w.at old

-- undoing them all leads back to the base
pub unwound_is : (base bytes : List ℕ) (ws : List KeptWrite) → IsLaid base ws bytes → unwound ws bytes ≡ base
unwound_is base bytes [] laid = laid.seen
unwound_is base bytes (w ∷ ws) laid =
    ap (undone w) (unwound_is (seen_after base (plain w)) bytes ws (record { seen = laid.seen; kept = laid.kept.1 })) ∙ undone_is w base laid.kept.0

-- one more write
pub all_keep_push : (base : List ℕ) (ws : List KeptWrite) (w : KeptWrite) → AllKeep base ws → Keeps w (seen_of base (map plain ws)) → AllKeep base (ws ++ w ∷ [])
all_keep_push base [] w all keeps = (keeps, tt)
all_keep_push base (v ∷ ws) w all keeps = (all.0, all_keep_push (seen_after base (plain v)) ws w all.1 keeps)

pub plain_push : (ws : List KeptWrite) (w : KeptWrite) → map plain (ws ++ w ∷ []) ≡ map plain ws ++ plain w ∷ []
plain_push ws w = map-append plain ws (w ∷ [])

pub is_laid_push : (base bytes new : List ℕ) (ws all : List KeptWrite) (w : KeptWrite) → IsLaid base ws bytes → Keeps w bytes → all ≡ ws ++ w ∷ []
    → new ≡ written_at w.at (take w.taken w.bytes) bytes → IsLaid base all new
is_laid_push base bytes new ws all w laid keeps is wrote =
    let at_seen : Keeps w (seen_of base (map plain ws)) = subst (Keeps w) laid.seen keeps in
    let e : new ≡ seen_of base (map plain (ws ++ w ∷ [])) =
    wrote
    ∙ sym (laid_whole w bytes keeps)
    ∙ ap (λ (l : List ℕ). seen_after l (plain w)) laid.seen
    ∙ sym (seen_of_push base (map plain ws) (plain w))
    ∙ ap (seen_of base) (sym (plain_push ws w))
    in
    subst (λ (l : List KeptWrite). IsLaid base l new) (sym is) (record { seen = e; kept = all_keep_push base ws w laid.kept at_seen })

-- the writes before a place
pub kept_at : (base : List ℕ) (ws : List KeptWrite) (i : ℕ) (w : KeptWrite) → AllKeep base ws → i < length ws → w ≡ get_or ws i w → Keeps w (seen_of base (map plain (take i ws)))
kept_at base [] i w all h is = absurd (omega arith)
kept_at base (v ∷ ws) zero w all h is = subst (λ (u : KeptWrite). Keeps u base) (sym is) all.0
kept_at base (v ∷ ws) (suc i) w all h is = kept_at (seen_after base (plain v)) ws i w all.1 (omega arith) is

pub seen_more : (base : List ℕ) (ws : List KeptWrite) (i : ℕ) (w : KeptWrite) → i < length ws → w ≡ get_or ws i w
    → seen_of base (map plain (take (i + 1) ws)) ≡ seen_after (seen_of base (map plain (take i ws))) (plain w)
seen_more base ws i w h is =
    ap (λ (l : List KeptWrite). seen_of base (map plain l)) (take_more ws i w h ∙ ap (λ (u : KeptWrite). take i ws ++ u ∷ []) (sym is))
    ∙ ap (seen_of base) (plain_push (take i ws) w)
    ∙ seen_of_push base (map plain (take i ws)) (plain w)

-- what the last of the writes that are left was, where these bytes are what they make of the base
pub record IsLast (base : List ℕ) (ws : List KeptWrite) (i : ℕ) (w : KeptWrite) (bytes : List ℕ) : Type 0 where
  pub place : w.at + w.taken ≤ length bytes
  pub short : length w.over ≤ w.taken
  pub end : length w.over < w.taken → length bytes ≡ w.at + w.taken
  pub undone_is : undone w bytes ≡ seen_of base (map plain (take i ws))

last_is : (w : KeptWrite) (base before bytes : List ℕ) (ws : List KeptWrite) (i : ℕ) → before ≡ seen_of base (map plain (take i ws)) → Keeps w before → bytes ≡ seen_after before (plain w)
    → IsLast base ws i w bytes
last_is w base before bytes ws i is keeps after =
    let long : length bytes ≡ w.at + w.taken + (length before - (w.at + w.taken)) = ap length after ∙ length_after w before keeps in
    let over : length w.over ≡ length (take w.taken (drop w.at before)) = length_over w before keeps in
    let place : w.at ≤ length before = keeps.place in
    record {
      place = omega (arith, long);
      short = omega (arith, over, length-take w.taken (drop w.at before));
      end = λ h. omega (arith, long, over, place, length-take w.taken (drop w.at before), length-drop w.at before);
      undone_is = ap (undone w) after ∙ undone_is w before keeps ∙ is;
    }

pub last_of : (base bytes : List ℕ) (ws : List KeptWrite) (left i : ℕ) (w : KeptWrite) → AllKeep base ws → left ≡ i + 1 → i < length ws → w ≡ get_or ws i w
    → bytes ≡ seen_of base (map plain (take left ws)) → IsLast base ws i w bytes
last_of base bytes ws left i w all more h at is =
    last_is w base (seen_of base (map plain (take i ws))) bytes ws i refl (kept_at base ws i w all h at)
    (is ∙ ap (λ (n : ℕ). seen_of base (map plain (take n ws))) more ∙ seen_more base ws i w h at)
