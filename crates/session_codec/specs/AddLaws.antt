-- Reading sessions and adding each as soon as it is read.
use Rattle.std.proofs.Common.{◌≡◌, ℕ, Bool, true, false, ◌&&◌, List, [], ◌∷◌, ◌++◌, Option, Some, None, refl, sym, ap, ◌∙◌, append_assoc, append-nil}
use Rattle.std.specs.Prelude.{if◌then◌else◌}
use Rattle.std.proofs.lemmas.Bool.{and_from}
use Rattle.session_state.specs.KeptSession.{KeptSession, KeptSessions}
use Rattle.session_state.specs.SoundTest.{may_add}
use Rattle.session_codec.specs.Soundness.{may_add_all, sessions_with, are_sound}
use Rattle.session_codec.specs.Reading.{◌>>=◌, eight_at, four_at, so_many, session_at, sessions_at, sessions_of}
use Rattle.session_codec.specs.Parts.{sessions_from}
use Rattle.session_codec.specs.PartLaws.{behind, IsSoFar}

more_added : (s : KeptSessions) (xs : List KeptSession) (m : KeptSession) (ys : List KeptSession) → may_add_all s xs ≡ true →
    may_add_all s (xs ++ m ∷ ys) ≡ may_add_all (record s { list = s.list ++ xs }) (m ∷ ys)
more_added s [] m ys h = ap (λ l. may_add_all (record s { list = l }) (m ∷ ys)) (sym (append-nil s.list))
more_added s (x ∷ xs) m ys h = by (may_add x s) h (more_added (record s { list = s.list ++ x ∷ [] }) xs m ys)
  where
    by : (b : Bool) → (b && may_add_all (record s { list = s.list ++ x ∷ [] }) xs) ≡ true →
        (may_add_all (record s { list = s.list ++ x ∷ [] }) xs ≡ true →
        may_add_all (record s { list = s.list ++ x ∷ [] }) (xs ++ m ∷ ys)
        ≡ may_add_all (record s { list = (s.list ++ x ∷ []) ++ xs }) (m ∷ ys)) →
        (b && may_add_all (record s { list = s.list ++ x ∷ [] }) (xs ++ m ∷ ys)) ≡ may_add_all (record s { list = s.list ++ x ∷ xs }) (m ∷ ys)
    by true h rest = rest h ∙ ap (λ l. may_add_all (record s { list = l }) (m ∷ ys)) (append_assoc s.list (x ∷ []) xs)
    by false h rest = absurd cc

-- one that may be added
pub sound_more : (next : ℕ) (xs : List KeptSession) (m : KeptSession) → are_sound (sessions_with next xs) ≡ true →
    may_add m (sessions_with next xs) ≡ true → are_sound (sessions_with next (xs ++ m ∷ [])) ≡ true
sound_more next xs m sound may =
    more_added (sessions_with next []) xs m [] sound ∙ and_from (may_add m (sessions_with next xs)) true may refl

-- and one that may not
never_sound : (next : ℕ) (xs : List KeptSession) (m : KeptSession) (ys : List KeptSession) → are_sound (sessions_with next xs) ≡ true →
    may_add m (sessions_with next xs) ≡ false → are_sound (sessions_with next (xs ++ m ∷ ys)) ≡ false
never_sound next xs m ys sound not =
    more_added (sessions_with next []) xs m ys sound
    ∙ ap (λ b. b && may_add_all (sessions_with next (xs ++ m ∷ [])) ys) not

-- so what is read with it is none that may be held
pub refused_with : (next : ℕ) (xs : List KeptSession) (m : KeptSession) (format shards count left : ℕ) (all rest : List ℕ) →
    are_sound (sessions_with next xs) ≡ true → may_add m (sessions_with next xs) ≡ false →
    IsSoFar (session_at format shards) count all (xs ++ m ∷ []) left rest → sessions_from next (so_many (session_at format shards) count all) ≡ None
refused_with next xs m format shards count left all rest sound not far =
    ap (sessions_from next) (sym far.whole) ∙ by (so_many (session_at format shards) left rest)
  where
    by : (r : Option (List KeptSession × List ℕ)) → sessions_from next (behind (xs ++ m ∷ []) r) ≡ None
    by None = refl
    by (Some ys) =
        ap (λ (l : List KeptSession). if are_sound (sessions_with next l) then Some (sessions_with next l, ys.1) else None) (append_assoc xs (m ∷ []) ys.0)
        ∙ ap (λ b. if b then Some (sessions_with next (xs ++ m ∷ ys.0), ys.1) else None) (never_sound next xs m ys.0 sound not)

-- a number in front of a list, and the sessions with both, if they may be those of a worker
abbrev with_first : ℕ → List KeptSession × List ℕ → Option ((ℕ × List KeptSession) × List ℕ)
with_first n y = Some ((n, y.0), y.1)

abbrev numbered : ℕ → Option (List KeptSession × List ℕ) → Option ((ℕ × List KeptSession) × List ℕ)
numbered n r = r >>= λ y. with_first n y

abbrev judged : Option ((ℕ × List KeptSession) × List ℕ) → Option (KeptSessions × List ℕ)
judged r = (r >>= λ x. Some (sessions_of x.0, x.1)) >>= λ x. if are_sound x.0 then Some x else None

abbrev with_number : ℕ → ℕ → ℕ × List ℕ → Option ((ℕ × List KeptSession) × List ℕ)
with_number format shards x = numbered x.0 (four_at x.1 >>= λ n. so_many (session_at format shards) n.0 n.1)

-- what is behind a number and a count
pub sessions_behind : (format shards : ℕ) (bytes : List ℕ) (next count : ℕ × List ℕ) → eight_at bytes ≡ Some next → four_at next.1 ≡ Some count →
    sessions_at format shards bytes ≡ sessions_from next.0 (so_many (session_at format shards) count.0 count.1)
sessions_behind format shards bytes next count e f =
    ap (λ (r : Option (ℕ × List ℕ)). judged (r >>= with_number format shards)) e
    ∙ ap (λ (r : Option (ℕ × List ℕ)). judged (numbered next.0 (r >>= λ n. so_many (session_at format shards) n.0 n.1))) f
    ∙ by (so_many (session_at format shards) count.0 count.1)
  where
    by : (r : Option (List KeptSession × List ℕ)) → judged (numbered next.0 r) ≡ sessions_from next.0 r
    by None = refl
    by (Some y) = refl

-- what was added
pub sessions_after : (next : ℕ) (s new : KeptSessions) (m : KeptSession) (may : Bool) → may ≡ true → may ≡ may_add m s →
    new ≡ (if may then record s { list = s.list ++ m ∷ [] } else s) → s.next ≡ next → are_sound s ≡ true →
    (new ≡ sessions_with s.next (s.list ++ m ∷ [])) × (new.next ≡ next) × (are_sound new ≡ true)
sessions_after next s new m may is fits added same sound =
    let after : new ≡ sessions_with s.next (s.list ++ m ∷ []) = added ∙ ap (λ b. if b then sessions_with s.next (s.list ++ m ∷ []) else s) is in (
      after,
      ap (λ (x : KeptSessions). x.next) after ∙ same,
      ap are_sound after ∙ sound_more s.next s.list m sound (sym fits ∙ is),
    )

-- and what all were added to
pub all_from : (next : ℕ) (s : KeptSessions) (rest : List ℕ) → s.next ≡ next → are_sound s ≡ true → sessions_from next (Some (s.list, rest)) ≡ Some (s, rest)
all_from next s rest same sound =
    ap (λ n. sessions_from n (Some (s.list, rest))) (sym same) ∙ ap (λ b. if b then Some (s, rest) else None) sound
