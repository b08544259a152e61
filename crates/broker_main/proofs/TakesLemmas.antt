-- The takes of a source, so far and at the end of a reading.
use Rattle.std.proofs.Common.{ℕ, ◌≡◌, ◌+◌, ◌<◌, ◌≤◌, List, [], ◌∷◌, ◌++◌, refl, sym, subst, ap, ◌∙◌, append_assoc}
use Rattle.std.specs.Prelude.{All, sum}
use Rattle.std.proofs.lemmas.List.Elements.{All-nil, All-cons, All-append}
use Rattle.std.proofs.lemmas.List.Sums.{sum_by_push}
use Rattle.broker_main.specs.Outcome.{script_limit}
use Rattle.broker_main.specs.Takes.{GivesSome, EndsAtOnce, StopsPast}

-- the takes since gave bytes each, and so many together
pub record Given (before now : List ℕ) (total : ℕ) : Type 0 where
  pub counts : List ℕ
  pub some : All (λ n. 0 < n) counts
  pub together : sum counts ≡ total
  pub gave : now ≡ before ++ counts

-- one more take that gave some
pub given_more : (before mid now : List ℕ) (total n after : ℕ) → Given before mid total → now ≡ mid ++ n ∷ [] → 0 < n → after ≡ total + n
    → Given before now after
given_more before mid now total n after p e h s = record {
  counts = p.counts ++ n ∷ [];
  some = All-append (λ n. 0 < n) p.counts (n ∷ []) p.some (All-cons (λ n. 0 < n) n [] h (All-nil (λ n. 0 < n)));
  together = sum_by_push (λ n. n) p.counts n ∙ ap (λ k. k + n) p.together ∙ sym s;
  gave = e ∙ ap (λ l. l ++ n ∷ []) p.gave ∙ append_assoc before p.counts (n ∷ []);
}

pub gives_some : (before now : List ℕ) (total : ℕ) → Given before now total → total ≤ script_limit → GivesSome before now
gives_some before now total p h = record { counts = p.counts; some = p.some; within = subst (λ k. k ≤ script_limit) (sym p.together) h; gave = p.gave }

-- nothing came behind the last one
pub gives_some_more : (before mid now : List ℕ) (total n : ℕ) → Given before mid total → now ≡ mid ++ n ∷ [] → 0 < n → total + n ≤ script_limit
    → GivesSome before now
gives_some_more before mid now total n p e h l = gives_some before now (total + n) (given_more before mid now total n (total + n) p e h refl) l

-- the last take gave nothing
pub ends_at_once : (before mid now : List ℕ) (total n : ℕ) → Given before mid total → total ≤ script_limit → now ≡ mid ++ n ∷ [] → n ≡ 0
    → EndsAtOnce before now
ends_at_once before mid now total n p h e z = record {
  counts = p.counts;
  some = p.some;
  within = subst (λ k. k ≤ script_limit) (sym p.together) h;
  gave = e ∙ ap (λ l. l ++ n ∷ []) p.gave ∙ ap (λ k. (before ++ p.counts) ++ k ∷ []) z;
}

-- the last take passed the limit
pub stops_past : (before mid now : List ℕ) (total n : ℕ) → Given before mid total → total ≤ script_limit → now ≡ mid ++ n ∷ [] → script_limit < total + n
    → StopsPast before now
stops_past before mid now total n p h e l = record {
  counts = p.counts;
  last = n;
  some = p.some;
  within = subst (λ k. k ≤ script_limit) (sym p.together) h;
  past = subst (λ k. script_limit < k + n) (sym p.together) l;
  gave = e ∙ ap (λ l. l ++ n ∷ []) p.gave;
}
