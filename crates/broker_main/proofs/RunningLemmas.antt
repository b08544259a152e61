-- What was put of a text so far.
use Rattle.std.proofs.Common.{ℕ, ◌≡◌, List, [], ◌∷◌, ◌++◌, Option, Some, None, arith, refl, sym, subst, ap, ◌∙◌, append_assoc, append-nil}
use Rattle.first_world_terms.specs.PlainBroker.{PlainBroker, plain_step, plain_text}
use Rattle.first_world_terms.specs.Run.{line_or_nothing}
use Rattle.first_world_terms.specs.Script.{line_of, line_texts}
use Rattle.first_world_terms.specs.Text.{text_of_outs}
use Rattle.outside.specs.Sink.{Puts, PutsFront, puts_then, puts_front_first, puts_front_then}

-- a front of the whole was put, and the rest is still to put
pub record PutSoFar (before now : Option (List ℕ)) (whole rest : List ℕ) : Type 0 where
  pub front : List ℕ
  pub put : Puts before now front
  pub left : whole ≡ front ++ rest

-- nothing was put
pub puts_nothing : (before : Option (List ℕ)) → Puts before before []
puts_nothing None = tt
puts_nothing (Some taken) = ap Some (sym (append-nil taken))

pub puts_front_nothing : (before : Option (List ℕ)) (piece : List ℕ) → PutsFront before before piece
puts_front_nothing None piece = tt
puts_front_nothing (Some taken) piece = (0, omega arith, ap Some (sym (append-nil taken)))

pub nothing_so_far : (before : Option (List ℕ)) (whole : List ℕ) → PutSoFar before before whole whole
nothing_so_far before whole = record { front = []; put = puts_nothing before; left = refl }

-- one more piece was put
pub more_so_far : (before mid now : Option (List ℕ)) (whole piece rest : List ℕ) → PutSoFar before mid whole (piece ++ rest) → Puts mid now piece
    → PutSoFar before now whole rest
more_so_far before mid now whole piece rest p q = record {
  front = p.front ++ piece;
  put = puts_then before mid now p.front piece p.put q;
  left = p.left ∙ sym (append_assoc p.front piece rest);
}

-- the last piece was put
pub all_put : (before mid now : Option (List ℕ)) (whole piece : List ℕ) → PutSoFar before mid whole (piece ++ []) → Puts mid now piece
    → Puts before now whole
all_put before mid now whole piece p q =
    subst (Puts before now) (sym (p.left ∙ ap (λ l. p.front ++ l) (append-nil piece))) (puts_then before mid now p.front piece p.put q)

-- a front of the next piece was put
pub front_put : (before mid now : Option (List ℕ)) (whole piece rest : List ℕ) → PutSoFar before mid whole (piece ++ rest) → PutsFront mid now piece
    → PutsFront before now whole
front_put before mid now whole piece rest p q =
    subst (PutsFront before now) (sym (p.left ∙ sym (append_assoc p.front piece rest)))
    (puts_front_first before now (p.front ++ piece) rest (puts_front_then before mid now p.front piece p.put q))

-- the text of the next line, and of the lines behind it
pub next_line : (before now : Option (List ℕ)) (whole rest text : List ℕ) (later : List (List ℕ)) (broker : PlainBroker)
    → PutSoFar before now whole (plain_text broker (line_texts rest)) → line_texts rest ≡ text ∷ later
    → PutSoFar before now whole (text_of_outs (plain_step (line_or_nothing (line_of text)) broker).outs ++ plain_text (plain_step (line_or_nothing (line_of text)) broker).broker later)
next_line before now whole rest text later broker p e = subst (λ texts. PutSoFar before now whole (plain_text broker texts)) e p

-- a line was run, and its text was put
pub more_lines : (before mid now : Option (List ℕ)) (whole rest text later : List ℕ) (broker after : PlainBroker)
    → PutSoFar before mid whole (plain_text broker (line_texts rest)) → line_texts rest ≡ text ∷ line_texts later
    → Puts mid now (text_of_outs (plain_step (line_or_nothing (line_of text)) broker).outs) → after ≡ (plain_step (line_or_nothing (line_of text)) broker).broker
    → PutSoFar before now whole (plain_text after (line_texts later))
more_lines before mid now whole rest text later broker after p e q same =
    subst (λ b. PutSoFar before now whole (plain_text b (line_texts later))) (sym same)
    (more_so_far before mid now whole _ _ (next_line before mid whole rest text (line_texts later) broker p e) q)
