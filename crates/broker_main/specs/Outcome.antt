-- What a call of the program puts out.
use Rattle.std.specs.Prelude.{ℕ, ◌<◌, ◌≡◌, Bool, false, nat_lt, if◌then◌else◌, List, [], ◌∷◌, ◌++◌, codes, length, ◌⊎◌, Option, Some, None, ⊤, IsSome, IsSomeAnd, IsTrue, IfSome, refl}
use Rattle.std.specs.Fmt.{decimal, digits}
use Rattle.std.specs.Str.{bytes_eq}
use Rattle.first_world_terms.specs.Script.{line_texts, first_bad_line}
use Rattle.first_world_terms.specs.Run.{text_of_script}
use Rattle.outside.specs.Cause.{Rose}
use Rattle.outside.specs.Sink.{Puts, PutsFront}
use Rattle.broker_main.specs.declared.reading.ReadStopped.{ReadStopped}
use Rattle.broker_main.specs.declared.reading.ReadStopped.TheVariants as reading
use Rattle.broker_main.specs.declared.running.RunStopped.{RunStopped}
use Rattle.broker_main.specs.declared.running.RunStopped.TheVariants as running

-- the most bytes that a script may have
abbrev pub script_limit : ℕ
script_limit = 67108864

abbrev pub usage_text : List ℕ
usage_text = codes "usage: replay | load SEED COUNT | inspect DIR S W" ++ 10 ∷ []

abbrev pub too_long_text : List ℕ
too_long_text = codes "script too long" ++ 10 ∷ []

abbrev pub bad_line_text : ℕ → List ℕ
bad_line_text number = codes "line " ++ decimal number ++ codes ": not a script line" ++ 10 ∷ []

-- the words are the one command that is built, `replay`
abbrev pub are_replay : List (List ℕ) → Bool
are_replay [] = false
are_replay (word ∷ []) = bytes_eq word (codes "replay")
are_replay (word ∷ other ∷ words) = false

-- what is put out in place of a run for a script that isn't run, none where it is run
abbrev pub refusal_under : Option ℕ → Option (List ℕ)
refusal_under None = None
refusal_under (Some number) = Some (bad_line_text number)

abbrev pub refusal_of_script : List ℕ → Option (List ℕ)
refusal_of_script script = if nat_lt script_limit (length script) then Some too_long_text else refusal_under (first_bad_line 1 (line_texts script))

-- the same by the words, which are looked at first
abbrev pub refusal_text : List (List ℕ) → List ℕ → Option (List ℕ)
refusal_text words script = if are_replay words then refusal_of_script script else Some usage_text

-- all that is put out for these words and this script
abbrev pub text_or_run : List ℕ → Option (List ℕ) → List ℕ
text_or_run script None = text_of_script script
text_or_run script (Some text) = text

abbrev pub whole_text : List (List ℕ) → List ℕ → List ℕ
whole_text words script = text_or_run script (refusal_text words script)

-- the words are looked at first, and a script with a bad line isn't run
other_words : whole_text (codes "load" ∷ codes "1" ∷ []) (codes "open 1") ≡ usage_text
other_words = refl

bad_line : whole_text (codes "replay" ∷ []) (codes "open 1" ++ 10 ∷ (codes "ping 1" ++ 10 ∷ codes "close")) ≡ codes "line 2: not a script line" ++ 10 ∷ []
unfolding digits
bad_line = refl

opened : whole_text (codes "replay" ∷ []) (codes "open 1" ++ 10 ∷ codes "pump 1") ≡ []
opened = refl

-- why a source wasn't read to its end: what was left was too long, where that was told, or the source failed, and else it didn't
abbrev pub StopsReading : ReadStopped → Option (List ℕ) → ℕ → ℕ → Type 0
StopsReading reading.TooLong left before now = IfSome left (λ script. script_limit < length script) × (now ≡ before)
StopsReading reading.Source left before now = Rose before now
StopsReading reading.Memory left before now = now ≡ before

-- why a run stopped before its end
abbrev pub StopsRun : RunStopped → ℕ → ℕ → Type 0
StopsRun running.Sink before now = Rose before now
StopsRun running.Memory before now = ⊤

-- What the end of a call says, by its number, of a text that was to be put: with 0 all of it was put and no refusal
-- is there, with 2 all of it was put in place of a run, with 4 and 5 a front of it was put, and with 4 the sink failed.
pub record Ends (status : ℕ) (refusal : Option (List ℕ)) (text : List ℕ) (before now : Option (List ℕ)) (faults later : ℕ) : Type 0 where
  pub statuses : (status ≡ 0) ⊎ (status ≡ 2) ⊎ (status ≡ 4) ⊎ (status ≡ 5)
  pub done : status ≡ 0 → (refusal ≡ None) × Puts before now text
  pub refused : status ≡ 2 → IsSome refusal × Puts before now text
  pub sink : status ≡ 4 → Rose faults later × PutsFront before now text
  pub memory : status ≡ 5 → PutsFront before now text

-- How a call with these words ends, by its number: what the source had left, where it told that, and what the sink had
-- taken before and has taken now. It is what `run_offline` says of them.
pub record EndsCall (words : List (List ℕ)) (left : Option (List ℕ)) (status : ℕ) (before now : Option (List ℕ)) : Type 0 where
  pub statuses : (status ≡ 0) ⊎ (status ≡ 2) ⊎ (status ≡ 3) ⊎ (status ≡ 4) ⊎ (status ≡ 5)
  pub done : status ≡ 0 → IfSome left (λ script. (refusal_text words script ≡ None) × Puts before now (text_of_script script))
  pub refused : status ≡ 2 → IfSome left (λ script. IsSomeAnd (refusal_text words script) (Puts before now))
  pub nothing_put : status ≡ 3 → now ≡ before
  pub front : status ≡ 4 → IfSome left (λ script. PutsFront before now (whole_text words script))
  pub memory : status ≡ 5 → IfSome left (λ script. PutsFront before now (whole_text words script))
  pub asked : (status ≡ 0) ⊎ (status ≡ 3) ⊎ (status ≡ 5) → IsTrue (are_replay words)
  pub usage : are_replay words ≡ false → ((status ≡ 2) × Puts before now usage_text) ⊎ ((status ≡ 4) × PutsFront before now usage_text)
