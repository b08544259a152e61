-- The words of a call, and what they ask for.
use Rattle.std.specs.Prelude.{ℕ, ◌≡◌, ◌<◌, ◌≤◌, List, [], ◌∷◌, codes, Option, Some, IfSome, refl}
use Rattle.std.specs.Fmt.{decimal, digits}
use Rattle.log_bench.specs.declared.words.Task.{Task}
use Rattle.log_bench.specs.declared.words.Task.TheVariants.{Commits, Mounts, Entries}

-- how many records are committed first
abbrev pub count_of : Task → ℕ
count_of (Commits count) = count
count_of (Mounts count mounts) = count
count_of (Entries count entry reads) = count

-- the words that ask for a task
abbrev pub words_of : Task → List (List ℕ)
words_of (Commits count) = codes "commits" ∷ decimal count ∷ []
words_of (Mounts count mounts) = codes "mounts" ∷ decimal count ∷ decimal mounts ∷ []
words_of (Entries count entry reads) = codes "entries" ∷ decimal count ∷ decimal entry ∷ decimal reads ∷ []

-- 1 to 1,000,000 records, so many mounts or readings at most, and a record that is there
abbrev pub IsCount : ℕ → Type 0
IsCount count = (1 ≤ count) × (count ≤ 1000000)

abbrev pub IsPossible : Task → Type 0
IsPossible (Commits count) = IsCount count
IsPossible (Mounts count mounts) = IsCount count × (mounts ≤ 1000000)
IsPossible (Entries count entry reads) = IsCount count × (entry < count) × (reads ≤ 1000000)

-- some possible task is what the words ask for
abbrev pub IsAsked : List (List ℕ) → Type 0
IsAsked words = (task : Task) × IsPossible task × (words ≡ words_of task)

-- what was read is the task that the words ask for, and nothing only where they ask for none
pub record IsReading (words : List (List ℕ)) (read : Option Task) : Type 0 where
  pub written : IfSome read (λ task. words ≡ words_of task)
  pub possible : IfSome read IsPossible
  pub every : (task : Task) → IsPossible task → words ≡ words_of task → read ≡ Some task

-- examples
three_commits : words_of (Commits 3) ≡ codes "commits" ∷ codes "3" ∷ []
unfolding digits
three_commits = refl

last_entry : words_of (Entries 10 9 0) ≡ codes "entries" ∷ codes "10" ∷ codes "9" ∷ codes "0" ∷ []
unfolding digits
last_entry = refl
