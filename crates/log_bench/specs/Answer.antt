-- What is there after a task, and its text.
use Rattle.std.specs.Prelude.{ℕ, ◌≡◌, ◌==◌, if◌then◌else◌, List, ◌++◌, codes, Option, Some, None, refl}
use Rattle.std.specs.Fmt.{decimal, digits}
use Rattle.log_bench.specs.declared.words.Task.{Task}
use Rattle.log_bench.specs.declared.words.Task.TheVariants.{Commits, Mounts, Entries}
use Rattle.log_bench.specs.declared.done.Done.{Done}

-- the bytes that were read last of a record of 1,024, none before the first reading
abbrev pub read_after : ℕ → ℕ
read_after reads = if reads == 0 then 0 else 1024

-- as many records as were committed: mounting keeps them
abbrev pub answer_to : Task → Done
answer_to (Commits count) = record { count = count; read = None }
answer_to (Mounts count mounts) = record { count = count; read = None }
answer_to (Entries count entry reads) = record { count = count; read = Some (read_after reads) }

abbrev pub text_with : List ℕ → Option ℕ → List ℕ
text_with records None = records
text_with records (Some bytes) = records ++ codes ", entry of " ++ decimal bytes ++ codes " bytes"

abbrev pub text_of : Done → List ℕ
text_of done = text_with (decimal done.count ++ codes " records") done.read

-- examples
text_of_commits : text_of (answer_to (Commits 3)) ≡ codes "3 records"
unfolding digits
text_of_commits = refl

text_of_entries : text_of (answer_to (Entries 3 2 5)) ≡ codes "3 records, entry of 1024 bytes"
unfolding digits
text_of_entries = refl

text_of_no_reading : text_of (answer_to (Entries 3 2 0)) ≡ codes "3 records, entry of 0 bytes"
unfolding digits
text_of_no_reading = refl
