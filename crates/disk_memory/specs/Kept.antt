-- The bytes that pending writes wrote over: by them the writes are undone, from the last to the first.
use Rattle.std.specs.Prelude.{◌≡◌, ℕ, ◌+◌, ◌≤◌, List, [], ◌∷◌, ◌++◌, map, length, take, drop, refl}
use Rattle.disk_memory.specs.PlainDisk.{PlainWrite, seen_after, seen_of}

-- A pending write with the bytes that it wrote over. Where it went past the end they are fewer than those it wrote.
pub record KeptWrite : Type 0 where
  pub at : ℕ
  pub bytes : List ℕ
  pub taken : ℕ
  pub over : List ℕ

-- the write without them
abbrev pub plain : KeptWrite → PlainWrite
plain w = record { at = w.at; bytes = w.bytes; taken = w.taken }

-- the write of so many bytes of a piece into these bytes
abbrev pub keeping : ℕ → List ℕ → ℕ → List ℕ → KeptWrite
keeping at piece taken old = record { at = at; bytes = piece; taken = taken; over = take taken (drop at old) }

-- bytes after one write is undone, and after all are, from the last to the first
abbrev pub undone : KeptWrite → List ℕ → List ℕ
undone w bytes = take w.at bytes ++ w.over ++ drop (w.at + w.taken) bytes

abbrev pub unwound : List KeptWrite → List ℕ → List ℕ
unwound [] bytes = bytes
unwound (w ∷ ws) bytes = undone w (unwound ws bytes)

-- a write into these bytes, which kept what it wrote over
pub record Keeps (w : KeptWrite) (old : List ℕ) : Type 0 where
  pub place : w.at ≤ length old
  pub taken : w.taken ≤ length w.bytes
  pub over : w.over ≡ take w.taken (drop w.at old)

-- each of them did, one after another
abbrev pub AllKeep : List ℕ → List KeptWrite → Type 0
AllKeep base [] = Unit {0}
AllKeep base (w ∷ ws) = Keeps w base × AllKeep (seen_after base (plain w)) ws

-- These bytes are what the writes make of the base, and each kept what it wrote over.
pub record IsLaid (base : List ℕ) (ws : List KeptWrite) (bytes : List ℕ) : Type 0 where
  pub seen : bytes ≡ seen_of base (map plain ws)
  pub kept : AllKeep base ws

-- example: a write of three bytes over the last one of two, and one in the middle
undone_twice : unwound (record { at = 1; bytes = 7 ∷ 8 ∷ 9 ∷ []; taken = 3; over = 2 ∷ [] } ∷ record { at = 2; bytes = 5 ∷ []; taken = 1; over = 8 ∷ [] } ∷ []) (1 ∷ 7 ∷ 5 ∷ 9 ∷ []) ≡ 1 ∷ 2 ∷ []
undone_twice = refl
