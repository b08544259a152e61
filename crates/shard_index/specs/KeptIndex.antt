-- A shard's list as an index keeps it: the model's list, and beside it the slots of the generations and the places of cold bodies.
use Rattle.std.specs.Prelude.{ℕ, ◌-◌, nat_lt, if◌then◌else◌, List, map, slice_get, Option, None}
use Rattle.topic_name.specs.declared.descriptor.Descriptor.{Descriptor}
use Rattle.topic_name.specs.KeptMessage.{KeptMessage}
use Rattle.topic_model.specs.StoredMessage.{StoredMessage}
use Rattle.shard_model.specs.ShardList.{Cut, Awaited, ShardList, floor_of}

-- the generations, oldest first; the messages, whose offsets are consecutive; and what is awaited, in the order in which it became so
pub record KeptIndex : Type 0 where
  pub cuts : List Descriptor
  pub messages : List KeptMessage
  pub awaited : List Awaited

-- ---- the model's list

abbrev pub cut_of : Descriptor → Cut
cut_of cut =
    record { number = cut.number; first = cut.first; top = cut.top; below = cut.below; messages = cut.messages; sealed = cut.sealed }

abbrev pub stored_of : KeptMessage → StoredMessage
stored_of m = m.stored

abbrev pub list_of : KeptIndex → ShardList
list_of index = record { cuts = map cut_of index.cuts; messages = map stored_of index.messages; awaited = index.awaited }

-- ---- look-ups

-- the message with an offset, none below the floor and from the next one on
abbrev pub kept_at : KeptIndex → ℕ → Option KeptMessage
kept_at index offset =
    if nat_lt offset (floor_of (list_of index)) then None else slice_get index.messages (offset - floor_of (list_of index))

-- ---- receipts

-- of a group that was stored: its shard, the offsets of its first message and of the next one behind it, and the list with it
pub record ToldReceipt : Type 0 where
  pub shard : ℕ
  pub first : ℕ
  pub next : ℕ
  pub list : ShardList
