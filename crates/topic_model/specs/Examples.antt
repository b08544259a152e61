-- Computed examples of words: levels, matches, refusals, routes.
use Rattle.std.specs.Prelude.{◌≡◌, true, false, [], ◌∷◌, codes, Some, None, refl}
use Rattle.std.specs.Fmt.{digits}
use Rattle.sha2.specs.Sha256.{compress, digest_bytes, first_words, hash_after, rounds, schedule, sha256}
use Rattle.topic_model.specs.declared.refused.TopicRefused.TheVariants as Topic
use Rattle.topic_model.specs.declared.refused.FilterRefused.TheVariants as Filter
use Rattle.topic_model.specs.Levels.{levels_of, text_of_levels}
use Rattle.topic_model.specs.Matching.{matches}
use Rattle.topic_model.specs.Texts.{topic_refusal, filter_refusal, asks_to_share}
use Rattle.topic_model.specs.Routing.{shard_of, worker_of, assigned_identifier, assigned_worker, routed_worker}

-- ---- levels

empty_levels : levels_of (codes "/a//b/") ≡ [] ∷ codes "a" ∷ [] ∷ codes "b" ∷ [] ∷ []
empty_levels = refl

together_again : text_of_levels (levels_of (codes "/a//b/")) ≡ codes "/a//b/"
together_again = refl

-- ---- matches

-- `#` matches the parent level too (MQTT 4.7.1.2)
hash_and_parent : matches (levels_of (codes "sport/tennis/player1/#")) (levels_of (codes "sport/tennis/player1")) ≡ true
hash_and_parent = refl

hash_and_two_levels : matches (levels_of (codes "sport/tennis/player1/#"))
    (levels_of (codes "sport/tennis/player1/score/wimbledon")) ≡ true
hash_and_two_levels = refl

-- `+` matches one level, which may be empty, and no two (MQTT 4.7.1.3)
plus_and_one : matches (levels_of (codes "sport/tennis/+")) (levels_of (codes "sport/tennis/player1")) ≡ true
plus_and_one = refl

plus_and_two : matches (levels_of (codes "sport/tennis/+")) (levels_of (codes "sport/tennis/player1/ranking")) ≡ false
plus_and_two = refl

plus_and_empty : matches (levels_of (codes "sport/+")) (levels_of (codes "sport/")) ≡ true
plus_and_empty = refl

plus_and_none : matches (levels_of (codes "sport/+")) (levels_of (codes "sport")) ≡ false
plus_and_none = refl

plus_and_slash : matches (levels_of (codes "+/+")) (levels_of (codes "/finance")) ≡ true
plus_and_slash = refl

one_plus_and_slash : matches (levels_of (codes "+")) (levels_of (codes "/finance")) ≡ false
one_plus_and_slash = refl

-- a wildcard at the front and `$` (MQTT 4.7.2)
hash_and_dollar : matches (levels_of (codes "#")) (levels_of (codes "$SYS/x")) ≡ false
hash_and_dollar = refl

plus_and_dollar : matches (levels_of (codes "+/monitor/Clients")) (levels_of (codes "$SYS/monitor/Clients")) ≡ false
plus_and_dollar = refl

dollar_itself : matches (levels_of (codes "$SYS/#")) (levels_of (codes "$SYS/monitor")) ≡ true
dollar_itself = refl

-- upper and lower case are not the same (MQTT 4.7.3)
other_case : matches (levels_of (codes "ACCOUNTS")) (levels_of (codes "Accounts")) ≡ false
other_case = refl

-- ---- refusals

a_topic : topic_refusal (codes "/a b/") ≡ None
a_topic = refl

zero_before_wild : topic_refusal (0x23 ∷ 0x00 ∷ []) ≡ Some Topic.Zero
zero_before_wild = refl

plus_in_topic : topic_refusal (codes "a/b+") ≡ Some Topic.Wild
plus_in_topic = refl

a_filter : filter_refusal (codes "+/a/#") ≡ None
a_filter = refl

only_hash : filter_refusal (codes "#") ≡ None
only_hash = refl

hash_in_a_level : filter_refusal (codes "sport/tennis#") ≡ Some Filter.BadHash
hash_in_a_level = refl

hash_in_the_middle : filter_refusal (codes "sport/#/ranking") ≡ Some Filter.BadHash
hash_in_the_middle = refl

plus_in_a_level : filter_refusal (codes "sport+") ≡ Some Filter.BadPlus
plus_in_a_level = refl

-- of both the `+` decides, wherever it stands
plus_before_hash : filter_refusal (codes "#/a+") ≡ Some Filter.BadPlus
plus_before_hash = refl

shared : asks_to_share (codes "$share/group/a") ≡ true
shared = refl

not_shared : asks_to_share (codes "$shared") ≡ false
not_shared = refl

-- ---- routes

shard_of_abc : shard_of (codes "abc") 8 ≡ 2
unfolding first_words schedule rounds compress hash_after digest_bytes sha256
shard_of_abc = refl

worker_of_abc : worker_of (codes "abc") 16 ≡ 3
unfolding first_words schedule rounds compress hash_after digest_bytes sha256
worker_of_abc = refl

an_assigned : assigned_identifier 3 17 ≡ codes "auto-03-17"
unfolding digits
an_assigned = refl

its_worker : assigned_worker (codes "auto-03-17") 4 ≡ Some 3
its_worker = refl

no_such_worker : assigned_worker (codes "auto-03-17") 3 ≡ None
no_such_worker = refl

leading_zero : assigned_worker (codes "auto-03-07") 4 ≡ None
leading_zero = refl

no_number : assigned_worker (codes "auto-03-") 4 ≡ None
no_number = refl

one_digit : assigned_worker (codes "auto-3-17") 4 ≡ None
one_digit = refl

routed : routed_worker (codes "auto-15-0") 16 ≡ 15
unfolding first_words schedule rounds compress hash_after digest_bytes sha256
routed = refl
