-- Computed examples of tracks.
use Rattle.std.specs.Prelude.{◌≡◌, true, false, [], ◌∷◌, Some, None, refl}
use Rattle.seq_tracks.specs.PlainTracks.{PlainTracks, no_tracks, is_released, room}
use Rattle.seq_tracks.specs.InOrder.{are_in_order}
use Rattle.seq_tracks.specs.Identifiers.{unfinished_on, seq_of}
use Rattle.seq_tracks.specs.Changed.{acked_tracks, received_tracks, done_tracks, passed_tracks, issued_tracks}

-- ---- five numbers on track 1 and six on track 2, none acknowledged

abbrev issued : PlainTracks
issued = issued_tracks 5 6 no_tracks

room_of_the_rest : room issued 512 ≡ 501
room_of_the_rest = refl

no_room_of_a_full_window : room issued 11 ≡ 0
no_room_of_a_full_window = refl

unfinished_of_both : unfinished_on issued 2 ≡ 1 ∷ 2 ∷ 3 ∷ 4 ∷ 5 ∷ 6 ∷ []
unfinished_of_both = refl

-- no third track
no_third : unfinished_on issued 3 ≡ []
no_third = refl

-- ---- track 1

-- all up to the number are acknowledged
acked_three : unfinished_on (acked_tracks 3 issued) 1 ≡ 4 ∷ 5 ∷ []
acked_three = refl

-- ---- track 2

-- 1 and 2 were passed over, so they are done; 3 is released
abbrev received3 : PlainTracks
received3 = received_tracks 3 issued

complete_below : received3.complete ≡ 2
complete_below = refl

released : is_released received3 3 ≡ true
released = refl

not_released : is_released received3 4 ≡ false
not_released = refl

-- with 1 received and not done, what is passed over stands in the list, and complete waits for 1
abbrev waits : PlainTracks
waits = received_tracks 4 (received_tracks 1 issued)

in_the_list : waits.done ≡ 2 ∷ 3 ∷ []
in_the_list = refl

nothing_complete : waits.complete ≡ 0
nothing_complete = refl

-- complete follows as far as all are done
follows : (done_tracks 1 waits).complete ≡ 3
follows = refl

list_is_empty : (done_tracks 1 waits).done ≡ []
list_is_empty = refl

-- done out of order goes into its place
in_its_place : (done_tracks 3 (received_tracks 5 (received_tracks 3 (received_tracks 1 issued)))).done ≡ 2 ∷ 3 ∷ 4 ∷ []
in_its_place = refl

-- passing over leaves what was received before as it is
passed_over : (passed_tracks 2 6 waits).done ≡ 2 ∷ 3 ∷ 5 ∷ 6 ∷ []
passed_over = refl

still_released : is_released (passed_tracks 2 6 waits) 1 ≡ true
still_released = refl

all_passed_over : (passed_tracks 2 6 issued).complete ≡ 6
all_passed_over = refl

-- what is acknowledged leaves the whole window
all_acknowledged : room (done_tracks 2 (received_tracks 2 (acked_tracks 1 (issued_tracks 1 2 no_tracks)))) 512 ≡ 512
all_acknowledged = refl

-- ---- identifiers

-- 32,767 numbers later the identifiers begin anew (MQTT 2.2.1)
abbrev late : PlainTracks
late = record { issued1 = 32768; acked = 32766; issued2 = 32769; received = 32768; complete = 32766; done = 32768 ∷ [] }

wrapped : seq_of late 1 1 ≡ Some 32768
wrapped = refl

last_odd : seq_of late 1 65533 ≡ Some 32767
last_odd = refl

-- the done one between is finished
finished : seq_of late 2 2 ≡ None
finished = refl

wrapped_even : seq_of late 2 4 ≡ Some 32769
wrapped_even = refl

-- an odd identifier is none of track 2, and 0 and 65535 are none at all
of_the_other_track : seq_of late 2 1 ≡ None
of_the_other_track = refl

none_at_all : seq_of late 1 65535 ≡ None
none_at_all = refl

zero_is_none : seq_of late 2 0 ≡ None
zero_is_none = refl

-- ---- order

late_in_order : are_in_order late ≡ true
late_in_order = refl

-- a done number behind complete would be complete
behind_complete : are_in_order (record late { done = 32767 ∷ [] }) ≡ false
behind_complete = refl

done_not_received : are_in_order (record late { done = 32769 ∷ [] }) ≡ false
done_not_received = refl

done_twice : are_in_order (record late { received = 32769; done = 32768 ∷ 32768 ∷ [] }) ≡ false
done_twice = refl

passes_the_last : are_in_order (record late { acked = 32769 }) ≡ false
passes_the_last = refl

widest : are_in_order (issued_tracks 1024 1024 no_tracks) ≡ true
widest = refl

too_wide : are_in_order (issued_tracks 1024 1025 no_tracks) ≡ false
too_wide = refl

-- the greatest number of eight bytes is never given
greatest : are_in_order (record { issued1 = 18446744073709551615; acked = 18446744073709551615; issued2 = 0; received = 0; complete = 0; done = [] }) ≡ false
greatest = refl

nothing_left : room (record { issued1 = 18446744073709551614; acked = 18446744073709551614; issued2 = 0; received = 0; complete = 0; done = [] }) 512 ≡ 0
nothing_left = refl
