-- Steps of the tests of what was read.
use Rattle.std.proofs.Common.{◌≡◌, ℕ, ◌+◌, ◌-◌, ◌^◌, ◌<◌, Bool, true, false, ◌&&◌, nat_le, List, length, take, get_or, sym, ap, ◌∙◌, arith}
use Rattle.std.specs.List.{list_all}
use Rattle.std.proofs.lemmas.Bool.{and_parts}
use Rattle.std.proofs.lemmas.Bool.Decides.{nat_tests}
use Rattle.std.proofs.lemmas.List.Sums.{sum_by_more, sum_by-take-le}
use Rattle.topic_model.specs.Levels.{text_of_levels}
use Rattle.session_model.specs.Acting.{numbers_from}
use Rattle.session_state.specs.KeptSub.{KeptSub}
use Rattle.session_state.specs.KeptFits.{text_bytes}
use Rattle.session_state.specs.RunLaws.{from-first}

-- a run that isn't past the last has an end
pub run_fits : (low last first count : ℕ) (result : Bool) → result ≡ (nat_le low first && nat_le (first + count) (last + 1)) → result ≡ true → last < 2 ^ 64 - 1 →
    first + count < 2 ^ 64
run_fits low last first count result is passes less =
    let within = (and_parts (nat_le low first) (nat_le (first + count) (last + 1)) (sym is ∙ passes)).1 in
    grind (arith, nat_tests)

-- one more text
pub more_bytes : (subs : List KeptSub) (i : ℕ) (s : KeptSub) (levels : List (List ℕ)) (text : List ℕ) → i < length subs →
    s ≡ get_or subs i s → levels ≡ s.filter → text ≡ text_of_levels levels → text_bytes (take i subs) + length text ≡ text_bytes (take (i + 1) subs)
more_bytes subs i s levels text within item filter is =
    ap (λ t. text_bytes (take i subs) + length t) (is ∙ ap text_of_levels filter ∙ ap (λ (x : KeptSub). text_of_levels x.filter) item)
    ∙ sym (sum_by_more (λ (x : KeptSub). length (text_of_levels x.filter)) subs i s within)

-- so many of them are too many
pub too_many : (subs : List KeptSub) (i left bytes : ℕ) → text_bytes (take i subs) + bytes ≡ text_bytes (take (i + 1) subs) → left + text_bytes (take i subs) ≡ 65536 → left < bytes →
    false ≡ nat_le (text_bytes subs) 65536
too_many subs i left bytes more so_far less =
    let all = sum_by-take-le (λ (x : KeptSub). length (text_of_levels x.filter)) subs (i + 1) in
    let over : 65536 < text_bytes subs = omega arith in
    grind (arith, nat_tests)

-- the first of those that are left passes or not
pub all_from : (test : ℕ → Bool) (number end : ℕ) → number < end →
    list_all test (numbers_from number (end - number)) ≡ (test number && list_all test (numbers_from (number + 1) (end - (number + 1))))
all_from test number end less = ap (list_all test) (from-first number end less)

pub not_all : (test : ℕ → Bool) (number last end : ℕ) (whole : Bool) → whole ≡ list_all test (numbers_from number (last + 1 - number)) → number < end + 1 → end ≡ last →
    test number ≡ false → false ≡ whole
not_all test number last end whole is less same fails =
    let within : number < last + 1 = omega arith in
    sym (is ∙ all_from test number (last + 1) within ∙ ap (λ b. b && list_all test (numbers_from (number + 1) (last + 1 - (number + 1)))) fails)

pub all_so_far : (test : ℕ → Bool) (number last end : ℕ) (whole : Bool) → whole ≡ list_all test (numbers_from number (last + 1 - number)) → number < end + 1 → end ≡ last →
    test number ≡ true → whole ≡ list_all test (numbers_from (number + 1) (last + 1 - (number + 1)))
all_so_far test number last end whole is less same passes =
    let within : number < last + 1 = omega arith in
    is ∙ all_from test number (last + 1) within ∙ ap (λ b. b && list_all test (numbers_from (number + 1) (last + 1 - (number + 1)))) passes
