-- A version or a subscription that went is never needed again.
use Rattle.std.proofs.Common.{◌≡◌, ◌⊎◌, inl, inr, true, not, ◌==◌, List, ◌++◌, filter, sym, ap, ◌∙◌}
use Rattle.std.specs.List.{list_any}
use Rattle.std.proofs.lemmas.Bool.{or_cases, or_right}
use Rattle.std.proofs.lemmas.List.Elements.{filter-append}
use Rattle.std.proofs.lemmas.List.Folds.{list_any-append}
use Rattle.session_model.specs.declared.entry.Entry.{Entry}
use Rattle.session_model.specs.declared.entry.Version.{Version}
use Rattle.session_model.specs.PlainSession.{PlainSession, Subscription}
use Rattle.session_model.specs.Unfinished as plain
use Rattle.session_model.specs.Unfinished.{is_finished, is_used}
use Rattle.session_refinement.specs.laws.ListLaws.{Each, each_of, each_weaker, any_more, any_of_filtered}
use Rattle.session_refinement.specs.laws.BatchLaws.{StaysFinished, still_unfinished}
use Rattle.session_refinement.specs.laws.KeepLaws.{keeps_version, keeps_subscription}

-- a version that is kept after a change was kept before, if it was where it is then present or where a new entry has it
pub version_goes : (m later : PlainSession) (new : List Entry) (v : Version) → later.issued ≡ m.issued ++ new →
    StaysFinished m later →
    (plain.is_present later v ≡ true → keeps_version m v ≡ true) →
    (list_any (λ (e : Entry). e.version == v.number) new ≡ true → keeps_version m v ≡ true) →
    keeps_version later v ≡ true → keeps_version m v ≡ true
version_goes m later new v same stays present issued is = by (or_cases (plain.is_present later v) (is_used later v) is)
  where
    old : list_any (λ (e : Entry). e.version == v.number) (filter (λ (e : Entry). not (is_finished later e)) m.issued)
        ≡ true → keeps_version m v ≡ true
    old found =
        or_right (plain.is_present m v) (is_used m v)
        (any_more (λ (e : Entry). e.version == v.number) (λ (e : Entry). not (is_finished later e))
        (λ (e : Entry). e.version == v.number) (λ (e : Entry). not (is_finished m e)) m.issued
        (each_of
        (λ (e : Entry). (e.version == v.number) ≡ true → not (is_finished later e) ≡ true →
        ((e.version == v.number) ≡ true) × (not (is_finished m e) ≡ true))
        (λ e has unfinished. (has, still_unfinished m later e stays unfinished)) m.issued) found)

    either : (list_any (λ (e : Entry). e.version == v.number)
        (filter (λ (e : Entry). not (is_finished later e)) m.issued) ≡ true)
        ⊎ (list_any (λ (e : Entry). e.version == v.number) (filter (λ (e : Entry). not (is_finished later e)) new)
        ≡ true) → keeps_version m v ≡ true
    either (inl found) = old found
    either (inr found) =
        issued
        (any_of_filtered (λ (e : Entry). e.version == v.number) (λ (e : Entry). not (is_finished later e)) new found)

    by : (plain.is_present later v ≡ true) ⊎ (is_used later v ≡ true) → keeps_version m v ≡ true
    by (inl there) = present there
    by (inr used) =
        either
        (or_cases
        (list_any (λ (e : Entry). e.version == v.number)
        (filter (λ (e : Entry). not (is_finished later e)) m.issued))
        (list_any (λ (e : Entry). e.version == v.number) (filter (λ (e : Entry). not (is_finished later e)) new))
        (sym (list_any-append (λ (e : Entry). e.version == v.number)
        (filter (λ (e : Entry). not (is_finished later e)) m.issued)
        (filter (λ (e : Entry). not (is_finished later e)) new))
        ∙ ap (list_any (λ (e : Entry). e.version == v.number))
        (sym (filter-append (λ (e : Entry). not (is_finished later e)) m.issued new))
        ∙ ap (λ es. list_any (λ (e : Entry). e.version == v.number)
        (filter (λ (e : Entry). not (is_finished later e)) es)) (sym same)
        ∙ used))

-- and so is a subscription, if it was where it is then live or where a new version is one of its
pub subscription_goes : (m later : PlainSession) (new : List Version) (s changed : Subscription) →
    later.versions ≡ m.versions ++ new →
    Each (λ v. keeps_version later v ≡ true → keeps_version m v ≡ true) m.versions → changed.number ≡ s.number →
    (changed.live ≡ true → keeps_subscription m s ≡ true) →
    (list_any (λ (v : Version). v.subscription == s.number) new ≡ true → keeps_subscription m s ≡ true) →
    keeps_subscription later changed ≡ true → keeps_subscription m s ≡ true
subscription_goes m later new s changed same go number live versions is =
    by (or_cases changed.live (list_any (λ (v : Version). v.subscription == changed.number) (plain.kept_versions later))
    is)
  where
    old : list_any (λ (v : Version). v.subscription == s.number) (filter (keeps_version later) m.versions) ≡ true →
        keeps_subscription m s ≡ true
    old found =
        or_right s.live (list_any (λ (v : Version). v.subscription == s.number) (plain.kept_versions m))
        (any_more (λ (v : Version). v.subscription == s.number) (keeps_version later)
        (λ (v : Version). v.subscription == s.number) (keeps_version m) m.versions
        (each_weaker (λ v. keeps_version later v ≡ true → keeps_version m v ≡ true)
        (λ (v : Version). (v.subscription == s.number) ≡ true → keeps_version later v ≡ true →
        ((v.subscription == s.number) ≡ true) × (keeps_version m v ≡ true))
        (λ v goes has kept. (has, goes kept)) m.versions go) found)

    either : (list_any (λ (v : Version). v.subscription == s.number) (filter (keeps_version later) m.versions) ≡ true)
        ⊎ (list_any (λ (v : Version). v.subscription == s.number) (filter (keeps_version later) new) ≡ true) →
        keeps_subscription m s ≡ true
    either (inl found) = old found
    either (inr found) =
        versions (any_of_filtered (λ (v : Version). v.subscription == s.number) (keeps_version later) new found)

    by : (changed.live ≡ true)
        ⊎ (list_any (λ (v : Version). v.subscription == changed.number) (plain.kept_versions later) ≡ true) →
        keeps_subscription m s ≡ true
    by (inl there) = live there
    by (inr has) =
        either
        (or_cases (list_any (λ (v : Version). v.subscription == s.number) (filter (keeps_version later) m.versions))
        (list_any (λ (v : Version). v.subscription == s.number) (filter (keeps_version later) new))
        (sym (list_any-append (λ (v : Version). v.subscription == s.number) (filter (keeps_version later) m.versions)
        (filter (keeps_version later) new))
        ∙ ap (list_any (λ (v : Version). v.subscription == s.number))
        (sym (filter-append (keeps_version later) m.versions new))
        ∙ ap (λ vs. list_any (λ (v : Version). v.subscription == s.number) (filter (keeps_version later) vs)) (sym same)
        ∙ ap (λ n. list_any (λ (v : Version). v.subscription == n) (plain.kept_versions later)) (sym number)
        ∙ has))
