-- The list of publishers is gone over, place by place, of a domain and of the machine.
use Rattle.std.proofs.Common.{◌≡◌, ◌≢◌, ◌≤◌, ◌<◌, ◌⊎◌, ◌+◌, ◌-◌, ◌∷◌, [], ◌&&◌, ◌||◌, ℕ, zero, suc, Bool, true, false, List, length}
use Rattle.std.proofs.Common.{get_or, drop, nat_lt, Option, None, Some, Result, Ok, Err, refl, sym, ap, subst, inl, inr, ◌∙◌, arith}
use Rattle.std.proofs.lemmas.Bool.{cases_eq, cases_lt, le-ltb, lt-ltb, ltb-true, ltb-false}
use Rattle.std.proofs.lemmas.List.{drop_more, get_or-drop}
use Rattle.std.specs.Map.{keys_of}
use Rattle.std.specs.Prelude.{fold, is_some, option_map}
use Rattle.iox_command.specs.DomainValues.declared.connection_failure.ConnectionFailure.{ConnectionFailure}
use Rattle.iox_command.specs.DomainValues.declared.connection_failure.ZeroCopyCreationError.{ZeroCopyCreationError}
use Rattle.iox_command.specs.DomainValues.declared.degradation.DegradationAction.{DegradationAction}
use Rattle.iox_command.specs.DomainValues.declared.degradation.DegradationInfo.{DegradationInfo}
use Rattle.iox_domain.specs.Container.declared.container.Member.{Member}
use Rattle.iox_domain.specs.DomainPorts.SubscriberUpdating.{AsksOf, FollowsFrom, FollowsNoneIf, FollowsNones}
use Rattle.iox_domain.specs.DomainPorts.declared.attached.Taken.{Taken}
use Rattle.iox_domain.specs.DomainPorts.declared.publisher_entry.PublisherEntry.{PublisherEntry}
use Rattle.iox_domain.specs.DomainPorts.declared.publisher_port.PublisherPort.{PublisherPort}
use Rattle.iox_domain.specs.DomainPorts.declared.subscriber_port.SubscriberPort.{SubscriberPort}
use Rattle.iox_domain.specs.Roomy.{IsListOnce}
use Rattle.iox_domain.specs.Subscribers.{subscriber_of}
use Rattle.iox_domain.specs.Tries.{how_often}
use Rattle.iox_domain.specs.declared.ports.service_ports.ServicePorts.{ServicePorts}
use Rattle.iox_domain_machine.specs.Naming.{Naming}
use Rattle.iox_domain_machine.specs.Subscribers.{SubscriberStandsFor}
use Rattle.iox_domain_machine.specs.Tables.{LentSlot}
use Rattle.iox_domain_machine.proofs.Found.{never_some}
use Rattle.iox_domain_machine.proofs.UpdateAlong.{along_same, again_same}
use Rattle.iox_domain_machine.proofs.UpdateBody.{Walked, before, listed, outcome_of, parts_from, step_listed, step_unlisted}
use Rattle.iox_domain_machine.proofs.UpdateMidway.{Midway, connected_at}
use Rattle.iox_domain_machine.proofs.UpdatePlaces.{Place, leaving_first, leaving_then, none_first, none_then}
use Rattle.iox_domain_machine.proofs.UpdateTold.{ToldBelow, told_past, told_here}
use Rattle.iox_machine.specs.PublisherUpdate.{failure_at}
use Rattle.iox_machine.specs.Service.{Service, Subscriber}
use Rattle.iox_machine.specs.SubscriberUpdate.{Parted}
use Rattle.iox_machine.specs.Table.{at}

ok_isn't : {A : Type 0} (failure : ZeroCopyCreationError) (outcome : Result (Unit {0}) ZeroCopyCreationError) → outcome ≡ Ok tt
    → outcome ≡ Err failure → A
ok_isn't failure outcome is also = absurd (wrong is also)
  where
    wrong : outcome ≡ Ok tt → outcome ≡ Err failure → ⊥
    wrong is also = cc

same_error : (one other : ZeroCopyCreationError) (outcome : Result (Unit {0}) ZeroCopyCreationError) → outcome ≡ Err one
    → outcome ≡ Err other → one ≡ other
same_error one other outcome is also = cc

and_no : (b : Bool) → (b && false) ≡ false
and_no true = refl
and_no false = refl

or_no : (b : Bool) → (b || false) ≡ b
or_no true = refl
or_no false = refl

below_next : (place other : ℕ) → other ≢ place → nat_lt other (place + 1) ≡ nat_lt other place
below_next place other off = by (nat_lt other place) refl
  where
    by : (below : Bool) → nat_lt other place ≡ below → nat_lt other (place + 1) ≡ below
    by true is = lt-ltb other (place + 1) (omega (arith, ltb-true other place is))
    by false is = le-ltb other (place + 1) (omega (arith, ltb-false other place is, off))

not_itself : (place : ℕ) → nat_lt place place ≡ false
not_itself place = le-ltb place place (omega arith)

now_below : (place : ℕ) → nat_lt place (place + 1) ≡ true
now_below place = lt-ltb place (place + 1) (omega arith)

module _ {T U : Type 0} (names : Naming) (lent : List (ℕ × LentSlot)) (held : List (ℕ × Taken)) (buffer : ℕ) (old : ServicePorts T U)
    (service : Service T) (number : ℕ) (first : SubscriberPort) (was : Subscriber)
    (there : subscriber_of number old.subscribers ≡ Some first)
    (was_there : at (names.subscriber number) service.subscribers ≡ Some was)
    (was_is : SubscriberStandsFor names.publisher old.sizes.max_publishers old.sizes.expired_connections first was)
    (once : (other : ℕ) → how_often other (keys_of old.subscribers) ≤ 1) (begun : SubscriberPort)
    (start : Midway names lent held buffer old service number first was names.reader begun old.publishers service.mailboxes)
    (list_once : IsListOnce old.next_port old.publisher_list.places)
    (few : was.buffer_size ≤ old.sizes.subscriber_max_buffer_size) (was_stands : was.stands ≡ true) where
  abbrev pub At : (ℕ → Bool) → SubscriberPort → List (ℕ × PublisherPort T U) → Parted → Type 0
  At done port ports parted =
      Walked names lent held buffer old service number first was there was_there was_is once begun start list_once few was_stands done
      port ports
      parted

  abbrev pub was_at : ℕ → Option ℕ
  was_at = before names lent held buffer old service number first was there was_there was_is once begun start list_once few was_stands

  abbrev pub listed_at : ℕ → Option ℕ
  listed_at = listed names lent held buffer old service number first was there was_there was_is once begun start list_once few was_stands

  abbrev pub parts : Parted → ℕ → Parted
  parts = parts_from names lent held buffer old service number first was there was_there was_is once begun start list_once few was_stands

  -- why the connection at a place failed, if it did
  abbrev pub fails_at : SubscriberPort → ℕ → Option ZeroCopyCreationError
  fails_at port place = failure_at (listed_at place) (connected_at names.publisher port place)

  -- the places that list a publisher, below one; then all that do, and those below one that list none
  abbrev pub done_first : ℕ → ℕ → Bool
  done_first count place = nat_lt place count && is_some (listed_at place)

  abbrev pub done_then : ℕ → ℕ → Bool
  done_then count place = is_some (listed_at place) || nat_lt place count

  moved : (done then_done : ℕ → Bool) (port : SubscriberPort) (ports : List (ℕ × PublisherPort T U)) (parted : Parted)
      → ((place : ℕ) → then_done place ≡ done place) → At done port ports parted → At then_done port ports parted
  moved done then_done port ports parted same walked = record {
    reader = walked.reader;
    mailboxes = walked.mailboxes;
    refused = walked.refused;
    body = walked.body;
    along = along_same was_at listed_at done then_done (connected_at names.publisher port) parted.staying walked.refused same walked.along;
    again = again_same listed_at done then_done (connected_at names.publisher port) port.again same walked.again;
  }

  listed_none : (place : ℕ) → get_or old.publisher_list.places place None ≡ None → listed_at place ≡ None
  listed_none place none = ap (option_map (λ (m : Member PublisherEntry). names.publisher m.value.publisher)) none

  listed_some : (place : ℕ) (member : Member PublisherEntry) → get_or old.publisher_list.places place None ≡ Some member
      → listed_at place ≡ Some (names.publisher member.value.publisher)
  listed_some place member is = ap (option_map (λ (m : Member PublisherEntry). names.publisher m.value.publisher)) is

  module _ (may : DegradationInfo → DegradationAction → Type 0) (May : DegradationAction → Type 0)
      (acts : (info : DegradationInfo) (action : DegradationAction) → may info action → May action) (zipped : List Place)
      (zipped_at : (place : ℕ) → get_or zipped place (None, None) ≡ (was_at place, listed_at place))
      (zipped_long : length zipped ≡ old.sizes.max_publishers) where
    -- The effect of an update at the places that list a publisher.
    pub record WentFirst (new : SubscriberPort) (new_ports : List (ℕ × PublisherPort T U)) (parted : Parted) (from : ℕ)
        (found : Option ConnectionFailure) : Type 0 where
      pub after : Parted
      pub walked : At (done_then 0) new new_ports after
      pub folds : fold parts parted (leaving_first (drop from zipped)) ≡ after
      pub is_told : ToldBelow May (fails_at new) old.sizes.max_publishers found

    from_here : (from : ℕ) → from < old.sizes.max_publishers
        → drop from zipped ≡ (was_at from, listed_at from) ∷ drop (from + 1) zipped
    from_here from within =
        drop_more zipped from (None, None) (omega (arith, within, zipped_long))
        ∙ ap (λ (place : Place). place ∷ drop (from + 1) zipped) (zipped_at from)

    -- none of the places from one on lists a publisher
    none_further : (from : ℕ) (new : SubscriberPort) (new_ports : List (ℕ × PublisherPort T U)) (parted : Parted)
        (found : Option ConnectionFailure)
        → ((place : ℕ) → from ≤ place → listed_at place ≡ None) → from ≤ old.sizes.max_publishers
        → At (done_first from) new new_ports parted → ToldBelow May (fails_at new) from found → WentFirst new new_ports parted from found
    none_further from new new_ports parted found none few_places walked told_so = record {
      after = parted;
      walked = moved (done_first from) (done_then 0) new new_ports parted same walked;
      folds = ap (fold parts parted) (none_first (drop from zipped) (λ place.
          ap (λ (it : Place). it.1) (get_or-drop from zipped place (None, None) ∙ zipped_at (from + place))
          ∙ none (from + place) (omega arith)));
      is_told = record {
        passes = λ is place why below there. elim (cases_lt place from) [
          | inl lower ↦ told_so.passes is place why lower there
          | inr higher ↦ never_some why
              (sym (ap (λ l. failure_at l (connected_at names.publisher new place)) (none place higher)) ∙ there)
        ];
        tells = λ failure is. let it = told_so.tells failure is in
            (it.0, it.1, omega (arith, it.2, few_places), it.3, it.4, it.5, it.6);
      };
    }
      where
        same : (place : ℕ) → done_then 0 place ≡ done_first from place
        same place = elim (cases_lt place from) [
          | inl lower ↦
              ap (λ b. is_some (listed_at place) || b) (le-ltb place 0 (omega arith)) ∙ or_no (is_some (listed_at place))
              ∙ sym (ap (λ b. b && is_some (listed_at place)) (lt-ltb place from lower))
          | inr higher ↦
              ap (λ l. is_some l || nat_lt place 0) (none place higher) ∙ le-ltb place 0 (omega arith)
              ∙ sym (ap (λ l. nat_lt place from && is_some l) (none place higher) ∙ and_no (nat_lt place from))
        ]

    pub went_first : (items : List (Option (Member PublisherEntry))) (from : ℕ) (found after : Option ConnectionFailure)
        (port new : SubscriberPort) (ports new_ports : List (ℕ × PublisherPort T U)) (parted : Parted)
        → ((k : ℕ) → get_or old.publisher_list.places (from + k) None ≡ get_or items k None)
        → from + length items ≤ old.sizes.max_publishers → At (done_first from) port ports parted → ToldBelow May (fails_at port) from found
        → FollowsFrom may from items found port ports after new new_ports → WentFirst new new_ports parted from after
    went_first [] from found after port new ports new_ports parted same few_places walked told_so follows =
        subst (λ one. WentFirst one new_ports parted from after) (sym follows.1)
        (subst (λ all. WentFirst port all parted from after) (sym follows.2)
        (none_further from port ports parted after
        (λ place higher. listed_none place
        (ap (λ n. get_or old.publisher_list.places n None) (omega (arith, higher)) ∙ same (place - from)))
        (omega (arith, few_places)) walked
        (subst (λ one. ToldBelow May (fails_at port) from one) (sym follows.0) told_so)))
    went_first (None ∷ items) from found after port new ports new_ports parted same few_places walked told_so
        (outcome, next, next_ports, then_found, one, asks, further) =
        let none : listed_at from ≡ None =
        listed_none from (ap (λ n. get_or old.publisher_list.places n None) (omega arith) ∙ same 0) in
        let rest = went_first items (from + 1) then_found after port new ports new_ports parted
        (λ k. ap (λ n. get_or old.publisher_list.places n None) (omega arith) ∙ same (suc k)) (omega (arith, few_places))
        (moved (done_first from) (done_first (from + 1)) port ports parted (λ place. elim (cases_eq place from) [
          | inl own ↦
              ap (λ n. nat_lt n (from + 1) && is_some (listed_at n)) own ∙ ap (λ l. nat_lt from (from + 1) && is_some l) none
              ∙ and_no (nat_lt from (from + 1))
              ∙ sym (ap (λ n. nat_lt n from && is_some (listed_at n)) own ∙ ap (λ l. nat_lt from from && is_some l) none
              ∙ and_no (nat_lt from from))
          | inr off ↦ ap (λ b. b && is_some (listed_at place)) (below_next from place off)
        ]) walked)
        (subst (λ one. ToldBelow May (fails_at port) (from + 1) one) (sym asks)
        (told_past May (fails_at port) (fails_at port) from (λ place off. refl) found
        (ap (λ l. failure_at l (connected_at names.publisher port from)) none) told_so))
        (subst (λ one. FollowsFrom may (from + 1) items then_found one ports after new new_ports) one.1
        (subst (λ all. FollowsFrom may (from + 1) items then_found next all after new new_ports) one.2 further)) in
        record {
          after = rest.after;
          walked = rest.walked;
          folds = ap (λ all. fold parts parted (leaving_first all)) (from_here from (omega (arith, few_places)))
              ∙ ap (λ l. fold parts parted (leaving_first ((was_at from, l) ∷ drop (from + 1) zipped))) none ∙ rest.folds;
          is_told = rest.is_told;
        }
    went_first (Some member ∷ items) from found after port new ports new_ports parted same few_places walked told_so
        (outcome, next, next_ports, then_found, one, asks, further) =
        let is_listed : get_or old.publisher_list.places from None ≡ Some member =
        ap (λ n. get_or old.publisher_list.places n None) (omega arith) ∙ same 0 in
        let here = listed_some from member is_listed in
        let stepped = step_listed names lent held buffer old service number first was there was_there was_is once begun start list_once few
        was_stands (done_first from) (done_first (from + 1)) port ports parted walked from
        (ap (λ b. b && is_some (listed_at from)) (not_itself from))
        (ap (λ b. b && is_some (listed_at from)) (now_below from) ∙ ap is_some here)
        (λ other off. ap (λ b. b && is_some (listed_at other)) (below_next from other off))
        member is_listed (omega (arith, few_places)) outcome next next_ports one in
        let same_fails : (place : ℕ) → place ≢ from → fails_at next place ≡ fails_at port place =
        λ place off. ap (failure_at (listed_at place)) (stepped.others place off) in
        let told_then = asked next outcome (fails_at next from) refl stepped.fails same_fails asks in
        let rest = went_first items (from + 1) then_found after next new next_ports new_ports stepped.after
        (λ k. ap (λ n. get_or old.publisher_list.places n None) (omega arith) ∙ same (suc k)) (omega (arith, few_places)) stepped.walked
        told_then further in
        record {
          after = rest.after;
          walked = rest.walked;
          folds = ap (λ all. fold parts parted (leaving_first all)) (from_here from (omega (arith, few_places)))
              ∙ stepped.folds (drop (from + 1) zipped) ∙ rest.folds;
          is_told = rest.is_told;
        }
      where
        -- what is told so far
        asked : (next : SubscriberPort) (outcome : Result (Unit {0}) ZeroCopyCreationError) (fails : Option ZeroCopyCreationError)
            → fails_at next from ≡ fails → outcome ≡ outcome_of (fails_at next from)
            → ((place : ℕ) → place ≢ from → fails_at next place ≡ fails_at port place)
            → AsksOf may (Some member) next found outcome then_found → ToldBelow May (fails_at next) (from + 1) then_found
        asked next (Ok tt) None is is_outcome same_fails asks =
            subst (λ one. ToldBelow May (fails_at next) (from + 1) one) (sym asks)
            (told_past May (fails_at port) (fails_at next) from same_fails found is told_so)
        asked next (Ok tt) (Some failure) is is_outcome same_fails asks = ok_isn't failure (Ok tt) refl (is_outcome ∙ ap outcome_of is)
        asked next (Err why) None is is_outcome same_fails asks = ok_isn't why (Err why) (is_outcome ∙ ap outcome_of is) refl
        asked next (Err why) (Some failure) is is_outcome same_fails (action, may_so, is_found) =
            let same_why : why ≡ failure = same_error why failure (Err why) refl (is_outcome ∙ ap outcome_of is) in
            subst (λ one. ToldBelow May (fails_at next) (from + 1) one) (sym is_found)
            (told_here May (fails_at port) (fails_at next) from same_fails found why (is ∙ ap (λ f. Some f) (sym same_why)) action
            (acts _ action may_so) told_so)

    -- The effect of an update at the places that list none.
    pub record WentThen (port new : SubscriberPort) (new_ports : List (ℕ × PublisherPort T U)) (parted : Parted) (from most : ℕ)
        : Type 0 where
      pub after : Parted
      pub walked : At (done_then most) new new_ports after
      pub folds : fold parts parted (leaving_then (drop from zipped)) ≡ after
      pub past : (place : ℕ) → most ≤ place → connected_at names.publisher new place ≡ None
      pub same_fails : (place : ℕ) → fails_at new place ≡ fails_at port place

    pub went_then : (count from most : ℕ) (items : List (Option (Member PublisherEntry))) (port new : SubscriberPort)
        (ports new_ports : List (ℕ × PublisherPort T U)) (parted : Parted)
        → ((k : ℕ) → get_or old.publisher_list.places k None ≡ get_or items k None) → from + count ≡ most → most ≤ old.sizes.max_publishers
        → ((place : ℕ) → most ≤ place → connected_at names.publisher port place ≡ None) → At (done_then from) port ports parted
        → FollowsNones items from count port ports new new_ports → WentThen port new new_ports parted from most
    went_then zero from most items port new ports new_ports parted same is_most few_places past walked (is_new, is_ports) =
        subst (λ one. WentThen port one new_ports parted from most) (sym is_new)
        (subst (λ all. WentThen port port all parted from most) (sym is_ports) (record {
          after = parted;
          walked = subst (λ n. At (done_then n) port ports parted) own walked;
          folds = ap (fold parts parted) (none_then (drop from zipped) (λ place. none_there (from + place)
              (get_or-drop from zipped place (None, None) ∙ zipped_at (from + place)) (omega (arith, own)) (listed_at (from + place))
              refl));
          past = past;
          same_fails = λ place. refl;
        }))
      where
        own : from ≡ most
        own = omega (arith, is_most)

        none_there : (place : ℕ) {it : Place} → it ≡ (was_at place, listed_at place) → most ≤ place → (found : Option ℕ)
            → listed_at place ≡ found → (is_some it.1 ≡ true) ⊎ (it.0 ≡ None)
        none_there place is higher (Some port_there) found = inl (ap (λ (p : Place). is_some p.1) is ∙ ap is_some found)
        none_there place is higher None found = inr (ap (λ (p : Place). p.0) is
            ∙ sym (walked.along.rest place (ap (λ l. is_some l || nat_lt place from) found
            ∙ le-ltb place from (omega (arith, own, higher))))
            ∙ past place higher)
    went_then (suc count) from most items port new ports new_ports parted same is_most few_places past walked
        (next, next_ports, one, further) =
        by (get_or old.publisher_list.places from None) refl (subst (λ b. FollowsNoneIf b from port ports next next_ports)
        (sym (ap is_some (same from))) one)
        (λ mid mid_ports then_parted then_past then_walked then_further. went_then count (from + 1) most items mid new mid_ports new_ports
        then_parted same (omega (arith, is_most)) few_places then_past then_walked then_further)
      where
        within : from < old.sizes.max_publishers
        within = omega (arith, is_most, few_places)

        by : (found : Option (Member PublisherEntry)) → get_or old.publisher_list.places from None ≡ found
            → FollowsNoneIf (is_some (get_or old.publisher_list.places from None)) from port ports next next_ports
            → ((mid : SubscriberPort) (mid_ports : List (ℕ × PublisherPort T U)) (then_parted : Parted)
            → ((place : ℕ) → most ≤ place → connected_at names.publisher mid place ≡ None)
            → At (done_then (from + 1)) mid mid_ports then_parted
            → FollowsNones items (from + 1) count mid mid_ports new new_ports → WentThen mid new new_ports then_parted (from + 1) most)
            → WentThen port new new_ports parted from most
        by (Some member) is one go =
            let here = listed_some from member is in
            let stays : (next ≡ port) × (next_ports ≡ ports) =
            subst (λ found. FollowsNoneIf (is_some found) from port ports next next_ports) is one in
            let rest = go port ports parted past
            (moved (done_then from) (done_then (from + 1)) port ports parted (λ place. elim (cases_eq place from) [
              | inl own ↦ ap (λ n. is_some (listed_at n) || nat_lt n (from + 1)) own ∙ ap (λ l. is_some l || nat_lt from (from + 1)) here
                  ∙ sym (ap (λ n. is_some (listed_at n) || nat_lt n from) own ∙ ap (λ l. is_some l || nat_lt from from) here)
              | inr off ↦ ap (λ b. is_some (listed_at place) || b) (below_next from place off)
            ]) walked)
            (subst (λ one. FollowsNones items (from + 1) count one ports new new_ports) stays.0
            (subst (λ all. FollowsNones items (from + 1) count next all new new_ports) stays.1 further)) in
            record {
              after = rest.after;
              walked = rest.walked;
              folds = ap (λ all. fold parts parted (leaving_then all)) (from_here from within)
                  ∙ ap (λ l. fold parts parted (leaving_then ((was_at from, l) ∷ drop (from + 1) zipped))) here ∙ rest.folds;
              past = rest.past;
              same_fails = rest.same_fails;
            }
        by None is one go =
            let none = listed_none from is in
            let stepped = step_unlisted names lent held buffer old service number first was there was_there was_is once begun start
            list_once
            few was_stands (done_then from) (done_then (from + 1)) port ports parted walked from
            (ap (λ l. is_some l || nat_lt from from) none ∙ not_itself from)
            (ap (λ l. is_some l || nat_lt from (from + 1)) none ∙ now_below from)
            (λ other off. ap (λ b. is_some (listed_at other) || b) (below_next from other off))
            is next next_ports (subst (λ found. FollowsNoneIf (is_some found) from port ports next next_ports) is one) in
            let same_step : (place : ℕ) → fails_at next place ≡ fails_at port place = λ place. elim (cases_eq place from) [
              | inl own ↦ ap (fails_at next) own ∙ ap (λ l. failure_at l (connected_at names.publisher next from)) none
                  ∙ sym (ap (fails_at port) own ∙ ap (λ l. failure_at l (connected_at names.publisher port from)) none)
              | inr off ↦ ap (failure_at (listed_at place)) (stepped.others place off)
            ] in
            let rest = go next next_ports stepped.after
            (λ place higher. stepped.others place (λ own. absurd (omega (arith, own, higher, is_most))) ∙ past place higher)
            stepped.walked further in
            record {
              after = rest.after;
              walked = rest.walked;
              folds = ap (λ all. fold parts parted (leaving_then all)) (from_here from within)
                  ∙ stepped.folds (drop (from + 1) zipped) ∙ rest.folds;
              past = rest.past;
              same_fails = λ place. rest.same_fails place ∙ same_step place;
            }
