-- What a port knows of the samples that it has loaded stays, whatever it accesses.
use Rattle.std.proofs.Common.{ℕ, ◌≡◌, ◌+◌, ◌<◌, ◌≤◌, true, List, length, slice_get, Option, None, Some, get_or}
use Rattle.std.proofs.Common.{refl, sym, ◌∙◌, ap, subst, inl, inr, arith}
use Rattle.std.proofs.lemmas.Bool.{cases_lt}
use Rattle.std.proofs.lemmas.List.{get_or_past}
use Rattle.iox_lanes_machine.specs.QueuesSteps.declared.access.Access.{Access}
use Rattle.iox_lanes_machine.specs.QueuesSteps.declared.access.Access.TheVariants as own
use Rattle.iox_lanes_machine.specs.LanesBase.Numbers.{number_of, words_of, IsWord}
use Rattle.iox_lanes_machine.specs.LanesBase.Subscribing.{word_at, subscriber_next}
use Rattle.iox_lanes_machine.specs.LanesBase.Words.{on_ring}
use Rattle.iox_lanes_machine.specs.LanesBase.declared.calls.subscriber.SlotExtent.{SlotExtent}
use Rattle.iox_lanes_machine.specs.LanesBase.declared.calls.subscriber.SubscriberCall.{SubscriberCall}
use Rattle.iox_lanes_machine.specs.LanesBase.declared.calls.subscriber.SubscriberCall.TheVariants as subscribing
use Rattle.iox_lanes_machine.specs.LanesBase.declared.words.access.SharedAccess.{SharedAccess}
use Rattle.iox_lanes_machine.specs.LanesBase.declared.words.access.SharedAccess.TheVariants.{Load, Store, Exchange, Local}
use Rattle.iox_lanes_machine.specs.LanesBase.declared.words.word.ConnectionRing.{ConnectionRing}
use Rattle.iox_lanes_machine.specs.LanesBase.declared.words.word.SharedWord.{SharedWord}
use Rattle.iox_lanes_machine.specs.LanesBase.declared.words.word.SharedWord.TheVariants.{Ring, Slot}
use Rattle.iox_lanes_machine.specs.LanesBase.declared.words.word.SlotWord.{SlotWord}
use Rattle.iox_lanes_machine.specs.LanesParties.Parties.{SubscriberLaneState, is_borrowed, place_of, subscriber_after}
use Rattle.iox_lanes_machine.specs.LanesParties.Within.{IsExtent, IsSubscriber}
use Rattle.iox_lanes_machine.proofs.LanesParties.SubscribersWithin.{subscribers_stay_within}
use Rattle.iox_lanes_threads_rule.specs.Acts.{stepped, ToldBy, MayAct}
use Rattle.iox_lanes_threads_rule.specs.Lanes.{IsEarly, as_table}
use Rattle.iox_lanes_threads_rule.specs.Rule.{held}
use Rattle.iox_lanes_threads_rule.specs.Steps.{known_exchanged}
use Rattle.iox_lanes_threads_rule.specs.declared.service.Service.{Service}
use Rattle.iox_lanes_threads_rule.specs.declared.view.Port.{Port}
use Rattle.iox_lanes_threads_rule.specs.declared.view.PortParty.{PortParty}
use Rattle.iox_lanes_threads_rule.proofs.Again.{loads_give_the_known}
use Rattle.iox_lanes_threads_rule.proofs.Held as held_words
use Rattle.iox_lanes_threads_rule.proofs.Seen.{exchanged_else}
use Rattle.iox_lanes_threads_ports.specs.Courses.{subscriber_party, subscriber_stepped, SubscriberGoes}
use Rattle.iox_lanes_threads_ports.specs.Courses.SubscriberGoes.{stays, goes}
use Rattle.iox_lanes_threads_ports.specs.Ends.{knows}
use Rattle.iox_lanes_threads_ports.specs.Known.{ListsRead}
use Rattle.iox_lanes_threads_ports.specs.OneValue.{IsAnsweredEarly, AreAnsweredEarly, HasThroughout, ReadsGiveOneValue}
use Rattle.iox_lanes_threads_ports.specs.Ports.{SubscriberStands}
use Rattle.iox_lanes_threads_ports.proofs.KnownReads.{word_in}
use Rattle.iox_lanes_threads_ports.proofs.Listing.{listed_words_stay}
use Rattle.iox_lanes_threads_ports.proofs.PublisherSteps.{step_same}
use Rattle.iox_lanes_threads_ports.proofs.SubscriberSteps as subscribers

-- the access stores no word of a slot
abbrev LeavesSlots : SharedAccess → Type 0
LeavesSlots (Load w) = Unit {0}
LeavesSlots (Store (Ring connection ring word) new) = Unit {0}
LeavesSlots (Store (Slot slot word) new) = ⊥
LeavesSlots (Exchange w old new) = Unit {0}
LeavesSlots Local = Unit {0}

on_ring_leaves : (connection : ℕ) (ring : ConnectionRing) (cells : ℕ) (access : Access) → LeavesSlots (on_ring connection ring cells access)
on_ring_leaves connection ring cells (own.Load word) = tt
on_ring_leaves connection ring cells (own.Store word value) = tt
on_ring_leaves connection ring cells (own.Exchange word old new) = tt
on_ring_leaves connection ring cells own.Local = tt

-- a subscriber stores none
subscriber_leaves : (c : SubscriberCall) → LeavesSlots (subscriber_next c)
subscriber_leaves subscribing.Idle = tt
subscriber_leaves (subscribing.Receiving place route pop waits) = on_ring_leaves route.connection _ route.submission_cells _
subscriber_leaves (subscribing.Received receipt) = tt
subscriber_leaves (subscribing.Reading slot word extent) = tt
subscriber_leaves (subscribing.WasRead slot) = tt
subscriber_leaves (subscribing.Releasing place route push) = on_ring_leaves route.connection _ route.completion_cells _
subscriber_leaves (subscribing.Released done) = tt

-- a load of a word of the slot, by what is said of any load
early_at : (slot : ℕ) (q : Port) (v : SharedWord) (n : ℕ) (told : ToldBy q (Load v) n) (word : SlotWord)
    → IsAnsweredEarly slot q (Load v) n told → Slot slot word ≡ v → IsEarly (as_table q.service told.1.words)
early_at slot q (Ring connection ring at) n told word early same = absurd (cc same)
early_at slot q (Slot other at) n told word early same = early (cc same)

-- what a port knows of a listed word of a slot stays after an access
known_stays : (q : Port) (access : SharedAccess) (n : ℕ) (after : ℕ → PortParty) (slot : ℕ) (word : SlotWord) (place : ℕ)
    → length q.known ≡ words_of q.service.sizes → IsWord q.service.sizes (Slot slot word) → MayAct q access → LeavesSlots access
    → (told : ToldBy q access n) → IsAnsweredEarly slot q access n told → slice_get q.seen place ≡ Some (Slot slot word)
    → knows (stepped q access n after) (Slot slot word) ≡ knows q (Slot slot word)
known_stays q (Load v) n after slot word place wide is may leaves told early seen =
    elim (held_words.word_at q.service q.known v (Slot slot word) n wide may is) [
      | inl same ↦
          same.1 ∙ sym (loads_give_the_known q v n place told.1 (early_at slot q v n told word early same.0)
          (seen ∙ ap (λ (w : SharedWord). Some w) same.0))
          ∙ sym (ap (λ (w : SharedWord). held q.service q.known w) same.0)
      | inr other ↦ other.1
    ]
known_stays q (Store (Ring connection ring at) new) n after slot word place wide is may leaves told early seen =
    held_words.at_other q.service q.known (Ring connection ring at) (Slot slot word) new may.word is (λ e. cc e)
known_stays q (Store (Slot other at) new) n after slot word place wide is may leaves told early seen = absurd leaves
known_stays q (Exchange v old new) n after slot word place wide is may leaves told early seen =
    subst (λ (w : SharedWord). held q.service (known_exchanged q.name q.known (number_of q.service.sizes w) old new n) (Slot slot word)
    ≡ held q.service q.known (Slot slot word)) (sym may.word)
    (exchanged_else q.service q.name q.known may.connection may.line old new n slot word may.ring is)
known_stays q Local n after slot word place wide is may leaves told early seen = refl

sample_below : (samples : List (Option ℕ)) (sample slots : ℕ) → is_borrowed (get_or samples sample None) ≡ true → length samples ≤ slots
    → sample < slots
sample_below samples sample slots h within = elim (cases_lt sample (length samples)) [
  | inl less ↦ omega (arith, less, within)
  | inr past ↦ absurd (cc (sym h ∙ ap is_borrowed (get_or_past samples sample None past)))
]

abbrev total : SlotExtent → ℕ
total extent = 3 + extent.user_header_words + extent.payload_words

-- a port after some steps, beside the one before them
pub record GoesOnKnowing (p q : Port) (now : SubscriberLaneState) (extent : SlotExtent) (sample : ℕ) : Type 0 where
  stands : SubscriberStands q now
  pub service : q.service ≡ p.service
  pub lists : ListsRead q extent sample
  pub known : (k : ℕ) → k < total extent → knows q (Slot sample (word_at extent k)) ≡ knows p (Slot sample (word_at extent k))

one_on : (p q : Port) (now : SubscriberLaneState) (extent : SlotExtent) (sample n : ℕ) → IsExtent p.service.sizes extent
    → GoesOnKnowing p q now extent sample → (told : ToldBy q (subscriber_next now.port.call) n)
    → is_borrowed (place_of sample (subscriber_after n now)) ≡ true → IsAnsweredEarly sample q (subscriber_next now.port.call) n told
    → GoesOnKnowing p (subscriber_stepped q now n) (subscriber_after n now) extent sample
one_on p q now extent sample n fits was told has early =
    let within : IsSubscriber q.service.sizes (subscriber_after n now)
    = (subscribers_stay_within q.service.sizes now was.stands.within).1 n in
    let own : IsExtent q.service.sizes extent = subst (λ (s : Service). IsExtent s.sizes extent) (sym was.service) fits in
    let below : sample < q.service.sizes.slots = sample_below (subscriber_after n now).port.samples sample q.service.sizes.slots has
    within.slots in
    record {
      stands = subscribers.goes_on q now was.stands n told;
      service = (step_same q (subscriber_next now.port.call) n (subscriber_party now)).service ∙ was.service;
      lists = λ k less. listed_words_stay q (subscriber_next now.port.call) n (was.lists k less).0 (subscriber_party now)
          (Slot sample (word_at extent k)) (was.lists k less).1 has;
      known = λ k less. known_stays q (subscriber_next now.port.call) n (subscriber_party now) sample (word_at extent k)
          (was.lists k less).0 was.stands.wide (below, word_in q.service.sizes extent k own less)
          (subscribers.may_act q now was.stands) (subscriber_leaves now.port.call) told early (was.lists k less).1 ∙ was.known k less;
    }

pub goes_on_knowing : (p : Port) (lane : SubscriberLaneState) (q : Port) (now : SubscriberLaneState) (steps : SubscriberGoes p lane q now)
    (extent : SlotExtent) (sample : ℕ) → SubscriberStands p lane → IsExtent p.service.sizes extent → HasThroughout sample steps
    → AreAnsweredEarly sample steps → ListsRead p extent sample → GoesOnKnowing p q now extent sample
goes_on_knowing p lane _ _ stays extent sample stands fits has early lists
    = record { stands = stands; service = refl; lists = lists; known = λ k less. refl }
goes_on_knowing p lane _ _ (goes q now n before told) extent sample stands fits has early lists =
    one_on p q now extent sample n fits (goes_on_knowing p lane q now before extent sample stands fits has.0 early.0 lists) told has.1
    early.1

pub reads_give_one_value : ReadsGiveOneValue
reads_give_one_value p lane q now steps extent sample lent stands fits has early lists knew =
    let on = goes_on_knowing p lane q now steps extent sample stands fits has early lists in (
      on.lists,
      (λ k within less. on.known k less ∙ knew k within less),
      (λ again k knows_again less short within. sym (knows_again k within less) ∙ on.known k less ∙ knew k short less),
    )
