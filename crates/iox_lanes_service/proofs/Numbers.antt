-- What a call that no other call overlaps leaves of the numbers in headers, and of the last numbers of publishers.
use Rattle.std.proofs.Common.{ℕ, zero, suc, ◌≡◌, ◌-◌, ◌<◌, ◌≤◌, ◌^◌, Bool, true, false, nat_lt, if◌then◌else◌, List, length}
use Rattle.std.proofs.Common.{get_or, slice_get, Option, Some, None, refl, sym, ◌∙◌, ap, subst, arith}
use Rattle.iox_lanes_machine.specs.QueuesSteps.Access.{successor}
use Rattle.iox_lanes_machine.specs.LanesBase.Publishing.{publisher_is_over, publisher_next}
use Rattle.iox_lanes_machine.specs.LanesBase.Table.{TableWords, after_shared}
use Rattle.iox_lanes_machine.specs.LanesBase.declared.calls.publisher.PublisherCall.{PublisherCall}
use Rattle.iox_lanes_machine.specs.LanesBase.declared.calls.publisher.PublisherCall.TheVariants as publishing
use Rattle.iox_lanes_machine.specs.LanesBase.declared.words.sizes.TableSizes.{TableSizes}
use Rattle.iox_lanes_machine.specs.LanesBase.declared.words.word.SharedWord.TheVariants.{Slot}
use Rattle.iox_lanes_machine.specs.LanesBase.declared.words.word.SlotWord.TheVariants.{Header, UserHeader}
use Rattle.iox_lanes_machine.specs.LanesParties.Parties.{PublisherLaneState, kept_head, name_of, publisher_begun}
use Rattle.iox_lanes_machine.specs.LanesParties.Sequences.{number_after, with_number}
use Rattle.iox_lanes_machine.specs.LanesParties.Within.{IsPublisher}
use Rattle.iox_lanes_machine.specs.LanesParties.declared.call.Call.{Call}
use Rattle.iox_lanes_machine.specs.LanesParties.declared.call.Call.TheVariants as call
use Rattle.iox_lanes_machine.specs.LanesParties.declared.call.CallName.{CallName}
use Rattle.iox_lanes_machine.specs.LanesParties.declared.call.CallName.TheVariants as name
use Rattle.iox_lanes_machine.specs.LanesParties.declared.call.Move.TheVariants.{Begin, GoOn}
use Rattle.iox_lanes_machine.specs.LanesParties.declared.call.Party.{Party}
use Rattle.iox_lanes_machine.specs.LanesParties.declared.call.Party.TheVariants.{Publisher, Subscriber}
use Rattle.iox_lanes_machine.proofs.LanesParties.Rings.{all_at}
use Rattle.iox_lanes_machine.specs.Apart.{MayChange, access_of, publisher_access}
use Rattle.iox_lanes_machine.specs.Calls.{IsStageOf}
use Rattle.iox_lanes_machine.specs.Kept.{IsKept}
use Rattle.iox_lanes_machine.specs.Left.{StoresHeld, HoldsAllHead}
use Rattle.iox_lanes_machine.specs.QueuesSteps.declared.schedule.Stepped.TheVariants as stepped
use Rattle.iox_lanes_machine.specs.Told.{BegunCall, begun, call_of, publisher_call}
use Rattle.iox_lanes_machine.specs.World.{World, fits, ends, happens, publisher_fits_at, publisher_ends_at}
use Rattle.iox_lanes_machine.proofs.Apart.{steps_apart}
use Rattle.iox_lanes_machine.proofs.Ends.{some_is}
use Rattle.iox_lanes_machine.proofs.Paces.{came_kept}
use Rattle.iox_lanes_machine.proofs.ReturnSteps.{happens_ends}
use Rattle.iox_lanes_machine.proofs.Slots.{ring_touches, slots_stay}
use Rattle.iox_lanes_machine.proofs.Steps.{happens_moments}
use Rattle.iox_lanes_machine.proofs.Told.{steps_told}
use Rattle.iox_lanes_machine.proofs.Whole.{happens_keeps, step_made}
use Rattle.iox_lanes_machine.proofs.Within.{set_same}
use Rattle.iox_lanes_laws.specs.Turns.{GoesToEnd, IsInTurn}
use Rattle.iox_lanes_laws.proofs.Publishers as publishers
use Rattle.iox_lanes_laws.proofs.Publishers.{next_lane}
use Rattle.iox_lanes_laws.proofs.SequenceRuns.{fourth}
use Rattle.iox_lanes_service.specs.Naming.{number_held, slot_sequence}

-- only a send stores the word of a number, in its own slot
only_sends : (called : CallName) (c : PublisherCall) (slot : ℕ) → IsStageOf called c
    → MayChange (publisher_next c) (Slot slot (UserHeader 0)) → called ≡ name.Send slot
only_sends called publishing.Idle slot stage t = absurd t
only_sends called (publishing.LoanReclaims place route p) slot stage t = absurd (ring_touches _ _ _ _ slot (UserHeader 0) t)
only_sends called publishing.Lending slot stage t = absurd t
only_sends called (publishing.Writing own at value) slot stage t = absurd (cc t)
only_sends called (publishing.Written own) slot stage t = absurd t
only_sends called (publishing.Heading own at value) slot stage t = stage ∙ ap (λ (s : ℕ). name.Send s) (same (nat_lt at 3) t)
  where
    same : (b : Bool) → Slot slot (UserHeader 0) ≡ Slot own (if b then Header at else UserHeader (at - 3)) → own ≡ slot
    same true e = absurd (cc e)
    same false e = cc e
only_sends called (publishing.Remembering own) slot stage t = absurd t
only_sends called (publishing.SendReclaims own place route p) slot stage t = absurd (ring_touches _ _ _ _ slot (UserHeader 0) t)
only_sends called (publishing.Pushing own place route p delivery) slot stage t = absurd (ring_touches _ _ _ _ slot (UserHeader 0) t)
only_sends called (publishing.Sent own delivery) slot stage t = absurd t
only_sends called (publishing.Dropping own) slot stage t = absurd t

-- the call that a publisher began last has a name
asked_of : (m : World) (place : ℕ) (lane : PublisherLaneState) (at : BegunCall) → slice_get m.publishers place ≡ Some lane
    → call_of m (Publisher place) ≡ Some at → lane.call ≡ at.call
asked_of m place lane at found e =
    ap (λ (c : BegunCall). c.call)
    (some_is (begun lane.call lane.first) at (sym (ap publisher_call found) ∙ e))

-- what a step of a publisher may change of numbers
touches : (m : World) (place : ℕ) (at : BegunCall) (slot : ℕ) → IsKept m → m.moments ≤ 2 ^ 63
    → fits m (Publisher place) GoOn ≡ true → call_of m (Publisher place) ≡ Some at
    → MayChange (access_of m (Publisher place) GoOn) (Slot slot (UserHeader 0)) → at.call ≡ name.Send slot
touches m place at slot k few fit e t = by_lane (slice_get m.publishers place) refl fit t
  where
    by_lane : (o : Option PublisherLaneState) → slice_get m.publishers place ≡ o → publisher_fits_at o GoOn ≡ true
        → MayChange (publisher_access o) (Slot slot (UserHeader 0)) → at.call ≡ name.Send slot
    by_lane None found fit t = absurd (cc fit)
    by_lane (Some lane) found fit t =
        sym (asked_of m place lane at found e)
        ∙ only_sends lane.call lane.port.call slot ((k.calls few).publishers place lane found).0 t

-- a begin leaves all numbers
begin_number : (m : World) (party : Party) (c : Call) (slot : ℕ) → IsKept m → fits m party (Begin c) ≡ true
    → slot < m.table.sizes.slots → 1 ≤ m.table.sizes.user_header_words
    → number_held (happens m party (Begin c)).table slot ≡ number_held m.table slot
begin_number m party c slot k fit there wide =
    let made = step_made m party (Begin c) fit (ends m party (Begin c)) refl in
    let apart = steps_apart m party (Begin c) made.0 (happens m party (Begin c)) made.1 k.within in
    apart.words (Slot slot (UserHeader 0)) (there, wide) (λ t. t)

-- and so does each step inside a call that doesn't send the slot
step_number : (m : World) (party : Party) (at : BegunCall) (slot : ℕ) → IsKept m → m.moments ≤ 2 ^ 63
    → fits m party GoOn ≡ true → call_of m party ≡ Some at → slot < m.table.sizes.slots → 1 ≤ m.table.sizes.user_header_words
    → (at.call ≡ name.Send slot → ⊥)
    → number_held (happens m party GoOn).table slot ≡ number_held m.table slot
step_number m (Publisher place) at slot k few fit e there wide not =
    let made = step_made m (Publisher place) GoOn fit (ends m (Publisher place) GoOn) refl in
    let apart = steps_apart m (Publisher place) GoOn made.0 (happens m (Publisher place) GoOn) made.1 k.within in
    apart.words (Slot slot (UserHeader 0)) (there, wide) (λ t. not (touches m place at slot k few fit e t))
step_number m (Subscriber place) at slot k few fit e there wide not =
    let made = step_made m (Subscriber place) GoOn fit (ends m (Subscriber place) GoOn) refl in
    let apart = steps_apart m (Subscriber place) GoOn made.0 (happens m (Subscriber place) GoOn) made.1 k.within in
    slots_stay m (Subscriber place) GoOn made.0 (happens m (Subscriber place) GoOn) k.loans apart slot (UserHeader 0) (there, wide)
    (λ none. none)

-- moments only grow
rises_to : (party : Party) (more : ℕ) (k n : World) → GoesToEnd party more k n → n.moments ≤ 2 ^ 63 → k.moments < n.moments
rises_to party zero k n h few =
    let next : n.moments ≡ successor k.moments = ap (λ (w : World). w.moments) h.2 ∙ happens_moments k party GoOn h.0 in
    omega (arith, next, few)
rises_to party (suc more) k n h few =
    let next : (h.0).moments ≡ successor k.moments
    = ap (λ (w : World). w.moments) (h.1).2 ∙ happens_moments k party GoOn (h.1).0 in
    omega (arith, next, rises_to party more h.0 n h.2 few, few)

pub turn_rises : (m n : World) (party : Party) (c : Call) → IsInTurn m party c n → m.moments < n.moments
turn_rises m n party c t =
    let next : (t.begun).moments ≡ successor m.moments
    = ap (λ (w : World). w.moments) t.begins.2 ∙ happens_moments m party (Begin c) t.begins.0 in
    omega (arith, next, rises_to party t.more t.begun n t.goes t.few, t.few)

-- so the rest of a call leaves them
rest_number : (party : Party) (more : ℕ) (k n : World) (at : BegunCall) (slot : ℕ) → IsKept k → GoesToEnd party more k n
    → n.moments ≤ 2 ^ 63 → call_of k party ≡ Some at → slot < k.table.sizes.slots → 1 ≤ k.table.sizes.user_header_words
    → (at.call ≡ name.Send slot → ⊥) → number_held n.table slot ≡ number_held k.table slot
rest_number party zero k n at slot kept h few e there wide not =
    ap (λ (w : World). number_held w.table slot) h.2
    ∙ step_number k party at slot kept (omega (arith, rises_to party zero k n h few, few)) h.0 e there wide not
rest_number party (suc more) k n at slot kept h few e there wide not =
    let next = happens k party GoOn in
    let same : h.0 ≡ next = (h.1).2 in
    let goes = subst (λ (w : World). GoesToEnd party more w n) same h.2 in
    let few_first : k.moments ≤ 2 ^ 63 = omega (arith, rises_to party (suc more) k n h few, few) in
    let sizes = (happens_ends k party GoOn (h.1).0 kept.returns).sizes in
    let told = steps_told k party GoOn stepped.Went next ((h.1).0, (h.1).1, refl) in
    rest_number party more next n at slot (happens_keeps k party GoOn (h.1).0 kept) goes few (told.0 ∙ e)
    (subst (λ (s : TableSizes). slot < s.slots) (sym sizes) there)
    (subst (λ (s : TableSizes). 1 ≤ s.user_header_words) (sym sizes) wide) not
    ∙ step_number k party at slot kept few_first (h.1).0 e there wide not

-- a slot of the service has the number that it had, unless the call sends just this slot
pub numbers_stay_in_turn : (m n : World) (party : Party) (c : Call) → IsInTurn m party c n → (slot : ℕ) → slot < m.table.sizes.slots
    → 1 ≤ m.table.sizes.user_header_words → (name_of c ≡ name.Send slot → ⊥) → number_held n.table slot ≡ number_held m.table slot
numbers_stay_in_turn m n party c t slot there wide not =
    let kept = (came_kept m t.came).0 in
    let fit = t.begins.0 in
    let next = happens m party (Begin c) in
    let goes = subst (λ (w : World). GoesToEnd party t.more w n) t.begins.2 t.goes in
    let told = steps_told m party (Begin c) stepped.Went next (t.begins.0, t.begins.1, refl) in
    let sizes = (happens_ends m party (Begin c) fit kept.returns).sizes in
    rest_number party t.more next n (begun (name_of c) m.moments) slot (happens_keeps m party (Begin c) fit kept) goes t.few told.0
    (subst (λ (s : TableSizes). slot < s.slots) (sym sizes) there)
    (subst (λ (s : TableSizes). 1 ≤ s.user_header_words) (sym sizes) wide) not
    ∙ begin_number m party c slot kept fit there wide

-- the number that a publisher gave last once it has made this call
abbrev pub last_behind : CallName → Option ℕ → Option ℕ
last_behind name.LoanUninit last = last
last_behind (name.Write slot) last = last
last_behind (name.Send slot) last = number_after last
last_behind (name.DropLoan slot) last = last
last_behind name.Receive last = last
last_behind (name.Read slot) last = last
last_behind (name.Release slot) last = last

begun_last : (moment : ℕ) (c : Call) (lane : PublisherLaneState) → (publisher_begun moment c lane).last ≡ last_behind (name_of c) lane.last
begun_last moment call.LoanUninit lane = refl
begun_last moment (call.Write slot payload user_header) lane = refl
begun_last moment (call.Send slot) lane = refl
begun_last moment (call.DropLoan slot) lane = refl
begun_last moment call.Receive lane = refl
begun_last moment (call.Read slot) lane = refl
begun_last moment (call.Release slot) lane = refl

-- a publisher's last step of a call: it gave the last number, and stores the words of its header, as it did at the first one
record LastOf (n : World) (place : ℕ) (from : World) (at_first : PublisherLaneState) : Type 0 where
  k : World
  lane : PublisherLaneState
  kept : IsKept k
  found : slice_get k.publishers place ≡ Some lane
  few : k.moments ≤ 2 ^ 63
  over : publisher_is_over lane.port.call ≡ true
  now : n ≡ happens k (Publisher place) GoOn
  sizes : k.table.sizes ≡ from.table.sizes
  head : lane.port.head ≡ at_first.port.head
  asked : lane.call ≡ at_first.call
  last : lane.last ≡ at_first.last

next_found : (k : World) (place : ℕ) (lane : PublisherLaneState) → slice_get k.publishers place ≡ Some lane
    → slice_get (happens k (Publisher place) GoOn).publishers place ≡ Some (next_lane k lane)
next_found k place lane found =
    ap (λ (w : World). slice_get w.publishers place) (publishers.goes_is k place lane found)
    ∙ set_same k.publishers place (next_lane k lane) lane found

last_of : (place more : ℕ) (k n : World) (lane : PublisherLaneState) → IsKept k → slice_get k.publishers place ≡ Some lane
    → GoesToEnd (Publisher place) more k n → n.moments ≤ 2 ^ 63 → LastOf n place k lane
last_of place zero k n lane kept found h few = record {
  k = k;
  lane = lane;
  kept = kept;
  found = found;
  few = let rises = rises_to (Publisher place) zero k n h few in omega (arith, rises, few);
  over = sym (ap publisher_ends_at found) ∙ h.1;
  now = h.2;
  sizes = refl;
  head = refl;
  asked = refl;
  last = refl;
}
last_of place (suc more) k n lane kept found h few =
    let goes = subst (λ (w : World). GoesToEnd (Publisher place) more w n) (h.1).2 h.2 in
    let rest = last_of place more (happens k (Publisher place) GoOn) n (next_lane k lane)
    (happens_keeps k (Publisher place) GoOn (h.1).0 kept) (next_found k place lane found) goes few in
    record {
      k = rest.k;
      lane = rest.lane;
      kept = rest.kept;
      found = rest.found;
      few = rest.few;
      over = rest.over;
      now = rest.now;
      sizes = rest.sizes ∙ (happens_ends k (Publisher place) GoOn (h.1).0 kept.returns).sizes;
      head = rest.head;
      asked = rest.asked;
      last = rest.last;
    }

begun_found : (m : World) (place : ℕ) (c : Call) (before : PublisherLaneState) → slice_get m.publishers place ≡ Some before
    → slice_get (happens m (Publisher place) (Begin c)).publishers place ≡ Some (publisher_begun m.moments c before)
begun_found m place c before found =
    ap (λ (w : World). slice_get w.publishers place) (publishers.begins_is m place c before found)
    ∙ set_same m.publishers place (publisher_begun m.moments c before) before found

last_in_turn : (m n : World) (place : ℕ) (c : Call) (before : PublisherLaneState) → IsInTurn m (Publisher place) c n
    → slice_get m.publishers place ≡ Some before
    → LastOf n place (happens m (Publisher place) (Begin c)) (publisher_begun m.moments c before)
last_in_turn m n place c before t found =
    last_of place t.more (happens m (Publisher place) (Begin c)) n (publisher_begun m.moments c before)
    (happens_keeps m (Publisher place) (Begin c) t.begins.0 (came_kept m t.came).0) (begun_found m place c before found)
    (subst (λ (w : World). GoesToEnd (Publisher place) t.more w n) t.begins.2 t.goes) t.few

-- a publisher gave the same number last, or the next one if the call is a send
pub lasts_in_turn : (m n : World) (place : ℕ) (c : Call) (before after : PublisherLaneState) → IsInTurn m (Publisher place) c n
    → slice_get m.publishers place ≡ Some before → slice_get n.publishers place ≡ Some after
    → after.last ≡ last_behind (name_of c) before.last
lasts_in_turn m n place c before after t found now =
    let end = last_in_turn m n place c before t found in
    let is : after ≡ next_lane end.k end.lane =
    some_is after (next_lane end.k end.lane)
    (sym now ∙ ap (λ (w : World). slice_get w.publishers place) end.now ∙ next_found end.k place end.lane end.found) in
    ap (λ (l : PublisherLaneState). l.last) is ∙ end.last ∙ begun_last m.moments c before

sent_stage : (slot : ℕ) (c : PublisherCall) → publisher_is_over c ≡ true → IsStageOf (name.Send slot) c → (table : TableWords)
    (sends : Bool) (payload head : List ℕ) → StoresHeld table sends payload head c
    → (after_shared table (publisher_next c) ≡ table) × HoldsAllHead table slot head
sent_stage slot publishing.Idle over h table sends payload head is = absurd (cc over)
sent_stage slot (publishing.LoanReclaims place route p) over h table sends payload head is = absurd (cc over)
sent_stage slot publishing.Lending over h table sends payload head is = absurd (cc h)
sent_stage slot (publishing.Writing own word value) over h table sends payload head is = absurd (cc over)
sent_stage slot (publishing.Written own) over h table sends payload head is = absurd (cc h)
sent_stage slot (publishing.Heading own word value) over h table sends payload head is = absurd (cc over)
sent_stage slot (publishing.Remembering own) over h table sends payload head is = absurd (cc over)
sent_stage slot (publishing.SendReclaims own place route p) over h table sends payload head is = absurd (cc over)
sent_stage slot (publishing.Pushing own place route p delivery) over h table sends payload head is = absurd (cc over)
sent_stage slot (publishing.Sent own delivery) over h table sends payload head is =
    (refl, subst (λ (s : ℕ). HoldsAllHead table s head) (same h) is)
  where
    same : name.Send slot ≡ name.Send own → own ≡ slot
    same e = cc e
sent_stage slot (publishing.Dropping own) over h table sends payload head is = absurd (cc h)

-- a slot that was sent has the number after the one that its publisher gave last
pub sent_in_turn : (m n : World) (place slot : ℕ) (c : Call) (before : PublisherLaneState) → IsInTurn m (Publisher place) c n
    → slice_get m.publishers place ≡ Some before → name_of c ≡ name.Send slot → 1 ≤ m.table.sizes.user_header_words → (last : ℕ)
    → before.last ≡ Some last → number_held n.table slot ≡ successor last
sent_in_turn m n place slot call.LoanUninit before t found asked wide last is = absurd (cc asked)
sent_in_turn m n place slot (call.Write other payload user_header) before t found asked wide last is = absurd (cc asked)
sent_in_turn m n place slot (call.DropLoan other) before t found asked wide last is = absurd (cc asked)
sent_in_turn m n place slot call.Receive before t found asked wide last is = absurd (cc asked)
sent_in_turn m n place slot (call.Read other) before t found asked wide last is = absurd (cc asked)
sent_in_turn m n place slot (call.Release other) before t found asked wide last is = absurd (cc asked)
sent_in_turn m n place slot (call.Send loan) before t found asked wide last is =
    let c : Call = call.Send loan in
    let kept = (came_kept m t.came).0 in
    let end = last_in_turn m n place c before t found in
    let stage = sent_stage slot (end.lane).port.call end.over
    (subst (λ (called : CallName). IsStageOf called (end.lane).port.call) (end.asked ∙ asked)
    ((end.kept.calls end.few).publishers place end.lane end.found).0)
    (end.k).table (end.lane).port.sends (end.lane).port.payload (end.lane).port.head ((end.kept.left end.few) place end.lane end.found) in
    let sizes : (end.k).table.sizes ≡ m.table.sizes
    = end.sizes ∙ (happens_ends m (Publisher place) (Begin c) t.begins.0 kept.returns).sizes in
    let wide_then : 1 ≤ (end.k).table.sizes.user_header_words
    = subst (λ (s : TableSizes). 1 ≤ s.user_header_words) (sym sizes) wide in
    let numbered : (end.lane).port.head ≡ with_number (Some (successor last)) (kept_head loan before)
    = end.head ∙ ap (λ (o : Option ℕ). with_number (number_after o) (kept_head loan before)) is in
    let lane : IsPublisher (end.k).table.sizes end.lane
    = all_at (IsPublisher (end.k).table.sizes) (end.k).publishers place end.lane end.found end.kept.within.publishers in
    let long : 4 ≤ length (with_number (Some (successor last)) (kept_head loan before))
    = omega (arith, wide_then, lane.head, ap (λ (words : List ℕ). length words) numbered) in
    ap (λ (w : World). number_held w.table slot) (end.now ∙ publishers.goes_is end.k place end.lane end.found)
    ∙ ap (λ (table : TableWords). number_held table slot) stage.0
    ∙ sym (stage.1 3 (omega (arith, wide_then)))
    ∙ ap (λ (words : List ℕ). get_or words 3 0) numbered
    ∙ fourth (successor last) (kept_head loan before) long

-- the number in a slot stays where the word does
pub same_sequence : (numbered : Bool) (m n : World) (slot : ℕ) → (numbered ≡ true → number_held n.table slot ≡ number_held m.table slot)
    → slot_sequence numbered n.table slot ≡ slot_sequence numbered m.table slot
same_sequence true m n slot same = ap Some (same refl)
same_sequence false m n slot same = refl
