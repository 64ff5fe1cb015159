-- A read gives the message that was sent in its slot.
use Rattle.std.proofs.Common.{ℕ, ◌≡◌, ◌<◌, ◌≤◌, ◌^◌, ◌⊎◌, Bool, true, false, List, [], ◌∷◌, ◌++◌, length, slice_get, Option, Some, None}
use Rattle.std.proofs.Common.{refl, sym, ◌∙◌, ap, subst, inl, inr, arith}
use Rattle.std.proofs.lemmas.Option.{slice_get_within}
use Rattle.iox_lanes_machine.specs.QueuesSteps.Access.{successor}
use Rattle.iox_lanes_machine.specs.LanesBase.Publishing.{publisher_is_idle}
use Rattle.iox_lanes_machine.specs.LanesBase.declared.calls.publisher.PublisherCall.{PublisherCall}
use Rattle.iox_lanes_machine.specs.LanesBase.declared.calls.publisher.PublisherCall.TheVariants as publishing
use Rattle.iox_lanes_machine.specs.LanesParties.Parties.{PublisherLaneState}
use Rattle.iox_lanes_machine.specs.LanesParties.declared.call.Call.{Call}
use Rattle.iox_lanes_machine.specs.LanesParties.declared.call.Call.TheVariants as call
use Rattle.iox_lanes_machine.specs.LanesParties.declared.call.Entry.{Entry}
use Rattle.iox_lanes_machine.specs.LanesParties.declared.call.Move.{Move}
use Rattle.iox_lanes_machine.specs.LanesParties.declared.call.Move.TheVariants.{Begin, GoOn}
use Rattle.iox_lanes_machine.specs.LanesParties.declared.call.Party.{Party}
use Rattle.iox_lanes_machine.specs.LanesParties.declared.call.Party.TheVariants.{Publisher, Subscriber}
use Rattle.iox_lanes_machine.specs.LedgerUses.{one_if, refers_to}
use Rattle.iox_lanes_machine.proofs.LanesParties.Rings.{all_at}
use Rattle.iox_lanes_machine.specs.Alone.{IsRemembered, IsAtConnection}
use Rattle.iox_lanes_machine.specs.Held.{slot_held}
use Rattle.iox_lanes_machine.specs.Kept.{IsKept}
use Rattle.iox_lanes_machine.specs.Resting.{AllBetween}
use Rattle.iox_lanes_machine.specs.Slots.{IsLoanAt}
use Rattle.iox_lanes_machine.specs.World.{World, fits, happens, ends, publisher_fits_at}
use Rattle.iox_lanes_machine.proofs.Held.{reads_whole}
use Rattle.iox_lanes_machine.proofs.Paces.{came_kept}
use Rattle.iox_lanes_machine.proofs.Steps.{happens_moments}
use Rattle.iox_lanes_machine.proofs.Connected.{sends_connected}
use Rattle.iox_lanes_machine.proofs.SubscriberUses.{recorded}
use Rattle.iox_lanes_machine.proofs.Told.{steps_told}
use Rattle.iox_lanes_machine.proofs.Whole.{step_made, happens_keeps}
use Rattle.iox_lanes_laws.specs.Messages.{MessageState, message_of, sent_by, begun_messages, last_in}
use Rattle.iox_lanes_laws.specs.WholeMessages.{SendsThrough, ReadsGiveWhatWasSent, UsedSlotsSendNothing}
use Rattle.iox_lanes_laws.proofs.MessagesBooks.{IsUsed}
use Rattle.iox_lanes_laws.proofs.Stages.{sending}
use Rattle.iox_lanes_laws.proofs.Words.{Holds, IsSent, holds_held, held_is, last_append}
use Rattle.iox_lanes_laws.proofs.Lanes.{LaneSent, AllSent, used_no_loan, begun_loan}
use Rattle.iox_lanes_laws.proofs.Sent.{step_sent}

pub idle_sends : (c : PublisherCall) → publisher_is_idle c ≡ true → sending c ≡ None
idle_sends publishing.Idle h = refl
idle_sends (publishing.LoanReclaims place route p) h = absurd (cc h)
idle_sends publishing.Lending h = absurd (cc h)
idle_sends (publishing.Writing slot word value) h = absurd (cc h)
idle_sends (publishing.Written slot) h = absurd (cc h)
idle_sends (publishing.Heading slot word value) h = absurd (cc h)
idle_sends (publishing.Remembering slot) h = absurd (cc h)
idle_sends (publishing.SendReclaims slot place route p) h = absurd (cc h)
idle_sends (publishing.Pushing slot place route p delivery) h = absurd (cc h)
idle_sends (publishing.Sent slot delivery) h = absurd (cc h)
idle_sends (publishing.Dropping slot) h = absurd (cc h)

-- where nobody is inside a call, each slot has what it holds
at_first : (m : World) → AllBetween m → AllSent m (slot_held m.table)
at_first m between = λ place lane found. record {
  stage = λ slot at. absurd (cc (sym (idle_sends lane.port.call
      (all_at (λ (x : PublisherLaneState). publisher_is_idle x.port.call ≡ true) m.publishers place lane found between.publishers)) ∙ at));
  used = λ slot at. holds_held m.table slot;
}

pub up : (n : ℕ) → n < 2 ^ 63 → n ≤ successor n
up n h = omega arith

pub few_before : (n k : ℕ) → successor n ≤ k → k ≤ 2 ^ 63 → n < 2 ^ 63
few_before n k h g = omega arith

-- of the steps that are left, how many were made
pub grows : (m : World) (entries : List Entry) (messages : List MessageState) (n : World) → SendsThrough m entries messages n
    → n.moments ≤ 2 ^ 63 → m.moments ≤ n.moments
grows m [] messages n h few = subst (λ (x : World). m.moments ≤ x.moments) (sym h.1) (omega arith)
grows m (entry ∷ entries) messages n (inl h) few = grows m entries messages n h.1 few
grows m (entry ∷ entries) messages n (inr h) few =
    let rest = grows (happens m entry.party entry.step) entries (h.1).0 n (h.1).2 few in
    let next = happens_moments m entry.party entry.step h.0 in
    let bound : m.moments < 2 ^ 63 = few_before m.moments n.moments (omega (arith, next, rest)) few in
    omega (arith, rest, next, up m.moments bound)

through : (m : World) (sent : ℕ → List ℕ) (entries : List Entry) (messages : List MessageState) (n : World)
    → SendsThrough m entries messages n → n.moments ≤ 2 ^ 63 → IsKept m → AllSent m sent → IsKept n
    × AllSent n (λ slot. last_in (sent slot) messages slot)
through m sent [] messages n h few k all =
    subst (λ (x : World). IsKept x × AllSent x (λ slot. last_in (sent slot) messages slot)) (sym h.1)
    (subst (λ (ms : List MessageState). IsKept m × AllSent m (λ slot. last_in (sent slot) ms slot)) (sym h.0) (k, all))
through m sent (entry ∷ entries) messages n (inl h) few k all = through m sent entries messages n h.1 few k all
through m sent (entry ∷ entries) messages n (inr h) few k all =
    let begun = begun_messages m entry.party entry.step in
    let next = happens_moments m entry.party entry.step h.0 in
    let rest = grows (happens m entry.party entry.step) entries (h.1).0 n (h.1).2 few in
    let bound : m.moments < 2 ^ 63 = few_before m.moments n.moments (omega (arith, next, rest)) few in
    let end = through (happens m entry.party entry.step) (λ slot. last_in (sent slot) begun slot) entries (h.1).0 n (h.1).2 few
    (happens_keeps m entry.party entry.step h.0 k) (step_sent m sent entry.party entry.step h.0 k (omega (arith, bound)) all) in (
      end.0,
      λ place lane found. same_sent n lane (λ slot. last_in (last_in (sent slot) begun slot) (h.1).0 slot)
          (λ slot. last_in (sent slot) messages slot)
          (λ slot. ap (λ (ms : List MessageState). last_in (sent slot) ms slot) (h.1).1 ∙ last_append (sent slot) begun (h.1).0 slot)
          (end.1 place lane found),
    )
  where
    same_sent : (n : World) (lane : PublisherLaneState) (one other : ℕ → List ℕ) → ((slot : ℕ) → other slot ≡ one slot)
        → LaneSent n.table one lane → LaneSent n.table other lane
    same_sent n lane one other same h = record {
      stage = λ slot at. subst (λ (words : List ℕ). IsSent n.table words lane.port.head slot) (sym (same slot)) (h.stage slot at);
      used = λ slot at. subst (Holds n.table slot) (sym (same slot)) (h.used slot at);
    }

-- a slot that stands at a connection is used by its publisher
has_it : (b : Bool) (n : ℕ) → n ≡ one_if b → 0 < n → b ≡ true
has_it true n e some = refl
has_it false n e some = absurd (omega (arith, e, some))

record UsedBy (m : World) (slot : ℕ) : Type 0 where
  place : ℕ
  lane : PublisherLaneState
  found : slice_get m.publishers place ≡ Some lane
  used : IsUsed (length lane.port.routes) lane.port.book slot

connection_used : (m : World) (slot : ℕ) → IsKept m → m.moments ≤ 2 ^ 63 → IsAtConnection m slot → UsedBy m slot
connection_used m slot k few at =
    let r = recorded m at.connection at.link at.order at.found at.got (sends_connected m (k.sends few)) (k.uses few) slot in
    record {
      place = (at.link).publisher;
      lane = r.lane;
      found = r.found;
      used = inr (
        r.place,
        slice_get_within (r.lane).port.routes r.place r.route r.at,
        has_it (refers_to (r.lane).port.book r.place slot)
            _ r.is at.has,
      );
    }

slot_used : (m : World) (slot : ℕ) → IsKept m → m.moments ≤ 2 ^ 63 → IsRemembered m slot ⊎ IsAtConnection m slot → UsedBy m slot
slot_used m slot k few (inl history) = record { place = history.place; lane = history.lane; found = history.found; used = inl history.has }
slot_used m slot k few (inr at) = connection_used m slot k few at

pub reads_give_what_was_sent : ReadsGiveWhatWasSent
reads_give_what_was_sent m came between entries sent n steps few party step call slot fit more is =
    let end = through m (slot_held m.table) entries sent n steps few (came_kept m came).0 (at_first m between) in
    let k : IsKept n = end.0 in
    let made = step_made n party step fit (ends n party step) refl in
    let got = reads_whole n party step made.0 (happens n party step) made.1
    (steps_told n party step made.0 (happens n party step) made.1) k.within k.uses k.reads k.calls k.held few call slot more is in
    let u = connection_used n slot k few got.1 in
    got.0 ∙ ap (λ (ws : List ℕ). n.read ++ ws)
    (held_is n.table slot (last_in (slot_held m.table slot) sent slot) ((end.1 u.place u.lane u.found).used slot u.used))

-- a message that begins is a loan of its publisher
begun_is : (m : World) (place : ℕ) (c : Call) (at : Option PublisherLaneState) (message : MessageState)
    → slice_get m.publishers place ≡ at → publisher_fits_at at (Begin c) ≡ true → sent_by m place c at ≡ message ∷ []
    → IsLoanAt m place message.slot
begun_is m place c None message e fit h = absurd (cc h)
begun_is m place call.LoanUninit (Some lane) message e fit h = absurd (cc h)
begun_is m place (call.Write loan payload user_header) (Some lane) message e fit h = absurd (cc h)
begun_is m place (call.Send loan) (Some lane) message e fit h =
    let same : message_of m.table m.moments place loan lane ≡ message = cc h in
    subst (λ (x : MessageState). IsLoanAt m place x.slot) same (begun_loan m place loan lane e fit)
begun_is m place (call.DropLoan loan) (Some lane) message e fit h = absurd (cc h)
begun_is m place call.Receive (Some lane) message e fit h = absurd (cc h)
begun_is m place (call.Read sample) (Some lane) message e fit h = absurd (cc h)
begun_is m place (call.Release sample) (Some lane) message e fit h = absurd (cc h)

pub kept_sends_nothing : (m : World) → IsKept m → m.moments ≤ 2 ^ 63 → (slot : ℕ) → IsRemembered m slot ⊎ IsAtConnection m slot
    → (party : Party) (step : Move) (message : MessageState) → fits m party step ≡ true → begun_messages m party step ≡ message ∷ []
    → message.slot ≡ slot → ⊥
kept_sends_nothing m k few slot used (Publisher place) (Begin c) message fit h same =
    let u = slot_used m slot k few used in
    used_no_loan m u.place place u.lane slot u.found k.loans (k.uses few) u.used
    (subst (IsLoanAt m place) same (begun_is m place c (slice_get m.publishers place) message refl fit h))
kept_sends_nothing m k few slot used (Publisher place) GoOn message fit h same = absurd (cc h)
kept_sends_nothing m k few slot used (Subscriber place) step message fit h same = absurd (cc h)

pub used_slots_send_nothing : UsedSlotsSendNothing
used_slots_send_nothing m came few slot used party step message fit h same
    = kept_sends_nothing m (came_kept m came).0 few slot used party step message fit h same
