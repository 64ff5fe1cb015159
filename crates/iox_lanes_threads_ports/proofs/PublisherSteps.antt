-- A publisher stands where its port knows what the next step needs, from one step to the next.
use Rattle.std.proofs.Common.{ℕ, ◌≡◌, ◌+◌, ◌-◌, ◌<◌, ◌≤◌, ◌==◌, ◌&&◌, Bool, true, false, if◌then◌else◌, nat_lt, List, length, length-set}
use Rattle.std.proofs.Common.{set, get_or, slice_get, Option, Some, None, refl, sym, ◌∙◌, ap, subst, inl, inr, arith}
use Rattle.std.proofs.lemmas.Bool.{cases_lt, ltb-false}
use Rattle.std.proofs.lemmas.List.{get_or_past}
use Rattle.std.specs.List.{All}
use Rattle.iox_lanes_machine.specs.QueuesSteps.Access.{successor}
use Rattle.iox_lanes_machine.specs.QueuesSteps.declared.order.PushAnswer.{PushAnswer}
use Rattle.iox_lanes_machine.specs.QueuesSteps.declared.order.PopAnswer.{PopAnswer}
use Rattle.iox_lanes_machine.specs.QueuesSteps.declared.order.PopAnswer.TheVariants.{Got, Saw}
use Rattle.iox_lanes_machine.specs.QueuesSteps.Refusing as refusing
use Rattle.iox_lanes_machine.specs.QueuesSteps.declared.rings.refusing.pop.Pop as refusing_pop_type
use Rattle.iox_lanes_machine.specs.QueuesSteps.Ends.{push_begun, push_next, push_take}
use Rattle.iox_lanes_machine.specs.QueuesSteps.declared.rings.ends.RingKind.{RingKind}
use Rattle.iox_lanes_machine.specs.QueuesSteps.declared.rings.ends.RingKind.TheVariants as kind
use Rattle.iox_lanes_machine.specs.QueuesSteps.declared.rings.ends.Push.{Push}
use Rattle.iox_lanes_machine.specs.QueuesSteps.declared.rings.ends.Push.TheVariants as ring_push
use Rattle.iox_lanes_machine.specs.LanesBase.Numbers.{number_of, words_of}
use Rattle.iox_lanes_machine.specs.LanesBase.Table.{IsOfTable}
use Rattle.iox_lanes_machine.specs.LanesBase.Words.{on_ring}
use Rattle.iox_lanes_machine.specs.LanesBase.declared.words.access.SharedAccess.{SharedAccess}
use Rattle.iox_lanes_machine.specs.LanesBase.declared.words.access.SharedAccess.TheVariants.{Load, Store, Exchange, Local}
use Rattle.iox_lanes_machine.specs.LanesBase.declared.words.word.ConnectionRing.TheVariants.{Submission, Completion}
use Rattle.iox_lanes_machine.specs.LanesBase.Answers.{refusing_pop_answer, push_answer}
use Rattle.iox_lanes_machine.specs.LanesBase.Publishing.{publisher_is_idle, publisher_next, publisher_take, publisher_change, loan_from}
use Rattle.iox_lanes_machine.specs.LanesBase.Publishing.{loan_reclaimed, write_from, head_from, push_from, sweep_from, send_reclaimed}
use Rattle.iox_lanes_machine.specs.LanesBase.Publishing.{pushed, counted, nothing_sent}
use Rattle.iox_lanes_machine.specs.LanesBase.declared.calls.publisher.Delivery.{Delivery}
use Rattle.iox_lanes_machine.specs.LanesBase.declared.calls.publisher.PublisherCall.{PublisherCall}
use Rattle.iox_lanes_machine.specs.LanesBase.declared.calls.publisher.PublisherCall.TheVariants as publishing
use Rattle.iox_lanes_machine.specs.LanesBase.declared.calls.publisher.PublisherChange.{PublisherChange}
use Rattle.iox_lanes_machine.specs.LanesBase.declared.calls.publisher.PublisherChange.TheVariants as change
use Rattle.iox_lanes_machine.specs.LanesBase.declared.calls.route.Route.{Route}
use Rattle.iox_lanes_machine.specs.LanesParties.PublisherKeeping.{BookState, changed, put_at, lent_from, first_free, dropped, loan_of}
use Rattle.iox_lanes_machine.specs.LanesParties.PublisherKeeping.{newest_of, unlent}
use Rattle.iox_lanes_machine.specs.LanesParties.Publishers.{words_of as call_words}
use Rattle.iox_lanes_machine.specs.LanesParties.declared.publisher.slot_book.LoanMark.{LoanMark}
use Rattle.iox_lanes_machine.specs.LanesParties.declared.publisher.slot_book.LoanMark.TheVariants as mark
use Rattle.iox_lanes_machine.specs.LanesParties.Parties.{PublisherLaneState, is_out, is_written, publisher_may, publisher_fits}
use Rattle.iox_lanes_machine.specs.LanesParties.Parties.{publisher_begun, publisher_after, head_of}
use Rattle.iox_lanes_machine.specs.LanesParties.Within.{IsAt, IsPublishing, IsPublisher, IsRoute}
use Rattle.iox_lanes_machine.specs.LanesParties.declared.call.Call.{Call}
use Rattle.iox_lanes_machine.specs.LanesParties.declared.call.Call.TheVariants as call
use Rattle.iox_lanes_machine.specs.LanesParties.declared.call.Move.TheVariants.{Begin}
use Rattle.iox_lanes_machine.specs.LanesParties.declared.call.Party.{Party}
use Rattle.iox_lanes_machine.specs.LanesParties.declared.call.Party.TheVariants.{Publisher, Subscriber}
use Rattle.iox_lanes_machine.proofs.LanesParties.Rings.{and_left, and_right, all_at}
use Rattle.iox_lanes_machine.proofs.LanesParties.PublishersWithin.{publishers_stay_within}
use Rattle.iox_lanes_threads_rule.specs.Service.{IsSender, HasSlot}
use Rattle.iox_lanes_threads_rule.specs.Rule.{Overflows}
use Rattle.iox_lanes_threads_rule.specs.Steps.{known_lost}
use Rattle.iox_lanes_threads_rule.specs.Acts.{stepped, MayAct, ToldBy}
use Rattle.iox_lanes_threads_rule.specs.declared.service.Line.{Line}
use Rattle.iox_lanes_threads_rule.specs.declared.service.Service.{Service}
use Rattle.iox_lanes_threads_rule.specs.declared.view.Port.{Port}
use Rattle.iox_lanes_threads_rule.specs.declared.view.PortParty.{PortParty}
use Rattle.iox_lanes_threads_ports.specs.Courses.{publisher_party, publisher_stepped}
use Rattle.iox_lanes_threads_ports.specs.Ends.{NamesSlot, LonePop, PushKnows}
use Rattle.iox_lanes_threads_ports.specs.Ports.{sender_of, EachOnce, IsEnd, IsOwnSlot, back_read, PublisherKnows, PublisherStands}
use Rattle.iox_lanes_threads_ports.specs.Ports.{PublishersGoOn}
use Rattle.iox_lanes_threads_ports.proofs.Rings.{lone_pop_may, lone_push_may, over_push_may, lone_pop_goes, lone_push_goes, over_push_goes}
use Rattle.iox_lanes_threads_ports.proofs.Coming.{publisher_came, publisher_began}

-- the connection's publisher
sends : (at : Option Line) (line : Line) (name : Party) → at ≡ Some line → name ≡ sender_of line → IsSender at name
sends None line name e own = absurd (cc e)
sends (Some other) line name e own = let same : other ≡ line = cc e in own ∙ ap sender_of (sym same)

pub is_sender : (s : Service) (name : Party) (route : Route) → IsEnd s sender_of name route
    → IsSender (slice_get s.lines route.connection) name
is_sender s name route end = sends (slice_get s.lines route.connection) end.line name end.found end.own

overflows : (s : Service) (name : Party) (route : Route) (end : IsEnd s sender_of name route) → IsRoute s.sizes route
    → route.kind ≡ kind.Overflowing → Overflows s route.connection end.line
overflows s name route end is k = record { there = is.connection; found = end.found; kind = sym end.kind ∙ k }

module _ (p : Port) (lane : PublisherLaneState) (stands : PublisherStands p lane) where
  pub end_at : (place : ℕ) (route : Route) → IsAt lane.port.routes place route → IsEnd p.service sender_of p.name route
  end_at place route at = all_at (IsEnd p.service sender_of p.name) lane.port.routes place route at stands.routes

  pub route_at : (place : ℕ) (route : Route) → IsAt lane.port.routes place route → IsRoute p.service.sizes route
  route_at place route at = all_at (IsRoute p.service.sizes) lane.port.routes place route at stands.within.routes

  has_slot : (slot : ℕ) → IsOwnSlot lane.port.book slot → HasSlot p.service p.name slot
  has_slot slot own = subst (λ (name : Party). HasSlot p.service name slot) (sym stands.name)
      (stands.range, stands.found, omega (arith, own.0, stands.first), omega (arith, own.1, stands.first, stands.count))

  names_slot : (slot : ℕ) → IsOwnSlot lane.port.book slot → NamesSlot p slot
  names_slot slot own = λ some_slot. omega (arith, own.1, stands.within.slots)

  push_may : (place : ℕ) (route : Route) (push : Push) → IsAt lane.port.routes place route → PushKnows p route push
      → IsOfTable p.service.sizes (on_ring route.connection Submission route.submission_cells (push_next push))
      → MayAct p (on_ring route.connection Submission route.submission_cells (push_next push))
  push_may place route (ring_push.Overflowing push) at k is =
      let end = end_at place route at in
      let sender = is_sender p.service p.name route end in
      over_push_may p route.connection end.line route.submission_cells push
      (overflows p.service p.name route end (route_at place route at) k.0) end.own sender (λ cell. sender) k.1 is
  push_may place route (ring_push.Refusing push) at k is =
      let sender = is_sender p.service p.name route (end_at place route at) in
      lone_push_may p route.connection Submission route.submission_cells push sender (λ cell. sender) k is

  may_at : (c : PublisherCall) → IsPublishing p.service.sizes lane.port.routes (call_words lane.port) c
      → PublisherKnows p lane.port.book c → IsOfTable p.service.sizes (publisher_next c) → MayAct p (publisher_next c)
  may_at publishing.Idle within k is = tt
  may_at (publishing.LoanReclaims place route pop) within k is
      = lone_pop_may p route.connection Completion route.completion_cells pop
      (is_sender p.service p.name route (end_at place route within)) k is
  may_at publishing.Lending within k is = tt
  may_at (publishing.Writing slot word value) within k is
      = record { word = is; own = has_slot slot k; grows = λ position. absurd position; cell = λ cell some_slot. absurd cell }
  may_at (publishing.Written slot) within k is = tt
  may_at (publishing.Heading slot word value) within k is
      = record { word = is; own = has_slot slot k; grows = λ position. absurd position; cell = λ cell some_slot. absurd cell }
  may_at (publishing.Remembering slot) within k is = tt
  may_at (publishing.SendReclaims slot place route pop) within k is
      = lone_pop_may p route.connection Completion route.completion_cells pop
      (is_sender p.service p.name route (end_at place route within)) k.1 is
  may_at (publishing.Pushing slot place route push delivery) within k is = push_may place route push within k.1 is
  may_at (publishing.Sent slot delivery) within k is = tt
  may_at (publishing.Dropping slot) within k is = tt

  pub of_table : IsOfTable p.service.sizes (publisher_next lane.port.call)
  of_table = (publishers_stay_within p.service.sizes lane stands.within).2

  pub may_act : MayAct p (publisher_next lane.port.call)
  may_act = may_at lane.port.call stands.within.call stands.knows of_table

-- what stays of a port at each step
pub record SamePort (p q : Port) : Type 0 where
  pub name : q.name ≡ p.name
  pub service : q.service ≡ p.service
  pub wide : length q.known ≡ length p.known

-- a publisher's slots stay
pub record SameSlots (book now : BookState) : Type 0 where
  pub first : now.first ≡ book.first
  loans : length now.loans ≡ length book.loans

put_at_length : {X : Type 0} (xs : List X) (at : ℕ) (x : X) → length (put_at xs at x) ≡ length xs
put_at_length {X} xs at x = by_test (nat_lt at (length xs))
  where
    by_test : (b : Bool) → length (if b then set xs at x else xs) ≡ length xs
    by_test true = length-set xs at x
    by_test false = refl

either_slots : (book one other : BookState) (test : Bool) → SameSlots book one → SameSlots book other
    → SameSlots book (if test then one else other)
either_slots book one other true h g = h
either_slots book one other false h g = g

lent_slots : (book : BookState) (at : Option ℕ) → SameSlots book (lent_from book at)
lent_slots book None = record { first = refl; loans = refl }
lent_slots book (Some index) = record { first = refl; loans = put_at_length book.loans index mark.Lent }

unlent_slots : (slot : ℕ) (book : BookState) → SameSlots book (unlent slot book)
unlent_slots slot book = record { first = refl; loans = put_at_length book.loans (slot - book.first) mark.No }

newest_slots : (slot : ℕ) (book before : BookState) → SameSlots before book → SameSlots before (newest_of slot book)
newest_slots slot book before h =
    either_slots before _ _ (nat_lt (length book.history) book.kept) (record { first = h.first; loans = h.loans })
    (record { first = h.first; loans = h.loans })

dropped_slots : (slot : ℕ) (book : BookState) → SameSlots book (dropped slot book)
dropped_slots slot book = record { first = refl; loans = put_at_length book.loans (slot - book.first) mark.No }

pub changed_slots : (c : PublisherChange) (book : BookState) → SameSlots book (changed c book)
changed_slots change.Nothing book = record { first = refl; loans = refl }
changed_slots change.Lend book = either_slots book _ _ (nat_lt book.out book.most_loans) (lent_slots book (first_free book.uses 0))
    (record { first = refl; loans = refl })
changed_slots (change.Mark slot) book = record { first = refl; loans = put_at_length book.loans (slot - book.first) mark.Written }
changed_slots (change.Remember slot) book
    = either_slots book _ _ (nat_lt 0 book.kept) (newest_slots slot (unlent slot book) book (unlent_slots slot book))
    (dropped_slots slot book)
changed_slots (change.TakenBack place slot) book = record { first = refl; loans = refl }
changed_slots (change.Put place slot) book = record { first = refl; loans = refl }
changed_slots (change.LeftOut place slot) book = record { first = refl; loans = refl }
changed_slots (change.DropLoan slot) book = dropped_slots slot book

own_stays : (book now : BookState) (slot : ℕ) → SameSlots book now → IsOwnSlot book slot → IsOwnSlot now slot
own_stays book now slot same own = (omega (arith, own.0, same.first), omega (arith, own.1, same.first, same.loans))

-- where a publisher begins to take back or to push, it knows what it needs
loan_knows : (q : Port) (book : BookState) (place : ℕ) (at : Option Route) → PublisherKnows q book (loan_from place at)
loan_knows q book place None = tt
loan_knows q book place (Some route) = tt

write_knows : (q : Port) (book : BookState) (slot word : ℕ) (at : Option ℕ) → IsOwnSlot book slot
    → PublisherKnows q book (write_from slot word at)
write_knows q book slot word None own = tt
write_knows q book slot word (Some value) own = own

head_knows : (q : Port) (book : BookState) (slot word : ℕ) (at : Option ℕ) → IsOwnSlot book slot
    → PublisherKnows q book (head_from slot word at)
head_knows q book slot word None own = own
head_knows q book slot word (Some value) own = own

begun_knows : (q : Port) (route : Route) (slot : ℕ) (k : RingKind) → route.kind ≡ k → 0 < route.limit → NamesSlot q slot
    → PushKnows q route (push_begun k route.limit slot)
begun_knows q route slot kind.Overflowing e room names = (e, (room, names))
begun_knows q route slot kind.Refusing e room names = names

push_knows : (q : Port) (book : BookState) (routes : List Route) (slot place : ℕ) (delivery : Delivery) (at : Option Route)
    → slice_get routes place ≡ at → All (IsEnd q.service sender_of q.name) routes → IsOwnSlot book slot → NamesSlot q slot
    → PublisherKnows q book (push_from slot place delivery at)
push_knows q book routes slot place delivery None e all own names = tt
push_knows q book routes slot place delivery (Some route) e all own names =
    (own, begun_knows q route slot route.kind refl (all_at (IsEnd q.service sender_of q.name) routes place route e all).room names)

sweep_knows : (q : Port) (book : BookState) (routes : List Route) (slot place : ℕ) (at : Option Route)
    → All (IsEnd q.service sender_of q.name) routes → IsOwnSlot book slot → NamesSlot q slot
    → PublisherKnows q book (sweep_from routes slot place at)
sweep_knows q book routes slot place None all own names
    = push_knows q book routes slot 0 nothing_sent (slice_get routes 0) refl all own names
sweep_knows q book routes slot place (Some route) all own names = (own, tt)

reclaimed_knows : (q : Port) (book : BookState) (routes : List Route) (place : ℕ) (route : Route) (pop : refusing_pop_type.Pop)
    (a : Option PopAnswer) → LonePop q (back_read route) pop
    → PublisherKnows q book (loan_reclaimed routes place route pop a)
reclaimed_knows q book routes place route pop None k = k
reclaimed_knows q book routes place route pop (Some (Got (Some slot))) k = tt
reclaimed_knows q book routes place route pop (Some (Got None)) k = loan_knows q book (successor place) (slice_get routes (successor place))
reclaimed_knows q book routes place route pop (Some (Saw some)) k = loan_knows q book (successor place) (slice_get routes (successor place))

swept_knows : (q : Port) (book : BookState) (routes : List Route) (slot place : ℕ) (route : Route) (pop : refusing_pop_type.Pop)
    (a : Option PopAnswer) → All (IsEnd q.service sender_of q.name) routes → IsOwnSlot book slot → NamesSlot q slot
    → LonePop q (back_read route) pop → PublisherKnows q book (send_reclaimed routes slot place route pop a)
swept_knows q book routes slot place route pop None all own names k = (own, k)
swept_knows q book routes slot place route pop (Some (Got (Some back))) all own names k = (own, tt)
swept_knows q book routes slot place route pop (Some (Got None)) all own names k
    = sweep_knows q book routes slot (successor place) (slice_get routes (successor place)) all own names
swept_knows q book routes slot place route pop (Some (Saw some)) all own names k
    = sweep_knows q book routes slot (successor place) (slice_get routes (successor place)) all own names

pushed_knows : (q : Port) (book : BookState) (routes : List Route) (slot place : ℕ) (route : Route) (push : Push) (delivery : Delivery)
    (a : Option PushAnswer) → All (IsEnd q.service sender_of q.name) routes → IsOwnSlot book slot → NamesSlot q slot
    → PushKnows q route push → PublisherKnows q book (pushed routes slot place route push delivery a)
pushed_knows q book routes slot place route push delivery None all own names k = (own, k)
pushed_knows q book routes slot place route push delivery (Some a) all own names k
    = push_knows q book routes slot (successor place) (counted delivery a) (slice_get routes (successor place)) refl all own names

-- a step keeps the port's name, its service and how much it knows of
pub step_same : (p : Port) (access : SharedAccess) (answer : ℕ) (after : ℕ → PortParty) → SamePort p (stepped p access answer after)
step_same p (Load w) answer after = record { name = refl; service = refl; wide = length-set p.known _ answer }
step_same p (Store w new) answer after = record { name = refl; service = refl; wide = length-set p.known _ new }
step_same p (Exchange w old new) answer after = record { name = refl; service = refl; wide = exchanged_length p.name (answer == old) }
  where
    exchanged_length : (name : Party) (b : Bool)
        → length (if b then set p.known (number_of p.service.sizes w) new else known_lost name p.known (number_of p.service.sizes w)
        answer) ≡ length p.known
    exchanged_length name true = length-set p.known (number_of p.service.sizes w) new
    exchanged_length (Publisher x) false = length-set p.known (number_of p.service.sizes w) answer
    exchanged_length (Subscriber x) false
        = length-set (set p.known (number_of p.service.sizes w) answer) (number_of p.service.sizes w - 1) _ ∙ length-set p.known
        (number_of p.service.sizes w) answer
step_same p Local answer after = record { name = refl; service = refl; wide = refl }

-- what holds of a port's service and name holds after a step
pub moved_over : {p q : Port} (P : Service → Party → Type 0) → SamePort p q → P p.service p.name → P q.service q.name
moved_over {p} {q} P same h = subst (λ (z : Service × Party). P z.0 z.1) (λ i. (sym same.service i, sym same.name i)) h

module _ (p : Port) (lane : PublisherLaneState) (stands : PublisherStands p lane) (n : ℕ) where
  goes_at : (c : PublisherCall) (after : ℕ → PortParty) → IsPublishing p.service.sizes lane.port.routes (call_words lane.port) c
      → PublisherKnows p lane.port.book c → IsOfTable p.service.sizes (publisher_next c)
      → ToldBy p (publisher_next c) n
      → PublisherKnows (stepped p (publisher_next c) n after) (changed (publisher_change c n) lane.port.book)
      (publisher_take lane.port.routes (call_words lane.port) c n)
  goes_at publishing.Idle after at k is told = tt
  goes_at (publishing.LoanReclaims place route pop) after at k is told =
      let r : IsRoute p.service.sizes route = route_at p lane stands place route at in
      reclaimed_knows (stepped p (publisher_next (publishing.LoanReclaims place route pop)) n after)
      (changed (publisher_change (publishing.LoanReclaims place route pop) n) lane.port.book) lane.port.routes place route
      (refusing.pop_take pop n) (refusing_pop_answer (refusing.pop_take pop n))
      (lone_pop_goes p route.connection Completion route.completion_cells after stands.wide (r.connection, tt) (r.connection, tt) pop n
      is k told)
  goes_at publishing.Lending after at k is told = tt
  goes_at (publishing.Writing slot word value) after at k is told =
      write_knows (stepped p (publisher_next (publishing.Writing slot word value)) n after) lane.port.book slot (successor word)
      (slice_get (call_words lane.port) (successor word)) k
  goes_at (publishing.Written slot) after at k is told = tt
  goes_at (publishing.Heading slot word value) after at k is told =
      head_knows (stepped p (publisher_next (publishing.Heading slot word value)) n after) lane.port.book slot (successor word)
      (slice_get (call_words lane.port) (successor word)) k
  goes_at (publishing.Remembering slot) after at k is told =
      sweep_knows p (changed (change.Remember slot) lane.port.book) lane.port.routes slot 0 (slice_get lane.port.routes 0) stands.routes
      (own_stays lane.port.book (changed (change.Remember slot) lane.port.book) slot
      (changed_slots (change.Remember slot) lane.port.book) k) (names_slot p lane stands slot k)
  goes_at (publishing.SendReclaims slot place route pop) after at k is told =
      let r : IsRoute p.service.sizes route = route_at p lane stands place route at in
      let c : PublisherCall = publishing.SendReclaims slot place route pop in
      let same : SamePort p (stepped p (publisher_next (publishing.SendReclaims slot place route pop)) n after)
      = step_same p (publisher_next (publishing.SendReclaims slot place route pop)) n after in
      swept_knows (stepped p (publisher_next (publishing.SendReclaims slot place route pop)) n after)
      (changed (publisher_change (publishing.SendReclaims slot place route pop) n) lane.port.book) lane.port.routes slot place route
      (refusing.pop_take pop n) (refusing_pop_answer (refusing.pop_take pop n))
      (moved_over (λ s name. All (IsEnd s sender_of name) lane.port.routes) same stands.routes)
      (own_stays lane.port.book (changed (publisher_change (publishing.SendReclaims slot place route pop) n) lane.port.book) slot
      (changed_slots (publisher_change (publishing.SendReclaims slot place route pop) n) lane.port.book) k.0)
      (moved_over (λ s name. 0 < s.sizes.slots → slot < s.sizes.slots) same (names_slot p lane stands slot k.0))
      (lone_pop_goes p route.connection Completion route.completion_cells after stands.wide (r.connection, tt) (r.connection, tt) pop n
      is k.1 told)
  goes_at (publishing.Pushing slot place route push delivery) after at k is told =
      let same : SamePort p (stepped p (publisher_next (publishing.Pushing slot place route push delivery)) n after)
      = step_same p (publisher_next (publishing.Pushing slot place route push delivery)) n after in
      pushed_knows (stepped p (publisher_next (publishing.Pushing slot place route push delivery)) n after)
      (changed (publisher_change (publishing.Pushing slot place route push delivery) n) lane.port.book) lane.port.routes slot place
      route
      (push_take push n) delivery (push_answer (push_take push n))
      (moved_over (λ s name. All (IsEnd s sender_of name) lane.port.routes) same stands.routes)
      (own_stays lane.port.book (changed (publisher_change (publishing.Pushing slot place route push delivery) n) lane.port.book) slot
      (changed_slots (publisher_change (publishing.Pushing slot place route push delivery) n) lane.port.book) k.0)
      (moved_over (λ s name. 0 < s.sizes.slots → slot < s.sizes.slots) same (names_slot p lane stands slot k.0))
      (push_goes push at k.1 is told)
    where
      push_goes : (push : Push) → IsAt lane.port.routes place route → PushKnows p route push
          → IsOfTable p.service.sizes (on_ring route.connection Submission route.submission_cells (push_next push))
          → ToldBy p (on_ring route.connection Submission route.submission_cells (push_next push)) n
          → PushKnows (stepped p (on_ring route.connection Submission route.submission_cells (push_next push)) n after) route
          (push_take push n)
      push_goes (ring_push.Overflowing own) at k is told =
          let end = end_at p lane stands place route at in (
            k.0,
            over_push_goes p route.connection end.line route.submission_cells after stands.wide
                (overflows p.service p.name route end (route_at p lane stands place route at) k.0) own n is k.1 told,
          )
      push_goes (ring_push.Refusing own) at k is told =
          let r : IsRoute p.service.sizes route = route_at p lane stands place route at in
          lone_push_goes p route.connection Submission route.submission_cells after stands.wide (r.connection, tt) (r.connection, tt)
          own n is k told
  goes_at (publishing.Sent slot delivery) after at k is told = tt
  goes_at (publishing.Dropping slot) after at k is told = tt

  pub goes_on : ToldBy p (publisher_next lane.port.call) n → PublisherStands (publisher_stepped p lane n) (publisher_after n lane)
  goes_on told =
      let same : SamePort p (publisher_stepped p lane n) = step_same p (publisher_next lane.port.call) n (publisher_party lane) in
      let slots = changed_slots (publisher_change lane.port.call n) lane.port.book in
      record {
        place = stands.place;
        range = stands.range;
        name = same.name ∙ stands.name;
        wide = same.wide ∙ stands.wide ∙ ap (λ (s : Service). words_of s.sizes) (sym same.service);
        within = subst (λ (s : Service). IsPublisher s.sizes (publisher_after n lane)) (sym same.service)
            ((publishers_stay_within p.service.sizes lane stands.within).1 n);
        routes = moved_over (λ s name. All (IsEnd s sender_of name) lane.port.routes) same stands.routes;
        once = stands.once;
        found = ap (λ (s : Service). slice_get s.ranges stands.place) same.service ∙ stands.found;
        first = stands.first ∙ sym slots.first;
        count = stands.count ∙ sym slots.loans;
        knows = goes_at lane.port.call (publisher_party lane) stands.within.call stands.knows (of_table p lane stands) told;
        comes = publisher_came p lane n (publisher_next lane.port.call) refl told stands.comes;
      }

-- a loan that is out is one of the publisher's slots
own_at : (book : BookState) (slot : ℕ) (b : Bool) → nat_lt slot book.first ≡ b
    → is_out (if b then mark.No else get_or book.loans (slot - book.first) mark.No) ≡ true → IsOwnSlot book slot
own_at book slot true e h = absurd (cc h)
own_at book slot false e h =
    let above : book.first ≤ slot = ltb-false slot book.first e in
    elim (cases_lt (slot - book.first) (length book.loans)) [
      | inl less ↦ (above, omega (arith, less, above))
      | inr past ↦ absurd (cc (h, get_or_past book.loans (slot - book.first) mark.No past))
    ]

pub out_is_own : (book : BookState) (slot : ℕ) → is_out (loan_of slot book) ≡ true → IsOwnSlot book slot
out_is_own book slot h = own_at book slot (nat_lt slot book.first) refl h

written_is_out : (m : LoanMark) → is_written m ≡ true → is_out m ≡ true
written_is_out mark.No h = absurd (cc h)
written_is_out mark.Lent h = refl
written_is_out mark.Written h = refl

begun_at : (p : Port) (moment : ℕ) (c : Call) (lane : PublisherLaneState) → publisher_fits lane (Begin c) ≡ true
    → PublisherKnows p (publisher_begun moment c lane).port.book (publisher_begun moment c lane).port.call
    × SameSlots lane.port.book (publisher_begun moment c lane).port.book
    × ((publisher_begun moment c lane).port.routes ≡ lane.port.routes)
begun_at p moment call.LoanUninit lane fit
    = (loan_knows p lane.port.book 0 (slice_get lane.port.routes 0), record { first = refl; loans = refl }, refl)
begun_at p moment (call.Write loan payload user_header) lane fit =
    let may : publisher_may lane (call.Write loan payload user_header) ≡ true
    = and_right (publisher_is_idle lane.port.call) (publisher_may lane (call.Write loan payload user_header)) fit in
    let fits_payload : (is_out (loan_of loan lane.port.book) && (length payload.items == length lane.port.payload)) ≡ true =
    and_left (is_out (loan_of loan lane.port.book) && (length payload.items == length lane.port.payload))
    (3 + length user_header.items == length lane.port.head) may in (
      write_knows p lane.port.book loan 0 (slice_get payload.items 0)
          (out_is_own lane.port.book loan
          (and_left (is_out (loan_of loan lane.port.book)) (length payload.items == length lane.port.payload) fits_payload)),
      record { first = refl; loans = refl },
      refl,
    )
begun_at p moment (call.Send loan) lane fit = (
  head_knows p lane.port.book loan 0 (slice_get (head_of loan lane) 0)
      (out_is_own lane.port.book loan
      (written_is_out (loan_of loan lane.port.book)
      (and_right (publisher_is_idle lane.port.call) (publisher_may lane (call.Send loan)) fit))),
  record { first = refl; loans = refl },
  refl,
)
begun_at p moment (call.DropLoan loan) lane fit = (tt, record { first = refl; loans = refl }, refl)
begun_at p moment call.Receive lane fit = absurd (cc (and_right (publisher_is_idle lane.port.call) (publisher_may lane call.Receive) fit))
begun_at p moment (call.Read sample) lane fit
    = absurd (cc (and_right (publisher_is_idle lane.port.call) (publisher_may lane (call.Read sample)) fit))
begun_at p moment (call.Release sample) lane fit
    = absurd (cc (and_right (publisher_is_idle lane.port.call) (publisher_may lane (call.Release sample)) fit))

pub begins : (p : Port) (lane : PublisherLaneState) (moment : ℕ) (c : Call) → PublisherStands p lane
    → publisher_fits lane (Begin c) ≡ true → PublisherStands p (publisher_begun moment c lane)
begins p lane moment c stands fit =
    let b = begun_at p moment c lane fit in
    record {
      place = stands.place;
      range = stands.range;
      name = stands.name;
      wide = stands.wide;
      within = (publishers_stay_within p.service.sizes lane stands.within).0 moment c fit;
      routes = subst (All (IsEnd p.service sender_of p.name)) (sym b.2) stands.routes;
      once = subst EachOnce (sym b.2) stands.once;
      found = stands.found;
      first = stands.first ∙ sym b.1.first;
      count = stands.count ∙ sym b.1.loans;
      knows = b.0;
      comes = publisher_began p.party lane moment c stands.comes fit;
    }

pub publishers_go_on : PublishersGoOn
publishers_go_on p lane stands
    = ((λ moment c fit. begins p lane moment c stands fit), may_act p lane stands, (λ n told. goes_on p lane stands n told))

-- a loan that may be sent is one of the publisher's slots
pub send_is_own : (lane : PublisherLaneState) (loan : ℕ) → publisher_fits lane (Begin (call.Send loan)) ≡ true
    → IsOwnSlot lane.port.book loan
send_is_own lane loan fit =
    out_is_own lane.port.book loan (written_is_out (loan_of loan lane.port.book)
    (and_right (publisher_is_idle lane.port.call) (publisher_may lane (call.Send loan)) fit))
