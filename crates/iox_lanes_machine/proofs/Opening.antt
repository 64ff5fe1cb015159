-- Every step keeps the numbers of slots in the cells of rings.
use Rattle.std.proofs.Common.{ℕ, ◌≡◌, ◌+◌, ◌-◌, ◌<◌, ◌≤◌, ◌==◌, Bool, true, false, if◌then◌else◌, nat_lt, List, length, replicate, set}
use Rattle.std.proofs.Common.{get_or, slice_get, slice_index, Option, Some, None, refl, sym, ◌∙◌, ap, subst, inl, inr, arith}
use Rattle.std.proofs.lemmas.Bool.{cases_lt, ltb-false}
use Rattle.std.proofs.lemmas.Bool.Decides.{eqb_tells}
use Rattle.std.proofs.lemmas.List.{get_or_past, get_or-set_same, get_or-set_other, get_or-replicate}
use Rattle.iox_lanes_machine.specs.QueuesSteps.Access.{successor}
use Rattle.iox_lanes_machine.specs.QueuesSteps.declared.access.Word.TheVariants.{Write, Read, Cell}
use Rattle.iox_lanes_machine.specs.QueuesSteps.declared.order.PushAnswer.{PushAnswer}
use Rattle.iox_lanes_machine.specs.QueuesSteps.declared.order.PushAnswer.TheVariants.{Kept, LeftOut, Refused}
use Rattle.iox_lanes_machine.specs.QueuesSteps.declared.order.PopAnswer.{PopAnswer}
use Rattle.iox_lanes_machine.specs.QueuesSteps.declared.order.PopAnswer.TheVariants.{Got, Saw}
use Rattle.iox_lanes_machine.specs.QueuesSteps.Overflowing as overflowing
use Rattle.iox_lanes_machine.specs.QueuesSteps.declared.rings.overflowing.push.Push as overflowing_push_type
use Rattle.iox_lanes_machine.specs.QueuesSteps.declared.rings.overflowing.push.Push.TheVariants as overflowing_push
use Rattle.iox_lanes_machine.specs.QueuesSteps.declared.rings.overflowing.pop.Pop as overflowing_pop_type
use Rattle.iox_lanes_machine.specs.QueuesSteps.declared.rings.overflowing.pop.Pop.TheVariants as overflowing_pop
use Rattle.iox_lanes_machine.specs.QueuesSteps.Refusing as refusing
use Rattle.iox_lanes_machine.specs.QueuesSteps.declared.rings.refusing.push.Push as refusing_push_type
use Rattle.iox_lanes_machine.specs.QueuesSteps.declared.rings.refusing.push.Push.TheVariants as refusing_push
use Rattle.iox_lanes_machine.specs.QueuesSteps.declared.rings.refusing.pop.Pop as refusing_pop_type
use Rattle.iox_lanes_machine.specs.QueuesSteps.declared.rings.refusing.pop.Pop.TheVariants as refusing_pop
use Rattle.iox_lanes_machine.specs.QueuesSteps.Ends.{push_begun, push_next, push_take, pop_next}
use Rattle.iox_lanes_machine.specs.QueuesSteps.declared.rings.ends.RingKind.{RingKind}
use Rattle.iox_lanes_machine.specs.QueuesSteps.declared.rings.ends.RingKind.TheVariants as kind
use Rattle.iox_lanes_machine.specs.QueuesSteps.declared.rings.ends.Push.{Push}
use Rattle.iox_lanes_machine.specs.QueuesSteps.declared.rings.ends.Push.TheVariants as push
use Rattle.iox_lanes_machine.specs.QueuesSteps.declared.rings.ends.Pop.{Pop}
use Rattle.iox_lanes_machine.specs.QueuesSteps.declared.rings.ends.Pop.TheVariants as pop
use Rattle.iox_lanes_machine.specs.LanesBase.Numbers.{number_of, words_of, IsWord}
use Rattle.iox_lanes_machine.specs.LanesBase.Table.{TableWords, held_by, stored_in, after_shared, IsOfTable}
use Rattle.iox_lanes_machine.specs.LanesBase.Words.{on_ring}
use Rattle.iox_lanes_machine.specs.LanesBase.declared.words.access.SharedAccess.{SharedAccess}
use Rattle.iox_lanes_machine.specs.LanesBase.declared.words.access.SharedAccess.TheVariants.{Load, Store, Exchange, Local}
use Rattle.iox_lanes_machine.specs.LanesBase.declared.words.word.ConnectionRing.{ConnectionRing}
use Rattle.iox_lanes_machine.specs.LanesBase.declared.words.word.ConnectionRing.TheVariants.{Submission, Completion}
use Rattle.iox_lanes_machine.specs.LanesBase.declared.words.word.SharedWord.{SharedWord}
use Rattle.iox_lanes_machine.specs.LanesBase.declared.words.word.SharedWord.TheVariants.{Ring, Slot}
use Rattle.iox_lanes_machine.proofs.LanesBase.Numbering.{apart, within}
use Rattle.iox_lanes_machine.specs.LanesBase.Answers.{push_answer, refusing_pop_answer, refusing_push_answer}
use Rattle.iox_lanes_machine.specs.LanesBase.Publishing.{publisher_is_idle, publisher_next, publisher_take, loan_from, loan_reclaimed}
use Rattle.iox_lanes_machine.specs.LanesBase.Publishing.{write_from, head_from, push_from, sweep_from, send_reclaimed, pushed, counted}
use Rattle.iox_lanes_machine.specs.LanesBase.Publishing.{nothing_sent}
use Rattle.iox_lanes_machine.specs.LanesBase.Subscribing.{subscriber_next, subscriber_change, subscriber_take, receive_from, received}
use Rattle.iox_lanes_machine.specs.LanesBase.Subscribing.{released, is_full_at}
use Rattle.iox_lanes_machine.specs.LanesBase.declared.calls.publisher.Delivery.{Delivery}
use Rattle.iox_lanes_machine.specs.LanesBase.declared.calls.publisher.PublisherCall.{PublisherCall}
use Rattle.iox_lanes_machine.specs.LanesBase.declared.calls.publisher.PublisherCall.TheVariants as publishing
use Rattle.iox_lanes_machine.specs.LanesBase.declared.calls.route.Route.{Route}
use Rattle.iox_lanes_machine.specs.LanesBase.declared.calls.subscriber.SlotExtent.{SlotExtent}
use Rattle.iox_lanes_machine.specs.LanesBase.declared.calls.subscriber.SubscriberCall.{SubscriberCall}
use Rattle.iox_lanes_machine.specs.LanesBase.declared.calls.subscriber.SubscriberCall.TheVariants as subscribing
use Rattle.iox_lanes_machine.specs.LanesParties.PublisherKeeping.{BookState, loan_of}
use Rattle.iox_lanes_machine.specs.LanesParties.Publishers.{words_of as call_words}
use Rattle.iox_lanes_machine.specs.LanesParties.declared.publisher.slot_book.LoanMark.{LoanMark}
use Rattle.iox_lanes_machine.specs.LanesParties.declared.publisher.slot_book.LoanMark.TheVariants as mark
use Rattle.iox_lanes_machine.specs.LanesParties.Parties.{PublisherLaneState, SubscriberLaneState, is_out, is_written, publisher_may}
use Rattle.iox_lanes_machine.specs.LanesParties.Parties.{publisher_fits, publisher_begun, publisher_after, subscriber_begun}
use Rattle.iox_lanes_machine.specs.LanesParties.Parties.{subscriber_after, release_begun, place_of, route_at, head_of}
use Rattle.iox_lanes_machine.specs.LanesParties.Within.{IsPublisher, IsSubscriber}
use Rattle.iox_lanes_machine.specs.LanesParties.declared.call.Call.{Call}
use Rattle.iox_lanes_machine.specs.LanesParties.declared.call.Call.TheVariants as call
use Rattle.iox_lanes_machine.specs.LanesParties.declared.call.Move.{Move}
use Rattle.iox_lanes_machine.specs.LanesParties.declared.call.Move.TheVariants.{Begin, GoOn}
use Rattle.iox_lanes_machine.specs.LanesParties.declared.call.Party.{Party}
use Rattle.iox_lanes_machine.specs.LanesParties.declared.call.Party.TheVariants.{Publisher, Subscriber}
use Rattle.iox_lanes_machine.proofs.LanesParties.Rings.{and_right, all_at}
use Rattle.iox_lanes_machine.proofs.LanesParties.PublishersWithin.{publishers_stay_within}
use Rattle.iox_lanes_machine.proofs.LanesParties.SubscribersWithin.{subscribers_stay_within}
use Rattle.iox_lanes_machine.specs.Kept.{IsWithin}
use Rattle.iox_lanes_machine.specs.Made.{table_sizes, start}
use Rattle.iox_lanes_machine.specs.Opening.{cell_of, CellsNameSlots, OverPuts, LonePuts, Puts, SendsSlot, GivesSlot, SlotsNamed}
use Rattle.iox_lanes_machine.specs.World.{World, placed, fits, happens, publisher_fits_at, publisher_begins, subscriber_begins}
use Rattle.iox_lanes_machine.specs.World.{publisher_goes_on, subscriber_goes_on, publisher_given, subscriber_given}
use Rattle.iox_lanes_machine.specs.declared.sizes.LaneSizes.{LaneSizes}
use Rattle.iox_lanes_machine.proofs.Calls.{set_is}
use Rattle.iox_lanes_machine.proofs.Within.{set_other, sizes_stay, changed_routes, placed_within}

-- the access leaves the numbers of slots in the cells
abbrev pub StoresSlots : ℕ → SharedAccess → Type 0
StoresSlots slots (Load word) = Unit {0}
StoresSlots slots (Store (Ring connection ring Write) value) = Unit {0}
StoresSlots slots (Store (Ring connection ring Read) value) = Unit {0}
StoresSlots slots (Store (Ring connection ring (Cell cell)) value) = value < slots
StoresSlots slots (Store (Slot slot word) value) = Unit {0}
StoresSlots slots (Exchange (Ring connection ring Write) old new) = Unit {0}
StoresSlots slots (Exchange (Ring connection ring Read) old new) = Unit {0}
StoresSlots slots (Exchange (Ring connection ring (Cell cell)) old new) = ⊥
StoresSlots slots (Exchange (Slot slot word) old new) = ⊥
StoresSlots slots Local = Unit {0}

-- a store of a cell stores a number of a slot
cell_stored : (slots connection cell value : ℕ) (ring : ConnectionRing) (word : SharedWord) → cell_of connection ring cell ≡ word
    → StoresSlots slots (Store word value) → value < slots
cell_stored slots connection cell value ring (Ring other ring' Write) same h = absurd (cc same)
cell_stored slots connection cell value ring (Ring other ring' Read) same h = absurd (cc same)
cell_stored slots connection cell value ring (Ring other ring' (Cell at)) same h = h
cell_stored slots connection cell value ring (Slot slot at) same h = absurd (cc same)

module _ (table : TableWords) (wide : length table.words ≡ words_of table.sizes) where
  stored_cells : (word : SharedWord) (value : ℕ) → IsWord table.sizes word → StoresSlots table.sizes.slots (Store word value)
      → CellsNameSlots table → CellsNameSlots (stored_in table word value)
  stored_cells word value there stores named some connection ring cell is =
      let at : ℕ = number_of table.sizes (cell_of connection ring cell) in
      let low : number_of table.sizes word < words_of table.sizes = (within table.sizes word there).1 in
      elim (eqb_tells at (number_of table.sizes word)) [
        | inl here ↦
            let same : cell_of connection ring cell ≡ word = apart table.sizes (cell_of connection ring cell) word is there here.1 in
            let holds : get_or (set table.words (number_of table.sizes word) value) at 0 ≡ value =
            ap (λ (n : ℕ). get_or (set table.words (number_of table.sizes word) value) n 0) here.1 ∙ get_or-set_same table.words
            (number_of table.sizes word) value 0 (omega (arith, low, wide)) in
            omega (arith, holds, cell_stored table.sizes.slots connection cell value ring word same stores)
        | inr there' ↦
            let stays : get_or (set table.words (number_of table.sizes word) value) at 0 ≡ get_or table.words at 0
            = get_or-set_other table.words (number_of table.sizes word) at value 0 there'.1 in
            omega (arith, stays, named some connection ring cell is)
      ]

  stored_spare : (word : SharedWord) (value : ℕ) → IsWord table.sizes word → slice_index table.words 0 ≡ 0
      → slice_index (set table.words (number_of table.sizes word) value) 0 ≡ 0
  stored_spare word value there h =
      let above : 0 < number_of table.sizes word = (within table.sizes word there).0 in
      get_or-set_other table.words (number_of table.sizes word) 0 value 0 (λ e. omega (arith, above, e)) ∙ h

  exchange_stores : (slots : ℕ) (word : SharedWord) (old new : ℕ) → StoresSlots slots (Exchange word old new)
      → StoresSlots slots (Store word new)
  exchange_stores slots (Ring connection ring Write) old new h = tt
  exchange_stores slots (Ring connection ring Read) old new h = tt
  exchange_stores slots (Ring connection ring (Cell cell)) old new h = absurd h
  exchange_stores slots (Slot slot at) old new h = absurd h

  -- the cells and the first word after an access
  pub after_access : (access : SharedAccess) → IsOfTable table.sizes access → StoresSlots table.sizes.slots access
      → CellsNameSlots table → slice_index table.words 0 ≡ 0
      → CellsNameSlots (after_shared table access) × (slice_index (after_shared table access).words 0 ≡ 0)
  after_access (Load word) there h named spare = (named, spare)
  after_access (Store word value) there h named spare = (stored_cells word value there h named, stored_spare word value there spare)
  after_access (Exchange word old new) there h named spare = by_test (held_by table word == old)
    where
      by_test : (won : Bool) → CellsNameSlots (if won then stored_in table word new else table)
          × (slice_index (if won then stored_in table word new else table).words 0 ≡ 0)
      by_test true = (
        stored_cells word new there (exchange_stores table.sizes.slots word old new h) named,
        stored_spare word new there
            spare,
      )
      by_test false = (named, spare)
  after_access Local there h named spare = (named, spare)

-- what each access of a push and of a pop stores
over_push_stores : (slots connection cells : ℕ) (p : overflowing_push_type.Push) → OverPuts slots p
    → StoresSlots slots (on_ring connection Submission cells (overflowing.push_next p))
over_push_stores slots connection cells overflowing_push.Idle h = tt
over_push_stores slots connection cells (overflowing_push.Begun limit value) h = tt
over_push_stores slots connection cells (overflowing_push.SawWrite limit value write next) h = tt
over_push_stores slots connection cells (overflowing_push.SawRead limit value write next read) h = h
over_push_stores slots connection cells (overflowing_push.Filled limit value write next read) h = tt
over_push_stores slots connection cells (overflowing_push.Full value read next) h = tt
over_push_stores slots connection cells (overflowing_push.SawOldest value read next oldest) h = tt
over_push_stores slots connection cells (overflowing_push.Pushed value answer) h = tt

lone_push_stores : (slots connection cells : ℕ) (ring : ConnectionRing) (p : refusing_push_type.Push) → LonePuts slots p
    → StoresSlots slots (on_ring connection ring cells (refusing.push_next p))
lone_push_stores slots connection cells ring refusing_push.Idle h = tt
lone_push_stores slots connection cells ring (refusing_push.Begun limit value) h = tt
lone_push_stores slots connection cells ring (refusing_push.SawWrite limit value write next) h = tt
lone_push_stores slots connection cells ring (refusing_push.SawRoom value write next) h = h
lone_push_stores slots connection cells ring (refusing_push.Filled value next) h = tt
lone_push_stores slots connection cells ring (refusing_push.Pushed value answer) h = tt

push_stores : (slots connection cells : ℕ) (p : Push) → Puts slots p → StoresSlots slots (on_ring connection Submission cells (push_next p))
push_stores slots connection cells (push.Overflowing p) h = over_push_stores slots connection cells p h
push_stores slots connection cells (push.Refusing p) h = lone_push_stores slots connection cells Submission p h

lone_pop_stores : (slots connection cells : ℕ) (ring : ConnectionRing) (p : refusing_pop_type.Pop)
    → StoresSlots slots (on_ring connection ring cells (refusing.pop_next p))
lone_pop_stores slots connection cells ring refusing_pop.Idle = tt
lone_pop_stores slots connection cells ring refusing_pop.Begun = tt
lone_pop_stores slots connection cells ring (refusing_pop.SawRead read) = tt
lone_pop_stores slots connection cells ring (refusing_pop.Nonempty read next) = tt
lone_pop_stores slots connection cells ring (refusing_pop.SawCell next value) = tt
lone_pop_stores slots connection cells ring (refusing_pop.Popped got) = tt
lone_pop_stores slots connection cells ring refusing_pop.LookBegun = tt
lone_pop_stores slots connection cells ring (refusing_pop.LookRead read) = tt
lone_pop_stores slots connection cells ring (refusing_pop.Looked some) = tt

over_pop_stores : (slots connection cells : ℕ) (p : overflowing_pop_type.Pop)
    → StoresSlots slots (on_ring connection Submission cells (overflowing.pop_next p))
over_pop_stores slots connection cells overflowing_pop.Idle = tt
over_pop_stores slots connection cells overflowing_pop.Begun = tt
over_pop_stores slots connection cells (overflowing_pop.SawRead read) = tt
over_pop_stores slots connection cells (overflowing_pop.Nonempty read next) = tt
over_pop_stores slots connection cells (overflowing_pop.SawCell read next value) = tt
over_pop_stores slots connection cells (overflowing_pop.Popped got) = tt
over_pop_stores slots connection cells overflowing_pop.LookBegun = tt
over_pop_stores slots connection cells (overflowing_pop.LookRead read) = tt
over_pop_stores slots connection cells (overflowing_pop.Looked some) = tt

pop_stores : (slots connection cells : ℕ) (p : Pop) → StoresSlots slots (on_ring connection Submission cells (pop_next p))
pop_stores slots connection cells (pop.Overflowing p) = over_pop_stores slots connection cells p
pop_stores slots connection cells (pop.Refusing p) = lone_pop_stores slots connection cells Submission p

publisher_stores : (slots : ℕ) (c : PublisherCall) → SendsSlot slots c → StoresSlots slots (publisher_next c)
publisher_stores slots publishing.Idle h = tt
publisher_stores slots (publishing.LoanReclaims place route p) h
    = lone_pop_stores slots route.connection route.completion_cells Completion p
publisher_stores slots publishing.Lending h = tt
publisher_stores slots (publishing.Writing slot word value) h = tt
publisher_stores slots (publishing.Written slot) h = tt
publisher_stores slots (publishing.Heading slot word value) h = tt
publisher_stores slots (publishing.Remembering slot) h = tt
publisher_stores slots (publishing.SendReclaims slot place route p) h
    = lone_pop_stores slots route.connection route.completion_cells Completion p
publisher_stores slots (publishing.Pushing slot place route p delivery) h = push_stores slots route.connection route.submission_cells p h.1
publisher_stores slots (publishing.Sent slot delivery) h = tt
publisher_stores slots (publishing.Dropping slot) h = tt

subscriber_stores : (slots : ℕ) (c : SubscriberCall) → GivesSlot slots c → StoresSlots slots (subscriber_next c)
subscriber_stores slots subscribing.Idle h = tt
subscriber_stores slots (subscribing.Receiving place route p waits) h = pop_stores slots route.connection route.submission_cells p
subscriber_stores slots (subscribing.Received receipt) h = tt
subscriber_stores slots (subscribing.Reading slot word extent) h = tt
subscriber_stores slots (subscribing.WasRead slot) h = tt
subscriber_stores slots (subscribing.Releasing place route p) h
    = lone_push_stores slots route.connection route.completion_cells Completion p h
subscriber_stores slots (subscribing.Released done) h = tt

-- a push goes on with the slot that it has in hand
over_filled : (slots limit value next read : ℕ) (more : Bool)
    → OverPuts slots (if more then overflowing_push.Full value read (successor read) else overflowing_push.Pushed value Kept)
over_filled slots limit value next read true = tt
over_filled slots limit value next read false = tt

over_takes : (slots : ℕ) (p : overflowing_push_type.Push) (answer : ℕ) → OverPuts slots p → OverPuts slots (overflowing.push_take p answer)
over_takes slots overflowing_push.Idle answer h = tt
over_takes slots (overflowing_push.Begun limit value) answer h = h
over_takes slots (overflowing_push.SawWrite limit value write next) answer h = h
over_takes slots (overflowing_push.SawRead limit value write next read) answer h = tt
over_takes slots (overflowing_push.Filled limit value write next read) answer h
    = over_filled slots limit value next read (nat_lt limit (next - read))
over_takes slots (overflowing_push.Full value read next) answer h = tt
over_takes slots (overflowing_push.SawOldest value read next oldest) answer h = tt
over_takes slots (overflowing_push.Pushed value answered) answer h = tt

lone_measured : (slots value write next : ℕ) (more : Bool) → value < slots
    → LonePuts slots (if more then refusing_push.SawRoom value write next else refusing_push.Pushed value Refused)
lone_measured slots value write next true h = h
lone_measured slots value write next false h = tt

lone_takes : (slots : ℕ) (p : refusing_push_type.Push) (answer : ℕ) → LonePuts slots p → LonePuts slots (refusing.push_take p answer)
lone_takes slots refusing_push.Idle answer h = tt
lone_takes slots (refusing_push.Begun limit value) answer h = h
lone_takes slots (refusing_push.SawWrite limit value write next) answer h
    = lone_measured slots value write next (nat_lt (write - answer) limit) h
lone_takes slots (refusing_push.SawRoom value write next) answer h = tt
lone_takes slots (refusing_push.Filled value next) answer h = tt
lone_takes slots (refusing_push.Pushed value answered) answer h = tt

takes : (slots : ℕ) (p : Push) (answer : ℕ) → Puts slots p → Puts slots (push_take p answer)
takes slots (push.Overflowing p) answer h = over_takes slots p answer h
takes slots (push.Refusing p) answer h = lone_takes slots p answer h

begun_puts : (slots limit slot : ℕ) (k : RingKind) → slot < slots → Puts slots (push_begun k limit slot)
begun_puts slots limit slot kind.Overflowing h = h
begun_puts slots limit slot kind.Refusing h = h

-- a publisher's call goes on with the slot that it sends
loan_sends : (slots place : ℕ) (at : Option Route) → SendsSlot slots (loan_from place at)
loan_sends slots place None = tt
loan_sends slots place (Some route) = tt

write_sends : (slots slot word : ℕ) (at : Option ℕ) → SendsSlot slots (write_from slot word at)
write_sends slots slot word None = tt
write_sends slots slot word (Some value) = tt

head_sends : (slots slot word : ℕ) (at : Option ℕ) → slot < slots → SendsSlot slots (head_from slot word at)
head_sends slots slot word None h = h
head_sends slots slot word (Some value) h = h

push_sends : (slots slot place : ℕ) (delivery : Delivery) (at : Option Route) → slot < slots
    → SendsSlot slots (push_from slot place delivery at)
push_sends slots slot place delivery None h = tt
push_sends slots slot place delivery (Some route) h = (h, begun_puts slots route.limit slot route.kind h)

sweep_sends : (slots : ℕ) (routes : List Route) (slot place : ℕ) (at : Option Route) → slot < slots
    → SendsSlot slots (sweep_from routes slot place at)
sweep_sends slots routes slot place None h = push_sends slots slot 0 nothing_sent (slice_get routes 0) h
sweep_sends slots routes slot place (Some route) h = h

reclaimed_sends : (slots : ℕ) (routes : List Route) (place : ℕ) (route : Route) (p : refusing_pop_type.Pop) (a : Option PopAnswer)
    → SendsSlot slots (loan_reclaimed routes place route p a)
reclaimed_sends slots routes place route p None = tt
reclaimed_sends slots routes place route p (Some (Got (Some slot))) = tt
reclaimed_sends slots routes place route p (Some (Got None)) = loan_sends slots (successor place) (slice_get routes (successor place))
reclaimed_sends slots routes place route p (Some (Saw some)) = loan_sends slots (successor place) (slice_get routes (successor place))

swept_sends : (slots : ℕ) (routes : List Route) (slot place : ℕ) (route : Route) (p : refusing_pop_type.Pop) (a : Option PopAnswer)
    → slot < slots → SendsSlot slots (send_reclaimed routes slot place route p a)
swept_sends slots routes slot place route p None h = h
swept_sends slots routes slot place route p (Some (Got (Some back))) h = h
swept_sends slots routes slot place route p (Some (Got None)) h
    = sweep_sends slots routes slot (successor place) (slice_get routes (successor place)) h
swept_sends slots routes slot place route p (Some (Saw some)) h
    = sweep_sends slots routes slot (successor place) (slice_get routes (successor place)) h

pushed_sends : (slots : ℕ) (routes : List Route) (slot place : ℕ) (route : Route) (p : Push) (delivery : Delivery)
    (a : Option PushAnswer) → slot < slots → Puts slots p → SendsSlot slots (pushed routes slot place route p delivery a)
pushed_sends slots routes slot place route p delivery None h k = (h, k)
pushed_sends slots routes slot place route p delivery (Some a) h k
    = push_sends slots slot (successor place) (counted delivery a) (slice_get routes (successor place)) h

take_sends : (slots : ℕ) (routes : List Route) (words : List ℕ) (c : PublisherCall) (a : ℕ) → SendsSlot slots c
    → SendsSlot slots (publisher_take routes words c a)
take_sends slots routes words publishing.Idle a h = tt
take_sends slots routes words (publishing.LoanReclaims place route p) a h
    = reclaimed_sends slots routes place route (refusing.pop_take p a) (refusing_pop_answer (refusing.pop_take p a))
take_sends slots routes words publishing.Lending a h = tt
take_sends slots routes words (publishing.Writing slot word value) a h
    = write_sends slots slot (successor word) (slice_get words (successor word))
take_sends slots routes words (publishing.Written slot) a h = tt
take_sends slots routes words (publishing.Heading slot word value) a h
    = head_sends slots slot (successor word) (slice_get words (successor word)) h
take_sends slots routes words (publishing.Remembering slot) a h = sweep_sends slots routes slot 0 (slice_get routes 0) h
take_sends slots routes words (publishing.SendReclaims slot place route p) a h
    = swept_sends slots routes slot place route (refusing.pop_take p a) (refusing_pop_answer (refusing.pop_take p a)) h
take_sends slots routes words (publishing.Pushing slot place route p delivery) a h =
    pushed_sends slots routes slot place route (push_take p a) delivery (push_answer (push_take p a)) h.0 (takes slots p a h.1)
take_sends slots routes words (publishing.Sent slot delivery) a h = tt
take_sends slots routes words (publishing.Dropping slot) a h = tt

-- a loan that is out is a slot of the service
out_below : (sizes_slots : ℕ) (book : BookState) (slot : ℕ) (b : Bool) → nat_lt slot book.first ≡ b
    → is_out (if b then mark.No else get_or book.loans (slot - book.first) mark.No) ≡ true → book.first + length book.loans ≤ sizes_slots
    → slot < sizes_slots
out_below sizes_slots book slot true e h few = absurd (cc h)
out_below sizes_slots book slot false e h few =
    let above : book.first ≤ slot = ltb-false slot book.first e in
    elim (cases_lt (slot - book.first) (length book.loans)) [
      | inl less ↦ omega (arith, less, above, few)
      | inr past ↦ absurd (cc (h, get_or_past book.loans (slot - book.first) mark.No past))
    ]

written_is_out : (m : LoanMark) → is_written m ≡ true → is_out m ≡ true
written_is_out mark.No h = absurd (cc h)
written_is_out mark.Lent h = refl
written_is_out mark.Written h = refl

begun_sends : (slots moment : ℕ) (c : Call) (lane : PublisherLaneState) → publisher_fits lane (Begin c) ≡ true
    → lane.port.book.first + length lane.port.book.loans ≤ slots → SendsSlot slots (publisher_begun moment c lane).port.call
begun_sends slots moment call.LoanUninit lane fit few = loan_sends slots 0 (slice_get lane.port.routes 0)
begun_sends slots moment (call.Write loan payload user_header) lane fit few = write_sends slots loan 0 (slice_get payload.items 0)
begun_sends slots moment (call.Send loan) lane fit few =
    head_sends slots loan 0 (slice_get (head_of loan lane) 0)
    (out_below slots lane.port.book loan (nat_lt loan lane.port.book.first) refl
    (written_is_out (loan_of loan lane.port.book)
    (and_right (publisher_is_idle lane.port.call) (publisher_may lane (call.Send loan)) fit)) few)
begun_sends slots moment (call.DropLoan loan) lane fit few = tt
begun_sends slots moment call.Receive lane fit few
    = absurd (cc (and_right (publisher_is_idle lane.port.call) (publisher_may lane call.Receive) fit))
begun_sends slots moment (call.Read sample) lane fit few
    = absurd (cc (and_right (publisher_is_idle lane.port.call) (publisher_may lane (call.Read sample)) fit))
begun_sends slots moment (call.Release sample) lane fit few
    = absurd (cc (and_right (publisher_is_idle lane.port.call) (publisher_may lane (call.Release sample)) fit))

-- a subscriber's call goes on with the slot that it gives back
receive_gives : (slots place : ℕ) (full waits : Bool) (at : Option Route) → GivesSlot slots (receive_from place full waits at)
receive_gives slots place full waits None = tt
receive_gives slots place full waits (Some route) = tt

received_gives : (slots : ℕ) (routes : List Route) (borrowed : List ℕ) (most place : ℕ) (route : Route) (p : Pop) (waits : Bool)
    (a : Option PopAnswer) → GivesSlot slots (received routes borrowed most place route p waits a)
received_gives slots routes borrowed most place route p waits None = tt
received_gives slots routes borrowed most place route p waits (Some (Got (Some slot))) = tt
received_gives slots routes borrowed most place route p waits (Some (Got None))
    = receive_gives slots (successor place) (is_full_at borrowed most (successor place)) waits (slice_get routes (successor place))
received_gives slots routes borrowed most place route p waits (Some (Saw some))
    = receive_gives slots (successor place) (is_full_at borrowed most (successor place)) _ (slice_get routes (successor place))

read_gives : (slots slot word : ℕ) (extent : SlotExtent) (b : Bool)
    → GivesSlot slots (if b then subscribing.Reading slot word extent else subscribing.WasRead slot)
read_gives slots slot word extent true = tt
read_gives slots slot word extent false = tt

released_gives : (slots place : ℕ) (route : Route) (p : refusing_push_type.Push) (a : Option PushAnswer) → LonePuts slots p
    → GivesSlot slots (released place route p a)
released_gives slots place route p None h = h
released_gives slots place route p (Some Kept) h = tt
released_gives slots place route p (Some (LeftOut oldest)) h = tt
released_gives slots place route p (Some Refused) h = tt

take_gives : (slots : ℕ) (routes : List Route) (borrowed : List ℕ) (most : ℕ) (c : SubscriberCall) (a : ℕ) → GivesSlot slots c
    → GivesSlot slots (subscriber_take routes borrowed most c a)
take_gives slots routes borrowed most subscribing.Idle a h = tt
take_gives slots routes borrowed most (subscribing.Receiving place route p waits) a h
    = received_gives slots routes borrowed most place route _ waits _
take_gives slots routes borrowed most (subscribing.Received receipt) a h = tt
take_gives slots routes borrowed most (subscribing.Reading slot word extent) a h
    = read_gives slots slot (successor word) extent (nat_lt (successor word) (3 + extent.user_header_words + extent.payload_words))
take_gives slots routes borrowed most (subscribing.WasRead slot) a h = tt
take_gives slots routes borrowed most (subscribing.Releasing place route p) a h
    = released_gives slots place route (refusing.push_take p a) (refusing_push_answer (refusing.push_take p a)) (lone_takes slots p a h)
take_gives slots routes borrowed most (subscribing.Released done) a h = tt

borrowed_below : (samples : List (Option ℕ)) (sample place : ℕ) → get_or samples sample None ≡ Some place → sample < length samples
borrowed_below samples sample place e = elim (cases_lt sample (length samples)) [
  | inl less ↦ less
  | inr past ↦ absurd (cc (e, get_or_past samples sample None past))
]

release_gives : (slots moment sample : ℕ) (place : Option ℕ) (route : Option Route) (lane : SubscriberLaneState)
    → place_of sample lane ≡ place → length lane.port.samples ≤ slots → GivesSlot slots lane.port.call
    → GivesSlot slots (release_begun moment sample place route lane).port.call
release_gives slots moment sample None route lane e few h = h
release_gives slots moment sample (Some place) None lane e few h = h
release_gives slots moment sample (Some place) (Some route) lane e few h
    = omega (arith, borrowed_below lane.port.samples sample place e, few)

begun_gives : (slots moment : ℕ) (c : Call) (lane : SubscriberLaneState) → length lane.port.samples ≤ slots
    → GivesSlot slots lane.port.call → GivesSlot slots (subscriber_begun moment c lane).port.call
begun_gives slots moment call.LoanUninit lane few h = h
begun_gives slots moment (call.Write loan payload user_header) lane few h = h
begun_gives slots moment (call.Send loan) lane few h = h
begun_gives slots moment (call.DropLoan loan) lane few h = h
begun_gives slots moment call.Receive lane few h
    = receive_gives slots 0 (is_full_at lane.port.borrowed lane.port.most_borrowed 0) false (slice_get lane.port.routes 0)
begun_gives slots moment (call.Read sample) lane few h
    = read_gives slots sample 0 lane.port.extent (nat_lt 0 (3 + lane.port.extent.user_header_words + lane.port.extent.payload_words))
begun_gives slots moment (call.Release sample) lane few h
    = release_gives slots moment sample (place_of sample lane) (route_at (place_of sample lane) lane) lane refl few h

-- what holds of each port holds after one changed and it holds of that one
each_after : {X : Type 0} (P : X → Type 0) (xs : List X) (place : ℕ) (x y : X) → slice_get xs place ≡ Some x → P y
    → ((i : ℕ) (z : X) → slice_get xs i ≡ Some z → P z)
    → (i : ℕ) (z : X) → slice_get (set xs place y) i ≡ Some z → P z
each_after P xs place x y found h all i z got = elim (eqb_tells i place) [
  | inl same ↦ subst P (sym (set_is xs place i x y z found same.1 got)) h
  | inr differs ↦ all i z (sym (set_other xs place i y differs.1) ∙ got)
]

begun_publisher : (m : World) (place : ℕ) (c : Call) (at : Option PublisherLaneState) → slice_get m.publishers place ≡ at
    → publisher_fits_at at (Begin c) ≡ true → IsWithin m → SlotsNamed m → SlotsNamed (publisher_begins m place c at)
begun_publisher m place c None e fit w k = k
begun_publisher m place c (Some lane) e fit w k =
    let own : IsPublisher m.table.sizes lane = all_at (IsPublisher m.table.sizes) m.publishers place lane e w.publishers in
    record {
      spare = k.spare;
      cells = k.cells;
      publishers = each_after (λ (x : PublisherLaneState). SendsSlot m.table.sizes.slots x.port.call) m.publishers place lane
          (publisher_begun m.moments c lane) e (begun_sends m.table.sizes.slots m.moments c lane fit own.slots) k.publishers;
      subscribers = k.subscribers;
      room = k.room;
    }

begun_subscriber : (m : World) (place : ℕ) (c : Call) (at : Option SubscriberLaneState) → slice_get m.subscribers place ≡ at
    → IsWithin m → SlotsNamed m → SlotsNamed (subscriber_begins m place c at)
begun_subscriber m place c None e w k = k
begun_subscriber m place c (Some lane) e w k =
    let own : IsSubscriber m.table.sizes lane = all_at (IsSubscriber m.table.sizes) m.subscribers place lane e w.subscribers in
    record {
      spare = k.spare;
      cells = k.cells;
      publishers = k.publishers;
      subscribers = each_after (λ (x : SubscriberLaneState). GivesSlot m.table.sizes.slots x.port.call) m.subscribers place lane
          (subscriber_begun m.moments c lane) e
          (begun_gives m.table.sizes.slots m.moments c lane own.slots (k.subscribers place lane e)) k.subscribers;
      room = k.room;
    }

-- the number of slots stays
slots_same : (table : TableWords) (access : SharedAccess) → (after_shared table access).sizes.slots ≡ table.sizes.slots
slots_same table access = ap (λ z. z.slots) (sizes_stay table access).0

gone_publisher : (m : World) (place : ℕ) (at : Option PublisherLaneState) → slice_get m.publishers place ≡ at → IsWithin m
    → SlotsNamed m → SlotsNamed (publisher_goes_on m place at)
gone_publisher m place None e w k = k
gone_publisher m place (Some lane) e w k =
    let own : IsPublisher m.table.sizes lane = all_at (IsPublisher m.table.sizes) m.publishers place lane e w.publishers in
    let access : SharedAccess = publisher_next lane.port.call in
    let sends : SendsSlot m.table.sizes.slots lane.port.call = k.publishers place lane e in
    let words = after_access m.table w.words access ((publishers_stay_within m.table.sizes lane own).2)
    (publisher_stores m.table.sizes.slots lane.port.call sends) k.cells k.spare in
    let same : (after_shared m.table access).sizes.slots ≡ m.table.sizes.slots = slots_same m.table access in
    let given : ℕ = publisher_given m.table lane in
    record {
      spare = words.1;
      cells = words.0;
      publishers = subst (λ (slots : ℕ). (i : ℕ) (z : PublisherLaneState)
          → slice_get (set m.publishers place (publisher_after given lane)) i ≡ Some z → SendsSlot slots z.port.call) (sym same)
          (each_after (λ (x : PublisherLaneState). SendsSlot m.table.sizes.slots x.port.call) m.publishers place lane
          (publisher_after given lane) e (take_sends m.table.sizes.slots lane.port.routes (call_words lane.port) lane.port.call
          given sends) k.publishers);
      subscribers = subst (λ (slots : ℕ). (i : ℕ) (z : SubscriberLaneState) → slice_get m.subscribers i ≡ Some z
          → GivesSlot slots z.port.call) (sym same) k.subscribers;
      room = k.room;
    }

gone_subscriber : (m : World) (place : ℕ) (at : Option SubscriberLaneState) → slice_get m.subscribers place ≡ at → IsWithin m
    → SlotsNamed m → SlotsNamed (subscriber_goes_on m place at)
gone_subscriber m place None e w k = k
gone_subscriber m place (Some lane) e w k =
    let own : IsSubscriber m.table.sizes lane = all_at (IsSubscriber m.table.sizes) m.subscribers place lane e w.subscribers in
    let access : SharedAccess = subscriber_next lane.port.call in
    let gives : GivesSlot m.table.sizes.slots lane.port.call = k.subscribers place lane e in
    let words = after_access m.table w.words access ((subscribers_stay_within m.table.sizes lane own).2)
    (subscriber_stores m.table.sizes.slots lane.port.call gives) k.cells k.spare in
    let same : (after_shared m.table access).sizes.slots ≡ m.table.sizes.slots = slots_same m.table access in
    let given : ℕ = subscriber_given m.table lane in
    let next : SubscriberCall = subscriber_take lane.port.routes lane.port.borrowed lane.port.most_borrowed lane.port.call given in
    let stays = changed_routes (subscriber_change lane.port.call given) (record lane.port { call = next }) in
    record {
      spare = words.1;
      cells = words.0;
      publishers = subst (λ (slots : ℕ). (i : ℕ) (z : PublisherLaneState) → slice_get m.publishers i ≡ Some z
          → SendsSlot slots z.port.call) (sym same) k.publishers;
      subscribers = subst (λ (slots : ℕ). (i : ℕ) (z : SubscriberLaneState)
          → slice_get (set m.subscribers place (subscriber_after given lane)) i ≡ Some z → GivesSlot slots z.port.call) (sym same)
          (each_after (λ (x : SubscriberLaneState). GivesSlot m.table.sizes.slots x.port.call) m.subscribers place lane
          (subscriber_after given lane) e
          (subst (GivesSlot m.table.sizes.slots) (sym stays.1)
          (take_gives m.table.sizes.slots lane.port.routes lane.port.borrowed lane.port.most_borrowed lane.port.call given gives))
          k.subscribers);
      room = k.room;
    }

placed_named : (m : World) (party : Party) → SlotsNamed m → SlotsNamed (placed m party)
placed_named m party k = record { spare = k.spare; cells = k.cells; publishers = k.publishers; subscribers = k.subscribers; room = k.room }

pub happens_named : (m : World) (party : Party) (step : Move) → fits m party step ≡ true → IsWithin m → SlotsNamed m
    → SlotsNamed (happens m party step)
happens_named m (Publisher place) (Begin c) fit w k = begun_publisher m place c (slice_get m.publishers place) refl fit w k
happens_named m (Subscriber place) (Begin c) fit w k = begun_subscriber m place c (slice_get m.subscribers place) refl w k
happens_named m (Publisher place) GoOn fit w k
    = gone_publisher (placed m (Publisher place)) place (slice_get m.publishers place) refl (placed_within m (Publisher place) w)
    (placed_named m (Publisher place) k)
happens_named m (Subscriber place) GoOn fit w k
    = gone_subscriber (placed m (Subscriber place)) place (slice_get m.subscribers place) refl (placed_within m (Subscriber place) w)
    (placed_named m (Subscriber place) k)

-- lanes that were just made: each word is 0
pub start_spare : (sizes : LaneSizes) → slice_index (start sizes).table.words 0 ≡ 0
start_spare sizes = get_or-replicate {A = ℕ} (words_of (table_sizes sizes)) 0 0 0 (omega arith)

pub start_cells : (sizes : LaneSizes) → CellsNameSlots (start sizes).table
start_cells sizes = λ slots connection ring cell is.
    let blank : get_or (replicate (words_of (table_sizes sizes)) 0) (number_of (table_sizes sizes) (cell_of connection ring cell)) 0 ≡ 0 =
    get_or-replicate {A = ℕ} (words_of (table_sizes sizes)) (number_of (table_sizes sizes) (cell_of connection ring cell)) 0 0
    ((within (table_sizes sizes) (cell_of connection ring cell) is).1) in
    omega (arith, blank, slots)
