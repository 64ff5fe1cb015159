-- After a send that was answered the port knows its slot in the ring of each connection that took it, and the rings of the others
-- are as they were.
use Rattle.std.proofs.Common.{ℕ, zero, suc, ◌≡◌, ◌+◌, ◌-◌, ◌<◌, ◌≤◌, ◌^◌, ◌⊎◌, ◌==◌, ◌%◌, Bool, true, false, not, if◌then◌else◌, nat_lt}
use Rattle.std.proofs.Common.{List, [], ◌∷◌, length, set, slice_get, Option, Some, None, IfSome, refl, sym, ◌∙◌, ap, subst, inl, inr}
use Rattle.std.proofs.Common.{arith}
use Rattle.std.proofs.lemmas.Bool.{cases_order, eqb-true, eq-eqb}
use Rattle.std.proofs.lemmas.Nat.{mod_below}
use Rattle.std.proofs.lemmas.Option.{slice_get_within}
use Rattle.iox_lanes_machine.specs.QueuesSteps.Access.{successor}
use Rattle.iox_lanes_machine.specs.QueuesSteps.declared.access.Word.{Word}
use Rattle.iox_lanes_machine.specs.QueuesSteps.declared.access.Word.TheVariants.{Write, Read, Cell}
use Rattle.iox_lanes_machine.specs.QueuesSteps.declared.access.Access.{Access}
use Rattle.iox_lanes_machine.specs.QueuesSteps.declared.access.Access.TheVariants as own
use Rattle.iox_lanes_machine.specs.QueuesSteps.declared.order.PushAnswer.{PushAnswer}
use Rattle.iox_lanes_machine.specs.QueuesSteps.declared.order.PushAnswer.TheVariants.{Kept, LeftOut, Refused}
use Rattle.iox_lanes_machine.specs.QueuesSteps.declared.order.PopAnswer.{PopAnswer}
use Rattle.iox_lanes_machine.specs.QueuesSteps.declared.order.PopAnswer.TheVariants.{Got, Saw}
use Rattle.iox_lanes_machine.specs.QueuesSteps.Overflowing as overflowing
use Rattle.iox_lanes_machine.specs.QueuesSteps.declared.rings.overflowing.push.Push as over_type
use Rattle.iox_lanes_machine.specs.QueuesSteps.declared.rings.overflowing.push.Push.TheVariants as over
use Rattle.iox_lanes_machine.specs.QueuesSteps.Refusing as refusing
use Rattle.iox_lanes_machine.specs.QueuesSteps.declared.rings.refusing.pop.Pop as pop_type
use Rattle.iox_lanes_machine.specs.QueuesSteps.declared.rings.refusing.push.Push.TheVariants as lone
use Rattle.iox_lanes_machine.specs.QueuesSteps.Ends.{push_begun, push_next, push_take}
use Rattle.iox_lanes_machine.specs.QueuesSteps.declared.rings.ends.RingKind.{RingKind}
use Rattle.iox_lanes_machine.specs.QueuesSteps.declared.rings.ends.RingKind.TheVariants as kind
use Rattle.iox_lanes_machine.specs.QueuesSteps.declared.rings.ends.Push.{Push}
use Rattle.iox_lanes_machine.specs.QueuesSteps.declared.rings.ends.Push.TheVariants as ring_push
use Rattle.iox_lanes_machine.specs.LanesBase.Numbers.{words_of, number_of, IsWord, IsSmall}
use Rattle.iox_lanes_machine.specs.LanesBase.Table.{IsOfTable}
use Rattle.iox_lanes_machine.specs.LanesBase.Words.{on_ring}
use Rattle.iox_lanes_machine.specs.LanesBase.declared.words.access.SharedAccess.{SharedAccess}
use Rattle.iox_lanes_machine.specs.LanesBase.declared.words.access.SharedAccess.TheVariants.{Load, Store, Exchange, Local}
use Rattle.iox_lanes_machine.specs.LanesBase.declared.words.word.ConnectionRing.{ConnectionRing}
use Rattle.iox_lanes_machine.specs.LanesBase.declared.words.word.ConnectionRing.TheVariants.{Submission, Completion}
use Rattle.iox_lanes_machine.specs.LanesBase.declared.words.word.SlotWord.{SlotWord}
use Rattle.iox_lanes_machine.specs.LanesBase.declared.words.word.SharedWord.{SharedWord}
use Rattle.iox_lanes_machine.specs.LanesBase.declared.words.word.SharedWord.TheVariants.{Ring, Slot}
use Rattle.iox_lanes_machine.specs.LanesBase.Answers.{refusing_pop_answer, push_answer}
use Rattle.iox_lanes_machine.specs.LanesBase.Publishing.{publisher_next, publisher_take, header_word, head_from, push_from, sweep_from}
use Rattle.iox_lanes_machine.specs.LanesBase.Publishing.{send_reclaimed, pushed, counted, nothing_sent}
use Rattle.iox_lanes_machine.specs.LanesBase.declared.calls.publisher.Delivery.{Delivery}
use Rattle.iox_lanes_machine.specs.LanesBase.declared.calls.publisher.PublisherCall.{PublisherCall}
use Rattle.iox_lanes_machine.specs.LanesBase.declared.calls.publisher.PublisherCall.TheVariants as publishing
use Rattle.iox_lanes_machine.specs.LanesBase.declared.calls.route.Route.{Route}
use Rattle.iox_lanes_machine.specs.LedgerUses.{one_if, total}
use Rattle.iox_lanes_machine.specs.LanesParties.Publishers.{words_of as call_words}
use Rattle.iox_lanes_machine.specs.LanesParties.declared.publisher.slot_book.LoanAnswer.{LoanAnswer}
use Rattle.iox_lanes_machine.specs.LanesParties.Parties.{PublisherLaneState, publisher_fits, publisher_begun, publisher_after}
use Rattle.iox_lanes_machine.specs.LanesParties.Parties.{publisher_answer, head_of}
use Rattle.iox_lanes_machine.specs.LanesParties.Within.{IsPublishing, IsRoute}
use Rattle.iox_lanes_machine.specs.LanesParties.SendAnswers.{send_answer}
use Rattle.iox_lanes_machine.specs.LanesParties.declared.call.SendAnswer.{SendAnswer}
use Rattle.iox_lanes_machine.specs.LanesParties.declared.call.Answer.TheVariants as answer
use Rattle.iox_lanes_machine.specs.LanesParties.declared.call.Call.TheVariants as call
use Rattle.iox_lanes_machine.specs.LanesParties.declared.call.Move.TheVariants.{Begin}
use Rattle.iox_lanes_machine.specs.LanesParties.declared.call.Party.{Party}
use Rattle.iox_lanes_machine.specs.LanesParties.declared.call.Party.TheVariants.{Publisher, Subscriber}
use Rattle.iox_lanes_threads_rule.specs.Rule.{held}
use Rattle.iox_lanes_threads_rule.specs.Service.{Stores}
use Rattle.iox_lanes_threads_rule.specs.Steps.{known_lost}
use Rattle.iox_lanes_threads_rule.specs.Acts.{stepped, ToldBy}
use Rattle.iox_lanes_threads_rule.specs.declared.view.Port.{Port}
use Rattle.iox_lanes_threads_rule.specs.declared.view.PortParty.{PortParty}
use Rattle.iox_lanes_threads_rule.proofs.Held.{at_same, at_other, at_kept}
use Rattle.iox_lanes_threads_ports.specs.Courses.{publisher_party, publisher_stepped}
use Rattle.iox_lanes_threads_ports.specs.Ends.{knows}
use Rattle.iox_lanes_threads_ports.specs.Known.{KnowsPut, KeepsWrite, KnowsSent}
use Rattle.iox_lanes_threads_ports.specs.Paces.{send_steps, PublisherEnds}
use Rattle.iox_lanes_threads_ports.specs.Ports.{PublisherStands}
use Rattle.iox_lanes_threads_ports.specs.Values.{PublisherPort, Sends}
use Rattle.iox_lanes_threads_ports.proofs.Connections.{few_connections, small_connections}
use Rattle.iox_lanes_threads_ports.proofs.KnownReleases.{Putting, put_goes, write_cell, read_write}
use Rattle.iox_lanes_threads_ports.proofs.KnownWrites.{publisher_along}
use Rattle.iox_lanes_threads_ports.proofs.PublisherSteps as publishers
use Rattle.iox_lanes_threads_ports.proofs.Running.{publisher_begun_stands}

-- the access touches another word
abbrev Off : SharedAccess → SharedWord → Type 0
Off (Load w) v = v ≡ w → ⊥
Off (Store w new) v = v ≡ w → ⊥
Off (Exchange w old new) v = v ≡ w → ⊥
Off Local v = Unit {0}

-- a word that a publisher's step doesn't touch stays known as it was
leaves : (q : Port) (place : ℕ) (access : SharedAccess) (n : ℕ) (after : ℕ → PortParty) (v : SharedWord) → q.name ≡ Publisher place
    → IsOfTable q.service.sizes access → IsWord q.service.sizes v → Off access v → knows (stepped q access n after) v ≡ knows q v
leaves q place (Load w) n after v name is there off = at_other q.service q.known w v n is there off
leaves q place (Store w new) n after v name is there off = at_other q.service q.known w v new is there off
leaves q place (Exchange w old new) n after v name is there off = by_test (n == old) q.name name
  where
    by_test : (b : Bool) (who : Party) → who ≡ Publisher place
        → held q.service (if b then set q.known (number_of q.service.sizes w) new else known_lost who q.known
        (number_of q.service.sizes w) n) v ≡ knows q v
    by_test true who e = at_other q.service q.known w v new is there off
    by_test false (Publisher x) e = at_other q.service q.known w v n is there off
    by_test false (Subscriber x) e = absurd (cc e)
leaves q place Local n after v name is there off = refl

-- an access to one ring touches no word of another
off_ring : (c : ℕ) (ring : ConnectionRing) (cells : ℕ) (access : Access) (v : SharedWord) → ((word : Word) → v ≡ Ring c ring word → ⊥)
    → Off (on_ring c ring cells access) v
off_ring c ring cells (own.Load word) v off = off _
off_ring c ring cells (own.Store word value) v off = off _
off_ring c ring cells (own.Exchange word old new) v off = off _
off_ring c ring cells own.Local v off = tt

other_connection : (c d : ℕ) (word at : Word) → (c ≡ d → ⊥) → Ring c Submission word ≡ Ring d Submission at → ⊥
other_connection c d word at off e = off (connection_is e)
  where
    connection_is : Ring c Submission word ≡ Ring d Submission at → c ≡ d
    connection_is h = cc h

other_ring : (c d : ℕ) (word at : Word) → Ring c Submission word ≡ Ring d Completion at → ⊥
other_ring c d word at e = cc e

no_slot : (c slot : ℕ) (word : Word) (x : SlotWord) → Ring c Submission word ≡ Slot slot x → ⊥
no_slot c slot word x e = cc e

-- what a push on a ring that overflows has put by now
abbrev OverPutting : Port → ℕ → ℕ → ℕ → Port → over_type.Push → Type 0
OverPutting p c cells slot q over.Idle = Unit {0}
OverPutting p c cells slot q (over.Begun limit v) = (v ≡ slot) × KeepsWrite p q c Submission
OverPutting p c cells slot q (over.SawWrite limit v write next) = (v ≡ slot) × (write ≡ knows p (Ring c Submission Write))
    × (next ≡ successor write)
OverPutting p c cells slot q (over.SawRead limit v write next read) = (v ≡ slot) × (write ≡ knows p (Ring c Submission Write))
    × (next ≡ successor write)
OverPutting p c cells slot q (over.Filled limit v write next read) =
    (next ≡ successor (knows p (Ring c Submission Write)))
    × (knows q (Ring c Submission (Cell (knows p (Ring c Submission Write) % cells))) ≡ slot)
OverPutting p c cells slot q (over.Full v read next) = KnowsPut p q c Submission cells slot
OverPutting p c cells slot q (over.SawOldest v read next oldest) = KnowsPut p q c Submission cells slot
OverPutting p c cells slot q (over.Pushed v Kept) = KnowsPut p q c Submission cells slot
OverPutting p c cells slot q (over.Pushed v (LeftOut oldest)) = KnowsPut p q c Submission cells slot
OverPutting p c cells slot q (over.Pushed v Refused) = ⊥

cell_read : (c k : ℕ) → Ring c Submission (Cell k) ≡ Ring c Submission Read → ⊥
cell_read c k e = cc e

module _ (p : Port) (c cells slot : ℕ) (q : Port) (place n : ℕ) (after : ℕ → PortParty) (name : q.name ≡ Publisher place)
    (wide : length q.known ≡ words_of q.service.sizes) (write : IsWord q.service.sizes (Ring c Submission Write))
    (read : IsWord q.service.sizes (Ring c Submission Read))
    (cell : (k : ℕ) → IsWord q.service.sizes (Ring c Submission (Cell (k % cells))))
    (mine : Stores q.service q.name (Ring c Submission Write)) where
  filled : (q' : Port) (limit v next seen : ℕ) (b : Bool) → KnowsPut p q' c Submission cells slot
      → OverPutting p c cells slot q' (if b then over.Full v seen (successor seen) else over.Pushed v Kept)
  filled q' limit v next seen true h = h
  filled q' limit v next seen false h = h

  swapped : (q' : Port) (v oldest : ℕ) (b : Bool) → KnowsPut p q' c Submission cells slot
      → OverPutting p c cells slot q' (over.Pushed v (if b then LeftOut oldest else Kept))
  swapped q' v oldest true h = h
  swapped q' v oldest false h = h

  over_goes : (push : over_type.Push) → OverPutting p c cells slot q push
      → ToldBy q (on_ring c Submission cells (overflowing.push_next push)) n
      → OverPutting p c cells slot (stepped q (on_ring c Submission cells (overflowing.push_next push)) n after)
      (overflowing.push_take push n)
  over_goes over.Idle h told = tt
  over_goes (over.Begun limit v) h told = (h.0, sym (told.0.own mine) ∙ h.1, refl)
  over_goes (over.SawWrite limit v at next) h told = h
  over_goes (over.SawRead limit v at next seen) h told = (
    h.2 ∙ ap successor h.1,
    subst (λ (k : ℕ). knows (stepped q (on_ring c Submission cells (overflowing.push_next (over.SawRead limit v at next seen))) n after)
        (Ring c Submission (Cell (k % cells))) ≡ slot) h.1
        (at_same q.service q.known (Ring c Submission (Cell (at % cells))) v wide (cell at) ∙ h.0),
  )
  over_goes (over.Filled limit v at next seen) h told =
      filled (stepped q (on_ring c Submission cells (overflowing.push_next (over.Filled limit v at next seen))) n after) limit v next
      seen (nat_lt limit (next - seen)) (
        at_same q.service q.known (Ring c Submission Write) next wide write ∙ h.0,
        at_other q.service q.known (Ring c Submission Write) (Ring c Submission (Cell (knows p (Ring c Submission Write) % cells))) next
            write (cell (knows p (Ring c Submission Write))) (write_cell c (knows p (Ring c Submission Write) % cells) Submission) ∙ h.1,
      )
  over_goes (over.Full v seen next) h told =
      let w : SharedWord = Ring c Submission (Cell (seen % cells)) in
      let kept : (v : SharedWord) → IsWord q.service.sizes v → held q.service (set q.known (number_of q.service.sizes w) n) v ≡ knows q v =
      λ v is. subst (λ (x : ℕ). held q.service (set q.known (number_of q.service.sizes w) x) v ≡ knows q v) (told.0.own mine)
      (at_kept q.service q.known w v wide (cell seen) is) in (
        kept (Ring c Submission Write) write ∙ h.0,
        kept (Ring c Submission (Cell (knows p (Ring c Submission Write) % cells)))
            (cell (knows p (Ring c Submission Write))) ∙ h.1,
      )
  over_goes (over.SawOldest v seen next oldest) h told =
      let access : SharedAccess = on_ring c Submission cells (overflowing.push_next (over.SawOldest v seen next oldest)) in
      swapped (stepped q (on_ring c Submission cells (overflowing.push_next (over.SawOldest v seen next oldest))) n after) v oldest
      (n == seen) (
        leaves q place access n after (Ring c Submission Write) name read write (λ e. read_write c Submission (sym e)) ∙ h.0,
        leaves q place access n after (Ring c Submission (Cell (knows p (Ring c Submission Write) % cells))) name read
            (cell (knows p (Ring c Submission Write))) (cell_read c (knows p (Ring c Submission Write) % cells)) ∙ h.1,
      )
  over_goes (over.Pushed v given) h told = tt

-- what the push in hand has put by now
abbrev PushPutting : Port → Route → ℕ → Port → Push → Type 0
PushPutting p route slot q (ring_push.Overflowing push) = OverPutting p route.connection route.submission_cells slot q push
PushPutting p route slot q (ring_push.Refusing push) = (route.kind ≡ kind.Refusing)
    × Putting p route.connection Submission route.submission_cells slot q push

-- what was sent at the first connections
record SentTo (p q : Port) (routes : List Route) (slot upto : ℕ) (delivery : Delivery) : Type 0 where
  few : upto ≤ length routes
  got : ℕ → Bool
  puts : (place : ℕ) (route : Route) → slice_get routes place ≡ Some route → place < upto → got place ≡ true
      → KnowsPut p q route.connection Submission route.submission_cells slot
  left : (place : ℕ) (route : Route) → slice_get routes place ≡ Some route → place < upto → got place ≡ false
      → (route.kind ≡ kind.Refusing) × KeepsWrite p q route.connection Submission
  taken : delivery.taken ≡ total got upto
  refused : delivery.refused ≡ total (λ place. not (got place)) upto

-- from a connection on nothing was put yet
abbrev Rest : Port → Port → List Route → ℕ → Type 0
Rest p q routes from = (place : ℕ) (route : Route) → slice_get routes place ≡ Some route → from ≤ place
    → KeepsWrite p q route.connection Submission

abbrev InPushes : Port → ℕ → List Route → Port → PublisherCall → Type 0
InPushes p slot routes q publishing.Idle = Unit {0}
InPushes p slot routes q (publishing.LoanReclaims place route pop) = ⊥
InPushes p slot routes q publishing.Lending = ⊥
InPushes p slot routes q (publishing.Writing s w v) = ⊥
InPushes p slot routes q (publishing.Written s) = ⊥
InPushes p slot routes q (publishing.Heading s w v) = (s ≡ slot) × Rest p q routes 0
InPushes p slot routes q (publishing.Remembering s) = (s ≡ slot) × Rest p q routes 0
InPushes p slot routes q (publishing.SendReclaims s place route pop) = (s ≡ slot) × Rest p q routes 0
InPushes p slot routes q (publishing.Pushing s place route push delivery) = (s ≡ slot) × SentTo p q routes slot place delivery
    × Rest p q routes (place + 1) × PushPutting p route slot q push
InPushes p slot routes q (publishing.Sent s delivery) = SentTo p q routes slot (length routes) delivery
InPushes p slot routes q (publishing.Dropping s) = ⊥

head_pushes : (p : Port) (slot : ℕ) (routes : List Route) (q : Port) (s word : ℕ) (at : Option ℕ) → s ≡ slot → Rest p q routes 0
    → InPushes p slot routes q (head_from s word at)
head_pushes p slot routes q s word None e rest = (e, rest)
head_pushes p slot routes q s word (Some value) e rest = (e, rest)

begun_putting : (p : Port) (route : Route) (slot : ℕ) (q : Port) (s : ℕ) (k : RingKind) → route.kind ≡ k → s ≡ slot
    → KeepsWrite p q route.connection Submission → PushPutting p route slot q (push_begun k route.limit s)
begun_putting p route slot q s kind.Overflowing e f keeps = (f, keeps)
begun_putting p route slot q s kind.Refusing e f keeps = (e, (f, keeps))

past_none : (routes : List Route) (n : ℕ) → slice_get routes n ≡ None → length routes ≤ n
past_none [] n e = omega arith
past_none (route ∷ routes) zero e = absurd (cc e)
past_none (route ∷ routes) (suc n) e = let rest = past_none routes n e in omega (arith, rest)

push_pushes : (p : Port) (slot : ℕ) (routes : List Route) (q : Port) (s place : ℕ) (delivery : Delivery) (at : Option Route)
    → slice_get routes place ≡ at → s ≡ slot → SentTo p q routes slot place delivery → Rest p q routes place
    → InPushes p slot routes q (push_from s place delivery at)
push_pushes p slot routes q s place delivery None e f sent rest =
    let past = past_none routes place e in
    let few = sent.few in
    let all : place ≡ length routes = omega (arith, past, few) in
    subst (λ (n : ℕ). SentTo p q routes slot n delivery) all sent
push_pushes p slot routes q s place delivery (Some route) e f sent rest = (
  f,
  sent,
  (λ k r found more. rest k r found (omega (arith, more))),
  begun_putting p route slot q s route.kind refl f
      (rest place route e (omega arith)),
)

nothing_yet : (p q : Port) (routes : List Route) (slot : ℕ) → SentTo p q routes slot 0 nothing_sent
nothing_yet p q routes slot = record {
  few = omega arith;
  got = λ place. false;
  puts = λ place route found less. absurd (omega (arith, less));
  left = λ place route found less. absurd (omega (arith, less));
  taken = refl;
  refused = refl;
}

sweep_pushes : (p : Port) (slot : ℕ) (routes : List Route) (q : Port) (s place : ℕ) (at : Option Route) → s ≡ slot → Rest p q routes 0
    → InPushes p slot routes q (sweep_from routes s place at)
sweep_pushes p slot routes q s place None e rest
    = push_pushes p slot routes q s 0 nothing_sent (slice_get routes 0) refl e (nothing_yet p q routes slot) rest
sweep_pushes p slot routes q s place (Some route) e rest = (e, rest)

swept_pushes : (p : Port) (slot : ℕ) (routes : List Route) (q : Port) (s place : ℕ) (route : Route) (pop : pop_type.Pop)
    (a : Option PopAnswer) → s ≡ slot → Rest p q routes 0 → InPushes p slot routes q (send_reclaimed routes s place route pop a)
swept_pushes p slot routes q s place route pop None e rest = (e, rest)
swept_pushes p slot routes q s place route pop (Some (Got (Some back))) e rest = (e, rest)
swept_pushes p slot routes q s place route pop (Some (Got None)) e rest
    = sweep_pushes p slot routes q s (successor place) (slice_get routes (successor place)) e rest
swept_pushes p slot routes q s place route pop (Some (Saw some)) e rest
    = sweep_pushes p slot routes q s (successor place) (slice_get routes (successor place)) e rest

-- one more of them
total_same : (f g : ℕ → Bool) (n : ℕ) → ((k : ℕ) → k < n → f k ≡ g k) → total f n ≡ total g n
total_same f g zero same = refl
total_same f g (suc n) same = let before
    = total_same f g n (λ k less. same k (omega (arith, less))) in omega (arith, before, ap one_if (same n (omega arith)))

one_most : (b : Bool) → one_if b ≤ 1
one_most true = omega arith
one_most false = omega arith

total_most : (f : ℕ → Bool) (n : ℕ) → total f n ≤ n
total_most f zero = omega arith
total_most f (suc n) = let before = total_most f n in omega (arith, before, one_most (f n))

-- what is said of the next connection besides those before it
abbrev with_next : (ℕ → Bool) → ℕ → Bool → ℕ → Bool
with_next got upto b k = if k == upto then b else got k

next_here : (got : ℕ → Bool) (upto : ℕ) (b : Bool) → with_next got upto b upto ≡ b
next_here got upto b = ap (λ (t : Bool). if t then b else got upto) (eq-eqb upto upto refl)

next_before : (got : ℕ → Bool) (upto : ℕ) (b : Bool) (k : ℕ) → k < upto → with_next got upto b k ≡ got k
next_before got upto b k less = by_test (k == upto) refl
  where
    by_test : (t : Bool) → (k == upto) ≡ t → (if t then b else got k) ≡ got k
    by_test true e = let same : k ≡ upto = eqb-true k upto e in absurd (omega (arith, less, same))
    by_test false e = refl

here_or_before : (k n : ℕ) → k < suc n → (k ≡ n) ⊎ (k < n)
here_or_before k n less = elim (cases_order k n) [
  | inl same ↦ inl same
  | inr other ↦ elim other [
    | inl below ↦ inr below
    | inr above ↦ absurd (omega (arith, less, above))
  ]
]

same_route : (routes : List Route) (place upto : ℕ) (route other : Route) → slice_get routes upto ≡ Some route
    → slice_get routes place ≡ Some other → place ≡ upto → route ≡ other
same_route routes place upto route other found found' e = same (sym found ∙ ap (slice_get routes) (sym e) ∙ found')
  where
    same : Some route ≡ Some other → route ≡ other
    same h = cc h

-- the next connection got it, or not
module _ (p q : Port) (routes : List Route) (slot upto : ℕ) (delivery : Delivery) (route : Route)
    (found : slice_get routes upto ≡ Some route) (small : length routes < 2 ^ 62) (sent : SentTo p q routes slot upto delivery) where
  below : upto < length routes
  below = slice_get_within routes upto route found

  totals : (b : Bool) → total (with_next sent.got upto b) (suc upto) ≡ total sent.got upto + one_if b
  totals b =
      let before = total_same (with_next sent.got upto b) sent.got upto (next_before sent.got upto b) in
      omega (arith, before, ap one_if (next_here sent.got upto b))

  nots : (b : Bool) → total (λ k. not (with_next sent.got upto b k)) (suc upto) ≡ total (λ k. not (sent.got k)) upto + one_if (not b)
  nots b =
      let before = total_same (λ k. not (with_next sent.got upto b k)) (λ k. not (sent.got k)) upto
      (λ k less. ap (λ (x : Bool). not x) (next_before sent.got upto b k less)) in
      omega (arith, before, ap (λ (x : Bool). one_if (not x)) (next_here sent.got upto b))

  got_it : KnowsPut p q route.connection Submission route.submission_cells slot
      → SentTo p q routes slot (suc upto) (record delivery { taken = successor delivery.taken })
  got_it put = record {
    few = let less = below in omega (arith, less);
    got = with_next sent.got upto true;
    puts = λ place other there less yes. elim (here_or_before place upto less) [
      | inl same ↦ subst (λ (r : Route). KnowsPut p q r.connection Submission r.submission_cells slot)
          (same_route routes place upto route other found there same) put
      | inr earlier ↦ sent.puts place other there earlier (sym (next_before sent.got upto true place earlier) ∙ yes)
    ];
    left = λ place other there less no. elim (here_or_before place upto less) [
      | inl same ↦ absurd (cc (sym (next_here sent.got upto true) ∙ ap (with_next sent.got upto true) (sym same) ∙ no))
      | inr earlier ↦ sent.left place other there earlier (sym (next_before sent.got upto true place earlier) ∙ no)
    ];
    taken = let less = below in let was = sent.taken in omega (arith, totals true, was, total_most sent.got upto, less, small);
    refused = let was = sent.refused in omega (arith, nots true, was);
  }

  left_out : (route.kind ≡ kind.Refusing) × KeepsWrite p q route.connection Submission
      → SentTo p q routes slot (suc upto) (record delivery { refused = successor delivery.refused })
  left_out keeps = record {
    few = let less = below in omega (arith, less);
    got = with_next sent.got upto false;
    puts = λ place other there less yes. elim (here_or_before place upto less) [
      | inl same ↦ absurd (cc (sym (next_here sent.got upto false) ∙ ap (with_next sent.got upto false) (sym same) ∙ yes))
      | inr earlier ↦ sent.puts place other there earlier (sym (next_before sent.got upto false place earlier) ∙ yes)
    ];
    left = λ place other there less no. elim (here_or_before place upto less) [
      | inl same ↦ subst (λ (r : Route). (r.kind ≡ kind.Refusing) × KeepsWrite p q r.connection Submission)
          (same_route routes place upto route other found there same) keeps
      | inr earlier ↦ sent.left place other there earlier (sym (next_before sent.got upto false place earlier) ∙ no)
    ];
    taken = let was = sent.taken in omega (arith, totals false, was);
    refused = let less = below in let was
        = sent.refused in omega (arith, nots false, was, total_most (λ k. not (sent.got k)) upto, less, small);
  }

-- what a push that is over has done
abbrev Outcome : Port → Port → Route → ℕ → PushAnswer → Type 0
Outcome p q route slot Kept = KnowsPut p q route.connection Submission route.submission_cells slot
Outcome p q route slot (LeftOut oldest) = KnowsPut p q route.connection Submission route.submission_cells slot
Outcome p q route slot Refused = (route.kind ≡ kind.Refusing) × KeepsWrite p q route.connection Submission

same_answer : {x y : PushAnswer} → Some x ≡ Some y → x ≡ y
same_answer e = cc e

answered : (p : Port) (route : Route) (slot : ℕ) (q : Port) (push : Push) (a : PushAnswer) → push_answer push ≡ Some a
    → PushPutting p route slot q push → Outcome p q route slot a
answered p route slot q (ring_push.Overflowing over.Idle) a e h = absurd (cc e)
answered p route slot q (ring_push.Overflowing (over.Begun limit v)) a e h = absurd (cc e)
answered p route slot q (ring_push.Overflowing (over.SawWrite limit v at next)) a e h = absurd (cc e)
answered p route slot q (ring_push.Overflowing (over.SawRead limit v at next seen)) a e h = absurd (cc e)
answered p route slot q (ring_push.Overflowing (over.Filled limit v at next seen)) a e h = absurd (cc e)
answered p route slot q (ring_push.Overflowing (over.Full v seen next)) a e h = absurd (cc e)
answered p route slot q (ring_push.Overflowing (over.SawOldest v seen next oldest)) a e h = absurd (cc e)
answered p route slot q (ring_push.Overflowing (over.Pushed v Kept)) a e h = subst (Outcome p q route slot) (same_answer e) h
answered p route slot q (ring_push.Overflowing (over.Pushed v (LeftOut oldest))) a e h = subst (Outcome p q route slot) (same_answer e) h
answered p route slot q (ring_push.Overflowing (over.Pushed v Refused)) a e h = absurd h
answered p route slot q (ring_push.Refusing lone.Idle) a e h = absurd (cc e)
answered p route slot q (ring_push.Refusing (lone.Begun limit v)) a e h = absurd (cc e)
answered p route slot q (ring_push.Refusing (lone.SawWrite limit v at next)) a e h = absurd (cc e)
answered p route slot q (ring_push.Refusing (lone.SawRoom v at next)) a e h = absurd (cc e)
answered p route slot q (ring_push.Refusing (lone.Filled v next)) a e h = absurd (cc e)
answered p route slot q (ring_push.Refusing (lone.Pushed v Kept)) a e h = subst (Outcome p q route slot) (same_answer e) h.1
answered p route slot q (ring_push.Refusing (lone.Pushed v (LeftOut oldest))) a e h = absurd h.1
answered p route slot q (ring_push.Refusing (lone.Pushed v Refused)) a e h = subst (Outcome p q route slot) (same_answer e) h

counted_to : (p q : Port) (routes : List Route) (slot upto : ℕ) (delivery : Delivery) (route : Route) (a : PushAnswer)
    → slice_get routes upto ≡ Some route → length routes < 2 ^ 62 → SentTo p q routes slot upto delivery → Outcome p q route slot a
    → SentTo p q routes slot (suc upto) (counted delivery a)
counted_to p q routes slot upto delivery route Kept found small sent did = got_it p q routes slot upto delivery route found small sent did
counted_to p q routes slot upto delivery route (LeftOut oldest) found small sent did
    = got_it p q routes slot upto delivery route found small sent did
counted_to p q routes slot upto delivery route Refused found small sent did
    = left_out p q routes slot upto delivery route found small sent did

module _ (p : Port) (slot : ℕ) (q : Port) (now : PublisherLaneState) (stands : PublisherStands q now) (n : ℕ) (after : ℕ → PortParty)
    (small : length now.port.routes < 2 ^ 62) where
  -- the words of the ring of messages of a connection
  write_there : (place : ℕ) (route : Route) → slice_get now.port.routes place ≡ Some route
      → IsWord q.service.sizes (Ring route.connection Submission Write)
  write_there place route found = ((publishers.route_at q now stands place route found).connection, tt)

  cell_there : (place : ℕ) (route : Route) → slice_get now.port.routes place ≡ Some route → (k : ℕ)
      → IsWord q.service.sizes (Ring route.connection Submission (Cell (k % route.submission_cells)))
  cell_there place route found k =
      let is : IsRoute q.service.sizes route = publishers.route_at q now stands place route found in
      let fits = is.submission in
      (is.connection, omega (arith, mod_below k route.submission_cells is.sends, fits))

  -- a step that touches no ring of messages
  rest_stays : (access : SharedAccess) → IsOfTable q.service.sizes access
      → ((c : ℕ) (word : Word) → Off access (Ring c Submission word)) → Rest p q now.port.routes 0
      → Rest p (stepped q access n after) now.port.routes 0
  rest_stays access is off rest place route found more
      = leaves q stands.place access n after (Ring route.connection Submission Write) stands.name is (write_there place route found)
      (off route.connection Write) ∙ rest place route found more

  -- one that touches that of one connection leaves those of the others
  module _ (at : ℕ) (mine : Route) (found : slice_get now.port.routes at ≡ Some mine) (access : Access)
      (is : IsOfTable q.service.sizes (on_ring mine.connection Submission mine.submission_cells access)) where
    beside : (place : ℕ) (route : Route) → slice_get now.port.routes place ≡ Some route → (place ≡ at → ⊥) → (word : Word)
        → IsWord q.service.sizes (Ring route.connection Submission word)
        → knows (stepped q (on_ring mine.connection Submission mine.submission_cells access) n after)
        (Ring route.connection Submission word) ≡ knows q (Ring route.connection Submission word)
    beside place route there off word there' =
        leaves q stands.place (on_ring mine.connection Submission mine.submission_cells access) n after
        (Ring route.connection Submission word) stands.name is there'
        (off_ring mine.connection Submission mine.submission_cells access (Ring route.connection Submission word)
        (λ w. other_connection route.connection mine.connection word w (λ e. off (stands.once place at route mine there found e))))

    sent_stays : (delivery : Delivery) → SentTo p q now.port.routes slot at delivery
        → SentTo p (stepped q (on_ring mine.connection Submission mine.submission_cells access) n after) now.port.routes slot at delivery
    sent_stays delivery sent = record {
      few = sent.few;
      got = sent.got;
      puts = λ place route there less yes.
          let put = sent.puts place route there less yes in
          let off : place ≡ at → ⊥ = λ e. absurd (omega (arith, less, e)) in (
            beside place route there off Write (write_there place route there) ∙ put.0,
            beside place route there off (Cell (knows p (Ring route.connection Submission Write) % route.submission_cells))
                (cell_there place route there (knows p (Ring route.connection Submission Write))) ∙ put.1,
          );
      left = λ place route there less no.
          let keeps = sent.left place route there less no in
          (keeps.0, beside place route there (λ e. absurd (omega (arith, less, e))) Write (write_there place route there) ∙ keeps.1);
      taken = sent.taken;
      refused = sent.refused;
    }

    rest_beside : Rest p q now.port.routes (at + 1)
        → Rest p (stepped q (on_ring mine.connection Submission mine.submission_cells access) n after) now.port.routes (at + 1)
    rest_beside rest place route there more
        = beside place route there (λ e. absurd (omega (arith, more, e))) Write (write_there place route there) ∙ rest place route there
        more

  putting_goes : (at : ℕ) (mine : Route) (found : slice_get now.port.routes at ≡ Some mine) (push : Push)
      → PushPutting p mine slot q push → ToldBy q (on_ring mine.connection Submission mine.submission_cells (push_next push)) n
      → PushPutting p mine slot (stepped q (on_ring mine.connection Submission mine.submission_cells (push_next push)) n after)
      (push_take push n)
  putting_goes at mine found (ring_push.Overflowing push) h told =
      over_goes p mine.connection mine.submission_cells slot q stands.place n after stands.name stands.wide (write_there at mine found)
      (write_there at mine found) (cell_there at mine found)
      (publishers.is_sender q.service q.name mine (publishers.end_at q now stands at mine found)) push h told
  putting_goes at mine found (ring_push.Refusing push) h told = (
    h.0,
    put_goes p mine.connection Submission mine.submission_cells slot q n after stands.wide (write_there at mine found)
        (write_there at mine found) (cell_there at mine found)
        (publishers.is_sender q.service q.name mine (publishers.end_at q now stands at mine found)) push h.1 told,
  )

  pushed_on : (q' : Port) (s at : ℕ) (mine : Route) (push : Push) (delivery : Delivery) (a : Option PushAnswer) → push_answer push ≡ a
      → slice_get now.port.routes at ≡ Some mine → s ≡ slot → SentTo p q' now.port.routes slot at delivery
      → Rest p q' now.port.routes (at + 1) → PushPutting p mine slot q' push
      → InPushes p slot now.port.routes q' (pushed now.port.routes s at mine push delivery a)
  pushed_on q' s at mine push delivery None e found f sent rest put = (f, sent, rest, put)
  pushed_on q' s at mine push delivery (Some a) e found f sent rest put =
      let less : at < length now.port.routes = slice_get_within now.port.routes at mine found in
      let next : suc at ≡ successor at = omega (arith, less, small) in
      let all : SentTo p q' now.port.routes slot (suc at) (counted delivery a)
      = counted_to p q' now.port.routes slot at delivery mine a found small sent (answered p mine slot q' push a e put) in
      push_pushes p slot now.port.routes q' s (successor at) (counted delivery a) (slice_get now.port.routes (successor at)) refl f
      (subst (λ (k : ℕ). SentTo p q' now.port.routes slot k (counted delivery a)) next all)
      (λ place route there more. rest place route there (omega (arith, more, next)))

  pushes_go : (c : PublisherCall) → IsPublishing q.service.sizes now.port.routes (call_words now.port) c
      → IsOfTable q.service.sizes (publisher_next c) → ToldBy q (publisher_next c) n → InPushes p slot now.port.routes q c
      → InPushes p slot now.port.routes (stepped q (publisher_next c) n after) (publisher_take now.port.routes (call_words now.port) c n)
  pushes_go publishing.Idle at is told h = tt
  pushes_go (publishing.LoanReclaims place route pop) at is told h = absurd h
  pushes_go publishing.Lending at is told h = absurd h
  pushes_go (publishing.Writing s w v) at is told h = absurd h
  pushes_go (publishing.Written s) at is told h = absurd h
  pushes_go (publishing.Heading s w v) at is told h =
      head_pushes p slot now.port.routes (stepped q (publisher_next (publishing.Heading s w v)) n after) s (successor w)
      (slice_get (call_words now.port) (successor w)) h.0
      (rest_stays (publisher_next (publishing.Heading s w v)) is (λ c word. no_slot c s word (header_word w)) h.1)
  pushes_go (publishing.Remembering s) at is told h = sweep_pushes p slot now.port.routes q s 0 (slice_get now.port.routes 0) h.0 h.1
  pushes_go (publishing.SendReclaims s place route pop) at is told h =
      swept_pushes p slot now.port.routes (stepped q (publisher_next (publishing.SendReclaims s place route pop)) n after) s place route
      (refusing.pop_take pop n) (refusing_pop_answer (refusing.pop_take pop n)) h.0
      (rest_stays (publisher_next (publishing.SendReclaims s place route pop)) is
      (λ c word. off_ring route.connection Completion route.completion_cells (refusing.pop_next pop) (Ring c Submission word)
      (λ w. other_ring c route.connection word w)) h.1)
  pushes_go (publishing.Pushing s place route push delivery) at is told h =
      pushed_on (stepped q (publisher_next (publishing.Pushing s place route push delivery)) n after) s place route (push_take push n)
      delivery (push_answer (push_take push n)) refl at h.0
      (sent_stays place route at (push_next push) is delivery h.1) (rest_beside place route at (push_next push) is h.2)
      (putting_goes place route at push h.3 told)
  pushes_go (publishing.Sent s delivery) at is told h = tt
  pushes_go (publishing.Dropping s) at is told h = absurd h

-- a publisher that sends: few connections, and where it stands
record Pushes (p : Port) (slot : ℕ) (fails : Bool) (routes : List Route) (q : Port) (lane : PublisherLaneState) : Type 0 where
  same : lane.port.routes ≡ routes
  failing : lane.fails ≡ fails
  small : length lane.port.routes < 2 ^ 62
  stage : InPushes p slot lane.port.routes q lane.port.call

pushes_on : (p : Port) (slot : ℕ) (fails : Bool) (routes : List Route) (q : Port) (now : PublisherLaneState) (n : ℕ)
    → PublisherStands q now → ToldBy q (publisher_next now.port.call) n → Pushes p slot fails routes q now
    → Pushes p slot fails routes (publisher_stepped q now n) (publisher_after n now)
pushes_on p slot fails routes q now n stands told h = record {
  same = h.same;
  failing = h.failing;
  small = h.small;
  stage = pushes_go p slot q now stands n (publisher_party now) h.small now.port.call stands.within.call
      (publishers.of_table q now stands) told h.stage;
}

-- what a send tells that ends, and what it did
record Told (p q : Port) (fails : Bool) (routes : List Route) (slot : ℕ) (given : SendAnswer) : Type 0 where
  delivery : Delivery
  told : given ≡ send_answer fails delivery
  sent : SentTo p q routes slot (length routes) delivery

over_sent : (p : Port) (slot : ℕ) (fails : Bool) (routes : List Route) (q : Port) (c : PublisherCall) (loan : Option LoanAnswer)
    (given : SendAnswer) → InPushes p slot routes q c → publisher_answer fails c loan ≡ Some (answer.Sent given)
    → Told p q fails routes slot given
over_sent p slot fails routes q publishing.Idle loan given h e = absurd (cc e)
over_sent p slot fails routes q (publishing.LoanReclaims place route pop) loan given h e = absurd h
over_sent p slot fails routes q publishing.Lending loan given h e = absurd h
over_sent p slot fails routes q (publishing.Writing s w v) loan given h e = absurd h
over_sent p slot fails routes q (publishing.Written s) loan given h e = absurd h
over_sent p slot fails routes q (publishing.Heading s w v) loan given h e = absurd (cc e)
over_sent p slot fails routes q (publishing.Remembering s) loan given h e = absurd (cc e)
over_sent p slot fails routes q (publishing.SendReclaims s place route pop) loan given h e = absurd (cc e)
over_sent p slot fails routes q (publishing.Pushing s place route push delivery) loan given h e = absurd (cc e)
over_sent p slot fails routes q (publishing.Sent s delivery) loan given h e = record { delivery = delivery; told = same_answer e; sent = h }
  where
    same_answer : Some (answer.Sent (send_answer fails delivery)) ≡ Some (answer.Sent given) → given ≡ send_answer fails delivery
    same_answer f = cc f
over_sent p slot fails routes q (publishing.Dropping s) loan given h e = absurd h

sent_all : (p q : Port) (fails : Bool) (routes : List Route) (slot : ℕ) (given : SendAnswer) → Told p q fails routes slot given
    → KnowsSent p q fails routes slot given
sent_all p q fails routes slot given t = record {
  delivery = t.delivery;
  told = t.told;
  got = t.sent.got;
  puts = λ place route found yes. t.sent.puts place route found (slice_get_within routes place route found) yes;
  left = λ place route found no. t.sent.left place route found (slice_get_within routes place route found) no;
  taken = t.sent.taken;
  refused = t.sent.refused;
}

-- a send that was answered
send_pushes : (most : ℕ) (p : Port) (lane : PublisherLaneState) (loan : ℕ) (q : Port) (now : PublisherLaneState) (given : SendAnswer)
    → IsSmall p.service.sizes → PublisherStands p lane → publisher_fits lane (Begin (call.Send loan)) ≡ true
    → PublisherEnds most p (publisher_begun 0 (call.Send loan) lane) q now (answer.Sent given)
    → KnowsSent p q lane.fails lane.port.routes loan given
send_pushes most p lane loan q now given small stands fit run =
    let ready : PublisherStands p (publisher_begun 0 (call.Send loan) lane)
    = publisher_begun_stands p lane (Begin (call.Send loan)) stands fit in
    let few = few_connections p.service.sizes lane.port.routes stands.once stands.within.routes in
    let first : Pushes p loan lane.fails lane.port.routes p (publisher_begun 0 (call.Send loan) lane) = record {
      same = refl;
      failing = refl;
      small = omega (arith, few, small_connections p.service.sizes small);
      stage = head_pushes p loan lane.port.routes p loan 0 (slice_get (head_of loan lane) 0) refl (λ place route found more. refl);
    } in
    let end = publisher_along (Pushes p loan lane.fails lane.port.routes) (pushes_on p loan lane.fails lane.port.routes) p
    (publisher_begun 0 (call.Send loan) lane) q run.last run.goes ready first in
    subst (λ (f : Bool). KnowsSent p q f lane.port.routes loan given) end.1.failing
    (subst (λ (rs : List Route). KnowsSent p q run.last.fails rs loan given) end.1.same
    (sent_all p q run.last.fails run.last.port.routes loan given
    (over_sent p loan run.last.fails run.last.port.routes q run.last.port.call now.port.book.answer given end.1.stage run.answers)))

pub send_sent : (old new : PublisherPort) (loan : ℕ) (given : Option SendAnswer) → IsSmall old.port.service.sizes
    → PublisherStands old.port old.lane → Sends old loan new given
    → IfSome given (λ told. KnowsSent old.port new.port old.lane.fails old.lane.port.routes loan told)
send_sent old new loan None small stands does = tt
send_sent old new loan (Some told) small stands does
    = send_pushes (send_steps old.port.service.sizes) old.port old.lane loan new.port new.lane told small stands does.0 does.1
