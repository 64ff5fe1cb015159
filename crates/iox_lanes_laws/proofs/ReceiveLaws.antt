-- The accesses of a whole receive, read and release, step by step.
use Rattle.std.proofs.Common.{ℕ, suc, zero, ◌≡◌, ◌+◌, ◌-◌, ◌<◌, ◌^◌, ◌%◌, ◌==◌, ◌||◌, Bool, true, false, not, nat_lt, if◌then◌else◌, List}
use Rattle.std.proofs.Common.{[], ◌∷◌, length, slice_get, Option, refl, ◌∙◌, ap, arith}
use Rattle.std.proofs.lemmas.Bool.{lt-ltb, le-ltb}
use Rattle.iox_queues_steps.specs.Access.{successor}
use Rattle.iox_queues_steps.specs.declared.access.Word.TheVariants.{Write, Read, Cell}
use Rattle.iox_queues_steps.specs.declared.order.PushAnswer.TheVariants.{Refused}
use Rattle.iox_queues_steps.specs.Overflowing as overflowing
use Rattle.iox_queues_steps.specs.declared.rings.overflowing.pop.Pop.TheVariants as overflowing_pop
use Rattle.iox_queues_steps.specs.Refusing as refusing
use Rattle.iox_queues_steps.specs.declared.rings.refusing.push.Push.TheVariants as refusing_push
use Rattle.iox_queues_steps.specs.declared.rings.refusing.pop.Pop.TheVariants as refusing_pop
use Rattle.iox_queues_steps.specs.Ends.{pop_first}
use Rattle.iox_queues_steps.specs.declared.rings.ends.RingKind.{RingKind}
use Rattle.iox_queues_steps.specs.declared.rings.ends.RingKind.TheVariants.{Overflowing, Refusing}
use Rattle.iox_queues_steps.specs.declared.rings.ends.Pop.TheVariants as pop
use Rattle.iox_lanes_base.specs.declared.words.word.SlotWord.TheVariants.{UserHeader, Payload}
use Rattle.iox_lanes_base.specs.declared.words.word.SharedWord.TheVariants.{Slot}
use Rattle.iox_lanes_base.specs.declared.words.access.SharedAccess.{SharedAccess}
use Rattle.iox_lanes_base.specs.declared.words.access.SharedAccess.TheVariants.{Load, Store, Exchange, Local}
use Rattle.iox_lanes_base.specs.Answers.{pop_answer, refusing_push_answer}
use Rattle.iox_lanes_base.specs.Subscribing.{is_full_at, receive_at, receive_from, nothing_received, received, read_at, word_at, released}
use Rattle.iox_lanes_base.specs.declared.calls.route.Route.{Route}
use Rattle.iox_lanes_base.specs.declared.calls.subscriber.Receipt.{Receipt}
use Rattle.iox_lanes_base.specs.declared.calls.subscriber.Receipt.TheVariants.{Taken}
use Rattle.iox_lanes_base.specs.declared.calls.subscriber.SlotExtent.{SlotExtent}
use Rattle.iox_lanes_base.specs.declared.calls.subscriber.SubscriberCall.TheVariants.{Idle, Receiving, Received, Reading, WasRead, Released}
use Rattle.iox_lanes_laws.specs.Courses.{quiet_course, back}
use Rattle.iox_lanes_laws.specs.SendCourses.{sent, fill_course}
use Rattle.iox_lanes_laws.specs.ReceiveCourses.{subscriber_course, popping_course, taking_course, got_course, visit_course}
use Rattle.iox_lanes_laws.specs.ReceiveCourses.{receive_course, read_course, words_in, ReceivesVisit, ReadsLoad, ReadsInOrder}
use Rattle.iox_lanes_laws.specs.ReceiveCourses.{ReleasesPush}
use Rattle.iox_lanes_laws.proofs.CourseLaws.{next_place}

-- no call is in progress
idle_course : (routes : List Route) (borrowed : List ℕ) (most : ℕ) (answers : List ℕ)
    → subscriber_course routes borrowed most Idle answers ≡ quiet_course answers
idle_course routes borrowed most [] = refl
idle_course routes borrowed most (answer ∷ answers)
    = ap (λ (rest : List SharedAccess). Local ∷ rest) (idle_course routes borrowed most answers)

received_course : (routes : List Route) (borrowed : List ℕ) (most : ℕ) (receipt : Receipt) (answers : List ℕ)
    → subscriber_course routes borrowed most (Received receipt) answers ≡ quiet_course answers
received_course routes borrowed most receipt [] = refl
received_course routes borrowed most receipt (answer ∷ answers)
    = ap (λ (rest : List SharedAccess). Local ∷ rest) (idle_course routes borrowed most answers)

released_course : (routes : List Route) (borrowed : List ℕ) (most : ℕ) (done : Bool) (answers : List ℕ)
    → subscriber_course routes borrowed most (Released done) answers ≡ quiet_course answers
released_course routes borrowed most done [] = refl
released_course routes borrowed most done (answer ∷ answers)
    = ap (λ (rest : List SharedAccess). Local ∷ rest) (idle_course routes borrowed most answers)

-- after an exchange of the read position
after_exchange : (routes : List Route) (borrowed : List ℕ) (most place : ℕ) (route : Route) (waits won : Bool) (slot found : ℕ)
    (answers : List ℕ)
    → subscriber_course routes borrowed most
    (Receiving place route (pop.Overflowing (overflowing_pop.Nonempty found (successor found))) waits) answers
    ≡ popping_course route found answers
    → subscriber_course routes borrowed most
    (received routes borrowed most place route (pop.Overflowing (overflowing.pop_swapped won found slot)) waits
    (pop_answer (pop.Overflowing (overflowing.pop_swapped won found slot)))) answers
    ≡ (if won then quiet_course answers else popping_course route found answers)
after_exchange routes borrowed most place route waits true slot found answers again
    = received_course routes borrowed most (Taken place slot) answers
after_exchange routes borrowed most place route waits false slot found answers again = again

-- an overflowing ring's pop from a position on
pops : (routes : List Route) (borrowed : List ℕ) (most place : ℕ) (route : Route) (waits : Bool) (read : ℕ) (answers : List ℕ)
    → subscriber_course routes borrowed most
    (Receiving place route (pop.Overflowing (overflowing_pop.Nonempty read (successor read))) waits) answers
    ≡ popping_course route read answers
pops routes borrowed most place route waits read [] = refl
pops routes borrowed most place route waits read (slot ∷ []) = refl
pops routes borrowed most place route waits read (slot ∷ found ∷ answers) =
    ap (λ (rest : List SharedAccess). Load (sent route (Cell (read % route.submission_cells)))
    ∷ Exchange (sent route Read) read (successor read) ∷ rest)
    (after_exchange routes borrowed most place route waits (found == read) slot found answers
    (pops routes borrowed most place route waits found answers))

-- a refusing ring's pop from a position on
takes : (routes : List Route) (borrowed : List ℕ) (most place : ℕ) (route : Route) (waits : Bool) (read : ℕ) (answers : List ℕ)
    → subscriber_course routes borrowed most (Receiving place route (pop.Refusing (refusing_pop.Nonempty read (successor read))) waits)
    answers ≡ taking_course route read answers
takes routes borrowed most place route waits read [] = refl
takes routes borrowed most place route waits read (slot ∷ []) = refl
takes routes borrowed most place route waits read (slot ∷ stored ∷ answers) =
    ap (λ (rest : List SharedAccess). Load (sent route (Cell (read % route.submission_cells)))
    ∷ Store (sent route Read) (successor read) ∷ rest)
    (received_course routes borrowed most (Taken place slot) answers)

-- what follows at the next connection, whether or not something was seen to wait
abbrev Follows : List Route → List ℕ → ℕ → ℕ → (List ℕ → List SharedAccess) → Type 0
Follows routes borrowed most place next =
    (waits : Bool) (answers : List ℕ) → subscriber_course routes borrowed most (receive_at routes borrowed most (successor place) waits)
    answers ≡ next answers

-- after both positions were loaded by a pop
after_overflowing : (routes : List Route) (borrowed : List ℕ) (most place : ℕ) (route : Route) (waits : Bool)
    (next : List ℕ → List SharedAccess) → Follows routes borrowed most place next
    → (empty : Bool) (read : ℕ) (answers : List ℕ)
    → subscriber_course routes borrowed most
    (received routes borrowed most place route (pop.Overflowing (overflowing.pop_emptied empty read)) waits
    (pop_answer (pop.Overflowing (overflowing.pop_emptied empty read)))) answers
    ≡ (if empty then next answers else popping_course route read answers)
after_overflowing routes borrowed most place route waits next follows true read answers = follows waits answers
after_overflowing routes borrowed most place route waits next follows false read answers
    = pops routes borrowed most place route waits read answers

after_refusing : (routes : List Route) (borrowed : List ℕ) (most place : ℕ) (route : Route) (waits : Bool)
    (next : List ℕ → List SharedAccess) → Follows routes borrowed most place next
    → (empty : Bool) (read : ℕ) (answers : List ℕ)
    → subscriber_course routes borrowed most
    (received routes borrowed most place route (pop.Refusing (refusing.pop_emptied empty read)) waits
    (pop_answer (pop.Refusing (refusing.pop_emptied empty read)))) answers
    ≡ (if empty then next answers else taking_course route read answers)
after_refusing routes borrowed most place route waits next follows true read answers = follows waits answers
after_refusing routes borrowed most place route waits next follows false read answers
    = takes routes borrowed most place route waits read answers

-- the accesses where a connection of this kind is visited
abbrev visit : Bool → RingKind → Route → (List ℕ → List SharedAccess) → List ℕ → List SharedAccess
visit full kind route next [] = []
visit full kind route next (read ∷ []) = Load (sent route Read) ∷ []
visit full kind route next (read ∷ write ∷ answers) =
    Load (sent route Read) ∷ Load (sent route Write)
    ∷ (if full then next answers else if write == read then next answers else got_course kind route read answers)

-- a visit of one connection
visits : (routes : List Route) (borrowed : List ℕ) (most place : ℕ) (route : Route) (full : Bool) (kind : RingKind) (waits : Bool)
    (next : List ℕ → List SharedAccess) → Follows routes borrowed most place next
    → (answers : List ℕ) → subscriber_course routes borrowed most (Receiving place route (pop_first kind full) waits) answers
    ≡ visit full kind route next answers
visits routes borrowed most place route true Overflowing waits next follows [] = refl
visits routes borrowed most place route true Overflowing waits next follows (read ∷ []) = refl
visits routes borrowed most place route true Overflowing waits next follows (read ∷ write ∷ answers) =
    ap (λ (rest : List SharedAccess). Load (sent route Read) ∷ Load (sent route Write) ∷ rest)
    (follows (waits || not (write == read)) answers)
visits routes borrowed most place route true Refusing waits next follows [] = refl
visits routes borrowed most place route true Refusing waits next follows (read ∷ []) = refl
visits routes borrowed most place route true Refusing waits next follows (read ∷ write ∷ answers) =
    ap (λ (rest : List SharedAccess). Load (sent route Read) ∷ Load (sent route Write) ∷ rest)
    (follows (waits || not (write == read)) answers)
visits routes borrowed most place route false Overflowing waits next follows [] = refl
visits routes borrowed most place route false Overflowing waits next follows (read ∷ []) = refl
visits routes borrowed most place route false Overflowing waits next follows (read ∷ write ∷ answers) =
    ap (λ (rest : List SharedAccess). Load (sent route Read) ∷ Load (sent route Write) ∷ rest)
    (after_overflowing routes borrowed most place route waits next follows (write == read) read answers)
visits routes borrowed most place route false Refusing waits next follows [] = refl
visits routes borrowed most place route false Refusing waits next follows (read ∷ []) = refl
visits routes borrowed most place route false Refusing waits next follows (read ∷ write ∷ answers) =
    ap (λ (rest : List SharedAccess). Load (sent route Read) ∷ Load (sent route Write) ∷ rest)
    (after_refusing routes borrowed most place route waits next follows (write == read) read answers)

visit_same : (full : Bool) (route : Route) (next : List ℕ → List SharedAccess) (answers : List ℕ)
    → visit full route.kind route next answers ≡ visit_course full route next answers
visit_same full route next [] = refl
visit_same full route next (read ∷ []) = refl
visit_same full route next (read ∷ write ∷ answers) = refl

-- a receive from a place on, where `rest` are the connections that are left
receive_run : (routes : List Route) (borrowed : List ℕ) (most k : ℕ) (rest : List Route)
    → ((i j : ℕ) → j ≡ k + i → slice_get routes j ≡ slice_get rest i) → k + length rest < 2 ^ 64 - 1
    → (waits : Bool) (answers : List ℕ)
    → subscriber_course routes borrowed most (receive_at routes borrowed most k waits) answers
    ≡ receive_course borrowed most k rest answers
receive_run routes borrowed most k [] same small waits answers =
    ap (λ (found : Option Route). subscriber_course routes borrowed most (receive_from k (is_full_at borrowed most k) waits found)
    answers) (same 0 k (omega arith))
    ∙ received_course routes borrowed most (nothing_received waits) answers
receive_run routes borrowed most k (route ∷ rest) same small waits answers =
    ap (λ (found : Option Route). subscriber_course routes borrowed most (receive_from k (is_full_at borrowed most k) waits found)
    answers) (same 0 k (omega arith))
    ∙ visits routes borrowed most k route (is_full_at borrowed most k) route.kind waits (receive_course borrowed most (k + 1) rest)
    (λ seen later. ap (λ (place : ℕ). subscriber_course routes borrowed most (receive_at routes borrowed most place seen) later)
    (next_place k (omega (arith, small)))
    ∙ receive_run routes borrowed most (k + 1) rest (λ i j e. same (suc i) j (omega (arith, e))) (omega (arith, small)) seen later)
    answers
    ∙ visit_same (is_full_at borrowed most k) route (receive_course borrowed most (k + 1) rest) answers

pub receives_visit : ReceivesVisit
receives_visit routes borrowed answers most waits small
    = receive_run routes borrowed most 0 routes (λ i j e. ap (λ (n : ℕ). slice_get routes n) (omega (arith, e))) (omega (arith, small))
    waits answers

-- a release after both positions were loaded
after_measured : (routes : List Route) (borrowed : List ℕ) (most place slot : ℕ) (route : Route) (room : Bool) (write : ℕ)
    (answers : List ℕ)
    → subscriber_course routes borrowed most
    (released place route (if room then refusing_push.SawRoom slot write (successor write) else refusing_push.Pushed slot Refused)
    (refusing_push_answer (if room then refusing_push.SawRoom slot write (successor write) else refusing_push.Pushed slot Refused))) answers
    ≡ (if room then fill_course (back route) route.completion_cells slot write quiet_course answers else quiet_course answers)
after_measured routes borrowed most place slot route true write [] = refl
after_measured routes borrowed most place slot route true write (filled ∷ []) = refl
after_measured routes borrowed most place slot route true write (filled ∷ stored ∷ answers) =
    ap (λ (rest : List SharedAccess). Store (back route (Cell (write % route.completion_cells))) slot
    ∷ Store (back route Write) (successor write) ∷ rest)
    (released_course routes borrowed most true answers)
after_measured routes borrowed most place slot route false write answers = released_course routes borrowed most false answers

pub releases_push : ReleasesPush
releases_push routes borrowed [] most place slot route = refl
releases_push routes borrowed (write ∷ []) most place slot route = refl
releases_push routes borrowed (write ∷ read ∷ answers) most place slot route =
    ap (λ (rest : List SharedAccess). Load (back route Write) ∷ Load (back route Read) ∷ rest)
    (after_measured routes borrowed most place slot route (nat_lt (write - read) route.completion_cells) write answers)

-- a read that ends
read_over : (routes : List Route) (borrowed : List ℕ) (most slot : ℕ) (extent : SlotExtent) (word : ℕ) (answers : List ℕ)
    → subscriber_course routes borrowed most (WasRead slot) answers ≡ read_course slot extent word 0 answers
read_over routes borrowed most slot extent word [] = refl
read_over routes borrowed most slot extent word (answer ∷ answers)
    = ap (λ (rest : List SharedAccess). Local ∷ rest) (idle_course routes borrowed most answers)

-- a read from a word on, where n are left
read_run : (routes : List Route) (borrowed : List ℕ) (most slot : ℕ) (extent : SlotExtent) (word left : ℕ)
    → word + left ≡ words_in extent → words_in extent < 2 ^ 64 - 1
    → (answers : List ℕ) → subscriber_course routes borrowed most (read_at slot extent word) answers
    ≡ read_course slot extent word left answers
read_run routes borrowed most slot extent word zero e small answers =
    ap (λ (more : Bool). subscriber_course routes borrowed most (if more then Reading slot word extent else WasRead slot) answers)
    (le-ltb word (words_in extent) (omega (arith, e)))
    ∙ read_over routes borrowed most slot extent word answers
read_run routes borrowed most slot extent word (suc left) e small [] = refl
read_run routes borrowed most slot extent word (suc left) e small (answer ∷ answers) =
    ap (λ (more : Bool). subscriber_course routes borrowed most (if more then Reading slot word extent else WasRead slot)
    (answer ∷ answers)) (lt-ltb word (words_in extent) (omega (arith, e)))
    ∙ ap (λ (later : List SharedAccess). Load (Slot slot (word_at extent word)) ∷ later)
    (ap (λ (at : ℕ). subscriber_course routes borrowed most (read_at slot extent at) answers) (next_place word (omega (arith, e, small)))
    ∙ read_run routes borrowed most slot extent (word + 1) left (omega (arith, e)) small answers)

pub reads_load : ReadsLoad
reads_load routes borrowed answers most slot extent small
    = read_run routes borrowed most slot extent 0 (words_in extent) (omega arith) small answers

-- one word after the other
in_order : (user word : ℕ) → word < user → nat_lt (3 + word - 3) user ≡ true
in_order user word h = lt-ltb (3 + word - 3) user (omega (arith, h))

pub reads_in_order : ReadsInOrder
reads_in_order extent word = (
  λ h. rw (lt-ltb word 3 h) refl,
  λ h. rw (le-ltb (3 + word) 3 (omega arith)) (rw (in_order extent.user_header_words word h) (ap (λ (n : ℕ). UserHeader n) (omega arith))),
  λ h. rw (le-ltb (3 + extent.user_header_words + word) 3 (omega arith))
      (rw (le-ltb (3 + extent.user_header_words + word - 3) extent.user_header_words (omega arith))
      (ap (λ (n : ℕ). Payload n) (omega arith))),
)
