-- The accesses of a whole send, step by step.
use Rattle.std.proofs.Common.{ℕ, suc, ◌≡◌, ◌+◌, ◌-◌, ◌<◌, ◌^◌, ◌%◌, ◌==◌, Bool, true, false, nat_lt, if◌then◌else◌, List, [], ◌∷◌, length}
use Rattle.std.proofs.Common.{slice_get, Option, refl, ◌∙◌, ap, arith}
use Rattle.iox_queues_steps.specs.Access.{successor}
use Rattle.iox_queues_steps.specs.declared.access.Word.TheVariants.{Write, Read, Cell}
use Rattle.iox_queues_steps.specs.declared.order.PushAnswer.TheVariants.{Kept, LeftOut, Refused}
use Rattle.iox_queues_steps.specs.declared.rings.overflowing.push.Push.TheVariants as overflowing
use Rattle.iox_queues_steps.specs.Refusing.{pop_emptied}
use Rattle.iox_queues_steps.specs.declared.rings.refusing.push.Push.TheVariants as refusing
use Rattle.iox_queues_steps.specs.declared.rings.refusing.pop.Pop.TheVariants.{Begun}
use Rattle.iox_queues_steps.specs.Ends.{push_begun}
use Rattle.iox_queues_steps.specs.declared.rings.ends.RingKind.{RingKind}
use Rattle.iox_queues_steps.specs.declared.rings.ends.RingKind.TheVariants.{Overflowing, Refusing}
use Rattle.iox_queues_steps.specs.declared.rings.ends.Push.TheVariants as push
use Rattle.iox_lanes_base.specs.declared.words.word.SharedWord.TheVariants.{Slot}
use Rattle.iox_lanes_base.specs.declared.words.access.SharedAccess.{SharedAccess}
use Rattle.iox_lanes_base.specs.declared.words.access.SharedAccess.TheVariants.{Load, Store, Exchange, Local}
use Rattle.iox_lanes_base.specs.Answers.{refusing_pop_answer, push_answer}
use Rattle.iox_lanes_base.specs.Publishing.{header_word, head_at, head_from, sweep_at, sweep_from, send_reclaimed, push_at, push_from}
use Rattle.iox_lanes_base.specs.Publishing.{pushed, nothing_sent}
use Rattle.iox_lanes_base.specs.declared.calls.route.Route.{Route}
use Rattle.iox_lanes_base.specs.declared.calls.publisher.Delivery.{Delivery}
use Rattle.iox_lanes_base.specs.declared.calls.publisher.PublisherCall.TheVariants.{Remembering, SendReclaims, Pushing, Sent}
use Rattle.iox_lanes_laws.specs.Courses.{publisher_course, quiet_course, back, reclaim_course}
use Rattle.iox_lanes_laws.specs.SendCourses.{sent, head_course, local_course, sweep_course, fill_course, oldest_course, push_course}
use Rattle.iox_lanes_laws.specs.SendCourses.{pushes_course, SendsPush}
use Rattle.iox_lanes_laws.proofs.CourseLaws.{next_place, idle_course}

-- a send that ends
sent_course : (routes : List Route) (words answers : List ℕ) (slot : ℕ) (delivery : Delivery)
    → publisher_course routes words (Sent slot delivery) answers ≡ quiet_course answers
sent_course routes words [] slot delivery = refl
sent_course routes words (answer ∷ answers) slot delivery
    = ap (λ (rest : List SharedAccess). Local ∷ rest) (idle_course routes words answers)

-- what follows at the next connection, however many took the message so far
abbrev Follows : List Route → List ℕ → ℕ → ℕ → (List ℕ → List SharedAccess) → Type 0
Follows routes words slot place next =
    (delivery : Delivery) (answers : List ℕ)
    → publisher_course routes words (push_at routes slot (successor place) delivery) answers ≡ next answers

-- a push that tried to let the oldest go
after_exchange : (routes : List Route) (words : List ℕ) (slot place : ℕ) (route : Route) (delivery : Delivery)
    (next : List ℕ → List SharedAccess) → Follows routes words slot place next
    → (won : Bool) (oldest : ℕ) (answers : List ℕ)
    → publisher_course routes words (pushed routes slot place route
    (push.Overflowing (overflowing.Pushed slot (if won then LeftOut oldest else Kept))) delivery
    (push_answer (push.Overflowing (overflowing.Pushed slot (if won then LeftOut oldest else Kept))))) answers ≡ next answers
after_exchange routes words slot place route delivery next follows true oldest answers
    = follows (record delivery { taken = successor delivery.taken }) answers
after_exchange routes words slot place route delivery next follows false oldest answers
    = follows (record delivery { taken = successor delivery.taken }) answers

-- a push that may have left too many unread
after_filled : (routes : List Route) (words : List ℕ) (slot place : ℕ) (route : Route) (delivery : Delivery)
    (next : List ℕ → List SharedAccess) → Follows routes words slot place next
    → (late : Bool) (read : ℕ) (answers : List ℕ)
    → publisher_course routes words (pushed routes slot place route
    (push.Overflowing (if late then overflowing.Full slot read (successor read) else overflowing.Pushed slot Kept)) delivery
    (push_answer (push.Overflowing (if late then overflowing.Full slot read (successor read) else overflowing.Pushed slot Kept)))) answers
    ≡ (if late then oldest_course (sent route) route.submission_cells read next answers else next answers)
after_filled routes words slot place route delivery next follows true read [] = refl
after_filled routes words slot place route delivery next follows true read (oldest ∷ []) = refl
after_filled routes words slot place route delivery next follows true read (oldest ∷ found ∷ answers) =
    ap (λ (rest : List SharedAccess). Load (sent route (Cell (read % route.submission_cells)))
    ∷ Exchange (sent route Read) read (successor read) ∷ rest)
    (after_exchange routes words slot place route delivery next follows (found == read) oldest answers)
after_filled routes words slot place route delivery next follows false read answers
    = follows (record delivery { taken = successor delivery.taken }) answers

-- a push on a ring that refuses, after both positions were loaded
after_measured : (routes : List Route) (words : List ℕ) (slot place : ℕ) (route : Route) (delivery : Delivery)
    (next : List ℕ → List SharedAccess) → Follows routes words slot place next
    → (room : Bool) (write : ℕ) (answers : List ℕ)
    → publisher_course routes words (pushed routes slot place route
    (push.Refusing (if room then refusing.SawRoom slot write (successor write) else refusing.Pushed slot Refused)) delivery
    (push_answer (push.Refusing (if room then refusing.SawRoom slot write (successor write) else refusing.Pushed slot Refused)))) answers
    ≡ (if room then fill_course (sent route) route.submission_cells slot write next answers else next answers)
after_measured routes words slot place route delivery next follows true write [] = refl
after_measured routes words slot place route delivery next follows true write (filled ∷ []) = refl
after_measured routes words slot place route delivery next follows true write (filled ∷ stored ∷ answers) =
    ap (λ (rest : List SharedAccess). Store (sent route (Cell (write % route.submission_cells))) slot
    ∷ Store (sent route Write) (successor write) ∷ rest)
    (follows (record delivery { taken = successor delivery.taken }) answers)
after_measured routes words slot place route delivery next follows false write answers
    = follows (record delivery { refused = successor delivery.refused }) answers

-- a push at one connection
push_run : (routes : List Route) (words : List ℕ) (slot place : ℕ) (route : Route) (kind : RingKind) (delivery : Delivery)
    (next : List ℕ → List SharedAccess) → Follows routes words slot place next
    → (answers : List ℕ) → publisher_course routes words (Pushing slot place route (push_begun kind route.limit slot) delivery) answers
    ≡ push_course kind (sent route) route.submission_cells route.limit slot next answers
push_run routes words slot place route Overflowing delivery next follows [] = refl
push_run routes words slot place route Overflowing delivery next follows (write ∷ []) = refl
push_run routes words slot place route Overflowing delivery next follows (write ∷ read ∷ []) = refl
push_run routes words slot place route Overflowing delivery next follows (write ∷ read ∷ filled ∷ []) = refl
push_run routes words slot place route Overflowing delivery next follows (write ∷ read ∷ filled ∷ stored ∷ answers) =
    ap (λ (rest : List SharedAccess). Load (sent route Write) ∷ Load (sent route Read)
    ∷ Store (sent route (Cell (write % route.submission_cells))) slot ∷ Store (sent route Write) (successor write) ∷ rest)
    (after_filled routes words slot place route delivery next follows (nat_lt route.limit (successor write - read)) read answers)
push_run routes words slot place route Refusing delivery next follows [] = refl
push_run routes words slot place route Refusing delivery next follows (write ∷ []) = refl
push_run routes words slot place route Refusing delivery next follows (write ∷ read ∷ answers) =
    ap (λ (rest : List SharedAccess). Load (sent route Write) ∷ Load (sent route Read) ∷ rest)
    (after_measured routes words slot place route delivery next follows (nat_lt (write - read) route.limit) write answers)

-- pushes from a place on, where `rest` are the connections that are left
pushes_run : (routes : List Route) (words : List ℕ) (slot k : ℕ) (rest : List Route)
    → ((i j : ℕ) → j ≡ k + i → slice_get routes j ≡ slice_get rest i) → k + length rest < 2 ^ 64 - 1
    → (delivery : Delivery) (answers : List ℕ)
    → publisher_course routes words (push_at routes slot k delivery) answers ≡ pushes_course slot rest answers
pushes_run routes words slot k [] same small delivery answers =
    ap (λ (found : Option Route). publisher_course routes words (push_from slot k delivery found) answers) (same 0 k (omega arith)) ∙
    sent_course routes words answers slot delivery
pushes_run routes words slot k (route ∷ rest) same small delivery answers =
    ap (λ (found : Option Route). publisher_course routes words (push_from slot k delivery found) answers) (same 0 k (omega arith))
    ∙ push_run routes words slot k route route.kind delivery (pushes_course slot rest)
    (λ told later. ap (λ (place : ℕ). publisher_course routes words (push_at routes slot place told) later)
    (next_place k (omega (arith, small)))
    ∙ pushes_run routes words slot (k + 1) rest (λ i j e. same (suc i) j (omega (arith, e))) (omega (arith, small)) told later)
    answers

-- taking back, as a loan does
after_positions : (routes : List Route) (words : List ℕ) (slot place : ℕ) (route : Route) (next : List ℕ → List SharedAccess)
    → ((answers : List ℕ) → publisher_course routes words (sweep_at routes slot (successor place)) answers ≡ next answers)
    → (equal : Bool) (read came stored : ℕ) (answers : List ℕ)
    → publisher_course routes words (SendReclaims slot place route Begun) answers ≡ reclaim_course route next answers
    → publisher_course routes words (send_reclaimed routes slot place route (pop_emptied equal read)
    (refusing_pop_answer (pop_emptied equal read))) (came ∷ stored ∷ answers)
    ≡ (if equal then next (came ∷ stored ∷ answers)
    else Load (back route (Cell (read % route.completion_cells))) ∷ Store (back route Read) (successor read)
    ∷ reclaim_course route next answers)
after_positions routes words slot place route next follows true read came stored answers again = follows (came ∷ stored ∷ answers)
after_positions routes words slot place route next follows false read came stored answers again =
    ap (λ (rest : List SharedAccess). Load (back route (Cell (read % route.completion_cells)))
    ∷ Store (back route Read) (successor read) ∷ rest) again

after_last : (routes : List Route) (words : List ℕ) (slot place : ℕ) (route : Route) (next : List ℕ → List SharedAccess)
    → ((answers : List ℕ) → publisher_course routes words (sweep_at routes slot (successor place)) answers ≡ next answers)
    → (equal : Bool) (read came : ℕ)
    → publisher_course routes words (send_reclaimed routes slot place route (pop_emptied equal read)
    (refusing_pop_answer (pop_emptied equal read))) (came ∷ [])
    ≡ (if equal then next (came ∷ []) else Load (back route (Cell (read % route.completion_cells))) ∷ [])
after_last routes words slot place route next follows true read came = follows (came ∷ [])
after_last routes words slot place route next follows false read came = refl

reclaims : (routes : List Route) (words : List ℕ) (slot place : ℕ) (route : Route) (next : List ℕ → List SharedAccess)
    → ((answers : List ℕ) → publisher_course routes words (sweep_at routes slot (successor place)) answers ≡ next answers)
    → (answers : List ℕ) → publisher_course routes words (SendReclaims slot place route Begun) answers ≡ reclaim_course route next answers
reclaims routes words slot place route next follows [] = refl
reclaims routes words slot place route next follows (read ∷ []) = refl
reclaims routes words slot place route next follows (read ∷ write ∷ []) = refl
reclaims routes words slot place route next follows (read ∷ write ∷ came ∷ []) =
    ap (λ (rest : List SharedAccess). Load (back route Read) ∷ Load (back route Write) ∷ rest)
    (after_last routes words slot place route next follows (write == read) read came)
reclaims routes words slot place route next follows (read ∷ write ∷ came ∷ stored ∷ answers) =
    ap (λ (rest : List SharedAccess). Load (back route Read) ∷ Load (back route Write) ∷ rest)
    (after_positions routes words slot place route next follows (write == read) read came stored answers
    (reclaims routes words slot place route next follows answers))

-- taking back from a place on, where `rest` are the connections that are left
sweep_run : (routes : List Route) (words : List ℕ) (slot k : ℕ) (rest : List Route)
    → ((answers : List ℕ) → publisher_course routes words (push_at routes slot 0 nothing_sent) answers ≡ pushes_course slot routes answers)
    → ((i j : ℕ) → j ≡ k + i → slice_get routes j ≡ slice_get rest i) → k + length rest < 2 ^ 64 - 1
    → (answers : List ℕ) → publisher_course routes words (sweep_at routes slot k) answers
    ≡ sweep_course (pushes_course slot routes) rest answers
sweep_run routes words slot k [] pushes same small answers =
    ap (λ (found : Option Route). publisher_course routes words (sweep_from routes slot k found) answers) (same 0 k (omega arith)) ∙
    pushes answers
sweep_run routes words slot k (route ∷ rest) pushes same small answers =
    ap (λ (found : Option Route). publisher_course routes words (sweep_from routes slot k found) answers) (same 0 k (omega arith))
    ∙ reclaims routes words slot k route (sweep_course (pushes_course slot routes) rest)
    (λ later. ap (λ (place : ℕ). publisher_course routes words (sweep_at routes slot place) later) (next_place k (omega (arith, small)))
    ∙ sweep_run routes words slot (k + 1) rest pushes (λ i j e. same (suc i) j (omega (arith, e))) (omega (arith, small)) later)
    answers

-- the history, and what follows
history_run : (routes : List Route) (words : List ℕ) (slot : ℕ) (next : List ℕ → List SharedAccess)
    → ((answers : List ℕ) → publisher_course routes words (sweep_at routes slot 0) answers ≡ next answers)
    → (answers : List ℕ) → publisher_course routes words (Remembering slot) answers ≡ local_course next answers
history_run routes words slot next follows [] = refl
history_run routes words slot next follows (answer ∷ answers) = ap (λ (rest : List SharedAccess). Local ∷ rest) (follows answers)

-- header and user header from a word on, where `rest` are the words that are left
head_run : (routes : List Route) (words : List ℕ) (slot k : ℕ) (next : List ℕ → List SharedAccess) (rest : List ℕ)
    → ((answers : List ℕ) → publisher_course routes words (Remembering slot) answers ≡ next answers)
    → ((i j : ℕ) → j ≡ k + i → slice_get words j ≡ slice_get rest i) → k + length rest < 2 ^ 64 - 1
    → (answers : List ℕ) → publisher_course routes words (head_at words slot k) answers ≡ head_course slot k next rest answers
head_run routes words slot k next [] follows same small answers =
    ap (λ (found : Option ℕ). publisher_course routes words (head_from slot k found) answers) (same 0 k (omega arith)) ∙ follows answers
head_run routes words slot k next (value ∷ rest) follows same small [] = refl
head_run routes words slot k next (value ∷ rest) follows same small (answer ∷ answers) =
    ap (λ (found : Option ℕ). publisher_course routes words (head_from slot k found) (answer ∷ answers)) (same 0 k (omega arith))
    ∙ ap (λ (later : List SharedAccess). Store (Slot slot (header_word k)) value ∷ later)
    (ap (λ (place : ℕ). publisher_course routes words (head_at words slot place) answers) (next_place k (omega (arith, small)))
    ∙ head_run routes words slot (k + 1) next rest follows (λ i j e. same (suc i) j (omega (arith, e))) (omega (arith, small)) answers)

pub sends_push : SendsPush
sends_push routes words answers slot few small =
    head_run routes words slot 0 (local_course (sweep_course (pushes_course slot routes) routes)) words
    (history_run routes words slot (sweep_course (pushes_course slot routes) routes)
    (sweep_run routes words slot 0 routes
    (pushes_run routes words slot 0 routes (λ i j e. ap (λ (n : ℕ). slice_get routes n) (omega (arith, e))) (omega (arith, few))
    nothing_sent)
    (λ i j e. ap (λ (n : ℕ). slice_get routes n) (omega (arith, e))) (omega (arith, few))))
    (λ i j e. ap (λ (n : ℕ). slice_get words n) (omega (arith, e))) (omega (arith, small)) answers
