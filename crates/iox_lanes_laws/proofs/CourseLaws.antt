-- The accesses of whole calls, step by step.
use Rattle.std.proofs.Common.{ℕ, suc, ◌≡◌, ◌+◌, ◌-◌, ◌<◌, ◌^◌, ◌%◌, ◌==◌, Bool, true, false, if◌then◌else◌, List, [], ◌∷◌, length}
use Rattle.std.proofs.Common.{slice_get, Option, refl, ◌∙◌, ap, arith}
use Rattle.iox_queues_steps.specs.Access.{successor}
use Rattle.iox_queues_steps.specs.declared.access.Word.TheVariants.{Write, Read, Cell}
use Rattle.iox_queues_steps.specs.Refusing.{pop_emptied}
use Rattle.iox_queues_steps.specs.declared.rings.refusing.pop.Pop.TheVariants.{Begun}
use Rattle.iox_lanes_base.specs.declared.words.word.SlotWord.TheVariants.{Payload}
use Rattle.iox_lanes_base.specs.declared.words.word.SharedWord.TheVariants.{Slot}
use Rattle.iox_lanes_base.specs.declared.words.access.SharedAccess.{SharedAccess}
use Rattle.iox_lanes_base.specs.declared.words.access.SharedAccess.TheVariants.{Load, Store, Local}
use Rattle.iox_lanes_base.specs.Answers.{refusing_pop_answer}
use Rattle.iox_lanes_base.specs.Publishing.{loan_at, loan_from, loan_reclaimed, write_at, write_from}
use Rattle.iox_lanes_base.specs.declared.calls.route.Route.{Route}
use Rattle.iox_lanes_base.specs.declared.calls.publisher.PublisherCall.TheVariants.{Idle, LoanReclaims, Lending, Written}
use Rattle.iox_lanes_laws.specs.Courses.{publisher_course, quiet_course, back, reclaim_course, loan_course, write_course, LoansTakeBack}
use Rattle.iox_lanes_laws.specs.Courses.{WritesStore}

-- positions in a list are as large as they are
pub next_place : (k : ℕ) → k < 2 ^ 64 - 1 → successor k ≡ k + 1
next_place k h = omega (arith, h)

-- no call is in progress
pub idle_course : (routes : List Route) (words answers : List ℕ) → publisher_course routes words Idle answers ≡ quiet_course answers
idle_course routes words [] = refl
idle_course routes words (answer ∷ answers) = ap (λ (rest : List SharedAccess). Local ∷ rest) (idle_course routes words answers)

-- a loan that looks for a slot
lending_course : (routes : List Route) (words answers : List ℕ) → publisher_course routes words Lending answers ≡ quiet_course answers
lending_course routes words [] = refl
lending_course routes words (answer ∷ answers) = ap (λ (rest : List SharedAccess). Local ∷ rest) (idle_course routes words answers)

-- nothing is done where nothing is answered
loan_course_none : (routes : List Route) → loan_course routes [] ≡ []
loan_course_none [] = refl
loan_course_none (route ∷ routes) = refl

-- after both positions of what came back were loaded, and one step of what follows was answered
after_one : (routes : List Route) (words : List ℕ) (place : ℕ) (route : Route) (next : List ℕ → List SharedAccess)
    → ((answers : List ℕ) → publisher_course routes words (loan_at routes (successor place)) answers ≡ next answers)
    → (equal : Bool) (read slot : ℕ)
    → publisher_course routes words (loan_reclaimed routes place route (pop_emptied equal read)
    (refusing_pop_answer (pop_emptied equal read))) (slot ∷ [])
    ≡ (if equal then next (slot ∷ []) else Load (back route (Cell (read % route.completion_cells))) ∷ [])
after_one routes words place route next follows true read slot = follows (slot ∷ [])
after_one routes words place route next follows false read slot = refl

-- and where two or more steps of it were
after_more : (routes : List Route) (words : List ℕ) (place : ℕ) (route : Route) (next : List ℕ → List SharedAccess)
    → ((answers : List ℕ) → publisher_course routes words (loan_at routes (successor place)) answers ≡ next answers)
    → (equal : Bool) (read slot stored : ℕ) (answers : List ℕ)
    → publisher_course routes words (LoanReclaims place route Begun) answers ≡ reclaim_course route next answers
    → publisher_course routes words (loan_reclaimed routes place route (pop_emptied equal read)
    (refusing_pop_answer (pop_emptied equal read))) (slot ∷ stored ∷ answers)
    ≡ (if equal then next (slot ∷ stored ∷ answers)
    else Load (back route (Cell (read % route.completion_cells))) ∷ Store (back route Read) (successor read)
    ∷ reclaim_course route next answers)
after_more routes words place route next follows true read slot stored answers again = follows (slot ∷ stored ∷ answers)
after_more routes words place route next follows false read slot stored answers again =
    ap (λ (rest : List SharedAccess). Load (back route (Cell (read % route.completion_cells)))
    ∷ Store (back route Read) (successor read) ∷ rest) again

-- taking back at one connection
reclaims : (routes : List Route) (words : List ℕ) (place : ℕ) (route : Route) (next : List ℕ → List SharedAccess)
    → ((answers : List ℕ) → publisher_course routes words (loan_at routes (successor place)) answers ≡ next answers)
    → (answers : List ℕ) → publisher_course routes words (LoanReclaims place route Begun) answers ≡ reclaim_course route next answers
reclaims routes words place route next follows [] = refl
reclaims routes words place route next follows (read ∷ []) = refl
reclaims routes words place route next follows (read ∷ write ∷ []) = refl
reclaims routes words place route next follows (read ∷ write ∷ slot ∷ []) =
    ap (λ (rest : List SharedAccess). Load (back route Read) ∷ Load (back route Write) ∷ rest)
    (after_one routes words place route next follows (write == read) read slot)
reclaims routes words place route next follows (read ∷ write ∷ slot ∷ stored ∷ answers) =
    ap (λ (rest : List SharedAccess). Load (back route Read) ∷ Load (back route Write) ∷ rest)
    (after_more routes words place route next follows (write == read) read slot stored answers
    (reclaims routes words place route next follows answers))

-- a loan from a place on, where `rest` are the connections that are left
loan_run : (routes : List Route) (words : List ℕ) (k : ℕ) (rest : List Route)
    → ((i j : ℕ) → j ≡ k + i → slice_get routes j ≡ slice_get rest i) → k + length rest < 2 ^ 64 - 1
    → (answers : List ℕ) → publisher_course routes words (loan_at routes k) answers ≡ loan_course rest answers
loan_run routes words k [] same small answers =
    ap (λ (found : Option Route). publisher_course routes words (loan_from k found) answers) (same 0 k (omega arith)) ∙ lending_course
    routes words answers
loan_run routes words k (route ∷ rest) same small answers =
    ap (λ (found : Option Route). publisher_course routes words (loan_from k found) answers) (same 0 k (omega arith))
    ∙ reclaims routes words k route (loan_course rest)
    (λ later. ap (λ (place : ℕ). publisher_course routes words (loan_at routes place) later) (next_place k (omega (arith, small)))
    ∙ loan_run routes words (k + 1) rest (λ i j e. same (suc i) j (omega (arith, e))) (omega (arith, small)) later)
    answers

pub loans_take_back : LoansTakeBack
loans_take_back routes words answers small
    = loan_run routes words 0 routes (λ i j e. ap (λ (n : ℕ). slice_get routes n) (omega (arith, e))) (omega (arith, small)) answers

-- a write that ends
written_course : (routes : List Route) (words : List ℕ) (slot : ℕ) (answers : List ℕ) (k : ℕ)
    → publisher_course routes words (Written slot) answers ≡ write_course slot k [] answers
written_course routes words slot [] k = refl
written_course routes words slot (answer ∷ answers) k = ap (λ (rest : List SharedAccess). Local ∷ rest) (idle_course routes words answers)

-- a write from a word on, where `rest` are the words that are left
write_run : (routes : List Route) (words : List ℕ) (slot k : ℕ) (rest : List ℕ)
    → ((i j : ℕ) → j ≡ k + i → slice_get words j ≡ slice_get rest i) → k + length rest < 2 ^ 64 - 1
    → (answers : List ℕ) → publisher_course routes words (write_at words slot k) answers ≡ write_course slot k rest answers
write_run routes words slot k [] same small answers =
    ap (λ (found : Option ℕ). publisher_course routes words (write_from slot k found) answers) (same 0 k (omega arith)) ∙ written_course
    routes words slot answers k
write_run routes words slot k (value ∷ rest) same small [] = refl
write_run routes words slot k (value ∷ rest) same small (answer ∷ answers) =
    ap (λ (found : Option ℕ). publisher_course routes words (write_from slot k found) (answer ∷ answers)) (same 0 k (omega arith))
    ∙ ap (λ (later : List SharedAccess). Store (Slot slot (Payload k)) value ∷ later)
    (ap (λ (place : ℕ). publisher_course routes words (write_at words slot place) answers) (next_place k (omega (arith, small)))
    ∙ write_run routes words slot (k + 1) rest (λ i j e. same (suc i) j (omega (arith, e))) (omega (arith, small)) answers)

pub writes_store : WritesStore
writes_store routes words answers slot small
    = write_run routes words slot 0 words (λ i j e. ap (λ (n : ℕ). slice_get words n) (omega (arith, e))) (omega (arith, small)) answers
