-- What one step of a pop or a look makes of what waits at its connection, where nobody pushes there.
use Rattle.std.proofs.Common.{ℕ, ◌≡◌, ◌<◌, ◌^◌, ◌==◌, not, Bool, true, false, nat_lt, List, [], ◌∷◌, ◌++◌, length, drop, slice_get}
use Rattle.std.proofs.Common.{Option, Some, None, refl, sym, ◌∙◌, ap, subst, arith}
use Rattle.iox_lanes_machine.specs.QueuesSteps.Access.{RingWords, answer_of}
use Rattle.iox_lanes_machine.specs.QueuesSteps.Order.{Acts, after_acts, put_values, take_values, PutNow}
use Rattle.iox_lanes_machine.specs.QueuesSteps.declared.order.Act.{Act}
use Rattle.iox_lanes_machine.specs.QueuesSteps.declared.order.Act.TheVariants.{Put, Take}
use Rattle.iox_lanes_machine.specs.QueuesSteps.declared.order.Placed.{Placed}
use Rattle.iox_lanes_machine.specs.QueuesSteps.declared.order.PopAnswer.{PopAnswer}
use Rattle.iox_lanes_machine.specs.QueuesSteps.declared.order.PopAnswer.TheVariants.{Got, Saw}
use Rattle.iox_lanes_machine.specs.QueuesSteps.Overflowing as overflowing
use Rattle.iox_lanes_machine.specs.QueuesSteps.declared.rings.overflowing.pop.Pop.TheVariants as overflowing_pop
use Rattle.iox_lanes_machine.specs.QueuesSteps.Refusing as refusing
use Rattle.iox_lanes_machine.specs.QueuesSteps.declared.rings.refusing.pop.Pop.TheVariants as refusing_pop
use Rattle.iox_lanes_machine.specs.QueuesSteps.Ends.{Shape, overflows, cells_of, push_idle, pop_ended, pop_next, pop_take, pop_looks}
use Rattle.iox_lanes_machine.specs.QueuesSteps.Ends.{pop_first, placed_by_pop}
use Rattle.iox_lanes_machine.specs.QueuesSteps.declared.rings.ends.RingKind.{RingKind}
use Rattle.iox_lanes_machine.specs.QueuesSteps.declared.rings.ends.RingKind.TheVariants as kind
use Rattle.iox_lanes_machine.specs.QueuesSteps.declared.rings.ends.Push.{Push}
use Rattle.iox_lanes_machine.specs.QueuesSteps.declared.rings.ends.Pop.{Pop}
use Rattle.iox_lanes_machine.specs.QueuesSteps.declared.rings.ends.Pop.TheVariants as pop
use Rattle.iox_lanes_machine.proofs.QueuesSteps.EitherRing.{pop_goes}
use Rattle.iox_lanes_machine.specs.LanesBase.Table.{TableWords, shared_answer}
use Rattle.iox_lanes_machine.specs.LanesBase.Words.{on_ring}
use Rattle.iox_lanes_machine.specs.LanesBase.declared.words.word.ConnectionRing.TheVariants.{Submission}
use Rattle.iox_lanes_machine.specs.LanesBase.Answers.{pop_answer}
use Rattle.iox_lanes_machine.specs.LanesBase.declared.calls.publisher.PublisherCall.{PublisherCall}
use Rattle.iox_lanes_machine.specs.LanesBase.declared.calls.route.Route.{Route}
use Rattle.iox_lanes_machine.specs.LanesBase.declared.calls.subscriber.SubscriberCall.TheVariants as subscribing
use Rattle.iox_lanes_machine.specs.Kept.{IsKeptAt}
use Rattle.iox_lanes_machine.specs.Links.{LinkState}
use Rattle.iox_lanes_machine.specs.Rings.{ring_in, push_on, waiting}
use Rattle.iox_lanes_machine.proofs.Ends.{some_is, pop_here}
use Rattle.iox_lanes_machine.proofs.InTable.{IsSeat, access_answer}
use Rattle.iox_lanes_machine.proofs.Puts.{idle_hand}

-- the answer of a pop or look, as a list
abbrev answers : Option PopAnswer → List PopAnswer
answers None = []
answers (Some a) = a ∷ []

pop_answers : (p : Pop) → pop_ended p ≡ answers (pop_answer p)
pop_answers (pop.Overflowing overflowing_pop.Idle) = refl
pop_answers (pop.Overflowing overflowing_pop.Begun) = refl
pop_answers (pop.Overflowing (overflowing_pop.SawRead read)) = refl
pop_answers (pop.Overflowing (overflowing_pop.Nonempty read next)) = refl
pop_answers (pop.Overflowing (overflowing_pop.SawCell read next value)) = refl
pop_answers (pop.Overflowing (overflowing_pop.Popped got)) = refl
pop_answers (pop.Overflowing overflowing_pop.LookBegun) = refl
pop_answers (pop.Overflowing (overflowing_pop.LookRead read)) = refl
pop_answers (pop.Overflowing (overflowing_pop.Looked some)) = refl
pop_answers (pop.Refusing refusing_pop.Idle) = refl
pop_answers (pop.Refusing refusing_pop.Begun) = refl
pop_answers (pop.Refusing (refusing_pop.SawRead read)) = refl
pop_answers (pop.Refusing (refusing_pop.Nonempty read next)) = refl
pop_answers (pop.Refusing (refusing_pop.SawCell next value)) = refl
pop_answers (pop.Refusing (refusing_pop.Popped got)) = refl
pop_answers (pop.Refusing refusing_pop.LookBegun) = refl
pop_answers (pop.Refusing (refusing_pop.LookRead read)) = refl
pop_answers (pop.Refusing (refusing_pop.Looked some)) = refl

-- a look stays one until it is answered, and so does a pop; each is answered in its own kind
pub record StaysKind (p next : Pop) : Type 0 where
  pub none : pop_answer next ≡ None → pop_looks next ≡ pop_looks p
  pub got : (x : Option ℕ) → pop_answer next ≡ Some (Got x) → pop_looks p ≡ false
  pub saw : (some : Bool) → pop_answer next ≡ Some (Saw some) → pop_looks p ≡ true

pops_on : (p next : Pop) → pop_answer next ≡ None → pop_looks next ≡ pop_looks p → StaysKind p next
pops_on p next none same = record { none = λ e. same; got = λ x e. absurd (cc (sym none ∙ e)); saw = λ some e. absurd (cc (sym none ∙ e)) }

pops_got : (p next : Pop) (got : Option ℕ) → pop_answer next ≡ Some (Got got) → pop_looks p ≡ false → StaysKind p next
pops_got p next got is looks = record { none = λ e. absurd (cc (sym is ∙ e)); got = λ x e. looks; saw = λ some e. absurd (cc (sym is ∙ e)) }

looks_saw : (p next : Pop) (some : Bool) → pop_answer next ≡ Some (Saw some) → pop_looks p ≡ true → StaysKind p next
looks_saw p next some is looks = record { none = λ e. absurd (cc (sym is ∙ e)); got = λ x e. absurd (cc (sym is ∙ e)); saw = λ s e. looks }

pub stays_kind : (p : Pop) (a : ℕ) → pop_answer p ≡ None → StaysKind p (pop_take p a)
stays_kind (pop.Overflowing overflowing_pop.Idle) a unanswered = pops_on _ _ refl refl
stays_kind (pop.Overflowing overflowing_pop.Begun) a unanswered = pops_on _ _ refl refl
stays_kind (pop.Overflowing (overflowing_pop.SawRead read)) a unanswered = by_test (a == read)
  where
    by_test : (b : Bool) → StaysKind (pop.Overflowing (overflowing_pop.SawRead read)) (pop.Overflowing (overflowing.pop_emptied b read))
    by_test true = pops_got _ _ None refl refl
    by_test false = pops_on _ _ refl refl
stays_kind (pop.Overflowing (overflowing_pop.Nonempty read next)) a unanswered = pops_on _ _ refl refl
stays_kind (pop.Overflowing (overflowing_pop.SawCell read next value)) a unanswered = by_test (a == read)
  where
    by_test : (b : Bool) → StaysKind (pop.Overflowing (overflowing_pop.SawCell read next value))
        (pop.Overflowing (overflowing.pop_swapped b a value))
    by_test true = pops_got _ _ (Some value) refl refl
    by_test false = pops_on _ _ refl refl
stays_kind (pop.Overflowing (overflowing_pop.Popped got)) a unanswered = absurd (cc unanswered)
stays_kind (pop.Overflowing overflowing_pop.LookBegun) a unanswered = pops_on _ _ refl refl
stays_kind (pop.Overflowing (overflowing_pop.LookRead read)) a unanswered = looks_saw _ _ (not (a == read)) refl refl
stays_kind (pop.Overflowing (overflowing_pop.Looked some)) a unanswered = absurd (cc unanswered)
stays_kind (pop.Refusing refusing_pop.Idle) a unanswered = pops_on _ _ refl refl
stays_kind (pop.Refusing refusing_pop.Begun) a unanswered = pops_on _ _ refl refl
stays_kind (pop.Refusing (refusing_pop.SawRead read)) a unanswered = by_test (a == read)
  where
    by_test : (b : Bool) → StaysKind (pop.Refusing (refusing_pop.SawRead read)) (pop.Refusing (refusing.pop_emptied b read))
    by_test true = pops_got _ _ None refl refl
    by_test false = pops_on _ _ refl refl
stays_kind (pop.Refusing (refusing_pop.Nonempty read next)) a unanswered = pops_on _ _ refl refl
stays_kind (pop.Refusing (refusing_pop.SawCell next value)) a unanswered = pops_got _ _ (Some value) refl refl
stays_kind (pop.Refusing (refusing_pop.Popped got)) a unanswered = absurd (cc unanswered)
stays_kind (pop.Refusing refusing_pop.LookBegun) a unanswered = pops_on _ _ refl refl
stays_kind (pop.Refusing (refusing_pop.LookRead read)) a unanswered = looks_saw _ _ (not (a == read)) refl refl
stays_kind (pop.Refusing (refusing_pop.Looked some)) a unanswered = absurd (cc unanswered)

-- one that begins
pub first_unanswered : (k : RingKind) (full : Bool) → pop_answer (pop_first k full) ≡ None
first_unanswered kind.Overflowing true = refl
first_unanswered kind.Overflowing false = refl
first_unanswered kind.Refusing true = refl
first_unanswered kind.Refusing false = refl

pub first_looks : (k : RingKind) (full : Bool) → pop_looks (pop_first k full) ≡ full
first_looks kind.Overflowing true = refl
first_looks kind.Overflowing false = refl
first_looks kind.Refusing true = refl
first_looks kind.Refusing false = refl

-- acts that are just one take or look, or none
abbrev IsTakenBy : List Act → Option PopAnswer → Type 0
IsTakenBy acts None = acts ≡ []
IsTakenBy acts (Some a) = acts ≡ Take a ∷ []

-- acts among which no put is
takes_only : (acts : List Act) (a : Option PopAnswer) → put_values acts ≡ [] → take_values acts ≡ answers a → IsTakenBy acts a
takes_only [] None puts takes = refl
takes_only [] (Some a) puts takes = absurd (cc takes)
takes_only (Put value answer ∷ acts) a puts takes = absurd (cc puts)
takes_only (Take x ∷ acts) None puts takes = absurd (cc takes)
takes_only (Take x ∷ []) (Some a) puts takes = ap (λ (y : PopAnswer). Take y ∷ []) (cc takes)
takes_only (Take x ∷ Put value answer ∷ acts) (Some a) puts takes = absurd (cc puts)
takes_only (Take x ∷ Take y ∷ acts) (Some a) puts takes = absurd (cc takes)

-- what the answer of a pop or a look makes of a list
pub record Given (before after : List ℕ) (a : Option PopAnswer) : Type 0 where
  pub none : a ≡ None → after ≡ before
  pub empty : a ≡ Some (Got None) → (before ≡ []) × (after ≡ [])
  pub one : (value : ℕ) → a ≡ Some (Got (Some value)) → before ≡ value ∷ after
  pub saw : (some : Bool) → a ≡ Some (Saw some) → (some ≡ nat_lt 0 (length before)) × (after ≡ before)

empty_is : (q : List ℕ) → None ≡ slice_get q 0 → q ≡ []
empty_is [] e = refl
empty_is (x ∷ q) e = absurd (cc e)

first_is : (q : List ℕ) (value : ℕ) → Some value ≡ slice_get q 0 → q ≡ value ∷ drop 1 q
first_is [] value e = absurd (cc e)
first_is (x ∷ q) value e = ap (λ (y : ℕ). y ∷ q) (some_is x value (sym e))

given_by : (o : Bool) (limit : ℕ) (q : List ℕ) (acts : List Act) (a : Option PopAnswer) → IsTakenBy acts a → Acts o limit q acts
    → Given q (after_acts o limit q acts) a
given_by o limit q acts None is h =
    subst (λ (xs : List Act). Given q (after_acts o limit q xs) None) (sym is)
    (record { none = λ e. refl; empty = λ e. absurd (cc e); one = λ value e. absurd (cc e); saw = λ some e. absurd (cc e) })
given_by o limit q acts (Some (Got None)) is h =
    let taken : None ≡ slice_get q 0 = (subst (Acts o limit q) is h).0 in
    let none = empty_is q taken in
    subst (λ (xs : List Act). Given q (after_acts o limit q xs) (Some (Got None))) (sym is)
    (record {
      none = λ e. absurd (cc e);
      empty = λ e. (none, ap (drop 1) none);
      one = λ value e. absurd (cc e);
      saw
          = λ some e. absurd (cc e);
    })
given_by o limit q acts (Some (Got (Some value))) is h =
    let taken : Some value ≡ slice_get q 0 = (subst (Acts o limit q) is h).0 in
    subst (λ (xs : List Act). Given q (after_acts o limit q xs) (Some (Got (Some value)))) (sym is)
    (record {
      none = λ e. absurd (cc e);
      empty = λ e. absurd (cc e);
      one = λ v e. first_is q v (sym (value_is value v e) ∙ taken);
      saw
          = λ some e. absurd (cc e);
    })
  where
    value_is : (x y : ℕ) → Some (Got (Some x)) ≡ Some (Got (Some y)) → Some x ≡ Some y
    value_is x y e = cc e
given_by o limit q acts (Some (Saw seen)) is h =
    let taken : seen ≡ nat_lt 0 (length q) = (subst (Acts o limit q) is h).0 in
    subst (λ (xs : List Act). Given q (after_acts o limit q xs) (Some (Saw seen))) (sym is)
    (record {
      none = λ e. absurd (cc e);
      empty = λ e. absurd (cc e);
      one = λ v e. absurd (cc e);
      saw
          = λ some e. (sym (seen_is seen some e) ∙ taken, refl);
    })
  where
    seen_is : (x y : Bool) → Some (Saw x) ≡ Some (Saw y) → x ≡ y
    seen_is x y e = cc e

none_behind : (xs : List PutNow) → [] ≡ [] ++ xs → xs ≡ []
none_behind xs e = sym e

-- what stands at a step of a pop or a look where nobody pushes: its take or its look, if it is answered, and nothing else
pub popped : (table : TableWords) (moments : ℕ) (place : ℕ) (route : Route) (p : Pop) (waits : Bool) (link : LinkState)
    (order : List Placed) (sends : PublisherCall) (cells : ℕ) (push : Push)
    → cells ≡ cells_of link.kind link.limit → push ≡ push_on route.connection link.kind sends
    → push_on route.connection link.kind sends ≡ push_idle link.kind
    → IsSeat Submission table route.connection (cells_of link.kind link.limit) → moments < 2 ^ 63
    → IsKeptAt table moments route.connection link order sends (subscribing.Receiving place route p waits)
    → Acts (overflows link.kind) link.limit (waiting link order) (placed_by_pop (ring_in table route.connection cells) push p)
    → Given (waiting link order) (after_acts (overflows link.kind) link.limit (waiting link order)
    (placed_by_pop (ring_in table route.connection cells) push p))
    (pop_answer (pop_take p (shared_answer table (on_ring route.connection Submission cells (pop_next p)))))
popped table moments place route p waits link order sends cells push size is idle st bound k acts =
    let exact : Given (waiting link order)
    (after_acts (overflows link.kind) link.limit (waiting link order) (placed_by_pop words (push_idle link.kind) p))
    (pop_answer (pop_take p (shared_answer table (on_ring route.connection Submission (cells_of link.kind link.limit) (pop_next p))))) =
    given_by (overflows link.kind) link.limit (waiting link order) (placed_by_pop words (push_idle link.kind) p)
    (pop_answer (pop_take p (shared_answer table (on_ring route.connection Submission (cells_of link.kind link.limit) (pop_next p)))))
    (takes_only (placed_by_pop words (push_idle link.kind) p) _ no_puts takes)
    (subst (λ (x : Push). Acts (overflows link.kind) link.limit (waiting link order) (placed_by_pop words x p)) (is ∙ idle)
    (subst (λ (n : ℕ). Acts (overflows link.kind) link.limit (waiting link order)
    (placed_by_pop (ring_in table route.connection n) push p)) size acts)) in
    subst (λ (x : Push). Given (waiting link order)
    (after_acts (overflows link.kind) link.limit (waiting link order) (placed_by_pop (ring_in table route.connection cells) x p))
    (pop_answer (pop_take p (shared_answer table (on_ring route.connection Submission cells (pop_next p)))))) (sym (is ∙ idle))
    (subst (λ (n : ℕ). Given (waiting link order)
    (after_acts (overflows link.kind) link.limit (waiting link order)
    (placed_by_pop (ring_in table route.connection n) (push_idle link.kind) p))
    (pop_answer (pop_take p (shared_answer table (on_ring route.connection Submission n (pop_next p)))))) (sym size) exact)
  where
    words : RingWords
    words = ring_in table route.connection (cells_of link.kind link.limit)

    shape : Shape link.kind link.limit words (waiting link order) (push_idle link.kind) p
    shape = subst (λ (x : Push). Shape link.kind link.limit words (waiting link order) x p) idle
        (subst (λ (x : Pop). Shape link.kind link.limit words (waiting link order) (push_on route.connection link.kind sends) x)
        (pop_here place route link.kind p waits) k.shape)

    no_puts : put_values (placed_by_pop words (push_idle link.kind) p) ≡ []
    no_puts =
        let g = pop_goes link.kind link.limit words (waiting link order) (push_idle link.kind) p (omega (arith, k.few, bound)) shape in
        none_behind _ (sym (idle_hand _ link.kind) ∙ g.in_hand ∙ ap
        (λ (xs : List PutNow). xs ++ put_values (placed_by_pop words (push_idle link.kind) p)) (idle_hand words.read link.kind))

    takes : take_values (placed_by_pop words (push_idle link.kind) p)
        ≡ answers (pop_answer (pop_take p
        (shared_answer table (on_ring route.connection Submission (cells_of link.kind link.limit) (pop_next p)))))
    takes =
        let g = pop_goes link.kind link.limit words (waiting link order) (push_idle link.kind) p (omega (arith, k.few, bound)) shape in
        let given : answer_of words (pop_next p)
        ≡ shared_answer table (on_ring route.connection Submission (cells_of link.kind link.limit) (pop_next p))
        = access_answer Submission table route.connection (cells_of link.kind link.limit) (pop_next p) st in
        sym g.ended ∙ ap (λ (a : ℕ). pop_ended (pop_take p a)) given ∙ pop_answers
        (pop_take p (shared_answer table (on_ring route.connection Submission (cells_of link.kind link.limit) (pop_next p))))
