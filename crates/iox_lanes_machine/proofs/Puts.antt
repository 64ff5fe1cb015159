-- The puts at a connection, as its order grows, and the push that makes them.
use Rattle.std.proofs.Common.{ℕ, ◌≡◌, ◌+◌, ◌-◌, ◌<◌, ◌≤◌, ◌^◌, zero, suc, Bool, true, false, if◌then◌else◌, nat_lt, List, [], ◌∷◌, ◌++◌}
use Rattle.std.proofs.Common.{length, map, drop, get_or, set, slice_get, Option, Some, None, refl, sym, ◌∙◌, ap, subst, inl, inr, arith}
use Rattle.std.proofs.Common.{append-nil}
use Rattle.std.specs.List.{AllZip}
use Rattle.std.specs.Option.{unwrap_or}
use Rattle.std.proofs.lemmas.Option.{unwrap_or-slice_get, get_or_from_slice_get}
use Rattle.iox_lanes_machine.specs.QueuesSteps.Access.{successor}
use Rattle.iox_lanes_machine.specs.QueuesSteps.Order.{at, puts, push_call, put_values, PutNow, PutInside}
use Rattle.iox_lanes_machine.specs.QueuesSteps.declared.order.Act.{Act}
use Rattle.iox_lanes_machine.specs.QueuesSteps.declared.order.Placed.{Placed}
use Rattle.iox_lanes_machine.specs.QueuesSteps.declared.order.PushAnswer.{PushAnswer}
use Rattle.iox_lanes_machine.specs.QueuesSteps.declared.order.PushAnswer.TheVariants.{Kept, LeftOut, Refused}
use Rattle.iox_lanes_machine.specs.QueuesSteps.declared.order.PushCall.{PushCall}
use Rattle.iox_lanes_machine.proofs.QueuesSteps.Orders.{puts_more}
use Rattle.iox_lanes_machine.specs.QueuesSteps.declared.rings.overflowing.push.Push.TheVariants as overflowing_push
use Rattle.iox_lanes_machine.specs.QueuesSteps.declared.rings.refusing.push.Push.TheVariants as refusing_push
use Rattle.iox_lanes_machine.specs.QueuesSteps.Ends.{push_begun, push_idle, push_take, push_value, push_ended, put_in_hand}
use Rattle.iox_lanes_machine.specs.QueuesSteps.declared.rings.ends.RingKind.{RingKind}
use Rattle.iox_lanes_machine.specs.QueuesSteps.declared.rings.ends.RingKind.TheVariants as kind
use Rattle.iox_lanes_machine.specs.QueuesSteps.declared.rings.ends.Push.{Push}
use Rattle.iox_lanes_machine.specs.QueuesSteps.declared.rings.ends.Push.TheVariants as push
use Rattle.iox_lanes_machine.specs.LanesBase.Answers.{push_answer}
use Rattle.iox_lanes_machine.specs.LanesBase.Publishing.{counted}
use Rattle.iox_lanes_machine.specs.LanesBase.declared.calls.publisher.Delivery.{Delivery}
use Rattle.iox_lanes_machine.specs.LanesBase.declared.calls.route.Route.{Route}
use Rattle.iox_lanes_machine.specs.LanesParties.declared.call.FinishedCall.{FinishedCall}
use Rattle.iox_lanes_machine.specs.Sends.{taken_among, refused_among, delivery_of, puts_at, IsPutAt, PutsRise, ArePut, IsSent}
use Rattle.iox_lanes_machine.specs.World.{added, added_to}
use Rattle.iox_lanes_machine.proofs.Steps.{stands, added_other}
use Rattle.iox_lanes_machine.proofs.Within.{set_same}

-- what stands in a list stays there as the list grows
stays : {X : Type 0} (xs ys : List X) (k : ℕ) (x : X) → slice_get xs k ≡ Some x → slice_get (xs ++ ys) k ≡ Some x
stays [] ys k x e = absurd (cc)
stays (y ∷ xs) ys zero x e = e
stays (y ∷ xs) ys (suc k) x e = stays xs ys k x e

-- the first one after n
pub first_behind : {X : Type 0} (xs rest : List X) (k : ℕ) (x : X) → drop k xs ≡ x ∷ rest → slice_get xs k ≡ Some x
first_behind [] rest zero x e = absurd (cc)
first_behind [] rest (suc k) x e = absurd (cc)
first_behind (y ∷ xs) rest zero x e = cc e
first_behind (y ∷ xs) rest (suc k) x e = first_behind xs rest k x e

get_same : {X : Type 0} (xs ys : List X) (i : ℕ) (d : X) → slice_get xs i ≡ slice_get ys i → get_or xs i d ≡ get_or ys i d
get_same {X} xs ys i d e = sym (unwrap_or-slice_get xs i d) ∙ ap (λ (o : Option X). unwrap_or o d) e ∙ unwrap_or-slice_get ys i d

-- acts placed elsewhere leave the puts of a connection
pub puts_off : (orders : List (List Placed)) (to : Option ℕ) (moment : ℕ) (acts : List Act) (route : Route)
    → (to ≡ Some route.connection → ⊥) → puts_at (added orders to moment acts) route ≡ puts_at orders route
puts_off orders to moment acts route off
    = ap puts (get_same (added orders to moment acts) orders route.connection [] (added_other orders to moment acts route.connection off))

-- those placed there stand after them
pub puts_on : (orders : List (List Placed)) (to : Option ℕ) (moment : ℕ) (acts : List Act) (route : Route) (order : List Placed)
    → to ≡ Some route.connection → slice_get orders route.connection ≡ Some order
    → puts_at (added orders to moment acts) route ≡ puts_at orders route ++ map (push_call moment moment) (put_values acts)
puts_on orders to moment acts route order here found =
    subst (λ (t : Option ℕ). puts_at (added orders t moment acts) route ≡ puts_at orders route
    ++ map (push_call moment moment) (put_values acts)) (sym here)
    (subst (λ (o : Option (List Placed)). puts (get_or (added_to orders route.connection moment acts o) route.connection [])
    ≡ puts_at orders route ++ map (push_call moment moment) (put_values acts)) (sym found)
    (ap puts (get_or_from_slice_get (set orders route.connection (order ++ at moment acts)) route.connection (order ++ at moment acts)
    [] (set_same orders route.connection (order ++ at moment acts) order found))
    ∙ puts_more order moment acts
    ∙ ap (λ (o : List Placed). puts o ++ map (push_call moment moment) (put_values acts))
    (sym (get_or_from_slice_get orders route.connection order [] found))))

-- orders that only grow
abbrev pub Grow : List (List Placed) → List (List Placed) → Type 0
Grow orders orders' = (route : Route) → (more : List PushCall) × (puts_at orders' route ≡ puts_at orders route ++ more)

pub grow_none : (orders : List (List Placed)) → Grow orders orders
grow_none orders = λ route. ([], sym (append-nil (puts_at orders route)))

pub grow_added : (orders : List (List Placed)) (to : Option ℕ) (moment : ℕ) (acts : List Act) → Grow orders (added orders to moment acts)
grow_added orders to moment acts = λ route. elim (stands to route.connection) [
  | inl here ↦ by_order route here (slice_get orders route.connection) refl
  | inr off ↦ ([], puts_off orders to moment acts route off ∙ sym (append-nil (puts_at orders route)))
]
  where
    by_order : (route : Route) → to ≡ Some route.connection → (order : Option (List Placed)) → slice_get orders route.connection ≡ order
        → (more : List PushCall) × (puts_at (added orders to moment acts) route ≡ puts_at orders route ++ more)
    by_order route here None e = (
      [],
      subst (λ (t : Option ℕ). puts_at (added orders t moment acts) route ≡ puts_at orders route ++ []) (sym here)
          (subst (λ (o : Option (List Placed)). puts (get_or (added_to orders route.connection moment acts o) route.connection [])
          ≡ puts_at orders route ++ []) (sym e) (sym (append-nil (puts_at orders route)))),
    )
    by_order route here (Some order) e = (map (push_call moment moment) (put_values acts), puts_on orders to moment acts route order here e)

-- a put that stands stays
put_stays : (orders orders' : List (List Placed)) (number slot first last last' : ℕ) (route : Route) (answer : PushAnswer)
    → Grow orders orders' → last ≤ last'
    → IsPutAt orders number slot first last route answer → IsPutAt orders' number slot first last' route answer
put_stays orders orders' number slot first last last' route answer grow le h = record {
  put = h.put;
  found = ap (λ (ps : List PushCall). slice_get ps number) ((grow route).1) ∙ stays (puts_at orders route) ((grow route).0) number h.put
      h.found;
  value = h.value;
  answered = h.answered;
  inside = record { begun = h.inside.begun; not_ended = omega (arith, h.inside.not_ended, le) };
}

zip_weaker : {A B : Type 0} (R S : A → B → Type 0) → ((a : A) (b : B) → R a b → S a b) → (xs : List A) (ys : List B) → AllZip R xs ys
    → AllZip S xs ys
zip_weaker R S f [] [] h = tt
zip_weaker R S f [] (y ∷ ys) h = absurd h
zip_weaker R S f (x ∷ xs) [] h = absurd h
zip_weaker R S f (x ∷ xs) (y ∷ ys) h = (f x y h.0, zip_weaker R S f xs ys h.1)

pub zip_append : {A B : Type 0} (R : A → B → Type 0) (xs : List A) (ys : List B) (more : List A) (rest : List B) → AllZip R xs ys
    → AllZip R more rest → AllZip R (xs ++ more) (ys ++ rest)
zip_append R [] [] more rest h g = g
zip_append R [] (y ∷ ys) more rest h g = absurd h
zip_append R (x ∷ xs) [] more rest h g = absurd h
zip_append R (x ∷ xs) (y ∷ ys) more rest h g = (h.0, zip_append R xs ys more rest h.1 g)

pub zip_length : {A B : Type 0} (R : A → B → Type 0) (xs : List A) (ys : List B) → AllZip R xs ys → length xs ≡ length ys
zip_length R [] [] h = refl
zip_length R [] (y ∷ ys) h = absurd h
zip_length R (x ∷ xs) [] h = absurd h
zip_length R (x ∷ xs) (y ∷ ys) h = omega (arith, zip_length R xs ys h.1)

rise_stays : (orders orders' : List (List Placed)) (number low : ℕ) (routes : List Route) (high high' : ℕ) → Grow orders orders'
    → high ≤ high' → PutsRise orders number low routes high → PutsRise orders' number low routes high'
rise_stays orders orders' number low [] high high' grow le h = omega (arith, h, le)
rise_stays orders orders' number low (route ∷ routes) high high' grow le h = (
  h.0,
  ap (λ (ps : List PushCall). slice_get ps number) ((grow route).1) ∙ stays (puts_at orders route) ((grow route).0) number h.0 h.1,
  h.2,
  rise_stays orders orders' number (h.0).first routes high high' grow le h.3,
)

-- puts that rise rise over some moments
pub rise_le : (orders : List (List Placed)) (number low : ℕ) (routes : List Route) (high : ℕ) → PutsRise orders number low routes high
    → low ≤ high
rise_le orders number low [] high h = h
rise_le orders number low (route ∷ routes) high h = omega (arith, h.2, rise_le orders number (h.0).first routes high h.3)

-- one more put, after them
pub rise_more : (orders : List (List Placed)) (number low : ℕ) (routes : List Route) (high high' : ℕ) (route : Route) (put : PushCall)
    → slice_get (puts_at orders route) number ≡ Some put → high ≤ put.first → put.first ≤ high'
    → PutsRise orders number low routes high → PutsRise orders number low (routes ++ route ∷ []) high'
rise_more orders number low [] high high' route put found le last h = (put, found, omega (arith, h, le), last)
rise_more orders number low (r ∷ routes) high high' route put found le last h
    = (h.0, h.1, h.2, rise_more orders number (h.0).first routes high high' route put found le last h.3)

pub are_put_stay : (orders orders' : List (List Placed)) (routes : List Route) (number slot first last last' : ℕ) (delivery : Delivery)
    → Grow orders orders' → last ≤ last'
    → ArePut orders routes number slot first last delivery → ArePut orders' routes number slot first last' delivery
are_put_stay orders orders' routes number slot first last last' delivery grow le h = record {
  answers = h.answers;
  puts = zip_weaker (IsPutAt orders number slot first last) (IsPutAt orders' number slot first last')
      (λ route answer. put_stays orders orders' number slot first last last' route answer grow le) routes h.answers h.puts;
  in_order = rise_stays orders orders' number first routes last last' grow le h.in_order;
  counted = h.counted;
}

pub sent_stays : (orders orders' : List (List Placed)) (fails : Bool) (routes : List Route) (number : ℕ) (send : FinishedCall)
    → Grow orders orders' → IsSent orders fails routes number send → IsSent orders' fails routes number send
sent_stays orders orders' fails routes number send grow h = record {
  slot = h.slot;
  delivery = h.delivery;
  asked = h.asked;
  answered = h.answered;
  puts = are_put_stay orders orders' routes number h.slot send.first send.last send.last h.delivery grow (omega arith) h.puts;
}

-- what a push in hand has put stays inside its call, with what it puts now
zip_later : (first last last' : ℕ) (hand : List PutNow) (ps : List PushCall) → last ≤ last'
    → AllZip PutInside (map (push_call first last) hand) ps → AllZip PutInside (map (push_call first last') hand) ps
zip_later first last last' [] [] le h = tt
zip_later first last last' [] (p ∷ ps) le h = absurd h
zip_later first last last' (x ∷ hand) [] le h = absurd h
zip_later first last last' (x ∷ hand) (p ∷ ps) le h = (
  record {
    answer = record { same_value = (h.0).answer.same_value; same_answer = (h.0).answer.same_answer };
    inside
        = record { begun = (h.0).inside.begun; not_ended = longer p.first last last' (h.0).inside.not_ended le };
  },
  zip_later first last last' hand ps le h.1,
)
  where
    longer : (a b c : ℕ) → a ≤ b → b ≤ c → a ≤ c
    longer a b c f g = omega (arith, f, g)

zip_now : (first now last : ℕ) (new : List PutNow) → first ≤ now → now ≤ last
    → AllZip PutInside (map (push_call first last) new) (map (push_call now now) new)
zip_now first now last [] f g = tt
zip_now first now last (x ∷ new) f g
    = (
      record { answer = record { same_value = refl; same_answer = refl }; inside = record { begun = f; not_ended = g } },
      zip_now first
          now last new f g,
    )

map_append : {A B : Type 0} (f : A → B) (xs ys : List A) → map f (xs ++ ys) ≡ map f xs ++ map f ys
map_append f [] ys = refl
map_append {A} {B} f (x ∷ xs) ys = ap (λ (zs : List B). f x ∷ zs) (map_append f xs ys)

drop_append : {X : Type 0} (k : ℕ) (xs ys : List X) → k ≤ length xs → drop k (xs ++ ys) ≡ drop k xs ++ ys
drop_append zero xs ys h = refl
drop_append (suc k) [] ys h = absurd (omega (arith, h))
drop_append (suc k) (x ∷ xs) ys h = drop_append k xs ys (omega (arith, h))

pub hand_grows : (first now last : ℕ) (number : ℕ) (hand hand' new : List PutNow) (ps ps' : List PushCall) → first ≤ now → now ≤ last
    → number ≤ length ps → hand' ≡ hand ++ new → ps' ≡ ps ++ map (push_call now now) new
    → AllZip PutInside (map (push_call first now) hand) (drop number ps)
    → AllZip PutInside (map (push_call first last) hand') (drop number ps')
hand_grows first now last number hand hand' new ps ps' f g some e d h =
    subst (λ (xs : List PutNow). AllZip PutInside (map (push_call first last) xs) (drop number ps')) (sym e)
    (subst (λ (ys : List PushCall). AllZip PutInside (map (push_call first last) (hand ++ new)) (drop number ys)) (sym d)
    (subst (λ (ys : List PushCall). AllZip PutInside (map (push_call first last) (hand ++ new)) ys)
    (sym (drop_append number ps (map (push_call now now) new) some))
    (subst (λ (xs : List PushCall). AllZip PutInside xs (drop number ps ++ map (push_call now now) new))
    (sym (map_append (push_call first last) hand new))
    (zip_append PutInside (map (push_call first last) hand) (drop number ps) (map (push_call first last) new)
    (map (push_call now now) new) (zip_later first now last hand (drop number ps) g h) (zip_now first now last new f g)))))

-- what a push puts, and what it answers
pub value_stays : (p : Push) (a : ℕ) → push_answer p ≡ None → push_value (push_take p a) ≡ push_value p
value_stays (push.Overflowing overflowing_push.Idle) a e = refl
value_stays (push.Overflowing (overflowing_push.Begun limit value)) a e = refl
value_stays (push.Overflowing (overflowing_push.SawWrite limit value write next)) a e = refl
value_stays (push.Overflowing (overflowing_push.SawRead limit value write next seen)) a e = refl
value_stays (push.Overflowing (overflowing_push.Filled limit value write next seen)) a e = by_test (nat_lt limit (next - seen))
  where
    by_test : (b : Bool) → push_value (push.Overflowing
        (if b then overflowing_push.Full value seen (successor seen) else overflowing_push.Pushed value Kept)) ≡ value
    by_test true = refl
    by_test false = refl
value_stays (push.Overflowing (overflowing_push.Full value seen next)) a e = refl
value_stays (push.Overflowing (overflowing_push.SawOldest value seen next oldest)) a e = refl
value_stays (push.Overflowing (overflowing_push.Pushed value answered)) a e = absurd (cc)
value_stays (push.Refusing refusing_push.Idle) a e = refl
value_stays (push.Refusing (refusing_push.Begun limit value)) a e = refl
value_stays (push.Refusing (refusing_push.SawWrite limit value write next)) a e = by_test (nat_lt (write - a) limit)
  where
    by_test : (b : Bool) → push_value (push.Refusing
        (if b then refusing_push.SawRoom value write next else refusing_push.Pushed value Refused)) ≡ value
    by_test true = refl
    by_test false = refl
value_stays (push.Refusing (refusing_push.SawRoom value write next)) a e = refl
value_stays (push.Refusing (refusing_push.Filled value next)) a e = refl
value_stays (push.Refusing (refusing_push.Pushed value answered)) a e = absurd (cc)

pub hand_done : (read : ℕ) (p : Push) (answer : PushAnswer) → push_answer p ≡ Some answer
    → put_in_hand read p ≡ record { value = push_value p; answer = answer } ∷ []
hand_done read (push.Overflowing overflowing_push.Idle) answer e = absurd (cc)
hand_done read (push.Overflowing (overflowing_push.Begun limit value)) answer e = absurd (cc)
hand_done read (push.Overflowing (overflowing_push.SawWrite limit value write next)) answer e = absurd (cc)
hand_done read (push.Overflowing (overflowing_push.SawRead limit value write next seen)) answer e = absurd (cc)
hand_done read (push.Overflowing (overflowing_push.Filled limit value write next seen)) answer e = absurd (cc)
hand_done read (push.Overflowing (overflowing_push.Full value seen next)) answer e = absurd (cc)
hand_done read (push.Overflowing (overflowing_push.SawOldest value seen next oldest)) answer e = absurd (cc)
hand_done read (push.Overflowing (overflowing_push.Pushed value answered)) answer e = cc e
hand_done read (push.Refusing refusing_push.Idle) answer e = absurd (cc)
hand_done read (push.Refusing (refusing_push.Begun limit value)) answer e = absurd (cc)
hand_done read (push.Refusing (refusing_push.SawWrite limit value write next)) answer e = absurd (cc)
hand_done read (push.Refusing (refusing_push.SawRoom value write next)) answer e = absurd (cc)
hand_done read (push.Refusing (refusing_push.Filled value next)) answer e = absurd (cc)
hand_done read (push.Refusing (refusing_push.Pushed value answered)) answer e = cc e

pub ended_none : (p : Push) → push_answer p ≡ None → push_ended p ≡ []
ended_none (push.Overflowing overflowing_push.Idle) e = refl
ended_none (push.Overflowing (overflowing_push.Begun limit value)) e = refl
ended_none (push.Overflowing (overflowing_push.SawWrite limit value write next)) e = refl
ended_none (push.Overflowing (overflowing_push.SawRead limit value write next seen)) e = refl
ended_none (push.Overflowing (overflowing_push.Filled limit value write next seen)) e = refl
ended_none (push.Overflowing (overflowing_push.Full value seen next)) e = refl
ended_none (push.Overflowing (overflowing_push.SawOldest value seen next oldest)) e = refl
ended_none (push.Overflowing (overflowing_push.Pushed value answered)) e = absurd (cc)
ended_none (push.Refusing refusing_push.Idle) e = refl
ended_none (push.Refusing (refusing_push.Begun limit value)) e = refl
ended_none (push.Refusing (refusing_push.SawWrite limit value write next)) e = refl
ended_none (push.Refusing (refusing_push.SawRoom value write next)) e = refl
ended_none (push.Refusing (refusing_push.Filled value next)) e = refl
ended_none (push.Refusing (refusing_push.Pushed value answered)) e = absurd (cc)

pub idle_hand : (read : ℕ) (k : RingKind) → put_in_hand read (push_idle k) ≡ []
idle_hand read kind.Overflowing = refl
idle_hand read kind.Refusing = refl

pub begun_hand : (read : ℕ) (k : RingKind) (limit value : ℕ) → put_in_hand read (push_begun k limit value) ≡ []
begun_hand read kind.Overflowing limit value = refl
begun_hand read kind.Refusing limit value = refl

pub begun_value : (k : RingKind) (limit value : ℕ) → push_value (push_begun k limit value) ≡ value
begun_value kind.Overflowing limit value = refl
begun_value kind.Refusing limit value = refl

-- one more answer is counted as one more put
taken_append : (xs ys : List PushAnswer) → taken_among (xs ++ ys) ≡ taken_among xs + taken_among ys
taken_append [] ys = omega arith
taken_append (Kept ∷ xs) ys = omega (arith, taken_append xs ys)
taken_append (LeftOut oldest ∷ xs) ys = omega (arith, taken_append xs ys)
taken_append (Refused ∷ xs) ys = taken_append xs ys

refused_append : (xs ys : List PushAnswer) → refused_among (xs ++ ys) ≡ refused_among xs + refused_among ys
refused_append [] ys = omega arith
refused_append (Kept ∷ xs) ys = refused_append xs ys
refused_append (LeftOut oldest ∷ xs) ys = refused_append xs ys
refused_append (Refused ∷ xs) ys = omega (arith, refused_append xs ys)

among_all : (xs : List PushAnswer) → taken_among xs + refused_among xs ≡ length xs
among_all [] = refl
among_all (Kept ∷ xs) = omega (arith, among_all xs)
among_all (LeftOut oldest ∷ xs) = omega (arith, among_all xs)
among_all (Refused ∷ xs) = omega (arith, among_all xs)

abbrev delivery : ℕ → ℕ → Delivery
delivery taken refused = record { taken = taken; refused = refused }

same_delivery : (a b c d : ℕ) → a ≡ c → b ≡ d → delivery a b ≡ delivery c d
same_delivery a b c d e f = cc (e, f)

pub counted_more : (answers : List PushAnswer) (answer : PushAnswer) → length answers < 2 ^ 63
    → counted (delivery_of answers) answer ≡ delivery_of (answers ++ answer ∷ [])
counted_more answers Kept few =
    same_delivery _ _ _ _ (omega (arith, among_all answers, few, taken_append answers (Kept ∷ [])))
    (omega (arith, refused_append answers (Kept ∷ [])))
counted_more answers (LeftOut oldest) few =
    same_delivery _ _ _ _ (omega (arith, among_all answers, few, taken_append answers (LeftOut oldest ∷ [])))
    (omega (arith, refused_append answers (LeftOut oldest ∷ [])))
counted_more answers Refused few =
    same_delivery _ _ _ _ (omega (arith, taken_append answers (Refused ∷ [])))
    (omega (arith, among_all answers, few, refused_append answers (Refused ∷ [])))
