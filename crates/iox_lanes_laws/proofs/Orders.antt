-- What a publisher's own steps put into the order of a connection: puts alone, and only at its own connections.
use Rattle.std.proofs.Common.{ℕ, ◌≡◌, ◌+◌, Bool, List, [], ◌∷◌, ◌++◌, length, map, slice_get, Some, option_map, refl, sym, ◌∙◌, ap}
use Rattle.std.proofs.Common.{subst, inl, inr, arith, append_assoc, append-nil, length-append}
use Rattle.std.proofs.lemmas.List.{length-map}
use Rattle.std.proofs.lemmas.Option.{slice_get-map}
use Rattle.iox_lanes_machine.specs.QueuesSteps.Order.{Acts, after_acts, after_act, acts_of, puts, put_of, put_values, take_values}
use Rattle.iox_lanes_machine.specs.QueuesSteps.Order.{push_call, PutNow}
use Rattle.iox_lanes_machine.specs.QueuesSteps.declared.order.Act.{Act}
use Rattle.iox_lanes_machine.specs.QueuesSteps.declared.order.Act.TheVariants.{Put, Take}
use Rattle.iox_lanes_machine.specs.QueuesSteps.declared.order.Placed.{Placed}
use Rattle.iox_lanes_machine.specs.QueuesSteps.declared.order.PopAnswer.{PopAnswer}
use Rattle.iox_lanes_machine.specs.QueuesSteps.declared.order.PushAnswer.{PushAnswer}
use Rattle.iox_lanes_machine.specs.QueuesSteps.declared.order.PushCall.{PushCall}
use Rattle.iox_lanes_machine.proofs.QueuesSteps.Orders.{acts_more, after_acts-append}
use Rattle.iox_lanes_machine.specs.QueuesSteps.Ends.{overflows}
use Rattle.iox_lanes_machine.specs.LanesParties.Parties.{PublisherLaneState}
use Rattle.iox_lanes_machine.specs.Kept.{IsWithin}
use Rattle.iox_lanes_machine.specs.Links.{LinkState}
use Rattle.iox_lanes_machine.specs.Rings.{waiting}
use Rattle.iox_lanes_machine.specs.World.{World, pushes_to, push_acts, added}
use Rattle.iox_lanes_machine.proofs.Ends.{some_is}
use Rattle.iox_lanes_machine.proofs.Receipts.{takes_append, publisher_no_takes}
use Rattle.iox_lanes_machine.proofs.Steps.{stands, added_other, added_here, pushes_own}

-- between two orders of a connection there are puts alone, and none where the connection is another publisher's
pub record PutsMore (m : World) (place connection : ℕ) (before after : List Placed) : Type 0 where
  pub acts : List Act
  pub more : acts_of after ≡ acts_of before ++ acts
  pub takes : take_values acts ≡ []
  pub own : (link : LinkState) → slice_get m.links connection ≡ Some link → (link.publisher ≡ place → ⊥) → acts ≡ []

-- so it is at each connection
abbrev pub PutsAlone : World → ℕ → List (List Placed) → Type 0
PutsAlone m place orders = (connection : ℕ) (before after : List Placed) → slice_get m.orders connection ≡ Some before
    → slice_get orders connection ≡ Some after → PutsMore m place connection before after

pub puts_none : (m : World) (place : ℕ) → PutsAlone m place m.orders
puts_none m place = λ connection before after got now. record {
  acts = [];
  more = ap acts_of (some_is after before (sym now ∙ got)) ∙ sym (append-nil (acts_of before));
  takes = refl;
  own = λ link found other. refl;
}

puts_append : (xs ys : List Act) → put_values (xs ++ ys) ≡ put_values xs ++ put_values ys
puts_append [] ys = refl
puts_append (x ∷ xs) ys = ap (λ (zs : List PutNow). put_of x ++ zs) (puts_append xs ys) ∙ sym
    (append_assoc (put_of x) (put_values xs) (put_values ys))

-- a step of the publisher itself
pub puts_on : (m k : World) (place : ℕ) (lane : PublisherLaneState) (orders : List (List Placed))
    → slice_get k.publishers place ≡ Some lane → IsWithin k → k.links ≡ m.links
    → orders ≡ added k.orders (pushes_to lane.port.call) k.moments (push_acts k.table lane.port.call) → PutsAlone m place k.orders
    → PutsAlone m place orders
puts_on m k place lane orders found w links is h
    = λ connection before after got now. go connection before after got
    (ap (λ (os : List (List Placed)). slice_get os connection) (sym is) ∙ now)
  where
    acts : List Act
    acts = push_acts k.table lane.port.call

    go : (connection : ℕ) (before after : List Placed) → slice_get m.orders connection ≡ Some before
        → slice_get (added k.orders (pushes_to lane.port.call) k.moments acts) connection ≡ Some after
        → PutsMore m place connection before after
    go connection before after got now = elim (stands (pushes_to lane.port.call) connection) [
      | inl here ↦
          let mid = added_here k.orders (pushes_to lane.port.call) k.moments acts connection after here now in
          let was = h connection before mid.0 got mid.1 in
          record {
            acts = was.acts ++ acts;
            more = ap acts_of mid.2 ∙ acts_more mid.0 k.moments acts ∙ ap (λ (xs : List Act). xs ++ acts) was.more ∙ append_assoc
                (acts_of before) was.acts acts;
            takes = takes_append was.acts acts ∙ ap (λ (ts : List PopAnswer). ts ++ take_values acts) was.takes ∙ publisher_no_takes
                k.table lane.port.call;
            own = λ link there other. absurd (other
                (pushes_own k place lane connection link found w (ap (λ (ls : List LinkState). slice_get ls connection) links ∙ there)
                here));
          }
      | inr off ↦ h connection before after got (sym (added_other k.orders (pushes_to lane.port.call) k.moments acts connection off) ∙ now)
    ]

-- a put without its moments
abbrev put_now : PushCall → PutNow
put_now call = record { value = call.value; answer = call.answer }

one_now : (moment : ℕ) (act : Act) → map put_now (map (push_call moment moment) (put_of act)) ≡ put_of act
one_now moment (Put value answer) = refl
one_now moment (Take answer) = refl

map_append : {A B : Type 0} (f : A → B) (xs ys : List A) → map f (xs ++ ys) ≡ map f xs ++ map f ys
map_append f [] ys = refl
map_append {A} {B} f (x ∷ xs) ys = ap (λ (zs : List B). f x ∷ zs) (map_append f xs ys)

puts_are : (order : List Placed) → map put_now (puts order) ≡ put_values (acts_of order)
puts_are [] = refl
puts_are (placed ∷ order) =
    map_append put_now (map (push_call placed.moment placed.moment) (put_of placed.act)) (puts order)
    ∙ ap (λ (xs : List PutNow). xs ++ map put_now (puts order)) (one_now placed.moment placed.act)
    ∙ ap (λ (xs : List PutNow). put_of placed.act ++ xs) (puts_are order)

pub puts_count : (order : List Placed) → length (puts order) ≡ length (put_values (acts_of order))
puts_count order = sym (length-map (puts order) put_now) ∙ ap (λ (xs : List PutNow). length xs) (puts_are order)

-- of puts alone there are as many as acts
no_acts : (acts : List Act) → take_values acts ≡ [] → length (put_values acts) ≡ 0 → acts ≡ []
no_acts [] takes none = refl
no_acts (Put value answer ∷ acts) takes none = absurd (omega (arith, none))
no_acts (Take answer ∷ acts) takes none = absurd (cc takes)

one_act : (acts : List Act) → take_values acts ≡ [] → length (put_values acts) ≡ 1 → (value : ℕ) × (answer : PushAnswer)
    × (acts ≡ Put value answer ∷ [])
one_act [] takes one = absurd (omega (arith, one))
one_act (Put value answer ∷ acts) takes one
    = (value, answer, ap (λ (xs : List Act). Put value answer ∷ xs) (no_acts acts takes (omega (arith, one))))
one_act (Take answer ∷ acts) takes one = absurd (cc takes)

more_puts : (m : World) (place connection : ℕ) (before after : List Placed) (h : PutsMore m place connection before after)
    → length (puts after) ≡ length (puts before) + length (put_values h.acts)
more_puts m place connection before after h =
    let all : length (put_values (acts_of after)) ≡ length (put_values (acts_of before) ++ put_values h.acts)
    = ap (λ (xs : List Act). length (put_values xs)) h.more ∙ ap (λ (xs : List PutNow). length xs)
    (puts_append (acts_of before) h.acts) in
    omega (arith, puts_count before, puts_count after, all, length-append (put_values (acts_of before)) (put_values h.acts))

-- where as many puts stand, the order is what it was
pub none_put : (m : World) (place connection : ℕ) (before after : List Placed) (h : PutsMore m place connection before after)
    → length (puts after) ≡ length (puts before) → h.acts ≡ []
none_put m place connection before after h same = no_acts h.acts h.takes (omega (arith, same, more_puts m place connection before after h))

-- where one more stands, it is the last
pub record OnePut (before after : List Placed) (acts : List Act) : Type 0 where
  pub value : ℕ
  pub answer : PushAnswer
  pub is : acts ≡ Put value answer ∷ []
  pub last : (put : PushCall) → slice_get (puts after) (length (puts before)) ≡ Some put → (put.value ≡ value) × (put.answer ≡ answer)

behind : {X : Type 0} (xs : List X) (x : X) (n : ℕ) → n ≡ length xs → slice_get (xs ++ x ∷ []) n ≡ Some x
behind xs x n e = ap (λ (k : ℕ). slice_get (xs ++ x ∷ []) k) e ∙ last xs
  where
    last : (ys : List _) → slice_get (ys ++ x ∷ []) (length ys) ≡ Some x
    last [] = refl
    last (y ∷ ys) = last ys

pub one_more_put : (m : World) (place connection : ℕ) (before after : List Placed) (h : PutsMore m place connection before after)
    → length (puts after) ≡ length (puts before) + 1 → OnePut before after h.acts
one_more_put m place connection before after h one =
    let act = one_act h.acts h.takes (omega (arith, one, more_puts m place connection before after h)) in
    let now : PutNow = record { value = act.0; answer = act.1 } in
    let all : put_values (acts_of after) ≡ put_values (acts_of before) ++ now ∷ [] =
    ap put_values (h.more ∙ ap (λ (xs : List Act). acts_of before ++ xs) act.2) ∙ puts_append (acts_of before) (Put act.0 act.1 ∷ []) in
    record {
      value = act.0;
      answer = act.1;
      is = act.2;
      last = λ put there.
          let same : put_now put ≡ now = some_is (put_now put) now
          (sym (slice_get-map put_now (puts after) (length (puts before)) ∙ ap (option_map put_now) there)
          ∙ ap (λ (xs : List PutNow). slice_get xs (length (puts before))) (puts_are after ∙ all) ∙ behind (put_values (acts_of before))
          now (length (puts before)) (puts_count before)) in
          (ap (λ (p : PutNow). p.value) same, ap (λ (p : PutNow). p.answer) same);
    }

-- what waits then
pub waits_more : (link : LinkState) (before after : List Placed) (acts : List Act) → acts_of after ≡ acts_of before ++ acts
    → waiting link after ≡ after_acts (overflows link.kind) link.limit (waiting link before) acts
waits_more link before after acts more
    = ap (after_acts (overflows link.kind) link.limit link.found) more ∙ after_acts-append (overflows link.kind) link.limit link.found
    (acts_of before) acts

-- what stands after some acts is answered by what they leave
acts_behind : (o : Bool) (limit : ℕ) (q : List ℕ) (xs ys : List Act) → Acts o limit q (xs ++ ys) → Acts o limit (after_acts o limit q xs) ys
acts_behind o limit q [] ys h = h
acts_behind o limit q (x ∷ xs) ys h = acts_behind o limit (after_act o limit q x) xs ys h.1

pub answered_more : (link : LinkState) (before after : List Placed) (acts : List Act) → acts_of after ≡ acts_of before ++ acts
    → Acts (overflows link.kind) link.limit link.found (acts_of after) → Acts (overflows link.kind) link.limit (waiting link before) acts
answered_more link before after acts more h
    = acts_behind (overflows link.kind) link.limit link.found (acts_of before) acts
    (subst (Acts (overflows link.kind) link.limit link.found) more h)
