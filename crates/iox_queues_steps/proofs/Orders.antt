-- An order to which the acts of one moment are appended, and the calls in progress meanwhile.
use Rattle.std.proofs.Common.{◌≡◌, ℕ, ◌+◌, ◌≤◌, Bool, List, [], ◌∷◌, ◌++◌, map, refl, sym, ◌∙◌, ap, subst, arith, append_assoc, append-nil}
use Rattle.std.specs.List.{AllZip}
use Rattle.iox_queues_steps.specs.Order.{Acts, after_acts, after_act, acts_of, at, Rises, puts, takes, put_of, take_of, put_values}
use Rattle.iox_queues_steps.specs.Order.{take_values, push_call, pop_call, PutInside, TakeInside, PutNow}
use Rattle.iox_queues_steps.specs.declared.order.PopAnswer.{PopAnswer}
use Rattle.iox_queues_steps.specs.declared.order.Act.{Act}
use Rattle.iox_queues_steps.specs.declared.order.Placed.{Placed}
use Rattle.iox_queues_steps.specs.declared.order.PushCall.{PushCall}
use Rattle.iox_queues_steps.specs.declared.order.PopCall.{PopCall}

pub acts_at : (m : ℕ) (new : List Act) → acts_of (at m new) ≡ new
acts_at m [] = refl
acts_at m (act ∷ new) = ap (λ (xs : List Act). act ∷ xs) (acts_at m new)

pub acts_more : (order : List Placed) (m : ℕ) (new : List Act) → acts_of (order ++ at m new) ≡ acts_of order ++ new
acts_more [] m new = acts_at m new
acts_more (placed ∷ order) m new = ap (λ (xs : List Act). placed.act ∷ xs) (acts_more order m new)

pub Acts-append : (o : Bool) (limit : ℕ) (q : List ℕ) (xs ys : List Act) → Acts o limit q xs → Acts o limit (after_acts o limit q xs) ys
    → Acts o limit q (xs ++ ys)
Acts-append o limit q [] ys h g = g
Acts-append o limit q (x ∷ xs) ys h g = (h.0, Acts-append o limit (after_act o limit q x) xs ys h.1 g)

pub after_acts-append : (o : Bool) (limit : ℕ) (q : List ℕ) (xs ys : List Act)
    → after_acts o limit q (xs ++ ys) ≡ after_acts o limit (after_acts o limit q xs) ys
after_acts-append o limit q [] ys = refl
after_acts-append o limit q (x ∷ xs) ys = after_acts-append o limit (after_act o limit q x) xs ys

rises_at : (low m : ℕ) (new : List Act) → low ≤ m → Rises low (at m new) (m + 1)
rises_at low m [] h = omega arith
rises_at low m (act ∷ new) h = (h, rises_at m m new (omega arith))

pub rises_more : (low : ℕ) (order : List Placed) (m : ℕ) (new : List Act) → Rises low order m → Rises low (order ++ at m new) (m + 1)
rises_more low [] m new h = rises_at low m new h
rises_more low (placed ∷ order) m new h = (h.0, rises_more placed.moment order m new h.1)

map-append : {A B : Type 0} (f : A → B) (xs ys : List A) → map f (xs ++ ys) ≡ map f xs ++ map f ys
map-append f [] ys = refl
map-append {A} {B} f (x ∷ xs) ys = ap (λ (zs : List B). f x ∷ zs) (map-append f xs ys)

puts_at : (m : ℕ) (new : List Act) → puts (at m new) ≡ map (push_call m m) (put_values new)
puts_at m [] = refl
puts_at m (act ∷ new) = ap (λ (zs : List PushCall). map (push_call m m) (put_of act) ++ zs) (puts_at m new) ∙ sym
    (map-append (push_call m m) (put_of act) (put_values new))

pub puts_more : (order : List Placed) (m : ℕ) (new : List Act)
    → puts (order ++ at m new) ≡ puts order ++ map (push_call m m) (put_values new)
puts_more [] m new = puts_at m new
puts_more (placed ∷ order) m new =
    ap (λ (zs : List PushCall). map (push_call placed.moment placed.moment) (put_of placed.act) ++ zs) (puts_more order m new)
    ∙ sym (append_assoc (map (push_call placed.moment placed.moment) (put_of placed.act)) (puts order)
    (map (push_call m m) (put_values new)))

takes_at : (m : ℕ) (new : List Act) → takes (at m new) ≡ map (pop_call m m) (take_values new)
takes_at m [] = refl
takes_at m (act ∷ new) = ap (λ (zs : List PopCall). map (pop_call m m) (take_of act) ++ zs) (takes_at m new) ∙ sym
    (map-append (pop_call m m) (take_of act) (take_values new))

pub takes_more : (order : List Placed) (m : ℕ) (new : List Act)
    → takes (order ++ at m new) ≡ takes order ++ map (pop_call m m) (take_values new)
takes_more [] m new = takes_at m new
takes_more (placed ∷ order) m new =
    ap (λ (zs : List PopCall). map (pop_call placed.moment placed.moment) (take_of placed.act) ++ zs) (takes_more order m new)
    ∙ sym (append_assoc (map (pop_call placed.moment placed.moment) (take_of placed.act)) (takes order)
    (map (pop_call m m) (take_values new)))

AllZip-append : {A B : Type 0} (R : A → B → Type 0) (xs : List A) (ys : List B) (more : List A) (rest : List B) → AllZip R xs ys
    → AllZip R more rest → AllZip R (xs ++ more) (ys ++ rest)
AllZip-append R [] [] more rest h g = g
AllZip-append R [] (y ∷ ys) more rest h g = absurd h
AllZip-append R (x ∷ xs) [] more rest h g = absurd h
AllZip-append R (x ∷ xs) (y ∷ ys) more rest h g = (h.0, AllZip-append R xs ys more rest h.1 g)

-- calls that last a moment longer hold what they held
later : (first m : ℕ) (xs : List PushCall) (hand : List PutNow) (ys : List PushCall)
    → AllZip PutInside (xs ++ map (push_call first m) hand) ys → AllZip PutInside (xs ++ map (push_call first (m + 1)) hand) ys
later first m [] [] ys h = h
later first m [] (p ∷ hand) [] h = absurd h
later first m [] (p ∷ hand) (y ∷ ys) h = (
  record {
    answer = record { same_value = (h.0).answer.same_value; same_answer = (h.0).answer.same_answer };
    inside
        = record { begun = (h.0).inside.begun; not_ended = longer y.first m (h.0).inside.not_ended };
  },
  later first m [] hand ys h.1,
)
  where
    longer : (a b : ℕ) → a ≤ b → a ≤ b + 1
    longer a b le = omega arith
later first m (x ∷ xs) hand [] h = absurd h
later first m (x ∷ xs) hand (y ∷ ys) h = (h.0, later first m xs hand ys h.1)

pop_later : (first m : ℕ) (xs : List PopCall) (hand : List PopAnswer) (ys : List PopCall)
    → AllZip TakeInside (xs ++ map (pop_call first m) hand) ys → AllZip TakeInside (xs ++ map (pop_call first (m + 1)) hand) ys
pop_later first m [] [] ys h = h
pop_later first m [] (p ∷ hand) [] h = absurd h
pop_later first m [] (p ∷ hand) (y ∷ ys) h = (
  record {
    answer = record { same_answer = (h.0).answer.same_answer };
    inside
        = record { begun = (h.0).inside.begun; not_ended = longer y.first m (h.0).inside.not_ended };
  },
  pop_later first m [] hand ys h.1,
)
  where
    longer : (a b : ℕ) → a ≤ b → a ≤ b + 1
    longer a b le = omega arith
pop_later first m (x ∷ xs) hand [] h = absurd h
pop_later first m (x ∷ xs) hand (y ∷ ys) h = (h.0, pop_later first m xs hand ys h.1)

now_inside : (first last m : ℕ) (vs : List PutNow) → first ≤ m → m ≤ last
    → AllZip PutInside (map (push_call first last) vs) (map (push_call m m) vs)
now_inside first last m [] h g = tt
now_inside first last m (v ∷ vs) h g
    = (
      record { answer = record { same_value = refl; same_answer = refl }; inside = record { begun = h; not_ended = g } },
      now_inside
          first last m vs h g,
    )

pop_now_inside : (first last m : ℕ) (vs : List PopAnswer) → first ≤ m → m ≤ last
    → AllZip TakeInside (map (pop_call first last) vs) (map (pop_call m m) vs)
pop_now_inside first last m [] h g = tt
pop_now_inside first last m (v ∷ vs) h g
    = (record { answer = record { same_answer = refl }; inside = record { begun = h; not_ended = g } }, pop_now_inside first last m vs h g)

-- a step places puts of the push in hand, and may end it
pub put_step : (calls : List PushCall) (first m : ℕ) (ended hand hand' : List PutNow) (order : List Placed) (new : List Act) → first ≤ m
    → ended ++ hand' ≡ hand ++ put_values new
    → AllZip PutInside (calls ++ map (push_call first m) hand) (puts order)
    → AllZip PutInside ((calls ++ map (push_call first m) ended) ++ map (push_call first (m + 1)) hand') (puts (order ++ at m new))
put_step calls first m ended hand hand' order new le e h =
    let grown : AllZip PutInside ((calls ++ map (push_call first m) hand) ++ map (push_call first m) (put_values new))
    (puts order ++ map (push_call m m) (put_values new)) =
    AllZip-append PutInside (calls ++ map (push_call first m) hand) (puts order) (map (push_call first m) (put_values new))
    (map (push_call m m) (put_values new)) h (now_inside first m m (put_values new) le (omega arith)) in
    let parts : (calls ++ map (push_call first m) hand) ++ map (push_call first m) (put_values new)
    ≡ (calls ++ map (push_call first m) ended) ++ map (push_call first m) hand' =
    append_assoc calls (map (push_call first m) hand) (map (push_call first m) (put_values new))
    ∙ ap (λ (zs : List PushCall). calls ++ zs)
    (sym (map-append (push_call first m) hand (put_values new)) ∙ ap (map (push_call first m)) (sym e) ∙ map-append
    (push_call first m) ended hand')
    ∙ sym (append_assoc calls (map (push_call first m) ended) (map (push_call first m) hand')) in
    let moved : AllZip PutInside ((calls ++ map (push_call first m) ended) ++ map (push_call first m) hand')
    (puts order ++ map (push_call m m) (put_values new)) =
    subst (λ (xs : List PushCall). AllZip PutInside xs (puts order ++ map (push_call m m) (put_values new))) parts grown in
    subst (λ (ys : List PushCall). AllZip PutInside ((calls ++ map (push_call first m) ended) ++ map (push_call first (m + 1)) hand')
    ys) (sym (puts_more order m new))
    (later first m (calls ++ map (push_call first m) ended) hand' _ moved)

-- a step that ends no push
pub put_keep : (calls : List PushCall) (first m : ℕ) (hand hand' : List PutNow) (order : List Placed) (new : List Act) → first ≤ m
    → hand' ≡ hand ++ put_values new
    → AllZip PutInside (calls ++ map (push_call first m) hand) (puts order)
    → AllZip PutInside (calls ++ map (push_call first (m + 1)) hand') (puts (order ++ at m new))
put_keep calls first m hand hand' order new le e h =
    subst (λ (xs : List PushCall). AllZip PutInside (xs ++ map (push_call first (m + 1)) hand') (puts (order ++ at m new)))
    (append-nil calls)
    (put_step calls first m [] hand hand' order new le e h)

-- a step ends the pop in hand, or places its take
pub take_step : (calls : List PopCall) (first m : ℕ) (ended hand' : List PopAnswer) (order : List Placed) (new : List Act) → first ≤ m
    → hand' ≡ take_values new
    → AllZip TakeInside (calls ++ map (pop_call first m) ended) (takes order)
    → AllZip TakeInside ((calls ++ map (pop_call first m) ended) ++ map (pop_call first (m + 1)) hand') (takes (order ++ at m new))
take_step calls first m ended hand' order new le e h =
    subst (λ (ys : List PopCall). AllZip TakeInside ((calls ++ map (pop_call first m) ended) ++ map (pop_call first (m + 1)) hand') ys)
    (sym (takes_more order m new))
    (subst (λ (vs : List PopAnswer). AllZip TakeInside ((calls ++ map (pop_call first m) ended) ++ map (pop_call first (m + 1)) vs)
    (takes order ++ map (pop_call m m) (take_values new))) (sym e)
    (AllZip-append TakeInside (calls ++ map (pop_call first m) ended) (takes order) (map (pop_call first (m + 1)) (take_values new))
    (map (pop_call m m) (take_values new)) h (pop_now_inside first (m + 1) m (take_values new) le (omega arith))))

-- a step that takes nothing
pub take_keep : (calls : List PopCall) (first m : ℕ) (hand : List PopAnswer) (order : List Placed) (new : List Act)
    → take_values new ≡ []
    → AllZip TakeInside (calls ++ map (pop_call first m) hand) (takes order)
    → AllZip TakeInside (calls ++ map (pop_call first (m + 1)) hand) (takes (order ++ at m new))
take_keep calls first m hand order new e h =
    subst (λ (ys : List PopCall). AllZip TakeInside (calls ++ map (pop_call first (m + 1)) hand) ys)
    (sym (takes_more order m new ∙ ap (λ (vs : List PopAnswer). takes order ++ map (pop_call m m) vs) e ∙ append-nil (takes order)))
    (pop_later first m calls hand (takes order) h)
