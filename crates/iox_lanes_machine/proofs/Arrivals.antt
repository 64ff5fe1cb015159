-- An order that answers as a mailbox gives what was put, in the order of the puts.
use Rattle.std.proofs.Common.{ℕ, ◌≡◌, Bool, true, false, if◌then◌else◌, nat_lt, List, [], ◌∷◌, ◌++◌, length, drop, map, Some, None, refl}
use Rattle.std.proofs.Common.{sym, ◌∙◌, ap, subst, inl, inr, append_assoc, append-nil}
use Rattle.iox_lanes_machine.specs.QueuesSteps.Order.{Acts, after_acts, acts_of, after_put, puts, push_call, put_of, put_values}
use Rattle.iox_lanes_machine.specs.QueuesSteps.Order.{take_values, PutNow}
use Rattle.iox_lanes_machine.specs.QueuesSteps.declared.order.Act.{Act}
use Rattle.iox_lanes_machine.specs.QueuesSteps.declared.order.Act.TheVariants.{Put, Take}
use Rattle.iox_lanes_machine.specs.QueuesSteps.declared.order.Placed.{Placed}
use Rattle.iox_lanes_machine.specs.QueuesSteps.declared.order.PopAnswer.TheVariants.{Got, Saw}
use Rattle.iox_lanes_machine.specs.QueuesSteps.declared.order.PushCall.{PushCall}
use Rattle.iox_lanes_machine.specs.QueuesSteps.Ends.{overflows}
use Rattle.iox_lanes_machine.specs.Arrivals.{IsPartOf, slots_put, OrderArrives}
use Rattle.iox_lanes_machine.specs.Mailboxes.{OrderFollows}
use Rattle.iox_lanes_machine.specs.Receipts.{slots_of, slots_taken}
use Rattle.iox_lanes_machine.specs.Rings.{waiting}
use Rattle.iox_lanes_machine.specs.World.{World}

part_skip : (xs : List ℕ) (y : ℕ) (ys : List ℕ) → IsPartOf xs ys → IsPartOf xs (y ∷ ys)
part_skip [] y ys h = tt
part_skip (x ∷ xs) y ys h = inr h

part_same : (xs : List ℕ) → IsPartOf xs xs
part_same [] = tt
part_same (x ∷ xs) = inl (refl, part_same xs)

part_of_part : (xs ys zs : List ℕ) → IsPartOf xs ys → IsPartOf ys zs → IsPartOf xs zs
part_of_part [] ys zs h g = tt
part_of_part (x ∷ xs) [] zs h g = absurd h
part_of_part (x ∷ xs) (y ∷ ys) [] h g = absurd g
part_of_part (x ∷ xs) (y ∷ ys) (z ∷ zs) h (inr g) = inr (part_of_part (x ∷ xs) (y ∷ ys) zs h g)
part_of_part (x ∷ xs) (y ∷ ys) (z ∷ zs) (inl h) (inl g) = inl (h.0 ∙ g.0, part_of_part xs ys zs h.1 g.1)
part_of_part (x ∷ xs) (y ∷ ys) (z ∷ zs) (inr h) (inl g) = inr (part_of_part (x ∷ xs) ys zs h g.1)

part_behind : (ys zs : List ℕ) → IsPartOf zs (ys ++ zs)
part_behind [] zs = part_same zs
part_behind (y ∷ ys) zs = part_skip zs y (ys ++ zs) (part_behind ys zs)

part_append : (xs ys zs : List ℕ) → IsPartOf xs ys → IsPartOf (xs ++ zs) (ys ++ zs)
part_append [] ys zs h = part_behind ys zs
part_append (x ∷ xs) [] zs h = absurd h
part_append (x ∷ xs) (y ∷ ys) zs (inl h) = inl (h.0, part_append xs ys zs h.1)
part_append (x ∷ xs) (y ∷ ys) zs (inr h) = inr (part_append (x ∷ xs) ys zs h)

-- what waits after a put is part of what waited before, and the value
drop_part : (xs : List ℕ) → IsPartOf (drop 1 xs) xs
drop_part [] = tt
drop_part (x ∷ xs) = part_skip xs x xs (part_same xs)

front_part : (xs ys : List ℕ) → IsPartOf xs (xs ++ ys)
front_part [] ys = tt
front_part (x ∷ xs) ys = inl (refl, front_part xs ys)

put_part : (o : Bool) (limit : ℕ) (q : List ℕ) (value : ℕ) → IsPartOf (after_put o limit q value) (q ++ value ∷ [])
put_part true limit q value = by_test (nat_lt (length q) limit)
  where
    by_test : (b : Bool) → IsPartOf (if b then q ++ value ∷ [] else drop 1 (q ++ value ∷ [])) (q ++ value ∷ [])
    by_test true = part_same (q ++ value ∷ [])
    by_test false = drop_part (q ++ value ∷ [])
put_part false limit q value = by_test (nat_lt (length q) limit)
  where
    by_test : (b : Bool) → IsPartOf (if b then q ++ value ∷ [] else q) (q ++ value ∷ [])
    by_test true = part_same (q ++ value ∷ [])
    by_test false = front_part q (value ∷ [])

-- the slots of some puts
values : List PutNow → List ℕ
values [] = []
values (p ∷ ps) = p.value ∷ values ps

parts : (o : Bool) (limit : ℕ) (q : List ℕ) (acts : List Act) → Acts o limit q acts
    → IsPartOf (slots_of (take_values acts) ++ after_acts o limit q acts) (q ++ values (put_values acts))
unfolding values
parts o limit q [] h = subst (IsPartOf q) (sym (append-nil q)) (part_same q)
parts o limit q (Put value answer ∷ acts) h =
    let after : List ℕ = after_put o limit q value in
    let more : IsPartOf (after ++ values (put_values acts)) ((q ++ value ∷ []) ++ values (put_values acts))
    = part_append after (q ++ value ∷ []) (values (put_values acts)) (put_part o limit q value) in
    part_of_part (slots_of (take_values acts) ++ after_acts o limit after acts) (after ++ values (put_values acts))
    (q ++ value ∷ values (put_values acts)) (parts o limit after acts h.1)
    (subst (IsPartOf (after ++ values (put_values acts))) (append_assoc q (value ∷ []) (values (put_values acts))) more)
parts o limit [] (Take (Got None) ∷ acts) h = parts o limit [] acts h.1
parts o limit (x ∷ q) (Take (Got None) ∷ acts) h = absurd (cc (h.0))
parts o limit [] (Take (Got (Some got)) ∷ acts) h = absurd (cc (h.0))
parts o limit (x ∷ q) (Take (Got (Some got)) ∷ acts) h = inl (cc (h.0), parts o limit q acts h.1)
parts o limit q (Take (Saw some) ∷ acts) h = parts o limit q acts h.1

-- the slots of the puts of an order
one_put : (moment : ℕ) (ps : List PutNow) → map (λ (p : PushCall). p.value) (map (push_call moment moment) ps) ≡ values ps
unfolding values
one_put moment [] = refl
one_put moment (p ∷ ps) = ap (λ (xs : List ℕ). p.value ∷ xs) (one_put moment ps)

map_append : (xs ys : List PushCall)
    → map (λ (p : PushCall). p.value) (xs ++ ys) ≡ map (λ (p : PushCall). p.value) xs ++ map (λ (p : PushCall). p.value) ys
map_append [] ys = refl
map_append (x ∷ xs) ys = ap (λ (zs : List ℕ). x.value ∷ zs) (map_append xs ys)

values_append : (xs ys : List PutNow) → values (xs ++ ys) ≡ values xs ++ values ys
unfolding values
values_append [] ys = refl
values_append (x ∷ xs) ys = ap (λ (zs : List ℕ). x.value ∷ zs) (values_append xs ys)

values_are : (order : List Placed) → slots_put order ≡ values (put_values (acts_of order))
unfolding values
values_are [] = refl
values_are (placed ∷ order) =
    map_append (map (push_call placed.moment placed.moment) (put_of placed.act)) (puts order)
    ∙ ap (λ (xs : List ℕ). xs ++ slots_put order) (one_put placed.moment (put_of placed.act))
    ∙ ap (λ (xs : List ℕ). values (put_of placed.act) ++ xs) (values_are order)
    ∙ sym (values_append (put_of placed.act) (put_values (acts_of order)))

pub order_arrives : (m : World) (connection : ℕ) (order : List Placed) → OrderFollows m connection order → OrderArrives m connection order
order_arrives m connection order follows = λ few link found.
    let h = parts (overflows link.kind) link.limit link.found (acts_of order) (follows few link found).acts in
    subst (λ (vs : List ℕ). IsPartOf (slots_taken order ++ waiting link order) (link.found ++ vs)) (sym (values_are order)) h
