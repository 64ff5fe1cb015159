-- Each step on a ring of either kind preserves the shape, and its acts are in the order as required.
use Rattle.std.proofs.Common.{◌≡◌, ℕ, ◌+◌, ◌-◌, ◌^◌, ◌%◌, ◌<◌, ◌≤◌, Bool, true, false, if◌then◌else◌, nat_lt, List, [], ◌++◌, length}
use Rattle.std.proofs.Common.{replicate, slice_index, refl, sym, ◌∙◌, ap, subst, arith, append-nil, length-append, mod-eq_of_lt}
use Rattle.std.proofs.Math.ListN.{get_or-append}
use Rattle.std.proofs.lemmas.List.{length-replicate}
use Rattle.std.proofs.lemmas.Bool.{ltb-true, ltb-false}
use Rattle.iox_queues_steps.specs.Access.{RingWords, answer_of, after_access}
use Rattle.iox_queues_steps.specs.Order.{Acts, after_acts, put_values, take_values, PutNow}
use Rattle.iox_queues_steps.specs.declared.order.Act.{Act}
use Rattle.iox_queues_steps.specs.OverflowingRing as overflowing_ring
use Rattle.iox_queues_steps.specs.declared.rings.overflowing.push.Push.TheVariants as overflowing_push
use Rattle.iox_queues_steps.specs.declared.rings.overflowing.pop.Pop.TheVariants as overflowing_pop
use Rattle.iox_queues_steps.proofs.OverflowingPush as overflowing_pushes
use Rattle.iox_queues_steps.proofs.OverflowingPop as overflowing_pops
use Rattle.iox_queues_steps.specs.Refusing as refusing
use Rattle.iox_queues_steps.specs.declared.rings.refusing.push.Push.TheVariants as refusing_push
use Rattle.iox_queues_steps.specs.declared.rings.refusing.pop.Pop.TheVariants as refusing_pop
use Rattle.iox_queues_steps.proofs.RefusingSteps as refusing_steps
use Rattle.iox_queues_steps.specs.Ends.{overflows, push_kind, pop_kind, push_is_over, pop_is_over, push_idle, push_begun, push_next}
use Rattle.iox_queues_steps.specs.Ends.{push_take, push_is_idle, push_ended, put_in_hand, placed_by_push, pop_idle, pop_first, pop_next}
use Rattle.iox_queues_steps.specs.Ends.{pop_take, pop_is_idle, pop_ended, placed_by_pop, Shape}
use Rattle.iox_queues_steps.specs.RingMachine.{first_words}
use Rattle.iox_queues_steps.specs.declared.rings.ends.RingKind.{RingKind}
use Rattle.iox_queues_steps.specs.declared.rings.ends.RingKind.TheVariants as kind
use Rattle.iox_queues_steps.specs.declared.rings.ends.Push.{Push}
use Rattle.iox_queues_steps.specs.declared.rings.ends.Push.TheVariants as push
use Rattle.iox_queues_steps.specs.declared.rings.ends.Pop.{Pop}
use Rattle.iox_queues_steps.specs.declared.rings.ends.Pop.TheVariants as pop

pub record PushGoes (kind : RingKind) (limit : ℕ) (q : List ℕ) (pop : Pop) (ended hand : List PutNow) (new : List Act)
    (words : RingWords) (push : Push) : Type 0 where
  pub list : List ℕ
  pub acts : Acts (overflows kind) limit q new
  pub after : after_acts (overflows kind) limit q new ≡ list
  pub shape : Shape kind limit words list push pop
  pub in_hand : ended ++ put_in_hand words.read push ≡ hand ++ put_values new
  pub takes : take_values new ≡ []

pub record PopGoes (kind : RingKind) (limit : ℕ) (q : List ℕ) (push : Push) (hand : List PutNow) (new : List Act) (words : RingWords)
    (pop : Pop) : Type 0 where
  pub list : List ℕ
  pub acts : Acts (overflows kind) limit q new
  pub after : after_acts (overflows kind) limit q new ≡ list
  pub shape : Shape kind limit words list push pop
  pub in_hand : put_in_hand words.read push ≡ hand ++ put_values new
  pub ended : pop_ended pop ≡ take_values new

-- what holds of a ring whatever its kind
pub record Holds (kind : RingKind) (limit : ℕ) (words : RingWords) (push : Push) (pop : Pop) : Type 0 where
  pub small : limit < 2 ^ 62
  pub cells : 0 < length words.cells
  pub same_kind : push_kind push ≡ kind
  pub same_pop : pop_kind pop ≡ kind

pub holds : (kind : RingKind) (limit : ℕ) (words : RingWords) (q : List ℕ) (push : Push) (pop : Pop) → Shape kind limit words q push pop
    → Holds kind limit words push pop
holds kind.Overflowing limit words q (push.Overflowing p) (pop.Overflowing c) s
    = record { small = s.small; cells = omega (arith, s.size); same_kind = refl; same_pop = refl }
holds kind.Overflowing limit words q (push.Overflowing p) (pop.Refusing c) s = absurd s
holds kind.Overflowing limit words q (push.Refusing p) (pop.Overflowing c) s = absurd s
holds kind.Overflowing limit words q (push.Refusing p) (pop.Refusing c) s = absurd s
holds kind.Refusing limit words q (push.Overflowing p) (pop.Overflowing c) s = absurd s
holds kind.Refusing limit words q (push.Overflowing p) (pop.Refusing c) s = absurd s
holds kind.Refusing limit words q (push.Refusing p) (pop.Overflowing c) s = absurd s
holds kind.Refusing limit words q (push.Refusing p) (pop.Refusing c) s
    = record { small = s.small; cells = s.some; same_kind = refl; same_pop = refl }

-- every step of a push
pub push_goes : (kind : RingKind) (limit : ℕ) (words : RingWords) (q : List ℕ) (push : Push) (pop : Pop) → words.write + 1 < 2 ^ 64
    → Shape kind limit words q push pop
    → PushGoes kind limit q pop (push_ended push) (put_in_hand words.read push) (placed_by_push limit words.read push)
    (after_access words (push_next push)) (push_take push (answer_of words (push_next push)))
push_goes kind.Overflowing limit words q (push.Overflowing p) (pop.Overflowing c) fits s =
    let g = overflowing_pushes.push_goes limit words q p c fits s in
    record { list = g.list; acts = g.acts; after = g.after; shape = g.shape; in_hand = g.in_hand; takes = g.takes }
push_goes kind.Overflowing limit words q (push.Overflowing p) (pop.Refusing c) fits s = absurd s
push_goes kind.Overflowing limit words q (push.Refusing p) (pop.Overflowing c) fits s = absurd s
push_goes kind.Overflowing limit words q (push.Refusing p) (pop.Refusing c) fits s = absurd s
push_goes kind.Refusing limit words q (push.Overflowing p) (pop.Overflowing c) fits s = absurd s
push_goes kind.Refusing limit words q (push.Overflowing p) (pop.Refusing c) fits s = absurd s
push_goes kind.Refusing limit words q (push.Refusing p) (pop.Overflowing c) fits s = absurd s
push_goes kind.Refusing limit words q (push.Refusing p) (pop.Refusing c) fits s =
    let g = refusing_steps.push_goes limit words q p c fits s in
    record {
      list = g.list;
      acts = g.acts;
      after = g.after;
      shape = g.shape;
      in_hand = ap (λ (vs : List PutNow). refusing.push_ended p ++ vs)
          (refusing_steps.push_hand words p (answer_of words (refusing.push_next p)) refl);
      takes = refusing_steps.push_takes words.read p;
    }

-- every step of a pop or a look
pub pop_goes : (kind : RingKind) (limit : ℕ) (words : RingWords) (q : List ℕ) (push : Push) (pop : Pop) → words.write + 1 < 2 ^ 64
    → Shape kind limit words q push pop
    → PopGoes kind limit q push (put_in_hand words.read push) (placed_by_pop words push pop) (after_access words (pop_next pop))
    (pop_take pop (answer_of words (pop_next pop)))
pop_goes kind.Overflowing limit words q (push.Overflowing p) (pop.Overflowing c) fits s =
    let g = overflowing_pops.pop_goes limit words q p c fits s in
    record { list = g.list; acts = g.acts; after = g.after; shape = g.shape; in_hand = g.in_hand; ended = g.ended }
pop_goes kind.Overflowing limit words q (push.Overflowing p) (pop.Refusing c) fits s = absurd s
pop_goes kind.Overflowing limit words q (push.Refusing p) (pop.Overflowing c) fits s = absurd s
pop_goes kind.Overflowing limit words q (push.Refusing p) (pop.Refusing c) fits s = absurd s
pop_goes kind.Refusing limit words q (push.Overflowing p) (pop.Overflowing c) fits s = absurd s
pop_goes kind.Refusing limit words q (push.Overflowing p) (pop.Refusing c) fits s = absurd s
pop_goes kind.Refusing limit words q (push.Refusing p) (pop.Overflowing c) fits s = absurd s
pop_goes kind.Refusing limit words q (push.Refusing p) (pop.Refusing c) fits s =
    let g = refusing_steps.pop_goes limit words q p c fits s in
    subst (λ (new : List Act). PopGoes kind.Refusing limit q (push.Refusing p) (refusing.push_ended p) new
    (after_access words (refusing.pop_next c)) (pop.Refusing (refusing.pop_take c (answer_of words (refusing.pop_next c)))))
    (sym (append-nil (refusing.placed_by_pop words.write c)))
    (record {
      list = g.list;
      acts = g.acts;
      after = g.after;
      shape = g.shape;
      in_hand = sym (append-nil (refusing.push_ended p)) ∙ ap (λ (vs : List PutNow). refusing.push_ended p ++ vs)
          (sym (refusing_steps.pop_puts words.write c));
      ended = refusing_steps.pop_hand words c (answer_of words (refusing.pop_next c)) refl;
    })

-- the write position grows by at most one
pub push_grows : (kind : RingKind) (limit : ℕ) (words : RingWords) (q : List ℕ) (push : Push) (pop : Pop)
    → Shape kind limit words q push pop → (after_access words (push_next push)).write ≤ words.write + 1
push_grows kind.Overflowing limit words q (push.Overflowing p) (pop.Overflowing c) s
    = overflowing_pushes.push_grows limit words q p s.push_knows
push_grows kind.Overflowing limit words q (push.Overflowing p) (pop.Refusing c) s = absurd s
push_grows kind.Overflowing limit words q (push.Refusing p) (pop.Overflowing c) s = absurd s
push_grows kind.Overflowing limit words q (push.Refusing p) (pop.Refusing c) s = absurd s
push_grows kind.Refusing limit words q (push.Overflowing p) (pop.Overflowing c) s = absurd s
push_grows kind.Refusing limit words q (push.Overflowing p) (pop.Refusing c) s = absurd s
push_grows kind.Refusing limit words q (push.Refusing p) (pop.Overflowing c) s = absurd s
push_grows kind.Refusing limit words q (push.Refusing p) (pop.Refusing c) s = refusing_steps.push_grows limit words q p s.push_knows

pub pop_grows : (words : RingWords) (pop : Pop) → (after_access words (pop_next pop)).write ≡ words.write
pop_grows words (pop.Overflowing c) = overflowing_pops.pop_grows words c
pop_grows words (pop.Refusing c) = refusing_steps.pop_grows words c

-- a push that begins has nothing in hand, and fits where none was in progress
pub record PushBegins (kind : RingKind) (limit : ℕ) (words : RingWords) (q : List ℕ) (push : Push) (pop : Pop) (value : ℕ) : Type 0 where
  pub shape : Shape kind limit words q (push_begun kind limit value) pop
  pub before : put_in_hand words.read push ≡ []
  pub hand : put_in_hand words.read (push_begun kind limit value) ≡ []

pub push_begins_shape : (kind : RingKind) (limit : ℕ) (words : RingWords) (q : List ℕ) (push : Push) (pop : Pop) (value : ℕ)
    → push_is_idle push ≡ true → Shape kind limit words q push pop → PushBegins kind limit words q push pop value
push_begins_shape kind.Overflowing limit words q (push.Overflowing p) (pop.Overflowing c) value idle s =
    let is : p ≡ overflowing_push.Idle = overflowing_pushes.idle_push p idle in
    record {
      shape = overflowing_pushes.reshape limit words q p (overflowing_push.Begun limit value) c s
          (subst (overflowing_ring.PushKnows limit words q) is s.push_knows, refl);
      before = ap (overflowing_ring.put_in_hand words.read) is;
      hand = refl;
    }
push_begins_shape kind.Overflowing limit words q (push.Overflowing p) (pop.Refusing c) value idle s = absurd s
push_begins_shape kind.Overflowing limit words q (push.Refusing p) (pop.Overflowing c) value idle s = absurd s
push_begins_shape kind.Overflowing limit words q (push.Refusing p) (pop.Refusing c) value idle s = absurd s
push_begins_shape kind.Refusing limit words q (push.Overflowing p) (pop.Overflowing c) value idle s = absurd s
push_begins_shape kind.Refusing limit words q (push.Overflowing p) (pop.Refusing c) value idle s = absurd s
push_begins_shape kind.Refusing limit words q (push.Refusing p) (pop.Overflowing c) value idle s = absurd s
push_begins_shape kind.Refusing limit words q (push.Refusing p) (pop.Refusing c) value idle s = record {
  shape = refusing_steps.restage limit words q p (refusing_push.Begun limit value) c c s refl s.pop_knows;
  before = ap refusing.push_ended (refusing_steps.idle_push p idle);
  hand = refl;
}

-- a pop or a look that begins has nothing in hand, and fits where none was in progress
pub record PopBegins (kind : RingKind) (limit : ℕ) (words : RingWords) (q : List ℕ) (push : Push) (pop : Pop) (looks : Bool) : Type 0 where
  pub shape : Shape kind limit words q push (pop_first kind looks)
  pub before : pop_ended pop ≡ []
  pub hand : pop_ended (pop_first kind looks) ≡ []

pub pop_begins_shape : (kind : RingKind) (limit : ℕ) (words : RingWords) (q : List ℕ) (push : Push) (pop : Pop) (looks : Bool)
    → pop_is_idle pop ≡ true → Shape kind limit words q push pop → PopBegins kind limit words q push pop looks
pop_begins_shape kind.Overflowing limit words q (push.Overflowing p) (pop.Overflowing c) true idle s =
    record {
      shape = overflowing_pops.repop limit words q p c overflowing_pop.LookBegun s tt;
      before
          = ap overflowing_ring.pop_ended (overflowing_pops.idle_pop c idle);
      hand = refl;
    }
pop_begins_shape kind.Overflowing limit words q (push.Overflowing p) (pop.Overflowing c) false idle s =
    record {
      shape = overflowing_pops.repop limit words q p c overflowing_pop.Begun s tt;
      before
          = ap overflowing_ring.pop_ended (overflowing_pops.idle_pop c idle);
      hand = refl;
    }
pop_begins_shape kind.Overflowing limit words q (push.Overflowing p) (pop.Refusing c) looks idle s = absurd s
pop_begins_shape kind.Overflowing limit words q (push.Refusing p) (pop.Overflowing c) looks idle s = absurd s
pop_begins_shape kind.Overflowing limit words q (push.Refusing p) (pop.Refusing c) looks idle s = absurd s
pop_begins_shape kind.Refusing limit words q (push.Overflowing p) (pop.Overflowing c) looks idle s = absurd s
pop_begins_shape kind.Refusing limit words q (push.Overflowing p) (pop.Refusing c) looks idle s = absurd s
pop_begins_shape kind.Refusing limit words q (push.Refusing p) (pop.Overflowing c) looks idle s = absurd s
pop_begins_shape kind.Refusing limit words q (push.Refusing p) (pop.Refusing c) true idle s =
    record {
      shape = refusing_steps.restage limit words q p p c refusing_pop.LookBegun s s.push_knows tt;
      before
          = ap refusing.pop_ended (refusing_steps.idle_pop c idle);
      hand = refl;
    }
pop_begins_shape kind.Refusing limit words q (push.Refusing p) (pop.Refusing c) false idle s =
    record {
      shape = refusing_steps.restage limit words q p p c refusing_pop.Begun s s.push_knows tt;
      before
          = ap refusing.pop_ended (refusing_steps.idle_pop c idle);
      hand = refl;
    }

-- the cells of a new ring hold what waits
held_at_first : (q : List ℕ) (n zeros k : ℕ) → length q ≤ n → k < length q
    → slice_index (q ++ replicate zeros 0) ((0 + k) % n) ≡ slice_index q k
held_at_first q n zeros k room below
    = ap (slice_index (q ++ replicate zeros 0)) (mod_small k n (omega arith)) ∙ get_or-append q (replicate zeros 0) 0 k below
  where
    mod_small : (k n : ℕ) → k < n → (0 + k) % n ≡ k
    mod_small k n h = let e : 0 + k ≡ k = omega arith in rw e (mod-eq_of_lt h)

first_size : (q : List ℕ) (n : ℕ) → length q ≤ n → length (q ++ replicate (n - length q) 0) ≡ n
first_size q n room = omega (arith, length-append q (replicate (n - length q) 0), length-replicate {A = ℕ} (n - length q) 0)

pub start_overflowing : (limit : ℕ) (q : List ℕ) → 0 < limit → limit < 2 ^ 62 → length q ≤ limit
    → Shape kind.Overflowing limit (first_words kind.Overflowing limit q) q (push_idle kind.Overflowing) (pop_idle kind.Overflowing)
start_overflowing limit q some small room = record {
  some = some;
  small = small;
  size = first_size q (limit + 1) (omega arith);
  room = room;
  held = record { each = λ k below. held_at_first q (limit + 1) (limit + 1 - length q) k (omega arith) below };
  push_knows = omega arith;
  pop_knows = tt;
}

one_cell : (limit : ℕ) (b : Bool) → nat_lt 0 limit ≡ b → (limit ≤ (if b then limit else 1)) × (0 < (if b then limit else 1))
one_cell limit true e = (omega arith, ltb-true 0 limit e)
one_cell limit false e = (omega (arith, ltb-false 0 limit e), omega arith)

pub start_refusing : (limit : ℕ) (q : List ℕ) → limit < 2 ^ 62 → length q ≤ limit
    → Shape kind.Refusing limit (first_words kind.Refusing limit q) q (push_idle kind.Refusing) (pop_idle kind.Refusing)
start_refusing limit q small room =
    let wide : (limit ≤ refusing.cells_of limit) × (0 < refusing.cells_of limit) = one_cell limit (nat_lt 0 limit) refl in
    let size : length (q ++ replicate (refusing.cells_of limit - length q) 0) ≡ refusing.cells_of limit
    = first_size q (refusing.cells_of limit) (omega (arith, wide)) in
    record {
      small = small;
      some = omega (arith, size, wide);
      wide = omega (arith, size, wide);
      room = room;
      level = omega arith;
      held = record {
        each = λ k below. held_at_first q (length (q ++ replicate (refusing.cells_of limit - length q) 0))
            (refusing.cells_of limit - length q) k (omega (arith, size, wide)) below;
      };
      push_knows = tt;
      pop_knows = tt;
    }

-- the last step of a push, and no other, ends one
pub push_ends_one : (push : Push) → length (push_ended push) ≡ (if push_is_over push then 1 else 0)
push_ends_one (push.Overflowing p) = overflowing_pushes.ends_one p
push_ends_one (push.Refusing p) = refusing_steps.push_ends_one p

pub pop_ends_one : (pop : Pop) → length (pop_ended pop) ≡ (if pop_is_over pop then 1 else 0)
pop_ends_one (pop.Overflowing c) = overflowing_pops.ends_one c
pop_ends_one (pop.Refusing c) = refusing_steps.pop_ends_one c
