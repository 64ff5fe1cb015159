-- Whether sends fail at a full mailbox says what was found of their publisher, and nothing else that is found.
use Rattle.std.proofs.Common.{ℕ, zero, suc, ◌≡◌, ◌+◌, ◌≤◌, ◌==◌, ◌&&◌, Bool, true, false, List, [], ◌∷◌, ◌++◌, length, take, drop, set}
use Rattle.std.proofs.Common.{slice_get, Option, Some, None, Result, Ok, Err, IfOk, OnErr, refl, sym, ◌∙◌, ap, subst, inl, inr, arith}
use Rattle.std.proofs.lemmas.List.{length-map, map-set, set_past}
use Rattle.std.proofs.lemmas.Option.{slice_get_cases}
use Rattle.iox_lanes_machine.specs.LanesParties.Parties.{PublisherLaneState, lane_named}
use Rattle.iox_lanes_machine.specs.Findings.{finds, is_there, named_of, with_found, FindsTo}
use Rattle.iox_lanes_machine.specs.Made.{publisher_at, start}
use Rattle.iox_lanes_machine.specs.TakenIn.{WantsMemory}
use Rattle.iox_lanes_machine.specs.World.{World}
use Rattle.iox_lanes_machine.specs.declared.found.Found.{Found}
use Rattle.iox_lanes_machine.specs.declared.found.Found.TheVariants as found
use Rattle.iox_lanes_machine.specs.declared.sizes.LaneSizes.{LaneSizes}
use Rattle.iox_lanes_machine.proofs.Ends.{some_is}
use Rattle.iox_lanes_machine.proofs.Start.{listed_length}
use Rattle.iox_lanes.specs.Failing.{failing}
use Rattle.iox_lanes.specs.Finding.{failing_behind, WasFound}
use Rattle.iox_lanes.proofs.Found.{no_moments}
use Rattle.iox_lanes.proofs.Moving.{seen_same}

-- lanes that were just made have a publisher for each of their number
pub as_many_made : (sizes : LaneSizes) (m : World) → m ≡ start sizes → length (failing m) ≡ sizes.publishers
as_many_made sizes m is = ap (λ (w : World). length (failing w)) is ∙ length-map (start sizes).publishers
    (λ (x : PublisherLaneState). x.fails) ∙ listed_length (publisher_at sizes) sizes.publishers

pub none_past : {X : Type 0} (xs : List X) (at : ℕ) → slice_get xs at ≡ None → length xs ≤ at
none_past xs at none = elim (slice_get_cases xs at).1 [
  | inl there ↦ absurd (cc (sym none ∙ there.2))
  | inr past ↦ past.0
]

-- one that isn't there isn't set
past_fails : (m : World) (who : ℕ) (fails : Bool) → slice_get m.publishers who ≡ None → failing m ≡ set (failing m) who fails
past_fails m who fails none =
    sym (set_past (failing m) who fails
    (subst (λ (n : ℕ). n ≤ who) (sym (length-map m.publishers (λ (x : PublisherLaneState). x.fails)))
    (none_past m.publishers who none)))

names_of : (m : World) (who node_id publisher_id : ℕ) (fails : Bool) (last : Option ℕ) (at : Option PublisherLaneState) → slice_get
    m.publishers who ≡ at
    → failing (named_of m who node_id publisher_id fails last at) ≡ set (failing m) who fails
names_of m who node_id publisher_id fails last None there = past_fails m who fails there
names_of m who node_id publisher_id fails last (Some lane) there
    = map-set (λ (x : PublisherLaneState). x.fails) m.publishers who (lane_named node_id publisher_id fails last lane)

-- a finding that is taken in; but for one of a sender it leaves whose sends fail
fails_taken : (m : World) (f : Found) → failing (with_found m f) ≡ failing_behind f (failing m)
fails_taken m (found.Waiting who place slot)
    = seen_same (λ lane. lane.fails) m (found.Waiting who place slot) (λ lane after moves. ap (λ (x : PublisherLaneState). x.fails) moves)
fails_taken m (found.GivenBack who place slot)
    = seen_same (λ lane. lane.fails) m (found.GivenBack who place slot) (λ lane after moves. ap (λ (x : PublisherLaneState). x.fails) moves)
fails_taken m (found.Newest who slot)
    = seen_same (λ lane. lane.fails) m (found.Newest who slot) (λ lane after moves. ap (λ (x : PublisherLaneState). x.fails) moves)
fails_taken m (found.Held slot word value) = refl
fails_taken m (found.Buffer who place messages)
    = seen_same (λ lane. lane.fails) m (found.Buffer who place messages)
    (λ lane after moves. ap (λ (x : PublisherLaneState). x.fails) moves.1)
fails_taken m (found.Slots who slots most_loans)
    = seen_same (λ lane. lane.fails) m (found.Slots who slots most_loans)
    (λ lane after moves. ap (λ (x : PublisherLaneState). x.fails) moves)
fails_taken m (found.Sender who node_id publisher_id fails last) = names_of m who node_id publisher_id fails last
    (slice_get m.publishers who) refl
fails_taken m (found.Swapped who one other)
    = seen_same (λ lane. lane.fails) m (found.Swapped who one other) (λ lane after none. absurd none)

-- before the first step only one that isn't there is not called so
not_there : (m : World) (at : Option PublisherLaneState) (here : Bool) → here ≡ true → (here && is_there at) ≡ false → at ≡ None
not_there m None here now refused = refl
not_there m (Some lane) true now refused = absurd (cc refused)
not_there m (Some lane) false now refused = absurd (cc now)

-- and one that is not
fails_refused : (m : World) (f : Found) → m.moments ≡ 0 → finds m f ≡ false → failing m ≡ failing_behind f (failing m)
fails_refused m (found.Waiting who place slot) now refused = refl
fails_refused m (found.GivenBack who place slot) now refused = refl
fails_refused m (found.Newest who slot) now refused = refl
fails_refused m (found.Held slot word value) now refused = refl
fails_refused m (found.Buffer who place messages) now refused = refl
fails_refused m (found.Slots who slots most_loans) now refused = refl
fails_refused m (found.Sender who node_id publisher_id fails last) now refused =
    past_fails m who fails (not_there m (slice_get m.publishers who) (m.moments == 0) (ap (λ (n : ℕ). n == 0) now) refused)
fails_refused m (found.Swapped who one other) now refused = refl

-- what is found, or not, says whose sends fail
fails_on : (sizes : LaneSizes) (m : World) (f : Found) (answer : Bool) (n : World) → FindsTo m f answer n → WasFound sizes m
    → failing n ≡ failing_behind f (failing m)
fails_on sizes m f true n h w = ap failing h.1 ∙ fails_taken m f
fails_on sizes m f false n h w = ap failing h.1 ∙ fails_refused m f (no_moments (start sizes) w.found m w.finds) h.0

-- where memory is wanting nothing is said
fails_same : (m : World) (f : Found) (n : World) → WantsMemory m f → n ≡ m → failing n ≡ failing_behind f (failing m)
fails_same m (found.Waiting who place slot) n wants same = ap failing same
fails_same m (found.GivenBack who place slot) n wants same = absurd wants.1
fails_same m (found.Newest who slot) n wants same = absurd wants.1
fails_same m (found.Held slot word value) n wants same = absurd wants.1
fails_same m (found.Buffer who place messages) n wants same = absurd wants.1
fails_same m (found.Slots who slots most_loans) n wants same = absurd wants.1
fails_same m (found.Sender who node_id publisher_id fails last) n wants same = absurd wants.1
fails_same m (found.Swapped who one other) n wants same = absurd wants.1

-- so it is said whatever the answer is
pub fails_by : {E : Type 0} (sizes : LaneSizes) (m : World) (f : Found) (answer : Result Bool E) (n : World)
    → IfOk answer (λ fits. FindsTo m f fits n) → OnErr answer (WantsMemory m f) → OnErr answer (n ≡ m) → WasFound sizes m
    → failing n ≡ failing_behind f (failing m)
fails_by sizes m f (Ok fits) n finds wants same w = fails_on sizes m f fits n finds w
fails_by sizes m f (Err e) n finds wants same w = fails_same m f n wants same

set_one : (A B : List Bool) (at : ℕ) (value : Bool) → slice_get A at ≡ Some value → length A ≡ length B
    → set (take at A ++ drop at B) at value ≡ take (suc at) A ++ drop (suc at) B
set_one [] B at value is as_many = absurd (cc is)
set_one (x ∷ xs) [] at value is as_many = absurd (omega (arith, as_many))
set_one (x ∷ xs) (y ∷ ys) zero value is as_many = ap (λ (b : Bool). b ∷ ys) (some_is value x (sym is))
set_one (x ∷ xs) (y ∷ ys) (suc at) value is as_many = ap (λ (bs : List Bool). x ∷ bs) (set_one xs ys at value is (omega (arith, as_many)))

-- of one publisher more it is said
pub next_said : (wanted first now after : List Bool) (at : ℕ) (value : Bool) → slice_get wanted at ≡ Some value
    → length first ≡ length wanted → now ≡ take at wanted ++ drop at first → after ≡ set now at value
    → after ≡ take (at + 1) wanted ++ drop (at + 1) first
next_said wanted first now after at value is as_many sofar said =
    let next : suc at ≡ at + 1 = omega arith in
    said ∙ ap (λ (bs : List Bool). set bs at value) sofar ∙ set_one wanted first at value is (sym as_many) ∙ ap
    (λ (n : ℕ). take n wanted ++ drop n first) next
