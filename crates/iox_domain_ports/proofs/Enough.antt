-- An update that finds all that it needs takes no memory.
use Rattle.std.proofs.Common.{arith, ◌≡◌, ◌≢◌, ◌+◌, ◌-◌, ◌<◌, ◌≤◌, ◌==◌, ◌||◌, ◌++◌, ℕ, zero, suc, Bool, true, false, cond, List, [], ◌∷◌}
use Rattle.std.proofs.Common.{length, get_or, set, replicate, is_some, is_none, nat_lt, nat_le, Result, Ok, Err, Option, None, Some, refl}
use Rattle.std.proofs.Common.{sym, ap, ◌∙◌, zero-add, if◌then◌else◌}
use Rattle.std.proofs.lemmas.List.{get_or-set_other, length-set}
use Rattle.std.proofs.lemmas.List.Folds.{position_or_len-set}
use Rattle.std.specs.List.{position, position_or_len}
use Rattle.std.specs.declared.alloc.AllocError.{AllocError}
use Rattle.iox_domain_slots.specs.Container.declared.container.Member.{Member}
use Rattle.iox_domain_ports.specs.Messages.{Message}
use Rattle.iox_domain_values.specs.declared.connection_failure.ConnectionFailure.{ConnectionFailure}
use Rattle.iox_domain_values.specs.declared.degradation.DegradationAction.{DegradationAction}
use Rattle.iox_domain_values.specs.declared.degradation.DegradationInfo.{DegradationInfo}
use Rattle.iox_domain_ports.specs.Places.{reached, leads_to}
use Rattle.iox_domain_ports.specs.Ties.{tie_put, ties_reached}
use Rattle.iox_domain_ports.specs.Ports.{connection_to, connection_of, is_live, greeted_at, Joins}
use Rattle.iox_domain_ports.specs.PublisherUpdating.{is_tie_to, let_go_of, untied, within_reach, tied, Ties, Follows, FollowsTo}
use Rattle.iox_domain_ports.specs.PublisherUpdating.{FollowsAll, UpdatesIf, Updates}
use Rattle.iox_domain_ports.specs.Memory.{HasRoom, NeedsNoMemory}
use Rattle.iox_domain_ports.specs.declared.reader.Reader.{Reader}
use Rattle.iox_domain_ports.specs.declared.publisher_port.PublisherPort.{PublisherPort}
use Rattle.iox_domain_ports.specs.declared.subscriber_entry.SubscriberEntry.{SubscriberEntry}

-- all that the places from one on need is there
record RoomFrom {T U : Type 0} (first : ℕ) (listed : List (Option (Member SubscriberEntry))) (port : PublisherPort T U) : Type 0 where
  reached : (k : ℕ) (member : Member SubscriberEntry) → get_or listed k None ≡ Some member → first + k < port.ties.room
  connected : (k : ℕ) (member : Member SubscriberEntry) → get_or listed k None ≡ Some member
      → is_some (connection_to member.value.subscriber port) ≡ true
  alone : (k other : ℕ) (member : Member SubscriberEntry) → first ≤ other → get_or listed k None ≡ Some member → other ≢ first + k
      → is_tie_to member.value.subscriber (get_or port.ties.items other None) port ≡ false

-- what following a place leaves as it was
record Leaves {T U : Type 0} (place : ℕ) (old new : PublisherPort T U) : Type 0 where
  reach : new.ties.room ≡ old.ties.room
  ties : (other : ℕ) → other ≢ place → get_or new.ties.items other None ≡ get_or old.ties.items other None
  readers : (subscriber : ℕ) → is_tie_to subscriber (get_or old.ties.items place None) old ≡ false
      → connection_to subscriber new ≡ connection_to subscriber old
  leads : (subscriber index : ℕ) → leads_to subscriber (get_or old.readers index None) ≡ false
      → leads_to subscriber (get_or new.readers index None) ≡ false

-- nothing changed
leaves_all : {T U : Type 0} (place : ℕ) (old new : PublisherPort T U) → new.ties ≡ old.ties → new.readers ≡ old.readers
    → Leaves place old new
leaves_all place old new ties readers = record {
  reach = ap (λ all. all.room) ties;
  ties = λ other not. ap (λ all. get_or all.items other None) ties;
  readers = λ subscriber not. ap (λ all. position (leads_to subscriber) all) readers;
  leads = λ subscriber index not. ap (λ all. leads_to subscriber (get_or all index None)) readers ∙ not;
}

-- where one that doesn't lead there is taken away, the first that does is the same
same_first : (subscriber index : ℕ) (readers : List (Option Reader)) → leads_to subscriber (get_or readers index None) ≡ false
    → position (leads_to subscriber) (set readers index None) ≡ position (leads_to subscriber) readers
same_first subscriber index readers not =
    let same : position_or_len (leads_to subscriber) (set readers index None) ≡ position_or_len (leads_to subscriber) readers =
    position_or_len-set (leads_to subscriber) readers index None None (sym not) in
    ap (λ n. cond (nat_lt n (length (set readers index None))) (Some n) None) same
    ∙ ap (λ m. cond (nat_lt (position_or_len (leads_to subscriber) readers) m) (Some (position_or_len (leads_to subscriber) readers))
    None) (length-set readers index None)

-- and none leads there that didn't
none_more : (subscriber index other : ℕ) (readers : List (Option Reader)) → leads_to subscriber (get_or readers other None) ≡ false
    → leads_to subscriber (get_or (set readers index None) other None) ≡ false
none_more subscriber index other [] not = not
none_more subscriber zero zero (reader ∷ readers) not = refl
none_more subscriber zero (suc other) (reader ∷ readers) not = not
none_more subscriber (suc index) zero (reader ∷ readers) not = not
none_more subscriber (suc index) (suc other) (reader ∷ readers) not = none_more subscriber index other readers not

-- the tie of a place is taken away, and its connection ended
leaves_ended : {T U : Type 0} (place index : ℕ) (old new : PublisherPort T U) → get_or old.ties.items place None ≡ Some index
    → new.ties ≡ tie_put place None old.ties → new.readers ≡ set old.readers index None → Leaves place old new
leaves_ended place index old new is ties readers = record {
  reach = ap (λ all. all.room) ties;
  ties = λ other not. ap (λ all. get_or all.items other None) ties ∙ get_or-set_other old.ties.items place other None None not;
  readers = λ subscriber not. ap (λ all. position (leads_to subscriber) all) readers ∙ same_first subscriber index old.readers
      (ap (λ tie. is_tie_to subscriber tie old) (sym is) ∙ not);
  leads = λ subscriber other not. ap (λ all. leads_to subscriber (get_or all other None)) readers ∙ none_more subscriber index other
      old.readers not;
}

-- or goes on
leaves_going : {T U : Type 0} (place : ℕ) (old new : PublisherPort T U) → new.ties ≡ tie_put place None old.ties
    → new.readers ≡ old.readers → Leaves place old new
leaves_going place old new ties readers = record {
  reach = ap (λ all. all.room) ties;
  ties = λ other not. ap (λ all. get_or all.items other None) ties ∙ get_or-set_other old.ties.items place other None None not;
  readers = λ subscriber not. ap (λ all. position (leads_to subscriber) all) readers;
  leads = λ subscriber index not. ap (λ all. leads_to subscriber (get_or all index None)) readers ∙ not;
}

leaves_if : {T U : Type 0} (place index : ℕ) (live : Bool) (old gone going : PublisherPort T U)
    → get_or old.ties.items place None ≡ Some index
    → gone.ties ≡ tie_put place None old.ties → gone.readers ≡ set old.readers index None → going.ties ≡ tie_put place None old.ties
    → going.readers ≡ old.readers → Leaves place old (if live then gone else going)
leaves_if place index true old gone going is ties readers going_ties going_readers = leaves_ended place index old gone is ties readers
leaves_if place index false old gone going is ties readers going_ties going_readers = leaves_going place old going going_ties going_readers

leaves_untied : {T U : Type 0} (place : ℕ) (tie : Option ℕ) (old : PublisherPort T U) → get_or old.ties.items place None ≡ tie
    → Leaves place old (let_go_of place tie old)
leaves_untied place None old is = leaves_all place old old refl refl
leaves_untied {T} {U} place (Some index) old is =
    let going : PublisherPort T U = record old { ties = tie_put place None old.ties } in
    leaves_if place index (is_live index going) old _ going is refl refl refl refl

-- further places are empty
nones : (n i : ℕ) → get_or (replicate n None) i None ≡ (let none : Option ℕ = None in none)
nones zero i = refl
nones (suc n) zero = refl
nones (suc n) (suc i) = nones n i

pub still : (ties : List (Option ℕ)) (n i : ℕ) → get_or (ties ++ replicate n None) i None ≡ get_or ties i None
still [] n i = nones n i
still (tie ∷ ties) n zero = refl
still (tie ∷ ties) n (suc i) = still ties n i

-- the place is tied then
leaves_tied : {T U : Type 0} (place : ℕ) (tie : Option ℕ) (old between new : PublisherPort T U) → Leaves place old between
    → new.ties ≡ tie_put place tie (ties_reached (place + 1) between.ties)
    → new.readers ≡ between.readers → Leaves place old new
leaves_tied place tie old between new leaves ties readers = record {
  reach = ap (λ all. all.room) ties ∙ leaves.reach;
  ties = λ other not. ap (λ all. get_or all.items other None) ties ∙ get_or-set_other (reached (place + 1) between.ties.items) place
      other tie None not
      ∙ still between.ties.items (place + 1 - length between.ties.items) other ∙ leaves.ties other not;
  readers = λ subscriber not. ap (λ all. position (leads_to subscriber) all) readers ∙ leaves.readers subscriber not;
  leads = λ subscriber index not. ap (λ all. leads_to subscriber (get_or all index None)) readers ∙ leaves.leads subscriber index not;
}

-- greeting a subscriber changes neither ties nor readers
pub greeted_same : {T U : Type 0} (index : ℕ) (live : Bool) (waiting : List (Message T U)) (port : PublisherPort T U)
    → ((if live then greeted_at index waiting port else port).ties ≡ port.ties)
    × ((if live then greeted_at index waiting port else port).readers ≡ port.readers)
greeted_same index false waiting port = (refl, refl)
greeted_same index true [] port = (refl, refl)
greeted_same index true (message ∷ waiting) port = (refl, refl)

leaves_welcomed : {T U : Type 0} (place index : ℕ) (old between new : PublisherPort T U) → Leaves place old between
    → new ≡ tied place index (within_reach place between) → Leaves place old new
leaves_welcomed {T} {U} place index old between new leaves is =
    let port : PublisherPort T U = record (within_reach place between)
    { ties = tie_put place (Some index) (ties_reached (place + 1) between.ties) } in
    let same = greeted_same index (is_live index port) (connection_of index port).waiting port in
    leaves_tied place (Some index) old between new leaves (ap (λ one. one.ties) is ∙ same.0) (ap (λ one. one.readers) is ∙ same.1)

-- what is there takes no memory
enough : (found : Option ℕ) (long place : ℕ) → place < long → is_some found ≡ true → (nat_le long place || is_none found) ≡ true → ⊥
enough None long place within is takes = cc
enough (Some index) long place within is takes =
    let not : nat_le long place ≡ false = grind (arith, within) in
    let wrong : false ≡ true = rw not at takes in
    cc

-- a connection that there is is joined
joined_is : {T U : Type 0} (subscriber limit : ℕ) (found : Option ℕ) (old joined : PublisherPort T U) (answer : Result ℕ AllocError)
    → is_some found ≡ true → Joins subscriber limit found old answer joined → joined ≡ old
joined_is subscriber limit None old joined answer is joins = absurd (cc)
joined_is subscriber limit (Some index) old joined answer is joins = joins.1

-- so tying doesn't fail
ties_made : {T U : Type 0} (place : ℕ) (entry : SubscriberEntry) (old between new : PublisherPort T U)
    (outcome : Result (Unit {0}) AllocError) → Leaves place old between → place < old.ties.room
    → is_some (connection_to entry.subscriber between) ≡ true → Ties place entry between outcome new → (outcome ≡ Ok tt)
    × Leaves place old new
ties_made place entry old between new (Err error) leaves within is ties =
    absurd (enough (connection_to entry.subscriber between) between.ties.room place (omega (arith, within, leaves.reach)) is ties.0)
ties_made {T} {U} place entry old between new (Ok done) leaves within is ties =
    let joined : PublisherPort T U = ties.1 in
    let same : joined ≡ within_reach place between
    = joined_is entry.subscriber _ (connection_to entry.subscriber between) (within_reach place between) joined _ is ties.2 in
    (refl, leaves_welcomed place ties.0 old between new leaves (ties.3 ∙ ap (λ port. tied place ties.0 port) same))

-- nor does following
follows_made : {T U : Type 0} (place : ℕ) (entry : SubscriberEntry) (is_tie : Bool) (old new : PublisherPort T U)
    (outcome : Result (Unit {0}) AllocError) → is_tie_to entry.subscriber (get_or old.ties.items place None) old ≡ is_tie
    → place < old.ties.room → is_some (connection_to entry.subscriber old) ≡ true → FollowsTo place entry is_tie old outcome new
    → (outcome ≡ Ok tt) × Leaves place old new
follows_made place entry true old new outcome is within there follows
    = (follows.0, leaves_all place old new (ap (λ port. port.ties) follows.1) (ap (λ port. port.readers) follows.1))
follows_made place entry false old new outcome is within there follows =
    let leaves : Leaves place old (untied place old) = leaves_untied place (get_or old.ties.items place None) old refl in
    ties_made place entry old (untied place old) new outcome leaves within
    (ap (λ found. is_some found) (leaves.readers entry.subscriber is) ∙ there) follows

-- so a place is followed, and what the others need is there still
tie_less : {T U : Type 0} (subscriber : ℕ) (tie : Option ℕ) (place : ℕ) (old new : PublisherPort T U) → Leaves place old new
    → is_tie_to subscriber tie old ≡ false → is_tie_to subscriber tie new ≡ false
tie_less subscriber None place old new leaves not = refl
tie_less subscriber (Some index) place old new leaves not = leaves.leads subscriber index not

room_left : {T U : Type 0} (first : ℕ) (item : Option (Member SubscriberEntry)) (rest : List (Option (Member SubscriberEntry)))
    (old new : PublisherPort T U) → RoomFrom first (item ∷ rest) old → Leaves first old new
    → RoomFrom (first + 1) rest new
room_left first item rest old new room leaves = record {
  reached = λ k member is. omega (arith, room.reached (suc k) member is, leaves.reach);
  connected = λ k member is. ap (λ found. is_some found)
      (leaves.readers member.value.subscriber (room.alone (suc k) first member (omega arith) is (omega arith))) ∙ room.connected (suc k)
      member is;
  alone = λ k other member from is not.
      let before : is_tie_to member.value.subscriber (get_or old.ties.items other None) old ≡ false
      = room.alone (suc k) other member (omega (arith, from)) is (λ same. not (omega (arith, same))) in
      ap (λ tie. is_tie_to member.value.subscriber tie new) (leaves.ties other (omega (arith, from))) ∙ tie_less member.value.subscriber
      (get_or old.ties.items other None) first old new leaves before;
}

place_made : {T U : Type 0} (first : ℕ) (item : Option (Member SubscriberEntry)) (rest : List (Option (Member SubscriberEntry)))
    (old next : PublisherPort T U) (outcome : Result (Unit {0}) AllocError)
    → RoomFrom first (item ∷ rest) old → Follows first item old outcome next → (outcome ≡ Ok tt) × RoomFrom (first + 1) rest next
place_made first None rest old next outcome room follows =
    let leaves : Leaves first old (untied first old) = leaves_untied first (get_or old.ties.items first None) old refl in
    (follows.0, room_left first None rest old next room (rw (follows.1) leaves))
place_made first (Some member) rest old next outcome room follows =
    let within : first < old.ties.room = omega (arith, room.reached zero member refl) in
    let made = follows_made first member.value (is_tie_to member.value.subscriber (get_or old.ties.items first None) old) old next
    outcome refl within (room.connected zero member refl) follows in
    (made.0, room_left first (Some member) rest old next room made.1)

all_made : {T U : Type 0} (may : DegradationInfo → DegradationAction → Type 0) (listed : List (Option (Member SubscriberEntry)))
    (first : ℕ) (old new : PublisherPort T U) (answer : Result (Unit {0}) ConnectionFailure)
    → RoomFrom first listed old → FollowsAll may first listed None old answer new → answer ≡ Ok tt
all_made may [] first old new answer room follows = follows.0
all_made {T} {U} may (item ∷ rest) first old new answer room follows =
    let (outcome, next, after, one, asks, further) = follows in
    let made : (outcome ≡ Ok tt) × RoomFrom (first + 1) rest next = place_made first item rest old next outcome room one in
    let found : after ≡ None = rw (made.0) at asks in
    let more : FollowsAll may (first + 1) rest None next answer new = rw found at further in
    all_made may rest (first + 1) next new answer made.1 more

-- what was seen of the list doesn't matter to ties
same_tie : {T U : Type 0} (subscriber : ℕ) (tie : Option ℕ) (changes : ℕ) (port : PublisherPort T U)
    → is_tie_to subscriber tie (record port { seen = changes }) ≡ is_tie_to subscriber tie port
same_tie subscriber None changes port = refl
same_tie subscriber (Some index) changes port = refl

room_of : {T U : Type 0} (listed : List (Option (Member SubscriberEntry))) (changes : ℕ) (port : PublisherPort T U)
    → HasRoom listed port → RoomFrom 0 listed (record port { seen = changes })
room_of listed changes port room = record {
  reached = λ k member is. omega (arith, room.room k member is);
  connected = λ k member is. room.connected k member is;
  alone = λ k other member from is not.
      same_tie member.value.subscriber (get_or port.ties.items other None) changes port ∙ room.alone k other member is
      (λ same. not (same ∙ sym (zero-add k)));
}

update_made : {T U : Type 0} (may : DegradationInfo → DegradationAction → Type 0) (is_seen : Bool)
    (listed : List (Option (Member SubscriberEntry))) (changes : ℕ) (old new : PublisherPort T U)
    (answer : Result (Unit {0}) ConnectionFailure)
    → HasRoom listed old → UpdatesIf is_seen may listed changes old answer new → answer ≡ Ok tt
update_made may true listed changes old new answer room updates = updates.0
update_made may false listed changes old new answer room updates
    = all_made may listed 0 (record old { seen = changes }) new answer (room_of listed changes old room) updates

-- places that are followed
pub follows_enough : {T U : Type 0} (may : DegradationInfo → DegradationAction → Type 0)
    (listed : List (Option (Member SubscriberEntry))) (changes : ℕ) (old new : PublisherPort T U)
    (answer : Result (Unit {0}) ConnectionFailure)
    → HasRoom listed old → FollowsAll may 0 listed None (record old { seen = changes }) answer new → answer ≡ Ok tt
follows_enough may listed changes old new answer room follows = update_made may false listed changes old new answer room follows

-- an update that finds all that it needs
pub updates_made : {T U : Type 0} (may : DegradationInfo → DegradationAction → Type 0) (listed : List (Option (Member SubscriberEntry)))
    (changes : ℕ) (old new : PublisherPort T U) (answer : Result (Unit {0}) ConnectionFailure)
    → HasRoom listed old → Updates may listed changes old answer new → answer ≡ Ok tt
updates_made may listed changes old new answer room updates
    = update_made may (old.seen == changes) listed changes old new answer room updates

pub needs_no_memory : {T U : Type 0} (may : DegradationInfo → DegradationAction → Type 0) → NeedsNoMemory T U may
needs_no_memory may = record {
  place = λ place member old new answer within there follows.
      (follows_made place member.value (is_tie_to member.value.subscriber (get_or old.ties.items place None) old) old new answer refl
      within there follows).0;
  update = updates_made may;
}
