-- The slots of all connections of a publisher, counted.
use Rattle.std.proofs.Common.{rules, arith, ◌≡◌, ◌+◌, ◌*◌, ◌^◌, ◌==◌, ◌<◌, ◌≤◌, ◌∷◌, [], ◌++◌, ℕ, zero, suc, Bool, true, false, is_some}
use Rattle.std.proofs.Common.{inl, inr}
use Rattle.std.proofs.Common.{if◌then◌else◌, remove, List, length, get_or, set, map, Option, Some, None, refl, sym, subst, ap, ◌∙◌}
use Rattle.iox_domain_slots.specs.Counting.{SlotsState, Moves, Covers, times, uses_of}
use Rattle.std.proofs.lemmas.List.{map-set, set-get_or, get_or-set_same, get_or-set_other, length-map, length-set}
use Rattle.iox_domain_slots.specs.Uses.{Connection, placed, given_back, settled, nobody, held, held_by, is_there, is_open}
use Rattle.iox_domain_slots.specs.declared.stage.Stage.TheVariants as stage
use Rattle.iox_domain_slots.specs.Links.{LinkState, all_of, all_slots, slots_at, seen, connection_of, IsOf, IsGone, IsTakenBack}
use Rattle.iox_domain_slots.specs.Links.{LinksState, taken_back}
use Rattle.std.proofs.Math.Logic.{⊎_elim}
use Rattle.std.proofs.Math.Dec.{eqb}
use Rattle.std.proofs.lemmas.List.Sums.{count_by-le-length}
use Rattle.std.proofs.lemmas.Bool.Decides.{eqb_tells}
use Rattle.std.proofs.lemmas.Bool.{cases_lt}
use Rattle.iox_domain_slots.proofs.Counts.{times_append}
use Rattle.iox_domain_slots.proofs.Linking.{times_all, moves_on}

-- the connection of an index is changed
pub set_times : (links : List (Option LinkState)) (index : ℕ) (link : Option LinkState) → index < length links → (k : ℕ)
    → times k (all_slots (set links index link)) + times k (slots_at (get_or links index None))
    ≡ times k (all_slots links) + times k (slots_at link)
set_times [] index link within k = absurd (omega (arith, within))
set_times (old ∷ rest) zero link within k
    = omega (arith, times_append k (slots_at link) (all_slots rest), times_append k (slots_at old) (all_slots rest))
set_times (old ∷ rest) (suc index) link within k =
    omega (
      arith,
      set_times rest index link (omega (arith, within)) k,
      times_append k (slots_at old) (all_slots rest),
      times_append k
          (slots_at old) (all_slots (set rest index link)),
    )

-- the slots of one are among those of all
pub one_of_all : (links : List (Option LinkState)) (index : ℕ) → (k : ℕ)
    → times k (slots_at (get_or links index None)) ≤ times k (all_slots links)
one_of_all [] index k = omega arith
one_of_all (old ∷ rest) zero k = omega (arith, times_append k (slots_at old) (all_slots rest))
one_of_all (old ∷ rest) (suc index) k = omega (arith, one_of_all rest index k, times_append k (slots_at old) (all_slots rest))

pub covers_one : (slots : SlotsState) (links : List (Option LinkState)) (index : ℕ) (link : LinkState) → get_or links index None ≡ Some link
    → Covers slots (all_slots links) → Covers slots (all_of link)
covers_one slots links index link at covers = λ k.
    omega (arith, covers k, subst (λ it. times k (slots_at it) ≤ times k (all_slots links)) at (one_of_all links index k))

-- counts that moved for one connection moved so for all
pub moves_all : (old new : SlotsState) (links : List (Option LinkState)) (index : ℕ) (before after : LinkState) → index < length links
    → get_or links index None ≡ Some before → Moves old (all_of before) new (all_of after)
    → Moves old (all_slots links) new (all_slots (set links index (Some after)))
moves_all old new links index before after within at moves = record {
  same = moves.same;
  length = moves.length;
  moved = λ k.
      let changed : times k (all_slots (set links index (Some after))) + times k (all_of before)
      ≡ times k (all_slots links) + times k (all_of after) =
      subst (λ it. times k (all_slots (set links index (Some after))) + times k (slots_at it)
      ≡ times k (all_slots links) + times k (all_of after)) at (set_times links index (Some after) within k) in
      omega (arith, changed, moves.moved k);
}

-- the connection that stands at an index
pub link_is : (links : List (Option LinkState)) (index : ℕ) (link : LinkState) (found : Option LinkState)
    → is_some (get_or links index None) ≡ true
    → found ≡ get_or links index found → found ≡ Some link → get_or links index None ≡ Some link
link_is [] index link found there read is = search (rules, there)
link_is (old ∷ rest) zero link found there read is = sym read ∙ is
link_is (old ∷ rest) (suc index) link found there read is = link_is rest index link found there read is

pub link_within : (links : List (Option LinkState)) (index : ℕ) → is_some (get_or links index None) ≡ true → index < length links
link_within [] index there = search (rules, there)
link_within (old ∷ rest) zero there = omega arith
link_within (old ∷ rest) (suc index) there = omega (arith, link_within rest index there)

-- what is seen once the connection of an index has changed
pub seen_set : (links : List (Option LinkState)) (index : ℕ) (new : LinkState) (connection : Connection ℕ) → connection_of new ≡ connection
    → map seen (set links index (Some new)) ≡ set (map seen links) index connection
seen_set links index new connection is = map-set seen links index (Some new) ∙ ap (set (map seen links) index) is

-- the connection of an index is of the publisher's kind
pub kind_of : (links : List (Option LinkState)) (index : ℕ) (overflows : Bool) (most_waiting most_borrowed : ℕ) (link : LinkState)
    → ((index : ℕ) → IsOf overflows most_waiting most_borrowed (get_or links index None)) → get_or links index None ≡ Some link
    → IsOf overflows most_waiting most_borrowed (Some link)
kind_of links index overflows most_waiting most_borrowed link kinds at = subst (IsOf overflows most_waiting most_borrowed) at (kinds index)

-- a slot that is used besides all of them is used besides one of them
pub besides_one : (slots : SlotsState) (links : List (Option LinkState)) (index slot : ℕ) (link : LinkState)
    → get_or links index None ≡ Some link
    → times slot (all_slots links) < uses_of slot slots → times slot (all_of link) < uses_of slot slots
besides_one slots links index slot link at besides =
    omega (arith, besides, subst (λ it. times slot (slots_at it) ≤ times slot (all_slots links)) at (one_of_all links index slot))

-- the uses of all stay where those of one do
pub uses_all : (links : List (Option LinkState)) (index : ℕ) (before after : LinkState) → index < length links
    → get_or links index None ≡ Some before
    → ((k : ℕ) → times k (all_of after) ≡ times k (all_of before)) → (k : ℕ)
    → times k (all_slots (set links index (Some after))) ≡ times k (all_slots links)
uses_all links index before after within at same k =
    let changed : times k (all_slots (set links index (Some after))) + times k (all_of before)
    ≡ times k (all_slots links) + times k (all_of after) =
    subst (λ it. times k (all_slots (set links index (Some after))) + times k (slots_at it)
    ≡ times k (all_slots links) + times k (all_of after)) at (set_times links index (Some after) within k) in
    omega (arith, changed, same k)

-- a connection at the stage Live hasn't ended
pub live_is : (ended : Bool) → (if ended then stage.Ended else stage.Live) ≡ stage.Live → ended ≡ false
live_is false same = refl
live_is true same = search (rules, same)

-- giving back at a connection that goes on
pub given_back_live : (link : LinkState) (new : LinkState) (at : ℕ) → (connection_of link).stage ≡ stage.Live
    → new ≡ record link { borrowed = remove link.borrowed at; returned = new.returned }
    → connection_of new ≡ given_back at (connection_of link)
given_back_live link new at live is =
    let goes_on : link.ended ≡ false = live_is link.ended live in
    let same : connection_of new ≡ connection_of (record link { borrowed = remove link.borrowed at; returned = new.returned })
    = ap connection_of is in
    let stage_is : (record {
      stage = (if link.ended then stage.Ended else stage.Live);
      limit = link.limit;
      waiting = link.waiting;
      borrowed
          = remove link.borrowed at;
    }) ≡ given_back at (connection_of link) = rw goes_on refl in
    same ∙ stage_is

-- what is seen of an index is what stands there of what is seen
pub seen_at : (links : List (Option LinkState)) (index : ℕ) → seen (get_or links index None) ≡ get_or (map seen links) index nobody
seen_at [] index = refl
seen_at (x ∷ rest) zero = refl
seen_at (x ∷ rest) (suc index) = seen_at rest index

-- an index with a connection is seen to have one
pub seen_there : (links : List (Option LinkState)) (index : ℕ) → is_some (get_or links index None) ≡ true
    → is_there (get_or (map seen links) index nobody) ≡ true
seen_there links index there = subst (λ it. is_there it ≡ true) (seen_at links index) (stands (get_or links index None) there)
  where
    open_either : (ended : Bool) → is_open (if ended then stage.Ended else stage.Live) ≡ true
    open_either true = refl
    open_either false = refl

    stands : (it : Option LinkState) → is_some it ≡ true → is_there (seen it) ≡ true
    stands None there = search (rules, there)
    stands (Some link) there = open_either link.ended

-- where no connection stands none is seen
pub seen_nobody : (links : List (Option LinkState)) (index : ℕ) → get_or links index None ≡ None
    → get_or (map seen links) index nobody ≡ nobody
seen_nobody links index none = sym (seen_at links index) ∙ ap seen none

pub set_twice : {X : Type 0} (xs : List X) (index : ℕ) (a b : X) → set (set xs index a) index b ≡ set xs index b
set_twice [] index a b = refl
set_twice (x ∷ xs) zero a b = refl
set_twice (x ∷ xs) (suc index) a b = ap (λ ys. x ∷ ys) (set_twice xs index a b)

-- a connection that was changed and then, if it is over, taken away
pub then_settled : (old mid new : List (Option LinkState)) (index : ℕ) (connection : Connection ℕ) → index < length old
    → map seen mid ≡ set (map seen old) index connection
    → map seen new ≡ set (map seen mid) index
    (settled (seen (get_or mid index None)).stage (seen (get_or mid index None)).limit (seen (get_or mid index None)).waiting
    (seen (get_or mid index None)).borrowed)
    → map seen new ≡ set (map seen old) index (settled connection.stage connection.limit connection.waiting connection.borrowed)
then_settled old mid new index connection within first second =
    let within_map : index < length (map seen old) = omega (arith, within, length-map old seen) in
    let at : seen (get_or mid index None) ≡ connection =
    seen_at mid index ∙ ap (λ xs. get_or xs index nobody) first
    ∙ get_or-set_same (map seen old) index connection nobody within_map in
    let there : map seen new ≡ set (map seen mid) index (settled connection.stage connection.limit connection.waiting connection.borrowed) =
    subst (λ it. map seen new ≡ set (map seen mid) index (settled it.stage it.limit it.waiting it.borrowed)) at second in
    there ∙ ap (λ xs. set xs index (settled connection.stage connection.limit connection.waiting connection.borrowed)) first
    ∙ set_twice (map seen old) index connection (settled connection.stage connection.limit connection.waiting connection.borrowed)

-- a connection that is gone has no slots left
pub gone_times : (links : List (Option LinkState)) (index : ℕ) → index < length links → IsGone (get_or links index None)
    → (k : ℕ) → times k (all_slots (set links index None)) ≡ times k (all_slots links)
gone_times links index within gone k = omega (arith, set_times links index None within k, none (get_or links index None) gone)
  where
    none : (it : Option LinkState) → IsGone it → times k (slots_at it) ≡ 0
    none None gone = refl
    none (Some link) gone = ap (times k) gone.1

-- of a list that is the end of two of which both are empty
pub ends_empty : {X : Type 0} (xs ys : List X) → xs ++ ys ≡ [] → (xs ≡ []) × (ys ≡ [])
ends_empty [] ys same = (refl, same)
ends_empty (x ∷ xs) ys same = search (rules, same)

-- what is seen of a connection that is gone
pub gone_seen : (links : List (Option LinkState)) (index : ℕ) → IsGone (get_or links index None)
    → map seen (set links index None) ≡ set (map seen links) index (settled (seen (get_or links index None)).stage
    (seen (get_or links index None)).limit (seen (get_or links index None)).waiting (seen (get_or links index None)).borrowed)
gone_seen links index gone = map-set seen links index None ∙ ap (set (map seen links) index) (sym (at (get_or links index None) gone))
  where
    at : (it : Option LinkState) → IsGone it → settled (seen it).stage (seen it).limit (seen it).waiting (seen it).borrowed ≡ nobody
    at None gone = absurd gone
    at (Some link) gone = let borrowed =
        (ends_empty link.borrowed link.returned (ends_empty link.waiting (link.borrowed ++ link.returned) gone.1).1).0 in rw gone.0
        (rw borrowed refl)

-- nothing changes where what is put at an index is what stood there
pub set_same : (links : List (Option LinkState)) (index : ℕ) (connection : Connection ℕ) → connection ≡ seen (get_or links index None)
    → map seen links ≡ set (map seen links) index connection
set_same links index connection is = sym
    (ap (set (map seen links) index) (is ∙ seen_at links index) ∙ set-get_or (map seen links) index nobody)

-- the connections before an index are taken back from
pub record TakingAllBack (first : LinksState) (slots : SlotsState) (now : LinksState) (later : SlotsState) (count : ℕ) : Type 0 where
  pub same : now ≡ record first { links = now.links }
  pub length : length now.links ≡ length first.links
  pub looks : map seen now.links ≡ map seen first.links
  pub done : (index : ℕ) → index < count → IsTakenBack (get_or now.links index None)
  pub moved : Moves slots (all_slots first.links) later (all_slots now.links)

-- the connection that stands at an index within the list
pub link_of_found : (links : List (Option LinkState)) (index : ℕ) (link : LinkState) (found : Option LinkState) → index < length links
    → found ≡ get_or links index found → found ≡ Some link → get_or links index None ≡ Some link
link_of_found [] index link found within read is = absurd (omega (arith, within))
link_of_found (old ∷ rest) zero link found within read is = sym read ∙ is
link_of_found (old ∷ rest) (suc index) link found within read is = link_of_found rest index link found (omega (arith, within)) read is

-- what is seen stays where what is put at an index looks as what stood there
pub looks_same : (links : List (Option LinkState)) (index : ℕ)
    → map seen (set links index (taken_back (get_or links index None))) ≡ map seen links
looks_same links index = map-set seen links index (taken_back (get_or links index None)) ∙ ap (set (map seen links) index)
    (same (get_or links index None)) ∙ sym (set_same links index (seen (get_or links index None)) refl)
  where
    same : (it : Option LinkState) → seen (taken_back it) ≡ seen it
    same None = refl
    same (Some link) = refl

-- one index more is taken back from
pub one_more_done : (links : List (Option LinkState)) (count : ℕ) → count < length links
    → ((index : ℕ) → index < count → IsTakenBack (get_or links index None))
    → (index : ℕ) → index < count + 1 → IsTakenBack (get_or (set links count (taken_back (get_or links count None))) index None)
one_more_done links count within done index below = ⊎_elim
    (λ same. subst (λ i. IsTakenBack (get_or (set links count (taken_back (get_or links count None))) i None)) (sym same.1)
    (rw (get_or-set_same links count (taken_back (get_or links count None)) None within) (back (get_or links count None))))
    (λ other. rw (get_or-set_other links count index (taken_back (get_or links count None)) None other.1)
    (done index (omega (arith, below, other.1))))
    (eqb_tells index count)
  where
    back : (it : Option LinkState) → IsTakenBack (taken_back it)
    back None = tt
    back (Some link) = refl

-- where nothing is left to be taken back, what is used is what is seen
pub none_left_of : (links : List (Option LinkState)) → ((index : ℕ) → index < length links → IsTakenBack (get_or links index None))
    → (k : ℕ) → times k (all_slots links) ≡ times k (held (map seen links))
none_left_of [] done k = refl
none_left_of (x ∷ rest) done k =
    omega (
      arith,
      times_append k (slots_at x) (all_slots rest),
      times_append k (held_by (seen x)) (held (map seen rest)),
      one_left x (done zero (omega arith)),
      none_left_of rest (λ index below. done (suc index) (omega (arith, below))) k,
    )
  where
    one_left : (it : Option LinkState) → IsTakenBack it → times k (slots_at it) ≡ times k (held_by (seen it))
    one_left None back = refl
    one_left (Some link) back
        = omega (arith, times_all k link.waiting link.borrowed link.returned, times_append k link.waiting link.borrowed, ap (times k) back)

-- each publisher has so few uses of its slots that they can be counted
pub all_length : (overflows : Bool) (most_waiting most_borrowed : ℕ) (links : List (Option LinkState)) → most_waiting < 2 ^ 32
    → most_borrowed < 2 ^ 32
    → ((index : ℕ) → IsOf overflows most_waiting most_borrowed (get_or links index None)) → (k : ℕ)
    → times k (all_slots links) ≤ length links * 2 ^ 33
all_length overflows most_waiting most_borrowed [] waits borrows kinds k = omega arith
all_length overflows most_waiting most_borrowed (x ∷ rest) waits borrows kinds k =
    omega (
      arith,
      times_append k (slots_at x) (all_slots rest),
      one_length x (kinds zero),
      all_length overflows most_waiting most_borrowed
          rest waits borrows (λ index. kinds (suc index)) k,
    )
  where
    one_length : (it : Option LinkState) → IsOf overflows most_waiting most_borrowed it → times k (slots_at it) ≤ 2 ^ 33
    one_length None kind = omega arith
    one_length (Some link) kind = omega
        (arith, kind.1, kind.2, kind.4.2, waits, borrows, count_by-le-length (λ other. eqb k other) (all_of link))

-- other connections
abbrev with_links : LinksState → List (Option LinkState) → LinksState
with_links state links = record state { links = links }

-- one index more is taken back from
pub taking_step : (first : LinksState) (slots : SlotsState) (now : LinksState) (later : SlotsState) (count : ℕ) (next : LinksState)
    (final : SlotsState)
    → TakingAllBack first slots now later count → count < length first.links
    → next ≡ record now { links = set now.links count (taken_back (get_or now.links count None)) }
    → Moves later (all_slots now.links) final (all_slots next.links) → TakingAllBack first slots next final (count + 1)
taking_step first slots now later count next final so_far within is moves =
    let links : next.links ≡ set now.links count (taken_back (get_or now.links count None)) = ap (λ l. l.links) is in
    let inside : count < length now.links = omega (arith, within, so_far.length) in
    let base : (record now { links = next.links }) ≡ record first { links = next.links } = rw so_far.same refl in
    let kept : next ≡ record now { links = next.links } = is ∙ sym (ap (λ ls. with_links now ls) links) in
    record {
      same = kept ∙ base;
      length = ap length links ∙ length-set now.links count (taken_back (get_or now.links count None)) ∙ so_far.length;
      looks = ap (map seen) links ∙ looks_same now.links count ∙ so_far.looks;
      done = rw links (one_more_done now.links count inside so_far.done);
      moved = moves_on slots later final (all_slots first.links) (all_slots now.links) (all_slots next.links) so_far.moved moves;
    }

-- a connection that holds nothing comes to an index without one
pub placed_within : (links : List (Option LinkState)) (index : ℕ) (link : LinkState) (connection : Connection ℕ) → index < length links
    → connection_of link ≡ connection
    → map seen (set links index (Some link)) ≡ placed index connection (map seen links)
placed_within links index link connection within is =
    let apart : (index == length (map seen links)) ≡ false = grind (arith, within, length-map links seen) in
    rw apart (seen_set links index link connection is)

pub placed_uses : (links : List (Option LinkState)) (index : ℕ) (link : LinkState) → index < length links
    → get_or links index None ≡ None → all_of link ≡ []
    → (k : ℕ) → times k (all_slots (set links index (Some link))) ≡ times k (all_slots links)
placed_uses links index link within vacant empty k =
    omega (arith, set_times links index (Some link) within k, ap (λ it. times k (slots_at it)) vacant, ap (times k) empty)

pub appended_uses : (links : List (Option LinkState)) (link : LinkState) → all_of link ≡ [] → (k : ℕ)
    → times k (all_slots (links ++ Some link ∷ [])) ≡ times k (all_slots links)
appended_uses [] link empty k = omega (arith, times_append k (all_of link) [], ap (times k) empty)
appended_uses (x ∷ rest) link empty k =
    omega (
      arith,
      times_append k (slots_at x) (all_slots (rest ++ Some link ∷ [])),
      times_append k (slots_at x) (all_slots rest),
      appended_uses rest link empty k,
    )

-- of what is seen as nobody's nothing is left to be taken back
pub nobody_back : (found : Option LinkState) → seen found ≡ nobody → IsTakenBack found
nobody_back None is = tt
nobody_back (Some link) is = absurd (there link.ended (ap (λ it. it.stage) is))
  where
    there : (ended : Bool) → (if ended then stage.Ended else stage.Live) ≡ stage.Vacant → ⊥
    there true same = search (rules, same)
    there false same = search (rules, same)

-- where there is no connection at first nothing is left to be taken back
pub none_back : (first now : List (Option LinkState)) (index : ℕ) → map seen now ≡ map seen first → get_or first index None ≡ None
    → IsTakenBack (get_or now index None)
none_back first now index looks none = nobody_back (get_or now index None)
    (seen_at now index ∙ ap (λ all. get_or all index nobody) looks ∙ sym (seen_at first index) ∙ ap seen none)

-- a connection is put at an index below which each has one: what holds of all holds still
pub put_kinds : (links : List (Option LinkState)) (index : ℕ) (overflows : Bool) (most_waiting most_borrowed : ℕ) (link : LinkState)
    → index < length links → ((other : ℕ) → IsOf overflows most_waiting most_borrowed (get_or links other None))
    → IsOf overflows most_waiting most_borrowed (Some link)
    → (other : ℕ) → IsOf overflows most_waiting most_borrowed (get_or (set links index (Some link)) other None)
put_kinds links index overflows most_waiting most_borrowed link within kinds kind other = ⊎_elim
    (λ same. subst (λ i. IsOf overflows most_waiting most_borrowed (get_or (set links index (Some link)) i None)) (sym same.1)
    (rw (get_or-set_same links index (Some link) None within) kind))
    (λ apart. rw (get_or-set_other links index other (Some link) None apart.1) (kinds other))
    (eqb_tells other index)

pub put_none : (links : List (Option LinkState)) (index top new_top : ℕ) (link : LinkState)
    → ((other : ℕ) → top ≤ other → get_or links other None ≡ None) → top ≤ new_top → index + 1 ≤ new_top
    → (other : ℕ) → new_top ≤ other → get_or (set links index (Some link)) other None ≡ None
put_none links index top new_top link none low behind other past =
    get_or-set_other links index other (Some link) None (λ same. absurd (omega (arith, same, behind, past)))
    ∙ none other (omega (arith, low, past))

pub put_some : (links : List (Option LinkState)) (index : ℕ) (link : LinkState) → index < length links
    → ((lower : ℕ) → lower < index → is_some (get_or links lower None) ≡ true)
    → (other : ℕ) → other < index + 1 → is_some (get_or (set links index (Some link)) other None) ≡ true
put_some links index link within lowest other below = ⊎_elim
    (λ same. subst (λ i. is_some (get_or (set links index (Some link)) i None) ≡ true) (sym same.1)
    (rw (get_or-set_same links index (Some link) None within) refl))
    (λ apart. rw (get_or-set_other links index other (Some link) None apart.1) (lowest other (omega (arith, below, apart.1))))
    (eqb_tells other index)

-- and from there on up to the next index without one
pub put_full : (links : List (Option LinkState)) (index full : ℕ) (link : LinkState) → index < length links
    → ((lower : ℕ) → lower < index → is_some (get_or links lower None) ≡ true)
    → ((at : ℕ) → index + 1 ≤ at → at < full → is_some (get_or (set links index (Some link)) at None) ≡ true)
    → (other : ℕ) → other < full → is_some (get_or (set links index (Some link)) other None) ≡ true
put_full links index full link within lowest further other below = elim (cases_lt other (index + 1)) [
  | inl low ↦ put_some links index link within lowest other low
  | inr past ↦ further other (omega (arith, past)) below
]

-- where a connection is cleared, an index without one has none still
pub cleared_none : (links : List (Option LinkState)) (index full : ℕ) → index < length links → get_or links full None ≡ None
    → get_or (set links index None) full None ≡ None
cleared_none links index full within none = ⊎_elim
    (λ same. subst (λ i. get_or (set links index None) i None ≡ None) (sym same.1) (get_or-set_same links index None None within))
    (λ apart. get_or-set_other links index full None None apart.1 ∙ none)
    (eqb_tells full index)

-- the connection that is put is the last, or the last one stays the last
pub put_last : (links : List (Option LinkState)) (index top new_top : ℕ) (link : LinkState) → index < length links
    → ((other : ℕ) → other + 1 ≡ top → is_some (get_or links other None) ≡ true)
    → index + 1 ≤ new_top → ((most : ℕ) → top ≤ most → index + 1 ≤ most → new_top ≤ most) → top ≤ new_top
    → (other : ℕ) → other + 1 ≡ new_top → is_some (get_or (set links index (Some link)) other None) ≡ true
put_last links index top new_top link within last behind least low other is = ⊎_elim
    (λ same. subst (λ i. is_some (get_or (set links index (Some link)) i None) ≡ true) (sym same.1)
    (rw (get_or-set_same links index (Some link) None within) refl))
    (λ apart. rw (get_or-set_other links index other (Some link) None apart.1) (last other (stays apart.1)))
    (eqb_tells other index)
  where
    stays : (other ≡ index → ⊥) → other + 1 ≡ top
    stays apart = elim (cases_lt index top) [
      | inl below ↦ omega (arith, is, low, least top (omega arith) (omega (arith, below)))
      | inr past ↦
          absurd (apart (omega (arith, is, behind, least (index + 1) (omega (arith, past)) (omega arith))))
    ]

-- one comes after the last, where each index has one
pub end_kinds : (links : List (Option LinkState)) (overflows : Bool) (most_waiting most_borrowed : ℕ) (link : LinkState)
    → ((other : ℕ) → IsOf overflows most_waiting most_borrowed (get_or links other None))
    → IsOf overflows most_waiting most_borrowed (Some link)
    → (other : ℕ) → IsOf overflows most_waiting most_borrowed (get_or (links ++ Some link ∷ []) other None)
end_kinds [] overflows most_waiting most_borrowed link kinds kind zero = kind
end_kinds [] overflows most_waiting most_borrowed link kinds kind (suc other) = tt
end_kinds (one ∷ rest) overflows most_waiting most_borrowed link kinds kind zero = kinds zero
end_kinds (one ∷ rest) overflows most_waiting most_borrowed link kinds kind (suc other)
    = end_kinds rest overflows most_waiting most_borrowed link (λ i. kinds (suc i)) kind other

pub end_some : (links : List (Option LinkState)) (link : LinkState)
    → ((lower : ℕ) → lower < length links → is_some (get_or links lower None) ≡ true)
    → (other : ℕ) → other < length links + 1 → is_some (get_or (links ++ Some link ∷ []) other None) ≡ true
end_some [] link lowest zero below = refl
end_some [] link lowest (suc other) below = absurd (omega (arith, below))
end_some (one ∷ rest) link lowest zero below = lowest zero (omega arith)
end_some (one ∷ rest) link lowest (suc other) below
    = end_some rest link (λ i within. lowest (suc i) (omega (arith, within))) other (omega (arith, below))
