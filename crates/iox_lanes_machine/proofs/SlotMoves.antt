-- What the steps of a publisher do at each of its connections.
use Rattle.std.proofs.Common.{ℕ, ◌≡◌, ◌+◌, ◌<◌, ◌^◌, ◌⊎◌, List, ◌++◌, slice_get, Option, Some, refl, sym, ◌∙◌, ap, subst, inl, inr, arith}
use Rattle.std.specs.List.{All}
use Rattle.std.proofs.lemmas.Bool.Decides.{eqb_tells}
use Rattle.iox_lanes_machine.specs.QueuesSteps.Order.{at}
use Rattle.iox_lanes_machine.specs.QueuesSteps.declared.access.Word.TheVariants.{Read}
use Rattle.iox_lanes_machine.specs.QueuesSteps.declared.order.Placed.{Placed}
use Rattle.iox_lanes_machine.specs.QueuesSteps.declared.rings.refusing.pop.Pop as refusing_pop_type
use Rattle.iox_lanes_machine.specs.QueuesSteps.Ends.{cells_of}
use Rattle.iox_lanes_machine.specs.QueuesSteps.declared.rings.ends.Push.{Push}
use Rattle.iox_lanes_machine.specs.LanesBase.Table.{held_by, shared_answer, after_shared, IsOfTable}
use Rattle.iox_lanes_machine.specs.LanesBase.Publishing.{publisher_next, publisher_take, publisher_change}
use Rattle.iox_lanes_machine.specs.LanesBase.declared.calls.publisher.Delivery.{Delivery}
use Rattle.iox_lanes_machine.specs.LanesBase.declared.calls.publisher.PublisherCall.{PublisherCall}
use Rattle.iox_lanes_machine.specs.LanesBase.declared.calls.publisher.PublisherCall.TheVariants as publishing
use Rattle.iox_lanes_machine.specs.LanesBase.declared.calls.publisher.PublisherChange.{PublisherChange}
use Rattle.iox_lanes_machine.specs.LanesBase.declared.calls.route.Route.{Route}
use Rattle.iox_lanes_machine.specs.LanesParties.Parties.{SubscriberLaneState}
use Rattle.iox_lanes_machine.specs.LanesParties.Within.{IsPublishing}
use Rattle.iox_lanes_machine.proofs.LanesParties.Rings.{all_at}
use Rattle.iox_lanes_machine.specs.Stored.{aside}
use Rattle.iox_lanes_machine.specs.LedgerUses.{count}
use Rattle.iox_lanes_machine.proofs.Changes.{IsChangeAt, IsElse, put_by, lost_by, back_follows, push_change_at}
use Rattle.iox_lanes_machine.proofs.Rings.{idle_aside}
use Rattle.iox_lanes_machine.specs.Rings.{sent_word, waiting}
use Rattle.iox_lanes_machine.specs.Returns.{AreReturning, GoesRound, IsReturning}
use Rattle.iox_lanes_machine.specs.World.{World, publisher_stage, subscriber_stage, pushes_to, push_acts, added}
use Rattle.iox_lanes_machine.specs.Kept.{IsLinkOf, sender, IsWithin, IsKeptAt, AreKept}
use Rattle.iox_lanes_machine.specs.Uses.{aside_at, given_back, stands_at}
use Rattle.iox_lanes_machine.specs.Links.{LinkState}
use Rattle.iox_lanes_machine.proofs.Ends.{some_is, push_off, fresh_take}
use Rattle.iox_lanes_machine.specs.LanesBase.declared.words.word.ConnectionRing.TheVariants.{Completion}
use Rattle.iox_lanes_machine.proofs.InTable.{access_elsewhere}
use Rattle.iox_lanes_machine.proofs.Kept.{seat}
use Rattle.iox_lanes_machine.proofs.Returns.{reclaims_at, loan_here, send_here, publisher_off}
use Rattle.iox_lanes_machine.proofs.ReturnSteps.{back_seat}
use Rattle.iox_lanes_machine.proofs.Standing.{fresh_aside, push_moves, reclaim_moves, back_same}
use Rattle.iox_lanes_machine.proofs.Steps.{added_other, added_here}

-- no two places of a list have one connection
abbrev pub IsOnce : List Route → Type 0
IsOnce routes = (i j : ℕ) (one other : Route) → slice_get routes i ≡ Some one → slice_get routes j ≡ Some other
    → one.connection ≡ other.connection → i ≡ j

-- a change leaves who has what at a place
abbrev pub IsQuietAt : ℕ → PublisherChange → Type 0
IsQuietAt place c = IsElse c ⊎ ((here : ℕ) × (place ≡ here → ⊥) × IsChangeAt here c)

-- a step does at the connection of a place what its change says
abbrev pub MovesThere : ℕ → PublisherChange → (ℕ → ℕ) → (ℕ → ℕ) → Type 0
MovesThere place c before after = IsChangeAt place c × ((s : ℕ) → after s + count s (lost_by c) ≡ before s + count s (put_by c))

-- so it does, or nothing
abbrev pub Moves : ℕ → PublisherChange → (ℕ → ℕ) → (ℕ → ℕ) → Type 0
Moves place c before after = MovesThere place c before after ⊎ (IsQuietAt place c × ((s : ℕ) → after s ≡ before s))

-- what all of it wants to know of a publisher and of one of its connections
pub record Setting (m : World) (who : ℕ) (routes : List Route) (stored : List ℕ) (call : PublisherCall) : Type 0 where
  pub bound : m.moments < 2 ^ 63
  pub within : IsWithin m
  pub kept : AreKept m
  pub some : 0 < m.table.sizes.completion_cells
  pub returning : AreReturning m
  pub round : GoesRound m.table.sizes.completion_cells routes
  pub links : All (IsLinkOf m.links sender who) routes
  pub call_is : IsPublishing m.table.sizes routes stored call
  pub access : IsOfTable m.table.sizes (publisher_next call)
  pub once : IsOnce routes
  pub stage : publisher_stage (slice_get m.publishers who) ≡ call

-- the connection, and its order before and after
pub record Spot (m : World) (who : ℕ) (routes : List Route) (call : PublisherCall) (place : ℕ) (route : Route) (link : LinkState)
    (order order' : List Placed) : Type 0 where
  pub here : slice_get routes place ≡ Some route
  pub found : slice_get m.links route.connection ≡ Some link
  pub sender_is : link.publisher ≡ who
  pub got : slice_get m.orders route.connection ≡ Some order
  pub after : slice_get (added m.orders (pushes_to call) m.moments (push_acts m.table call)) route.connection ≡ Some order'

-- what a step answers
abbrev pub told : World → PublisherCall → ℕ
told m call = shared_answer m.table (publisher_next call)

pub kept_here : (m : World) (who : ℕ) (routes : List Route) (stored : List ℕ) (call : PublisherCall) (place : ℕ) (route : Route)
    (link : LinkState) (order order' : List Placed) → Setting m who routes stored call
    → Spot m who routes call place route link order order'
    → IsKeptAt m.table m.moments route.connection link order call (subscriber_stage (slice_get m.subscribers link.subscriber))
kept_here m who routes stored call place route link order order' k p =
    subst (λ (c : PublisherCall). IsKeptAt m.table m.moments route.connection link order c
    (subscriber_stage (slice_get m.subscribers link.subscriber)))
    (ap (λ (i : ℕ). publisher_stage (slice_get m.publishers i)) p.sender_is ∙ k.stage) (k.kept route.connection link order p.found p.got)

pub returning_here : (m : World) (who : ℕ) (routes : List Route) (stored : List ℕ) (call : PublisherCall) (place : ℕ) (route : Route)
    (link : LinkState) (order order' : List Placed) → Setting m who routes stored call
    → Spot m who routes call place route link order order'
    → IsReturning m.table.sizes.completion_cells m.table m.moments route.connection call
    (subscriber_stage (slice_get m.subscribers link.subscriber))
returning_here m who routes stored call place route link order order' k p =
    subst (λ (c : PublisherCall). IsReturning m.table.sizes.completion_cells m.table m.moments route.connection c
    (subscriber_stage (slice_get m.subscribers link.subscriber)))
    (ap (λ (i : ℕ). publisher_stage (slice_get m.publishers i)) p.sender_is ∙ k.stage) (k.returning route.connection link p.found)

-- a step that pushes elsewhere leaves what was sent there
sent_same : (m : World) (who : ℕ) (routes : List Route) (stored : List ℕ) (call : PublisherCall) (place : ℕ) (route : Route)
    (link : LinkState) (order order' : List Placed) → Setting m who routes stored call
    → Spot m who routes call place route link order order'
    → (pushes_to call ≡ Some route.connection → ⊥) → (s : ℕ)
    → count s (waiting link order') + count s
    (aside_at (after_shared m.table (publisher_next call)) route.connection link (publisher_take routes stored call (told m call)))
    ≡ count s (waiting link order) + count s (aside_at m.table route.connection link call)
sent_same m who routes stored call place route link order order' k p off s =
    let same : order' ≡ order = some_is order' order
    (sym p.after ∙ added_other m.orders (pushes_to call) m.moments (push_acts m.table call) route.connection off ∙ p.got) in
    omega (
      arith,
      ap (λ (o : List Placed). count s (waiting link o)) same,
      ap (count s) (ap (aside (held_by m.table (sent_word route.connection Read))) (push_off route.connection link.kind call off) ∙
          idle_aside (held_by m.table (sent_word route.connection Read)) link.kind),
      ap (count s) (fresh_aside (held_by (after_shared m.table (publisher_next call)) (sent_word route.connection Read)) link.kind
          link.limit _ (fresh_take m.links sender who routes stored call (told m call) route.connection link k.links p.found off)),
    )

-- a step that takes back elsewhere leaves what was given back there
pub returned_same : (m : World) (who : ℕ) (routes : List Route) (stored : List ℕ) (call : PublisherCall) (place : ℕ) (route : Route)
    (link : LinkState) (order order' : List Placed) → Setting m who routes stored call
    → Spot m who routes call place route link order order'
    → (reclaims_at call ≡ Some route.connection → ⊥) → (s : ℕ)
    → count s (given_back (after_shared m.table (publisher_next call)) route.connection) ≡ count s (given_back m.table route.connection)
returned_same m who routes stored call place route link order order' k p off s =
    back_same m.table (publisher_next call) route.connection
    (access_elsewhere Completion m.table route.connection m.table.sizes.completion_cells (publisher_next call)
    (back_seat m route.connection link p.found k.some k.within) (publisher_off m.table route.connection call off k.access)) s

-- how often a slot stood at the connection before the step
abbrev pub Before : World → PublisherCall → Route → LinkState → List Placed → Option SubscriberLaneState → ℕ → ℕ
Before m call route link order receiver s = stands_at m.table route.connection link order call receiver s

-- and how often after it
abbrev pub After : World → List Route → List ℕ → PublisherCall → Route → LinkState → List Placed → Option SubscriberLaneState → ℕ → ℕ
After m routes stored call route link order' receiver s
    = stands_at (after_shared m.table (publisher_next call)) route.connection link order'
    (publisher_take routes stored call (told m call)) receiver s

-- a step elsewhere
all_same : (m : World) (who : ℕ) (routes : List Route) (stored : List ℕ) (call : PublisherCall) (place : ℕ) (route : Route)
    (link : LinkState) (order order' : List Placed) (receiver : Option SubscriberLaneState)
    → Setting m who routes stored call → Spot m who routes call place route link order order'
    → (pushes_to call ≡ Some route.connection → ⊥) → (reclaims_at call ≡ Some route.connection → ⊥)
    → (s : ℕ) → After m routes stored call route link order' receiver s ≡ Before m call route link order receiver s
all_same m who routes stored call place route link order order' receiver k p off off' s =
    omega (
      arith,
      sent_same m who routes stored call place route link order order' k p off s,
      returned_same m who routes stored call place
          route link order order' k p off' s,
    )

-- what a step of a call does at a place
abbrev Says : World → ℕ → List Route → List ℕ → ℕ → Route → LinkState → List Placed → List Placed → Option SubscriberLaneState
    → PublisherCall → Type 0
Says m who routes stored place route link order order' receiver call =
    Setting m who routes stored call → Spot m who routes call place route link order order'
    → Moves place (publisher_change call (told m call)) (Before m call route link order receiver)
    (After m routes stored call route link order' receiver)

-- what a step of a call that stands at the place does there
abbrev SaysThere : World → ℕ → List Route → List ℕ → ℕ → Route → LinkState → List Placed → List Placed → Option SubscriberLaneState
    → PublisherCall → Type 0
SaysThere m who routes stored place route link order order' receiver call =
    Setting m who routes stored call → Spot m who routes call place route link order order'
    → MovesThere place (publisher_change call (told m call)) (Before m call route link order receiver)
    (After m routes stored call route link order' receiver)

-- a step that takes back at the place
pub loan_reclaims_here : (m : World) (who : ℕ) (routes : List Route) (stored : List ℕ) (place : ℕ) (route : Route) (link : LinkState)
    (order order' : List Placed) (receiver : Option SubscriberLaneState) (c : refusing_pop_type.Pop)
    → SaysThere m who routes stored place route link order order' receiver (publishing.LoanReclaims place route c)
loan_reclaims_here m who routes stored place route link order order' receiver c k p = let follows
    = back_follows place (told m (publishing.LoanReclaims place route c)) c in (
      follows.at,
      λ s. omega (
        arith,
        sent_same m who routes stored (publishing.LoanReclaims place route c) place route link order order' k p (λ e. cc e) s,
        reclaim_moves m.table m.moments route.connection (publishing.LoanReclaims place route c) _ c route.completion_cells size
            (loan_here place route c) (back_seat m route.connection link p.found k.some k.within) k.bound
            (returning_here m who routes stored (publishing.LoanReclaims place route c) place route link order order' k p) s,
        ap (count s) follows.puts,
        ap (count s) follows.loses,
      ),
    )
  where
    size : route.completion_cells ≡ m.table.sizes.completion_cells
    size = all_at (λ (r : Route). r.completion_cells ≡ m.table.sizes.completion_cells) routes place route p.here k.round

pub send_reclaims_here : (m : World) (who : ℕ) (routes : List Route) (stored : List ℕ) (slot place : ℕ) (route : Route)
    (link : LinkState) (order order' : List Placed) (receiver : Option SubscriberLaneState) (c : refusing_pop_type.Pop)
    → SaysThere m who routes stored place route link order order' receiver (publishing.SendReclaims slot place route c)
send_reclaims_here m who routes stored slot place route link order order' receiver c k p = let follows
    = back_follows place (told m (publishing.SendReclaims slot place route c)) c in (
      follows.at,
      λ s. omega (
        arith,
        sent_same m who routes stored (publishing.SendReclaims slot place route c) place route link order order' k p (λ e. cc e) s,
        reclaim_moves m.table m.moments route.connection (publishing.SendReclaims slot place route c) _ c route.completion_cells size
            (send_here slot place route c) (back_seat m route.connection link p.found k.some k.within) k.bound
            (returning_here m who routes stored (publishing.SendReclaims slot place route c) place route link order order' k p) s,
        ap (count s) follows.puts,
        ap (count s) follows.loses,
      ),
    )
  where
    size : route.completion_cells ≡ m.table.sizes.completion_cells
    size = all_at (λ (r : Route). r.completion_cells ≡ m.table.sizes.completion_cells) routes place route p.here k.round

-- a step that pushes at the place
pub pushes_here : (m : World) (who : ℕ) (routes : List Route) (stored : List ℕ) (slot place : ℕ) (route : Route) (link : LinkState)
    (order order' : List Placed) (receiver : Option SubscriberLaneState) (push : Push) (delivery : Delivery)
    → SaysThere m who routes stored place route link order order' receiver (publishing.Pushing slot place route push delivery)
pushes_here m who routes stored slot place route link order order' receiver push delivery k p =
    let before = added_here m.orders (Some route.connection) m.moments
    (push_acts m.table (publishing.Pushing slot place route push delivery)) route.connection order' refl p.after in
    let same_order : before.0 ≡ order = some_is before.0 order (sym before.1 ∙ p.got) in
    let is : order' ≡ order ++ at m.moments (push_acts m.table (publishing.Pushing slot place route push delivery))
    = before.2 ∙ ap (λ (o : List Placed). o ++ at m.moments (push_acts m.table (publishing.Pushing slot place route push delivery)))
    same_order in
    let mine : IsLinkOf m.links sender who route = all_at (IsLinkOf m.links sender who) routes place route p.here k.links in
    let same : mine.link ≡ link = some_is mine.link link (sym mine.found ∙ p.found) in (
      push_change_at place push (told m (publishing.Pushing slot place route push delivery)),
      λ s. omega (
        arith,
        push_moves m.table m.moments m.links who routes slot place route push delivery link order _ route.submission_cells route.limit
            (mine.cells ∙ ap (λ (l : LinkState). cells_of l.kind l.limit) same) (mine.limit ∙ ap (λ (l : LinkState). l.limit) same)
            k.links p.found (seat m route.connection link p.found k.within) k.bound
            (kept_here m who routes stored (publishing.Pushing slot place route push delivery) place route link order order' k p) s,
        ap (λ (o : List Placed). count s (waiting link o)) is,
        returned_same m who routes stored (publishing.Pushing slot place route push delivery) place route link order order' k p
            (λ e. cc e) s,
      ),
    )

-- a step of a call that stands at no connection
elsewhere : (m : World) (who : ℕ) (routes : List Route) (stored : List ℕ) (call : PublisherCall) (place : ℕ) (route : Route)
    (link : LinkState) (order order' : List Placed) (receiver : Option SubscriberLaneState)
    → (pushes_to call ≡ Some route.connection → ⊥) → (reclaims_at call ≡ Some route.connection → ⊥)
    → IsQuietAt place (publisher_change call (told m call))
    → Says m who routes stored place route link order order' receiver call
elsewhere m who routes stored call place route link order order' receiver off off' quiet k p
    = inr (quiet, λ s. all_same m who routes stored call place route link order order' receiver k p off off' s)

pub publisher_moves : (m : World) (who : ℕ) (routes : List Route) (stored : List ℕ) (call : PublisherCall) (place : ℕ) (route : Route)
    (link : LinkState) (order order' : List Placed) (receiver : Option SubscriberLaneState)
    → Says m who routes stored place route link order order' receiver call
publisher_moves m who routes stored publishing.Idle place route link order order' receiver k p
    = elsewhere m who routes stored publishing.Idle place route link order order' receiver (λ e. cc e) (λ e. cc e) (inl tt) k p
publisher_moves m who routes stored (publishing.LoanReclaims at own c) place route link order order' receiver k p
    = elim (eqb_tells at place) [
      | inl same ↦
          let same_route : own ≡ route = some_is own route (sym k.call_is ∙ ap (slice_get routes) same.1 ∙ p.here) in
          subst (λ (x : Route). Says m who routes stored place route link order order' receiver (publishing.LoanReclaims at x c))
          (sym same_route)
          (subst (λ (n : ℕ). Says m who routes stored place route link order order' receiver (publishing.LoanReclaims n route c))
          (sym same.1) (λ k p. inl (loan_reclaims_here m who routes stored place route link order order' receiver c k p))) k p
      | inr other ↦ elsewhere m who routes stored (publishing.LoanReclaims at own c) place route link order order' receiver (λ e. cc e)
          (λ e. other.1 (k.once at place own route k.call_is p.here (some_is own.connection route.connection e)))
          (inr (at, λ e. other.1 (sym e), (back_follows at (told m (publishing.LoanReclaims at own c)) c).at)) k p
    ]
publisher_moves m who routes stored publishing.Lending place route link order order' receiver k p
    = elsewhere m who routes stored publishing.Lending place route link order order' receiver (λ e. cc e) (λ e. cc e) (inl tt) k p
publisher_moves m who routes stored (publishing.Writing slot word value) place route link order order' receiver k p
    = elsewhere m who routes stored (publishing.Writing slot word value) place route link order order' receiver (λ e. cc e) (λ e. cc e)
    (inl tt) k p
publisher_moves m who routes stored (publishing.Written slot) place route link order order' receiver k p
    = elsewhere m who routes stored (publishing.Written slot) place route link order order' receiver (λ e. cc e) (λ e. cc e) (inl tt) k p
publisher_moves m who routes stored (publishing.Heading slot word value) place route link order order' receiver k p
    = elsewhere m who routes stored (publishing.Heading slot word value) place route link order order' receiver (λ e. cc e) (λ e. cc e)
    (inl tt) k p
publisher_moves m who routes stored (publishing.Remembering slot) place route link order order' receiver k p
    = elsewhere m who routes stored (publishing.Remembering slot) place route link order order' receiver (λ e. cc e) (λ e. cc e)
    (inl tt) k p
publisher_moves m who routes stored (publishing.SendReclaims slot at own c) place route link order order' receiver k p
    = elim (eqb_tells at place) [
      | inl same ↦
          let same_route : own ≡ route = some_is own route (sym k.call_is ∙ ap (slice_get routes) same.1 ∙ p.here) in
          subst (λ (x : Route). Says m who routes stored place route link order order' receiver (publishing.SendReclaims slot at x c))
          (sym same_route)
          (subst (λ (n : ℕ). Says m who routes stored place route link order order' receiver (publishing.SendReclaims slot n route c))
          (sym same.1) (λ k p. inl (send_reclaims_here m who routes stored slot place route link order order' receiver c k p))) k p
      | inr other ↦ elsewhere m who routes stored (publishing.SendReclaims slot at own c) place route link order order' receiver (λ e. cc e)
          (λ e. other.1 (k.once at place own route k.call_is p.here (some_is own.connection route.connection e)))
          (inr (at, λ e. other.1 (sym e), (back_follows at (told m (publishing.SendReclaims slot at own c)) c).at)) k p
    ]
publisher_moves m who routes stored (publishing.Pushing slot at own push delivery) place route link order order' receiver k p
    = elim (eqb_tells at place) [
      | inl same ↦
          let same_route : own ≡ route = some_is own route (sym k.call_is ∙ ap (slice_get routes) same.1 ∙ p.here) in
          subst (λ (x : Route). Says m who routes stored place route link order order' receiver
          (publishing.Pushing slot at x push delivery)) (sym same_route)
          (subst (λ (n : ℕ). Says m who routes stored place route link order order' receiver
          (publishing.Pushing slot n route push delivery)) (sym same.1)
          (λ k p. inl (pushes_here m who routes stored slot place route link order order' receiver push delivery k p))) k p
      | inr other ↦ elsewhere m who routes stored (publishing.Pushing slot at own push delivery) place route link order order' receiver
          (λ e. other.1 (k.once at place own route k.call_is p.here (some_is own.connection route.connection e))) (λ e. cc e)
          (inr (at, λ e. other.1 (sym e), push_change_at at push (told m (publishing.Pushing slot at own push delivery)))) k p
    ]
publisher_moves m who routes stored (publishing.Sent slot delivery) place route link order order' receiver k p
    = elsewhere m who routes stored (publishing.Sent slot delivery) place route link order order' receiver (λ e. cc e) (λ e. cc e)
    (inl tt) k p
publisher_moves m who routes stored (publishing.Dropping slot) place route link order order' receiver k p
    = elsewhere m who routes stored (publishing.Dropping slot) place route link order order' receiver (λ e. cc e) (λ e. cc e) (inl tt) k p
