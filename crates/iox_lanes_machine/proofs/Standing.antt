-- What stands at a connection, step by step: a step of an end moves slots from place to place, and any other leaves them.
use Rattle.std.proofs.Common.{ℕ, ◌≡◌, ◌+◌, ◌<◌, ◌^◌, Bool, List, [], ◌++◌, slice_get, Option, Some, None, refl, sym, ◌∙◌, ap, subst, inl}
use Rattle.std.proofs.Common.{inr, arith}
use Rattle.std.specs.List.{All}
use Rattle.iox_lanes_machine.specs.QueuesSteps.Access.{RingWords, successor, answer_of, after_access}
use Rattle.iox_lanes_machine.specs.QueuesSteps.Order.{at}
use Rattle.iox_lanes_machine.specs.QueuesSteps.declared.access.Word.TheVariants.{Read}
use Rattle.iox_lanes_machine.specs.QueuesSteps.declared.order.Placed.{Placed}
use Rattle.iox_lanes_machine.specs.QueuesSteps.declared.order.PushAnswer.{PushAnswer}
use Rattle.iox_lanes_machine.specs.QueuesSteps.Refusing as refusing
use Rattle.iox_lanes_machine.specs.QueuesSteps.declared.rings.refusing.push.Push as refusing_push_type
use Rattle.iox_lanes_machine.specs.QueuesSteps.declared.rings.refusing.pop.Pop as refusing_pop_type
use Rattle.iox_lanes_machine.proofs.QueuesSteps.RefusingSteps as refusing_steps
use Rattle.iox_lanes_machine.specs.QueuesSteps.Ends.{Shape, cells_of, push_next, push_take, placed_by_push, pop_next, pop_take}
use Rattle.iox_lanes_machine.specs.QueuesSteps.Ends.{placed_by_pop}
use Rattle.iox_lanes_machine.specs.QueuesSteps.declared.rings.ends.RingKind.{RingKind}
use Rattle.iox_lanes_machine.specs.QueuesSteps.declared.rings.ends.Push.{Push}
use Rattle.iox_lanes_machine.specs.QueuesSteps.declared.rings.ends.Pop.{Pop}
use Rattle.iox_lanes_machine.proofs.QueuesSteps.EitherRing.{push_goes, pop_goes}
use Rattle.iox_lanes_machine.specs.LanesBase.Table.{TableWords, held_by, shared_answer, after_shared}
use Rattle.iox_lanes_machine.specs.LanesBase.Words.{on_ring}
use Rattle.iox_lanes_machine.specs.LanesBase.declared.words.sizes.TableSizes.{TableSizes}
use Rattle.iox_lanes_machine.specs.LanesBase.declared.words.word.ConnectionRing.TheVariants.{Submission, Completion}
use Rattle.iox_lanes_machine.specs.LanesBase.declared.words.access.SharedAccess.{SharedAccess}
use Rattle.iox_lanes_machine.specs.LanesBase.Answers.{push_answer, pop_answer}
use Rattle.iox_lanes_machine.specs.LanesBase.Publishing.{pushed, counted, push_change}
use Rattle.iox_lanes_machine.specs.LanesBase.Subscribing.{borrowed_by}
use Rattle.iox_lanes_machine.specs.LanesBase.declared.calls.publisher.Delivery.{Delivery}
use Rattle.iox_lanes_machine.specs.LanesBase.declared.calls.publisher.PublisherCall.{PublisherCall}
use Rattle.iox_lanes_machine.specs.LanesBase.declared.calls.publisher.PublisherCall.TheVariants as publishing
use Rattle.iox_lanes_machine.specs.LanesBase.declared.calls.route.Route.{Route}
use Rattle.iox_lanes_machine.specs.LanesBase.declared.calls.subscriber.SubscriberCall.{SubscriberCall}
use Rattle.iox_lanes_machine.specs.LanesBase.declared.calls.subscriber.SubscriberCall.TheVariants as subscribing
use Rattle.iox_lanes_machine.specs.Stored.{aside, between}
use Rattle.iox_lanes_machine.specs.LedgerUses.{count}
use Rattle.iox_lanes_machine.proofs.Changes.{put_by, lost_by, borrowed_in, push_follows, pop_follows}
use Rattle.iox_lanes_machine.proofs.Rings.{push_counts, pop_counts, back_push_counts, back_pop_counts, between_is, idle_aside}
use Rattle.iox_lanes_machine.proofs.Rings.{begun_aside, answered_aside, taking_refusing, storing_refusing}
use Rattle.iox_lanes_machine.specs.Rings.{sent_word, ring_in, waiting, push_on, pop_on}
use Rattle.iox_lanes_machine.specs.Returns.{back_ring, reclaim_on, release_on, IsReturning}
use Rattle.iox_lanes_machine.specs.Kept.{IsLinkOf, sender, IsKeptAt}
use Rattle.iox_lanes_machine.specs.Uses.{aside_at, given_back}
use Rattle.iox_lanes_machine.specs.Links.{LinkState}
use Rattle.iox_lanes_machine.proofs.Ends.{IsFreshPush, fresh_push_at, push_here, pop_here}
use Rattle.iox_lanes_machine.proofs.InTable.{IsSeat, access_after, access_answer}
use Rattle.iox_lanes_machine.proofs.Kept.{waits}
use Rattle.iox_lanes_machine.proofs.Within.{sizes_stay}

-- nothing lies aside where no push is in progress, or one begins
pub fresh_aside : (read : ℕ) (k : RingKind) (limit : ℕ) (p : Push) → IsFreshPush k limit p → aside read p ≡ []
fresh_aside read k limit p (inl e) = ap (aside read) e ∙ idle_aside read k
fresh_aside read k limit p (inr h) = ap (aside read) h.1 ∙ begun_aside read k limit h.0

-- what lies aside after the step of a push
next_aside : (read : ℕ) (links : List LinkState) (port : LinkState → ℕ) (who : ℕ) (routes : List Route) (slot place : ℕ) (route : Route)
    (p : Push) (delivery : Delivery) (link : LinkState) (answer : Option PushAnswer) → push_answer p ≡ answer
    → All (IsLinkOf links port who) routes → slice_get links route.connection ≡ Some link
    → aside read (push_on route.connection link.kind (pushed routes slot place route p delivery answer)) ≡ aside read p
next_aside read links port who routes slot place route p delivery link None e all found
    = ap (aside read) (push_here slot place route link.kind p delivery)
next_aside read links port who routes slot place route p delivery link (Some answer) e all found =
    fresh_aside read link.kind link.limit _
    (fresh_push_at links port who routes slot (successor place) (counted delivery answer) route.connection link all found) ∙ sym
    (answered_aside read p answer e)

-- what a step of a push moves, if its ring has n cells
abbrev PushMoves : TableWords → ℕ → List Route → ℕ → ℕ → Route → Push → Delivery → LinkState → List Placed → ℕ → ℕ → ℕ → Type 0
PushMoves table moments routes slot place route p delivery link order s limit cells =
    count s (waiting link (order ++ at moments (placed_by_push limit (held_by table (sent_word route.connection Read)) p)))
    + count s (aside_at (after_shared table (on_ring route.connection Submission cells (push_next p))) route.connection link
    (pushed routes slot place route (push_take p (shared_answer table (on_ring route.connection Submission cells (push_next p))))
    delivery (push_answer (push_take p (shared_answer table (on_ring route.connection Submission cells (push_next p)))))))
    + count s (lost_by (push_change place p (shared_answer table (on_ring route.connection Submission cells (push_next p)))))
    ≡ count s (waiting link order) + count s (aside_at table route.connection link (publishing.Pushing slot place route p delivery))
    + count s (put_by (push_change place p (shared_answer table (on_ring route.connection Submission cells (push_next p)))))

pub push_moves : (table : TableWords) (moments : ℕ) (links : List LinkState) (who : ℕ) (routes : List Route) (slot place : ℕ)
    (route : Route) (p : Push) (delivery : Delivery) (link : LinkState) (order : List Placed) (receives : SubscriberCall) (cells limit : ℕ)
    → cells ≡ cells_of link.kind link.limit → limit ≡ link.limit → All (IsLinkOf links sender who) routes
    → slice_get links route.connection ≡ Some link → IsSeat Submission table route.connection (cells_of link.kind link.limit)
    → moments < 2 ^ 63
    → IsKeptAt table moments route.connection link order (publishing.Pushing slot place route p delivery) receives → (s : ℕ)
    → PushMoves table moments routes slot place route p delivery link order s limit cells
push_moves table moments links who routes slot place route p delivery link order receives cells limit size is all found st bound k s =
    subst (λ (n : ℕ). PushMoves table moments routes slot place route p delivery link order s n cells) (sym is)
    (subst (λ (n : ℕ). PushMoves table moments routes slot place route p delivery link order s link.limit n) (sym size) exact)
  where
    exact : PushMoves table moments routes slot place route p delivery link order s link.limit (cells_of link.kind link.limit)
    exact =
        let words : RingWords = ring_in table route.connection (cells_of link.kind link.limit) in
        let pop : Pop = pop_on route.connection link.kind receives in
        let shape : Shape link.kind link.limit words (waiting link order) p pop
        = subst (λ (x : Push). Shape link.kind link.limit words (waiting link order) x pop)
        (push_here slot place route link.kind p delivery) k.shape in
        let g = push_goes link.kind link.limit words (waiting link order) p pop (omega (arith, k.few, bound)) shape in
        let answer : answer_of words (push_next p)
        ≡ shared_answer table (on_ring route.connection Submission (cells_of link.kind link.limit) (push_next p))
        = access_answer Submission table route.connection (cells_of link.kind link.limit) (push_next p) st in
        let after : after_access words (push_next p)
        ≡ ring_in (after_shared table (on_ring route.connection Submission (cells_of link.kind link.limit) (push_next p)))
        route.connection (cells_of link.kind link.limit)
        = access_after Submission table route.connection (cells_of link.kind link.limit) (push_next p) st in
        let follows = push_follows place words p in
        omega (
          arith,
          push_counts s link.kind link.limit words (waiting link order) p pop shape g.acts,
          ap (count s) (waits link order moments (placed_by_push link.limit words.read p) _ refl),
          ap (count s) (next_aside (held_by (after_shared table
              (on_ring route.connection Submission (cells_of link.kind link.limit) (push_next p))) (sent_word route.connection Read))
              links sender who routes slot place route
              (push_take p (shared_answer table (on_ring route.connection Submission (cells_of link.kind link.limit) (push_next p))))
              delivery link _ refl all found),
          ap (λ (a : ℕ). count s (aside (held_by
              (after_shared table (on_ring route.connection Submission (cells_of link.kind link.limit) (push_next p)))
              (sent_word route.connection Read)) (push_take p a))) answer,
          ap (λ (ws : RingWords). count s (aside ws.read (push_take p (answer_of words (push_next p))))) after,
          ap (λ (a : ℕ). count s (lost_by (push_change place p a))) answer,
          ap (λ (a : ℕ). count s (put_by (push_change place p a))) answer,
          ap (count s) follows.puts,
          ap (count s) follows.loses,
          ap (λ (x : Push). count s (aside words.read x)) (push_here slot place route link.kind p delivery),
        )

-- what a step of a pop moves
abbrev PopMoves : TableWords → ℕ → ℕ → Route → Pop → LinkState → List Placed → PublisherCall → ℕ → Push → ℕ → Type 0
PopMoves table moments place route c link order sends s push cells =
    count s (waiting link (order ++ at moments (placed_by_pop (ring_in table route.connection cells) push c)))
    + count s (aside_at (after_shared table (on_ring route.connection Submission cells (pop_next c))) route.connection link sends)
    + count s (borrowed_in (borrowed_by place
    (pop_answer (pop_take c (shared_answer table (on_ring route.connection Submission cells (pop_next c)))))))
    ≡ count s (waiting link order) + count s (aside_at table route.connection link sends)

pub pop_moves : (table : TableWords) (moments place : ℕ) (route : Route) (c : Pop) (waits_there : Bool) (link : LinkState)
    (order : List Placed) (sends : PublisherCall) (push : Push) (cells : ℕ)
    → cells ≡ cells_of link.kind link.limit → push ≡ push_on route.connection link.kind sends
    → IsSeat Submission table route.connection (cells_of link.kind link.limit) → moments < 2 ^ 63
    → IsKeptAt table moments route.connection link order sends (subscribing.Receiving place route c waits_there) → (s : ℕ)
    → PopMoves table moments place route c link order sends s push cells
pop_moves table moments place route c waits_there link order sends push cells size is st bound k s =
    subst (λ (x : Push). PopMoves table moments place route c link order sends s x cells) (sym is)
    (subst (λ (n : ℕ). PopMoves table moments place route c link order sends s (push_on route.connection link.kind sends) n) (sym size)
    exact)
  where
    exact : PopMoves table moments place route c link order sends s (push_on route.connection link.kind sends)
        (cells_of link.kind link.limit)
    exact =
        let words : RingWords = ring_in table route.connection (cells_of link.kind link.limit) in
        let push' : Push = push_on route.connection link.kind sends in
        let shape : Shape link.kind link.limit words (waiting link order) push' c
        = subst (λ (x : Pop). Shape link.kind link.limit words (waiting link order) push' x)
        (pop_here place route link.kind c waits_there) k.shape in
        let g = pop_goes link.kind link.limit words (waiting link order) push' c (omega (arith, k.few, bound)) shape in
        let answer : answer_of words (pop_next c)
        ≡ shared_answer table (on_ring route.connection Submission (cells_of link.kind link.limit) (pop_next c))
        = access_answer Submission table route.connection (cells_of link.kind link.limit) (pop_next c) st in
        let after : after_access words (pop_next c)
        ≡ ring_in (after_shared table (on_ring route.connection Submission (cells_of link.kind link.limit) (pop_next c)))
        route.connection (cells_of link.kind link.limit)
        = access_after Submission table route.connection (cells_of link.kind link.limit) (pop_next c) st in
        let follows = pop_follows place words c in
        omega (
          arith,
          pop_counts s link.kind link.limit words (waiting link order) push' c shape g.acts,
          ap (count s) (waits link order moments (placed_by_pop words push' c) _ refl),
          ap (λ (ws : RingWords). count s (aside ws.read push')) after,
          ap (λ (a : ℕ). count s (borrowed_in (borrowed_by place (pop_answer (pop_take c a))))) answer,
          ap (count s) follows.takes,
        )

-- the samples given back, by a number of cells
pub back_is : (table : TableWords) (access : SharedAccess) (connection : ℕ)
    → given_back (after_shared table access) connection
    ≡ between (back_ring (after_shared table access) connection table.sizes.completion_cells)
back_is table access connection = ap
    (λ (sizes : TableSizes). between (back_ring (after_shared table access) connection sizes.completion_cells))
    ((sizes_stay table access).0)

-- a step of a publisher that takes back
pub reclaim_moves : (table : TableWords) (moments connection : ℕ) (sends : PublisherCall) (receives : SubscriberCall)
    (c : refusing_pop_type.Pop) (cells : ℕ) → cells ≡ table.sizes.completion_cells → reclaim_on connection sends ≡ c
    → IsSeat Completion table connection table.sizes.completion_cells → moments < 2 ^ 63
    → IsReturning table.sizes.completion_cells table moments connection sends receives
    → (s : ℕ) → count s (given_back (after_shared table (on_ring connection Completion cells (refusing.pop_next c))) connection) + count
    s (taking_refusing c) ≡ count s (given_back table connection)
reclaim_moves table moments connection sends receives c cells size is st bound k s =
    subst (λ (n : ℕ). count s (given_back (after_shared table (on_ring connection Completion n (refusing.pop_next c))) connection) +
    count s (taking_refusing c) ≡ count s (given_back table connection)) (sym size) exact
  where
    exact : count s (given_back (after_shared table (on_ring connection Completion table.sizes.completion_cells (refusing.pop_next c)))
        connection) + count s (taking_refusing c) ≡ count s (given_back table connection)
    exact =
        let words : RingWords = back_ring table connection table.sizes.completion_cells in
        let push : refusing_push_type.Push = release_on connection receives in
        let shape : refusing.Shape table.sizes.completion_cells words k.list push c
        = subst (λ (x : refusing_pop_type.Pop). refusing.Shape table.sizes.completion_cells words k.list push x) is k.shape in
        let g = refusing_steps.pop_goes table.sizes.completion_cells words k.list push c (omega (arith, k.few, bound)) shape in
        let after : after_access words (refusing.pop_next c)
        ≡ back_ring (after_shared table (on_ring connection Completion table.sizes.completion_cells (refusing.pop_next c)))
        connection table.sizes.completion_cells
        = access_after Completion table connection table.sizes.completion_cells (refusing.pop_next c) st in
        omega (
          arith,
          back_pop_counts s table.sizes.completion_cells words.write k.list c g.acts,
          ap (count s) g.after,
          ap (count s) (between_is table.sizes.completion_cells (after_access words (refusing.pop_next c)) g.list push
              (refusing.pop_take c (answer_of words (refusing.pop_next c))) g.shape),
          ap (λ (ws : RingWords). count s (between ws)) after,
          ap (count s) (between_is table.sizes.completion_cells words k.list push c shape),
          ap (count s) (back_is table (on_ring connection Completion table.sizes.completion_cells (refusing.pop_next c)) connection),
        )

-- a step of a subscriber that gives back
pub release_moves : (table : TableWords) (moments connection : ℕ) (sends : PublisherCall) (receives : SubscriberCall)
    (p : refusing_push_type.Push) (cells : ℕ) → cells ≡ table.sizes.completion_cells → release_on connection receives ≡ p
    → IsSeat Completion table connection table.sizes.completion_cells → moments < 2 ^ 63
    → IsReturning table.sizes.completion_cells table moments connection sends receives
    → (s : ℕ) → count s (given_back (after_shared table (on_ring connection Completion cells (refusing.push_next p))) connection)
    ≡ count s (given_back table connection) + count s (storing_refusing p)
release_moves table moments connection sends receives p cells size is st bound k s =
    subst (λ (n : ℕ). count s (given_back (after_shared table (on_ring connection Completion n (refusing.push_next p))) connection)
    ≡ count s (given_back table connection) + count s (storing_refusing p)) (sym size) exact
  where
    exact : count s (given_back (after_shared table (on_ring connection Completion table.sizes.completion_cells (refusing.push_next p)))
        connection) ≡ count s (given_back table connection) + count s (storing_refusing p)
    exact =
        let words : RingWords = back_ring table connection table.sizes.completion_cells in
        let pop : refusing_pop_type.Pop = reclaim_on connection sends in
        let shape : refusing.Shape table.sizes.completion_cells words k.list p pop
        = subst (λ (x : refusing_push_type.Push). refusing.Shape table.sizes.completion_cells words k.list x pop) is k.shape in
        let g = refusing_steps.push_goes table.sizes.completion_cells words k.list p pop (omega (arith, k.few, bound)) shape in
        let after : after_access words (refusing.push_next p)
        ≡ back_ring (after_shared table (on_ring connection Completion table.sizes.completion_cells (refusing.push_next p)))
        connection table.sizes.completion_cells
        = access_after Completion table connection table.sizes.completion_cells (refusing.push_next p) st in
        omega (
          arith,
          back_push_counts s table.sizes.completion_cells words.read k.list p g.acts,
          ap (count s) g.after,
          ap (count s) (between_is table.sizes.completion_cells (after_access words (refusing.push_next p)) g.list
              (refusing.push_take p (answer_of words (refusing.push_next p))) pop g.shape),
          ap (λ (ws : RingWords). count s (between ws)) after,
          ap (count s) (between_is table.sizes.completion_cells words k.list p pop shape),
          ap (count s) (back_is table (on_ring connection Completion table.sizes.completion_cells (refusing.push_next p)) connection),
        )

-- a step elsewhere leaves what was given back
pub back_same : (table : TableWords) (access : SharedAccess) (connection : ℕ)
    → back_ring (after_shared table access) connection table.sizes.completion_cells
    ≡ back_ring table connection table.sizes.completion_cells
    → (s : ℕ) → count s (given_back (after_shared table access) connection) ≡ count s (given_back table connection)
back_same table access connection e s = ap (count s) (back_is table access connection ∙ ap between e)
