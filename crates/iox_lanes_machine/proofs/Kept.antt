-- Every step keeps what each connection's ring and order say of one another.
use Rattle.std.proofs.Common.{ℕ, ◌≡◌, ◌+◌, ◌<◌, ◌≤◌, ◌^◌, Bool, true, false, if◌then◌else◌, nat_lt, List, [], ◌∷◌, ◌++◌, slice_get}
use Rattle.std.proofs.Common.{Option, Some, refl, sym, ◌∙◌, ap, subst, arith}
use Rattle.std.specs.List.{All}
use Rattle.std.proofs.lemmas.Bool.{ltb-true}
use Rattle.iox_lanes_machine.specs.QueuesSteps.Access.{RingWords, successor, answer_of, after_access}
use Rattle.iox_lanes_machine.specs.QueuesSteps.Order.{Acts, after_acts, acts_of, at, Rises}
use Rattle.iox_lanes_machine.specs.QueuesSteps.declared.access.Word.TheVariants.{Read}
use Rattle.iox_lanes_machine.specs.QueuesSteps.declared.order.Act.{Act}
use Rattle.iox_lanes_machine.specs.QueuesSteps.declared.order.Placed.{Placed}
use Rattle.iox_lanes_machine.proofs.QueuesSteps.Orders.{acts_more, Acts-append, after_acts-append, rises_more}
use Rattle.iox_lanes_machine.specs.QueuesSteps.Ends.{Shape, overflows, cells_of, push_next, push_take, placed_by_push, pop_next, pop_take}
use Rattle.iox_lanes_machine.specs.QueuesSteps.Ends.{placed_by_pop}
use Rattle.iox_lanes_machine.specs.QueuesSteps.declared.rings.ends.RingKind.{RingKind}
use Rattle.iox_lanes_machine.specs.QueuesSteps.declared.rings.ends.RingKind.TheVariants as kind
use Rattle.iox_lanes_machine.specs.QueuesSteps.declared.rings.ends.Push.{Push}
use Rattle.iox_lanes_machine.specs.QueuesSteps.declared.rings.ends.Pop.{Pop}
use Rattle.iox_lanes_machine.proofs.QueuesSteps.EitherRing.{push_goes, pop_goes, push_grows, pop_grows}
use Rattle.iox_lanes_machine.specs.LanesBase.Table.{TableWords, held_by, shared_answer, after_shared}
use Rattle.iox_lanes_machine.specs.LanesBase.Words.{on_ring}
use Rattle.iox_lanes_machine.specs.LanesBase.declared.words.word.ConnectionRing.TheVariants.{Submission}
use Rattle.iox_lanes_machine.specs.LanesBase.Answers.{push_answer, pop_answer}
use Rattle.iox_lanes_machine.specs.LanesBase.Publishing.{publisher_next, publisher_take, pushed}
use Rattle.iox_lanes_machine.specs.LanesBase.Subscribing.{subscriber_next, subscriber_take, received}
use Rattle.iox_lanes_machine.specs.LanesBase.declared.calls.publisher.PublisherCall.{PublisherCall}
use Rattle.iox_lanes_machine.specs.LanesBase.declared.calls.publisher.PublisherCall.TheVariants as publishing
use Rattle.iox_lanes_machine.specs.LanesBase.declared.calls.route.Route.{Route}
use Rattle.iox_lanes_machine.specs.LanesBase.declared.calls.publisher.Delivery.{Delivery}
use Rattle.iox_lanes_machine.specs.LanesBase.declared.calls.subscriber.SubscriberCall.{SubscriberCall}
use Rattle.iox_lanes_machine.specs.LanesBase.declared.calls.subscriber.SubscriberCall.TheVariants as subscribing
use Rattle.iox_lanes_machine.specs.LanesParties.Within.{IsPublishing, IsSubscribing}
use Rattle.iox_lanes_machine.proofs.LanesParties.Rings.{all_at}
use Rattle.iox_lanes_machine.specs.Rings.{sent_word, ring_in, push_on, pop_on, waiting}
use Rattle.iox_lanes_machine.specs.World.{World, publisher_stage, sender_stage, push_at, pushes_to, pops_from, push_acts, pop_acts, placed}
use Rattle.iox_lanes_machine.specs.Kept.{IsLink, IsLinkOf, sender, receiver, IsWithin, IsKeptAt, FollowsMailbox}
use Rattle.iox_lanes_machine.specs.Links.{LinkState}
use Rattle.iox_lanes_machine.proofs.InTable.{IsSeat, access_answer, access_after}
use Rattle.iox_lanes_machine.proofs.Ends.{some_is, push_here, pop_here, next_push, next_pop}

-- moments that never fall lie below a later number too
pub rises_later : (low : ℕ) (order : List Placed) (high higher : ℕ) → high ≤ higher → Rises low order high → Rises low order higher
rises_later low [] high higher le h = omega (arith, h)
rises_later low (placed ∷ order) high higher le h = (h.0, rises_later placed.moment order high higher le h.1)

pub cells_some : (k : RingKind) (limit : ℕ) → 0 < cells_of k limit
cells_some kind.Overflowing limit = omega arith
cells_some kind.Refusing limit = by_test (nat_lt 0 limit) refl
  where
    by_test : (b : Bool) → nat_lt 0 limit ≡ b → 0 < (if b then limit else 1)
    by_test true e = ltb-true 0 limit e
    by_test false e = omega arith

pub seat : (m : World) (connection : ℕ) (link : LinkState) → slice_get m.links connection ≡ Some link → IsWithin m
    → IsSeat Submission m.table connection (cells_of link.kind link.limit)
seat m connection link found k =
    let is : IsLink m.table.sizes connection link = k.links connection link found in
    record { there = is.connection_is; some = cells_some link.kind link.limit; room = is.cells; words = k.words }

-- a step that touches no word of the ring, and places nothing
pub quiet_kept : (table table' : TableWords) (moments moments' connection : ℕ) (link : LinkState) (order : List Placed)
    (sends sends' : PublisherCall) (receives receives' : SubscriberCall)
    → ring_in table' connection (cells_of link.kind link.limit) ≡ ring_in table connection (cells_of link.kind link.limit)
    → moments ≤ moments'
    → Shape link.kind link.limit (ring_in table connection (cells_of link.kind link.limit)) (waiting link order)
    (push_on connection link.kind sends') (pop_on connection link.kind receives')
    → IsKeptAt table moments connection link order sends receives → IsKeptAt table' moments' connection link order sends' receives'
quiet_kept table table' moments moments' connection link order sends sends' receives receives' same le s k = record {
  mailbox = record { acts = k.mailbox.acts; rises = rises_later 0 order moments moments' le k.mailbox.rises };
  shape = subst (λ (words : RingWords). Shape link.kind link.limit words (waiting link order) (push_on connection link.kind sends')
      (pop_on connection link.kind receives')) (sym same) s;
  few = omega (arith, ap (λ (words : RingWords). words.write) same, k.few, le);
}

-- what waits after more acts
pub waits : (link : LinkState) (order : List Placed) (moment : ℕ) (new : List Act) (list : List ℕ)
    → after_acts (overflows link.kind) link.limit (waiting link order) new ≡ list → waiting link (order ++ at moment new) ≡ list
waits link order moment new list e =
    ap (after_acts (overflows link.kind) link.limit link.found) (acts_more order moment new) ∙ after_acts-append (overflows link.kind)
    link.limit link.found (acts_of order) new ∙ e

more_mailbox : (link : LinkState) (order : List Placed) (moment : ℕ) (new : List Act) → moment < 2 ^ 63
    → Acts (overflows link.kind) link.limit (waiting link order) new → FollowsMailbox link order moment
    → FollowsMailbox link (order ++ at moment new) (successor moment)
more_mailbox link order moment new bound h k = record {
  acts = subst (Acts (overflows link.kind) link.limit link.found) (sym (acts_more order moment new))
      (Acts-append (overflows link.kind) link.limit link.found (acts_of order) new k.acts h);
  rises = subst (Rises 0 (order ++ at moment new)) (next moment bound) (rises_more 0 order moment new k.rises);
}
  where
    next : (n : ℕ) → n < 2 ^ 63 → n + 1 ≡ successor n
    next n h = omega arith

-- a step of the push that stands at a connection
push_core : (table : TableWords) (moments : ℕ) (links : List LinkState) (who : ℕ) (routes : List Route) (slot place : ℕ) (route : Route)
    (p : Push) (delivery : Delivery) (link : LinkState) (order : List Placed) (receives : SubscriberCall)
    → (cells limit : ℕ) → cells ≡ cells_of link.kind link.limit → limit ≡ link.limit
    → All (IsLinkOf links sender who) routes → slice_get links route.connection ≡ Some link
    → IsSeat Submission table route.connection (cells_of link.kind link.limit) → moments < 2 ^ 63
    → IsKeptAt table moments route.connection link order (publishing.Pushing slot place route p delivery) receives
    → IsKeptAt (after_shared table (on_ring route.connection Submission cells (push_next p))) (successor moments) route.connection link
    (order ++ at moments (placed_by_push limit (held_by table (sent_word route.connection Read)) p))
    (pushed routes slot place route (push_take p (shared_answer table (on_ring route.connection Submission cells (push_next p))))
    delivery (push_answer (push_take p (shared_answer table (on_ring route.connection Submission cells (push_next p)))))) receives
push_core table moments links who routes slot place route p delivery link order receives cells limit size is all found st bound k =
    subst (λ (n : ℕ). IsKeptAt (after_shared table (on_ring route.connection Submission cells (push_next p))) (successor moments)
    route.connection link (order ++ at moments (placed_by_push n (held_by table (sent_word route.connection Read)) p))
    (pushed routes slot place route (push_take p (shared_answer table (on_ring route.connection Submission cells (push_next p))))
    delivery (push_answer (push_take p (shared_answer table (on_ring route.connection Submission cells (push_next p)))))) receives)
    (sym is)
    (subst (λ (n : ℕ). IsKeptAt (after_shared table (on_ring route.connection Submission n (push_next p))) (successor moments)
    route.connection link (order ++ at moments (placed_by_push link.limit (held_by table (sent_word route.connection Read)) p))
    (pushed routes slot place route (push_take p (shared_answer table (on_ring route.connection Submission n (push_next p)))) delivery
    (push_answer (push_take p (shared_answer table (on_ring route.connection Submission n (push_next p)))))) receives) (sym size) exact)
  where
    exact : IsKeptAt (after_shared table (on_ring route.connection Submission (cells_of link.kind link.limit) (push_next p)))
        (successor moments) route.connection link
        (order ++ at moments (placed_by_push link.limit (held_by table (sent_word route.connection Read)) p))
        (pushed routes slot place route (push_take p
        (shared_answer table (on_ring route.connection Submission (cells_of link.kind link.limit) (push_next p)))) delivery
        (push_answer (push_take p (shared_answer table
        (on_ring route.connection Submission (cells_of link.kind link.limit) (push_next p)))))) receives
    exact =
        let words : RingWords = ring_in table route.connection (cells_of link.kind link.limit) in
        let pop : Pop = pop_on route.connection link.kind receives in
        let s : Shape link.kind link.limit words (waiting link order) p pop
        = subst (λ (x : Push). Shape link.kind link.limit words (waiting link order) x pop)
        (push_here slot place route link.kind p delivery) k.shape in
        let fits : words.write + 1 < 2 ^ 64 = omega (arith, k.few, bound) in
        let g = push_goes link.kind link.limit words (waiting link order) p pop fits s in
        let answer : answer_of words (push_next p)
        ≡ shared_answer table (on_ring route.connection Submission (cells_of link.kind link.limit) (push_next p))
        = access_answer Submission table route.connection (cells_of link.kind link.limit) (push_next p) st in
        let after : after_access words (push_next p)
        ≡ ring_in (after_shared table (on_ring route.connection Submission (cells_of link.kind link.limit) (push_next p)))
        route.connection (cells_of link.kind link.limit)
        = access_after Submission table route.connection (cells_of link.kind link.limit) (push_next p) st in
        record {
          mailbox = more_mailbox link order moments (placed_by_push link.limit words.read p) bound g.acts k.mailbox;
          shape = next_push links sender who routes slot place route _ delivery _ link _ _ pop refl all found
              (subst (λ (q : List ℕ). Shape link.kind link.limit
              (ring_in (after_shared table (on_ring route.connection Submission (cells_of link.kind link.limit) (push_next p)))
              route.connection (cells_of link.kind link.limit)) q
              (push_take p (shared_answer table
              (on_ring route.connection Submission (cells_of link.kind link.limit) (push_next p)))) pop)
              (sym (waits link order moments (placed_by_push link.limit words.read p) g.list g.after))
              (subst (λ (a : ℕ). Shape link.kind link.limit
              (ring_in (after_shared table (on_ring route.connection Submission (cells_of link.kind link.limit) (push_next p)))
              route.connection (cells_of link.kind link.limit)) g.list (push_take p a) pop) answer
              (subst (λ (ws : RingWords). Shape link.kind link.limit ws g.list (push_take p (answer_of words (push_next p))) pop) after
              g.shape)));
          few = omega (
            arith,
            ap (λ (ws : RingWords). ws.write) after,
            push_grows link.kind link.limit words (waiting link order) p pop s,
            k.few,
            bound,
          );
        }

pub push_active : (table : TableWords) (moments connection : ℕ) (links : List LinkState) (who : ℕ) (routes : List Route)
    (stored : List ℕ) (call : PublisherCall) (link : LinkState) (order : List Placed) (receives : SubscriberCall)
    → pushes_to call ≡ Some connection → All (IsLinkOf links sender who) routes → IsPublishing table.sizes routes stored call
    → slice_get links connection ≡ Some link
    → IsSeat Submission table connection (cells_of link.kind link.limit) → moments < 2 ^ 63
    → IsKeptAt table moments connection link order call receives
    → IsKeptAt (after_shared table (publisher_next call)) (successor moments) connection link
    (order ++ at moments (push_acts table call)) (publisher_take routes stored call (shared_answer table (publisher_next call)))
    receives
push_active table moments connection links who routes stored publishing.Idle link order receives e all h found st bound k = absurd (cc)
push_active table moments connection links who routes stored (publishing.LoanReclaims place route p) link order receives e all h found
    st bound k = absurd (cc)
push_active table moments connection links who routes stored publishing.Lending link order receives e all h found st bound k = absurd (cc)
push_active table moments connection links who routes stored (publishing.Writing slot word value) link order receives e all h found st
    bound k = absurd (cc)
push_active table moments connection links who routes stored (publishing.Written slot) link order receives e all h found st bound k
    = absurd (cc)
push_active table moments connection links who routes stored (publishing.Heading slot word value) link order receives e all h found st
    bound k = absurd (cc)
push_active table moments connection links who routes stored (publishing.Remembering slot) link order receives e all h found st bound k
    = absurd (cc)
push_active table moments connection links who routes stored (publishing.SendReclaims slot place route p) link order receives e all h
    found st bound k = absurd (cc)
push_active table moments connection links who routes stored (publishing.Pushing slot place route p delivery) link order receives e all
    h found st bound k =
    let here : route.connection ≡ connection = some_is route.connection connection e in
    let mine : IsLinkOf links sender who route = all_at (IsLinkOf links sender who) routes place route h all in
    let found' : slice_get links route.connection ≡ Some link = ap (slice_get links) here ∙ found in
    let same : mine.link ≡ link = some_is mine.link link (sym mine.found ∙ found') in
    subst (λ (c : ℕ). IsKeptAt (after_shared table (publisher_next (publishing.Pushing slot place route p delivery)))
    (successor moments) c link (order ++ at moments (push_acts table (publishing.Pushing slot place route p delivery)))
    (publisher_take routes stored (publishing.Pushing slot place route p delivery)
    (shared_answer table (publisher_next (publishing.Pushing slot place route p delivery)))) receives) here
    (push_core table moments links who routes slot place route p delivery link order receives route.submission_cells route.limit
    (mine.cells ∙ ap (λ (l : LinkState). cells_of l.kind l.limit) same) (mine.limit ∙ ap (λ (l : LinkState). l.limit) same) all found'
    (subst (λ (c : ℕ). IsSeat Submission table c (cells_of link.kind link.limit)) (sym here) st) bound
    (subst (λ (c : ℕ). IsKeptAt table moments c link order (publishing.Pushing slot place route p delivery) receives) (sym here) k))
push_active table moments connection links who routes stored (publishing.Sent slot delivery) link order receives e all h found st bound
    k = absurd (cc)
push_active table moments connection links who routes stored (publishing.Dropping slot) link order receives e all h found st bound k
    = absurd (cc)

-- a step of the pop or look that stands at a connection
pop_core : (table : TableWords) (moments : ℕ) (links : List LinkState) (who : ℕ) (routes : List Route) (borrowed : List ℕ)
    (most place : ℕ) (route : Route) (p : Pop) (waits_too : Bool) (link : LinkState) (order : List Placed) (sends : PublisherCall)
    → (cells : ℕ) (push : Push) → cells ≡ cells_of link.kind link.limit → push ≡ push_on route.connection link.kind sends
    → All (IsLinkOf links receiver who) routes → slice_get links route.connection ≡ Some link
    → IsSeat Submission table route.connection (cells_of link.kind link.limit) → moments < 2 ^ 63
    → IsKeptAt table moments route.connection link order sends (subscribing.Receiving place route p waits_too)
    → IsKeptAt (after_shared table (on_ring route.connection Submission cells (pop_next p))) (successor moments) route.connection link
    (order ++ at moments (placed_by_pop (ring_in table route.connection cells) push p)) sends
    (received routes borrowed most place route
    (pop_take p (shared_answer table (on_ring route.connection Submission cells (pop_next p)))) waits_too
    (pop_answer (pop_take p (shared_answer table (on_ring route.connection Submission cells (pop_next p))))))
pop_core table moments links who routes borrowed most place route p waits_too link order sends cells push size is all found st bound k =
    subst (λ (x : Push). IsKeptAt (after_shared table (on_ring route.connection Submission cells (pop_next p))) (successor moments)
    route.connection link (order ++ at moments (placed_by_pop (ring_in table route.connection cells) x p)) sends
    (received routes borrowed most place route
    (pop_take p (shared_answer table (on_ring route.connection Submission cells (pop_next p)))) waits_too
    (pop_answer (pop_take p (shared_answer table (on_ring route.connection Submission cells (pop_next p))))))) (sym is)
    (subst (λ (n : ℕ). IsKeptAt (after_shared table (on_ring route.connection Submission n (pop_next p))) (successor moments)
    route.connection link (order ++ at moments
    (placed_by_pop (ring_in table route.connection n) (push_on route.connection link.kind sends) p)) sends
    (received routes borrowed most place route (pop_take p (shared_answer table (on_ring route.connection Submission n (pop_next p))))
    waits_too (pop_answer (pop_take p (shared_answer table (on_ring route.connection Submission n (pop_next p))))))) (sym size) exact)
  where
    exact : IsKeptAt (after_shared table (on_ring route.connection Submission (cells_of link.kind link.limit) (pop_next p)))
        (successor moments) route.connection link
        (order ++ at moments (placed_by_pop (ring_in table route.connection (cells_of link.kind link.limit))
        (push_on route.connection link.kind sends) p)) sends
        (received routes borrowed most place route
        (pop_take p (shared_answer table (on_ring route.connection Submission (cells_of link.kind link.limit) (pop_next p))))
        waits_too (pop_answer (pop_take p
        (shared_answer table (on_ring route.connection Submission (cells_of link.kind link.limit) (pop_next p))))))
    exact =
        let words : RingWords = ring_in table route.connection (cells_of link.kind link.limit) in
        let push : Push = push_on route.connection link.kind sends in
        let s : Shape link.kind link.limit words (waiting link order) push p
        = subst (λ (x : Pop). Shape link.kind link.limit words (waiting link order) push x)
        (pop_here place route link.kind p waits_too) k.shape in
        let fits : words.write + 1 < 2 ^ 64 = omega (arith, k.few, bound) in
        let g = pop_goes link.kind link.limit words (waiting link order) push p fits s in
        let answer : answer_of words (pop_next p)
        ≡ shared_answer table (on_ring route.connection Submission (cells_of link.kind link.limit) (pop_next p))
        = access_answer Submission table route.connection (cells_of link.kind link.limit) (pop_next p) st in
        let after : after_access words (pop_next p)
        ≡ ring_in (after_shared table (on_ring route.connection Submission (cells_of link.kind link.limit) (pop_next p)))
        route.connection (cells_of link.kind link.limit)
        = access_after Submission table route.connection (cells_of link.kind link.limit) (pop_next p) st in
        record {
          mailbox = more_mailbox link order moments (placed_by_pop words push p) bound g.acts k.mailbox;
          shape = next_pop links receiver who routes borrowed most place route _ waits_too _ link _ _ push all found
              (subst (λ (q : List ℕ). Shape link.kind link.limit
              (ring_in (after_shared table (on_ring route.connection Submission (cells_of link.kind link.limit) (pop_next p)))
              route.connection (cells_of link.kind link.limit)) q push
              (pop_take p (shared_answer table (on_ring route.connection Submission (cells_of link.kind link.limit) (pop_next p)))))
              (sym (waits link order moments (placed_by_pop words push p) g.list g.after))
              (subst (λ (a : ℕ). Shape link.kind link.limit
              (ring_in (after_shared table (on_ring route.connection Submission (cells_of link.kind link.limit) (pop_next p)))
              route.connection (cells_of link.kind link.limit)) g.list push (pop_take p a)) answer
              (subst (λ (ws : RingWords). Shape link.kind link.limit ws g.list push (pop_take p (answer_of words (pop_next p)))) after
              g.shape)));
          few = omega (arith, ap (λ (ws : RingWords). ws.write) after, pop_grows words p, k.few, bound);
        }

pub pop_active : (m : World) (connection who : ℕ) (routes : List Route) (borrowed : List ℕ) (most : ℕ) (call : SubscriberCall)
    (link : LinkState) (order : List Placed)
    → pops_from call ≡ Some connection → All (IsLinkOf m.links receiver who) routes → IsSubscribing m.table.sizes routes call
    → slice_get m.links connection ≡ Some link
    → IsSeat Submission m.table connection (cells_of link.kind link.limit) → m.moments < 2 ^ 63
    → IsKeptAt m.table m.moments connection link order (publisher_stage (slice_get m.publishers link.publisher)) call
    → IsKeptAt (after_shared m.table (subscriber_next call)) (successor m.moments) connection link
    (order ++ at m.moments (pop_acts m call)) (publisher_stage (slice_get m.publishers link.publisher))
    (subscriber_take routes borrowed most call (shared_answer m.table (subscriber_next call)))
pop_active m connection who routes borrowed most subscribing.Idle link order e all h found st bound k = absurd (cc)
pop_active m connection who routes borrowed most (subscribing.Receiving place route p waits_too) link order e all h found st bound k =
    let here : route.connection ≡ connection = some_is route.connection connection e in
    let mine : IsLinkOf m.links receiver who route = all_at (IsLinkOf m.links receiver who) routes place route h all in
    let found' : slice_get m.links route.connection ≡ Some link = ap (slice_get m.links) here ∙ found in
    let same : mine.link ≡ link = some_is mine.link link (sym mine.found ∙ found') in
    let push_is : push_at m route.connection route.kind
    ≡ push_on route.connection link.kind (publisher_stage (slice_get m.publishers link.publisher)) =
    ap (λ (at : Option LinkState). push_on route.connection route.kind (sender_stage m at)) found'
    ∙ ap (λ (k' : RingKind). push_on route.connection k' (publisher_stage (slice_get m.publishers link.publisher)))
    (mine.kind ∙ ap (λ (l : LinkState). l.kind) same) in
    subst (λ (c : ℕ). IsKeptAt (after_shared m.table (subscriber_next (subscribing.Receiving place route p waits_too)))
    (successor m.moments) c link (order ++ at m.moments (pop_acts m (subscribing.Receiving place route p waits_too)))
    (publisher_stage (slice_get m.publishers link.publisher))
    (subscriber_take routes borrowed most (subscribing.Receiving place route p waits_too)
    (shared_answer m.table (subscriber_next (subscribing.Receiving place route p waits_too))))) here
    (pop_core m.table m.moments m.links who routes borrowed most place route p waits_too link order
    (publisher_stage (slice_get m.publishers link.publisher)) route.submission_cells (push_at m route.connection route.kind)
    (mine.cells ∙ ap (λ (l : LinkState). cells_of l.kind l.limit) same) push_is all found'
    (subst (λ (c : ℕ). IsSeat Submission m.table c (cells_of link.kind link.limit)) (sym here) st) bound
    (subst (λ (c : ℕ). IsKeptAt m.table m.moments c link order (publisher_stage (slice_get m.publishers link.publisher))
    (subscribing.Receiving place route p waits_too)) (sym here) k))
pop_active m connection who routes borrowed most (subscribing.Received receipt) link order e all h found st bound k = absurd (cc)
pop_active m connection who routes borrowed most (subscribing.Reading slot word extent) link order e all h found st bound k = absurd (cc)
pop_active m connection who routes borrowed most (subscribing.WasRead slot) link order e all h found st bound k = absurd (cc)
pop_active m connection who routes borrowed most (subscribing.Releasing place route p) link order e all h found st bound k = absurd (cc)
pop_active m connection who routes borrowed most (subscribing.Released done) link order e all h found st bound k = absurd (cc)
