-- After whole calls as many factories are registered as are open.
use Rattle.std.proofs.Common.{◌≡◌, ◌≢◌, ℕ, ◌+◌, ◌-◌, ◌≤◌, Bool, true, false, cond, List, [], ◌∷◌, ◌++◌, Option, None, Some, Result, Ok}
use Rattle.std.proofs.Common.{Err, nat_lt, unwrap_or, refl, sym, ap, subst, ◌∙◌, inl, inr, arith}
use Rattle.std.specs.BTreeMap.{is_at}
use Rattle.iox_negotiate_table.specs.DescribeBase.declared.hash.ServiceHash.{ServiceHash}
use Rattle.iox_negotiate_table.specs.NegotiateBase.Access.{Access, MakeSegment, Publish, OpenSegment, Leave}
use Rattle.iox_negotiate_table.specs.NegotiateBase.Opening.{OpenRound, EitherRound}
use Rattle.iox_negotiate_table.specs.NegotiateBase.Runs.{Went}
use Rattle.iox_negotiate_table.specs.NegotiateBase.declared.answer.LeaveAnswer.{LeaveAnswer}
use Rattle.iox_negotiate_table.specs.NegotiateBase.declared.answer.OpenSegmentAnswer.TheVariants as opening
use Rattle.iox_negotiate_table.specs.NegotiateBase.declared.answer.MakeSegmentAnswer.TheVariants as making
use Rattle.iox_negotiate_table.specs.NegotiateBase.declared.answer.PublishAnswer.TheVariants as publishing
use Rattle.iox_negotiate_table.specs.NegotiateBase.declared.request.Opened.{Opened}
use Rattle.iox_negotiate.specs.NegotiateBase.declared.errors.close.CloseError.{CloseError}
use Rattle.iox_negotiate.specs.Factory.{Closes}
use Rattle.iox_negotiate_table.specs.declared.node.Node.TheVariants.{Own}
use Rattle.iox_negotiate_table.specs.declared.entry.Entry.TheVariants.{Described}
use Rattle.iox_negotiate_table.specs.declared.segment.Segment.TheVariants.{Open, Emptied}
use Rattle.iox_negotiate_table.specs.Nodes.{factories_of, left}
use Rattle.iox_negotiate_table.specs.Segments.{closed_if}
use Rattle.iox_negotiate_table.specs.Contents.{Contents, empty_table, entry_at, segment_at, with_segment, place_cmp}
use Rattle.iox_negotiate_table.specs.Sights.{Sight}
use Rattle.iox_negotiate_table.specs.Laws.{IsOpenIn}
use Rattle.iox_negotiate_table.specs.Stepped.{Steps, next_list, SteppedSight}
use Rattle.iox_negotiate_table.proofs.Entries.{lookup-set}
use Rattle.iox_negotiate.specs.Histories.{Accesses}
use Rattle.iox_negotiate.specs.Factories.{Factory, is_of, times, IsAmong, Stands}
use Rattle.iox_negotiate.specs.Calls.{Call, Creates, Opening, Either, Closing, Between, factory_of, opened_too, MayBegin, open_after}
use Rattle.iox_negotiate.specs.Calls.{Goes, Called}
use Rattle.iox_negotiate.specs.Counts.{any_of, AreCounted, FactoriesAreCounted}
use Rattle.iox_negotiate.proofs.Maps.{by_test}
use Rattle.iox_negotiate.proofs.Tables.{sees, seat-found}
use Rattle.iox_negotiate.proofs.Changes.{IsElsewhere, changes, elsewhere, by_hash}
use Rattle.iox_negotiate.proofs.Held.{by_number}
use Rattle.iox_negotiate.proofs.Closing.{taken, leaves}
use Rattle.iox_negotiate.proofs.Standing.{IsMaking, made-making, times-with, number-hash, times-bounded}
use Rattle.iox_negotiate.proofs.Stepping.{acts-keep, stepped-keeps, Seen, seen, acts-idle, went-split}
use Rattle.iox_negotiate.proofs.Ending.{World, registered-not-lacking, made-not-lacking, published-not-lacking}
use Rattle.iox_negotiate.proofs.Calling.{call-world, fresh-world}
use Rattle.iox_negotiate.proofs.Gaining.{Calm, AllCalm, Last, Entrance, Publication, Gains, won, creates-gains, rounds-gains, round-gains}
use Rattle.iox_negotiate.proofs.Gaining.{either-gains, leave-goes-calm}
use Rattle.iox_negotiate.proofs.Owning.{IsBelow, BoundedAt, Owned, loosened, left-own, owned-step, owned-access, one_more, owned-opening}
use Rattle.iox_negotiate.proofs.Owning.{owned-publication, new-owned}

-- how many of these a node has in the service of a number
abbrev pub counts : List Factory → ℕ → ℕ → ℕ
counts all number node = times number node all

-- ---- storage operations

pub calm-keeps : (all : List Factory) (made : List Access) (old new : Steps) → AllCalm made → Owned (counts all) old.table
    → Went SteppedSight old made new → Owned (counts all) new.table
calm-keeps all [] old new calm o went = subst (λ s. Owned (counts all) s.table) (sym went) o
calm-keeps all (access ∷ made) old new calm o (mid, sight, went) =
    calm-keeps all made mid new calm.1 (stepped-keeps (λ t. Owned (counts all) t) (owned-step (counts all)) (λ a. Calm a)
    (owned-access (counts all)) access old mid calm.0 o sight) went

module _ (all : List Factory) (node : ℕ) (service : Opened) (old new : Steps) (o : Owned (counts all) old.table) where
  abbrev joined : List Factory
  joined = factory_of node service ∷ all

  -- as many as with the factory among them
  as-joined : (table : Contents) → Owned (one_more service.number node (counts all)) table → Owned (counts joined) table
  as-joined table one = loosened (one_more service.number node (counts all)) (counts joined) table (λ number by. omega arith) one

  entrance-owned : (hash : ServiceHash) → Went SteppedSight old (OpenSegment hash service.number node opening.Registered ∷ []) new
      → Owned (counts joined) new.table
  entrance-owned hash (mid, opens, end)
      = subst (λ s. Owned (counts joined) s.table) (sym end)
      (as-joined mid.table (owned-opening (counts all) hash service.number node s.mid mid.table before s.sight))
    where
      s : Seen hash (OpenSegment hash service.number node opening.Registered) old mid
      s = seen hash (OpenSegment hash service.number node opening.Registered) _ old mid registered-not-lacking opens

      before : Owned (counts all) s.mid
      before = acts-keep (λ t. Owned (counts all) t) (owned-step (counts all)) hash (next_list old.lists) old.table s.mid s.happened o
          s.acts

  publication-owned : (hash : ServiceHash) (room : ℕ) (bytes : List ℕ)
      → Went SteppedSight old (MakeSegment hash service.number node room making.Made
      ∷ Publish hash service.number bytes publishing.Published ∷ []) new → Owned (counts joined) new.table
  publication-owned hash room bytes (first, made, (second, published, end)) =
      subst (λ s. Owned (counts joined) s.table) (sym end)
      (as-joined second.table (owned-publication (counts all) hash service.number node making-it.max_nodes bytes first.table
      second.table before making-it.locked making-it.made sight))
    where
      m : Seen hash (MakeSegment hash service.number node room making.Made) old first
      m = seen hash (MakeSegment hash service.number node room making.Made) _ old first made-not-lacking made

      before : Owned (counts all) first.table
      before = stepped-keeps (λ t. Owned (counts all) t) (owned-step (counts all)) (λ a. Calm a) (owned-access (counts all))
          (MakeSegment hash service.number node room making.Made) old first (tt, λ at by. refl) o made

      making-it : IsMaking hash service.number node first.table
      making-it = made-making hash service.number node room m.mid first.table m.sight

      p : Seen hash (Publish hash service.number bytes publishing.Published) first second
      p = seen hash (Publish hash service.number bytes publishing.Published) _ first second published-not-lacking published

      sight : Sight first.table (Publish hash service.number bytes publishing.Published) second.table
      sight = subst (λ t. Sight t (Publish hash service.number bytes publishing.Published) second.table)
          (acts-idle hash node service.number (next_list first.lists) first.table p.mid p.happened making-it.locked p.acts) p.sight

  last-owned : (made : List Access) → Last node service.number made → Went SteppedSight old made new → Owned (counts joined) new.table
  last-owned made (Entrance hash is) went = entrance-owned hash (subst (λ m. Went SteppedSight old m new) is went)
  last-owned made (Publication hash room bytes is) went
      = publication-owned hash room bytes (subst (λ m. Went SteppedSight old m new) is went)

-- the factories that are open after a call with this service
abbrev with_won : ℕ → Option Opened → List Factory → List Factory
with_won node None all = all
with_won node (Some service) all = factory_of node service ∷ all

gains-owned : (all : List Factory) (node : ℕ) (service : Option Opened) (made : List Access) (old new : Steps) → Gains node service made
    → Owned (counts all) old.table → Went SteppedSight old made new
    → Owned (counts (with_won node service all)) new.table
gains-owned all node None made old new g o went = calm-keeps all made old new g o went
gains-owned all node (Some service) made old new g o went =
    let split = went-split SteppedSight g.front g.last old new (subst (λ m. Went SteppedSight old m new) g.is went) in
    last-owned all node service split.0 new (calm-keeps all g.front old split.0 g.calm o split.1) g.last g.ends split.2

-- ---- a leave

among-own : (f : Factory) (front back : List Factory) → IsAmong f (front ++ (f ∷ back))
among-own f [] back = inl refl
among-own f (x ∷ front) back = inr (among-own f front back)

module _ (front back : List Factory) (f : Factory) (old new : Contents) (answer : LeaveAnswer) (w : World (front ++ (f ∷ back)) old)
    (o : Owned (counts (front ++ (f ∷ back))) old)
    (sight : Sight old (Leave f.agreed.service_hash f.number f.node answer) new) where
  abbrev hash : ServiceHash
  hash = f.agreed.service_hash

  own : Stands (front ++ (f ∷ back)) old f
  own = w.stand f (among-own f front back)

  is_open : IsOpenIn f.agreed.service_hash f.number f.node own.bytes old
  is_open = own.is_open

  -- the others are as many as before, and of its own there is one less
  others-same : (number node : ℕ) → is_of number node f ≡ false
      → times number node (front ++ (f ∷ back)) ≡ times number node (front ++ back)
  others-same number node isnt =
      let all = times-with number node front back f in
      let none : times number node (front ++ (f ∷ back)) ≡ 0 + times number node (front ++ back)
      = subst (λ b. times number node (front ++ (f ∷ back)) ≡ cond b 1 0 + times number node (front ++ back)) isnt all in
      omega (arith, none)

  own-less : times f.number f.node (front ++ (f ∷ back)) - 1 ≡ times f.number f.node (front ++ back)
  own-less =
      let all = times-with f.number f.node front back f in
      let itself : is_of f.number f.node f ≡ true = grind arith in
      let more : times f.number f.node (front ++ (f ∷ back)) ≡ 1 + times f.number f.node (front ++ back)
      = subst (λ b. times f.number f.node (front ++ (f ∷ back)) ≡ cond b 1 0 + times f.number f.node (front ++ back)) itself all in
      omega (arith, more)

  left-bounded : (node : ℕ) → IsBelow (factories_of (left f.node is_open.nodes) node) (times f.number node (front ++ back))
  left-bounded node = by_number f.node node same apart
    where
      before : (by : ℕ) → IsBelow (factories_of is_open.nodes by) (times f.number by (front ++ (f ∷ back)))
      before by = o.bounded f.agreed.service_hash f.number own.bytes is_open.nodes by is_open.published is_open.stands

      same : f.node ≡ node → IsBelow (factories_of (left f.node is_open.nodes) node) (times f.number node (front ++ back))
      same is = subst (λ n. IsBelow (factories_of (left f.node is_open.nodes) n) (times f.number n (front ++ back))) is
          (subst (λ l. IsBelow (factories_of (left f.node is_open.nodes) f.node) l) own-less
          (left-own f.node (times f.number f.node (front ++ (f ∷ back))) is_open.nodes
          (seat-found f.agreed.service_hash old w.is f.number (Open is_open.nodes) is_open.stands) (before f.node)))

      apart : f.node ≢ node → IsBelow (factories_of (left f.node is_open.nodes) node) (times f.number node (front ++ back))
      apart differ =
          let others = (taken f.node is_open.nodes
          (seat-found f.agreed.service_hash old w.is f.number (Open is_open.nodes) is_open.stands)).others node (λ e. differ (sym e)) in
          let isnt : is_of f.number node f ≡ false = not-of differ in
          rw others (subst (λ l. IsBelow (factories_of is_open.nodes node) l) (others-same f.number node isnt) (before node))
        where
          not-of : f.node ≢ node → is_of f.number node f ≡ false
          not-of differ = by_test (is_of f.number node f) (λ is. absurd (differ (grind (arith, is)))) (λ isnt. isnt)

  here : (b : Bool) → new ≡ with_segment f.agreed.service_hash f.number (closed_if b (Own f.node) (left f.node is_open.nodes)) old
      → (number : ℕ) → BoundedAt (counts (front ++ back)) f.agreed.service_hash number new
  here true is number bytes nodes node published stands
      = absurd (differ (sym seat ∙ ap (λ n. segment_at f.agreed.service_hash n new) same ∙ stands))
    where
      entry : entry_at f.agreed.service_hash new ≡ Some (Described f.number own.bytes)
      entry = subst (λ t. entry_at f.agreed.service_hash t ≡ Some (Described f.number own.bytes)) (sym is) is_open.published

      numbers : Some (Described f.number own.bytes) ≡ Some (Described number bytes) → f.number ≡ number
      numbers e = cc

      same : f.number ≡ number
      same = numbers (sym entry ∙ published)

      seat : segment_at f.agreed.service_hash f.number new ≡ Some (Emptied (Own f.node))
      seat = subst (λ t. segment_at f.agreed.service_hash f.number t ≡ Some (Emptied (Own f.node))) (sym is)
          (lookup-set (is_at (place_cmp (f.agreed.service_hash.digest, f.number))) old.segments (Emptied (Own f.node))
          (rw is_open.stands refl))

      differ : Some (Emptied (Own f.node)) ≡ Some (Open nodes) → ⊥
      differ e = cc
  here false is number bytes nodes node published stands
      = subst (λ n. IsBelow (factories_of nodes node) (times n node (front ++ back))) same
      (subst (λ k. IsBelow (factories_of k node) (times f.number node (front ++ back)))
      (opened-as (sym seat ∙ ap (λ n. segment_at f.agreed.service_hash n new) same ∙ stands)) (left-bounded node))
    where
      entry : entry_at f.agreed.service_hash new ≡ Some (Described f.number own.bytes)
      entry = subst (λ t. entry_at f.agreed.service_hash t ≡ Some (Described f.number own.bytes)) (sym is) is_open.published

      numbers : Some (Described f.number own.bytes) ≡ Some (Described number bytes) → f.number ≡ number
      numbers e = cc

      same : f.number ≡ number
      same = numbers (sym entry ∙ published)

      seat : segment_at f.agreed.service_hash f.number new ≡ Some (Open (left f.node is_open.nodes))
      seat = subst (λ t. segment_at f.agreed.service_hash f.number t ≡ Some (Open (left f.node is_open.nodes))) (sym is)
          (lookup-set (is_at (place_cmp (f.agreed.service_hash.digest, f.number))) old.segments (Open (left f.node is_open.nodes))
          (rw is_open.stands refl))

      opened-as : Some (Open (left f.node is_open.nodes)) ≡ Some (Open nodes) → left f.node is_open.nodes ≡ nodes
      opened-as e = cc

  -- under another hash stands a service of another number
  apart : (other : ServiceHash) (number : ℕ) → f.agreed.service_hash.digest ≢ other.digest
      → BoundedAt (counts (front ++ back)) other number new
  apart other number differ bytes nodes node published stands =
      subst (λ l. IsBelow (factories_of nodes node) l)
      (others-same number node (by_test (is_of number node f) (λ is. absurd (another (grind (arith, is)))) (λ isnt. isnt)))
      (o.bounded other number bytes nodes node (sym e.entry ∙ published) (sym (e.segment number) ∙ stands))
    where
      e : IsElsewhere other old new
      e = elsewhere f.agreed.service_hash other differ old new (Accesses (Leave f.agreed.service_hash f.number f.node answer))
          (changes old new (Accesses (Leave f.agreed.service_hash f.number f.node answer)) sight)

      another : f.number ≡ number → ⊥
      another same = differ (ap (λ h. h.digest)
          (number-hash old f.agreed.service_hash other f.number number own.bytes bytes w.is is_open.published
          (sym e.entry ∙ published) same))

  pub leave-owned : Owned (counts (front ++ back)) new
  leave-owned = record {
    is = sees old new w.is (Leave f.agreed.service_hash f.number f.node answer) sight;
    bounded = λ other number. by_hash f.agreed.service_hash other
        (λ same. subst (λ h. BoundedAt (counts (front ++ back)) h number new) same
        (here _ (leaves f.agreed.service_hash f.number f.node own.bytes old w.is is_open answer new sight).is number))
        (λ differ. apart other number differ);
  }

-- ---- calls

closing-owned : (before after : List Factory) (factory : Factory) (result : Result (Unit {0}) CloseError) (made : List Access)
    (old new : Steps) → World (before ++ (factory ∷ after)) old.table → Owned (counts (before ++ (factory ∷ after))) old.table
    → Closes factory.agreed.service_hash factory.number factory.node made result → Went SteppedSight old made new
    → Owned (counts (before ++ after)) new.table
closing-owned before after factory result (Leave under of by answer ∷ rest) old new w o (own, same, who, goes) (mid, stepped, went) =
    let leave = subst (λ d. SteppedSight old (Leave factory.agreed.service_hash factory.number d answer) mid) who
    (subst (λ n. SteppedSight old (Leave factory.agreed.service_hash n by answer) mid) same
    (subst (λ h. SteppedSight old (Leave h of by answer) mid) own stepped)) in
    calm-keeps (before ++ after) rest mid new (leave-goes-calm factory.agreed.service_hash factory.number answer rest result goes)
    (leave-owned before after factory old.table mid.table answer w o leave.0) went
closing-owned before after factory result made old new w o told went = absurd told

-- each open factory stands, and no other is registered
pub record Exact (all : List Factory) (table : Contents) : Type 0 where
  pub world : World all table
  pub owned : Owned (counts all) table

won-is : {F : Type 0} (node : ℕ) (result : Result Opened F) (all : List Factory)
    → with_won node (won result) all ≡ opened_too node result all
won-is node (Ok service) all = refl
won-is node (Err failure) all = refl

opens-owned : {F : Type 0} (node : ℕ) (result : Result Opened F) (all : List Factory) (made : List Access) (old new : Contents)
    (lists : _) (end : Steps) → Gains node (won result) made → Owned (counts all) old
    → Went SteppedSight (record { table = old; lists = lists }) made end → new ≡ end.table → Owned (counts (opened_too node result all)) new
opens-owned node result all made old new lists end g o went is =
    subst (λ t. Owned (counts (opened_too node result all)) t) (sym is)
    (subst (λ a. Owned (counts a) end.table) (won-is node result all)
    (gains-owned all node (won result) made (record { table = old; lists = lists }) end g o went))

module _ {V : ℕ → Type 0} where
  pub call-owned : (call : Call V) (held : List Factory) (old new : Contents) → Exact held old → MayBegin call held → Goes call old new
      → Owned (counts (open_after call held)) new
  call-owned (Creates node agreed refusal result) held old new x may (lists, end, does, is) =
      opens-owned node result held does.made old new lists end
      (creates-gains agreed.service_hash node agreed refusal does.made result does.told) x.owned does.went is
  call-owned (Opening kind hash node verdict result) held old new x may (lists, end, does, is) =
      opens-owned node result held does.made old new lists end
      (rounds-gains node (OpenRound hash node verdict) (round-gains hash node verdict) _ does.made result does.told) x.owned
      does.went is
  call-owned (Either kind node verdict agreed refusal result) held old new x may (lists, end, does, is) =
      opens-owned node result held does.made old new lists end
      (rounds-gains node (EitherRound agreed.service_hash node verdict agreed refusal)
      (either-gains agreed.service_hash node verdict agreed refusal) _ does.made result does.told) x.owned does.went is
  call-owned (Closing before factory after result) held old new x may (lists, end, does, is) =
      let there : Exact (before ++ (factory ∷ after)) old = subst (λ h. Exact h old) may x in
      subst (λ t. Owned (counts (before ++ after)) t) (sym is)
      (closing-owned before after factory result does.made (record { table = old; lists = lists }) end there.world there.owned
      does.told does.went)
  call-owned (Between hash step) held old new x may (result, acts) = owned-step (counts held) hash step result old new x.owned acts

  called : (calls : List (Call V)) (table new : Contents) (held after : List Factory) → Exact held table
      → Called table held calls new after → Exact after new
  called [] table new held after x h = subst (λ a. Exact a new) (sym h.1) (subst (λ t. Exact held t) (sym h.0) x)
  called (call ∷ calls) table new held after x (may, mid, goes, rest) =
      called calls mid new (open_after call held) after
      (record { world = call-world call held table mid x.world may goes; owned = call-owned call held table mid x may goes }) rest

-- what is at least n and at most n
just : (found : Option ℕ) (count : ℕ) → count ≤ unwrap_or found 0 → IsBelow found count → found ≡ any_of count
just None count most below = at (nat_lt 0 count) refl
  where
    at : (b : Bool) → nat_lt 0 count ≡ b → None ≡ cond b (Some count) None
    at true some = absurd (grind (arith, some, most))
    at false none = refl
just (Some found) count most below = at (nat_lt 0 count) refl
  where
    at : (b : Bool) → nat_lt 0 count ≡ b → Some found ≡ cond b (Some count) None
    at true some = let upper = below.1 in let same : found ≡ count = omega (arith, most, upper) in ap (λ n. Some n) same
    at false none = let one = below.0 in let upper = below.1 in absurd (grind (arith, none, one, upper))

pub exactly : (all : List Factory) (table : Contents) → Exact all table → AreCounted all table
exactly all table x hash number node bytes nodes published stands =
    just (factories_of nodes node) (times number node all)
    (times-bounded all table hash number node bytes nodes x.world.is x.world.stand published stands)
    (x.owned.bounded hash number bytes nodes node published stands)

pub exact-after : {V : ℕ → Type 0} (id : ℕ) (calls : List (Call V)) (table : Contents) (held : List Factory)
    → Called (empty_table id) [] calls table held → Exact held table
exact-after id calls table held happened
    = called calls (empty_table id) table [] held (record { world = fresh-world id; owned = new-owned (counts []) id }) happened

pub factories-counted : (V : ℕ → Type 0) → FactoriesAreCounted V
factories-counted V id calls table held happened = exactly held table (exact-after id calls table held happened)
