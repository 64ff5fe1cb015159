-- The segment of each service that is published has room for the agreed number of nodes.
use Rattle.std.proofs.Common.{◌≡◌, ◌≢◌, ℕ, Bool, true, false, List, None, Some, Result, refl, sym, ap, subst, ◌∙◌, inl, inr}
use Rattle.std.specs.declared.alloc.AllocError.{AllocError}
use Rattle.std.specs.BTreeMap.{is_at}
use Rattle.iox_negotiate_table.specs.DescribeBase.declared.hash.ServiceHash.{ServiceHash}
use Rattle.iox_negotiate_table.specs.DescribeSettings.Agreement.{Agreement, max_nodes_of}
use Rattle.iox_negotiate_table.specs.Describe.Line.{line, Spells}
use Rattle.iox_negotiate_table.specs.DescribeSettings.declared.description.Version.TheVariants.{Two}
use Rattle.iox_negotiate_table.specs.Describe.Within.{IsWithinLimits}
use Rattle.iox_negotiate_table.specs.NegotiateBase.Access.{Access, MakeSegment, Publish}
use Rattle.iox_negotiate_table.specs.NegotiateBase.declared.answer.MakeSegmentAnswer.TheVariants as making
use Rattle.iox_negotiate_table.specs.NegotiateBase.declared.answer.PublishAnswer.TheVariants as publishing
use Rattle.iox_negotiate_table.specs.declared.node.Node.{Node}
use Rattle.iox_negotiate_table.specs.declared.node.Node.TheVariants.{Own, Foreign}
use Rattle.iox_negotiate_table.specs.declared.entry.Entry.TheVariants.{Locked, Described}
use Rattle.iox_negotiate_table.specs.declared.segment.Segment.{Segment}
use Rattle.iox_negotiate_table.specs.declared.segment.Segment.TheVariants.{Open, Emptied}
use Rattle.iox_negotiate_table.specs.declared.step.ForeignStep.{ForeignStep}
use Rattle.iox_negotiate_table.specs.declared.step.ForeignStep.TheVariants as step
use Rattle.iox_negotiate_table.specs.Nodes.{Nodes, first_node, first_foreign}
use Rattle.iox_negotiate_table.specs.Contents.{Contents, empty_table, entry_at, segment_at, digest_cmp, place_cmp, may_publish}
use Rattle.iox_negotiate_table.specs.Foreign.{Acts}
use Rattle.iox_negotiate_table.specs.Sights.{Sight, Publishes}
use Rattle.iox_negotiate_table.specs.Stepped.{Steps, next_list, SteppedSight}
use Rattle.iox_negotiate_table.proofs.Entries.{lookup-set, lookup-added}
use Rattle.iox_negotiate.specs.Histories.{Event, Accesses, Steps as StepsUnder}
use Rattle.iox_negotiate.specs.Lives.{PublishesAs}
use Rattle.iox_negotiate.proofs.Maps.{set-apart, remove-apart}
use Rattle.iox_negotiate.proofs.Tables.{IsTable, sees, acts, new-table, digest-self}
use Rattle.iox_negotiate.proofs.Rooms.{SameRoom, line-room}
use Rattle.iox_negotiate.proofs.Changes.{Change, Same, LockOf, Without, PublishOf, NewSegment, OfSegment, WithoutSegment, ServiceOf}
use Rattle.iox_negotiate.proofs.Changes.{Removal, changes, hash_of, by_hash, elsewhere, same-place, place-apart}
use Rattle.iox_negotiate.proofs.Lives.{not-locked, not-none}
use Rattle.iox_negotiate.proofs.Held.{by_number}
use Rattle.iox_negotiate.proofs.Closing.{entry-gone, segment-gone}
use Rattle.iox_negotiate.proofs.Standing.{IsMaking, made-making, made-seat}
use Rattle.iox_negotiate.proofs.Stepping.{stepped-keeps, Seen, seen, acts-idle}
use Rattle.iox_negotiate.proofs.Ending.{made-not-lacking, published-not-lacking}

-- the segment of this service has room for the agreed number of nodes
abbrev pub HasRoomAt : ServiceHash → ℕ → Contents → Type 0
HasRoomAt hash number table = (agreed : Agreement) (nodes : Nodes) (bytes : List ℕ) → Spells bytes agreed
    → entry_at hash table ≡ Some (Described number bytes) → IsWithinLimits agreed → segment_at hash number table ≡ Some (Open nodes)
    → nodes.max_nodes ≡ max_nodes_of agreed.settings

pub record Roomy (table : Contents) : Type 0 where
  pub is : IsTable table
  pub rooms : (hash : ServiceHash) (number : ℕ) → HasRoomAt hash number table

-- a storage operation that publishes nothing
abbrev pub Unpublishing : Access → Type 0
Unpublishing (Publish hash number bytes publishing.Published) = ⊥
Unpublishing access = Unit {0}

abbrev pub UnpublishingEvent : Event → Type 0
UnpublishingEvent (Accesses access) = Unpublishing access
UnpublishingEvent (StepsUnder hash step) = Unit {0}

pub no-publish : (hash : ServiceHash) (number node : ℕ) (bytes : List ℕ) (old : Contents) (event : Event) → UnpublishingEvent event
    → entry_at hash old ≡ Some (Locked (Own node) number) → PublishesAs hash number bytes old event → ⊥
no-publish hash number node bytes old (Accesses (Publish under of text publishing.Published)) un locked by = un
no-publish hash number node bytes old (Accesses (Publish under of text publishing.Fault)) un locked by = differ by.5
  where
    differ : publishing.Fault ≡ publishing.Published → ⊥
    differ e = cc
no-publish hash number node bytes old (Accesses (Publish under of text publishing.OutOfMemory)) un locked by = differ by.5
  where
    differ : publishing.OutOfMemory ≡ publishing.Published → ⊥
    differ e = cc
no-publish hash number node bytes old (StepsUnder under (step.Publish by_node agreed)) un locked by = differ (sym locked ∙ by.0)
  where
    differ : Some (Locked (Own node) number) ≡ Some (Locked (Foreign by_node) number) → ⊥
    differ e = cc
no-publish hash number node bytes old (StepsUnder under (step.PublishV1 by_node agreed)) un locked by = differ (sym locked ∙ by.0)
  where
    differ : Some (Locked (Own node) number) ≡ Some (Locked (Foreign by_node) number) → ⊥
    differ e = cc
no-publish hash number node bytes old event un locked by = by

pub open-is : (segment : Segment) (nodes : Nodes) → Some segment ≡ Some (Open nodes) → segment ≡ Open nodes
open-is segment nodes e = cc

-- the nodes of a segment that kept its room
before-room : (before : Segment) (nodes : Nodes) → SameRoom before (Open nodes) → (was : Nodes) × (before ≡ Open was)
    × (nodes.max_nodes ≡ was.max_nodes)
before-room (Open was) nodes same = (was, refl, same)
before-room (Emptied by) nodes same = absurd same

module _ (hash : ServiceHash) (number : ℕ) (old new : Contents) (is : IsTable old) (event : Event) (un : UnpublishingEvent event)
    (room : HasRoomAt hash number old) where
  -- where the entry is as it was, or not a description
  not-described : (node : Node) (at : ℕ) → entry_at hash new ≡ Some (Locked node at) → HasRoomAt hash number new
  not-described node at locked agreed nodes bytes spells published within stands
      = absurd (not-locked node at number bytes (sym locked ∙ published))

  no-entry : entry_at hash new ≡ None → HasRoomAt hash number new
  no-entry gone agreed nodes bytes spells published within stands = absurd (not-none number bytes (sym gone ∙ published))

  kept-here : Change event hash old new → HasRoomAt hash number new
  kept-here (Same same) agreed nodes bytes spells published within stands
      = (subst (λ t. HasRoomAt hash number t) (sym same) room) agreed nodes bytes spells published within stands
  kept-here (LockOf node free same) agreed nodes bytes spells published within stands
      = (not-described node old.next (rw same
      (lookup-added digest_cmp hash.digest (Locked node old.next) old.entries (digest-self hash.digest)))) agreed nodes bytes spells
      published within stands
  kept-here (Without same) agreed nodes bytes spells published within stands
      = (no-entry (rw same (entry-gone hash old is))) agreed nodes bytes spells published within stands
  kept-here (PublishOf node at text locked by same) agreed nodes bytes spells published within stands
      = absurd (no-publish hash at node text old event un locked by)
  kept-here (NewSegment at node segment locked same) agreed nodes bytes spells published within stands
      = (not-described (Own node) at (rw same locked)) agreed nodes bytes spells published within stands
  kept-here (OfSegment at before segment stood kept turns same) agreed nodes bytes spells published within stands
      = by_number at number here there
    where
      entry : entry_at hash old ≡ Some (Described number bytes)
      entry = subst (λ t. entry_at hash t ≡ Some (Described number bytes)) same published

      there : at ≢ number → nodes.max_nodes ≡ max_nodes_of agreed.settings
      there differ = room agreed nodes bytes spells entry within
          (sym (set-apart (is_at (place_cmp (hash.digest, at))) (is_at (place_cmp (hash.digest, number)))
          (place-apart (hash.digest, at) (hash.digest, number) (λ e. differ (ap (λ p. p.1) e))) old.segments segment)
          ∙ subst (λ t. segment_at hash number t ≡ Some (Open nodes)) same stands)

      here : at ≡ number → nodes.max_nodes ≡ max_nodes_of agreed.settings
      here is_it =
          let found : segment_at hash at new ≡ Some segment
          = rw same (lookup-set (is_at (place_cmp (hash.digest, at))) old.segments segment (rw stood refl)) in
          let segment_is : segment ≡ Open nodes = open-is segment nodes (sym found ∙ ap (λ n. segment_at hash n new) is_it ∙ stands) in
          let was = before-room before nodes (subst (λ s. SameRoom before s) segment_is kept) in
          was.2 ∙ room agreed was.0 bytes spells entry within (sym (ap (λ n. segment_at hash n old) is_it) ∙ stood ∙ ap (λ s. Some s) was.1)
  kept-here (WithoutSegment at same) agreed nodes bytes spells published within stands = by_number at number here there
    where
      there : at ≢ number → nodes.max_nodes ≡ max_nodes_of agreed.settings
      there differ = room agreed nodes bytes spells (subst (λ t. entry_at hash t ≡ Some (Described number bytes)) same published) within
          (sym (remove-apart (is_at (place_cmp (hash.digest, at))) (is_at (place_cmp (hash.digest, number)))
          (place-apart (hash.digest, at) (hash.digest, number) (λ e. differ (ap (λ p. p.1) e))) old.segments)
          ∙ subst (λ t. segment_at hash number t ≡ Some (Open nodes)) same stands)

      gone-not : None ≡ Some (Open nodes) → ⊥
      gone-not e = cc

      here : at ≡ number → nodes.max_nodes ≡ max_nodes_of agreed.settings
      here is_it =
          let gone : segment_at hash at new ≡ None = rw same (segment-gone hash at old is) in
          absurd (gone-not (sym gone ∙ ap (λ n. segment_at hash n new) is_it ∙ stands))
  kept-here (ServiceOf version node at given locked by own same) agreed nodes bytes spells published within stands =
      let found : entry_at hash new ≡ Some (Described at (line version given))
      = rw same (lookup-set (is_at (digest_cmp hash.digest)) old.entries (Described at (line version given)) (rw locked refl)) in
      let is_it : at ≡ number = numbers (sym found ∙ published) in
      let lines : line version given ≡ bytes = texts (sym found ∙ published) in
      let seat : segment_at hash at new ≡ Some (Open (first_foreign node (max_nodes_of given.settings)))
      = rw same (lookup-added place_cmp (hash.digest, at) (Open (first_foreign node (max_nodes_of given.settings))) old.segments
      (same-place (hash.digest, at))) in
      widths (sym seat ∙ ap (λ n. segment_at hash n new) is_it ∙ stands)
      ∙ line-room given agreed (line version given) bytes own.0 within (version, own.3, refl) spells lines
    where
      numbers : Some (Described at (line version given)) ≡ Some (Described number bytes) → at ≡ number
      numbers e = cc

      texts : Some (Described at (line version given)) ≡ Some (Described number bytes) → line version given ≡ bytes
      texts e = cc

      opened-as : Some (Open (first_foreign node (max_nodes_of given.settings))) ≡ Some (Open nodes)
          → first_foreign node (max_nodes_of given.settings) ≡ nodes
      opened-as e = cc

      widths : Some (Open (first_foreign node (max_nodes_of given.settings))) ≡ Some (Open nodes)
          → nodes.max_nodes ≡ max_nodes_of given.settings
      widths e = sym (ap (λ n. n.max_nodes) (opened-as e))
  kept-here (Removal at same) agreed nodes bytes spells published within stands
      = (no-entry (rw same (entry-gone hash old is))) agreed nodes bytes spells published within stands

-- what lies elsewhere has the room that it had
kept-there : (hash other : ServiceHash) (number : ℕ) (old new : Contents) (event : Event) → hash.digest ≢ other.digest
    → Change event hash old new → HasRoomAt other number old → HasRoomAt other number new
kept-there hash other number old new event differ change room agreed nodes bytes spells published within stands =
    let e = elsewhere hash other differ old new event change in room agreed nodes bytes spells (sym e.entry ∙ published) within
    (sym (e.segment number) ∙ stands)

event-rooms : (event : Event) (hash : ServiceHash) (old new : Contents) → Roomy old → UnpublishingEvent event
    → Change event hash old new → (other : ServiceHash) (number : ℕ) → HasRoomAt other number new
event-rooms event hash old new roomy un change other number = by_hash hash other
    (λ same. kept-here other number old new roomy.is event un (roomy.rooms other number) (subst (λ h. Change event h old new) same change))
    (λ differ. kept-there hash other number old new event differ change (roomy.rooms other number))

pub roomy-step : (hash : ServiceHash) (step : ForeignStep) (result : Result (Unit {0}) AllocError) (old new : Contents) → Roomy old
    → Acts hash step old result new → Roomy new
roomy-step hash step result old new roomy h = record {
  is = acts old new roomy.is hash step result h;
  rooms = event-rooms (StepsUnder hash step) hash old new roomy tt (changes old new (StepsUnder hash step) (result, h));
}

pub roomy-access : (access : Access) (old new : Contents) → Unpublishing access → Roomy old → Sight old access new → Roomy new
roomy-access access old new un roomy h = record {
  is = sees old new roomy.is access h;
  rooms = event-rooms (Accesses access) (hash_of (Accesses access)) old new roomy un (changes old new (Accesses access) h);
}

pub new-roomy : (id : ℕ) → Roomy (empty_table id)
new-roomy id = record
    { is = new-table id; rooms = λ hash number agreed nodes bytes spells published within stands. absurd (not-none number bytes published) }

-- ---- a publication right after the segment was made

module _ (agreed : Agreement) (number node : ℕ) (within : IsWithinLimits agreed) where
  abbrev hash : ServiceHash
  hash = agreed.service_hash

  abbrev seat : Segment
  seat = Open (first_node node (max_nodes_of agreed.settings))

  publish-rooms : (old new : Contents) → Roomy old → entry_at hash old ≡ Some (Locked (Own node) number)
      → segment_at hash number old ≡ Some seat → Sight old (Publish hash number (line Two agreed) publishing.Published) new
      → (other : ServiceHash) (n : ℕ) → HasRoomAt other n new
  publish-rooms old new roomy locked made sight other n = by_hash hash other
      (λ same. subst (λ h. HasRoomAt h n new) same (here (may_publish hash number old) sight n))
      (λ differ. kept-there hash other n old new (Accesses (Publish hash number (line Two agreed) publishing.Published)) differ
      (changes old new (Accesses (Publish hash number (line Two agreed) publishing.Published)) sight) (roomy.rooms other n))
    where
      here : (b : Bool) → Publishes b hash number (line Two agreed) old publishing.Published new → (n : ℕ) → HasRoomAt hash n new
      here true (inl h) n given nodes bytes spells published given-within stands =
          let found : entry_at hash new ≡ Some (Described number (line Two agreed))
          = rw h.1 (lookup-set (is_at (digest_cmp hash.digest)) old.entries (Described number (line Two agreed)) (rw locked refl)) in
          let is_it : number ≡ n = numbers (sym found ∙ published) in
          let lines : line Two agreed ≡ bytes = texts (sym found ∙ published) in
          let seat-now : segment_at hash number new ≡ Some seat = rw h.1 made in
          widths (sym seat-now ∙ ap (λ k. segment_at hash k new) is_it ∙ stands)
          ∙ line-room agreed given (line Two agreed) bytes within given-within (Two, tt, refl) spells lines
        where
          numbers : Some (Described number (line Two agreed)) ≡ Some (Described n bytes) → number ≡ n
          numbers e = cc

          texts : Some (Described number (line Two agreed)) ≡ Some (Described n bytes) → line Two agreed ≡ bytes
          texts e = cc

          opened-as : Some (Open (first_node node (max_nodes_of agreed.settings))) ≡ Some (Open nodes)
              → first_node node (max_nodes_of agreed.settings) ≡ nodes
          opened-as e = cc

          widths : Some (Open (first_node node (max_nodes_of agreed.settings))) ≡ Some (Open nodes)
              → nodes.max_nodes ≡ max_nodes_of agreed.settings
          widths e = sym (ap (λ k. k.max_nodes) (opened-as e))
      here true (inr h) n given nodes bytes spells published given-within stands = absurd (differ h.0)
        where
          differ : publishing.Published ≡ publishing.OutOfMemory → ⊥
          differ e = cc
      here false h n given nodes bytes spells published given-within stands = absurd (differ h.0)
        where
          differ : publishing.Published ≡ publishing.Fault → ⊥
          differ e = cc

  pub pair-roomy : (old mid new : Steps) → Roomy old.table
      → SteppedSight old (MakeSegment agreed.service_hash number node (max_nodes_of agreed.settings) making.Made) mid
      → SteppedSight mid (Publish agreed.service_hash number (line Two agreed) publishing.Published) new → Roomy new.table
  pair-roomy old mid new roomy made published
      = record {
        is = sees mid.table new.table w1.is (Publish hash number (line Two agreed) publishing.Published) sight;
        rooms
            = publish-rooms mid.table new.table w1 making-it.locked seat-is sight;
      }
    where
      w1 : Roomy mid.table
      w1 = stepped-keeps (λ t. Roomy t) roomy-step (λ a. Unpublishing a) roomy-access
          (MakeSegment hash number node (max_nodes_of agreed.settings) making.Made) old mid tt roomy made

      m : Seen hash (MakeSegment hash number node (max_nodes_of agreed.settings) making.Made) old mid
      m = seen hash (MakeSegment hash number node (max_nodes_of agreed.settings) making.Made) _ old mid made-not-lacking made

      making-it : IsMaking hash number node mid.table
      making-it = made-making hash number node (max_nodes_of agreed.settings) m.mid mid.table m.sight

      seat-is : segment_at hash number mid.table ≡ Some seat
      seat-is = made-seat hash number node (max_nodes_of agreed.settings) m.mid mid.table m.sight

      p : Seen hash (Publish hash number (line Two agreed) publishing.Published) mid new
      p = seen hash (Publish hash number (line Two agreed) publishing.Published) _ mid new published-not-lacking published

      sight : Sight mid.table (Publish hash number (line Two agreed) publishing.Published) new.table
      sight = subst (λ t. Sight t (Publish hash number (line Two agreed) publishing.Published) new.table)
          (acts-idle hash node number (next_list mid.lists) mid.table p.mid p.happened making-it.locked p.acts) p.sight
