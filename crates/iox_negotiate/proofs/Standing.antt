-- Open factories stay valid whatever happens; an opening or a publication adds one, and a leave removes one.
use Rattle.std.proofs.Common.{◌≡◌, ◌≢◌, ℕ, ◌+◌, ◌-◌, ◌≤◌, Bool, true, false, cond, not, ◌&&◌, List, [], ◌∷◌, ◌++◌, Option, None, Some}
use Rattle.std.proofs.Common.{IsSome, is_some, Result, nat_eq, refl, sym, ap, subst, ◌∙◌, ◌⊎◌, ⊎_elim, inl, inr, unwrap_or, arith}
use Rattle.std.specs.declared.alloc.AllocError.{AllocError}
use Rattle.std.specs.Ordering.{nat_cmp}
use Rattle.std.specs.Cmp.{nat_cmp_total}
use Rattle.std.specs.BTreeMap.{is_at}
use Rattle.iox_negotiate_table.specs.DescribeBase.declared.hash.ServiceHash.{ServiceHash}
use Rattle.iox_negotiate_table.specs.Describe.Line.{line, Spells}
use Rattle.iox_negotiate_table.specs.DescribeSettings.declared.description.Version.TheVariants.{Two}
use Rattle.iox_negotiate_table.specs.NegotiateBase.Access.{Access, MakeSegment, Publish, OpenSegment, Leave}
use Rattle.iox_negotiate_table.specs.NegotiateBase.declared.answer.OpenSegmentAnswer.TheVariants as opening
use Rattle.iox_negotiate_table.specs.NegotiateBase.declared.answer.MakeSegmentAnswer.TheVariants as making
use Rattle.iox_negotiate_table.specs.NegotiateBase.declared.answer.PublishAnswer.TheVariants as publishing
use Rattle.iox_negotiate_table.specs.NegotiateBase.declared.answer.LeaveAnswer.{LeaveAnswer}
use Rattle.iox_negotiate_table.specs.declared.node.Node.TheVariants.{Own}
use Rattle.iox_negotiate_table.specs.declared.entry.Entry.TheVariants.{Locked, Described}
use Rattle.iox_negotiate_table.specs.declared.segment.Segment.{Segment}
use Rattle.iox_negotiate_table.specs.declared.segment.Segment.TheVariants.{Open, Emptied}
use Rattle.iox_negotiate_table.specs.declared.step.ForeignStep.{ForeignStep}
use Rattle.iox_negotiate_table.specs.Nodes.{Nodes, factories_of, first_node, Enters}
use Rattle.iox_negotiate_table.specs.Segments.{Opens}
use Rattle.iox_negotiate_table.specs.Contents.{Contents, entry_at, segment_at, with_segment, digest_cmp, place_cmp, may_make, may_publish}
use Rattle.iox_negotiate_table.specs.Contents.{is_published}
use Rattle.iox_negotiate_table.specs.Foreign.{Acts}
use Rattle.iox_negotiate_table.specs.Sights.{Sight, OpensAt, OpensPublished, Makes, Publishes}
use Rattle.iox_negotiate_table.proofs.Entries.{lookup-set, lookup-added, is-self}
use Rattle.iox_negotiate.specs.Histories.{Accesses, Steps}
use Rattle.iox_negotiate.specs.Factories.{Factory, is_of, times, IsAmong, Stands, AllStand}
use Rattle.iox_negotiate.proofs.Maps.{no, by_test}
use Rattle.iox_negotiate.proofs.Few.{opens-few}
use Rattle.iox_negotiate.proofs.Tables.{lock-of, IsTable, few-found}
use Rattle.iox_negotiate.proofs.Changes.{changes, hash_of, by_hash, elsewhere, same-place}
use Rattle.iox_negotiate.proofs.Lives.{one-life-of}
use Rattle.iox_negotiate.proofs.Held.{IsHeld, IsHeldStill, stays, here, away, leaves-one, entered-same, entered-first, by_number, some-same}

-- ---- counts

pub times-append : (number node : ℕ) (front back : List Factory)
    → times number node (front ++ back) ≡ times number node front + times number node back
times-append number node [] back = omega arith
times-append number node (f ∷ front) back = let rest = times-append number node front back in omega (arith, rest)

-- a factory more among them
pub times-with : (number node : ℕ) (front back : List Factory) (f : Factory)
    → times number node (front ++ (f ∷ back)) ≡ cond (is_of number node f) 1 0 + times number node (front ++ back)
times-with number node front back f =
    let a = times-append number node front (f ∷ back) in
    let b = times-append number node front back in
    omega (arith, a, b)

at-most-one : (b : Bool) → cond b 1 0 ≤ 1
at-most-one true = omega arith
at-most-one false = omega arith

pub is-own : (g : Factory) → is_of g.number g.node g ≡ true
is-own g = grind arith

times-among : (g : Factory) (gs : List Factory) → IsAmong g gs → 1 ≤ times g.number g.node gs
times-among g [] in_it = absurd in_it
times-among g (f ∷ gs) (inl is) = let one : 1 ≤ cond (is_of g.number g.node f) 1 0
    = subst (λ x. 1 ≤ cond (is_of g.number g.node x) 1 0) (sym is) (rw (is-own g) (omega arith)) in omega (arith, one)
times-among g (f ∷ gs) (inr later) = let rest = times-among g gs later in omega (arith, rest)

of-is : (number node : ℕ) (f : Factory) → is_of number node f ≡ true → (f.number ≡ number) × (f.node ≡ node)
of-is number node f is = (grind (arith, is), grind (arith, is))

-- none of them is there, or one of them
some-or-none : (number node : ℕ) (gs : List Factory) → (times number node gs ≡ 0)
    ⊎ ((g : Factory) × IsAmong g gs × (g.number ≡ number) × (g.node ≡ node))
some-or-none number node [] = inl refl
some-or-none number node (f ∷ gs) = by_test (is_of number node f)
    (λ is. inr (f, inl refl, (of-is number node f is).0, (of-is number node f is).1))
    (λ isnt. later isnt (some-or-none number node gs))
  where
    later : is_of number node f ≡ false → (times number node gs ≡ 0)
        ⊎ ((g : Factory) × IsAmong g gs × (g.number ≡ number) × (g.node ≡ node))
        → (cond (is_of number node f) 1 0 + times number node gs ≡ 0)
        ⊎ ((g : Factory) × IsAmong g (f ∷ gs) × (g.number ≡ number) × (g.node ≡ node))
    later isnt (inl none) = let zero : cond (is_of number node f) 1 0 ≤ 0 = rw isnt (omega arith) in inl (omega (arith, zero, none))
    later isnt (inr some) = inr (some.0, inr some.1, some.2, some.3)

pub among-front : (g : Factory) (front back : List Factory) (f : Factory) → IsAmong g (front ++ back) → IsAmong g (front ++ (f ∷ back))
among-front g [] back f in_it = inr in_it
among-front g (x ∷ front) back f (inl is) = inl is
among-front g (x ∷ front) back f (inr later) = inr (among-front g front back f later)

-- ---- a factory stands, with a number of factories

pub record Counted (all : List Factory) (table : Contents) (g : Factory) : Type 0 where
  pub count : ℕ
  pub enough : times g.number g.node all ≤ count
  pub bytes : List ℕ
  pub spelled : Spells bytes g.agreed
  pub held : IsHeld g.agreed.service_hash g.number g.node bytes count table

some-value : (found : Option ℕ) → IsSome found → (value : ℕ) × (found ≡ Some value)
some-value None is = no is
some-value (Some value) is = (value, refl)

pub counted-of : (all : List Factory) (table : Contents) (g : Factory) → Stands all table g → Counted all table g
counted-of all table g s =
    let v = some-value (factories_of s.is_open.nodes g.node) s.is_open.is_in in
    record {
      count = v.0;
      enough = subst (λ f. times g.number g.node all ≤ unwrap_or f 0) v.1 s.counted;
      bytes = s.bytes;
      spelled = s.spelled;
      held = record { nodes = s.is_open.nodes; published = s.is_open.published; stands = s.is_open.stands; has = v.1; few = s.is_open.few };
    }

pub stands-of : (all : List Factory) (table : Contents) (g : Factory) → Counted all table g → Stands all table g
stands-of all table g c = record {
  bytes = c.bytes;
  spelled = c.spelled;
  is_open = record {
    nodes = c.held.nodes;
    published = c.held.published;
    stands = c.held.stands;
    is_in = rw c.held.has refl;
    few
        = c.held.few;
  };
  counted = rw c.held.has c.enough;
}

-- a storage operation that isn't a leave
abbrev pub Quiet : Access → Type 0
Quiet (Leave hash number node answer) = ⊥
Quiet access = Unit {0}

still-counted : (all : List Factory) (old new : Contents) (g : Factory) (c : Counted all old g)
    → IsHeldStill g.agreed.service_hash g.number g.node c.bytes c.count new → Counted all new g
still-counted all old new g c s = let enough = c.enough in let more
    = s.enough in record { count = s.now; enough = omega (arith, enough, more); bytes = c.bytes; spelled = c.spelled; held = s.held }

module _ (all : List Factory) (old new : Contents) (g : Factory) (c : Counted all old g) where
  pub step-counted : (hash : ServiceHash) (step : ForeignStep) (result : Result (Unit {0}) AllocError) → Acts hash step old result new
      → Counted all new g
  step-counted hash step result acts = by_hash hash g.agreed.service_hash
      (λ same. record {
        count = c.count;
        enough = c.enough;
        bytes = c.bytes;
        spelled = c.spelled;
        held
            = stays g.agreed.service_hash g.number g.node c.bytes c.count step old new result c.held
            (subst (λ h. Acts h step old result new) same acts);
      })
      (λ differ. record {
        count = c.count;
        enough = c.enough;
        bytes = c.bytes;
        spelled = c.spelled;
        held
            = away g.agreed.service_hash g.number g.node c.bytes c.count old new c.held
            (elsewhere hash g.agreed.service_hash differ old new (Steps hash step) (changes old new (Steps hash step) (result, acts)));
      })

  access-counted : (access : Access) →
      ((at by : ℕ) (answer : LeaveAnswer) → access ≡ Leave g.agreed.service_hash at by answer → at ≡ g.number → by ≢ g.node)
      → Sight old access new → Counted all new g
  access-counted access other sight = by_hash (hash_of (Accesses access)) g.agreed.service_hash
      (λ same. still-counted all old new g c
      (here g.agreed.service_hash g.number g.node c.bytes c.count old new c.held access same other sight))
      (λ differ. record {
        count = c.count;
        enough = c.enough;
        bytes = c.bytes;
        spelled = c.spelled;
        held
            = away g.agreed.service_hash g.number g.node c.bytes c.count old new c.held
            (elsewhere (hash_of (Accesses access)) g.agreed.service_hash differ old new (Accesses access)
            (changes old new (Accesses access) sight));
      })

  pub quiet-counted : (access : Access) → Quiet access → Sight old access new → Counted all new g
  quiet-counted access quiet sight = access-counted access (λ at by answer is same. absurd (subst (λ a. Quiet a) is quiet)) sight

pub steps-stand : (all : List Factory) (old new : Contents) (hash : ServiceHash) (step : ForeignStep)
    (result : Result (Unit {0}) AllocError) → AllStand all old → Acts hash step old result new → AllStand all new
steps-stand all old new hash step result stand acts g in_it
    = stands-of all new g (step-counted all old new g (counted-of all old g (stand g in_it)) hash step result acts)

pub quiet-stand : (all : List Factory) (old new : Contents) (access : Access) → Quiet access → AllStand all old → Sight old access new
    → AllStand all new
quiet-stand all old new access quiet stand sight g in_it
    = stands-of all new g (quiet-counted all old new g (counted-of all old g (stand g in_it)) access quiet sight)

-- ---- one factory less

abbrev leave_number : Access → ℕ
leave_number (Leave hash number node answer) = number
leave_number access = 0

abbrev leave_node : Access → ℕ
leave_node (Leave hash number node answer) = node
leave_node access = 0

-- those that stay, before the leave
pub fewer-stand : (front back : List Factory) (f : Factory) (table : Contents) → AllStand (front ++ (f ∷ back)) table
    → AllStand (front ++ back) table
fewer-stand front back f table stand g in_it =
    let c = counted-of (front ++ (f ∷ back)) table g (stand g (among-front g front back f in_it)) in
    let all = times-with g.number g.node front back f in
    let enough = c.enough in
    stands-of (front ++ back) table g (record {
      count = c.count;
      enough = omega (arith, all, enough);
      bytes = c.bytes;
      spelled = c.spelled;
      held = c.held;
    })

-- and after it
pub leave-stand : (front back : List Factory) (f : Factory) (old new : Contents) (answer : LeaveAnswer) → AllStand (front ++ (f ∷ back)) old
    → Sight old (Leave f.agreed.service_hash f.number f.node answer) new → AllStand (front ++ back) new
leave-stand front back f old new answer stand sight g in_it
    = stands-of (front ++ back) new g (by_hash f.agreed.service_hash g.agreed.service_hash same-hash apart)
  where
    before : Counted (front ++ (f ∷ back)) old g
    before = counted-of (front ++ (f ∷ back)) old g (stand g (among-front g front back f in_it))

    rest : Counted (front ++ back) old g
    rest = counted-of (front ++ back) old g (fewer-stand front back f old stand g in_it)

    others : ((at by : ℕ) (a : LeaveAnswer) → Leave f.agreed.service_hash f.number f.node answer ≡ Leave g.agreed.service_hash at by a
        → at ≡ g.number → by ≢ g.node) → Counted (front ++ back) new g
    others other = access-counted (front ++ back) old new g rest (Leave f.agreed.service_hash f.number f.node answer) other sight

    apart : f.agreed.service_hash.digest ≢ g.agreed.service_hash.digest → Counted (front ++ back) new g
    apart differ = others (λ at by a is number node. differ (ap (λ h. h.digest) (hash-is at by a is)))
      where
        hash-is : (at by : ℕ) (a : LeaveAnswer)
            → Leave f.agreed.service_hash f.number f.node answer ≡ Leave g.agreed.service_hash at by a
            → f.agreed.service_hash ≡ g.agreed.service_hash
        hash-is at by a is = ap (λ x. hash_of (Accesses x)) is

    same-hash : f.agreed.service_hash ≡ g.agreed.service_hash → Counted (front ++ back) new g
    same-hash hash = by_number f.number g.number
        (λ number. by_number f.node g.node (λ node. same number node)
        (λ differ. others (λ at by a is n d. differ (leave-by at by a is ∙ d))))
        (λ differ. others (λ at by a is n d. differ (leave-at at by a is ∙ n)))
      where
        leave-by : (at by : ℕ) (a : LeaveAnswer)
            → Leave f.agreed.service_hash f.number f.node answer ≡ Leave g.agreed.service_hash at by a → f.node ≡ by
        leave-by at by a is = ap (λ x. leave_node x) is

        leave-at : (at by : ℕ) (a : LeaveAnswer)
            → Leave f.agreed.service_hash f.number f.node answer ≡ Leave g.agreed.service_hash at by a → f.number ≡ at
        leave-at at by a is = ap (λ x. leave_number x) is

        same : f.number ≡ g.number → f.node ≡ g.node → Counted (front ++ back) new g
        same number node =
            let all = times-with g.number g.node front back f in
            let enough = before.enough in
            let own : is_of g.number g.node f ≡ true = grind (arith, number, node) in
            let more : times g.number g.node (front ++ (f ∷ back)) ≡ 1 + times g.number g.node (front ++ back)
            = subst (λ b. times g.number g.node (front ++ (f ∷ back)) ≡ cond b 1 0 + times g.number g.node (front ++ back)) own all in
            let some = times-among g (front ++ back) in_it in
            let sight' : Sight old (Leave g.agreed.service_hash g.number g.node answer) new =
            subst (λ d. Sight old (Leave g.agreed.service_hash g.number d answer) new) node
            (subst (λ n. Sight old (Leave g.agreed.service_hash n f.node answer) new) number
            (subst (λ h. Sight old (Leave h f.number f.node answer) new) hash sight)) in
            record {
              count = before.count - 1;
              enough = omega (arith, more, enough);
              bytes = before.bytes;
              spelled = before.spelled;
              held = leaves-one g.agreed.service_hash g.number g.node before.bytes before.count old new before.held answer
                  (omega (arith, more, enough, some)) sight';
            }

-- ---- one factory more

open-nodes : (one other : Nodes) → Some (Open one) ≡ Some (Open other) → one ≡ other
open-nodes one other e = cc

-- of one node in one service there is one number
same-count : (table : Contents) (h1 h2 : ServiceHash) (n1 n2 d1 d2 : ℕ) (b1 b2 : List ℕ) (c1 c2 : ℕ) → h1 ≡ h2 → n1 ≡ n2 → d1 ≡ d2
    → IsHeld h1 n1 d1 b1 c1 table → IsHeld h2 n2 d2 b2 c2 table → c1 ≡ c2
same-count table h1 h2 n1 n2 d1 d2 b1 b2 c1 c2 hash number node x y =
    let nodes = open-nodes x.nodes y.nodes
    (sym x.stands ∙ ap (λ h. segment_at h n1 table) hash ∙ ap (λ n. segment_at h2 n table) number ∙ y.stands) in
    some-same c1 c2 (sym x.has ∙ ap (λ ns. factories_of ns d1) nodes ∙ ap (λ d. factories_of y.nodes d) node ∙ y.has)

-- of one number there is one hash
pub number-hash : (table : Contents) (h1 h2 : ServiceHash) (n1 n2 : ℕ) (b1 b2 : List ℕ) → IsTable table
    → entry_at h1 table ≡ Some (Described n1 b1) → entry_at h2 table ≡ Some (Described n2 b2) → n1 ≡ n2 → h1 ≡ h2
number-hash table h1 h2 n1 n2 b1 b2 is one other same
    = (one-life-of table table [] h2 h1 (Described n2 b2) (Described n1 b1) is refl other one same).0

pub joined : (all : List Factory) (f : Factory) (table : Contents) (bytes : List ℕ) (count : ℕ) → Spells bytes f.agreed → IsTable table
    → AllStand all table → IsHeld f.agreed.service_hash f.number f.node bytes count table
    → 1 + times f.number f.node all ≤ count → AllStand (f ∷ all) table
joined all f table bytes count spelled is stand held enough g (inl same)
    = subst (λ x. Stands (f ∷ all) table x) same (stands-of (f ∷ all) table f (record {
      count = count;
      enough = let one = at-most-one (is_of f.number f.node f) in omega (arith, one, enough);
      bytes = bytes;
      spelled = spelled;
      held = held;
    }))
joined all f table bytes count spelled is stand held enough g (inr later)
    = stands-of (f ∷ all) table g (record {
      count = before.count;
      enough = bound (is_of g.number g.node f) refl;
      bytes = before.bytes;
      spelled = before.spelled;
      held = before.held;
    })
  where
    before : Counted all table g
    before = counted-of all table g (stand g later)

    bound : (b : Bool) → is_of g.number g.node f ≡ b → cond b 1 0 + times g.number g.node all ≤ before.count
    bound true own =
        let who = of-is g.number g.node f own in
        let hash = number-hash table f.agreed.service_hash g.agreed.service_hash f.number g.number bytes before.bytes is
        held.published before.held.published who.0 in
        let counts = same-count table f.agreed.service_hash g.agreed.service_hash f.number g.number f.node g.node bytes
        before.bytes count before.count hash who.0 who.1 held before.held in
        let more : 1 + times g.number g.node all ≤ count
        = subst (λ d. 1 + times g.number d all ≤ count) who.1 (subst (λ n. 1 + times n f.node all ≤ count) who.0 enough) in
        omega (arith, counts, more)
    bound false own = let enough' = before.enough in omega (arith, enough')

-- no more are open of a node than its segment counts
pub times-bounded : (all : List Factory) (table : Contents) (hash : ServiceHash) (number node : ℕ) (bytes : List ℕ) (nodes : Nodes)
    → IsTable table → AllStand all table
    → entry_at hash table ≡ Some (Described number bytes) → segment_at hash number table ≡ Some (Open nodes)
    → times number node all ≤ unwrap_or (factories_of nodes node) 0
times-bounded all table hash number node bytes nodes is stand published stands = ⊎_elim none some (some-or-none number node all)
  where
    none : times number node all ≡ 0 → times number node all ≤ unwrap_or (factories_of nodes node) 0
    none zero = omega (arith, zero)

    some : ((g : Factory) × IsAmong g all × (g.number ≡ number) × (g.node ≡ node))
        → times number node all ≤ unwrap_or (factories_of nodes node) 0
    some (g, in_it, number_is, node_is) =
        let c = counted-of all table g (stand g in_it) in
        let hash_is = number-hash table g.agreed.service_hash hash g.number number c.bytes bytes is c.held.published published
        number_is in
        let same = open-nodes c.held.nodes nodes
        (sym c.held.stands ∙ ap (λ h. segment_at h g.number table) hash_is ∙ ap (λ n. segment_at hash n table) number_is ∙ stands) in
        let has : factories_of nodes node ≡ Some c.count
        = sym (ap (λ ns. factories_of ns g.node) same ∙ ap (λ d. factories_of nodes d) node_is) ∙ c.held.has in
        let enough : times number node all ≤ c.count
        = subst (λ d. times number d all ≤ c.count) node_is (subst (λ n. times n g.node all ≤ c.count) number_is c.enough) in
        rw has enough

-- what an opening leaves
record OpenedHeld (hash : ServiceHash) (number node : ℕ) (bytes : List ℕ) (old new : Contents) : Type 0 where
  nodes : Nodes
  stood : segment_at hash number old ≡ Some (Open nodes)
  held : IsHeld hash number node bytes (unwrap_or (factories_of nodes node) 0 + 1) new

opened-held : (hash : ServiceHash) (number node : ℕ) (bytes : List ℕ) (old new : Contents) → IsTable old
    → entry_at hash old ≡ Some (Described number bytes) → Sight old (OpenSegment hash number node opening.Registered) new
    → OpenedHeld hash number node bytes old new
opened-held hash number node bytes old new is published sight
    = at (segment_at hash number old) refl
    (subst (λ b. OpensAt b (segment_at hash number old) hash number node old opening.Registered new) flag sight)
  where
    equal : (n : ℕ) → nat_eq n n ≡ true
    equal n = grind arith

    flag : is_published hash number old ≡ true
    flag = rw published (equal number)

    counts : (nodes after : Nodes) (found : Option ℕ) → factories_of nodes node ≡ found → Enters node nodes opening.Registered after
        → factories_of after node ≡ Some (unwrap_or found 0 + 1)
    counts nodes after (Some count) has h = entered-same node count nodes after has h
    counts nodes after None has h = entered-first node nodes after has h

    opens : (segment after : Segment) → segment_at hash number old ≡ Some segment → Opens node segment opening.Registered after
        → new ≡ with_segment hash number after old → OpenedHeld hash number node bytes old new
    opens (Open nodes) (Open after) stood h is' = record {
      nodes = nodes;
      stood = stood;
      held = rw is' (record {
        nodes = after;
        published = published;
        stands = lookup-set (is_at (place_cmp (hash.digest, number))) old.segments (Open after) (rw stood refl);
        has = counts nodes after (factories_of nodes node) refl h;
        few = opens-few node (Open nodes) (Open after) opening.Registered (few-found hash old is number (Open nodes) stood) h;
      });
    }
    opens (Open nodes) (Emptied by) stood h is' = absurd h
    opens (Emptied by) after stood h is' = absurd (differ h.0)
      where
        differ : opening.Registered ≡ opening.Marked → ⊥
        differ e = cc

    at : (found : Option Segment) → segment_at hash number old ≡ found
        → OpensPublished found hash number node old opening.Registered new → OpenedHeld hash number node bytes old new
    at (Some segment) stood h = opens segment h.0 stood h.1 h.2
    at None stood h = absurd (differ h.0)
      where
        differ : opening.Registered ≡ opening.Absent → ⊥
        differ e = cc

-- after an opening the new factory stands among the others
pub opening-stand : (all : List Factory) (f : Factory) (bytes : List ℕ) (old new : Contents) → Spells bytes f.agreed → IsTable old
    → IsTable new → AllStand all old → entry_at f.agreed.service_hash old ≡ Some (Described f.number bytes)
    → Sight old (OpenSegment f.agreed.service_hash f.number f.node opening.Registered) new → AllStand (f ∷ all) new
opening-stand all f bytes old new spelled is is_new stand published sight =
    let o = opened-held f.agreed.service_hash f.number f.node bytes old new is published sight in
    let bounded = times-bounded all old f.agreed.service_hash f.number f.node bytes o.nodes is stand published o.stood in
    joined all f new bytes (unwrap_or (factories_of o.nodes f.node) 0 + 1) spelled is_new
    (quiet-stand all old new (OpenSegment f.agreed.service_hash f.number f.node opening.Registered) tt stand sight) o.held
    (omega (arith, bounded))

-- an own node has the lock, and the segment with itself in it
pub record IsMaking (hash : ServiceHash) (number node : ℕ) (table : Contents) : Type 0 where
  pub max_nodes : ℕ
  pub locked : entry_at hash table ≡ Some (Locked (Own node) number)
  pub made : segment_at hash number table ≡ Some (Open (first_node node max_nodes))
  pub room : 1 ≤ max_nodes

pub made-making : (hash : ServiceHash) (number node max_nodes : ℕ) (old new : Contents)
    → Sight old (MakeSegment hash number node max_nodes making.Made) new → IsMaking hash number node new
made-making hash number node max_nodes old new sight = at (may_make hash number node max_nodes old) refl sight
  where
    at : (b : Bool) → may_make hash number node max_nodes old ≡ b → Makes b hash number node max_nodes old making.Made new
        → IsMaking hash number node new
    at true may (inl h) = rw h.1 (record {
      max_nodes = max_nodes;
      locked = lock-of number node (entry_at hash old) (not (is_some (segment_at hash number old)) && true) (grind (arith, may));
      made = lookup-added place_cmp (hash.digest, number) (Open (first_node node max_nodes)) old.segments
          (same-place (hash.digest, number));
      room = grind (arith, may);
    })
    at true may (inr h) = absurd (differ h.0)
      where
        differ : making.Made ≡ making.OutOfMemory → ⊥
        differ e = cc
    at false may h = absurd (differ h.0)
      where
        differ : making.Made ≡ making.Fault → ⊥
        differ e = cc

-- and its segment is this one
pub made-seat : (hash : ServiceHash) (number node max_nodes : ℕ) (old new : Contents)
    → Sight old (MakeSegment hash number node max_nodes making.Made) new
    → segment_at hash number new ≡ Some (Open (first_node node max_nodes))
made-seat hash number node max_nodes old new sight = at (may_make hash number node max_nodes old) sight
  where
    at : (b : Bool) → Makes b hash number node max_nodes old making.Made new
        → segment_at hash number new ≡ Some (Open (first_node node max_nodes))
    at true (inl h) = rw h.1 (lookup-added place_cmp (hash.digest, number) (Open (first_node node max_nodes)) old.segments
        (same-place (hash.digest, number)))
    at true (inr h) = absurd (differ h.0)
      where
        differ : making.Made ≡ making.OutOfMemory → ⊥
        differ e = cc
    at false h = absurd (differ h.0)
      where
        differ : making.Made ≡ making.Fault → ⊥
        differ e = cc

published-held : (hash : ServiceHash) (number node : ℕ) (bytes : List ℕ) (old new : Contents) → IsMaking hash number node old
    → Sight old (Publish hash number bytes publishing.Published) new → IsHeld hash number node bytes 1 new
published-held hash number node bytes old new m sight = at (may_publish hash number old) sight
  where
    at : (b : Bool) → Publishes b hash number bytes old publishing.Published new → IsHeld hash number node bytes 1 new
    at true (inl h) = rw h.1 (record {
      nodes = first_node node m.max_nodes;
      published = lookup-set (is_at (digest_cmp hash.digest)) old.entries (Described number bytes) (rw m.locked refl);
      stands = m.made;
      has = lookup-added nat_cmp node 1 [] (is-self nat_cmp nat_cmp_total node);
      few = let room = m.room in omega (arith, room);
    })
    at true (inr h) = absurd (differ h.0)
      where
        differ : publishing.Published ≡ publishing.OutOfMemory → ⊥
        differ e = cc
    at false h = absurd (differ h.0)
      where
        differ : publishing.Published ≡ publishing.Fault → ⊥
        differ e = cc

-- of a life that isn't published no factory is open
none-of-lock : (all : List Factory) (table : Contents) (hash : ServiceHash) (number node by : ℕ) → IsTable table → AllStand all table
    → entry_at hash table ≡ Some (Locked (Own by) number) → times number node all ≡ 0
none-of-lock all table hash number node by is stand locked = ⊎_elim (λ none. none) some (some-or-none number node all)
  where
    some : ((g : Factory) × IsAmong g all × (g.number ≡ number) × (g.node ≡ node)) → times number node all ≡ 0
    some (g, in_it, number_is, node_is) =
        let c = counted-of all table g (stand g in_it) in
        absurd (one-life-of table table [] g.agreed.service_hash hash (Described g.number c.bytes) (Locked (Own by) number) is
        refl c.held.published locked (sym number_is)).1

-- after a publication the new factory stands among the others
pub publishing-stand : (all : List Factory) (f : Factory) (old new : Contents) → IsTable old → IsTable new → AllStand all old
    → IsMaking f.agreed.service_hash f.number f.node old
    → Sight old (Publish f.agreed.service_hash f.number (line Two f.agreed) publishing.Published) new → AllStand (f ∷ all) new
publishing-stand all f old new is is_new stand m sight =
    let none = none-of-lock all old f.agreed.service_hash f.number f.node f.node is stand m.locked in
    joined all f new (line Two f.agreed) 1 (Two, tt, refl) is_new
    (quiet-stand all old new (Publish f.agreed.service_hash f.number (line Two f.agreed) publishing.Published) tt
    stand sight)
    (published-held f.agreed.service_hash f.number f.node (line Two f.agreed) old new m sight) (omega (arith, none))
