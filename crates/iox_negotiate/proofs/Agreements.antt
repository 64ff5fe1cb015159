-- What is opened under a number is just what was agreed under it before.
use Rattle.std.proofs.Common.{◌≡◌, ◌++◌, ℕ, List, [], ◌∷◌, None, Some, Result, Ok, Err, refl, sym, ap, subst, inl}
use Rattle.std.specs.declared.alloc.AllocError.{AllocError}
use Rattle.iox_negotiate_table.specs.DescribeBase.declared.hash.ServiceHash.{ServiceHash}
use Rattle.iox_negotiate_table.specs.DescribeSettings.Agreement.{Agreement}
use Rattle.iox_negotiate_table.specs.Describe.Within.{IsWithinLimits}
use Rattle.iox_negotiate_table.specs.NegotiateBase.Access.{Access, Look, Lock, MakeSegment, Publish, Unlock, OpenSegment, Leave}
use Rattle.iox_negotiate_table.specs.NegotiateBase.Access.{RemoveDescription, RemoveSegment}
use Rattle.iox_negotiate_table.specs.NegotiateBase.Runs.{Went}
use Rattle.iox_negotiate_table.specs.NegotiateBase.declared.request.Opened.{Opened}
use Rattle.iox_negotiate_table.specs.declared.entry.Entry.TheVariants.{Described}
use Rattle.iox_negotiate_table.specs.Contents.{Contents}
use Rattle.iox_negotiate_table.specs.Sights.{Sight}
use Rattle.iox_negotiate_table.specs.Stepped.{Steps, GoesOn, next_list, Preceded, SteppedSight}
use Rattle.iox_negotiate.specs.Histories.{Event, Accesses, Ran, IsReached}
use Rattle.iox_negotiate.specs.Histories as history
use Rattle.iox_negotiate.specs.Calls.{Call, Creates, Opening, Either, Closing, Between, factory_of, Goes}
use Rattle.iox_negotiate.specs.Agreements.{IsPublished, WasAgreed, opened_by, AgreesAsBefore}
use Rattle.iox_negotiate.proofs.Calling.{call-world}
use Rattle.iox_negotiate.proofs.Ending.{World}
use Rattle.iox_negotiate.proofs.Lines.{same-line}
use Rattle.iox_negotiate.proofs.Lives.{one-life-of}
use Rattle.iox_negotiate.proofs.Stepping.{Past, acts-ran}
use Rattle.iox_negotiate.proofs.Tables.{reached}

-- ---- storage operations and actions of other nodes are events

ran-on : (first second : List Event) (old mid new : Contents) → Ran old first mid → Ran mid second new → Ran old (first ++ second) new
ran-on [] second old mid new same later = subst (λ t. Ran t second new) same later
ran-on (event ∷ first) second old mid new (next, happens, ran) later = (next, happens, ran-on first second next mid new ran later)

pub past-on : (old mid new : Contents) → Past old mid → Past mid new → Past old new
past-on old mid new first second = record
    { events = first.events ++ second.events; ran = ran-on first.events second.events old mid new first.ran second.ran }

pub no-past : (old new : Contents) → new ≡ old → Past old new
no-past old new same = record { events = []; ran = same }

access-past : (access : Access) (old new : Contents) → Sight old access new → Past old new
access-past access old new sight = record { events = Accesses access ∷ []; ran = (new, sight, refl) }

preceded-past : (hash : ServiceHash) (access : Access) (lacking : Type 0) (old new : Steps) → Preceded hash access lacking old new
    → Past old.table new.table
preceded-past hash access lacking old new h
    = past-on old.table h.0 new.table (acts-ran hash (next_list old.lists) old.table h.0 h.1 h.2) (goes h.1 h.3)
  where
    goes : (happened : Result (Unit {0}) AllocError) → GoesOn happened (Sight h.0 access new.table) (lacking × (new.table ≡ h.0))
        → Past h.0 new.table
    goes (Ok done) g = access-past access h.0 new.table g
    goes (Err lack) g = no-past h.0 new.table g.1

stepped-past : (access : Access) (old new : Steps) → SteppedSight old access new → Past old.table new.table
stepped-past (Look hash answer) old new h = preceded-past hash (Look hash answer) _ old new h
stepped-past (Lock hash node answer) old new h = preceded-past hash (Lock hash node answer) _ old new h
stepped-past (MakeSegment hash number node max_nodes answer) old new h
    = preceded-past hash (MakeSegment hash number node max_nodes answer) _ old new h
stepped-past (Publish hash number bytes answer) old new h = preceded-past hash (Publish hash number bytes answer) _ old new h
stepped-past (OpenSegment hash number node answer) old new h = preceded-past hash (OpenSegment hash number node answer) _ old new h
stepped-past (Unlock hash number) old new h = access-past (Unlock hash number) old.table new.table h.0
stepped-past (Leave hash number node answer) old new h = access-past (Leave hash number node answer) old.table new.table h.0
stepped-past (RemoveDescription hash number answer) old new h = access-past (RemoveDescription hash number answer) old.table new.table h.0
stepped-past (RemoveSegment hash number answer) old new h = access-past (RemoveSegment hash number answer) old.table new.table h.0

-- a list of storage operations, each with actions of other nodes before it
pub stepped-went-past : (made : List Access) (old new : Steps) → Went SteppedSight old made new → Past old.table new.table
stepped-went-past [] old new went = no-past old.table new.table (ap (λ s. s.table) went)
stepped-went-past (access ∷ made) old new (mid, first, rest)
    = past-on old.table mid.table new.table (stepped-past access old mid first) (stepped-went-past made mid new rest)

-- a list of storage operations without actions of other nodes
pub went-past : (made : List Access) (old new : Contents) → Went Sight old made new → Past old new
went-past [] old new went = no-past old new went
went-past (access ∷ made) old new (mid, first, rest) = past-on old mid new (access-past access old mid first) (went-past made mid new rest)

-- a table that was reached is left as one that is
pub reached-on : (old new : Contents) → IsReached old → Past old new → IsReached new
reached-on old new r past
    = record { id = r.id; events = r.events ++ past.events; ran = ran-on r.events past.events _ old new r.ran past.ran }

-- what was agreed was agreed later, too
pub was-agreed-on : (number : ℕ) (agreed : Agreement) (old new : Contents) → WasAgreed number agreed old → Past old new
    → WasAgreed number agreed new
was-agreed-on number agreed old new was past = record {
  before = was.before;
  events = was.events ++ past.events;
  is_reached = was.is_reached;
  published = was.published;
  within = was.within;
  ran = ran-on was.events past.events was.before old new was.ran past.ran;
}

-- ---- calls

same-service : (one other : Opened) → Some one ≡ Some other → one ≡ other
same-service one other e = cc

none-opened : (service : Opened) → None ≡ Some service → ⊥
none-opened service e = cc

module _ {V : ℕ → Type 0} where
  pub goes-past : (call : Call V) (old new : Contents) → Goes call old new → Past old new
  goes-past (Between hash step) old new (result, acts) = record { events = history.Steps hash step ∷ []; ran = (new, (result, acts), refl) }
  goes-past (Creates node agreed refusal result) old new (lists, end, does, is)
      = subst (λ t. Past old t) (sym is) (stepped-went-past does.made (record { table = old; lists = lists }) end does.went)
  goes-past (Opening kind hash node verdict result) old new (lists, end, does, is)
      = subst (λ t. Past old t) (sym is) (stepped-went-past does.made (record { table = old; lists = lists }) end does.went)
  goes-past (Either kind node verdict agreed refusal result) old new (lists, end, does, is)
      = subst (λ t. Past old t) (sym is) (stepped-went-past does.made (record { table = old; lists = lists }) end does.went)
  goes-past (Closing before factory after result) old new (lists, end, does, is)
      = subst (λ t. Past old t) (sym is) (stepped-went-past does.made (record { table = old; lists = lists }) end does.went)

module _ (old new : Contents) (service : Opened) (is_reached : IsReached old) where
  no-factory : World [] old
  no-factory = record { is = reached old is_reached; stand = λ factory among. absurd among }

  stands-published : (node : ℕ) (made : Opened) → made ≡ service → World (factory_of node made ∷ []) new
      → IsPublished service.number service.description new
  stands-published node made is world
      = let stands = world.stand (factory_of node made) (inl refl) in
      subst (λ s. IsPublished s.number s.description new) is (stands.bytes, stands.spelled, stands.is_open.published)

  module _ (within : IsWithinLimits service.description) (past : Past old new)
      (published : IsPublished service.number service.description new) where
    now-agreed : WasAgreed service.number service.description new
    now-agreed = record {
      before = new;
      events = [];
      is_reached = reached-on old new is_reached past;
      published = published;
      within
          = within;
      ran = refl;
    }

    same-as-before : (agreed : Agreement) → WasAgreed service.number agreed old → agreed ≡ service.description
    same-as-before agreed was =
        let later = was-agreed-on service.number agreed old new was past in
        let one = one-life-of later.before new later.events agreed.service_hash service.description.service_hash
        (Described service.number later.published.0) (Described service.number published.0)
        (reached later.before later.is_reached) later.ran later.published.2 published.2 refl in
        same-line agreed service.description later.published.0 published.0 later.within within later.published.1 published.1 (sym one.1)
        (sym one.0)

module _ {V : ℕ → Type 0} (old new : Contents) (service : Opened) (is_reached : IsReached old) where
  -- after the call its service is published
  published-after : (call : Call V) → Goes call old new → opened_by call ≡ Some service → IsPublished service.number service.description new
  published-after (Creates node agreed refusal (Ok made)) goes is =
      stands-published old new service is_reached node made (same-service made service is)
      (call-world {V = V} (Creates node agreed refusal (Ok made)) [] old new (no-factory old new service is_reached) tt goes)
  published-after (Creates node agreed refusal (Err failure)) goes is = absurd (none-opened service is)
  published-after (Opening kind hash node verdict (Ok made)) goes is =
      stands-published old new service is_reached node made (same-service made service is)
      (call-world {V = V} (Opening kind hash node verdict (Ok made)) [] old new (no-factory old new service is_reached) tt goes)
  published-after (Opening kind hash node verdict (Err failure)) goes is = absurd (none-opened service is)
  published-after (Either kind node verdict agreed refusal (Ok made)) goes is =
      stands-published old new service is_reached node made (same-service made service is)
      (call-world {V = V} (Either kind node verdict agreed refusal (Ok made)) [] old new (no-factory old new service is_reached) tt
      goes)
  published-after (Either kind node verdict agreed refusal (Err failure)) goes is = absurd (none-opened service is)
  published-after (Closing before factory after result) goes is = absurd (none-opened service is)
  published-after (Between hash step) goes is = absurd (none-opened service is)

pub agrees : (V : ℕ → Type 0) → AgreesAsBefore V
agrees V call old new service is_reached goes is within =
    let past = goes-past call old new goes in
    let published = published-after old new service is_reached call goes is in
    (now-agreed old new service is_reached within past published, same-as-before old new service is_reached within past published)
