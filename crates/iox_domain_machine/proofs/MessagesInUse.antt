-- What is true of the header of each message in use of a publisher, after each step at its connections.
use Rattle.std.proofs.Common.{◌-◌, ◌+◌, ◌==◌, ◌∷◌, [], ◌++◌, ℕ, zero, suc, Bool, true, false, List, get_or, set, length, take, drop}
use Rattle.std.proofs.Common.{nat_lt, remove, if◌then◌else◌, Option, None, Some, Result, Ok, Err, subst, sym, All}
use Rattle.std.proofs.lemmas.List.Elements.{All-append, All-drop, All-nil, All-push, All-take}
use Rattle.std.specs.declared.alloc.AllocError.{AllocError}
use Rattle.iox_domain.specs.Container.declared.container.Member.{Member}
use Rattle.iox_domain.specs.DescribeBase.declared.header.Header.{Header}
use Rattle.iox_domain.specs.DomainPorts.Leaving.{departed, parted_at, parted_from}
use Rattle.iox_domain.specs.DomainPorts.Messages.{Loan, Message}
use Rattle.iox_domain.specs.DomainPorts.Places.{is_attached}
use Rattle.iox_domain.specs.DomainPorts.Ports.{Attaches, Joins, connection_of, connection_to, ended_at, greeted_at, is_live, welcomed_at}
use Rattle.iox_domain.specs.DomainPorts.Ports.{detached_at, unread_at, with_connection_of}
use Rattle.iox_domain.specs.DomainPorts.PublisherUpdating.{Follows, FollowsAll, FollowsTo, Ties, Updates, UpdatesIf, is_tie_to, let_go_of}
use Rattle.iox_domain.specs.DomainPorts.PublisherUpdating.{untied, untied_from, within_reach}
use Rattle.iox_domain.specs.DomainPorts.Publishers.{ended_if_left}
use Rattle.iox_domain.specs.DomainPorts.Reading.{given_back_at, taken_at}
use Rattle.iox_domain.specs.DomainPorts.Ties.{has_tie, tie_put}
use Rattle.iox_domain.specs.DomainPorts.declared.publisher_port.PublisherPort.{PublisherPort}
use Rattle.iox_domain.specs.DomainPorts.declared.subscriber_entry.SubscriberEntry.{SubscriberEntry}
use Rattle.iox_domain.specs.DomainSlots.Uses.{Connection, connected, ended, given_back, nobody, offered, placed, settled, taken, welcomed}
use Rattle.iox_domain.specs.DomainSlots.declared.stage.Stage.{Stage}
use Rattle.iox_domain.specs.DomainSlots.declared.stage.Stage.TheVariants as stage
use Rattle.iox_domain.specs.DomainValues.declared.connection_failure.ConnectionFailure.{ConnectionFailure}
use Rattle.iox_domain.specs.DomainValues.declared.degradation.DegradationAction.{DegradationAction}
use Rattle.iox_domain.specs.DomainValues.declared.degradation.DegradationInfo.{DegradationInfo}
use Rattle.iox_domain.specs.DomainValues.declared.port_owner.PortOwner.{PortOwner}
use Rattle.iox_domain.specs.Reading.{header_of}
use Rattle.iox_domain_machine.specs.SentHeaders.{EachInUse}

-- ---- connections

module _ {X : Type 0} (IsSo : X → Type 0) where
  -- so it is of what waits at a connection, and of what is borrowed
  abbrev pub EachAt : Connection X → Type 0
  EachAt connection = All IsSo connection.waiting × All IsSo connection.borrowed

  nobody_each : EachAt nobody
  nobody_each = (All-nil IsSo, All-nil IsSo)

  -- another connection stands at an index
  set_each : (connections : List (Connection X)) (index : ℕ) (connection : Connection X)
      → ((other : ℕ) → EachAt (get_or connections other nobody)) → EachAt connection → (other : ℕ)
      → EachAt (get_or (set connections index connection) other nobody)
  set_each [] index connection all here other = all other
  set_each (x ∷ xs) zero connection all here zero = here
  set_each (x ∷ xs) zero connection all here (suc other) = all (suc other)
  set_each (x ∷ xs) (suc index) connection all here zero = all zero
  set_each (x ∷ xs) (suc index) connection all here (suc other) = set_each xs index connection (λ one. all (suc one)) here other

  -- or after the others
  behind_each : (connections : List (Connection X)) (connection : Connection X)
      → ((other : ℕ) → EachAt (get_or connections other nobody)) → EachAt connection → (other : ℕ)
      → EachAt (get_or (connections ++ connection ∷ []) other nobody)
  behind_each [] connection all here zero = here
  behind_each [] connection all here (suc other) = nobody_each
  behind_each (x ∷ xs) connection all here zero = all zero
  behind_each (x ∷ xs) connection all here (suc other) = behind_each xs connection (λ one. all (suc one)) here other

  placed_by : (behind : Bool) (connections : List (Connection X)) (index : ℕ) (connection : Connection X)
      → ((other : ℕ) → EachAt (get_or connections other nobody)) → EachAt connection → (other : ℕ)
      → EachAt (get_or (if behind then connections ++ connection ∷ [] else set connections index connection) other nobody)
  placed_by true connections index connection all here = behind_each connections connection all here
  placed_by false connections index connection all here = set_each connections index connection all here

  placed_each : (connections : List (Connection X)) (index limit : ℕ) → ((other : ℕ) → EachAt (get_or connections other nobody))
      → (other : ℕ) → EachAt (get_or (placed index (connected limit) connections) other nobody)
  placed_each connections index limit all =
      placed_by (index == length connections) connections index (connected limit) all (All-nil IsSo, All-nil IsSo)

  -- a message is put after what waits
  put_each : (overflows fits : Bool) (waiting : List X) (message : X) → IsSo message → All IsSo waiting
      → All IsSo (if overflows then (if fits then waiting ++ message ∷ [] else drop 1 (waiting ++ message ∷ [])) else
      (if fits then waiting ++ message ∷ [] else waiting))
  put_each true true waiting message here all = All-push IsSo waiting message all here
  put_each true false waiting message here all = All-drop IsSo 1 (waiting ++ message ∷ []) (All-push IsSo waiting message all here)
  put_each false true waiting message here all = All-push IsSo waiting message all here
  put_each false false waiting message here all = all

  pub offered_each : (overflows : Bool) (message : X) (connection : Connection X) → IsSo message → EachAt connection
      → EachAt (offered overflows message connection)
  offered_each overflows message connection here all =
      (put_each overflows (nat_lt (length connection.waiting) connection.limit) connection.waiting message here all.0, all.1)

  -- it ends, or a message is given back
  settled_each : (now : Stage) (limit : ℕ) (waiting borrowed : List X) → All IsSo waiting → All IsSo borrowed
      → EachAt (settled now limit waiting borrowed)
  settled_each stage.Ended limit waiting [] waits all = nobody_each
  settled_each stage.Ended limit waiting (x ∷ xs) waits all = (waits, all)
  settled_each stage.Live limit waiting borrowed waits all = (waits, all)
  settled_each stage.Vacant limit waiting borrowed waits all = (waits, all)

  ended_each : (connection : Connection X) → EachAt connection → EachAt (ended connection)
  ended_each connection all = settled_each stage.Ended connection.limit [] connection.borrowed (All-nil IsSo) all.1

  back_each : (at : ℕ) (connection : Connection X) → EachAt connection → EachAt (given_back at connection)
  back_each at connection all =
      settled_each connection.stage connection.limit connection.waiting (remove connection.borrowed at) all.0
      (All-append IsSo (take at connection.borrowed) (drop (suc at) connection.borrowed) (All-take IsSo at connection.borrowed all.1)
      (All-drop IsSo (suc at) connection.borrowed all.1))

  -- the oldest that waits is borrowed
  taken_each : (connection : Connection X) → EachAt connection → EachAt (taken connection)
  taken_each connection all = (
    All-drop IsSo 1 connection.waiting all.0,
    All-append IsSo connection.borrowed (take 1 connection.waiting) all.1 (All-take IsSo 1 connection.waiting all.0),
  )

  -- the history comes there
  welcomed_each : (history : List X) (connection : Connection X) → All IsSo history → EachAt connection
      → EachAt (welcomed history connection)
  welcomed_each history connection all at = (All-drop IsSo (length history - connection.limit) history all, at.1)

-- ---- one publisher

module _ {T U : Type 0} (P : Header → Message T U → Type 0) where
  -- it holds of each message in use, by its header
  abbrev pub Passes : PublisherPort T U → Type 0
  Passes port = EachInUse (λ message. P (header_of port message) message) port

  -- another connection stands at an index
  pub with_passes : (index : ℕ) (connection : Connection (Message T U)) (port : PublisherPort T U) → Passes port
      → EachAt (λ message. P (header_of port message) message) connection → Passes (with_connection_of index connection port)
  with_passes index connection port passes here = (
    passes.0,
    passes.1,
    set_each (λ message. P (header_of port message) message) port.sender.uses.connections index connection passes.2 here,
  )

  -- a subscriber takes the oldest that waits, or gives one back
  pub taken_passes : (index : ℕ) (port : PublisherPort T U) → Passes port → Passes (taken_at index port)
  taken_passes index port passes =
      with_passes index (taken (connection_of index port)) port passes
      (taken_each (λ message. P (header_of port message) message) (connection_of index port) (passes.2 index))

  pub back_passes : (index : ℕ) (at : Option ℕ) (port : PublisherPort T U) → Passes port → Passes (given_back_at index at port)
  back_passes index None port passes = passes
  back_passes index (Some at) port passes =
      with_passes index (given_back at (connection_of index port)) port passes
      (back_each (λ message. P (header_of port message) message) at (connection_of index port) (passes.2 index))

  -- The same, and what is known of its loans, its last number and its owner.
  module _ (Q : List (Loan T U) → Option ℕ → PortOwner → ℕ → Type 0) where
    abbrev pub IsSo : PublisherPort T U → Type 0
    IsSo port = Passes port × Q port.sender.uses.loans port.last_sequence port.owner port.number

    so_if : (b : Bool) (one other : PublisherPort T U) → IsSo one → IsSo other → IsSo (if b then one else other)
    so_if true one other is_one is_other = is_one
    so_if false one other is_one is_other = is_other

    -- a connection ends
    so_ended : (index : ℕ) (port : PublisherPort T U) → IsSo port → IsSo (ended_at index port)
    so_ended index port so =
        so_if (is_live index port)
        (record (with_connection_of index (ended (connection_of index port)) port) { readers = set port.readers index None }) port (
          with_passes index (ended (connection_of index port)) port so.0
              (ended_each (λ message. P (header_of port message) message) (connection_of index port) (so.0.2 index)),
          so.1,
        ) so

    pub so_ended_if_left : (index : ℕ) (port : PublisherPort T U) → IsSo port → IsSo (ended_if_left index port)
    so_ended_if_left index port so = so_if port.stands port (ended_at index port) so (so_ended index port so)

    -- nobody reads there any longer, or it ends
    pub so_detached : (index : ℕ) (port : PublisherPort T U) → IsSo port → IsSo (detached_at index port)
    so_detached index port so = so_if (has_tie index port.ties) (unread_at index port) (ended_at index port) so (so_ended index port so)

    -- all at which nobody reads do, where the publisher leaves
    so_parted : (index : ℕ) (port : PublisherPort T U) → IsSo port → IsSo (parted_at index port)
    so_parted index port so = so_if (is_attached (get_or port.readers index None)) port (ended_at index port) so (so_ended index port so)

    so_parted_from : (count index : ℕ) (port : PublisherPort T U) → IsSo port → IsSo (parted_from count index port)
    so_parted_from zero index port so = so
    so_parted_from (suc count) index port so = so_parted_from count (index + 1) (parted_at index port) (so_parted index port so)

    pub so_departed : (port : PublisherPort T U) → IsSo port → IsSo (departed port)
    so_departed port so = so_parted_from (length port.sender.uses.connections) 0 (record port { stands = false }) so

    -- a connection is greeted
    so_greeted : (index : ℕ) (waiting : List (Message T U)) (port : PublisherPort T U) → IsSo port → IsSo (greeted_at index waiting port)
    so_greeted index [] port so = (
      with_passes index (welcomed port.sender.uses.history (connection_of index port)) port so.0
          (welcomed_each (λ message. P (header_of port message) message) port.sender.uses.history (connection_of index port) so.0.1
          (so.0.2 index)),
      so.1,
    )
    so_greeted index (message ∷ waiting) port so = so

    so_welcomed : (index : ℕ) (port : PublisherPort T U) → IsSo port → IsSo (welcomed_at index port)
    so_welcomed index port so =
        so_if (is_live index port) (greeted_at index (connection_of index port).waiting port) port
        (so_greeted index (connection_of index port).waiting port so) so

    -- it is made, or joined
    so_joins : (subscriber limit : ℕ) (found : Option ℕ) (old new : PublisherPort T U) (answer : Result ℕ AllocError)
        → Joins subscriber limit found old answer new → IsSo old → IsSo new
    so_joins subscriber limit (Some index) old new answer joins so = subst IsSo (sym joins.1) so
    so_joins subscriber limit None old new (Err error) joins so = subst IsSo (sym joins) so
    so_joins subscriber limit None old new (Ok index) joins so =
        subst IsSo (sym joins.2) (
          (
            so.0.0,
            so.0.1,
            placed_each (λ message. P (header_of old message) message) old.sender.uses.connections index limit so.0.2,
          ),
          so.1,
        )

    pub so_attaches : (subscriber limit : ℕ) (old new : PublisherPort T U) (answer : Result ℕ AllocError)
        → Attaches subscriber limit old answer new → IsSo old → IsSo new
    so_attaches subscriber limit old new (Err error) attaches so = subst IsSo (sym attaches.1) so
    so_attaches subscriber limit old new (Ok index) attaches so =
        subst IsSo (sym attaches.2) (so_joins subscriber limit (connection_to subscriber old) old attaches.0 (Ok index) attaches.1 so)

    -- a place is untied
    so_let_go : (place : ℕ) (tie : Option ℕ) (port : PublisherPort T U) → IsSo port → IsSo (let_go_of place tie port)
    so_let_go place None port so = so
    so_let_go place (Some index) port so = so_ended index (record port { ties = tie_put place None port.ties }) so

    so_untied : (place : ℕ) (port : PublisherPort T U) → IsSo port → IsSo (untied place port)
    so_untied place port so = so_let_go place (get_or port.ties.items place None) port so

    so_untied_from : (count place : ℕ) (port : PublisherPort T U) → IsSo port → IsSo (untied_from count place port)
    so_untied_from zero place port so = so
    so_untied_from (suc count) place port so = so_untied_from count (place + 1) (untied place port) (so_untied place port so)

    -- or tied, or followed
    so_ties : (place : ℕ) (entry : SubscriberEntry) (old new : PublisherPort T U) (outcome : Result (Unit {0}) AllocError)
        → Ties place entry old outcome new → IsSo old → IsSo new
    so_ties place entry old new (Err error) ties so = subst IsSo (sym ties.1) so
    so_ties place entry old new (Ok done) ties so =
        let (index, joined, joins, is) = ties in
        subst IsSo (sym is)
        (so_welcomed index (record joined { ties = tie_put place (Some index) joined.ties })
        (so_joins entry.subscriber _ (connection_to entry.subscriber old) (within_reach place old) joined (Ok index) joins so))

    so_follows_to : (place : ℕ) (entry : SubscriberEntry) (is_tie : Bool) (old new : PublisherPort T U)
        (outcome : Result (Unit {0}) AllocError) → FollowsTo place entry is_tie old outcome new → IsSo old → IsSo new
    so_follows_to place entry true old new outcome follows so = subst IsSo (sym follows.1) so
    so_follows_to place entry false old new outcome follows so =
        so_ties place entry (untied place old) new outcome follows (so_untied place old so)

    so_follows : (place : ℕ) (listed : Option (Member SubscriberEntry)) (old new : PublisherPort T U)
        (outcome : Result (Unit {0}) AllocError) → Follows place listed old outcome new → IsSo old → IsSo new
    so_follows place None old new outcome follows so = subst IsSo (sym follows.1) (so_untied place old so)
    so_follows place (Some member) old new outcome follows so =
        so_follows_to place member.value (is_tie_to member.value.subscriber (get_or old.ties.items place None) old) old new outcome follows
        so

    so_follows_all : (may : DegradationInfo → DegradationAction → Type 0) (place : ℕ) (listed : List (Option (Member SubscriberEntry)))
        (found : Option ConnectionFailure) (old new : PublisherPort T U) (answer : Result (Unit {0}) ConnectionFailure)
        → FollowsAll may place listed found old answer new → IsSo old → IsSo new
    so_follows_all may place [] found old new answer follows so =
        subst IsSo (sym follows.1) (so_untied_from (length old.ties.items - place) place old so)
    so_follows_all may place (listed ∷ rest) found old new answer follows so =
        let (outcome, next, after, one, asks, further) = follows in
        so_follows_all may (place + 1) rest after next new answer further (so_follows place listed old next outcome one so)

    so_updates_if : (is_seen : Bool) (may : DegradationInfo → DegradationAction → Type 0) (listed : List (Option (Member SubscriberEntry)))
        (changes : ℕ) (old new : PublisherPort T U) (answer : Result (Unit {0}) ConnectionFailure)
        → UpdatesIf is_seen may listed changes old answer new → IsSo old → IsSo new
    so_updates_if true may listed changes old new answer updates so = subst IsSo (sym updates.1) so
    so_updates_if false may listed changes old new answer updates so =
        so_follows_all may 0 listed None (record old { seen = changes }) new answer updates so

    -- so it is after an update
    pub so_updates : (may : DegradationInfo → DegradationAction → Type 0) (listed : List (Option (Member SubscriberEntry))) (changes : ℕ)
        (old new : PublisherPort T U) (answer : Result (Unit {0}) ConnectionFailure)
        → Updates may listed changes old answer new → IsSo old → IsSo new
    so_updates may listed changes old new answer updates so =
        so_updates_if (old.seen == changes) may listed changes old new answer updates so
