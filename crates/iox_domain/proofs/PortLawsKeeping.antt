-- What a step of a publisher leaves held.
use Rattle.std.proofs.Common.{◌≡◌, ◌==◌, ◌∷◌, [], ◌++◌, ℕ, zero, suc, Bool, true, false, List, get_or, set, length, take, Option, None}
use Rattle.std.proofs.Common.{Some, refl, sym, ap, ◌∙◌, if◌then◌else◌, arith, ◌≤◌}
use Rattle.std.specs.List.{find}
use Rattle.std.specs.Option.{option_or}
use Rattle.std.proofs.lemmas.List.Folds.{find-append}
use Rattle.iox_domain.specs.DomainSlots.Uses.{Connection, nobody, connected, placed, ended, settled, taken}
use Rattle.iox_domain.specs.DomainSlots.declared.stage.Stage.{Stage}
use Rattle.iox_domain.specs.DomainSlots.declared.stage.Stage.TheVariants as stage
use Rattle.iox_domain.specs.DomainPorts.Messages.{Message}
use Rattle.iox_domain.specs.DomainPorts.Ports.{connection_of, goes_on, is_live, ended_at}
use Rattle.iox_domain.specs.DomainPorts.declared.publisher_port.PublisherPort.{PublisherPort}
use Rattle.iox_domain.specs.SizeLaws.{MadeFor, made_for, IsWithin}
use Rattle.iox_domain.specs.DomainPorts.Reading.{borrowed_in}

-- what is held of a connection stays so, and one that there isn't holds nothing if that was so before
pub record Keeps {T U : Type 0} (old new : Connection (Message T U)) : Type 0 where
  pub held : (slot : ℕ) (message : Message T U) → borrowed_in slot old ≡ Some message → borrowed_in slot new ≡ Some message
  pub tidy : (old.stage ≡ stage.Vacant → old ≡ nobody) → new.stage ≡ stage.Vacant → new ≡ nobody

-- so it is at each connection of a publisher, which is made for the same, and keeps within it
pub record PortKeeps {T U : Type 0} (old new : PublisherPort T U) : Type 0 where
  pub each : (index : ℕ) → Keeps (connection_of index old) (connection_of index new)
  pub sizes : made_for new ≡ made_for old
  pub within : ((index : ℕ) → IsWithin (made_for old) (connection_of index old)) → (index : ℕ)
      → IsWithin (made_for new) (connection_of index new)

pub keeps_same : {T U : Type 0} (old new : Connection (Message T U)) → new ≡ old → Keeps old new
keeps_same old new is = record {
  held = λ slot message held. ap (λ connection. borrowed_in slot connection) is ∙ held;
  tidy = λ tidy vacant. is ∙ tidy (ap (λ connection. connection.stage) (sym is) ∙ vacant);
}

pub port_stays : {T U : Type 0} (port : PublisherPort T U) → PortKeeps port port
port_stays port = record
    { each = λ index. keeps_same (connection_of index port) (connection_of index port) refl; sizes = refl; within = λ all. all }

-- a connection that is the same keeps within the same
within_same : {X : Type 0} (sizes sizes_after : MadeFor) (old new : Connection X) → new ≡ old → sizes_after ≡ sizes → IsWithin sizes old
    → IsWithin sizes_after new
within_same sizes sizes_after old new is same within = rw is (rw same within)

-- the connections are the same, and so is what it is made for
pub port_same : {T U : Type 0} (old new : PublisherPort T U) → new.sender.uses.connections ≡ old.sender.uses.connections
    → made_for new ≡ made_for old → PortKeeps old new
port_same old new is sizes = record {
  each = λ index. keeps_same (connection_of index old) (connection_of index new) (ap (λ all. get_or all index nobody) is);
  sizes = sizes;
  within = λ all index. within_same (made_for old) (made_for new) (connection_of index old) (connection_of index new)
      (ap (λ all. get_or all index nobody) is) sizes (all index);
}

pub port_is : {T U : Type 0} (old new : PublisherPort T U) → new ≡ old → PortKeeps old new
port_is old new is = port_same old new (ap (λ port. port.sender.uses.connections) is) (ap (λ port. made_for port) is)

pub port_on : {T U : Type 0} (old between new : PublisherPort T U) → PortKeeps old between → PortKeeps between new → PortKeeps old new
port_on old between new one two = record {
  each = λ index. record {
    held = λ slot message held. (two.each index).held slot message ((one.each index).held slot message held);
    tidy = λ tidy. (two.each index).tidy ((one.each index).tidy tidy);
  };
  sizes = two.sizes ∙ one.sizes;
  within = λ all. two.within (one.within all);
}

-- and then it is this one
pub port_to : {T U : Type 0} (old new other : PublisherPort T U) → other ≡ new → PortKeeps old new → PortKeeps old other
port_to old new other is keeps = port_on old new other keeps (port_is new other is)

set_keeps : {T U : Type 0} (connections : List (Connection (Message T U))) (index : ℕ) (connection : Connection (Message T U))
    → Keeps (get_or connections index nobody) connection → (other : ℕ)
    → Keeps (get_or connections other nobody) (get_or (set connections index connection) other nobody)
set_keeps [] index connection keeps other = keeps_same _ _ refl
set_keeps (x ∷ xs) zero connection keeps zero = keeps
set_keeps (x ∷ xs) zero connection keeps (suc other) = keeps_same _ _ refl
set_keeps (x ∷ xs) (suc index) connection keeps zero = keeps_same _ _ refl
set_keeps (x ∷ xs) (suc index) connection keeps (suc other) = set_keeps xs index connection keeps other

-- one that keeps within takes the place of another
pub set_within : {X : Type 0} (sizes : MadeFor) (connections : List (Connection X)) (index : ℕ) (connection : Connection X)
    → IsWithin sizes connection → ((other : ℕ) → IsWithin sizes (get_or connections other nobody)) → (other : ℕ)
    → IsWithin sizes (get_or (set connections index connection) other nobody)
set_within sizes [] index connection within all other = all other
set_within sizes (x ∷ xs) zero connection within all zero = within
set_within sizes (x ∷ xs) zero connection within all (suc other) = all (suc other)
set_within sizes (x ∷ xs) (suc index) connection within all zero = all zero
set_within sizes (x ∷ xs) (suc index) connection within all (suc other)
    = set_within sizes xs index connection within (λ k. all (suc k)) other

-- nobody's connection is empty
pub nobody_within : (X : Type 0) (sizes : MadeFor) → IsWithin {X = X} sizes nobody
nobody_within X sizes = (omega arith, omega arith, omega arith)

-- one connection changes
pub port_set : {T U : Type 0} (old new : PublisherPort T U) (index : ℕ) (connection : Connection (Message T U))
    → new.sender.uses.connections ≡ set old.sender.uses.connections index connection
    → made_for new ≡ made_for old → (IsWithin (made_for old) (connection_of index old) → IsWithin (made_for old) connection)
    → Keeps (connection_of index old) connection → PortKeeps old new
port_set {T} {U} old new index connection is sizes within keeps =
    let changed : PublisherPort T U
    = record old {
      sender
          = record old.sender { uses = record old.sender.uses { connections = set old.sender.uses.connections index connection } };
    } in
    port_on old changed new
    (record {
      each = set_keeps old.sender.uses.connections index connection keeps;
      sizes = refl;
      within
          = λ all. set_within (made_for old) old.sender.uses.connections index connection (within (all index)) all;
    }) (port_same changed new is sizes)

-- one that ends keeps what is borrowed
ended_by : {T U : Type 0} (connection : Connection (Message T U)) (borrowed : List (Message T U)) → connection.borrowed ≡ borrowed
    → Keeps connection (settled stage.Ended connection.limit [] borrowed)
ended_by connection [] is = record {
  held = λ slot message held. let no : None ≡ Some message = ap (λ all. find (λ one. one.slot == slot) all) (sym is) ∙ held in cc;
  tidy = λ tidy vacant. refl;
}
ended_by connection (x ∷ xs) is = record {
  held = λ slot message held. ap (λ all. find (λ one. one.slot == slot) all) (sym is) ∙ held;
  tidy = λ tidy vacant. let no : stage.Ended ≡ stage.Vacant = vacant in cc;
}

pub keeps_ended : {T U : Type 0} (connection : Connection (Message T U)) → Keeps connection (ended connection)
keeps_ended connection = ended_by connection connection.borrowed refl

-- the oldest that waits is borrowed besides
still_found : {X : Type 0} (found other : Option X) (x : X) → found ≡ Some x → option_or found other ≡ Some x
still_found None other x is = cc
still_found (Some y) other x is = is

pub keeps_taken : {T U : Type 0} (connection : Connection (Message T U)) → Keeps connection (taken connection)
keeps_taken connection = record {
  held = λ slot message held. find-append (λ one. one.slot == slot) connection.borrowed (take 1 connection.waiting)
      ∙ still_found (find (λ one. one.slot == slot) connection.borrowed) (find (λ one. one.slot == slot) (take 1 connection.waiting))
      message held;
  tidy = λ tidy vacant. ap (λ one. taken one) (tidy vacant);
}

-- a connection that goes on isn't vacant
not_vacant : (now : Stage) → goes_on now ≡ true → now ≡ stage.Vacant → ⊥
not_vacant stage.Vacant live vacant = cc
not_vacant stage.Live live vacant = cc
not_vacant stage.Ended live vacant = cc

-- only what waits changes, where it goes on
pub keeps_waiting : {T U : Type 0} (connection : Connection (Message T U)) (waiting : List (Message T U))
    → goes_on connection.stage ≡ true → Keeps connection (record connection { waiting = waiting })
keeps_waiting connection waiting live = record {
  held = λ slot message held. held;
  tidy = λ tidy vacant. absurd (not_vacant connection.stage live vacant);
}

-- a new one comes where there was none
keeps_new : {T U : Type 0} (old : Connection (Message T U)) (limit : ℕ) → old ≡ nobody → Keeps old (connected limit)
keeps_new old limit none = record {
  held = λ slot message held. let no : None ≡ Some message = ap (λ connection. borrowed_in slot connection) (sym none) ∙ held in cc;
  tidy = λ tidy vacant. let no : stage.Live ≡ stage.Vacant = vacant in cc;
}

append_keeps : {T U : Type 0} (connections : List (Connection (Message T U))) (limit other : ℕ)
    → Keeps (get_or connections other nobody) (get_or (connections ++ connected limit ∷ []) other nobody)
append_keeps [] limit zero = keeps_new nobody limit refl
append_keeps [] limit (suc other) = keeps_same _ _ refl
append_keeps (x ∷ xs) limit zero = keeps_same _ _ refl
append_keeps (x ∷ xs) limit (suc other) = append_keeps xs limit other

placed_by : {T U : Type 0} (behind : Bool) (connections : List (Connection (Message T U))) (index limit other : ℕ)
    → get_or connections index nobody ≡ nobody
    → Keeps (get_or connections other nobody)
    (get_or (if behind then connections ++ connected limit ∷ [] else set connections index (connected limit)) other nobody)
placed_by true connections index limit other none = append_keeps connections limit other
placed_by false connections index limit other none
    = set_keeps connections index (connected limit) (keeps_new (get_or connections index nobody) limit none) other

append_within : {X : Type 0} (sizes : MadeFor) (limit : ℕ) (connections : List (Connection X)) → limit ≤ sizes.most_waiting
    → ((other : ℕ) → IsWithin sizes (get_or connections other nobody)) → (other : ℕ)
    → IsWithin sizes (get_or (connections ++ connected limit ∷ []) other nobody)
append_within sizes limit [] fits all zero = (omega arith, fits, omega arith)
append_within sizes limit [] fits all (suc other) = all (suc other)
append_within sizes limit (x ∷ xs) fits all zero = all zero
append_within sizes limit (x ∷ xs) fits all (suc other) = append_within sizes limit xs fits (λ k. all (suc k)) other

placed_within : {X : Type 0} (behind : Bool) (sizes : MadeFor) (limit index : ℕ) (connections : List (Connection X))
    → limit ≤ sizes.most_waiting → ((other : ℕ) → IsWithin sizes (get_or connections other nobody)) → (other : ℕ)
    → IsWithin sizes (get_or (if behind then connections ++ connected limit ∷ [] else set connections index (connected limit)) other nobody)
placed_within true sizes limit index connections fits all other = append_within sizes limit connections fits all other
placed_within false sizes limit index connections fits all other
    = set_within sizes connections index (connected limit) (omega arith, fits, omega arith) all other

pub port_placed : {T U : Type 0} (old new : PublisherPort T U) (index limit : ℕ) → limit ≤ old.sender.uses.most_waiting
    → connection_of index old ≡ nobody → new.sender.uses.connections ≡ placed index (connected limit) old.sender.uses.connections
    → made_for new ≡ made_for old → PortKeeps old new
port_placed {T} {U} old new index limit fits none is sizes =
    let changed : PublisherPort T U
    = record old {
      sender
          = record old.sender {
            uses
                = record old.sender.uses { connections = placed index (connected limit) old.sender.uses.connections };
          };
    } in
    port_on old changed new
    (record {
      each = λ other. placed_by (index == length old.sender.uses.connections) old.sender.uses.connections index limit other none;
      sizes = refl;
      within = placed_within (index == length old.sender.uses.connections) (made_for old) limit index old.sender.uses.connections fits;
    }) (port_same changed new is sizes)

ended_within_by : {X : Type 0} (sizes : MadeFor) (limit : ℕ) (borrowed : List X) → limit ≤ sizes.most_waiting
    → length borrowed ≤ sizes.most_borrowed → IsWithin sizes (settled stage.Ended limit [] borrowed)
ended_within_by {X} sizes limit [] fits few = nobody_within X sizes
ended_within_by sizes limit (x ∷ xs) fits few = (omega arith, fits, few)

ended_within : {X : Type 0} (sizes : MadeFor) (connection : Connection X) → IsWithin sizes connection → IsWithin sizes (ended connection)
ended_within sizes connection within = ended_within_by sizes connection.limit connection.borrowed within.1 within.2

either_keeps : {T U : Type 0} (live : Bool) (old one other : PublisherPort T U) → PortKeeps old one → PortKeeps old other
    → PortKeeps old (if live then one else other)
either_keeps true old one other keeps_one keeps_other = keeps_one
either_keeps false old one other keeps_one keeps_other = keeps_other

pub port_if : {T U : Type 0} (live : Bool) (old one other : PublisherPort T U) → (live ≡ true → PortKeeps old one)
    → (live ≡ false → PortKeeps old other) → PortKeeps old (if live then one else other)
port_if true old one other keeps_one keeps_other = keeps_one refl
port_if false old one other keeps_one keeps_other = keeps_other refl

pub port_ended : {T U : Type 0} (index : ℕ) (port : PublisherPort T U) → PortKeeps port (ended_at index port)
port_ended index port =
    either_keeps (is_live index port) port _ port
    (port_set port _ index (ended (connection_of index port)) refl refl (ended_within (made_for port) (connection_of index port))
    (keeps_ended (connection_of index port))) (port_stays port)
