-- What waits at a connection while messages come back to it.
use Rattle.std.proofs.Common.{arith, ◌≡◌, ◌<◌, ◌≤◌, ◌∷◌, [], ℕ, zero, suc, rules, Bool, List, length, get_or, set, refl, sym, subst, ap}
use Rattle.std.proofs.Common.{inl, inr, ◌∙◌}
use Rattle.std.proofs.lemmas.Bool.{cases_lt}
use Rattle.std.proofs.lemmas.List.{get_or-set_same, set-get_or}
use Rattle.iox_domain_ports.specs.DomainSlots.declared.stage.Stage.TheVariants as stage
use Rattle.iox_domain_ports.specs.DomainSlots.Uses.{Connection, nobody, connection_at, with_connection, offered}
use Rattle.iox_domain_ports.specs.Messages.{Message}
use Rattle.iox_domain_ports.specs.MessagesSending.{SenderState, with_uses}
use Rattle.iox_lanes_opening.specs.Restoring.{OnlyWaits}

set_twice : {X : Type 0} (xs : List X) (index : ℕ) (a b : X) → set (set xs index a) index b ≡ set xs index b
set_twice [] index a b = refl
set_twice (x ∷ xs) zero a b = refl
set_twice (x ∷ xs) (suc index) a b = ap (λ ys. x ∷ ys) (set_twice xs index a b)

-- the publisher with other connections
abbrev with_connections : {T U : Type 0} → SenderState T U → List (Connection (Message T U)) → SenderState T U
with_connections sender connections = with_uses (record sender.uses { connections = connections }) sender

-- a connection with other messages waiting
abbrev pub with_waiting : {X : Type 0} → Connection X → List X → Connection X
with_waiting connection waiting = record connection { waiting = waiting }

-- nothing has changed
pub waits_same : {T U : Type 0} (index : ℕ) (sender : SenderState T U) → OnlyWaits index sender sender
waits_same index sender = ap (with_connections sender) (sym (set-get_or sender.uses.connections index nobody))

-- a message was put into the mailbox
pub waits_put : {T U : Type 0} (index : ℕ) (overflows : Bool) (message : Message T U) (old new : SenderState T U)
    → (connection_at index old.uses).stage ≡ stage.Live
    → new ≡ with_uses (with_connection index (offered overflows message (connection_at index old.uses)) old.uses) old
    → OnlyWaits index old new
waits_put index overflows message old new live is =
    let there : connection_at index new.uses ≡ offered overflows message (connection_at index old.uses) =
    ap (λ s. connection_at index s.uses) is ∙ get_or-set_same old.uses.connections index
    (offered overflows message (connection_at index old.uses)) nobody (within_is old.uses.connections index live) in
    is ∙ ap (λ c. with_connections old (set old.uses.connections index (with_waiting (connection_at index old.uses) c.waiting))) (sym there)
  where
    within_is : {X : Type 0} (connections : List (Connection X)) (i : ℕ) → (get_or connections i nobody).stage ≡ stage.Live
        → i < length connections
    within_is [] i on = search (rules, on)
    within_is (x ∷ xs) zero on = omega arith
    within_is (x ∷ xs) (suc i) on = omega (arith, within_is xs i on)

-- one change after the other
pub waits_on : {T U : Type 0} (index : ℕ) (old mid new : SenderState T U) → OnlyWaits index old mid → OnlyWaits index mid new
    → OnlyWaits index old new
waits_on index old mid new first second = elim (cases_lt index (length old.uses.connections)) [
  | inl below ↦
      let there : connection_at index mid.uses ≡ with_waiting (connection_at index old.uses) (connection_at index mid.uses).waiting =
      ap (λ s. connection_at index s.uses) first ∙ get_or-set_same old.uses.connections index
      (with_waiting (connection_at index old.uses) (connection_at index mid.uses).waiting) nobody below in
      second
      ∙ ap (λ c. with_connections mid (set mid.uses.connections index (with_waiting c (connection_at index new.uses).waiting))) there
      ∙ ap (λ s. with_connections s (set s.uses.connections index
      (with_waiting (connection_at index old.uses) (connection_at index new.uses).waiting))) first
      ∙ ap (with_connections old) (set_twice old.uses.connections index
      (with_waiting (connection_at index old.uses) (connection_at index mid.uses).waiting)
      (with_waiting (connection_at index old.uses) (connection_at index new.uses).waiting))
  | inr beyond ↦
      let still : mid ≡ old = first ∙ ap (with_connections old)
      (past old.uses.connections index (with_waiting (connection_at index old.uses) (connection_at index mid.uses).waiting) beyond) in
      subst (λ s. OnlyWaits index s new) still second
]
  where
    past : {X : Type 0} (xs : List X) (i : ℕ) (x : X) → length xs ≤ i → set xs i x ≡ xs
    past [] i x beyond = refl
    past (y ∷ ys) zero x beyond = absurd (omega (arith, beyond))
    past (y ∷ ys) (suc i) x beyond = ap (λ zs. y ∷ zs) (past ys i x (omega (arith, beyond)))
