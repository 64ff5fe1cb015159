-- A theorem: closing a factory over a table does what the machine does in the service's phase.
use Rattle.std.specs.Prelude.{ℕ, ◌≡◌, true, List, Result, Ok}
use Rattle.std.specs.List.{IsAmong}
use Rattle.iox_command.specs.NegotiateBase.DescribeBase.Hash.{service_hash_of}
use Rattle.iox_command.specs.NegotiateBase.DescribeBase.declared.pattern.MessagingPattern.{MessagingPattern}
use Rattle.iox_command.specs.NegotiateBase.declared.errors.close.CloseError.{CloseError}
use Rattle.iox_machine.specs.Agreement.{Agreement}
use Rattle.iox_machine.specs.Phase.{Node, Own, Published, is_in, left_by, removed_by}
use Rattle.iox_machine.specs.State.{State, with_phase}
use Rattle.iox_negotiate.specs.Factory.{Closes}
use Rattle.iox_negotiate_machine.specs.Laws.{HaveOwnHashes}
use Rattle.iox_negotiate_machine.specs.Standing.{TableStands, IsLast}
use Rattle.iox_negotiate_table.specs.Contents.{Contents}
use Rattle.iox_negotiate_table.specs.NegotiateBase.Runs.{Does}
use Rattle.iox_negotiate_table.specs.Sights.{Sight}

module _ (T : Type 0) where
  -- A factory of a node that is registered in a published service is closed over a table. The close succeeds, and the phase is what
  -- the machine says: the last factory of the last node removes description and segment; otherwise the node has one factory fewer,
  -- and is no longer registered after its last one.
  abbrev pub CloseMatches : Type 0
  CloseMatches = (names : List (List ℕ)) (pattern : MessagingPattern) (name : List ℕ) (node number life : ℕ) (agreed : Agreement)
      (nodes : List (Node × ℕ)) (taken : MessagingPattern → List ℕ → List ℕ) (old new : Contents) (result : Result (Unit {0}) CloseError)
      (state : State T)
      → HaveOwnHashes names → IsAmong names name → TableStands names taken old state
      → state.phases pattern name ≡ Published life agreed nodes → is_in (Own node) nodes ≡ true
      → IsLast (λ last. last ≡ number) (taken pattern name)
      → Does Sight old (λ made. Closes (service_hash_of pattern name) number node made result) new
      → (result ≡ Ok tt) × TableStands names taken new
      (with_phase pattern name (removed_by (Own node) (left_by (Own node) (state.phases pattern name))) state)
