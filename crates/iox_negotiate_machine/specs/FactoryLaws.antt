-- Theorems: what the open factories of a table are in the phases of the machine.
use Rattle.std.specs.Prelude.{ℕ, ◌-◌, ◌^◌, ◌≡◌, ◌<◌, true, List, length}
use Rattle.std.specs.List.{IsAmong}
use Rattle.iox_command.specs.NegotiateBase.Describe.Line.{Spells}
use Rattle.iox_command.specs.NegotiateBase.DescribeBase.Hash.{service_hash_of}
use Rattle.iox_command.specs.NegotiateBase.DescribeBase.declared.pattern.MessagingPattern.{MessagingPattern}
use Rattle.iox_machine.specs.Agreement.{Agreement}
use Rattle.iox_machine.specs.Phase.{Node, Own, Published, is_in}
use Rattle.iox_machine.specs.State.{State}
use Rattle.iox_negotiate.specs.Counts.{AreCounted}
use Rattle.iox_negotiate.specs.Factories.{Factory}
use Rattle.iox_negotiate_machine.specs.CallLaws.{HasFewFactories}
use Rattle.iox_negotiate_machine.specs.Standing.{TableStands, IsLast, description_of}
use Rattle.iox_negotiate_table.specs.Contents.{Contents}
use Rattle.iox_negotiate_table.specs.Laws.{IsOpenIn}

module _ (T : Type 0) where
  -- A service that is open for a node in a table is published in the machine: the node is registered in it, its number is the one
  -- that was taken last, and its description is that of the agreement.
  abbrev pub OpenIsPublished : Type 0
  OpenIsPublished = (names : List (List ℕ)) (pattern : MessagingPattern) (name : List ℕ) (node number : ℕ) (bytes : List ℕ)
      (taken : MessagingPattern → List ℕ → List ℕ) (table : Contents) (state : State T)
      → IsAmong names name → TableStands names taken table state → IsOpenIn (service_hash_of pattern name) number node bytes table
      → (life : ℕ) × (agreed : Agreement) × (nodes : List (Node × ℕ)) × (state.phases pattern name ≡ Published life agreed nodes)
      × (is_in (Own node) nodes ≡ true) × IsLast (λ last. last ≡ number) (taken pattern name)
      × Spells bytes (description_of pattern name agreed)

  -- If the table counts exactly these open factories, and they are fewer than 2 ^ 64 - 1, each node may get one factory more of any
  -- service.
  abbrev pub FewAreOpen : Type 0
  FewAreOpen = (names : List (List ℕ)) (pattern : MessagingPattern) (name : List ℕ) (node : ℕ) (held : List Factory)
      (taken : MessagingPattern → List ℕ → List ℕ) (table : Contents) (state : State T)
      → IsAmong names name → TableStands names taken table state → AreCounted held table → length held < 2 ^ 64 - 1
      → HasFewFactories node (state.phases pattern name)
